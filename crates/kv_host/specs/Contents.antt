-- What a host that tells its bytes contains: its files by name, and what was printed so far.
use Rattle.std.specs.Prelude.{ℕ, ◌+◌, ◌^◌, List, ◌++◌, Option, Some, None, refl, if◌then◌else◌, nat_lt, ◌-◌}
use Rattle.std.specs.Ordering.{nat_cmp}
use Rattle.std.specs.Cmp.Lexicographic.{slice_cmp}
use Rattle.std.specs.FinMap.{FinMap, insert, get, code}
use Rattle.std.specs.Coded.{Coded, code_by, coded×, coded_ℕ, coded_list}

-- from the bytes of a name to the bytes of the file
abbrev pub Files : Type 0
Files = FinMap (slice_cmp nat_cmp) (List ℕ)

pub record HostContents : Type 0 where
  pub files : Files
  pub printed : List ℕ

-- the file of this name, where there is one
abbrev pub file_at : List ℕ → HostContents → Option (List ℕ)
file_at name c = get c.files name

-- a file was replaced, or made
abbrev pub with_file : List ℕ → List ℕ → HostContents → HostContents
with_file name bytes c = record { files = insert c.files name bytes; printed = c.printed }

-- bytes were printed behind those before
abbrev pub with_printed : List ℕ → HostContents → HostContents
with_printed bytes c = record { files = c.files; printed = c.printed ++ bytes }

-- one more, in a counter of 64 bits that stands still at its end
abbrev pub counted_up : ℕ → ℕ
counted_up n = if nat_lt n (2 ^ 64 - 1) then n + 1 else n

-- the contents, stored as the pair of its fields
abbrev pub contents_code : Coded HostContents
contents_code = code_by (Files × List ℕ) (coded× (code (coded_list coded_ℕ) (coded_list coded_ℕ)) (coded_list coded_ℕ)) (λ c. (c.files, c.printed)) (λ p. record { files = p.0; printed = p.1 }) (λ _. refl)
