-- A table of files whose names and bytes lie in one list of bytes, the arena.
use Rattle.std.specs.Prelude.{◌≡◌, ℕ, ◌≤◌, List, length, map, slice_range, [], Vec, vec_len, vec_capacity}
use Rattle.std.specs.List.{All}
use Rattle.std.specs.FinMap.{from_entries, len}
use Rattle.kv_host.specs.Contents.{Files}
use Rattle.kv_host.specs.declared.table.Span.{Span}
use Rattle.kv_host.specs.declared.table.Entry.{Entry}

-- the bytes of the arena that a span stands for
abbrev pub part : List ℕ → Span → List ℕ
part arena span = slice_range arena span.start span.end

abbrev pub name_in : List ℕ → Entry → List ℕ
name_in arena e = part arena e.name

abbrev pub bytes_in : List ℕ → Entry → List ℕ
bytes_in arena e = part arena e.bytes

-- the files of a table, each under its name
abbrev pub files_of : List ℕ → List Entry → Files
files_of arena entries = from_entries (map (λ e. (name_in arena e, bytes_in arena e)) entries)

abbrev pub IsSpan : ℕ → Span → Type 0
IsSpan size span = (span.start ≤ span.end) × (span.end ≤ size)

-- each span lies in the arena, no two entries have one name, and there are at most 8
pub record IsTable (arena : List ℕ) (entries : List Entry) : Type 0 where
  pub inside : All (λ e. IsSpan (length arena) e.name × IsSpan (length arena) e.bytes) entries
  pub distinct : len (files_of arena entries) ≡ length entries
  pub few : length entries ≤ 8

-- an empty buffer with room for n items
pub record IsReserved {X A : Type 0} (v : Vec X A) (n : ℕ) : Type 0 where
  pub items : v.items ≡ []
  pub len : vec_len v ≡ 0
  pub capacity : vec_capacity v ≡ n
