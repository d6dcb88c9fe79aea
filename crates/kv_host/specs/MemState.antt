-- What is known of a host in memory.
use Rattle.std.specs.Prelude.{◌≡◌, ◌+◌, ℕ, ◌-◌, ◌<◌, ◌≤◌, ◌⊎◌, ◌==◌, Bool, List, [], length, IsTrue, refl}
use Rattle.std.specs.List.{list_any}
use Rattle.std.specs.FinMap.{empty, contains_key, len}
use Rattle.std.specs.Coded.{Coded, code_by, coded×, coded_ℕ, coded_list}
use Rattle.kv_host.specs.Contents.{Files, counted_up, HostContents, contents_code, with_file, with_printed}

pub record MemState : Type 0 where
  pub contents : HostContents
  -- how many bytes may still be stored or printed
  pub left : ℕ
  pub faults : ℕ
  -- how many calls were made, and the numbers of those that are to fail
  pub calls : ℕ
  pub failing : List ℕ

-- the next call is one that is to fail
abbrev pub fails_next : MemState → Bool
fails_next s = list_any (λ n. n == counted_up s.calls) s.failing

-- a table of files has a place for this name
abbrev pub HasPlace : Files → List ℕ → Type 0
HasPlace files name = IsTrue (contains_key files name) ⊎ (len files < 8)

-- the file can be stored: its name is short enough, and there is room and a place
pub record CanStore (s : MemState) (name bytes : List ℕ) : Type 0 where
  pub room : length bytes ≤ s.left
  pub short : length name ≤ 64
  pub place : HasPlace s.contents.files name

-- no call is to fail, and there are places and room for so many more names and bytes
pub record IsCalm (s : MemState) (names bytes : ℕ) : Type 0 where
  pub unlisted : s.failing ≡ []
  pub places : len s.contents.files + names ≤ 8
  pub room : bytes ≤ s.left

-- a call was made
abbrev pub called : MemState → MemState
called s = record s { calls = counted_up s.calls }

-- a fault came
abbrev pub faulted : MemState → MemState
faulted s = record s { faults = counted_up s.faults }

-- a file was stored
abbrev pub stored : MemState → List ℕ → List ℕ → MemState
stored s name bytes = record s { contents = with_file name bytes s.contents; left = s.left - length bytes }

-- bytes were printed
abbrev pub shown : MemState → List ℕ → MemState
shown s bytes = record s { contents = with_printed bytes s.contents; left = s.left - length bytes }

-- of a new host
abbrev pub new_state : List ℕ → ℕ → MemState
new_state failing room = record { contents = record { files = empty; printed = [] }; left = room; faults = 0; calls = 0; failing = failing }

-- the state, stored as nested pairs of its fields
abbrev pub state_code : Coded MemState
state_code =
    code_by (HostContents × (ℕ × (ℕ × (ℕ × List ℕ)))) (coded× contents_code (coded× coded_ℕ (coded× coded_ℕ (coded× coded_ℕ (coded_list coded_ℕ)))))
    (λ s. (s.contents, (s.left, (s.faults, (s.calls, s.failing)))))
    (λ p. record { contents = p.0; left = p.1.0; faults = p.1.1.0; calls = p.1.1.1.0; failing = p.1.1.1.1 }) (λ _. refl)
