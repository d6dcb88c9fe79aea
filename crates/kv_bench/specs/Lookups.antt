-- What looking keys up in a table of them finds.
use Rattle.std.specs.Prelude.{◌≡◌, ℕ, zero, suc, ◌+◌, ◌%◌, List, [], ◌∷◌, length, get_or, true, Some}
use Rattle.std.specs.FinMap.{empty, insert}
use Rattle.ram_table.specs.declared.table.Entry.{Entry}
use Rattle.ram_table.specs.Reader.{KeyMap, ReaderState}
use Rattle.ram_table.specs.Find.{IsIndexOf, IsPlaceOf}

-- each key at its number
abbrev pub told_from : ℕ → List (List ℕ) → KeyMap
told_from n [] = empty
told_from n (key ∷ keys) = insert (told_from (suc n) keys) n key

abbrev pub told : List (List ℕ) → KeyMap
told keys = told_from 0 keys

abbrev pub told_state : List (List ℕ) → ReaderState
told_state keys = record {
  bound = length keys;
  hash_bits = 32;
  read_faults = 0;
  refusals = 0;
  steady = true;
  sound = true;
  keys = Some (told keys);
}

-- So many keys were looked up, from the first on and round again: each was found, and the total is that of their places.
unfoldable pub HasLooked : List (List ℕ) → List Entry → ℕ → ℕ → Type 0
HasLooked keys entries zero total = total ≡ 0
HasLooked keys entries (suc n) total =
    (at : ℕ) × (before : ℕ) × IsPlaceOf 32 (told keys) entries (get_or keys (n % length keys) []) (record { at = at; found = true })
    × HasLooked keys entries n before × (total ≡ before + at)

-- the same in an index of all keys
pub record HasLookedUp (keys : List (List ℕ)) (finds total : ℕ) : Type 0 where
  pub entries : List Entry
  pub index : IsIndexOf 32 (told keys) entries
  pub whole : length entries ≡ length keys
  pub looked : HasLooked keys entries finds total
