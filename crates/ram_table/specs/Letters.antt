-- The readers of the tests: one tells the letters a, b and c, each at the offset of its code, and one fails.
use Rattle.std.specs.Prelude.{ℕ, [], ◌∷◌, true, false, Some, None}
use Rattle.std.specs.FinMap.{empty, insert}
use Rattle.ram_table.specs.Reader.{KeyMap, ReaderState}

abbrev pub letters : KeyMap
letters = insert (insert (insert empty 97 (97 ∷ [])) 98 (98 ∷ [])) 99 (99 ∷ [])

abbrev pub letters_state : ℕ → ReaderState
letters_state hash_bits = record {
  bound = 99;
  hash_bits = hash_bits;
  read_faults = 0;
  refusals = 0;
  steady = true;
  sound = true;
  keys = Some letters;
}

-- keys have no hash bits
abbrev pub failing_state : ℕ → ReaderState
failing_state faults = record {
  bound = 99;
  hash_bits = 0;
  read_faults = faults;
  refusals = faults;
  steady = false;
  sound = false;
  keys = None;
}
