-- What a contract sees of a value behind the turn.
use Rattle.std.specs.Prelude.{ℕ, List, [], Option, None, false}
use Rattle.kv_model.specs.declared.call.Entry.{Entry}
use Rattle.kv_model.specs.Opening.{Opening}

-- what it would be handed in as now, its history, and the number of the first caller that quit
pub record Book : Type 0 where
  pub opening : Opening
  pub entries : List Entry
  pub quitter : Option ℕ

-- of a view that knows nothing
abbrev pub no_opening : Opening
no_opening = record {
  constants = record { hash_bits = 0; prog = 0; room = 0; secure = None };
  state = None;
  log = None;
  read_faults = 0;
  write_faults = 0;
  steady = false;
  sound = false;
  labels = [];
}

abbrev pub unopened : List Entry → Option ℕ → Book
unopened entries quitter = record { opening = no_opening; entries = entries; quitter = quitter }

abbrev pub no_book : Book
no_book = unopened [] None
