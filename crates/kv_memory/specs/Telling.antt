-- What contracts see of a store in memory that tells its state: it has no device, so no call fails and no power is cut.
use Rattle.std.specs.Prelude.{◌≡◌, ◌≤◌, ◌+◌, ℕ, true, false, [], length, Result, Ok, Err, Option, Some, None, MatchOption, Contains}
use Rattle.std.proofs.Common.{subst}
use Rattle.std.specs.FinMap.{empty}
use Rattle.base_core.specs.Sizes.{record_size}
use Rattle.kv_model.specs.declared.error.KvError.{KvError}
use Rattle.kv_model.specs.Constants.{Constants}
use Rattle.kv_model.specs.FlaggedMap.{FlaggedMap}
use Rattle.kv_model.specs.Kv.{IsLawful, KvState}
use Rattle.kv_model.specs.PlainStep.{plain_rules}
use Rattle.kv_model.specs.Rules.{cuts}
use Rattle.kv_model.specs.Sizes.{used}
use Rattle.kv_model.specs.StoreState.{Doubt, Iterators, Maps, OpenSet, StoreState, maps_of}
use Rattle.kv_memory.specs.EntriesState.{EntriesState}
use Rattle.kv_memory.specs.Silent.{stopped_clock}

abbrev pub telling : Constants → StoreState → KvState
telling constants state = record {
  known = record {
    constants = constants;
    state = Some state;
    log = None;
    read_faults = 0;
    write_faults = 0;
    steady = true;
    sound = true;
    labels = [];
  };
  crash = record { tells_moments = false; primary = stopped_clock; rollback = stopped_clock; stands = λ maps. maps ≡ maps_of state };
}

abbrev pub plain_constants : ℕ → ℕ → ℕ → Constants
plain_constants hash_bits prog room = record { hash_bits = hash_bits; prog = prog; room = room; secure = None }

-- the state of a store that runs, with nothing in the other map
abbrev pub running : FlaggedMap → Option OpenSet → Iterators → StoreState
running map set iterators =
    record { primary = map; rollback = empty; open_set = set; iterators = iterators; next_vector = 1; doubt = None }

-- The active set has room beside the map, and a place among the entries.
pub record IsReady (prog room : ℕ) (entries : EntriesState) (set : OpenSet) : Type 0 where
  pub reserved : set.is_remove ≡ false → used prog entries.map + record_size prog (length set.key) set.size ≤ room
  pub spare : set.is_remove ≡ false → 1 ≤ entries.spare

-- why a call was refused
abbrev pub refusal_of : {T : Type 0} → Result T KvError → Option KvError
refusal_of (Ok x) = None
refusal_of (Err e) = Some e

same_told : {X : Type 0} (x y : X) → Some x ≡ Some y → x ≡ y
same_told x y is = cc

pub telling_is_lawful : (constants : Constants) (map : FlaggedMap) (set : Option OpenSet) (iterators : Iterators)
    → IsLawful plain_rules (telling constants (running map set iterators))
telling_is_lawful constants map set iterators = record {
  sound_is_steady = λ is. is;
  stands = λ before told.
      subst (λ (s : StoreState). (maps : Maps) → maps ≡ maps_of (running map set iterators)
      → MatchOption s.doubt (maps ≡ maps_of s) (λ (d : Doubt). Contains (cuts (plain_rules constants) s d.who d.operation) maps))
      (same_told (running map set iterators) before told) (λ maps is. is);
}
