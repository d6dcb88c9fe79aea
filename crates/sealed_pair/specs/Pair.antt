-- What contracts see of two stores as one: of a primary store and of a rollback store.
use Rattle.std.specs.Prelude.{ℕ, ◌+◌, ◌&&◌, List, ◌++◌, Option, Some, None}
use Rattle.kv_model.specs.Constants.{Constants}
use Rattle.kv_model.specs.FlaggedMap.{FlaggedMap}
use Rattle.kv_model.specs.StoreState.{Maps, StoreState}
use Rattle.kv_model.specs.Opening.{Opening}
use Rattle.kv_model.specs.Kv.{Crash, KvState}

-- the state of the two as one, by the states that they tell
abbrev pub Joining : Type 0
Joining = StoreState → StoreState → StoreState

-- told where both tell theirs
abbrev pub both : Joining → Option StoreState → Option StoreState → Option StoreState
both joining (Some primary) (Some rollback) = Some (joining primary rollback)
both joining (Some primary) None = None
both joining None rollback = None

abbrev pub pair_constants : List ℕ → Constants → Constants → Constants
pair_constants root primary rollback = record {
  hash_bits = primary.hash_bits;
  prog = primary.prog;
  room = primary.room;
  secure = Some (record { root = root; prog = rollback.prog; room = rollback.room });
}

module _ (root : List ℕ) (joining : Joining) (primary rollback : KvState) where
  abbrev pub pair_known : Opening
  pair_known = record {
    constants = pair_constants root primary.known.constants rollback.known.constants;
    state = both joining primary.known.state rollback.known.state;
    log = None;
    read_faults = primary.known.read_faults + rollback.known.read_faults;
    write_faults = primary.known.write_faults + rollback.known.write_faults;
    steady = primary.known.steady && rollback.known.steady;
    sound = primary.known.sound && rollback.known.sound;
    labels = primary.known.labels ++ rollback.known.labels;
  }

  -- each store mounts by itself, with whatever stands in the map that a plain store doesn't use
  pub record PairStands (maps : Maps) : Type 0 where
    pub beside : FlaggedMap
    pub beside_rollback : FlaggedMap
    pub primary_stands : primary.crash.stands (record { primary = maps.primary; rollback = beside })
    pub rollback_stands : rollback.crash.stands (record { primary = maps.rollback; rollback = beside_rollback })

  abbrev pub pair_crash : Crash
  pair_crash = record {
    tells_moments = primary.crash.tells_moments && rollback.crash.tells_moments;
    primary = primary.crash.primary;
    rollback = rollback.crash.primary;
    stands = PairStands;
  }

  abbrev pub pair : KvState
  pair = record { known = pair_known; crash = pair_crash }
