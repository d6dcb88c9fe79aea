-- A store stays one where of its device no more changes than its label and whether calls may fail.
use Rattle.std.proofs.Common.{ℕ, Bool, List, refl, arith}
use Rattle.std.specs.Prelude.{Option, Some, None}
use Rattle.flash_core.specs.State.{FlashState}
use Rattle.inc_set.specs.declared.open_set.OpenSet.{OpenSet as Writer}
use Rattle.kv_model.specs.FlaggedMap.{FlaggedMap}
use Rattle.kv_model.specs.StoreState.{Maps, OpenSet, StoreState}
use Rattle.ram_table.specs.declared.table.Place.{Place}
use Rattle.tdb_read.specs.Reads.{IsFound}
use Rattle.tdb_read.specs.States.{MapLeft, MapsStand}
use Rattle.tdb_read.specs.Views.{IsReady, LogPart, LogView}
use Rattle.tdb_write.specs.Copying.{IsPrepared}
use Rattle.plain_store.specs.Begun.{IsBegunBy, IsReadied, IsSetBegun}
use Rattle.plain_store.specs.Stores.{IsRunning, IsStopped, IsStore, StoppedMaps, state_by}
use Rattle.plain_store.specs.Faults.{IsSameButFaults}
use Rattle.plain_store.specs.declared.active.ActiveSet.{ActiveSet}
use Rattle.plain_store.specs.declared.active.Begun.{Begun}
use Rattle.plain_store.specs.declared.active.Begun.TheVariants.{Remove, Set}
use Rattle.plain_store.proofs.StoreLemmas.{view_at}

abbrev pub relabelled : FlashState → List ℕ → Bool → Bool → FlashState
relabelled d label steady sound = record d { label = label; steady = steady; sound = sound }

module _ (d : FlashState) (log : LogPart) (label : List ℕ) (steady sound : Bool) where
  abbrev before : LogView
  before = record { device = d; log = log }

  abbrev after : LogView
  after = record { device = relabelled d label steady sound; log = log }

  still_ready : IsReady before → IsReady after
  still_ready is = record { safe = is.safe; stands = is.stands }

  still_found : (key : List ℕ) (place : Place) → IsFound before key place → IsFound after key place
  still_found key place is = record { inside = is.inside; there = is.there; located = is.located }

  still_set : (set : Writer) (place : Place) (fed : List ℕ) → IsSetBegun before set place fed → IsSetBegun after set place fed
  still_set set place fed is = record {
    writing = is.writing;
    flags = is.flags;
    found = still_found set.key place is.found;
    reserved = is.reserved;
  }

  still_prepared : (end : ℕ) (key : List ℕ) → IsPrepared before end key → IsPrepared after end key
  still_prepared end key is = record { safe = is.safe; copy = is.copy }

  still_readied : (key : List ℕ) (copied : Option ℕ) → IsReadied before key copied → IsReadied after key copied
  still_readied key None is = is
  still_readied key (Some end) is = (is.0, still_prepared end key is.1)

  still_begun : (begun : Begun) → IsBegunBy before begun → IsBegunBy after begun
  still_begun (Set set place fed) is = still_set set place fed.bytes is
  still_begun (Remove key place copied) is =
      record { valid = is.valid; found = still_found key place is.found; there = is.there; readied = still_readied key copied is.readied }

  still_running : (active : Option ActiveSet) → IsRunning before active → IsRunning after active
  still_running active is = record { ready = still_ready is.ready; begun = λ a a_is. still_begun a.begun (is.begun a a_is) }

  stood : (maps : Maps) → MapsStand d.geometry (relabelled d label steady sound) maps → MapsStand d.geometry d maps
  stood maps is = record { primary = is.primary; rollback = is.rollback }

  stopped_stood : (maps : Maps) → StoppedMaps after maps → StoppedMaps before maps
  stopped_stood maps is = record { tells = is.tells; unlikely = is.unlikely; stands = stood maps is.stands }

  still_stopped : (noted : StoreState) → IsStopped before noted → IsStopped after noted
  still_stopped noted is = record {
    hash_bits = is.hash_bits;
    doubt = is.doubt;
    is = is.is;
    number = is.number;
    stands = λ image told maps stands. is.stands image told maps (stopped_stood maps stands);
  }

  pub still_store : (active : Option ActiveSet) (note : Option StoreState) → IsStore (view_at before active note) → IsStore (view_at after active note)
  still_store active None is = still_running active is
  still_store active (Some noted) is = still_stopped noted is

  moment_stood : (t : ℕ) (m : FlaggedMap) → MapLeft d.geometry (relabelled d label steady sound) t m → MapLeft d.geometry d t m
  moment_stood t m is = record { call = is.call; image = is.image; left = is.left; unlikely = is.unlikely; mounts = is.mounts }

  -- Nothing that a caller of the store can see changes but the label and whether calls may fail.
  pub same_but_faults : (set : Option OpenSet) (note : Option StoreState) → IsSameButFaults (state_by before set note) (state_by after set note)
  same_but_faults set None = record {
    known = refl;
    tells_moments = refl;
    primary = record { moment = omega arith; told = moment_stood };
    rollback = record { moment = omega arith; told = λ t m left. left };
    stands = stood;
  }
  same_but_faults set (Some noted) = record {
    known = refl;
    tells_moments = refl;
    primary = record { moment = omega arith; told = moment_stood };
    rollback = record { moment = omega arith; told = λ t m left. left };
    stands = stopped_stood;
  }
