-- What was begun, once it was fed.
use Rattle.std.proofs.Common.{◌≡◌, ℕ, ◌+◌, ◌≤◌, List, length, inl, refl, sym, ◌∙◌, ap, subst}
use Rattle.std.specs.Prelude.{true}
use Rattle.flash_core.specs.Runs.{Done}
use Rattle.flash_core.proofs.RunLaws.{runs_none}
use Rattle.kv_model.specs.Flags.{is_plain_flags}
use Rattle.inc_set.specs.declared.open_set.OpenSet.{OpenSet as Writer}
use Rattle.inc_set.specs.Sets.{with_bytes}
use Rattle.ram_table.specs.declared.table.Place.{Place}
use Rattle.tdb_read.specs.Reads.{IsFound, map_in}
use Rattle.tdb_read.specs.States.{log_in}
use Rattle.tdb_read.specs.Views.{IsReady, LogPart, LogView}
use Rattle.tdb_read.proofs.LawLemmas.{log_mounts}
use Rattle.tdb_write.specs.Changes.{Changes, KeepsPlaces, LeavesOneOf, LogStands, unchanged}
use Rattle.tdb_write.specs.Writing.{IsWriting, SameButTail}
use Rattle.plain_store.specs.Begun.{IsSetBegun}
use Rattle.plain_store.proofs.CallLemmas.{some_is}

-- a log that nothing was done to
pub nothing_done : (v : LogView) → IsReady v → Changes v v unchanged LogStands Done
nothing_done v ready = record {
  runs = runs_none v.device (LeavesOneOf v unchanged) Done tt (λ image told. inl (log_mounts v.device.geometry image v.log (ready.stands image told)));
  callers = record { hash_bits = refl; iterators = refl };
  ready = ready;
  map_is = λ image told left now. ap (map_in v.device.geometry v.log) (some_is (sym now ∙ told));
  log_is = λ image told left now. ap (log_in v.device.geometry v.log) (some_is (sym now ∙ told));
}

pub fed_begun : (v w : LogView) (set next : Writer) (place : Place) (fed more value : List ℕ) → IsSetBegun v set place fed → IsWriting w next more
    → next ≡ with_bytes set value → KeepsPlaces v w → SameButTail v set (length value) w.log → IsSetBegun w next place more
fed_begun v w set next place fed more value is writing next_is places same = record {
  writing = writing;
  flags = subst (λ (s : Writer). is_plain_flags s.flags ≡ true) (sym next_is) is.flags;
  found = subst (λ (s : Writer). IsFound w s.key place) (sym next_is) (places set.key place is.found);
  reserved = record {
    table = subst (λ (l : LogPart). 1 ≤ l.table.spare) (sym same) is.reserved.table;
    spare = subst (λ (l : LogPart). length l.table.entries + 1 ≤ length l.spare.entries + l.spare.spare) (sym same) is.reserved.spare;
  };
}
