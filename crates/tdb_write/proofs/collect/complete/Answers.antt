use Rattle.std.proofs.Common.{◌≡◌, ℕ, ◌+◌, ◌-◌, ◌%◌, ◌^◌, List, ◌++◌, drop, length, take, true, refl, sym, ◌∙◌, ap, subst}
use Rattle.std.specs.Prelude.{Some}
use Rattle.std.proofs.lemmas.List.{take_at}
use Rattle.std.specs.Option.{ForSome}
use Rattle.flash_core.specs.Images.{put}
use Rattle.flash_core.specs.Runs.{Done, RunsBy}
use Rattle.flash_core.specs.declared.geometry.Geometry.{Geometry}
use Rattle.kv_model.specs.FlaggedMap.{FlaggedMap}
use Rattle.record_core.specs.Cuts.{base_of}
use Rattle.record_core.specs.Endings.{kv_ending}
use Rattle.record_core.specs.Record.{master_bytes}
use Rattle.record_core.specs.Written.{AppendsRecord, master_of}
use Rattle.area_log.specs.declared.area.Area.{Area}
use Rattle.ram_table.specs.declared.table.Place.{Place}
use Rattle.tdb_read.specs.Reads.{IsFound}
use Rattle.tdb_read.specs.Views.{LogPart, LogView, view_of}
use Rattle.tdb_write.specs.Changes.{Changes}
use Rattle.tdb_write.specs.Copying.{IsFoundCopied, IsRenewed, completed}
use Rattle.tdb_write.proofs.CompleteLemmas.{is_completed, not_completed, places_completed}
use Rattle.tdb_write.proofs.collect.complete.Goals as goal

pub returns-in_err-write_master-clause-changes : goal.returns-in_err-write_master-clause-changes
returns-in_err-write_master-clause-changes g c =
    let old = view_of g.F.Flash.state c.args.log.now in
    let device = g.F.Flash.state c.write_master.new.flash in
    let is = c.in_err-write_master.ensures in
    not_completed (g.met.F.Flash.lawful c.args.log.now.flash) c.requires.ready c.args.end {device = device} c.from_residual.result c.in_err-write_master.field-0.0 c.from_residual.ensures.1 is.fault
    (record old.log { work = length (take c.args.log.now.work.len (c.write_master.new.work ++ drop (length c.write_master.new.work) c.args.log.now.work.items)) }) (record { hash_bits = refl; iterators = refl })
    (subst (λ (a : Area). RunsBy old.device device (AppendsRecord old.device.geometry.prog a.base (master_of ((old.log.version + 1) % 2 ^ 16))) (kv_ending c.in_err-write_master.field-0.0)) c.other_area-to.ensures.area is.runs)

pub returns-clause-memory : goal.returns-clause-memory
returns-clause-memory g c =
    let old = view_of g.F.Flash.state c.args.log.now in
    λ i. record (completed old.log c.args.end) {
      table = c.swap.ensures.x_after i;
      spare = c.swap.ensures.y_after i;
      work = (ap length (take_at c.write_master.new.work (drop (length c.write_master.new.work) c.args.log.now.work.items) c.args.log.now.work.len (c.write_master.auto.work ∙ c.deref_mut.ensures.len)) ∙ c.write_master.auto.work ∙ ap length c.deref_mut.ensures.value) i;
    }

pub returns-clause-changes : goal.returns-clause-changes
returns-clause-changes g c after prepared =
    let old = view_of g.F.Flash.state c.args.log.now in
    let device = g.F.Flash.state c.write_master.new.flash in
    let is = c.in_ok-write_master.ensures in
    let area = c.other_area-to.ensures.area in
    subst (λ (l : LogPart). Changes old (record { device = device; log = l }) after (IsRenewed old.log.hash_bits after) Done) (sym (returns-clause-memory g c))
    (is_completed (g.met.F.Flash.lawful c.args.log.now.flash) c.requires.ready c.args.end {device = device}
    (subst (λ (a : Area). RunsBy old.device device (AppendsRecord old.device.geometry.prog a.base (master_of ((old.log.version + 1) % 2 ^ 16))) Done) area is.runs)
    (subst (λ (a : Area). ForSome old.device.image (λ image. device.image ≡ Some (put image a.base (master_bytes old.device.geometry.prog ((old.log.version + 1) % 2 ^ 16))))) area is.written)
    after prepared)

pub returns-clause-places : goal.returns-clause-places
returns-clause-places g c key place found =
    let old = view_of g.F.Flash.state c.args.log.now in
    let device = g.F.Flash.state c.write_master.new.flash in
    let is = c.in_ok-write_master.ensures in
    let area = c.other_area-to.ensures.area in
    subst (λ (l : LogPart). IsFound (record { device = device; log = l }) key place) (sym (returns-clause-memory g c))
    (places_completed (g.met.F.Flash.lawful c.args.log.now.flash) c.requires.ready c.args.end {device = device}
    (subst (λ (a : Area). RunsBy old.device device (AppendsRecord old.device.geometry.prog a.base (master_of ((old.log.version + 1) % 2 ^ 16))) Done) area is.runs)
    (subst (λ (a : Area). ForSome old.device.image (λ image. device.image ≡ Some (put image a.base (master_bytes old.device.geometry.prog ((old.log.version + 1) % 2 ^ 16))))) area is.written)
    key place found)
