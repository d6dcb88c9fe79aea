use Rattle.std.proofs.Common.{◌≡◌, ℕ, ◌-◌, drop, length, refl, sym, ◌∙◌, ap, subst, arith}
use Rattle.std.specs.Prelude.{Result}
use Rattle.std.specs.List.{remove}
use Rattle.std.proofs.lemmas.List.{take_at}
use Rattle.kv_model.specs.declared.error.KvError.{KvError}
use Rattle.area_log.specs.declared.area.Area.{Area}
use Rattle.area_log.specs.Areas.{IsAreaOf}
use Rattle.tdb_read.specs.Views.{view_of}
use Rattle.tdb_write.proofs.AllCopiedLemmas.{fill_changes, has_filled}
use Rattle.tdb_write.proofs.WithoutLemmas.{left_prepared, left_refused}
use Rattle.tdb_write.proofs.collect.copy_without.Goals as goal

pub returns-clause-changes : goal.returns-clause-changes
returns-clause-changes g c =
    let old = view_of g.F.Flash.state c.args.log.now in
    let device = g.F.Flash.state c.copy_without.new.flash in
    let is = c.copy_without.ensures in
    let area = c.other_area-to.ensures in
    let fill = has_filled old device c.copy_without.new.spare (remove old.log.table.entries c.args.at) c.copy_without.result c.area-from.result c.other_area-to.result c.area-from.ensures.area area.area is.runs is.cause is.told is.copied c.requires.ready is.room in
    fill_changes (g.met.F.Flash.lawful c.args.log.now.flash) c.requires.ready (subst (IsAreaOf old.device.geometry) area.area area.is_area) {device = device} c.copy_without.new.spare _
    (ap length (take_at c.copy_without.new.work (drop (length c.copy_without.new.work) c.args.log.now.work.items) c.args.log.now.work.len (c.copy_without.auto.work ∙ c.deref_mut.ensures.len)) ∙ c.copy_without.auto.work ∙ ap length c.deref_mut.ensures.value) (remove old.log.table.entries c.args.at) c.copy_without.result fill

pub returns-clause-refusal : goal.returns-clause-refusal
returns-clause-refusal g c =
    let old = view_of g.F.Flash.state c.args.log.now in
    let device = g.F.Flash.state c.copy_without.new.flash in
    let is = c.copy_without.ensures in
    let area = c.other_area-to.ensures in
    let fill = has_filled old device c.copy_without.new.spare (remove old.log.table.entries c.args.at) c.copy_without.result c.area-from.result c.other_area-to.result c.area-from.ensures.area area.area is.runs is.cause is.told is.copied c.requires.ready is.room in
    left_refused (g.met.F.Flash.lawful c.args.log.now.flash) c.requires.ready (subst (IsAreaOf old.device.geometry) area.area area.is_area) {device = device} c.copy_without.new.spare c.args.at c.requires.inside c.copy_without.result fill

pub returns-clause-prepared : goal.returns-clause-prepared
returns-clause-prepared g c key place is =
    let old = view_of g.F.Flash.state c.args.log.now in
    let device = g.F.Flash.state c.copy_without.new.flash in
    let done = c.copy_without.ensures in
    let area = c.other_area-to.ensures in
    let fill = has_filled old device c.copy_without.new.spare (remove old.log.table.entries c.args.at) c.copy_without.result c.area-from.result c.other_area-to.result c.area-from.ensures.area area.area done.runs done.cause done.told done.copied c.requires.ready done.room in
    left_prepared (g.met.F.Flash.lawful c.args.log.now.flash) c.requires.ready (subst (IsAreaOf old.device.geometry) area.area area.is_area) {device = device} c.copy_without.new.spare c.args.at c.requires.inside _
    (ap length (take_at c.copy_without.new.work (drop (length c.copy_without.new.work) c.args.log.now.work.items) c.args.log.now.work.len (c.copy_without.auto.work ∙ c.deref_mut.ensures.len)) ∙ c.copy_without.auto.work ∙ ap length c.deref_mut.ensures.value) c.copy_without.result fill key place is
