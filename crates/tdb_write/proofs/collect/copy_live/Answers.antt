use Rattle.std.proofs.Common.{◌≡◌, ℕ, ◌-◌, drop, length, refl, sym, ◌∙◌, ap, subst, arith}
use Rattle.std.specs.Prelude.{Result}
use Rattle.std.proofs.lemmas.List.{take_at}
use Rattle.kv_model.specs.declared.error.KvError.{KvError}
use Rattle.area_log.specs.declared.area.Area.{Area}
use Rattle.area_log.specs.Areas.{IsAreaOf}
use Rattle.tdb_read.specs.Views.{view_of}
use Rattle.tdb_write.specs.Changes.{unchanged}
use Rattle.tdb_write.proofs.AllCopiedLemmas.{HasFilled, fill_can, fill_changes, fill_count, fill_places, fill_prepared, fill_refused, has_filled}
use Rattle.tdb_write.proofs.EntryLemmas.{log_entries}
use Rattle.tdb_write.proofs.collect.copy_live.Goals as goal

pub returns-clause-changes : goal.returns-clause-changes
returns-clause-changes g c =
    let old = view_of g.F.Flash.state c.args.log.now in
    let device = g.F.Flash.state c.copy_all.new.flash in
    let is = c.copy_all.ensures in
    let area = c.other_area-to.ensures in
    let fill = has_filled old device c.copy_all.new.spare old.log.table.entries c.copy_all.result c.area-from.result c.other_area-to.result c.area-from.ensures.area area.area is.runs is.cause is.told is.copied c.requires.ready is.room in
    fill_changes (g.met.F.Flash.lawful c.args.log.now.flash) c.requires.ready (subst (IsAreaOf old.device.geometry) area.area area.is_area) {device = device} c.copy_all.new.spare _
    (ap length (take_at c.copy_all.new.work (drop (length c.copy_all.new.work) c.args.log.now.work.items) c.args.log.now.work.len (c.copy_all.auto.work ∙ c.deref_mut.ensures.len)) ∙ c.copy_all.auto.work ∙ ap length c.deref_mut.ensures.value) old.log.table.entries c.copy_all.result fill

pub returns-clause-refusal : goal.returns-clause-refusal
returns-clause-refusal g c =
    let old = view_of g.F.Flash.state c.args.log.now in
    let device = g.F.Flash.state c.copy_all.new.flash in
    let is = c.copy_all.ensures in
    let area = c.other_area-to.ensures in
    let fill = has_filled old device c.copy_all.new.spare old.log.table.entries c.copy_all.result c.area-from.result c.other_area-to.result c.area-from.ensures.area area.area is.runs is.cause is.told is.copied c.requires.ready is.room in
    fill_refused (g.met.F.Flash.lawful c.args.log.now.flash) c.requires.ready (subst (IsAreaOf old.device.geometry) area.area area.is_area) {device = device} c.copy_all.new.spare _
    (ap length (take_at c.copy_all.new.work (drop (length c.copy_all.new.work) c.args.log.now.work.items) c.args.log.now.work.len (c.copy_all.auto.work ∙ c.deref_mut.ensures.len)) ∙ c.copy_all.auto.work ∙ ap length c.deref_mut.ensures.value) old.log.table.entries unchanged (omega arith)
    (λ image told. log_entries old.device.geometry image old.log c.requires.ready.safe (c.requires.ready.stands image told)) (λ image told. omega arith) c.copy_all.result fill

pub returns-clause-prepared : goal.returns-clause-prepared
returns-clause-prepared g c =
    let old = view_of g.F.Flash.state c.args.log.now in
    let device = g.F.Flash.state c.copy_all.new.flash in
    let is = c.copy_all.ensures in
    let area = c.other_area-to.ensures in
    let fill = has_filled old device c.copy_all.new.spare old.log.table.entries c.copy_all.result c.area-from.result c.other_area-to.result c.area-from.ensures.area area.area is.runs is.cause is.told is.copied c.requires.ready is.room in
    fill_prepared (g.met.F.Flash.lawful c.args.log.now.flash) c.requires.ready (subst (IsAreaOf old.device.geometry) area.area area.is_area) {device = device} c.copy_all.new.spare _
    (ap length (take_at c.copy_all.new.work (drop (length c.copy_all.new.work) c.args.log.now.work.items) c.args.log.now.work.len (c.copy_all.auto.work ∙ c.deref_mut.ensures.len)) ∙ c.copy_all.auto.work ∙ ap length c.deref_mut.ensures.value) old.log.table.entries unchanged (omega arith)
    (λ image told. log_entries old.device.geometry image old.log c.requires.ready.safe (c.requires.ready.stands image told)) (λ image told. omega arith) c.copy_all.result fill

pub returns-clause-can : goal.returns-clause-can
returns-clause-can g c =
    let old = view_of g.F.Flash.state c.args.log.now in
    let device = g.F.Flash.state c.copy_all.new.flash in
    let is = c.copy_all.ensures in
    let area = c.other_area-to.ensures in
    let fill = has_filled old device c.copy_all.new.spare old.log.table.entries c.copy_all.result c.area-from.result c.other_area-to.result c.area-from.ensures.area area.area is.runs is.cause is.told is.copied c.requires.ready is.room in
    fill_can (g.met.F.Flash.lawful c.args.log.now.flash) c.requires.ready (subst (IsAreaOf old.device.geometry) area.area area.is_area) {device = device} c.copy_all.new.spare _
    (ap length (take_at c.copy_all.new.work (drop (length c.copy_all.new.work) c.args.log.now.work.items) c.args.log.now.work.len (c.copy_all.auto.work ∙ c.deref_mut.ensures.len)) ∙ c.copy_all.auto.work ∙ ap length c.deref_mut.ensures.value) old.log.table.entries unchanged (omega arith)
    (λ image told. log_entries old.device.geometry image old.log c.requires.ready.safe (c.requires.ready.stands image told)) (λ image told. omega arith) c.copy_all.result fill

pub returns-clause-count : goal.returns-clause-count
returns-clause-count g c =
    let old = view_of g.F.Flash.state c.args.log.now in
    let device = g.F.Flash.state c.copy_all.new.flash in
    let is = c.copy_all.ensures in
    let area = c.other_area-to.ensures in
    let fill = has_filled old device c.copy_all.new.spare old.log.table.entries c.copy_all.result c.area-from.result c.other_area-to.result c.area-from.ensures.area area.area is.runs is.cause is.told is.copied c.requires.ready is.room in
    fill_count (g.met.F.Flash.lawful c.args.log.now.flash) c.requires.ready (subst (IsAreaOf old.device.geometry) area.area area.is_area) {device = device} c.copy_all.new.spare _
    (ap length (take_at c.copy_all.new.work (drop (length c.copy_all.new.work) c.args.log.now.work.items) c.args.log.now.work.len (c.copy_all.auto.work ∙ c.deref_mut.ensures.len)) ∙ c.copy_all.auto.work ∙ ap length c.deref_mut.ensures.value) c.copy_all.result fill

pub returns-clause-places : goal.returns-clause-places
returns-clause-places g c =
    let old = view_of g.F.Flash.state c.args.log.now in
    let device = g.F.Flash.state c.copy_all.new.flash in
    let is = c.copy_all.ensures in
    let area = c.other_area-to.ensures in
    let fill = has_filled old device c.copy_all.new.spare old.log.table.entries c.copy_all.result c.area-from.result c.other_area-to.result c.area-from.ensures.area area.area is.runs is.cause is.told is.copied c.requires.ready is.room in
    fill_places (g.met.F.Flash.lawful c.args.log.now.flash) c.requires.ready (subst (IsAreaOf old.device.geometry) area.area area.is_area) {device = device} c.copy_all.new.spare _
    (ap length (take_at c.copy_all.new.work (drop (length c.copy_all.new.work) c.args.log.now.work.items) c.args.log.now.work.len (c.copy_all.auto.work ∙ c.deref_mut.ensures.len)) ∙ c.copy_all.auto.work ∙ ap length c.deref_mut.ensures.value) c.copy_all.result fill
