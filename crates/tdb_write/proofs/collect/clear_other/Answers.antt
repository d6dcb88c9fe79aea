use Rattle.std.proofs.Common.{◌≡◌, ℕ, ◌-◌, [], List, refl, sym, subst}
use Rattle.std.specs.Prelude.{IfOk, OnOk, Some}
use Rattle.std.specs.Option.{ForSome}
use Rattle.flash_core.specs.Erases.{erased_from}
use Rattle.flash_core.specs.Runs.{RunsBy}
use Rattle.flash_core.specs.Sizes.{area_size}
use Rattle.record_core.specs.Endings.{kv_ended}
use Rattle.record_core.specs.Renewal.{FillsArea}
use Rattle.area_log.specs.declared.area.Area.{Area}
use Rattle.area_log.specs.Areas.{IsAreaOf, first_place}
use Rattle.area_collect.specs.Collection.{number_of}
use Rattle.tdb_read.specs.Views.{view_of}
use Rattle.tdb_write.proofs.AllCopiedLemmas.{HasFilled, fill_changes}
use Rattle.tdb_write.proofs.WithoutLemmas.{none_can, none_filled, none_prepared}
use Rattle.tdb_write.proofs.collect.clear_other.Goals as goal

pub returns-clause-changes : goal.returns-clause-changes
returns-clause-changes g c =
    let old = view_of g.F.Flash.state c.args.log.now in
    let device = g.F.Flash.state c.clear.new.flash in
    let is = c.clear.ensures in
    let area = c.other_area-to.ensures in
    let lawful = g.met.F.Flash.lawful c.args.log.now.flash in
    let is_area = subst (IsAreaOf old.device.geometry) area.area area.is_area in
    let fill : HasFilled old device c.clear.new.spare [] c.clear.result = none_filled lawful c.requires.ready is_area {device = device} c.clear.new.spare is.entries c.clear.result
    (subst (λ (a : Area). RunsBy old.device device (FillsArea old.device.geometry (number_of a)) (kv_ended c.clear.result)) area.area is.runs) is.fault
    (subst (λ (a : Area). IfOk c.clear.result (λ place. place ≡ first_place old.device.geometry a)) area.area is.place)
    (subst (λ (a : Area). ForSome old.device.image (λ image. OnOk c.clear.result (device.image ≡ Some (erased_from image a.base (area_size old.device.geometry))))) area.area is.erased) is.room in
    fill_changes lawful c.requires.ready is_area {device = device} c.clear.new.spare old.log.work refl [] c.clear.result fill

pub returns-clause-prepared : goal.returns-clause-prepared
returns-clause-prepared g c =
    let old = view_of g.F.Flash.state c.args.log.now in
    let device = g.F.Flash.state c.clear.new.flash in
    let is = c.clear.ensures in
    let area = c.other_area-to.ensures in
    let lawful = g.met.F.Flash.lawful c.args.log.now.flash in
    let is_area = subst (IsAreaOf old.device.geometry) area.area area.is_area in
    let fill : HasFilled old device c.clear.new.spare [] c.clear.result = none_filled lawful c.requires.ready is_area {device = device} c.clear.new.spare is.entries c.clear.result
    (subst (λ (a : Area). RunsBy old.device device (FillsArea old.device.geometry (number_of a)) (kv_ended c.clear.result)) area.area is.runs) is.fault
    (subst (λ (a : Area). IfOk c.clear.result (λ place. place ≡ first_place old.device.geometry a)) area.area is.place)
    (subst (λ (a : Area). ForSome old.device.image (λ image. OnOk c.clear.result (device.image ≡ Some (erased_from image a.base (area_size old.device.geometry))))) area.area is.erased) is.room in
    none_prepared lawful c.requires.ready is_area {device = device} c.clear.new.spare is.entries c.clear.result fill

pub returns-clause-can : goal.returns-clause-can
returns-clause-can g c =
    let old = view_of g.F.Flash.state c.args.log.now in
    let device = g.F.Flash.state c.clear.new.flash in
    let is = c.clear.ensures in
    let area = c.other_area-to.ensures in
    let lawful = g.met.F.Flash.lawful c.args.log.now.flash in
    let is_area = subst (IsAreaOf old.device.geometry) area.area area.is_area in
    let fill : HasFilled old device c.clear.new.spare [] c.clear.result = none_filled lawful c.requires.ready is_area {device = device} c.clear.new.spare is.entries c.clear.result
    (subst (λ (a : Area). RunsBy old.device device (FillsArea old.device.geometry (number_of a)) (kv_ended c.clear.result)) area.area is.runs) is.fault
    (subst (λ (a : Area). IfOk c.clear.result (λ place. place ≡ first_place old.device.geometry a)) area.area is.place)
    (subst (λ (a : Area). ForSome old.device.image (λ image. OnOk c.clear.result (device.image ≡ Some (erased_from image a.base (area_size old.device.geometry))))) area.area is.erased) is.room in
    none_can lawful c.requires.ready is_area {device = device} c.clear.new.spare is.entries c.clear.result fill
