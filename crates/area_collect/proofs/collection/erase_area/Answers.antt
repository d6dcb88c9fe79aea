use Rattle.std.proofs.Common.{sym, ap, subst}
use Rattle.flash_core.specs.declared.flash.FlashFault.{FlashFault}
use Rattle.flash_core.specs.declared.geometry.Geometry.{Geometry}
use Rattle.flash_core.specs.Erases.{AreUnits}
use Rattle.flash_core.specs.Runs.{RunsBy, fault_ending}
use Rattle.record_core.specs.Renewal.{FillsArea}
use Rattle.area_collect.specs.Collection.{number_of}
use Rattle.area_collect.proofs.CollectLemmas.{area_units, erase_fills}
use Rattle.area_collect.proofs.collection.erase_area.Goals as goal

pub erase_units-requires : goal.erase_units-requires
erase_units-requires g c =
    let old = g.F.Flash.state c.args.flash.now in
    subst (λ (x : Geometry). AreUnits old.geometry c.args.to.now.base x.units_per_area) (sym c.geometry-geometry.ensures) (area_units old.geometry c.requires.valid c.args.to.now c.requires.area)

pub returns-in-Ok-clause-runs : goal.returns-in-Ok-clause-runs
returns-in-Ok-clause-runs g c =
    erase_fills (g.met.F.Flash.lawful c.args.flash.now) c.requires.valid c.args.to.now c.requires.area _ (ap (λ (x : Geometry). x.units_per_area) c.geometry-geometry.ensures) c.in-Ok.ensures.runs

pub returns-in-Err-clause-runs : goal.returns-in-Err-clause-runs
returns-in-Err-clause-runs g c =
    let old = g.F.Flash.state c.args.flash.now in
    subst (λ (f : FlashFault). RunsBy old (g.F.Flash.state c.erase_units.new.flash) (FillsArea old.geometry (number_of c.args.to.now)) (fault_ending f)) c.in-Err.ensures.fault
    (erase_fills (g.met.F.Flash.lawful c.args.flash.now) c.requires.valid c.args.to.now c.requires.area _ (ap (λ (x : Geometry). x.units_per_area) c.geometry-geometry.ensures) c.in-Err.ensures.runs)
