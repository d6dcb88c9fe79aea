use Rattle.std.proofs.Common.{ℕ, ap, subst}
use Rattle.flash_core.specs.declared.flash.FlashFault.{FlashFault}
use Rattle.flash_core.specs.declared.geometry.Geometry.{Geometry}
use Rattle.flash_core.specs.Erases.{ErasesUnits}
use Rattle.flash_core.specs.Runs.{RunsBy, fault_ending}
use Rattle.tdb_mount.proofs.FormatLemmas.{erases_format}
use Rattle.tdb_mount.proofs.format.erase_first.Goals as goal

pub returns-in-Err-clause-runs : goal.returns-in-Err-clause-runs
returns-in-Err-clause-runs g c =
    let old = g.F.Flash.state c.args.flash.now in
    let new = g.F.Flash.state c.erase_units.new.flash in
    let units = ap (λ (x : Geometry). x.units_per_area) c.geometry-units.ensures in
    erases_format (subst (λ (n : ℕ). RunsBy old new (ErasesUnits old.geometry 0 n) _) units
    (subst (λ (f : FlashFault). RunsBy old new (ErasesUnits old.geometry 0 c.geometry-units.result.units_per_area) (fault_ending f)) c.in-Err.ensures.fault c.in-Err.ensures.runs))
