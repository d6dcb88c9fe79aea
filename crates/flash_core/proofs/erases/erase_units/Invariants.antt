use Rattle.std.proofs.Common.{◌≡◌, ◌*◌}
use Rattle.std.specs.Prelude.{Some}
use Rattle.std.specs.Option.{ForSome}
use Rattle.flash_core.specs.Erases.{ErasesUnits, erased_from}
use Rattle.flash_core.specs.Runs.{RunsBy, Done}
use Rattle.flash_core.proofs.erases.erase_units.Given as goal

abbrev pub invariant-loop-unit : goal.invariant-loop-unit
invariant-loop-unit g l =
    let old = g.F.Flash.state l.fn.flash in
    let now = g.F.Flash.state l.flash in
    record {
      runs : RunsBy old now (ErasesUnits old.geometry l.place l.count) Done;
      erased : ForSome old.image (λ image. now.image ≡ Some (erased_from image l.place (l.unit * old.geometry.erase)));
    }
