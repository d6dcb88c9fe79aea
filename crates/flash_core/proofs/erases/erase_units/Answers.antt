use Rattle.std.proofs.Common.{◌≡◌, ◌+◌, ◌*◌, ◌<◌, ap, arith, rules, subst, sym}
use Rattle.std.specs.Prelude.{IfErr, Ok, Err}
use Rattle.flash_core.specs.declared.flash.FlashFault.TheVariants.{Write}
use Rattle.flash_core.specs.declared.geometry.Geometry.{Geometry}
use Rattle.flash_core.specs.Calls.{CanErase}
use Rattle.flash_core.proofs.EraseLaws.{can_erase_next, erase_leaves, erase_runs, erases_begun, nothing_so_far}
use Rattle.flash_core.proofs.RunLaws.{handed_on}
use Rattle.flash_core.proofs.erases.erase_units.Goals as goal

pub loop-unit-init : goal.loop-unit-init
loop-unit-init g c =
    let old = g.F.Flash.state c.args.flash.now in
    record { runs = erases_begun old c.args.place c.args.count; erased = nothing_so_far old c.args.place }

pub erase-requires : goal.erase-requires
erase-requires g c =
    let old = g.F.Flash.state c.args.flash.now in
    let mid = g.F.Flash.state c.loop-unit.flash in
    let lt : c.loop-unit.unit < c.args.count = omega arith in
    subst (CanErase mid) (ap (λ (x : Geometry). c.args.place + c.loop-unit.unit * x.erase) (sym c.geometry-erase.ensures))
    (can_erase_next old mid c.args.place c.args.count c.loop-unit.unit (g.met.F.Flash.lawful c.args.flash.now) c.requires c.loop-unit.invariant.runs.kept lt)

pub returns-in_err-erase-clause-runs : goal.returns-in_err-erase-clause-runs
returns-in_err-erase-clause-runs g c =
    let old = g.F.Flash.state c.args.flash.now in
    let mid = g.F.Flash.state c.loop-unit.flash in
    let new = g.F.Flash.state c.erase.new.self in
    let lt : c.loop-unit.unit < c.args.count = omega arith in
    let fault : IfErr c.from_residual.result (λ f. f ≡ Write) = search rules in
    handed_on c.from_residual.result c.from_residual.ensures.0 fault c.in_err-erase.ensures.cause.0
    (erase_runs old mid c.args.place c.args.count c.loop-unit.unit (g.met.F.Flash.lawful c.args.flash.now) c.requires c.loop-unit.invariant.runs.kept new _
    (ap (λ (x : Geometry). c.args.place + c.loop-unit.unit * x.erase) c.geometry-erase.ensures) lt c.loop-unit.invariant.erased c.loop-unit.invariant.runs
    (Err c.in_err-erase.field-0.0) c.in_err-erase.ensures (g.met.F.Flash.lawful c.loop-unit.flash))

pub loop-unit-preserved : goal.loop-unit-preserved
loop-unit-preserved g c =
    let old = g.F.Flash.state c.args.flash.now in
    let mid = g.F.Flash.state c.loop-unit.flash in
    let new = g.F.Flash.state c.erase.new.self in
    let lt : c.loop-unit.unit < c.args.count = omega arith in
    let lawful = g.met.F.Flash.lawful c.args.flash.now in
    let at = ap (λ (x : Geometry). c.args.place + c.loop-unit.unit * x.erase) c.geometry-erase.ensures in
    record {
      runs = erase_runs old mid c.args.place c.args.count c.loop-unit.unit lawful c.requires c.loop-unit.invariant.runs.kept new _ at lt c.loop-unit.invariant.erased c.loop-unit.invariant.runs
          (Ok c.in_ok-erase.field-0) c.in_ok-erase.ensures (g.met.F.Flash.lawful c.loop-unit.flash);
      erased = erase_leaves old mid c.args.place c.args.count c.loop-unit.unit lawful c.requires c.loop-unit.invariant.runs.kept new _ at lt c.loop-unit.invariant.erased c.loop-unit.invariant.runs
          c.in_ok-erase.ensures;
    }
