use Rattle.std.proofs.Common.{◌≡◌, ℕ, ◌+◌, ◌-◌, length, take, drop, sym, ◌∙◌, ap, subst, arith, rules}
use Rattle.std.specs.Prelude.{Err, IfErr}
use Rattle.flash_core.specs.declared.flash.FlashFault.TheVariants.{Write}
use Rattle.flash_core.specs.Calls.{CanProgram}
use Rattle.flash_core.specs.Images.{part}
use Rattle.flash_core.proofs.ImageLaws.{length-part}
use Rattle.record_core.proofs.WriterLemmas.{next_piece, piece_runs, pieces_more, pieces_none}
use Rattle.inc_set.proofs.AscendLemmas.{pieces_failed, pieces_whole, programs_handed, unit_step}
use Rattle.inc_set.proofs.units.program_units.Goals as goal

pub loop-done-init : goal.loop-done-init
loop-done-init g c = pieces_none (g.F.Flash.state c.args.flash.now) c.args.place c.args.units.now

pub program-requires : goal.program-requires
program-requires g c =
    let old = g.F.Flash.state c.args.flash.now in
    let so_far = c.loop-done.invariant in
    let count : ℕ = c.min-count.result in
    let step = unit_step old.geometry _ c.geometry-erase.ensures c.requires.valid (length c.args.units.now) c.loop-done.done count c.requires.whole so_far.whole c.loop-done-test.true c.min-count.ensures in
    let same : c.loop-done.done + count - c.loop-done.done ≡ count = omega arith in
    let long : length (take (c.loop-done.done + count - c.loop-done.done) (drop c.loop-done.done c.args.units.now)) ≡ count =
    ap (λ (n : ℕ). length (part c.args.units.now c.loop-done.done n)) same ∙ length-part c.args.units.now c.loop-done.done count step.within in
    subst (CanProgram (g.F.Flash.state c.loop-done.flash) (c.args.place + c.loop-done.done)) (sym long)
    (next_piece (g.met.F.Flash.lawful c.args.flash.now) so_far c.requires.can.inside count c.requires.can step.whole step.some step.in_unit step.within)

pub returns-in_err-program-clause-programs : goal.returns-in_err-program-clause-programs
returns-in_err-program-clause-programs g c =
    let old = g.F.Flash.state c.args.flash.now in
    let so_far = c.loop-done.invariant in
    let count : ℕ = c.min-count.result in
    let step = unit_step old.geometry _ c.geometry-erase.ensures c.requires.valid (length c.args.units.now) c.loop-done.done count c.requires.whole so_far.whole c.loop-done-test.true c.min-count.ensures in
    let same : c.loop-done.done + count - c.loop-done.done ≡ count = omega arith in
    let fault : IfErr c.from_residual.result (λ f. f ≡ Write) = search rules in
    programs_handed c.from_residual.result c.from_residual.ensures.0 fault c.in_err-program.ensures.cause.0
    (pieces_failed c.in_err-program.field-0.0
    (piece_runs (g.met.F.Flash.lawful c.args.flash.now) so_far c.requires.can.inside count step.whole step.within (ap (part c.args.units.now c.loop-done.done) same) (g.met.F.Flash.lawful c.loop-done.flash) (Err c.in_err-program.field-0.0) c.in_err-program.ensures))

pub loop-done-preserved : goal.loop-done-preserved
loop-done-preserved g c =
    let old = g.F.Flash.state c.args.flash.now in
    let so_far = c.loop-done.invariant in
    let count : ℕ = c.min-count.result in
    let step = unit_step old.geometry _ c.geometry-erase.ensures c.requires.valid (length c.args.units.now) c.loop-done.done count c.requires.whole so_far.whole c.loop-done-test.true c.min-count.ensures in
    let same : c.loop-done.done + count - c.loop-done.done ≡ count = omega arith in
    pieces_more (g.met.F.Flash.lawful c.args.flash.now) so_far c.requires.can.inside count step.whole step.within (ap (part c.args.units.now c.loop-done.done) same) (g.met.F.Flash.lawful c.loop-done.flash) c.in_ok-program.ensures

pub returns-clause-programs : goal.returns-clause-programs
returns-clause-programs g c =
    let so_far = c.loop-done.invariant in
    pieces_whole so_far (omega (arith, so_far.most, c.loop-done-test.false))
