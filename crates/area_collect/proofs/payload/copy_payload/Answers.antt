use Rattle.std.proofs.Common.{◌≡◌, ℕ, ◌+◌, ◌-◌, ◌<◌, min, length, take, refl, sym, ◌∙◌, ap, subst, arith}
use Rattle.std.proofs.Math.Nat.{zero-mod}
use Rattle.std.proofs.lemmas.List.{length-take-le}
use Rattle.base_core.specs.Units.{up}
use Rattle.base_core.proofs.UnitLemmas.{IsMultipleOf-add, up-ge}
use Rattle.flash_core.specs.declared.geometry.Geometry.{Geometry}
use Rattle.flash_core.specs.Calls.{CanProgram}
use Rattle.flash_core.specs.Sizes.{size_of}
use Rattle.flash_core.proofs.GeometryLaws.{prog_positive}
use Rattle.record_core.proofs.EndingLemmas.{handed_error}
use Rattle.area_collect.proofs.PayloadLemmas.{all_copied, can_program_more, copied_more, copied_none, next_piece_is, piece_step, within_none, within_then, within_wider}
use Rattle.area_collect.proofs.payload.copy_payload.Goals as goal

pub loop-done-init : goal.loop-done-init
loop-done-init g c =
    let s = g.F.Flash.state c.args.flash.now in
    record {
      runs = within_none s c.args.target 0;
      copied = copied_none s c.args.source c.args.target _ _ c.args.start (omega arith) (omega arith);
      whole = zero-mod s.geometry.prog;
      most = omega arith;
    }

pub overflow_sub-size : goal.overflow_sub-size
overflow_sub-size g c =
    let old = g.F.Flash.state c.args.flash.now in
    let all : c.padded_size-padded.result ≡ up old.geometry.prog c.args.size = c.padded_size-padded.ensures ∙ ap (λ (x : Geometry). up x.prog c.args.size) c.geometry-geometry.ensures in
    let less : c.loop-done.done < up old.geometry.prog c.args.size = omega (arith, all, c.loop-done-test.true) in
    let next = next_piece_is old.geometry.prog c.args.size c.loop-done.done 1 _ (prog_positive old.geometry c.requires.valid) c.loop-done.invariant.whole less (omega arith) refl in
    omega (arith, next.before_end)

pub copy_piece-requires-clause-inside : goal.copy_piece-requires-clause-inside
copy_piece-requires-clause-inside g c =
    let old = g.F.Flash.state c.args.flash.now in
    let kept : size_of (g.F.Flash.state c.loop-done.flash).geometry ≡ size_of old.geometry = ap size_of c.loop-done.invariant.runs.kept.geometry in
    let all : c.padded_size-padded.result ≡ up old.geometry.prog c.args.size = c.padded_size-padded.ensures ∙ ap (λ (x : Geometry). up x.prog c.args.size) c.geometry-geometry.ensures in
    let less : c.loop-done.done < up old.geometry.prog c.args.size = omega (arith, all, c.loop-done-test.true) in
    let next = next_piece_is old.geometry.prog c.args.size c.loop-done.done 1 _ (prog_positive old.geometry c.requires.valid) c.loop-done.invariant.whole less (omega arith) refl in
    omega (arith, kept, next.before_end, c.requires.inside, c.min-read.ensures)

pub copy_piece-requires-clause-can : goal.copy_piece-requires-clause-can
copy_piece-requires-clause-can g c =
    let old = g.F.Flash.state c.args.flash.now in
    let step = piece_step old.geometry c.geometry-geometry.result c.geometry-geometry.ensures c.requires.valid c.args.size (length c.args.work.now) c.min-most.result c.padded_size-padded.result c.loop-done.done c.min-count.result c.requires.unit c.min-most.ensures c.padded_size-padded.ensures c.loop-done.invariant.whole c.loop-done-test.true c.min-count.ensures in
    let long : length (take c.min-count.result c.loop-done.work) ≡ c.min-count.result = length-take-le c.min-count.result c.loop-done.work (omega (arith, step.in_work)) in
    subst (CanProgram (g.F.Flash.state c.loop-done.flash) (c.args.target + c.loop-done.done)) (sym long)
    (can_program_more c.args.target (up old.geometry.prog c.args.size) c.loop-done.done c.min-count.result c.requires.can c.loop-done.invariant.runs c.loop-done.invariant.whole step.whole step.some step.in_unit step.within)

pub returns-in_err-sum-clause-runs : goal.returns-in_err-sum-clause-runs
returns-in_err-sum-clause-runs g c =
    let old = g.F.Flash.state c.args.flash.now in
    let step = piece_step old.geometry c.geometry-geometry.result c.geometry-geometry.ensures c.requires.valid c.args.size (length c.args.work.now) c.min-most.result c.padded_size-padded.result c.loop-done.done c.min-count.result c.requires.unit c.min-most.ensures c.padded_size-padded.ensures c.loop-done.invariant.whole c.loop-done-test.true c.min-count.ensures in
    let long : length (take c.min-count.result c.loop-done.work) ≡ c.min-count.result = length-take-le c.min-count.result c.loop-done.work (omega (arith, step.in_work)) in
    let n : ℕ = up old.geometry.prog c.args.size in
    handed_error c.from_residual.result c.in_err-sum.field-0.0 c.from_residual.ensures.1
    (within_then c.args.target n (c.args.target + c.loop-done.done) _ (omega arith) (omega (arith, long, step.within))
    (within_wider c.args.target n c.args.target c.loop-done.done (omega arith) (omega (arith, step.within)) c.loop-done.invariant.runs) c.in_err-sum.ensures.runs)

pub loop-done-preserved : goal.loop-done-preserved
loop-done-preserved g c =
    let old = g.F.Flash.state c.args.flash.now in
    let step = piece_step old.geometry c.geometry-geometry.result c.geometry-geometry.ensures c.requires.valid c.args.size (length c.args.work.now) c.min-most.result c.padded_size-padded.result c.loop-done.done c.min-count.result c.requires.unit c.min-most.ensures c.padded_size-padded.ensures c.loop-done.invariant.whole c.loop-done-test.true c.min-count.ensures in
    let long : length (take c.min-count.result c.loop-done.work) ≡ c.min-count.result = length-take-le c.min-count.result c.loop-done.work (omega (arith, step.in_work)) in
    let n : ℕ = up old.geometry.prog c.args.size in
    let done : ℕ = c.loop-done.done in
    let next = next_piece_is old.geometry.prog c.args.size done c.min-count.result c.min-read.result (prog_positive old.geometry c.requires.valid) c.loop-done.invariant.whole (omega (arith, step.within, step.some)) step.some c.min-read.ensures in
    record {
      runs = within_then c.args.target (done + c.min-count.result) (c.args.target + done) _ (omega arith) (omega (arith, long))
          (within_wider c.args.target (done + c.min-count.result) c.args.target done (omega arith) (omega arith) c.loop-done.invariant.runs) c.in_ok-sum.ensures.runs;
      copied = copied_more c.args.source c.args.target n (min done c.args.size) (done - min done c.args.size) c.min-read.result (length (take c.min-count.result c.loop-done.work) - c.min-read.result) _ _ (c.args.source + done) (c.args.target + done) c.args.start c.loop-done.sum c.in_ok-sum.sum
          (g.met.F.Flash.lawful c.args.flash.now) c.requires.apart (omega (arith, next.here, next.before_end, c.requires.inside, c.min-read.ensures)) c.requires.can.inside next.none
          (omega (arith, next.here, next.most, long, step.within)) next.there (omega (arith, next.padding, long)) (omega (arith, next.here)) (omega (arith, next.here))
          (within_wider c.args.target n c.args.target done (omega arith) (omega (arith, step.within)) c.loop-done.invariant.runs) c.loop-done.invariant.copied c.in_ok-sum.ensures.copied;
      whole = IsMultipleOf-add old.geometry.prog done c.min-count.result c.loop-done.invariant.whole step.whole;
      most = step.within;
    }

pub returns-clause-runs : goal.returns-clause-runs
returns-clause-runs g c =
    let old = g.F.Flash.state c.args.flash.now in
    within_wider c.args.target (up old.geometry.prog c.args.size) c.args.target c.loop-done.done (omega arith) (omega (arith, c.loop-done.invariant.most)) c.loop-done.invariant.runs

pub returns-clause-copied : goal.returns-clause-copied
returns-clause-copied g c =
    let old = g.F.Flash.state c.args.flash.now in
    let all : c.padded_size-padded.result ≡ up old.geometry.prog c.args.size = c.padded_size-padded.ensures ∙ ap (λ (x : Geometry). up x.prog c.args.size) c.geometry-geometry.ensures in
    all_copied c.args.source c.args.target c.args.size (up old.geometry.prog c.args.size) c.loop-done.done c.args.start c.loop-done.sum (up-ge old.geometry.prog c.args.size (prog_positive old.geometry c.requires.valid))
    (omega (arith, all, c.loop-done.invariant.most, c.loop-done-test.false)) c.loop-done.invariant.copied
