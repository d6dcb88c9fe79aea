use Rattle.std.proofs.Common.{◌≡◌, ℕ, ◌+◌, ◌≤◌, List, length, take, sym, ◌∙◌, ap, subst, arith, rules}
use Rattle.std.specs.Prelude.{Some, Err, IfErr}
use Rattle.flash_core.specs.declared.flash.FlashFault.TheVariants.{Write}
use Rattle.std.proofs.lemmas.List.{length-take-le}
use Rattle.std.proofs.Math.Seq.{take-length}
use Rattle.base_core.specs.Units.{up}
use Rattle.flash_core.specs.declared.geometry.Geometry.{Geometry}
use Rattle.flash_core.specs.Calls.{CanProgram}
use Rattle.flash_core.specs.Images.{part, put}
use Rattle.flash_core.specs.Sizes.{size_of}
use Rattle.flash_core.proofs.RunLaws.{handed_on}
use Rattle.record_core.specs.Record.{record_payload}
use Rattle.record_core.specs.Written.{CanWrite}
use Rattle.record_core.proofs.WriterLemmas.{next_piece, payload_long, payload_step, piece_runs, pieces_more, pieces_none}
use Rattle.record_core.proofs.writer.program_payload.Goals as goal

pub loop-done-init : goal.loop-done-init
loop-done-init g c = pieces_none (g.F.Flash.state c.args.flash.now) c.args.place _

pub program_piece-requires-clause-can : goal.program_piece-requires-clause-can
program_piece-requires-clause-can g c =
    let old = g.F.Flash.state c.args.flash.now in
    let key = c.args.payload.now.key.now in
    let value = c.args.payload.now.value.now in
    let all : List ℕ = record_payload old.geometry.prog key value in
    let so_far = c.loop-done.invariant in
    let step = payload_step old.geometry c.requires.valid key value _ c.geometry-geometry.ensures (length c.args.work.now) _ _ c.loop-done.done _ c.requires.unit c.min-most.ensures c.padded_size-size.ensures so_far.whole c.loop-done-test.true c.min-count.ensures in
    let can : CanWrite old c.args.place (length all) = subst (CanWrite old c.args.place) (sym (payload_long old.geometry c.requires.valid key value)) c.requires.can in
    let long : length (take c.min-count.result c.loop-done.work) ≡ c.min-count.result = length-take-le c.min-count.result c.loop-done.work (omega (arith, step.in_work)) in
    subst (CanProgram (g.F.Flash.state c.loop-done.flash) (c.args.place + c.loop-done.done)) (sym long)
    (next_piece (g.met.F.Flash.lawful c.args.flash.now) so_far can.inside c.min-count.result can step.whole step.some step.in_unit step.within)

pub returns-in_err-program_piece-clause-runs : goal.returns-in_err-program_piece-clause-runs
returns-in_err-program_piece-clause-runs g c =
    let old = g.F.Flash.state c.args.flash.now in
    let key = c.args.payload.now.key.now in
    let value = c.args.payload.now.value.now in
    let all : List ℕ = record_payload old.geometry.prog key value in
    let so_far = c.loop-done.invariant in
    let step = payload_step old.geometry c.requires.valid key value _ c.geometry-geometry.ensures (length c.args.work.now) _ _ c.loop-done.done _ c.requires.unit c.min-most.ensures c.padded_size-size.ensures so_far.whole c.loop-done-test.true c.min-count.ensures in
    let inside : c.args.place + length all ≤ size_of old.geometry = omega (arith, c.requires.can.inside, payload_long old.geometry c.requires.valid key value) in
    let long : length (take c.min-count.result c.loop-done.work) ≡ c.min-count.result = length-take-le c.min-count.result c.loop-done.work (omega (arith, step.in_work)) in
    let is : _ ≡ part all c.loop-done.done c.min-count.result =
    ap (λ (x : Geometry). part (record_payload x.prog key value) c.loop-done.done (length (take c.min-count.result c.loop-done.work))) so_far.runs.kept.geometry
    ∙ ap (part all c.loop-done.done) long in
    let fault : IfErr c.from_residual.result (λ f. f ≡ Write) = search rules in
    handed_on c.from_residual.result c.from_residual.ensures.0 fault c.in_err-program_piece.ensures.cause.0
    (piece_runs (g.met.F.Flash.lawful c.args.flash.now) so_far inside c.min-count.result step.whole step.within is (g.met.F.Flash.lawful c.loop-done.flash) (Err c.in_err-program_piece.field-0.0) c.in_err-program_piece.ensures)

pub loop-done-preserved : goal.loop-done-preserved
loop-done-preserved g c =
    let old = g.F.Flash.state c.args.flash.now in
    let key = c.args.payload.now.key.now in
    let value = c.args.payload.now.value.now in
    let all : List ℕ = record_payload old.geometry.prog key value in
    let so_far = c.loop-done.invariant in
    let step = payload_step old.geometry c.requires.valid key value _ c.geometry-geometry.ensures (length c.args.work.now) _ _ c.loop-done.done _ c.requires.unit c.min-most.ensures c.padded_size-size.ensures so_far.whole c.loop-done-test.true c.min-count.ensures in
    let inside : c.args.place + length all ≤ size_of old.geometry = omega (arith, c.requires.can.inside, payload_long old.geometry c.requires.valid key value) in
    let long : length (take c.min-count.result c.loop-done.work) ≡ c.min-count.result = length-take-le c.min-count.result c.loop-done.work (omega (arith, step.in_work)) in
    let is : _ ≡ part all c.loop-done.done c.min-count.result =
    ap (λ (x : Geometry). part (record_payload x.prog key value) c.loop-done.done (length (take c.min-count.result c.loop-done.work))) so_far.runs.kept.geometry
    ∙ ap (part all c.loop-done.done) long in
    pieces_more (g.met.F.Flash.lawful c.args.flash.now) so_far inside c.min-count.result step.whole step.within is (g.met.F.Flash.lawful c.loop-done.flash) c.in_ok-program_piece.ensures

-- behind the last piece the payload is whole
pub returns-clause-runs : goal.returns-clause-runs
returns-clause-runs g c = c.loop-done.invariant.runs

pub returns-clause-written : goal.returns-clause-written
returns-clause-written g c image told =
    let old = g.F.Flash.state c.args.flash.now in
    let key = c.args.payload.now.key.now in
    let value = c.args.payload.now.value.now in
    let all : List ℕ = record_payload old.geometry.prog key value in
    let size_is : c.padded_size-size.result ≡ length all =
    c.padded_size-size.ensures ∙ ap (λ (x : Geometry). up x.prog (length key + length value)) c.geometry-geometry.ensures ∙ sym (payload_long old.geometry c.requires.valid key value) in
    let end : c.loop-done.done ≡ length all = omega (arith, size_is, c.loop-done.invariant.most, c.loop-done-test.false) in
    let whole : take c.loop-done.done all ≡ all = ap (λ (n : ℕ). take n all) end ∙ take-length all in
    c.loop-done.invariant.written image told ∙ ap (λ (l : List ℕ). Some (put image c.args.place l)) whole
