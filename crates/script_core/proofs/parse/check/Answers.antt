use Rattle.std.proofs.Common.{◌≡◌, ◌+◌, length, [], ap, refl, ◌∙◌, arith}
use Rattle.std.proofs.lemmas.Result.{err_from_is_err_and}
use Rattle.script_core.specs.Grammar.{lines_of}
use Rattle.script_core.specs.Parts.{parts_left}
use Rattle.script_core.specs.Reading.{read_text}
use Rattle.script_core.proofs.LaterEnds.{KnowsEnds-next, TellsEnds-known, KnowsEnds-all}
use Rattle.script_core.proofs.Walk.{Counted-next, Counted-stops, Counted-done, length-lines_of-le}
use Rattle.script_core.proofs.parse.check.Goals as goal

pub overflow_add-number : goal.overflow_add-number
overflow_add-number c = omega (arith, ap length c.in-Some.ensures.steps, c.loop-text.invariant.count, length-lines_of-le c.args.bytes.now)

pub loop-text-init : goal.loop-text-init
loop-text-init c =
    let left : parts_left c.into_iter-text-iterator.result ≡ lines_of c.args.bytes.now = ap parts_left c.into_iter-text-iterator.ensures.into_iter_gives ∙ c.new-text-items.ensures in
    record {
      same = record { lines = []; many = refl; same = rw left refl };
      count = omega (arith, ap length left);
      ends = rw left (KnowsEnds-all c.args.mode c.ends_for-ends.result (lines_of c.args.bytes.now) c.ends_for-ends.ensures);
    }

pub loop-text-preserved : goal.loop-text-preserved
loop-text-preserved c =
    let ends = KnowsEnds-next c.args.mode c.ends_for-ends.result c.loop-text.number c.in-Some.text.now (parts_left c.loop-text.text-iterator) (parts_left c.next.new.self) c.in-Some.ensures.steps c.loop-text.invariant.ends in
    record {
      same = Counted-next c.args.mode (c.loop-text.number + 1) c.loop-text.count _ c.in-Some.text.now (parts_left c.loop-text.text-iterator)
          (parts_left c.next.new.self) (read_text c.args.mode c.args.bytes.now) c.in-Some.ensures.steps
          (λ lines many. c.in_ok-count.ensures (parts_left c.next.new.self) lines (TellsEnds-known c.args.mode c.ends_for-ends.result (c.loop-text.number + 1) (parts_left c.next.new.self) ends) many) c.loop-text.invariant.same;
      count = omega (arith, ap length c.in-Some.ensures.steps, c.loop-text.invariant.count);
      ends = ends;
    }

pub returns-in_err-count : goal.returns-in_err-count
returns-in_err-count c =
    let p = err_from_is_err_and c.from_residual.result c.from_residual.ensures.1 in
    let ends = KnowsEnds-next c.args.mode c.ends_for-ends.result c.loop-text.number c.in-Some.text.now (parts_left c.loop-text.text-iterator) (parts_left c.next.new.self) c.in-Some.ensures.steps c.loop-text.invariant.ends in
    rw (p.1, p.2) (Counted-stops c.in_err-count.field-0.0 c.args.mode (c.loop-text.number + 1) c.loop-text.count c.in-Some.text.now (parts_left c.loop-text.text-iterator)
    (parts_left c.next.new.self) (read_text c.args.mode c.args.bytes.now) c.in-Some.ensures.steps
    (λ lines many. c.in_err-count.ensures (parts_left c.next.new.self) lines (TellsEnds-known c.args.mode c.ends_for-ends.result (c.loop-text.number + 1) (parts_left c.next.new.self) ends) many) c.loop-text.invariant.same)

pub returns : goal.returns
returns c = Counted-done c.args.mode (c.loop-text.number + 1) c.loop-text.count (parts_left c.loop-text.text-iterator) (read_text c.args.mode c.args.bytes.now) c.in-None.ensures.steps.0 c.loop-text.invariant.same
