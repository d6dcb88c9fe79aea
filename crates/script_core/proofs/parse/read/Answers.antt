use Rattle.std.proofs.Common.{◌≡◌, ◌+◌, length, ap, refl, ◌∙◌, arith}
use Rattle.std.proofs.lemmas.Result.{err_from_is_err_and}
use Rattle.script_core.specs.Grammar.{lines_of}
use Rattle.script_core.specs.Parts.{parts_left}
use Rattle.script_core.specs.Reading.{read_text}
use Rattle.script_core.proofs.LaterEnds.{KnowsEnds-next, TellsEnds-known, KnowsEnds-all}
use Rattle.script_core.proofs.Walk.{goes_on, stopped, ends_at, is_done, length-lines_of-le}
use Rattle.script_core.proofs.parse.read.Goals as goal

pub overflow_add-number : goal.overflow_add-number
overflow_add-number c = omega (arith, ap length c.in-Some.ensures.steps, c.loop-text.invariant.count, length-lines_of-le c.args.bytes.now)

pub loop-text-init : goal.loop-text-init
loop-text-init c =
    let left : parts_left c.into_iter-text-iterator.result ≡ lines_of c.args.bytes.now = ap parts_left c.into_iter-text-iterator.ensures.into_iter_gives ∙ c.new-text-items.ensures in
    record {
      same = rw (left, c.new-lines.ensures.items) refl;
      count = omega (arith, ap length left);
      ends = rw left (KnowsEnds-all c.args.mode c.ends_for-ends.result (lines_of c.args.bytes.now) c.ends_for-ends.ensures);
    }

pub loop-text-preserved : goal.loop-text-preserved
loop-text-preserved c =
    let ends = KnowsEnds-next c.args.mode c.ends_for-ends.result c.loop-text.number c.in-Some.text.now (parts_left c.loop-text.text-iterator) (parts_left c.next.new.self) c.in-Some.ensures.steps c.loop-text.invariant.ends in
    record {
      same = goes_on c.args.mode (c.loop-text.number + 1) c.loop-text.lines.items c.read_one.new.lines.items c.in-Some.text.now (parts_left c.loop-text.text-iterator)
          (parts_left c.next.new.self) (read_text c.args.mode c.args.bytes.now) c.in-Some.ensures.steps
          (c.in_ok-read_one.ensures.read (parts_left c.next.new.self) (TellsEnds-known c.args.mode c.ends_for-ends.result (c.loop-text.number + 1) (parts_left c.next.new.self) ends)) c.loop-text.invariant.same;
      count = omega (arith, ap length c.in-Some.ensures.steps, c.loop-text.invariant.count);
      ends = ends;
    }

pub returns-in_err-read_one : goal.returns-in_err-read_one
returns-in_err-read_one c =
    let p = err_from_is_err_and c.from_residual.result c.from_residual.ensures.1 in
    let ends = KnowsEnds-next c.args.mode c.ends_for-ends.result c.loop-text.number c.in-Some.text.now (parts_left c.loop-text.text-iterator) (parts_left c.next.new.self) c.in-Some.ensures.steps c.loop-text.invariant.ends in
    rw (p.1, p.2) (ends_at c.in_err-read_one.field-0.0 c.args.mode (c.loop-text.number + 1) c.loop-text.lines.items c.in-Some.text.now (parts_left c.loop-text.text-iterator)
    (parts_left c.next.new.self) (read_text c.args.mode c.args.bytes.now) c.in-Some.ensures.steps
    (stopped c.in_err-read_one.field-0.0 c.read_one.new.lines.items _ (c.in_err-read_one.ensures.read (parts_left c.next.new.self) (TellsEnds-known c.args.mode c.ends_for-ends.result (c.loop-text.number + 1) (parts_left c.next.new.self) ends))) c.loop-text.invariant.same)

pub returns : goal.returns
returns c = is_done c.args.mode (c.loop-text.number + 1) c.loop-text.lines.items (parts_left c.loop-text.text-iterator) (read_text c.args.mode c.args.bytes.now) c.in-None.ensures.steps.0 c.loop-text.invariant.same
