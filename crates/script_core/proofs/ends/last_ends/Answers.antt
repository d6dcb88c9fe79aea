use Rattle.std.proofs.Common.{ℕ, ◌+◌, ◌<◌, ◌≤◌, ◌≡◌, Some, eqb, false, length, get_or, set, length-set, refl, sym, ap, ◌∙◌, arith}
use Rattle.script_core.specs.Grammar.{lines_of}
use Rattle.script_core.specs.Parts.{parts_left}
use Rattle.script_core.specs.Reading.{last_end}
use Rattle.script_core.proofs.LaterEnds.{ends_next, no_more, set_end, ends_set-is_some, ends_set-is_none}
use Rattle.script_core.proofs.Walk.{length-lines_of-le}
use Rattle.script_core.proofs.ends.last_ends.Goals as goal

pub overflow_add-number : goal.overflow_add-number
overflow_add-number c = omega (arith, ap length c.in-Some.ensures.steps, c.loop-text.invariant.count, length-lines_of-le c.args.bytes.now)

pub loop-text-preserved-in-Some-ended_by : goal.loop-text-preserved-in-Some-ended_by
loop-text-preserved-in-Some-ended_by c =
    let w = c.from.result in
    let same : w ≡ c.in-Some-ended_by.who = c.from.ensures in
    let low : w < length c.loop-text.last = omega (arith, c.from.ensures, c.in-Some-ended_by.ensures.who, c.loop-text.invariant.long) in
    let step = λ (who : ℕ) (h : who ≤ 16). ends_next (eqb w who) who c.loop-text.number (get_or c.loop-text.last who 0) (get_or (set c.loop-text.last w (c.loop-text.number + 1)) who 0)
    c.in-Some.text.now (parts_left c.loop-text.text-iterator) (parts_left c.next.new.self) (last_end who 1 (lines_of c.args.bytes.now))
    (ends_set-is_some who w c.in-Some.text.now (sym c.in-Some-ended_by.ensures.client ∙ ap (λ (n : ℕ). Some n) (sym same))) c.in-Some.ensures.steps (c.loop-text.invariant.passed who h)
    (set_end c.loop-text.last w who (c.loop-text.number + 1) low) (c.loop-text.invariant.ends who h) in
    record {
      count = omega (arith, ap length c.in-Some.ensures.steps, c.loop-text.invariant.count);
      long = omega (arith, length-set c.loop-text.last w (c.loop-text.number + 1), c.loop-text.invariant.long);
      passed = λ who h. (step who h).0;
      ends = λ who h. (step who h).1;
    }

pub loop-text-preserved : goal.loop-text-preserved
loop-text-preserved c =
    let step = λ (who : ℕ) (h : who ≤ 16). ends_next false who c.loop-text.number (get_or c.loop-text.last who 0) (get_or c.loop-text.last who 0)
    c.in-Some.text.now (parts_left c.loop-text.text-iterator) (parts_left c.next.new.self) (last_end who 1 (lines_of c.args.bytes.now))
    (ends_set-is_none who c.in-Some.text.now (sym c.in_default.ensures.client)) c.in-Some.ensures.steps (c.loop-text.invariant.passed who h) refl (c.loop-text.invariant.ends who h) in
    record {
      count = omega (arith, ap length c.in-Some.ensures.steps, c.loop-text.invariant.count);
      long = c.loop-text.invariant.long;
      passed = λ who h. (step who h).0;
      ends = λ who h. (step who h).1;
    }

pub returns : goal.returns
returns c = λ who h. no_more who c.loop-text.number (get_or c.loop-text.last who 0) (parts_left c.loop-text.text-iterator) (last_end who 1 (lines_of c.args.bytes.now)) c.in-None.ensures.steps.0 (c.loop-text.invariant.ends who h)
