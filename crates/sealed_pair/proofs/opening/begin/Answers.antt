use Rattle.std.proofs.Common.{None, Some, inr, refl}
use Rattle.std.specs.FinMap.{get}
use Rattle.sealed_pair.specs.Absorbing.{BeginsRecord}
use Rattle.sealed_pair.proofs.OpeningLemmas.{begins_at, handed, head_begins, no_head, whole_head}
use Rattle.sealed_pair.proofs.opening.begin.Goals as goal

pub returns-then-got-min-clause-begins : goal.returns-then-got-min-clause-begins
returns-then-got-min-clause-begins g c state tells =
    let begins = begins_at state.primary c.as_slice.result.now c.args.key.now c.in_ok-got.field-0 (Some c.in-Some.got) 40 c.read_front.new.buf c.as_slice.ensures.bytes c.in-Some.is (c.in_ok-got.ensures.found state tells) in
    absurd (c.if-got-min.true (whole_head _ 40 c.min.result c.in-Some.got c.read_front.new.buf refl begins c.min.ensures))

pub returns-in_err-stream-in-Some-clause-begins : goal.returns-in_err-stream-in-Some-clause-begins
returns-in_err-stream-in-Some-clause-begins g c state tells =
    let begins = begins_at state.primary c.as_slice.result.now c.args.key.now c.in_ok-got.field-0 (Some c.in-Some.got) 40 c.read_front.new.buf c.as_slice.ensures.bytes c.in-Some.is (c.in_ok-got.ensures.found state tells) in
    handed (BeginsRecord c.args.root.now c.args.key.now (get state.primary c.args.key.now)) c.from_residual-in_err-stream-in-Some.result
    c.in_err-stream-in-Some.field-0.0 c.from_residual-in_err-stream-in-Some.ensures.1
    (inr (no_head c.args.root.now c.args.key.now (get state.primary c.args.key.now) 40 c.in-Some.got c.read_front.new.buf c.in_err-stream-in-Some.field-0.0 refl begins
    (c.metadata_divides_records.ensures.none c.args.root.now c.args.key.now) c.in_err-stream-in-Some.ensures.0 c.in_err-stream-in-Some.ensures.1))

pub returns-in_ok-stream-in-Some-clause-begins : goal.returns-in_ok-stream-in-Some-clause-begins
returns-in_ok-stream-in-Some-clause-begins g c state tells =
    let begins = begins_at state.primary c.as_slice.result.now c.args.key.now c.in_ok-got.field-0 (Some c.in-Some.got) 40 c.read_front.new.buf c.as_slice.ensures.bytes c.in-Some.is (c.in_ok-got.ensures.found state tells) in
    head_begins _ c.in_ok-stream-in-Some.stream.metadata 40 c.in-Some.got c.read_front.new.buf refl begins c.in_ok-stream-in-Some.ensures.found

pub returns-in-None-clause-begins : goal.returns-in-None-clause-begins
returns-in-None-clause-begins g c state tells =
    begins_at state.primary c.as_slice.result.now c.args.key.now c.in_ok-got.field-0 None 40 c.read_front.new.buf c.as_slice.ensures.bytes c.in-None.is (c.in_ok-got.ensures.found state tells)
