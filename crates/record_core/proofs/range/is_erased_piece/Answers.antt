use Rattle.std.proofs.Common.{length}
use Rattle.record_core.proofs.RangeLemmas.{erased_part}
use Rattle.record_core.proofs.range.is_erased_piece.Goals as goal

pub returns-clause-erased : goal.returns-clause-erased
returns-clause-erased g c image told =
    let whole = erased_part image c.args.place (length c.args.piece.now) c.read_part.new.buf (c.in_ok-read_part.ensures.bytes image told) c.read_part.auto.buf in
    (λ true. whole.0 (c.are_erased.ensures.0 true), λ erased. c.are_erased.ensures.1 (whole.1 erased))
