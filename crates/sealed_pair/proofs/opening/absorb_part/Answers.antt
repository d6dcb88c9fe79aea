use Rattle.std.proofs.Common.{sym, arith}
use Rattle.sealed_pair.proofs.opening.absorb_part.Goals as goal

pub returns-clause-absorbed : goal.returns-clause-absorbed
returns-clause-absorbed g c = record {
  bytes = c.read_part.new.buf;
  long = sym c.absorb.auto.buf;
  left = omega (arith, c.absorb.ensures.left, c.absorb.auto.buf);
  metadata = c.absorb.ensures.metadata;
  opened_on = c.absorb.ensures.opened;
  gives = c.absorb.ensures.pieces;
  told = λ stored state tells there within.
      c.in_ok-read_part.ensures.part stored state tells there (omega (arith, within, c.read_part.auto.buf));
}
