use Rattle.std.proofs.Common.{arith}
use Rattle.sealed_pair.proofs.AbsorbingLemmas.{skipped_more}
use Rattle.sealed_pair.proofs.PairLemmas.{read_then}
use Rattle.sealed_pair.proofs.opening.skip.Goals as goal

pub loop-done-preserved : goal.loop-done-preserved
loop-done-preserved g c = record {
  read = read_then c.loop-done.invariant.read c.in_ok-skip_piece.ensures.read;
  most = omega (arith, c.min-size.ensures, c.loop-done.invariant.most);
  skipped = skipped_more g.K.Kv.rules_by c.args.key.now (g.K.Kv.state c.args.store.now) (g.K.Kv.state c.loop-done.store) c.loop-done.invariant.read
      c.loop-done.invariant.skipped c.in_ok-skip_piece.ensures.skipped;
}
