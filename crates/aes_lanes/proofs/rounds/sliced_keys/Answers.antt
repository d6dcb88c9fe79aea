use Rattle.std.proofs.Common.{arith, subst, ◌∙◌}
use Rattle.std.proofs.lemmas.List.{length-set}
use Rattle.aes_lanes.specs.Sliced.{HasBlock}
use Rattle.aes_lanes.proofs.Keys.{AreSlicedKeys-more}
use Rattle.aes_lanes.proofs.rounds.sliced_keys.Goals as goal

pub loop-n-preserved : goal.loop-n-preserved
loop-n-preserved c = record {
  known =
      AreSlicedKeys-more c.args.aes.now c.loop-n.n _ _ (omega arith) (omega arith) c.loop-n.invariant.known
      (λ place p. subst (HasBlock c.sliced_key.result place) c.round_key-in-loop-n.ensures (c.sliced_key.ensures place p));
  long = length-set _ _ _ ∙ c.loop-n.invariant.long;
}

pub returns : goal.returns
returns c n d h = c.loop-n.invariant.known n d (omega arith)
