use Rattle.std.proofs.Common.{◌+◌, ℕ, sym, ap, arith}
use Rattle.sealed_pair.proofs.AbsorbingLemmas.{all_absorbed}
use Rattle.sealed_pair.proofs.opening.absorb_all.Goals as goal

pub returns-clause-absorbed : goal.returns-clause-absorbed
returns-clause-absorbed g c =
    all_absorbed g.K.Kv.rules_by c.args.key.now (g.K.Kv.state c.args.store.now) (g.K.Kv.state c.skip.new.store) (g.K.Kv.state c.absorb_part.new.store)
    c.head_size-place.result c.args.offset c.size-size.result _ c.head_size-place.ensures c.size-size.ensures
    (ap (λ (k : ℕ). c.args.offset + k) (sym c.absorb_part.auto.buf)) (omega (arith, c.requires.within, c.size-size.ensures))
    c.in_ok-skip.ensures.read c.in_ok-absorb_part.ensures.read c.in_ok-skip.ensures.skipped c.in_ok-absorb_part.ensures.absorbed c.in_ok-skip-2.ensures.skipped
