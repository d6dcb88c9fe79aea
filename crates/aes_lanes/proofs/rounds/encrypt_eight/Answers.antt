use Rattle.std.proofs.Common.{◌≡◌, ℕ, ◌+◌, subst, sym, arith}
use Rattle.aes_core.specs.Aes.{after_rounds, encrypted, round_key}
use Rattle.aes_core.proofs.Rounds.{after_rounds-more}
use Rattle.aes_lanes.specs.Sliced.{HasBlock}
use Rattle.aes_lanes.proofs.rounds.encrypt_eight.Goals as goal

pub loop-i-init : goal.loop-i-init
unfolding after_rounds
loop-i-init c key block place p keys h = c.add_round_key-state.ensures place block (round_key key 0) h (keys 0 _ (omega arith) place p)

pub loop-i-preserved : goal.loop-i-preserved
loop-i-preserved c key block place p keys h =
    subst (HasBlock c.round-state.result place) (sym (after_rounds-more key block c.loop-i.i))
    (c.round-state.ensures place _ _ p (c.loop-i.invariant key block place p keys h) (keys (c.loop-i.i + 1) _ (omega arith) place p))

pub returns : goal.returns
unfolding encrypted
returns c key block place p keys h =
    let end : c.loop-i.i ≡ 9 = omega arith in
    c.last_round.ensures place _ _ p
    (subst (λ (n : ℕ). HasBlock c.loop-i.state place (after_rounds key block n)) end (c.loop-i.invariant key block place p keys h))
    (keys 10 _ (omega arith) place p)
