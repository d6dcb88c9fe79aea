use Rattle.std.proofs.Common.{◌≡◌, ℕ, ◌+◌, List, ap, ap₂, ◌∙◌, arith, sym}
use Rattle.aes_core.specs.Aes.{encrypted, after_rounds, add_round_key, mix_columns, shift_rows, sub_bytes}
use Rattle.aes_core.specs.Words.{bytes_of}
use Rattle.aes_core.proofs.Rounds.{after_rounds-more}
use Rattle.aes_core.proofs.Aes128.encrypt_columns.Goals as goal

pub loop-i-init : goal.loop-i-init
unfolding after_rounds
loop-i-init c = c.with_key-state.ensures ∙ ap (add_round_key (bytes_of c.args.block)) (c.self.invariant 0 _ (omega arith))

pub loop-i-preserved : goal.loop-i-preserved
loop-i-preserved c =
    c.round-state.ensures
    ∙ ap₂ add_round_key (ap (λ (s : List ℕ). mix_columns (shift_rows (sub_bytes s))) c.loop-i.invariant) (c.self.invariant (c.loop-i.i + 1) _ (omega arith))
    ∙ sym (after_rounds-more _ _ _)

pub returns : goal.returns
unfolding encrypted
returns c =
    let end : c.loop-i.i ≡ 9 = omega arith in
    c.last_round.ensures
    ∙ ap₂ add_round_key (ap (λ (s : List ℕ). shift_rows (sub_bytes s)) (rw end at c.loop-i.invariant)) (c.self.invariant 10 _ (omega arith))
    ∙ ap (λ (key : List ℕ). encrypted key (bytes_of c.args.block)) c.self.view_is
