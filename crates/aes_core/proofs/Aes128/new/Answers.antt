use Rattle.std.proofs.Common.{◌≡◌, ℕ, List, [], ◌∷◌, arith, refl, ◌∙◌, ap, sym}
use Rattle.std.proofs.lemmas.List.{length-set}
use Rattle.aes_core.specs.Aes.{round_key}
use Rattle.aes_core.specs.declared.columns.Columns.{Columns}
use Rattle.aes_core.proofs.Rounds.{AreRoundKeys-none, AreRoundKeys-more, get_or-ROUND_CONSTANTS}
use Rattle.aes_core.proofs.Aes128.new.Goals as goal

pub loop-i-init : goal.loop-i-init
loop-i-init c = record { known = AreRoundKeys-none _ _ (k ∷ k ∷ k ∷ k ∷ k ∷ k ∷ k ∷ k ∷ k ∷ k ∷ []) c.from_bytes-first.ensures; long = refl }
  where
    k : Columns
    k = c.from_bytes-first.result

pub loop-i-preserved : goal.loop-i-preserved
loop-i-preserved c = record {
  known = AreRoundKeys-more _ _ _ _ _ _ c.loop-i.invariant.known (omega arith) (get_or-ROUND_CONSTANTS _ c.loop-i-test.true) c.next_round_key.ensures;
  long = length-set _ _ _ ∙ c.loop-i.invariant.long;
}

pub invariant_of-result : goal.invariant_of-result
unfolding round_key
invariant_of-result c n d h =
    let end : c.loop-i.i ≡ 10 = omega arith in
    let key = c.loop-i.invariant.known 0 (record { first = 0; second = 0; third = 0; fourth = 0 }) (omega arith) in
    c.loop-i.invariant.known n d (rw end h) ∙ ap (λ (k : List ℕ). round_key k n) (sym key)

pub returns : goal.returns
unfolding round_key
returns c = c.loop-i.invariant.known 0 _ (omega arith)
