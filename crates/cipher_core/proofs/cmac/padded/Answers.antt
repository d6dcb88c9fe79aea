use Rattle.std.proofs.Common.{◌≡◌, ◌<◌, ◌-◌, ℕ, List, ◌∷◌, ◌++◌, length, drop, get_or, set, replicate, refl, ap, ◌∙◌, drop-cons}
use Rattle.std.proofs.lemmas.List.{set_at, drop-replicate}
use Rattle.cipher_core.specs.Cmac.{padded, zero_block}
use Rattle.cipher_core.proofs.cmac.padded.Goals as goal

set-drop-zero_block : (part : List ℕ) → length part < 16 → set (part ++ drop (length part) zero_block) (length part) 128 ≡ part ++ 128 ∷ replicate (15 - length part) 0
set-drop-zero_block part h =
    ap (λ (xs : List ℕ). set (part ++ xs) (length part) 128) (drop-cons zero_block (length part) 0 h)
    ∙ set_at part (get_or zero_block (length part) 0) (drop (length part) (replicate 15 0)) 128 (length part) refl
    ∙ ap (λ (xs : List ℕ). part ++ 128 ∷ xs) (drop-replicate (length part) 15 0)

pub returns : goal.returns
unfolding padded
returns c =
    ap (λ (xs : List ℕ). set (xs ++ drop (length c.args.part.now) zero_block) (length c.args.part.now) 128) c.copy_from_slice.ensures.after
    ∙ set-drop-zero_block c.args.part.now c.requires
