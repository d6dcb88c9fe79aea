-- Round keys, sliced.
use Rattle.std.proofs.Common.{ℕ, ◌+◌, ◌-◌, ◌<◌, List, length, set, subst, sym, inl, inr, arith, get_or-set_other}
use Rattle.std.proofs.lemmas.Bool.{cases_eq}
use Rattle.std.proofs.lemmas.Grind.{get_or-set_at}
use Rattle.aes_core.specs.Aes.{round_key}
use Rattle.aes_lanes.specs.declared.registers.Registers.{Registers}
use Rattle.aes_lanes.specs.Sliced.{AreSlicedKeys, HasKey}

-- one key more
pub AreSlicedKeys-more : (key : List ℕ) (n : ℕ) (keys : List Registers) (next : Registers) → 0 < n → n < length keys
    → AreSlicedKeys key (n - 1) keys → HasKey next (round_key key n) → AreSlicedKeys key (n + 1 - 1) (set keys n next)
AreSlicedKeys-more key n keys next some within known new m d h =
    elim (cases_eq m n) [
      | inl e ↦ subst (λ (q : Registers). HasKey q (round_key key m)) (sym (get_or-set_at keys n m next d e within))
          (subst (λ (k : ℕ). HasKey next (round_key key k)) (sym e) new)
      | inr ne ↦ subst (λ (q : Registers). HasKey q (round_key key m)) (sym (get_or-set_other keys n m next d ne)) (known m d (omega arith))
    ]
