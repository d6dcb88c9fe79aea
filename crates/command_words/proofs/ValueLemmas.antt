-- Options that are given twice, and so many words.
use Rattle.std.proofs.Common.{◌≡◌, ℕ, ◌≤◌, false, List, [], ◌∷◌, length, Option, Some, None, arith}
use Rattle.std.specs.Prelude.{slice_get, is_some, MatchOption}
use denote.Ref.{Bor}
use Rattle.command_words.specs.Values.{Says}

pub twice_says_nothing : {A : Type 0} (Spells : List ℕ → A → Type 0) (default : A) (values : List (List ℕ)) → 2 ≤ length values → (y : A) → Says Spells default values y → ⊥
twice_says_nothing Spells default [] h y says = omega arith
twice_says_nothing Spells default (word ∷ []) h y says = omega arith
twice_says_nothing Spells default (word ∷ again ∷ words) h y says = says

pub none_at : (r : Option (Bor (List ℕ))) (words : List (List ℕ)) (n : ℕ) → MatchOption r (slice_get words n ≡ None) (λ w. slice_get words n ≡ Some w.now) → is_some r ≡ false → slice_get words n ≡ None
none_at None words n h e = h
none_at (Some w) words n h e = absurd cc

pub one : (words : List (List ℕ)) (a : List ℕ) → slice_get words 0 ≡ Some a → slice_get words 1 ≡ None → words ≡ a ∷ []
one [] a p e = absurd cc
one (x ∷ []) a p e = cc
one (x ∷ more ∷ words) a p e = absurd cc

pub three : (words : List (List ℕ)) (a b c : List ℕ) → slice_get words 0 ≡ Some a → slice_get words 1 ≡ Some b → slice_get words 2 ≡ Some c → slice_get words 3 ≡ None → words ≡ a ∷ b ∷ c ∷ []
three [] a b c p q r e = absurd cc
three (x ∷ []) a b c p q r e = absurd cc
three (x ∷ y ∷ []) a b c p q r e = absurd cc
three (x ∷ y ∷ z ∷ []) a b c p q r e = cc
three (x ∷ y ∷ z ∷ more ∷ words) a b c p q r e = absurd cc

pub three_are : (words : List (List ℕ)) (a b c x y z : List ℕ) → words ≡ a ∷ b ∷ c ∷ [] → a ≡ x → b ≡ y → c ≡ z → words ≡ x ∷ y ∷ z ∷ []
three_are words a b c x y z are p q r = cc
