-- Words in a row, as a reader takes them off.
use Rattle.std.proofs.Common.{◌≡◌, Bool, true, false, cond, List, [], ◌∷◌, Option, Some, ℕ, refl, sym, subst}
use Rattle.std.specs.Str.{bytes_eq}
use Rattle.std.proofs.lemmas.Slice.Eq.{bytes_eq-Decides}
use Rattle.script_core.specs.Reading.{◌>>=◌, word_at, end_at}
use Rattle.script_core.proofs.Options.{some_is, bind_some}

-- a word that is read, and what reads the words behind it
pub field_some : {A B : Type 0} (read : List ℕ → Option A) (go_on : A → List (List ℕ) → Option B) (words : List (List ℕ)) (y : B)
    → (word_at words >>= λ w. read w.0 >>= λ x. go_on x w.1) ≡ Some y
    → (word : List ℕ) × (rest : List (List ℕ)) × (x : A) × (words ≡ word ∷ rest) × (read word ≡ Some x) × (go_on x rest ≡ Some y)
field_some read go_on [] y h = absurd cc
field_some read go_on (word ∷ rest) y h = let b = bind_some (read word) (λ x. go_on x rest) y h in (word, rest, b.0, refl, b.1, b.2)

-- the end of the words
pub end_some : {B : Type 0} (words : List (List ℕ)) (x y : B) → (end_at words >>= λ _. Some x) ≡ Some y → (words ≡ []) × (x ≡ y)
end_some [] x y h = (refl, some_is x y h)
end_some (word ∷ words) x y h = absurd cc

-- a step that chooses by the name of a word: what P holds of, where the word has this name or another
pub named : {A : Type 0} (P : List ℕ → A → Type 0) (same : Bool) (word name : List ℕ) (x : A) (this others : Option A) → (this ≡ Some x → P name x) → (others ≡ Some x → P word x)
    → bytes_eq word name ≡ same → cond same this others ≡ Some x → P word x
named P true word name x this others found rest e h = subst (λ (w : List ℕ). P w x) (sym ((bytes_eq-Decides word name).0 e)) (found h)
named P false word name x this others found rest e h = rest h
