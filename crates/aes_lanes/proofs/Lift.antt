-- A relation that the gates keep goes from the inputs of a part to its outputs.
use Rattle.std.proofs.Common.{◌≡◌, ℕ, zero, suc, ◌+◌, ◌-◌, List, [], ◌∷◌, ◌++◌, length, ◌∙◌, sym, arith}
use Rattle.std.specs.Prelude.{map}
use Rattle.std.proofs.lemmas.List.{length-map}
use Rattle.aes_lanes.specs.Circuit.{Gate, Part, Signals, evaluated, outputs_of}
use Rattle.aes_lanes.specs.Circuit.Gate.{Xor, And}
use Rattle.aes_lanes.specs.Sliced.{Related}
use Rattle.aes_lanes.specs.SBox.{sums, norm, inverse, products, substitutes, s_box_bits}

pub record Keeps {A B : Type 0} (R : A → B → Type 0) (s : Signals A) (t : Signals B) : Type 0 where
  pub xor : (a a' : A) (b b' : B) → R a b → R a' b' → R (s.xor a a') (t.xor b b')
  pub «and» : (a a' : A) (b b' : B) → R a b → R a' b' → R (s.«and» a a') (t.«and» b b')
  pub none : R s.none t.none

pub Related-[] : {A B : Type 0} (R : A → B → Type 0) (a : A) (b : B) → R a b → Related R a b [] []
unfolding Related
Related-[] R a b h i = h

pub Related-∷ : {A B : Type 0} (R : A → B → Type 0) (a : A) (b : B) (x : A) (y : B) (xs : List A) (ys : List B)
    → R x y → Related R a b xs ys → Related R a b (x ∷ xs) (y ∷ ys)
unfolding Related
Related-∷ R a b x y xs ys h rest zero = h
Related-∷ R a b x y xs ys h rest (suc i) = rest i

pub Related-++ : {A B : Type 0} (R : A → B → Type 0) (a : A) (b : B) (xs : List A) (ys : List B) (us : List A) (vs : List B)
    → length xs ≡ length ys → Related R a b xs ys → Related R a b us vs → Related R a b (xs ++ us) (ys ++ vs)
unfolding Related
Related-++ R a b [] [] us vs long h k = k
Related-++ R a b [] (y ∷ ys) us vs long h k = absurd (omega (arith, long))
Related-++ R a b (x ∷ xs) [] us vs long h k = absurd (omega (arith, long))
Related-++ R a b (x ∷ xs) (y ∷ ys) us vs long h k =
    Related-∷ R a b x y (xs ++ us) (ys ++ vs) (h zero) (Related-++ R a b xs ys us vs (omega (arith, long)) (λ i. h (suc i)) k)

Related-map : {A B : Type 0} (R : A → B → Type 0) (a : A) (b : B) (f : ℕ → A) (g : ℕ → B) → R a b → ((k : ℕ) → R (f k) (g k))
    → (ks : List ℕ) → Related R a b (map f ks) (map g ks)
Related-map R a b f g none each [] = Related-[] R a b none
Related-map R a b f g none each (k ∷ ks) = Related-∷ R a b (f k) (g k) (map f ks) (map g ks) (each k) (Related-map R a b f g none each ks)

Related-evaluated : {A B : Type 0} (R : A → B → Type 0) (s : Signals A) (t : Signals B) → Keeps R s t → (count : ℕ) (gates : List Gate)
    (xs : List A) (ys : List B) → Related R s.none t.none xs ys → Related R s.none t.none (evaluated s count gates xs) (evaluated t count gates ys)
unfolding Related
Related-evaluated R s t keeps count [] xs ys h = h
Related-evaluated R s t keeps count (Xor i j ∷ gates) xs ys h =
    Related-evaluated R s t keeps (count + 1) gates _ _
    (Related-∷ R s.none t.none _ _ xs ys (keeps.xor _ _ _ _ (h (count - (i + 1))) (h (count - (j + 1)))) h)
Related-evaluated R s t keeps count (And i j ∷ gates) xs ys h =
    Related-evaluated R s t keeps (count + 1) gates _ _
    (Related-∷ R s.none t.none _ _ xs ys (keeps.«and» _ _ _ _ (h (count - (i + 1))) (h (count - (j + 1)))) h)

pub Related-part : {A B : Type 0} (R : A → B → Type 0) (s : Signals A) (t : Signals B) → Keeps R s t → (part : Part) (xs : List A) (ys : List B)
    → Related R s.none t.none xs ys → Related R s.none t.none (outputs_of s part xs) (outputs_of t part ys)
unfolding outputs_of Related
Related-part R s t keeps part xs ys h =
    let all = Related-evaluated R s t keeps part.inputs part.gates xs ys h in
    Related-map R s.none t.none _ _ keeps.none (λ (k : ℕ). all (part.inputs + length part.gates - (k + 1))) part.outputs

length-part : {A B : Type 0} (s : Signals A) (t : Signals B) (part : Part) (xs : List A) (ys : List B) → length (outputs_of s part xs) ≡ length (outputs_of t part ys)
unfolding outputs_of
length-part s t part xs ys = length-map part.outputs _ ∙ sym (length-map part.outputs _)

pub Related-s_box_bits : {A B : Type 0} (R : A → B → Type 0) (s : Signals A) (t : Signals B) → Keeps R s t → (a : A) (b : B) (xs : List A) (ys : List B)
    → R a b → Related R s.none t.none xs ys → Related R s.none t.none (s_box_bits s a xs) (s_box_bits t b ys)
Related-s_box_bits R s t keeps a b xs ys ones h =
    let known = Related-part R s t keeps sums xs ys h in
    let one = Related-part R s t keeps norm _ _ known in
    let turned = Related-part R s t keeps inverse _ _ one in
    let both = Related-++ R s.none t.none _ _ _ _ (length-part s t inverse _ _) turned known in
    Related-part R s t keeps substitutes _ _ (Related-∷ R s.none t.none a b _ _ ones (Related-part R s t keeps products _ _ both))
