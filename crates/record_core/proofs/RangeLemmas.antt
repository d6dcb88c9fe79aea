-- What a range that was read says of erased bytes.
use Rattle.std.proofs.Common.{◌≡◌, ℕ, ◌+◌, ◌-◌, ◌<◌, ◌≤◌, List, Bool, IsTrue, length, get_or, replicate, inl, inr, sym, ◌∙◌, ap, subst, arith}
use Rattle.std.specs.Prelude.{◌↔◌, EachIndex, IfOk, Ok, Err, Result, slice_index}
use Rattle.std.proofs.lemmas.Bool.{cases_lt}
use Rattle.std.proofs.lemmas.List.{get_or-replicate}
use Rattle.flash_core.specs.Images.{part, IsErased}
use Rattle.flash_core.proofs.ImageLaws.{get_or-part, part-IsErased}
use Rattle.kv_model.specs.declared.error.KvError.{KvError}

-- what was read is erased where the image is
pub erased_part : (image : List ℕ) (place n : ℕ) (bytes : List ℕ) → bytes ≡ part image place n → length bytes ≡ n → EachIndex bytes (λ k. slice_index bytes k ≡ 255) ↔ IsErased image place n
erased_part image place n bytes is long = (
  λ erased i from to.
      let lt : i - place < n = omega arith in
      let at : place + (i - place) ≡ i = omega arith in
      ap (λ (k : ℕ). get_or image k 0) (sym at)
      ∙ sym (get_or-part image place n (i - place) lt)
      ∙ ap (λ (l : List ℕ). get_or l (i - place) 0) (sym is)
      ∙ erased (i - place) (omega (arith, lt, long)),
  λ erased k inside.
      let lt : k < n = omega (arith, inside, long) in
      ap (λ (l : List ℕ). get_or l k 0) is ∙ get_or-part image place n k lt ∙ erased (place + k) (omega arith) (omega (arith, lt)),
)

-- an erased piece more
pub erased_more : (image : List ℕ) (place done count : ℕ) → IsErased image place done → IsErased image (place + done) count → IsErased image place (done + count)
erased_more image place done count before piece i from to = elim (cases_lt i (place + done)) [
  | inl below ↦ before i from below
  | inr behind ↦ piece i behind (omega arith)
]

-- a range that is 0xFF is erased
IsErased-part : (image : List ℕ) (place n : ℕ) → part image place n ≡ replicate n 255 → IsErased image place n
IsErased-part image place n is i from to =
    let lt : i - place < n = omega arith in
    let at : place + (i - place) ≡ i = omega arith in
    ap (λ (k : ℕ). get_or image k 0) (sym at)
    ∙ sym (get_or-part image place n (i - place) lt)
    ∙ ap (λ (l : List ℕ). get_or l (i - place) 0) is
    ∙ get_or-replicate n (i - place) 255 0 lt

-- the same, as it is said of padding
pub padding_is : (image : List ℕ) (place n m : ℕ) → n ≡ m → place + m ≤ length image → (result : Result Bool KvError) → IfOk result (λ b. IsTrue b ↔ IsErased image place n)
    → IfOk result (λ b. IsTrue b ↔ (part image place m ≡ replicate m 255))
padding_is image place n m same fits (Ok b) is =
    let erased : IsTrue b ↔ IsErased image place m = subst (λ (k : ℕ). IsTrue b ↔ IsErased image place k) same is in
    (λ true. part-IsErased image place m fits (erased.0 true), λ pad. erased.1 (IsErased-part image place m pad))
padding_is image place n m same fits (Err e) is = tt
