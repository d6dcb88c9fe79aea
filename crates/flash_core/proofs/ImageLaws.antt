-- What a put leaves of an image, and what a cut may.
use Rattle.std.proofs.Common.{◌≡◌, ◌⊎◌, ℕ, ◌+◌, ◌-◌, ◌<◌, ◌≤◌, List, [], ◌++◌, length, get_or, take, drop, replicate, refl, sym, ◌∙◌, ap, arith, subst, inl, ⊎_elim, add-zero}
use Rattle.std.proofs.lemmas.List.{places, ext_get_or, same_lists, get_or-drop, length-drop, length-take, length-replicate, get_or-replicate, append-nil, drop-drop, drop-take, take-append-drop, take-take}
use Rattle.flash_core.specs.Images.{part, put, IsErased, Torn}
use Rattle.flash_core.specs.State.{call_at, before_of, after_of}

pub length-part : (image : List ℕ) (place n : ℕ) → place + n ≤ length image → length (part image place n) ≡ n
length-part image place n fits = simp (length-take, length-drop) (omega arith)

pub get_or-part : (image : List ℕ) (place n i : ℕ) → i < n → get_or (part image place n) i 0 ≡ get_or image (place + i) 0
get_or-part image place n i inside = grind (arith, places)

module _ (image : List ℕ) (place : ℕ) (bytes : List ℕ) (fits : place + length bytes ≤ length image) where
  pub length-put : length (put image place bytes) ≡ length image
  length-put = search (arith, places)

  pub get_or-put_below : (i : ℕ) → i < place → get_or (put image place bytes) i 0 ≡ get_or image i 0
  get_or-put_below i below = grind (arith, places)

  pub get_or-put_inside : (i : ℕ) → i < length bytes → get_or (put image place bytes) (place + i) 0 ≡ get_or bytes i 0
  get_or-put_inside i inside = grind (arith, places)

  pub get_or-put_behind : (i : ℕ) → place + length bytes ≤ i → get_or (put image place bytes) i 0 ≡ get_or image i 0
  get_or-put_behind i behind = grind (arith, places)

  -- the whole image is one that a cut may leave
  pub Torn-put : Torn place (length bytes) image (put image place bytes)
  Torn-put = record { same_length = length-put; below = get_or-put_below; behind = get_or-put_behind }

  pub part-put_same : part (put image place bytes) place (length bytes) ≡ bytes
  part-put_same = ext_get_or 0 _ _ (length-part (put image place bytes) place (length bytes) (omega (arith, length-put)))
      (λ i inside. let lt : i < length bytes = omega (arith, inside, length-part (put image place bytes) place (length bytes) (omega (arith, length-put))) in
      get_or-part (put image place bytes) place (length bytes) i lt ∙ get_or-put_inside i lt)

  pub part-put_inside : (q m : ℕ) → q + m ≤ length bytes → part (put image place bytes) (place + q) m ≡ part bytes q m
  part-put_inside q m inside =
      let long : length (part (put image place bytes) (place + q) m) ≡ m = length-part (put image place bytes) (place + q) m (omega (arith, length-put)) in
      ext_get_or 0 _ _ (long ∙ sym (length-part bytes q m inside)) (λ i lt_long.
      let lt : i < m = omega (arith, lt_long, long) in
      let at : place + q + i ≡ place + (q + i) = omega arith in
      get_or-part (put image place bytes) (place + q) m i lt
      ∙ ap (λ (k : ℕ). get_or (put image place bytes) k 0) at
      ∙ get_or-put_inside (q + i) (omega arith)
      ∙ sym (get_or-part bytes q m i lt))

  pub take-put : (n : ℕ) → n ≤ place → take n (put image place bytes) ≡ take n image
  take-put n below = same_lists _ _ (search (arith, places)) (λ k d inside. grind (arith, places))

  pub drop-put : (n : ℕ) → place + length bytes ≤ n → drop n (put image place bytes) ≡ drop n image
  drop-put n behind = same_lists _ _ (search (arith, places)) (λ k d inside. grind (arith, places))

pub put-nil : (image : List ℕ) (place : ℕ) → put image place [] ≡ image
put-nil image place =
    ap (λ (l : List ℕ). l ++ drop (place + 0) image) (append-nil (take place image))
    ∙ ap (λ (n : ℕ). take place image ++ drop n image) (add-zero place)
    ∙ take-append-drop place image

-- two puts one behind the other
pub put-append : (image : List ℕ) (place : ℕ) (xs ys : List ℕ) → place + length (xs ++ ys) ≤ length image → put (put image place xs) (place + length xs) ys ≡ put image place (xs ++ ys)
put-append image place xs ys fits = same_lists _ _ (search (arith, places)) (λ k d inside. grind (arith, places))

pub part-append : (image : List ℕ) (place n m : ℕ) → part image place (n + m) ≡ part image place n ++ part image (place + n) m
part-append image place n m =
    let xs : List ℕ = drop place image in
    sym (take-append-drop n (take (n + m) xs))
    ∙ ap (λ (l : List ℕ). l ++ drop n (take (n + m) xs)) (take-take n (n + m) xs (omega arith))
    ∙ ap (λ (l : List ℕ). take n xs ++ l) (drop-take n m xs ∙ ap (λ (l : List ℕ). take m l) (drop-drop n place image))

-- a range that a cut doesn't touch
pub part-Torn : (place n : ℕ) (old new : List ℕ) (q m : ℕ) → Torn place n old new → (q + m ≤ place) ⊎ (place + n ≤ q) → q + m ≤ length old → part new q m ≡ part old q m
part-Torn place n old new q m torn apart fits =
    let long : length (part old q m) ≡ m = length-part old q m fits in
    let long_new : length (part new q m) ≡ m = length-part new q m (omega (arith, fits, torn.same_length)) in
    ext_get_or 0 _ _ (long_new ∙ sym long) (λ i inside.
    let lt : i < m = omega (arith, inside, long_new) in
    let same : get_or new (q + i) 0 ≡ get_or old (q + i) 0 = ⊎_elim (λ below. torn.below (q + i) (omega (arith, below, lt))) (λ behind. torn.behind (q + i) (omega (arith, behind))) apart in
    get_or-part new q m i lt ∙ same ∙ sym (get_or-part old q m i lt))

pub IsErased-Torn : (place n : ℕ) (old new : List ℕ) (q m : ℕ) → Torn place n old new → (q + m ≤ place) ⊎ (place + n ≤ q) → IsErased old q m → IsErased new q m
IsErased-Torn place n old new q m torn apart erased i from to = ⊎_elim
    (λ below. torn.below i (omega (arith, below, to)) ∙ erased i from to)
    (λ behind. torn.behind i (omega (arith, behind, from)) ∙ erased i from to)
    apart

-- a part of an erased range
pub IsErased-within : (image : List ℕ) (place n q m : ℕ) → IsErased image place n → place ≤ q → q + m ≤ place + n → IsErased image q m
IsErased-within image place n q m erased from to i at_least below = erased i (omega arith) (omega arith)

-- an erase leaves an erased unit
pub IsErased-put : (image : List ℕ) (place n : ℕ) → place + n ≤ length image → IsErased (put image place (replicate n 255)) place n
IsErased-put image place n fits i from to =
    let bytes : List ℕ = replicate n 255 in
    let long : length bytes ≡ n = length-replicate n 255 in
    let lt : i - place < n = omega arith in
    let at : place + (i - place) ≡ i = omega arith in
    ap (λ (k : ℕ). get_or (put image place bytes) k 0) (sym at)
    ∙ get_or-put_inside image place bytes (omega (arith, fits, long)) (i - place) (omega (arith, lt, long))
    ∙ get_or-replicate n (i - place) 255 0 lt

-- an image of 0xFF alone
pub IsErased-replicate : (size place n : ℕ) → place + n ≤ size → IsErased (replicate size 255) place n
IsErased-replicate size place n fits i from to = get_or-replicate size i 255 0 (omega arith)

pub part-IsErased : (image : List ℕ) (place n : ℕ) → place + n ≤ length image → IsErased image place n → part image place n ≡ replicate n 255
part-IsErased image place n fits erased =
    let long : length (part image place n) ≡ n = length-part image place n fits in
    ext_get_or 0 _ _ (long ∙ sym (length-replicate n 255)) (λ i inside.
    let lt : i < n = omega (arith, inside, long) in
    get_or-part image place n i lt ∙ erased (place + i) (omega arith) (omega (arith, lt)) ∙ sym (get_or-replicate n i 255 0 lt))

pub Torn-refl : (place n : ℕ) (image : List ℕ) → Torn place n image image
Torn-refl place n image = record { same_length = refl; below = λ i below. refl; behind = λ i behind. refl }

pub Torn-trans : {place n : ℕ} {a b c : List ℕ} → Torn place n a b → Torn place n b c → Torn place n a c
Torn-trans first second = record {
  same_length = second.same_length ∙ first.same_length;
  below = λ i below. second.below i below ∙ first.below i below;
  behind = λ i behind. second.behind i behind ∙ first.behind i behind;
}

-- what a cut leaves of a range it leaves of a larger one
pub Torn-widen : (place n wide_place wide_n : ℕ) {old new : List ℕ} → wide_place ≤ place → place + n ≤ wide_place + wide_n → Torn place n old new → Torn wide_place wide_n old new
Torn-widen place n wide_place wide_n from to torn = record {
  same_length = torn.same_length;
  below = λ i below. torn.below i (omega (arith, below, from));
  behind = λ i behind. torn.behind i (omega (arith, behind, to));
}

-- a put over the range that was cut
pub put-Torn : (place : ℕ) (old new bytes : List ℕ) → place + length bytes ≤ length old → Torn place (length bytes) old new → put new place bytes ≡ put old place bytes
put-Torn place old new bytes fits torn =
    let end : ℕ = place + length bytes in
    let front : take place new ≡ take place old = part-Torn place (length bytes) old new 0 place torn (inl (omega arith)) (omega arith) in
    let lengths : length (drop end new) ≡ length (drop end old) = length-drop end new ∙ ap (λ (n : ℕ). n - end) torn.same_length ∙ sym (length-drop end old) in
    let back : drop end new ≡ drop end old = ext_get_or 0 _ _ lengths (λ i inside. get_or-drop end new i 0 ∙ torn.behind (end + i) (omega arith) ∙ sym (get_or-drop end old i 0)) in
    ap (λ (l : List ℕ). l ++ bytes ++ drop end new) front ∙ ap (λ (l : List ℕ). take place old ++ bytes ++ l) back

pub put-part : (image : List ℕ) (place n : ℕ) → place + n ≤ length image → put image place (part image place n) ≡ image
put-part image place n fits = same_lists _ _ (search (arith, places)) (λ k d inside. grind (arith, places))

-- what a cut inside a call leaves gives back the two whole images
module _ (image : List ℕ) (place : ℕ) (bytes : List ℕ) (fits : place + length bytes ≤ length image) (c : List ℕ) (torn : Torn place (length bytes) image c) where
  pub after_of_call : after_of (call_at image place bytes) c ≡ put image place bytes
  after_of_call = put-Torn place image c bytes fits torn

  pub before_of_call : before_of (call_at image place bytes) c ≡ image
  before_of_call =
      let was : List ℕ = part image place (length bytes) in
      let long : length was ≡ length bytes = length-part image place (length bytes) fits in
      put-Torn place image c was (omega (arith, fits, long)) (subst (λ (n : ℕ). Torn place n image c) (sym long) torn) ∙ put-part image place (length bytes) fits
