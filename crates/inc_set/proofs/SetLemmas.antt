-- What a set has programmed, and what it may program next.
use Rattle.std.proofs.Common.{◌≡◌, ◌⊎◌, ℕ, zero, suc, ◌+◌, ◌-◌, ◌*◌, ◌/◌, ◌%◌, ◌<◌, ◌≤◌, List, [], ◌∷◌, ◌++◌, length, take, drop, refl, sym, ◌∙◌, ap, subst, arith, ⊎_elim, append_assoc, append-nil, length-append}
use Rattle.std.specs.Option.{ForSome}
use Rattle.std.proofs.lemmas.List.{length-take}
use Rattle.std.proofs.lemmas.Nat.{div-add-mod'}
use Rattle.std.proofs.Math.Nat.{zero-mod}
use Rattle.std.proofs.Math.Seq.{drop-append_seam, drop-length}
use Rattle.base_core.specs.Units.{IsMultipleOf, up}
use Rattle.base_core.proofs.UnitLemmas.{IsMultipleOf-add, IsMultipleOf-mul, up-ge, up-multiple}
use Rattle.flash_core.specs.declared.geometry.Geometry.{Geometry}
use Rattle.flash_core.specs.Runs.{Ending, Done}
use Rattle.flash_core.specs.Sizes.{area_size, size_of}
use Rattle.flash_core.specs.State.{FlashState, IsLawful}
use Rattle.flash_core.proofs.GeometryLaws.{prog_positive, size-areas}
use Rattle.record_core.specs.Cuts.{IsInArea, base_of}
use Rattle.record_core.specs.Written.{CanWrite}
use Rattle.inc_set.specs.declared.open_set.OpenSet.{OpenSet}
use Rattle.inc_set.specs.Programs.{Programs}
use Rattle.inc_set.specs.Sets.{IsAhead, IsPlaced, done_size, new_units, payload_place, set_size}
use Rattle.inc_set.specs.Units.{IsHeld, completed_units, key_units, programmed, programmed_size, rest_of, whole_size, whole_units}
use Rattle.inc_set.proofs.AscendLemmas.{can_behind, programs_then}
use Rattle.inc_set.proofs.UnitLemmas.{length-rest_of, length-whole_units, rest_of-append, whole_and_rest, whole_units-append, whole_units-whole}

-- ---- sizes

base_fits : (g : Geometry) (k : ℕ) → (k ≡ 0) ⊎ (k ≡ 1) → base_of g k + area_size g ≤ size_of g
base_fits g k number = ⊎_elim
    (λ first. subst (λ (n : ℕ). n * area_size g + area_size g ≤ size_of g) (sym first) (omega (arith, size-areas g)))
    (λ second. subst (λ (n : ℕ). n * area_size g + area_size g ≤ size_of g) (sym second) (omega (arith, size-areas g)))
    number

pub area_fits : (g : Geometry) (k place n : ℕ) → IsInArea g k place n → place + n ≤ size_of g
area_fits g k place n inside = omega (arith, inside.to, base_fits g k inside.number)

pub set_fits : {g : Geometry} {rest : List ℕ} {set : OpenSet} → IsPlaced g rest set → set.at + set_size g.prog set ≤ size_of g
set_fits {g} {rest} {set} placed = area_fits g placed.area set.at (set_size g.prog set) placed.inside

pub programmed-whole : (prog k n : ℕ) → IsMultipleOf prog (programmed_size prog k n)
programmed-whole prog k zero = zero-mod prog
programmed-whole prog k (suc n) = IsMultipleOf-mul prog ((k + suc n) / prog)

pub programmed-most : (prog k n : ℕ) → programmed_size prog k n ≤ k + n
programmed-most prog k zero = omega arith
programmed-most prog k (suc n) = omega (arith, div-add-mod' (k + suc n) prog)

pub programmed-some : (prog k n : ℕ) → 1 ≤ n → programmed_size prog k n ≡ whole_size prog (k + n)
programmed-some prog k zero some = absurd (omega (arith, some))
programmed-some prog k (suc n) some = refl

-- with the key's units it is all that is whole
pub key_then : (prog : ℕ) → 0 < prog → (key : List ℕ) (n : ℕ) → programmed_size prog (length key) n + length (key_units prog key n) ≡ whole_size prog (length key + n)
key_then prog positive key zero = let same : length key + 0 ≡ length key = omega arith in omega (arith, length-whole_units prog positive key ∙ ap (whole_size prog) (sym same))
key_then prog positive key (suc n) = omega arith

pub key-whole : (prog : ℕ) → 0 < prog → (key : List ℕ) (n : ℕ) → IsMultipleOf prog (length (key_units prog key n))
key-whole prog positive key zero = whole_units-whole prog positive key
key-whole prog positive key (suc n) = zero-mod prog

take_most : (n : ℕ) (xs : List ℕ) → length (take n xs) ≤ n
take_most n xs = omega (arith, length-take n xs)

-- how much is held, and where the next unit stands
pub held_is : (set : OpenSet) (prog unit : ℕ) (lent : List ℕ) → unit ≡ prog → lent ≡ set.key → (length lent + set.fed) % unit ≡ (length set.key + set.fed) % prog
held_is set prog unit lent unit_is lent_is =
    ap (λ (l : List ℕ). (length l + set.fed) % unit) lent_is ∙ ap (λ (n : ℕ). (length set.key + set.fed) % n) unit_is

pub place_is : (set : OpenSet) (prog unit header : ℕ) (lent : List ℕ) → unit ≡ prog → lent ≡ set.key → header ≡ up unit 24
    → set.at + header + (length lent + set.fed - (length lent + set.fed) % unit) ≡ payload_place prog set + whole_size prog (length set.key + set.fed)
place_is set prog unit header lent unit_is lent_is header_is =
    omega (arith, header_is ∙ ap (λ (n : ℕ). up n 24) unit_is, held_is set prog unit lent unit_is lent_is, ap length lent_is, div-add-mod' (length set.key + set.fed) prog)

-- ---- what may be written

module _ (s : FlashState) (rest : List ℕ) (set : OpenSet) (placed : IsPlaced s.geometry rest set) (ahead : ForSome s.image (λ image. IsAhead s.geometry image set)) where
  pub can_ahead : (n : ℕ) → done_size s.geometry.prog set + n ≤ up s.geometry.prog (length set.key + set.size) → CanWrite s (payload_place s.geometry.prog set + done_size s.geometry.prog set) n
  can_ahead n within =
      let prog : ℕ = s.geometry.prog in
      record {
        aligned = IsMultipleOf-add prog (set.at + up prog 24) (done_size prog set) (IsMultipleOf-add prog set.at (up prog 24) placed.aligned (up-multiple prog 24)) (programmed-whole prog (length set.key) set.fed);
        inside = omega (arith, within, set_fits placed);
        erased = λ image told i from to. (ahead image told).payload i from (omega (arith, to, within));
      }

  payload_most : length set.key + set.size ≤ up s.geometry.prog (length set.key + set.size)
  payload_most = up-ge s.geometry.prog (length set.key + set.size) (prog_positive s.geometry placed.valid)

  -- the key's units, where no byte came yet
  pub can_key : set.fed ≡ 0 → CanWrite s (payload_place s.geometry.prog set) (length (whole_units s.geometry.prog set.key))
  can_key none =
      let prog : ℕ = s.geometry.prog in
      let nothing : done_size prog set ≡ 0 = ap (programmed_size prog (length set.key)) none in
      let at : payload_place prog set + done_size prog set ≡ payload_place prog set = omega (arith, nothing) in
      subst (λ (p : ℕ). CanWrite s p (length (whole_units prog set.key))) at
      (can_ahead (length (whole_units prog set.key))
      (omega (arith, nothing, length-whole_units prog (prog_positive s.geometry placed.valid) set.key, div-add-mod' (length set.key) prog, payload_most)))

  pub key_place : set.fed ≡ 0 → payload_place s.geometry.prog set ≡ payload_place s.geometry.prog set + done_size s.geometry.prog set
  key_place none =
      let nothing : done_size s.geometry.prog set ≡ 0 = ap (programmed_size s.geometry.prog (length set.key)) none in
      omega (arith, nothing)

  module _ (bytes : List ℕ) (lawful : IsLawful s) (fits : set.fed + length bytes ≤ set.size) (mid : FlashState)
      (first : Programs s mid (payload_place s.geometry.prog set + done_size s.geometry.prog set) (key_units s.geometry.prog set.key set.fed) Done) where
    abbrev pub all_before : List ℕ
    all_before = take ((length set.key + set.fed) % s.geometry.prog) rest ++ bytes

    behind_key : payload_place s.geometry.prog set + done_size s.geometry.prog set + length (key_units s.geometry.prog set.key set.fed) ≡ payload_place s.geometry.prog set + whole_size s.geometry.prog (length set.key + set.fed)
    behind_key = omega (arith, key_then s.geometry.prog (prog_positive s.geometry placed.valid) set.key set.fed)

    before_most : length all_before ≤ (length set.key + set.fed) % s.geometry.prog + length bytes
    before_most = omega (arith, length-append (take ((length set.key + set.fed) % s.geometry.prog) rest) bytes, take_most ((length set.key + set.fed) % s.geometry.prog) rest)

    room : done_size s.geometry.prog set + (length (key_units s.geometry.prog set.key set.fed) + length (whole_units s.geometry.prog all_before)) ≤ up s.geometry.prog (length set.key + set.size)
    room =
        let prog : ℕ = s.geometry.prog in
        omega (
          arith,
          key_then prog (prog_positive s.geometry placed.valid) set.key set.fed,
          length-whole_units prog (prog_positive s.geometry placed.valid) all_before,
          before_most,
          div-add-mod' (length all_before) prog,
          div-add-mod' (length set.key + set.fed) prog,
          payload_most,
          fits,
        )

    can_all : CanWrite s (payload_place s.geometry.prog set + done_size s.geometry.prog set) (length (key_units s.geometry.prog set.key set.fed) + length (whole_units s.geometry.prog all_before))
    can_all = can_ahead (length (key_units s.geometry.prog set.key set.fed) + length (whole_units s.geometry.prog all_before)) room

    first_whole : IsMultipleOf s.geometry.prog (length (key_units s.geometry.prog set.key set.fed))
    first_whole = key-whole s.geometry.prog (prog_positive s.geometry placed.valid) set.key set.fed

    pub can_push : CanWrite mid (payload_place s.geometry.prog set + whole_size s.geometry.prog (length set.key + set.fed)) (length (whole_units mid.geometry.prog all_before))
    can_push =
        subst (λ (p : ℕ). CanWrite mid p (length (whole_units mid.geometry.prog all_before))) behind_key
        (subst (λ (g : Geometry). CanWrite mid (payload_place s.geometry.prog set + done_size s.geometry.prog set + length (key_units s.geometry.prog set.key set.fed)) (length (whole_units g.prog all_before))) (sym first.runs.kept.geometry)
        (can_behind (length (whole_units s.geometry.prog all_before)) lawful first first_whole can_all))

    pub pushed : {new : FlashState} {ending : Ending} → Programs mid new (payload_place s.geometry.prog set + whole_size s.geometry.prog (length set.key + set.fed)) (whole_units mid.geometry.prog all_before) ending
        → Programs s new (payload_place s.geometry.prog set + done_size s.geometry.prog set) (completed_units s.geometry.prog set.key set.fed rest bytes) ending
    pushed {new} {ending} second =
        programs_then lawful first
        (subst (λ (p : ℕ). Programs mid new p (whole_units s.geometry.prog all_before) ending) (sym behind_key)
        (subst (λ (g : Geometry). Programs mid new (payload_place s.geometry.prog set + whole_size s.geometry.prog (length set.key + set.fed)) (whole_units g.prog all_before) ending) first.runs.kept.geometry second))
        first_whole
        (omega (arith, can_all.inside, length-append (key_units s.geometry.prog set.key set.fed) (whole_units s.geometry.prog all_before)))

-- ---- what the bytes so far have to do with it

-- whole units of both
both_whole : (prog : ℕ) → 0 < prog → (xs bytes : List ℕ) → whole_units prog (xs ++ bytes) ≡ whole_units prog xs ++ whole_units prog (rest_of prog xs ++ bytes)
both_whole prog positive xs bytes =
    ap (λ (l : List ℕ). whole_units prog (l ++ bytes)) (sym (whole_and_rest prog positive xs))
    ∙ ap (whole_units prog) (append_assoc (whole_units prog xs) (rest_of prog xs) bytes)
    ∙ whole_units-append prog positive (whole_units prog xs) (rest_of prog xs ++ bytes) (whole_units-whole prog positive xs)

pub both_rest : (prog : ℕ) → 0 < prog → (xs bytes : List ℕ) → rest_of prog (xs ++ bytes) ≡ rest_of prog (rest_of prog xs ++ bytes)
both_rest prog positive xs bytes =
    ap (λ (l : List ℕ). rest_of prog (l ++ bytes)) (sym (whole_and_rest prog positive xs))
    ∙ ap (rest_of prog) (append_assoc (whole_units prog xs) (rest_of prog xs) bytes)
    ∙ rest_of-append prog positive (whole_units prog xs) (rest_of prog xs ++ bytes) (whole_units-whole prog positive xs)

pub length-programmed : (prog : ℕ) → 0 < prog → (key before : List ℕ) → length (programmed prog key before) ≡ programmed_size prog (length key) (length before)
length-programmed prog positive key [] = refl
length-programmed prog positive key (b ∷ before) = length-whole_units prog positive (key ++ b ∷ before) ∙ ap (whole_size prog) (length-append key (b ∷ before))

-- the buffer has what remains of the key and the bytes
pub waiting : (prog : ℕ) → 0 < prog → (key before rest : List ℕ) → IsHeld rest (rest_of prog (key ++ before)) → take ((length key + length before) % prog) rest ≡ rest_of prog (key ++ before)
waiting prog positive key before rest waits =
    ap (λ (n : ℕ). take n rest) (ap (λ (n : ℕ). n % prog) (sym (length-append key before)) ∙ sym (length-rest_of prog positive (key ++ before))) ∙ waits

pub grown : (prog : ℕ) → 0 < prog → (key before rest bytes : List ℕ) → 1 ≤ length bytes → IsHeld rest (rest_of prog (key ++ before))
    → programmed prog key (before ++ bytes) ≡ programmed prog key before ++ completed_units prog key (length before) rest bytes
grown prog positive key [] rest [] some waits = absurd (omega (arith, some))
grown prog positive key [] rest (b ∷ bytes) some waits =
    let key_is : key ++ [] ≡ key = append-nil key in
    let held : take ((length key + 0) % prog) rest ≡ rest_of prog key = waiting prog positive key [] rest waits ∙ ap (rest_of prog) key_is in
    both_whole prog positive key (b ∷ bytes) ∙ ap (λ (l : List ℕ). whole_units prog key ++ whole_units prog (l ++ b ∷ bytes)) (sym held)
grown prog positive key (a ∷ before) rest bytes some waits =
    let held = waiting prog positive key (a ∷ before) rest waits in
    ap (whole_units prog) (sym (append_assoc key (a ∷ before) bytes))
    ∙ both_whole prog positive (key ++ a ∷ before) bytes
    ∙ ap (λ (l : List ℕ). whole_units prog (key ++ a ∷ before) ++ whole_units prog (l ++ bytes)) (sym held)

-- what is programmed anew
pub new_is : (prog : ℕ) → 0 < prog → (key before rest bytes : List ℕ) → 1 ≤ length bytes → IsHeld rest (rest_of prog (key ++ before)) → completed_units prog key (length before) rest bytes ≡ new_units prog key before bytes
new_is prog positive key before rest bytes some waits =
    sym (ap (drop (length (programmed prog key before))) (grown prog positive key before rest bytes some waits)
    ∙ drop-append_seam (programmed prog key before) (completed_units prog key (length before) rest bytes))

-- no bytes program nothing
pub new_none : (prog : ℕ) (key before : List ℕ) → new_units prog key before [] ≡ []
new_none prog key before = ap (λ (l : List ℕ). drop (length (programmed prog key before)) (programmed prog key l)) (append-nil before) ∙ drop-length (programmed prog key before)
