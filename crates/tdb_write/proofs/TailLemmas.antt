-- Behind the end of a log all is erased exactly where no unit of the set that is written there is programmed.
use Rattle.std.proofs.Common.{◌≡◌, ℕ, zero, suc, ◌+◌, ◌-◌, ◌*◌, ◌/◌, ◌%◌, ◌<◌, ◌≤◌, Bool, true, false, List, [], ◌∷◌, ◌++◌, length, ⊎_elim, refl, sym, ◌∙◌, ap, arith}
use Rattle.std.specs.Prelude.{◌==◌, ◌↔◌, ◌&&◌, not, nat_le, nat_lt, IsTrue, Option, Some, get_or}
use Rattle.std.specs.List.{list_all, list_any}
use Rattle.std.specs.Str.{bytes_eq}
use Rattle.std.proofs.lemmas.Bool.{cases_lt, leb-true, ltb-true}
use Rattle.std.proofs.lemmas.Bool.Decides.{nat_tests}
use Rattle.std.proofs.lemmas.List.{get_or_append_left, length-append}
use Rattle.std.proofs.lemmas.Nat.{div-add-mod'}
use mathlib.Core.Bool.{false≢true}
use Rattle.base_core.specs.Units.{up}
use Rattle.base_core.proofs.UnitLemmas.{up-ge}
use Rattle.flash_core.specs.declared.geometry.Geometry.{Geometry}
use Rattle.flash_core.specs.Images.{IsErased}
use Rattle.flash_core.proofs.GeometryLaws.{prog_positive}
use Rattle.flash_core.proofs.ImageLaws.{get_or-part}
use Rattle.kv_model.specs.Keys.{is_key, is_key_byte, is_prefix, master_key, reserved_bytes}
use Rattle.inc_set.specs.declared.open_set.OpenSet.{OpenSet as Writer}
use Rattle.inc_set.specs.Sets.{Holds, done_size, payload_place, set_size}
use Rattle.inc_set.specs.Units.{programmed, programmed_size, rest_of, whole_units}
use Rattle.inc_set.proofs.UnitLemmas.{rest_of-small, whole_and_rest}
use Rattle.tdb_write.specs.Writing.{is_unprogrammed}

both_of : (a b : Bool) → (a && b) ≡ true → (a ≡ true) × (b ≡ true)
both_of true b is = (refl, is)
both_of false b is = absurd (false≢true is)

-- ---- the first byte of a key

byte_is_low : (b : ℕ) → is_key_byte b ≡ true → b ≡ 255 → ⊥
unfolding is_key_byte
byte_is_low b is high =
    let first = both_of _ (not (list_any (λ reserved. reserved == b) reserved_bytes)) is in
    let second = both_of (nat_le 0x21 b) (nat_le b 0x7E) first.0 in
    omega (arith, leb-true b 0x7E second.1, high)

first_is_low : (bytes : List ℕ) → 1 ≤ length bytes → list_all is_key_byte bytes ≡ true → get_or bytes 0 0 ≡ 255 → ⊥
first_is_low [] some all high = omega (arith, some)
first_is_low (b ∷ bytes) some all high = byte_is_low b (both_of (is_key_byte b) _ all).0 high

key_begins_low : (key : List ℕ) → IsTrue (is_key key) → (1 ≤ length key) × (get_or key 0 0 ≡ 255 → ⊥)
unfolding is_key is_prefix
key_begins_low key is =
    let first = both_of _ (not (bytes_eq key master_key)) is in
    let second = both_of (nat_lt 0 (length key)) (is_prefix key) first.0 in
    let third = both_of _ (list_all is_key_byte key) second.1 in
    let some : 1 ≤ length key = ltb-true 0 (length key) second.0 in
    (some, first_is_low key some third.1)

-- ---- what is programmed

no_whole : (prog q left n : ℕ) → q * prog + left ≡ n → n < prog → q * prog ≡ 0
no_whole prog zero left n split less = omega arith
no_whole prog (suc q) left n split less = absurd (omega (arith, split, less))

none_done : (prog k fed : ℕ) → 0 < prog → is_unprogrammed prog k fed ≡ true → programmed_size prog k fed ≡ 0
none_done prog k zero positive is = refl
none_done prog k (suc fed) positive is =
    let less : k + suc fed < prog = grind (arith, nat_tests) in
    no_whole prog ((k + suc fed) / prog) ((k + suc fed) % prog) (k + suc fed) (div-add-mod' (k + suc fed) prog) less

-- some unit is, from the first byte on
some_done : (prog k fed : ℕ) → is_unprogrammed prog k fed ≡ false → (1 ≤ fed) × (prog ≤ k + fed)
some_done prog k zero is = absurd (false≢true (sym is))
some_done prog k (suc fed) is = (omega arith, grind (arith, nat_tests))

first_programmed : (prog : ℕ) → 0 < prog → (key bytes : List ℕ) → 1 ≤ length key → 1 ≤ length bytes → prog ≤ length key + length bytes → (1 ≤ length (programmed prog key bytes)) × (get_or (programmed prog key bytes) 0 0 ≡ get_or key 0 0)
first_programmed prog positive key [] some fed whole = absurd (omega (arith, fed))
first_programmed prog positive key (b ∷ bytes) some fed whole =
    let all : List ℕ = key ++ b ∷ bytes in
    let joined = whole_and_rest prog positive all in
    let long : length (whole_units prog all) + length (rest_of prog all) ≡ length key + length (b ∷ bytes) =
    sym (length-append (whole_units prog all) (rest_of prog all)) ∙ ap length joined ∙ length-append key (b ∷ bytes) in
    let begun : 1 ≤ length (whole_units prog all) = omega (arith, long, whole, rest_of-small prog positive all) in (
      begun,
      sym (get_or_append_left (whole_units prog all) (rest_of prog all) 0 0 begun)
          ∙ ap (λ (l : List ℕ). get_or l 0 0) joined ∙ get_or_append_left key (b ∷ bytes) 0 0 some,
    )

-- ---- the tail

module _ (g : Geometry) (told : Option (List ℕ)) (rest : List ℕ) (set : Writer) (bytes : List ℕ) (holds : Holds g told rest set bytes) (image : List ℕ) (is : told ≡ Some image) (limit : ℕ)
    (inside : set.at + set_size g.prog set ≤ limit) (behind : IsErased image (set.at + set_size g.prog set) (limit - (set.at + set_size g.prog set))) where
  positive : 0 < g.prog
  positive = prog_positive g holds.placed.valid

  clean_erased : is_unprogrammed g.prog (length set.key) set.fed ≡ true → IsErased image set.at (limit - set.at)
  clean_erased clean i from to =
      let none : done_size g.prog set ≡ 0 = none_done g.prog (length set.key) set.fed positive clean in
      let ahead = holds.ahead image is in
      ⊎_elim
      (λ in_header. ahead.header i from in_header)
      (λ past. ⊎_elim
      (λ in_payload. ahead.payload i (omega (arith, none, past)) (omega (arith, none, in_payload)))
      (λ past_all. behind i (omega (arith, past_all)) (omega (arith, to, inside)))
      (cases_lt i (set.at + set_size g.prog set)))
      (cases_lt i (set.at + up g.prog 24))

  erased_clean : (test : Bool) → is_unprogrammed g.prog (length set.key) set.fed ≡ test → IsErased image set.at (limit - set.at) → test ≡ true
  erased_clean true clean erased = refl
  erased_clean false dirty erased =
      let some = some_done g.prog (length set.key) set.fed dirty in
      let low = key_begins_low set.key holds.placed.key in
      let first = first_programmed g.prog positive set.key bytes low.0 (omega (arith, some.0, holds.has.count)) (omega (arith, some.1, holds.has.count)) in
      let start : ℕ = payload_place g.prog set in
      let units : List ℕ = programmed g.prog set.key bytes in
      let here : get_or image (start + 0) 0 ≡ get_or units 0 0 = sym (get_or-part image start (length units) 0 first.0) ∙ ap (λ (l : List ℕ). get_or l 0 0) (holds.has.stands image is) in
      let high : get_or image (start + 0) 0 ≡ 255 = erased (start + 0) (omega arith) (omega (arith, inside, up-ge g.prog (length set.key + set.size) positive, low.0)) in
      absurd (low.1 (sym first.1 ∙ sym here ∙ high))

  -- the tail is clean exactly where no unit of the set is programmed
  pub tail_of_set : IsTrue (is_unprogrammed g.prog (length set.key) set.fed) ↔ IsErased image set.at (limit - set.at)
  tail_of_set = (clean_erased, erased_clean (is_unprogrammed g.prog (length set.key) set.fed) refl)
