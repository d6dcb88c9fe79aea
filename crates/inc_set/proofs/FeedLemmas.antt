-- What a set holds behind a feed, and before the first.
use Rattle.std.proofs.Common.{◌≡◌, ℕ, ◌+◌, ◌-◌, ◌%◌, ◌<◌, ◌≤◌, List, [], ◌++◌, length, take, refl, sym, ◌∙◌, ap, subst, arith, inl, inr, append_assoc, append-nil, length-append}
use Rattle.std.specs.Prelude.{Option, Some, IsTrue}
use Rattle.std.specs.Option.{ForSome}
use Rattle.base_core.specs.Sizes.{record_size}
use Rattle.base_core.specs.Units.{IsMultipleOf, up}
use Rattle.base_core.proofs.UnitLemmas.{up-ge}
use Rattle.flash_core.specs.declared.geometry.Geometry.{Geometry}
use Rattle.flash_core.specs.Images.{IsErased, Torn, part, put}
use Rattle.flash_core.specs.Runs.{Done}
use Rattle.flash_core.specs.Sizes.{IsValid, size_of}
use Rattle.flash_core.specs.State.{FlashState, IsLawful}
use Rattle.flash_core.proofs.GeometryLaws.{prog_positive}
use Rattle.flash_core.proofs.ImageLaws.{IsErased-Torn, Torn-put, part-Torn, part-append, part-put_same}
use Rattle.flash_core.proofs.KeptLaws.{told_before}
use Rattle.kv_model.specs.Crc.{crc_from, crc_of}
use Rattle.kv_model.specs.Keys.{is_key}
use Rattle.kv_model.proofs.CrcLemmas.{crc_from-append}
use Rattle.record_core.specs.Cuts.{IsInArea}
use Rattle.record_core.specs.Header.{IsHeader, header_front}
use Rattle.inc_set.specs.declared.open_set.OpenSet.{OpenSet}
use Rattle.inc_set.specs.Programs.{Programs}
use Rattle.inc_set.specs.Sets.{Holds, IsAhead, done_size, opened, payload_place, with_bytes}
use Rattle.inc_set.specs.Units.{IsHeld, completed_units, programmed, programmed_size, rest_of}
use Rattle.inc_set.proofs.SetLemmas.{both_rest, grown, length-programmed, programmed-most, set_fits, waiting}

some_is : {X : Type 0} (x y : X) → Some x ≡ Some y → x ≡ y
some_is x y same = cc

-- ---- before the first byte

pub holds_nothing : (g : Geometry) (told : Option (List ℕ)) (area : ℕ) (key : List ℕ) (flags size at : ℕ) (now : List ℕ) → IsValid g → length now ≡ g.prog → IsTrue (is_key key) → IsHeader flags (length key) size → IsMultipleOf g.prog at
    → IsInArea g area at (record_size g.prog (length key) size) → ForSome told (λ image. IsErased image at (record_size g.prog (length key) size)) → IsHeld now (rest_of g.prog key) → Holds g told now (opened key flags size at) []
holds_nothing g told area key flags size at now valid unit is_key_of header aligned inside erased waits =
    let prog : ℕ = g.prog in
    record {
      placed = record { valid = valid; unit = unit; key = is_key_of; header = header; fed = omega arith; aligned = aligned; area = area; inside = inside };
      ahead = λ image is. record {
        header = λ i from to. erased image is i from (omega (arith, to));
        payload = λ i from to. erased image is i (omega (arith, from)) (omega (arith, to));
      };
      has = record {
        count = refl;
        crc = ap crc_of (sym (append-nil (header_front flags (length key) size ++ key)));
        stands = λ image is. refl;
        waits = subst (λ (l : List ℕ). IsHeld now (rest_of prog l)) (sym (append-nil key)) waits;
      };
    }

-- ---- behind a feed of at least one byte

module _ (old new : FlashState) (rest now : List ℕ) (set : OpenSet) (before bytes : List ℕ) (lawful : IsLawful old) (holds : Holds old.geometry old.image rest set before) (some : 1 ≤ length bytes) (fits : set.fed + length bytes ≤ set.size)
    (fed : Programs old new (payload_place old.geometry.prog set + done_size old.geometry.prog set) (completed_units old.geometry.prog set.key set.fed rest bytes) Done) where
  positive : 0 < old.geometry.prog
  positive = prog_positive old.geometry holds.placed.valid

  abbrev units : List ℕ
  units = completed_units old.geometry.prog set.key set.fed rest bytes

  -- what stood before
  abbrev first : List ℕ
  first = programmed old.geometry.prog set.key before

  abbrev start : ℕ
  start = payload_place old.geometry.prog set

  first_long : length first ≡ done_size old.geometry.prog set
  first_long = length-programmed old.geometry.prog positive set.key before ∙ ap (programmed_size old.geometry.prog (length set.key)) (sym holds.has.count)

  all_is : programmed old.geometry.prog set.key (before ++ bytes) ≡ first ++ units
  all_is = grown old.geometry.prog positive set.key before rest bytes some holds.has.waits ∙ ap (λ (n : ℕ). first ++ completed_units old.geometry.prog set.key n rest bytes) (sym holds.has.count)

  abbrev more : OpenSet
  more = with_bytes set bytes

  count_is : set.fed + length bytes ≡ length (before ++ bytes)
  count_is = ap (λ (n : ℕ). n + length bytes) holds.has.count ∙ sym (length-append before bytes)

  done_is : done_size old.geometry.prog more ≡ done_size old.geometry.prog set + length units
  done_is =
      ap (programmed_size old.geometry.prog (length set.key)) count_is
      ∙ sym (length-programmed old.geometry.prog positive set.key (before ++ bytes))
      ∙ ap length all_is ∙ length-append first units ∙ ap (λ (n : ℕ). n + length units) first_long

  done_most : done_size old.geometry.prog more ≤ length set.key + set.size
  done_most = omega (arith, programmed-most old.geometry.prog (length set.key) (set.fed + length bytes), fits)

  units_inside : start + done_size old.geometry.prog set + length units ≤ size_of old.geometry
  units_inside = omega (arith, done_is, done_most, up-ge old.geometry.prog (length set.key + set.size) positive, set_fits holds.placed)

  -- the image behind it
  module _ (image left : List ℕ) (told : old.image ≡ Some image) (told_left : new.image ≡ Some left) where
    left_is : left ≡ put image (start + done_size old.geometry.prog set) units
    left_is = some_is left _ (sym told_left ∙ fed.written image told)

    units_fit : start + done_size old.geometry.prog set + length units ≤ length image
    units_fit = omega (arith, units_inside, lawful.sized image told)

    torn : Torn (start + done_size old.geometry.prog set) (length units) image left
    torn = subst (λ (l : List ℕ). Torn (start + done_size old.geometry.prog set) (length units) image l) (sym left_is) (Torn-put image (start + done_size old.geometry.prog set) units units_fit)

    ahead_left : IsAhead old.geometry left more
    ahead_left =
        let ahead = holds.ahead image told in
        record {
          header = IsErased-Torn (start + done_size old.geometry.prog set) (length units) image left set.at (up old.geometry.prog 24) torn (inl (omega arith)) ahead.header;
          payload = IsErased-Torn (start + done_size old.geometry.prog set) (length units) image left (start + done_size old.geometry.prog more) (up old.geometry.prog (length set.key + set.size) - done_size old.geometry.prog more) torn (inr (omega (arith, done_is)))
              (λ i from to. ahead.payload i (omega (arith, from, done_is)) (omega (arith, to, done_is, done_most, up-ge old.geometry.prog (length set.key + set.size) positive)));
        }

    stands_left : part left start (length (programmed old.geometry.prog set.key (before ++ bytes))) ≡ programmed old.geometry.prog set.key (before ++ bytes)
    stands_left =
        let behind : start + length first ≡ start + done_size old.geometry.prog set = ap (λ (n : ℕ). start + n) first_long in
        let front : part left start (length first) ≡ first = part-Torn (start + done_size old.geometry.prog set) (length units) image left start (length first) torn (inl (omega (arith, behind))) (omega (arith, behind, units_fit)) ∙ holds.has.stands image told in
        let back : part left (start + length first) (length units) ≡ units =
        ap (λ (p : ℕ). part left p (length units)) behind ∙ ap (λ (l : List ℕ). part l (start + done_size old.geometry.prog set) (length units)) left_is ∙ part-put_same image (start + done_size old.geometry.prog set) units units_fit in
        ap (λ (l : List ℕ). part left start (length l)) all_is
        ∙ ap (part left start) (length-append first units)
        ∙ part-append left start (length first) (length units)
        ∙ ap (λ (l : List ℕ). l ++ part left (start + length first) (length units)) front
        ∙ ap (λ (l : List ℕ). first ++ l) back
        ∙ sym all_is

  pub holds_more : length now ≡ length rest → IsHeld now (rest_of old.geometry.prog (take ((length set.key + set.fed) % length rest) rest ++ bytes)) → Holds new.geometry new.image now (with_bytes set bytes) (before ++ bytes)
  holds_more same waits =
      let prog : ℕ = old.geometry.prog in
      let kept = fed.runs.kept in
      let held : take ((length set.key + set.fed) % length rest) rest ≡ rest_of prog (set.key ++ before) =
      ap (λ (n : ℕ). take ((length set.key + set.fed) % n) rest) holds.placed.unit
      ∙ ap (λ (n : ℕ). take ((length set.key + n) % prog) rest) holds.has.count
      ∙ waiting prog positive set.key before rest holds.has.waits in
      let rest_is : rest_of prog (take ((length set.key + set.fed) % length rest) rest ++ bytes) ≡ rest_of prog (set.key ++ (before ++ bytes)) =
      ap (λ (l : List ℕ). rest_of prog (l ++ bytes)) held ∙ sym (both_rest prog positive (set.key ++ before) bytes) ∙ ap (rest_of prog) (append_assoc set.key before bytes) in
      let front : List ℕ = header_front set.flags (length set.key) set.size in
      subst (λ (g : Geometry). Holds g new.image now (with_bytes set bytes) (before ++ bytes)) (sym kept.geometry) (record {
        placed = record {
          valid = holds.placed.valid;
          unit = same ∙ holds.placed.unit;
          key = holds.placed.key;
          header = holds.placed.header;
          fed = fits;
          aligned = holds.placed.aligned;
          area = holds.placed.area;
          inside = holds.placed.inside;
        };
        ahead = λ left told_left. let was = told_before kept told_left in ahead_left was.0 left was.1 told_left;
        has = record {
          count = count_is;
          crc =
              ap (λ (n : ℕ). crc_from n bytes) holds.has.crc
              ∙ sym (crc_from-append 0xFFFF_FFFF (front ++ set.key ++ before) bytes)
              ∙ ap crc_of (append_assoc (front ++ set.key) before bytes);
          stands = λ left told_left. let was = told_before kept told_left in stands_left was.0 left was.1 told_left;
          waits = subst (IsHeld now) rest_is waits;
        };
      })
