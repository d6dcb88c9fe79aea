-- The keys that a device tells.
use Rattle.std.proofs.Common.{◌≡◌, ◌≢◌, ◌⊎◌, ℕ, zero, suc, ◌+◌, ◌%◌, ◌<◌, ◌≤◌, ◌^◌, Bool, true, false, cond, List, ◌++◌, inl, inr, ⊎_elim, refl, sym, ◌∙◌, ap, subst, arith}
use Rattle.std.specs.Prelude.{◌==◌, ◌&&◌, ◌||◌, not, if◌then◌else◌, IsTrue, nat_le, Option, Some, None}
use Rattle.std.specs.Cmp.{eq_by_cmp_equiv}
use Rattle.std.specs.FinMap.{get, get-empty, get-insert, nat_cmp-IsAntisymmetric}
use Rattle.std.specs.Int.{w16, w32, from_le_bytes}
use Rattle.std.specs.Ordering.{eq_by_cmp, is_eq, nat_cmp}
use Rattle.std.specs.Str.{bytes_eq}
use Rattle.std.specs.declared.cmp.Ordering.{Ordering}
use Rattle.std.specs.declared.cmp.Ordering.TheVariants.{Less, Equal, Greater}
use Rattle.std.proofs.lemmas.Bool.{cases_eq, cases_lt, eq-eqb, eqb-true, le-leb, leb-true}
use Rattle.std.proofs.lemmas.Cmp.{nat_cmp_total}
use Rattle.std.proofs.lemmas.Nat.{from_le_bytes-to_le_bytes_2, from_le_bytes-to_le_bytes_4}
use Rattle.std.proofs.lemmas.Slice.Eq.{bytes_eq-Decides}
use mathlib.Core.Bool.{false≢true}
use Rattle.flash_core.specs.Images.{part}
use Rattle.kv_model.specs.declared.limits.TheConstants.{MAX_KEY, MAX_VALUE}
use Rattle.kv_model.specs.Flags.{remove_flags}
use Rattle.kv_model.specs.Write.{Write}
use Rattle.kv_model.specs.Keys.{is_key}
use Rattle.base_core.specs.Units.{up}
use Rattle.base_core.specs.Sizes.{record_size}
use Rattle.record_core.specs.declared.header.Header.{Header}
use Rattle.record_core.specs.Header.{IsValid, HasFields, header_bytes, header_front}
use Rattle.record_core.specs.Log.{IsRecordAt, extent}
use Rattle.record_core.specs.Record.{header_of}
use Rattle.record_core.proofs.HeaderLemmas.{flags_fit, header_has_fields, low_bytes, same_sizes}
use Rattle.record_core.proofs.LogLemmas.{header_at, key_at}
use Rattle.ram_table.specs.Reader.{KeyMap}
use Rattle.tdb_mount.specs.Keys.{SpellsKey, fields_of, is_header, key_behind, key_spelled, noted, tabulate}

-- ---- tests

not_true : (b : Bool) → (b ≡ true → ⊥) → b ≡ false
not_true true never = absurd (never refl)
not_true false never = refl

both_of : (a b : Bool) → (a && b) ≡ true → (a ≡ true) × (b ≡ true)
both_of true b is = (refl, is)
both_of false b is = absurd (false≢true is)

some_of : (a b : Bool) → (a || b) ≡ true → (a ≡ true) ⊎ (b ≡ true)
some_of true b is = inl refl
some_of false b is = inr is

or_left : (a b : Bool) → a ≡ true → (a || b) ≡ true
or_left a b is = ap (λ (x : Bool). x || b) is

or_right : (a b : Bool) → b ≡ true → (a || b) ≡ true
or_right true b is = refl
or_right false b is = is

-- ---- tables of numbers

same_number : (n : ℕ) → eq_by_cmp nat_cmp n n ≡ true
same_number n = (eq_by_cmp_equiv nat_cmp_total).refl n

equal_is : (r : Ordering) → is_eq r ≡ true → r ≡ Equal
equal_is Equal is = refl
equal_is Less is = absurd (false≢true is)
equal_is Greater is = absurd (false≢true is)

other_number : (a b : ℕ) → a ≢ b → eq_by_cmp nat_cmp a b ≡ false
other_number a b apart = not_true _ (λ same. apart (nat_cmp-IsAntisymmetric a b (equal_is _ same)))

noted-same : (place : ℕ) (found : Option (List ℕ)) (keys : KeyMap) → get keys place ≡ None → get (noted place found keys) place ≡ found
noted-same place None keys none = none
noted-same place (Some key) keys none = get-insert nat_cmp_total keys place key place ∙ ap (λ (b : Bool). cond b (Some key) (get keys place)) (same_number place)

noted-other : (place : ℕ) (found : Option (List ℕ)) (keys : KeyMap) (q : ℕ) → q ≢ place → get (noted place found keys) q ≡ get keys q
noted-other place None keys q other = refl
noted-other place (Some key) keys q other = get-insert nat_cmp_total keys place key q ∙ ap (λ (b : Bool). cond b (Some key) (get keys q)) (other_number q place other)

get-tabulate_past : (f : ℕ → Option (List ℕ)) (n p : ℕ) → n ≤ p → get (tabulate f n) p ≡ None
unfolding tabulate
get-tabulate_past f zero p le = get-empty nat_cmp p
get-tabulate_past f (suc n) p le = noted-other n (f n) (tabulate f n) p (λ same. omega (arith, same)) ∙ get-tabulate_past f n p (omega arith)

pub get-tabulate : (f : ℕ → Option (List ℕ)) (n p : ℕ) → p < n → get (tabulate f n) p ≡ f p
unfolding tabulate
get-tabulate f zero p lt = absurd (omega arith)
get-tabulate f (suc n) p lt = ⊎_elim
    (λ same. subst (λ (q : ℕ). get (noted n (f n) (tabulate f n)) q ≡ f q) (sym same) (noted-same n (f n) (tabulate f n) (get-tabulate_past f n n (omega arith))))
    (λ other. noted-other n (f n) (tabulate f n) p other ∙ get-tabulate f n p (omega (arith, other)))
    (cases_eq p n)

abbrev none : Option (List ℕ)
none = None

none_is_not_some : (key : List ℕ) → none ≡ Some key → ⊥
none_is_not_some key same = cc

-- what is found in a table stands below its end
pub found_below : (f : ℕ → Option (List ℕ)) (n p : ℕ) (key : List ℕ) → get (tabulate f n) p ≡ Some key → f p ≡ Some key
found_below f n p key found = ⊎_elim
    (λ lt. sym (get-tabulate f n p lt) ∙ found)
    (λ le. absurd (none_is_not_some key (sym (get-tabulate_past f n p le) ∙ found)))
    (cases_lt p n)

-- ---- headers

pub is_header-valid : (header : Header) → is_header header ≡ true → IsValid header
unfolding is_header
is_header-valid header is =
    let e = both_of _ (not (header.flags == remove_flags) || header.value_size == 0) is in
    let d = both_of _ (nat_le header.value_size MAX_VALUE) e.0 in
    let c = both_of _ (nat_le header.key_size MAX_KEY) d.0 in
    let b = both_of _ (nat_le 1 header.key_size) c.0 in
    record {
      kind = ⊎_elim
          (λ ab. ⊎_elim (λ zero_is. inl (eqb-true header.flags 0 zero_is)) (λ one_is. inr (inl (eqb-true header.flags 1 one_is))) (some_of (header.flags == 0) (header.flags == 1) ab))
          (λ remove_is. inr (inr (eqb-true header.flags remove_flags remove_is)))
          (some_of (header.flags == 0 || header.flags == 1) (header.flags == remove_flags) b.0);
      key_least = leb-true 1 header.key_size b.1;
      key_most = leb-true header.key_size MAX_KEY c.1;
      value_most = leb-true header.value_size MAX_VALUE d.1;
      remove_is_empty = λ removes. eqb-true header.value_size 0
          (ap (λ (x : Bool). not x || header.value_size == 0) (sym (eq-eqb header.flags remove_flags removes)) ∙ e.1);
    }

empty_if : (test : Bool) (header : Header) → (header.flags == remove_flags) ≡ test → (header.flags ≡ remove_flags → header.value_size ≡ 0)
    → (not (header.flags == remove_flags) || header.value_size == 0) ≡ true
empty_if true header is empty = or_right (not (header.flags == remove_flags)) _ (eq-eqb header.value_size 0 (empty (eqb-true header.flags remove_flags is)))
empty_if false header is empty = ap (λ (x : Bool). not x || header.value_size == 0) is

pub valid-is_header : (header : Header) → IsValid header → is_header header ≡ true
unfolding is_header
valid-is_header header valid =
    let kind : (header.flags == 0 || header.flags == 1 || header.flags == remove_flags) ≡ true = ⊎_elim
    (λ zero_is. or_left (header.flags == 0 || header.flags == 1) _ (or_left (header.flags == 0) _ (eq-eqb header.flags 0 zero_is)))
    (⊎_elim
    (λ one_is. or_left (header.flags == 0 || header.flags == 1) _ (or_right (header.flags == 0) _ (eq-eqb header.flags 1 one_is)))
    (λ remove_is. or_right (header.flags == 0 || header.flags == 1) _ (eq-eqb header.flags remove_flags remove_is)))
    valid.kind in
    let least = le-leb 1 header.key_size valid.key_least in
    let most = le-leb header.key_size MAX_KEY valid.key_most in
    let value = le-leb header.value_size MAX_VALUE valid.value_most in
    let empty = empty_if (header.flags == remove_flags) header refl valid.remove_is_empty in
    λ i. kind i && least i && most i && value i && empty i

-- ---- keys

if_some : {X : Type 0} (test : Bool) (x y : X) → (if test then Some x else None) ≡ Some y → (test ≡ true) × (x ≡ y)
if_some true x y is = (refl, cc)
if_some false x y is = absurd (cc)

-- a header that a place spells, with its CRC in four bytes
-- the same header with the CRC that its bytes spell
abbrev pub low_crc : Header → Header
low_crc header = record { flags = header.flags; key_size = header.key_size; value_size = header.value_size; crc = header.crc % 2 ^ 32 }

pub low_spelling : (header : Header) → header_bytes (low_crc header) ≡ header_bytes header
unfolding header_bytes
low_spelling header = ap (λ (crc : List ℕ). header_front header.flags header.key_size header.value_size ++ crc) (low_bytes header.crc)

module _ (prog : ℕ) (image : List ℕ) (end place : ℕ) where
  spelled_of : (header : Header) (key : List ℕ) → key_behind prog image end place header ≡ Some key → SpellsKey prog image end place key
  unfolding key_behind
  spelled_of header key found =
      let behind : List ℕ = part image (place + up prog 24) header.key_size in
      let tests = if_some _ behind key found in
      let d = both_of _ (is_key behind) tests.0 in
      let c = both_of _ (nat_le (place + record_size prog header.key_size header.value_size) end) d.0 in
      let b = both_of (bytes_eq (part image place 24) (header_bytes header)) (is_header header) c.0 in
      record {
        header = header;
        spelled = (bytes_eq-Decides (part image place 24) (header_bytes header)).0 b.0;
        valid = is_header-valid header b.1;
        inside = leb-true _ end c.1;
        key_is = sym tests.1;
        is_key = subst (λ (k : List ℕ). IsTrue (is_key k)) tests.1 d.1;
      }

  pub key_spells : (key : List ℕ) → key_spelled prog image end place ≡ Some key → SpellsKey prog image end place key
  key_spells key found = spelled_of (fields_of (part image place 24)) key found

  module _ (key : List ℕ) (spells : SpellsKey prog image end place key) where
    abbrev found : Header
    found = spells.header

    fields_are : fields_of (part image place 24) ≡ low_crc found
    fields_are =
        let fields : HasFields (part image place 24) found = header_has_fields (part image place 24) found spells.spelled in
        let flags = ap (from_le_bytes w32) fields.flags ∙ from_le_bytes-to_le_bytes_4 found.flags (flags_fit spells.valid) in
        let key_size = ap (from_le_bytes w16) fields.key_size ∙ from_le_bytes-to_le_bytes_2 found.key_size (omega (arith, spells.valid.key_most)) in
        let value_size = ap (from_le_bytes w32) fields.value_size ∙ from_le_bytes-to_le_bytes_4 found.value_size (omega (arith, spells.valid.value_most)) in
        let crc = ap (from_le_bytes w32) (fields.crc ∙ sym (low_bytes found.crc)) ∙ from_le_bytes-to_le_bytes_4 (found.crc % 2 ^ 32) (omega arith) in
        λ i. record { flags = flags i; key_size = key_size i; value_size = value_size i; crc = crc i }

    behind_low : key_behind prog image end place (low_crc found) ≡ Some key
    unfolding key_behind
    behind_low =
        let a = (bytes_eq-Decides (part image place 24) (header_bytes (low_crc found))).1 (spells.spelled ∙ sym (low_spelling found)) in
        let b = valid-is_header (low_crc found) spells.valid in
        let c = le-leb _ end spells.inside in
        let d : is_key (part image (place + up prog 24) found.key_size) ≡ true = subst (λ (k : List ℕ). IsTrue (is_key k)) spells.key_is spells.is_key in
        λ i. if a i && b i && c i && d i then Some (sym spells.key_is i) else None

    pub spelled_key : key_spelled prog image end place ≡ Some key
    spelled_key = ap (key_behind prog image end place) fields_are ∙ behind_low

-- a record spells its key
pub record_spells : (prog : ℕ) → 1 ≤ prog → (image : List ℕ) (end place : ℕ) (r : Write) → IsRecordAt prog image place r → place + extent prog r ≤ end → SpellsKey prog image end place r.key
record_spells prog positive image end place r stands inside = record {
  header = header_of r.flags r.key r.value;
  spelled = header_at prog positive image place r stands;
  valid = stands.valid_header;
  inside = inside;
  key_is = sym (key_at prog positive image place r stands);
  is_key = stands.valid_key;
}

-- the key that a place spells is the one behind any header that stands there
pub key_behind_header : {prog : ℕ} {image : List ℕ} {end place : ℕ} {key : List ℕ} (header : Header) → IsValid header → part image place 24 ≡ header_bytes header
    → SpellsKey prog image end place key → key ≡ part image (place + up prog 24) header.key_size
key_behind_header {prog} {image} {end} {place} {key} header valid spelled spells =
    let same = same_sizes spells.header header spells.valid valid (sym spells.spelled ∙ spelled) in
    spells.key_is ∙ ap (part image (place + up prog 24)) same.key_size
