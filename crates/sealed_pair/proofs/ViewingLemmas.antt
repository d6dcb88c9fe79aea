-- What reading both stores shows of a key, as its view.
use Rattle.std.proofs.Common.{◌≡◌, ℕ, Bool, true, false, List, length, Option, Some, None, Result, Ok, Err, refl, sym, ◌∙◌, ap, ap₂, subst, inr, arith}
use Rattle.std.specs.Prelude.{if◌then◌else◌, not, ◌&&◌, IfSome}
use mathlib.Core.Bool.{false≢true}
use Rattle.std.specs.Str.{bytes_eq}
use Rattle.std.proofs.lemmas.Slice.Eq.{bytes_eq-Decides}
use Rattle.kv_model.specs.declared.error.KvError.{KvError}
use Rattle.kv_model.specs.declared.error.KvError.TheVariants as error
use Rattle.kv_model.specs.declared.call.Got.{Got}
use Rattle.kv_model.specs.FlaggedMap.{Stored}
use Rattle.sealed_pair.specs.Reading.{Begins}
use Rattle.std.proofs.lemmas.List.{take_all}
use Rattle.kv_model.specs.Flags.{is_mirrored}
use Rattle.sealed_pair.specs.declared.opening.Found.{Found}
use Rattle.sealed_pair.specs.declared.viewing.Mirror.{Mirror}
use Rattle.sealed_pair.specs.declared.viewing.Mirror.TheVariants.{Absent, Other, Tag}
use Rattle.sealed_pair.specs.Absorbing.{Shows, ShowsOr, IsNoRecord}
use Rattle.sealed_pair.specs.View as view
use Rattle.sealed_pair.specs.Viewing.{IsOther, IsTag, MirrorsOr, ViewsOr, judged, refusal_of}
use Rattle.sealed_pair.specs.Sealing.{tag_of}

abbrev as_result : Bool → Found → Result Found KvError
as_result right found = if right then Ok found else Err error.RollbackFailed

by_test : (b : Bool) → (b ≡ true → ⊥) → b ≡ false
by_test true refutes = absurd (refutes refl)
by_test false refutes = refl

unlike : (a b : List ℕ) → (a ≡ b → ⊥) → bytes_eq a b ≡ false
unlike a b apart = by_test (bytes_eq a b) (λ same. apart ((bytes_eq-Decides a b).0 same))

-- bytes that are compared with equal ones
same_compared : (a b c d : List ℕ) → a ≡ b → c ≡ d → bytes_eq a c ≡ bytes_eq b d
same_compared a b c d one two = ap₂ (λ (x y : List ℕ). bytes_eq x y) one two

module _ (root key : List ℕ) (above below : Option Stored) (offset : ℕ) (buf : List ℕ) where
  abbrev seen : view.View
  seen = view.view_by root key above below

  by_maps : (a b : Option Stored) → above ≡ a → below ≡ b → seen ≡ view.view_by root key a b
  by_maps a b one two = ap₂ (λ (x y : Option Stored). view.view_by root key x y) one two

  -- ---- the primary store lacks the key

  pub absent_views : (mirror : Mirror) → above ≡ None → MirrorsOr below (Ok mirror) → ViewsOr seen (judged None mirror) offset buf
  absent_views Absent lacks mirrors = inr (ap refusal_of (by_maps None None lacks mirrors))
  absent_views Other lacks mirrors = inr (ap refusal_of (by_maps None (Some mirrors.stored) lacks mirrors.there))
  absent_views (Tag tag) lacks mirrors = inr (ap refusal_of (by_maps None (Some mirrors.stored) lacks mirrors.there))

  -- ---- it has no record

  pub no_record_views : (e : KvError) → IsNoRecord root key above e → ViewsOr seen (Err e) offset buf
  no_record_views e none =
      inr (ap refusal_of (by_maps (Some none.stored) below none.there refl ∙ ap (view.view_unsealed none.stored.bytes below) none.none)
      ∙ ap (λ (f : KvError). Some f) (sym none.refused))

  -- ---- it has one

  module _ (found : Found) (shows : Shows root key above offset found buf) where
    opened_view : (b : Option Stored) → below ≡ b → seen ≡ view.view_opened shows.stored.bytes b shows.opened
    opened_view b is = by_maps (Some shows.stored) b shows.is_there is ∙ ap (view.view_unsealed shows.stored.bytes b) shows.unsealed

    mirrored_is : is_mirrored shows.opened.flags ≡ is_mirrored found.flags.bits
    mirrored_is = ap is_mirrored (sym shows.flags)

    held : (seen_so : view.View) → seen ≡ seen_so → seen_so ≡ view.Held shows.opened.flags shows.opened.value → ViewsOr seen (Ok found) offset buf
    held seen_so is held_is = record {
      value = shows.opened.value;
      held = is ∙ held_is ∙ ap (λ (n : ℕ). view.Held n shows.opened.value) (sym shows.flags);
      gives = shows.gives;
    }

    fails : (seen_so : view.View) → seen ≡ seen_so → seen_so ≡ view.RollbackFailed → ViewsOr seen (Err error.RollbackFailed) offset buf
    fails seen_so is failed = inr (ap refusal_of (is ∙ failed))

    absent_by : (m : Bool) → is_mirrored found.flags.bits ≡ m → below ≡ None → ViewsOr seen (as_result (not m) found) offset buf
    absent_by true is lacks = fails _ (opened_view None lacks) (ap (λ (b : Bool). if b then view.RollbackFailed else view.Held shows.opened.flags shows.opened.value) (mirrored_is ∙ is))
    absent_by false is lacks = held _ (opened_view None lacks) (ap (λ (b : Bool). if b then view.RollbackFailed else view.Held shows.opened.flags shows.opened.value) (mirrored_is ∙ is))

    abbrev of_tag : Bool → Bool → view.View
    of_tag m right = if m then (if right then view.Held shows.opened.flags shows.opened.value else view.RollbackFailed) else view.RollbackFailed

    tag_decided : (m right : Bool) → seen ≡ of_tag m right → ViewsOr seen (as_result (m && right) found) offset buf
    tag_decided true true is = held _ is refl
    tag_decided true false is = fails _ is refl
    tag_decided false right is = fails _ is refl

    tag_by : (tag : Stored) (m right : Bool) → is_mirrored found.flags.bits ≡ m → bytes_eq tag.bytes (tag_of shows.stored.bytes) ≡ right → below ≡ Some tag
        → ViewsOr seen (as_result (m && right) found) offset buf
    tag_by tag m right is_m is_right there =
        tag_decided m right (opened_view (Some tag) there ∙ ap₂ of_tag (mirrored_is ∙ is_m) is_right)

    other_decided : (m : Bool) → seen ≡ of_tag m false → ViewsOr seen (Err error.RollbackFailed) offset buf
    other_decided true is = fails _ is refl
    other_decided false is = fails _ is refl

    pub found_views : (mirror : Mirror) → (length (tag_of shows.stored.bytes) ≡ 16) → MirrorsOr below (Ok mirror) → ViewsOr seen (judged (Some found) mirror) offset buf
    found_views Absent long lacks = absent_by (is_mirrored found.flags.bits) refl lacks
    found_views Other long other =
        other_decided (is_mirrored found.flags.bits)
        (opened_view (Some other.stored) other.there ∙ ap₂ of_tag mirrored_is (unlike other.stored.bytes (tag_of shows.stored.bytes) (λ is. other.long (ap length is ∙ long))))
    found_views (Tag tag) long right =
        tag_by right.stored (is_mirrored found.flags.bits) (bytes_eq tag found.tag) refl (same_compared right.stored.bytes tag (tag_of shows.stored.bytes) found.tag right.bytes (sym shows.tag)) right.there

  pub all_view : (found : Option Found) (mirror : Mirror) → ShowsOr root key above (Ok found) offset buf → MirrorsOr below (Ok mirror) → ViewsOr seen (judged found mirror) offset buf
  all_view None mirror shows mirrors = absent_views mirror shows mirrors
  all_view (Some found) mirror shows mirrors = found_views found shows mirror shows.long mirrors

ok_if : (right : Bool) (found other : Found) → as_result right found ≡ Ok other → (right ≡ true) × (found ≡ other)
ok_if true found other is = (refl, cc)
ok_if false found other is = absurd (cc)

second_of : (a b : Bool) → (a && b) ≡ true → b ≡ true
second_of true b is = is
second_of false b is = absurd (false≢true is)

never : (found right : Found) → is_mirrored right.flags.bits ≡ true → not (is_mirrored found.flags.bits) ≡ true → found ≡ right → ⊥
never found right mirrored plain same =
    false≢true (ap not (sym (ap (λ (f : Found). is_mirrored f.flags.bits) same ∙ mirrored)) ∙ plain)

-- a mirrored key that is held has its record's tag in the rollback store
pub mirrored_tag : (found : Option Found) (mirror : Mirror) (right : Found) (below : Option Stored) → judged found mirror ≡ Ok right → MirrorsOr below (Ok mirror)
    → is_mirrored right.flags.bits ≡ true → IsTag below right.tag
mirrored_tag None Absent right below is mirrors mirrored = absurd (cc)
mirrored_tag None Other right below is mirrors mirrored = absurd (cc)
mirrored_tag None (Tag tag) right below is mirrors mirrored = absurd (cc)
mirrored_tag (Some found) Absent right below is mirrors mirrored =
    let ok = ok_if (not (is_mirrored found.flags.bits)) found right is in absurd (never found right mirrored ok.0 ok.1)
mirrored_tag (Some found) Other right below is mirrors mirrored = absurd (cc)
mirrored_tag (Some found) (Tag tag) right below is mirrors mirrored =
    let ok = ok_if (is_mirrored found.flags.bits && bytes_eq tag found.tag) found right is in
    let same : tag ≡ right.tag = (bytes_eq-Decides tag found.tag).0 (second_of (is_mirrored found.flags.bits) (bytes_eq tag found.tag) ok.0) ∙ ap (λ (f : Found). f.tag) ok.1 in
    subst (IsTag below) same mirrors

judged_found : (found : Option Found) (mirror : Mirror) (right : Found) → judged found mirror ≡ Ok right → found ≡ Some right
judged_found None Absent right is = absurd (cc)
judged_found None Other right is = absurd (cc)
judged_found None (Tag tag) right is = absurd (cc)
judged_found (Some found) Absent right is = ap (λ (f : Found). Some f) (ok_if (not (is_mirrored found.flags.bits)) found right is).1
judged_found (Some found) Other right is = absurd (cc)
judged_found (Some found) (Tag tag) right is = ap (λ (f : Found). Some f) (ok_if (is_mirrored found.flags.bits && bytes_eq tag found.tag) found right is).1

-- what holds of the record that was found holds of the one that is given
pub of_found : (P : Found → Type 0) (found : Option Found) (mirror : Mirror) (right : Found) → judged found mirror ≡ Ok right → IfSome found P → P right
of_found P found mirror right is holds = subst (λ (f : Option Found). IfSome f P) (judged_found found mirror right is) holds

-- ---- what the rollback store has

pub tag_found : (found : Option Stored) (n : ℕ) (got : Got) (buf : List ℕ) → Begins found n got buf → n ≡ 16 → length buf ≡ 16 → got.size ≡ 16 → got.read ≡ 16 → IsTag found buf
tag_found found n got buf begins n_is long size read = record {
  stored = begins.stored;
  there = begins.there;
  bytes = sym (take_all n begins.stored.bytes (omega (arith, n_is, size, begins.size))) ∙ sym begins.bytes ∙ take_all got.read buf (omega (arith, read, long));
}

pub tag_other : (found : Option Stored) (n : ℕ) (got : Got) (buf : List ℕ) → Begins found n got buf → n ≡ 16 → (got.size ≡ 16 → ⊥) → IsOther found
tag_other found n got buf begins n_is apart = record {
  stored = begins.stored;
  there = begins.there;
  long = λ is. apart (begins.size ∙ is);
}

-- a tag is read whole
pub tag_whole : (found : Option Stored) (n : ℕ) (got : Got) (buf : List ℕ) → Begins found n got buf → n ≡ 16 → got.size ≡ 16 → got.read ≡ 16
tag_whole found n got buf begins n_is size = omega (arith, begins.size, begins.read, n_is, size)
