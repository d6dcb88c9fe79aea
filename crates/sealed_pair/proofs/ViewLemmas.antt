-- The view of a key whose record was stored, and of the others.
use Rattle.std.proofs.Common.{◌≡◌, ◌≢◌, ℕ, Bool, true, false, cond, List, Option, Some, None, Ordering, Less, Equal, Greater, nat_cmp, is_eq, refl, sym, ◌∙◌, ap, ap₂, true≢false}
use Rattle.std.specs.Prelude.{if◌then◌else◌, is_some}
use Rattle.std.specs.Ordering.{eq_by_cmp}
use Rattle.std.specs.Cmp.Lexicographic.{slice_cmp, nat_list_cmp_total}
use Rattle.std.specs.FinMap.{get, insert, remove, get-insert, get-remove}
use Rattle.std.proofs.lemmas.Cmp.{tied_itself}
use Rattle.std.proofs.lemmas.Slice.Eq.{bytes_eq-Decides}
use Rattle.kv_model.specs.FlaggedMap.{FlaggedMap, Stored}
use Rattle.kv_model.specs.Flags.{is_mirrored}
use Rattle.kv_model.specs.StoreState.{Maps}
use Rattle.kv_model.proofs.NextKeyLemmas.{bytes_same}
use Rattle.secure_record.specs.Unseal.{Opened, unseal}
use Rattle.sealed_pair.specs.Sealing.{kept_flags, record_entry, tag_entry, tag_of, with_record}
use Rattle.sealed_pair.specs.View.{View, Held, RollbackFailed, holds_tag, view_by, view_of, view_unsealed}

abbrev R : List ℕ → List ℕ → Ordering
R = slice_cmp nat_cmp

-- ---- what a map has after an insert

equal : (r : Ordering) → is_eq r ≡ true → r ≡ Equal
equal Less is = absurd (true≢false (sym is))
equal Equal is = refl
equal Greater is = absurd (true≢false (sym is))

apart : (other key : List ℕ) (tied : Bool) → other ≢ key → eq_by_cmp R other key ≡ tied → tied ≡ false
apart other key true differs is = absurd (differs (bytes_same other key (equal _ is)))
apart other key false differs is = refl

pub get_same : (m : FlaggedMap) (key : List ℕ) (value : Stored) → get (insert m key value) key ≡ Some value
get_same m key value =
    get-insert nat_list_cmp_total m key value key
    ∙ ap (λ (r : Ordering). cond (is_eq r) (Some value) (get m key)) (tied_itself nat_list_cmp_total key)

pub get_other : (m : FlaggedMap) (key other : List ℕ) (value : Stored) → other ≢ key → get (insert m key value) other ≡ get m other
get_other m key other value differs =
    get-insert nat_list_cmp_total m key value other
    ∙ ap (λ (b : Bool). cond b (Some value) (get m other)) (apart other key _ differs refl)

pub get_gone : (m : FlaggedMap) (key : List ℕ) → get (remove m key) key ≡ None
get_gone m key =
    get-remove nat_list_cmp_total m key key
    ∙ ap (λ (r : Ordering). cond (is_eq r) None (get m key)) (tied_itself nat_list_cmp_total key)

pub get_kept : (m : FlaggedMap) (key other : List ℕ) → other ≢ key → get (remove m key) other ≡ get m other
get_kept m key other differs =
    get-remove nat_list_cmp_total m key other
    ∙ ap (λ (b : Bool). cond b None (get m other)) (apart other key _ differs refl)

-- ---- the key whose record was stored

held_by : (mirrored holds other : Bool) (v : View) → (mirrored ≡ true → holds ≡ true) → (mirrored ≡ false → other ≡ false)
    → (if mirrored then (if holds then v else RollbackFailed) else if other then RollbackFailed else v) ≡ v
held_by true true other v holds lacks = refl
held_by true false other v holds lacks = absurd (true≢false (sym (holds refl)))
held_by false holds true v has lacks = absurd (true≢false (lacks refl))
held_by false holds false v has lacks = refl

-- the rollback store has what such a record wants: its tag, or nothing
pub record Belongs (flags : ℕ) (bytes : List ℕ) (tag : Option Stored) : Type 0 where
  pub mirrored : is_mirrored flags ≡ true → holds_tag bytes tag ≡ true
  pub plain : is_mirrored flags ≡ false → tag ≡ None

pub opened_held : (root key bytes : List ℕ) (o : Opened) (kept : ℕ) (tag : Option Stored) → unseal root key bytes ≡ Some o → Belongs o.flags bytes tag
    → view_by root key (Some (record { flags = kept; bytes = bytes })) tag ≡ Held o.flags o.value
opened_held root key bytes o kept tag opens belongs =
    ap (view_unsealed bytes tag) opens
    ∙ held_by (is_mirrored o.flags) (holds_tag bytes tag) (is_some tag) (Held o.flags o.value) belongs.mirrored (λ plain. ap is_some (belongs.plain plain))

pub own_tag : (flags : ℕ) (bytes : List ℕ) → holds_tag bytes (Some (tag_entry flags bytes)) ≡ true
own_tag flags bytes = (bytes_eq-Decides (tag_of bytes) (tag_of bytes)).1 refl

-- what the rollback map has once the record is stored
pub tag_stored : (maps : Maps) (key bytes : List ℕ) (flags : ℕ) (mirrored : Bool) → mirrored ≡ true
    → get (if mirrored then insert maps.rollback key (tag_entry flags bytes) else maps.rollback) key ≡ Some (tag_entry flags bytes)
tag_stored maps key bytes flags true is = get_same maps.rollback key (tag_entry flags bytes)
tag_stored maps key bytes flags false is = absurd (true≢false (sym is))

pub tag_kept : (maps : Maps) (key bytes : List ℕ) (flags : ℕ) (mirrored : Bool) → mirrored ≡ false
    → get (if mirrored then insert maps.rollback key (tag_entry flags bytes) else maps.rollback) key ≡ get maps.rollback key
tag_kept maps key bytes flags true is = absurd (true≢false is)
tag_kept maps key bytes flags false is = refl

stored_belongs : (maps : Maps) (key bytes : List ℕ) (flags : ℕ) → (is_mirrored flags ≡ false → get maps.rollback key ≡ None)
    → Belongs flags bytes (get (with_record maps key flags bytes).rollback key)
stored_belongs maps key bytes flags lacks = record {
  mirrored = λ is. ap (holds_tag bytes) (tag_stored maps key bytes flags (is_mirrored flags) is) ∙ own_tag flags bytes;
  plain = λ is. tag_kept maps key bytes flags (is_mirrored flags) is ∙ lacks is;
}

pub stored_held : (root : List ℕ) (maps : Maps) (key bytes : List ℕ) (o : Opened) → unseal root key bytes ≡ Some o
    → (is_mirrored o.flags ≡ false → get maps.rollback key ≡ None) → view_of root (with_record maps key o.flags bytes) key ≡ Held o.flags o.value
stored_held root maps key bytes o opens lacks =
    ap (λ (s : Option Stored). view_by root key s (get (with_record maps key o.flags bytes).rollback key)) (get_same maps.primary key (record_entry o.flags bytes))
    ∙ opened_held root key bytes o (kept_flags o.flags) _ opens (stored_belongs maps key bytes o.flags lacks)

-- ---- the other keys

pub other_tag : (maps : Maps) (key other bytes : List ℕ) (flags : ℕ) (mirrored : Bool) → other ≢ key
    → get (if mirrored then insert maps.rollback key (tag_entry flags bytes) else maps.rollback) other ≡ get maps.rollback other
other_tag maps key other bytes flags true differs = get_other maps.rollback key other (tag_entry flags bytes) differs
other_tag maps key other bytes flags false differs = refl

pub others_stay : (root : List ℕ) (maps : Maps) (key other : List ℕ) (flags : ℕ) (bytes : List ℕ) → other ≢ key
    → view_of root (with_record maps key flags bytes) other ≡ view_of root maps other
others_stay root maps key other flags bytes differs =
    ap₂ (view_by root other) (get_other maps.primary key other (record_entry flags bytes) differs) (other_tag maps key other bytes flags (is_mirrored flags) differs)
