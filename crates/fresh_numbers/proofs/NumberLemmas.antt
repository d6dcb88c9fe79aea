-- The numbers of the records of one key: what every state of a history keeps of them.
use Rattle.std.proofs.Common.{◌≡◌, ◌⊎◌, inl, inr, ℕ, ◌-◌, ◌<◌, ◌≤◌, Bool, true, false, ◌||◌, cond, List, length, take, Option, Some, None, IfSome, Ordering, Less, Equal, Greater, nat_cmp, is_eq, refl, sym, ◌∙◌, ap, subst, arith, true≢false}
use Rattle.std.specs.Prelude.{if◌then◌else◌, is_some}
use Rattle.std.specs.Ordering.{eq_by_cmp}
use Rattle.std.specs.Cmp.Lexicographic.{slice_cmp, nat_list_cmp_total}
use Rattle.std.specs.FinMap.{get, insert, get-insert, get-remove}
use Rattle.kv_model.specs.Constants.{Secure}
use Rattle.kv_model.specs.FlaggedMap.{FlaggedMap, Stored}
use Rattle.kv_model.specs.Flags.{is_confidential, is_mirrored, is_replay_protected, is_write_once}
use Rattle.kv_model.specs.StoreState.{Maps, OpenSet}
use Rattle.kv_model.proofs.NextKeyLemmas.{bytes_same}
use Rattle.secure_record.specs.declared.metadata.Metadata.{Metadata}
use Rattle.secure_record.specs.Metadata.{metadata_of}
use Rattle.secure_record.specs.Sealed.{seal, sealed_metadata}
use Rattle.sealed_pair.specs.Heal.{IsHealed, heal, metadata_in}
use Rattle.sealed_pair.specs.Laws.{HealsKey, MaySeal}
use Rattle.sealed_pair.specs.Sealing.{is_numbered, record_entry, tag_entry, tag_of, with_record, without_key}
use Rattle.sealed_pair.proofs.SealLemmas.{HaveForm, is_metadata}

-- a record that is sealed for the key
pub record IsSeal (root key bytes : List ℕ) : Type 0 where
  pub flags : ℕ
  pub iv : ℕ
  pub prior : Option (List ℕ)
  pub value : List ℕ
  pub may : MaySeal flags iv prior value
  pub is : bytes ≡ seal root key flags iv prior value

-- the tag of a mirrored record that the primary store has had, with a number below this
pub record IsTagBelow (Was : List ℕ → Type 0) (root key : List ℕ) (limit : ℕ) (tag : List ℕ) : Type 0 where
  pub bytes : List ℕ
  pub sealed : IsSeal root key bytes
  pub was : Was bytes
  pub mirrored : is_mirrored sealed.flags ≡ true
  pub below : sealed.iv < limit
  pub its : tag ≡ tag_of bytes

-- A record with a number below the limit, where it takes one, and not below the other, unless it is the one of the past.
-- What it replaces is the tag of a record with a lower number.
pub record IsNumbered (Was : List ℕ → Type 0) (root key past : List ℕ) (low limit : ℕ) (bytes : List ℕ) : Type 0 where
  pub sealed : IsSeal root key bytes
  pub between : is_numbered sealed.flags ≡ true → ((bytes ≡ past) ⊎ (low ≤ sealed.iv)) × (sealed.iv < limit)
  pub replaced : (p : List ℕ) → sealed.prior ≡ Some p → (is_mirrored sealed.flags ≡ true) × IsTagBelow Was root key sealed.iv p

-- the number of the record that the next set or finish stores, or a lower one: a set that is active has taken its own
abbrev pub floor_by : Bool → Bool → ℕ → ℕ
floor_by is_remove numbered next = if is_remove then next else if numbered then next - 1 else next

abbrev pub floor : Option OpenSet → ℕ → ℕ
floor None next = next
floor (Some set) next = floor_by set.is_remove (is_numbered set.flags) next

abbrev pub HasTaken : ℕ → OpenSet → Type 0
HasTaken next set = set.is_remove ≡ false → is_numbered set.flags ≡ true → 1 ≤ next

-- what two maps keep: the numbers of the key's record and of its tag are below the limit
pub record Keeps (Was : List ℕ → Type 0) (root key past : List ℕ) (low limit : ℕ) (maps : Maps) : Type 0 where
  pub early : low ≤ limit
  pub primary : IfSome (get maps.primary key) (λ (s : Stored). IsNumbered Was root key past low limit s.bytes)
  pub tag : IfSome (get maps.rollback key) (λ (t : Stored). IsTagBelow Was root key limit t.bytes)

-- what a running state keeps, with this next number and this set
pub record KeepsIn (Was : List ℕ → Type 0) (root key past : List ℕ) (low next : ℕ) (maps : Maps) (active : Option OpenSet) : Type 0 where
  pub both : Keeps Was root key past low (floor active next) maps
  pub taken : IfSome active (HasTaken next)

-- the primary map's record of the key is one that the primary store has had
abbrev pub HasBeen : (List ℕ → Type 0) → List ℕ → FlaggedMap → Type 0
HasBeen Was key primary = (s : Stored) → get primary key ≡ Some s → Was s.bytes

abbrev R : List ℕ → List ℕ → Ordering
R = slice_cmp nat_cmp

equal : (r : Ordering) → is_eq r ≡ true → r ≡ Equal
equal Less is = absurd (true≢false (sym is))
equal Equal is = refl
equal Greater is = absurd (true≢false (sym is))

none_here : (P : Stored → Type 0) (found : Option Stored) → found ≡ None → IfSome found P
none_here P found is = subst (λ (o : Option Stored). IfSome o P) (sym is) tt

pub some_same : {X : Type 0} (x y : X) → Some x ≡ Some y → x ≡ y
some_same x y same = cc

numbered_by : (w c r : Bool) → w || r ≡ true → w || c || r ≡ true
numbered_by true c r is = refl
numbered_by false true r is = refl
numbered_by false false true is = refl
numbered_by false false false is = absurd (true≢false (sym is))

-- a mirrored record has a number
pub is_numbered_too : (flags : ℕ) → is_mirrored flags ≡ true → is_numbered flags ≡ true
is_numbered_too flags is = numbered_by (is_write_once flags) (is_confidential flags) (is_replay_protected flags) is

pub floor_at_none : (active : Option OpenSet) (next : ℕ) → is_some active ≡ false → floor active next ≡ next
floor_at_none None next none = refl
floor_at_none (Some set) next none = absurd (true≢false none)

floor_most_by : (is_remove numbered : Bool) (next : ℕ) → floor_by is_remove numbered next ≤ next
floor_most_by true numbered next = omega arith
floor_most_by false true next = omega arith
floor_most_by false false next = omega arith

pub floor_most : (active : Option OpenSet) (next : ℕ) → floor active next ≤ next
floor_most None next = omega arith
floor_most (Some set) next = floor_most_by set.is_remove (is_numbered set.flags) next

module _ (Was : List ℕ → Type 0) (root key past : List ℕ) where
  -- ---- a later next number

  pub tag_later : (limit later : ℕ) (tag : List ℕ) → limit ≤ later → IsTagBelow Was root key limit tag → IsTagBelow Was root key later tag
  tag_later limit later tag most t = record {
    bytes = t.bytes;
    sealed = t.sealed;
    was = t.was;
    mirrored = t.mirrored;
    below = omega (arith, t.below, most);
    its = t.its;
  }

  numbered_later : (low limit later : ℕ) (bytes : List ℕ) → limit ≤ later → IsNumbered Was root key past low limit bytes → IsNumbered Was root key past low later bytes
  numbered_later low limit later bytes most r = record {
    sealed = r.sealed;
    between = λ is. ((r.between is).0, omega (arith, (r.between is).1, most));
    replaced = r.replaced;
  }

  pub primary_later : (low limit later : ℕ) (found : Option Stored) → limit ≤ later → IfSome found (λ (s : Stored). IsNumbered Was root key past low limit s.bytes)
      → IfSome found (λ (s : Stored). IsNumbered Was root key past low later s.bytes)
  primary_later low limit later None most old = tt
  primary_later low limit later (Some s) most old = numbered_later low limit later s.bytes most old

  pub rollback_later : (limit later : ℕ) (found : Option Stored) → limit ≤ later → IfSome found (λ (t : Stored). IsTagBelow Was root key limit t.bytes)
      → IfSome found (λ (t : Stored). IsTagBelow Was root key later t.bytes)
  rollback_later limit later None most old = tt
  rollback_later limit later (Some t) most old = tag_later limit later t.bytes most old

  pub keeps_later : (low limit later : ℕ) (maps : Maps) → limit ≤ later → Keeps Was root key past low limit maps → Keeps Was root key past low later maps
  keeps_later low limit later maps most old = record {
    early = omega (arith, old.early, most);
    primary = primary_later low limit later (get maps.primary key) most old.primary;
    tag = rollback_later limit later (get maps.rollback key) most old.tag;
  }

  -- ---- a record that is stored

  module _ (low limit later : ℕ) (most : limit ≤ later) (maps : Maps) (old : Keeps Was root key past low limit maps)
      (other : List ℕ) (flags : ℕ) (bytes : List ℕ)
      (new : other ≡ key → (n : IsNumbered Was root key past low later bytes) × (n.sealed.flags ≡ flags))
      (been : HasBeen Was key (insert maps.primary other (record_entry flags bytes))) where
    abbrev IsIn : Stored → Type 0
    IsIn s = IsNumbered Was root key past low later s.bytes

    abbrev IsTag : Stored → Type 0
    IsTag t = IsTagBelow Was root key later t.bytes

    same_key : eq_by_cmp R key other ≡ true → other ≡ key
    same_key tied = sym (bytes_same key other (equal _ tied))

    stored_at : (tied : Bool) → eq_by_cmp R key other ≡ tied → IfSome (cond tied (Some (record_entry flags bytes)) (get maps.primary key)) IsIn
    stored_at true tied = (new (same_key tied)).0
    stored_at false tied = primary_later low limit later (get maps.primary key) most old.primary

    stored_primary : IfSome (get (insert maps.primary other (record_entry flags bytes)) key) IsIn
    stored_primary = subst (λ (o : Option Stored). IfSome o IsIn) (sym (get-insert nat_list_cmp_total maps.primary other (record_entry flags bytes) key)) (stored_at _ refl)

    its_own : eq_by_cmp R key other ≡ true → Was bytes
    its_own tied = been (record_entry flags bytes)
        (get-insert nat_list_cmp_total maps.primary other (record_entry flags bytes) key
        ∙ ap (λ (b : Bool). cond b (Some (record_entry flags bytes)) (get maps.primary key)) tied)

    tag_at : is_mirrored flags ≡ true → (tied : Bool) → eq_by_cmp R key other ≡ tied → IfSome (cond tied (Some (tag_entry flags bytes)) (get maps.rollback key)) IsTag
    tag_at mirrored true tied =
        let n = new (same_key tied) in
        let is = ap is_mirrored n.1 ∙ mirrored in
        record { bytes = bytes; sealed = n.0.sealed; was = its_own tied; mirrored = is; below = (n.0.between (is_numbered_too n.0.sealed.flags is)).1; its = refl }
    tag_at mirrored false tied = rollback_later limit later (get maps.rollback key) most old.tag

    stored_tag : (mirrored : Bool) → is_mirrored flags ≡ mirrored → IfSome (get (if mirrored then insert maps.rollback other (tag_entry flags bytes) else maps.rollback) key) IsTag
    stored_tag true is = subst (λ (o : Option Stored). IfSome o IsTag) (sym (get-insert nat_list_cmp_total maps.rollback other (tag_entry flags bytes) key)) (tag_at is _ refl)
    stored_tag false is = rollback_later limit later (get maps.rollback key) most old.tag

    pub record_kept : Keeps Was root key past low later (with_record maps other flags bytes)
    record_kept = record {
      early = omega (arith, old.early, most);
      primary = stored_primary;
      tag = stored_tag (is_mirrored flags) refl;
    }

  -- ---- a key that is taken away

  gone : (P : Stored → Type 0) (m : FlaggedMap) (other : List ℕ) (tied : Bool) → IfSome (get m key) P → IfSome (cond tied None (get m key)) P
  gone P m other true old = tt
  gone P m other false old = old

  pub removed_kept : (low limit : ℕ) (maps : Maps) (other : List ℕ) → Keeps Was root key past low limit maps → Keeps Was root key past low limit (without_key maps other)
  removed_kept low limit maps other old = record {
    early = old.early;
    primary = subst (λ (o : Option Stored). IfSome o (λ (s : Stored). IsNumbered Was root key past low limit s.bytes)) (sym (get-remove nat_list_cmp_total maps.primary other key))
        (gone _ maps.primary other (eq_by_cmp R key other) old.primary);
    tag = subst (λ (o : Option Stored). IfSome o (λ (t : Stored). IsTagBelow Was root key limit t.bytes)) (sym (get-remove nat_list_cmp_total maps.rollback other key))
        (gone _ maps.rollback other (eq_by_cmp R key other) old.tag);
  }

  -- ---- what a mount heals

  chosen : (b : Bool) (found : Option Metadata) (m : Metadata) → (if b then found else None) ≡ Some m → found ≡ Some m
  chosen true found m is = is
  chosen false found m is = absurd (cc)

  module _ (form : HaveForm) where
    -- the metadata of a record that was sealed
    pub metadata_is : (bytes : List ℕ) (s : IsSeal root key bytes) (m : Metadata) → metadata_in root key bytes ≡ Some m → m ≡ sealed_metadata (length s.value) s.flags s.iv s.prior
    metadata_is bytes s m is =
        some_same m (sealed_metadata (length s.value) s.flags s.iv s.prior)
        (sym (chosen _ _ m is) ∙ ap (λ (b : List ℕ). metadata_of (take 40 b) (length b)) s.is
        ∙ form.metadata root key (sealed_metadata (length s.value) s.flags s.iv s.prior) s.value (is_metadata form root key s.flags s.iv s.prior s.value s.may) refl)

    module _ (secure : Secure) (same_root : secure.root ≡ root) (low limit : ℕ) (maps : Maps) (old : Keeps Was root key past low limit maps) (been : HasBeen Was key maps.primary) where
      healed_tag : (before after : Stored) → IsHealed secure maps key before after → IsTagBelow Was root key limit after.bytes
      healed_tag before after h =
          let there : IsNumbered Was root key past low limit h.stored.bytes = subst (λ (o : Option Stored). IfSome o (λ (s : Stored). IsNumbered Was root key past low limit s.bytes)) h.found old.primary in
          let m = metadata_is h.stored.bytes there.sealed h.metadata (subst (λ (r : List ℕ). metadata_in r key h.stored.bytes ≡ Some h.metadata) same_root h.sealed) in
          let mirrored = (there.replaced before.bytes (sym (ap (λ (x : Metadata). x.prior) m) ∙ h.prior)).0 in
          record {
            bytes = h.stored.bytes;
            sealed = there.sealed;
            was = been h.stored h.found;
            mirrored = mirrored;
            below = (there.between (is_numbered_too there.sealed.flags mirrored)).1;
            its = ap (λ (s : Stored). s.bytes) h.completed;
          }

      healed_kept : (before after : Option Stored) → HealsKey secure maps key before after → IfSome before (λ (t : Stored). IsTagBelow Was root key limit t.bytes)
          → IfSome after (λ (t : Stored). IsTagBelow Was root key limit t.bytes)
      healed_kept None after heals tag = none_here _ after heals
      healed_kept (Some before) None heals tag = absurd heals
      healed_kept (Some before) (Some after) (inl same) tag = subst (λ (t : Stored). IsTagBelow Was root key limit t.bytes) (sym same) tag
      healed_kept (Some before) (Some after) (inr h) tag = healed_tag before after h

      pub heal_keeps : HealsKey secure maps key (get maps.rollback key) (get (heal secure maps).rollback key) → Keeps Was root key past low limit (heal secure maps)
      heal_keeps heals = record {
        early = old.early;
        primary = old.primary;
        tag = healed_kept (get maps.rollback key) (get (heal secure maps).rollback key) heals old.tag;
      }
