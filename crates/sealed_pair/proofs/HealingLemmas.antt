-- What healing one key leaves of the rollback store.
use Rattle.std.proofs.Common.{◌≡◌, ◌≢◌, inl, inr, ℕ, Bool, true, false, List, length, Option, Some, None, Result, Ok, Ordering, Less, Equal, Greater, is_eq, nat_cmp, cond, refl, sym, ◌∙◌, ap, ap₂, subst, arith, true≢false}
use Rattle.std.specs.Prelude.{if◌then◌else◌, IsTrue, not, ◌&&◌, ◌==◌, ◌%◌}
use Rattle.std.specs.Option.{option_map_or}
use Rattle.std.specs.Ordering.{eq_by_cmp}
use Rattle.std.specs.Str.{bytes_eq}
use Rattle.std.specs.Cmp.Lexicographic.{nat_list_cmp_total, slice_cmp}
use Rattle.std.specs.FinMap.{get, get-insert, insert, same_map}
use Rattle.std.proofs.lemmas.Bool.{leb-true, le-leb}
use Rattle.std.proofs.lemmas.Bool.Decides.{nat_tests}
use Rattle.std.proofs.lemmas.Slice.Eq.{bytes_eq-Decides}
use Rattle.kv_model.specs.declared.error.KvError.{KvError}
use Rattle.kv_model.specs.Constants.{Constants, Secure}
use Rattle.kv_model.specs.FlaggedMap.{FlaggedMap, Stored}
use Rattle.kv_model.specs.Flags.{is_write_once}
use Rattle.kv_model.specs.Kv.{KvState, TellsOnly}
use Rattle.kv_model.specs.Rules.{Rules}
use Rattle.kv_model.specs.StoreState.{Maps, StoreState}
use Rattle.kv_model.proofs.NextKeyLemmas.{bytes_same}
use Rattle.secure_record.specs.declared.metadata.Metadata.{Metadata}
use Rattle.sealed_pair.specs.declared.recovering.Entry.{Entry}
use Rattle.sealed_pair.specs.declared.recovering.Successor.{Successor}
use Rattle.sealed_pair.specs.Going.{WhereStill}
use Rattle.sealed_pair.specs.Heal.{IsHealed, fits_tag, healed, metadata_in, needed_for_tag}
use Rattle.sealed_pair.specs.Reading.{HasRead, TellsPlain}
use Rattle.sealed_pair.specs.Recovering.{HasNoSuccessor, IsSuccessor, Leaves, Rewrites, replaces, secure_by, stored_by, tag_by, with_healed, with_tag}
use Rattle.sealed_pair.specs.Running.{IsIdle}
use Rattle.sealed_pair.specs.Sealing.{tag_of}
use Rattle.sealed_pair.proofs.GoingLemmas.{tells_more}
use Rattle.sealed_pair.proofs.HealLemmas.{completes, healed_is, length-healed, length-tag, parts_of}
use Rattle.sealed_pair.proofs.RecoveringLemmas.{same_stored}

same_metadata : (a b : Metadata) → Some a ≡ Some b → a ≡ b
same_metadata a b is = cc

no_bytes : (a : List ℕ) → Some a ≡ None → ⊥
no_bytes a is = absurd (cc is)

same_bytes : (a b : List ℕ) → Some a ≡ Some b → a ≡ b
same_bytes a b is = cc

-- ---- a value that is put in where it stands

equal_then : (r : Ordering) → is_eq r ≡ true → r ≡ Equal
equal_then Less is = absurd (true≢false (sym is))
equal_then Equal is = refl
equal_then Greater is = absurd (true≢false (sym is))

inserted_at : (m : FlaggedMap) (key : List ℕ) (v : Stored) (q : List ℕ) (tied : Bool) → eq_by_cmp (slice_cmp nat_cmp) q key ≡ tied → get m key ≡ Some v
    → cond tied (Some v) (get m q) ≡ get m q
inserted_at m key v q true is there = sym (ap (get m) (bytes_same q key (equal_then _ is)) ∙ there)
inserted_at m key v q false is there = refl

pub insert_same : (m : FlaggedMap) (key : List ℕ) (v : Stored) → get m key ≡ Some v → insert m key v ≡ m
insert_same m key v there =
    same_map nat_list_cmp_total bytes_same (insert m key v) m (λ q.
    get-insert nat_list_cmp_total m key v q ∙ inserted_at m key v q (eq_by_cmp (slice_cmp nat_cmp) q key) refl there)

-- ---- the map with one tag healed

module _ (root key : List ℕ) (above below : FlaggedMap) (c : Constants) where
  abbrev secure : Secure
  secure = secure_by root c

  abbrev maps : Maps
  maps = record { primary = above; rollback = below }

  abbrev new_tag : Stored → Stored
  new_tag old = healed secure maps key old

  found_stays : (found : Option Stored) → get below key ≡ found → ((old : Stored) → get below key ≡ Some old → new_tag old ≡ old)
      → option_map_or (λ (tag : Stored). insert below key (new_tag tag)) found below ≡ below
  found_stays None is same = refl
  found_stays (Some old) is same = ap (insert below key) (same old is) ∙ insert_same below key old is

  pub stays : ((old : Stored) → get below key ≡ Some old → new_tag old ≡ old) → with_healed secure above below key ≡ below
  stays same = found_stays (get below key) refl same

  unless : (old : Stored) → (IsHealed secure maps key old (new_tag old) → new_tag old ≡ old) → new_tag old ≡ old
  unless old same = elim (healed_is secure maps key old) [ inl is ↦ is | inr h ↦ same h ]

  -- no record replaces it
  pub none_stays : HasNoSuccessor root key (get above key) → with_healed secure above below key ≡ below
  none_stays none = stays (λ old there. unless old (λ h. absurd (no_bytes old.bytes (sym h.prior ∙ none h.stored h.found h.metadata h.sealed))))

  -- it is no tag
  pub other_stays : ((stored : Stored) → get below key ≡ Some stored → length stored.bytes ≢ 16) → with_healed secure above below key ≡ below
  other_stays other = stays (λ old there. unless old (λ h.
      absurd (other old there (sym (length-healed secure maps key old) ∙ ap (λ (s : Stored). length s.bytes) h.completed
      ∙ length-tag h.stored.bytes h.metadata (parts_of root key h.stored.bytes h.metadata h.sealed)))))

  module _ (s : Successor) (e : Entry) (is : IsSuccessor root key (get above key) s) (there : get below key ≡ Some (stored_by e)) where
    -- what heals the tag is that record
    of_successor : (old : Stored) → get below key ≡ Some old → IsHealed secure maps key old (new_tag old) → (old ≡ stored_by e) × ((s.prior ≡ e.tag) × (new_tag old ≡ tag_by s))
    of_successor old found h =
        let old_is = same_stored old (stored_by e) (sym found ∙ there) in
        let stored = same_stored h.stored is.stored (sym h.found ∙ is.there) in
        let metadata = same_metadata h.metadata is.metadata (sym h.sealed ∙ ap (λ (x : Stored). metadata_in root key x.bytes) stored ∙ is.sealed) in (
          old_is,
          (
            same_bytes s.prior e.tag (sym is.prior ∙ ap (λ (m : Metadata). m.prior) (sym metadata) ∙ h.prior ∙ ap (λ (x : Stored). Some x.bytes) old_is),
            h.completed ∙ ap₂ (λ (m : Metadata) (x : Stored). record { flags = m.flags % 2; bytes = tag_of x.bytes }) metadata stored ∙ sym is.completed,
          ),
        )

    same_entry : (a b : Bool) → (a && b) ≡ true → (a ≡ true) × (b ≡ true)
    same_entry true b is = (refl, is)
    same_entry false b is = absurd (true≢false (sym is))

    kept_by : (right once same : Bool) → (right && (not once && not same)) ≡ false → right ≡ true → once ≡ false → same ≡ true
    kept_by right once true is holds lacks = refl
    kept_by true false false is holds lacks = absurd (true≢false is)
    kept_by true true false is holds lacks = absurd (true≢false lacks)
    kept_by false once false is holds lacks = absurd (true≢false (sym holds))

    same_flags : (a b : ℕ) → (a == b) ≡ true → a ≡ b
    same_flags a b is = grind (arith, nat_tests)

    -- it is not to be replaced
    pub kept_stays : replaces s e ≡ false → with_healed secure above below key ≡ below
    kept_stays kept = stays (λ old found. unless old (λ h.
        let by = of_successor old found h in
        let free : is_write_once e.flags.bits ≡ false = ap (λ (x : Stored). is_write_once x.flags) (sym by.0) ∙ h.free in
        let same = same_entry (bytes_eq e.tag s.tag) (e.flags.bits == s.flags.bits)
        (kept_by (bytes_eq e.tag s.prior) (is_write_once e.flags.bits) (bytes_eq e.tag s.tag && (e.flags.bits == s.flags.bits)) kept
        ((bytes_eq-Decides e.tag s.prior).1 (sym by.1.0)) free) in
        by.1.1 ∙ sym (ap₂ (λ (n : ℕ) (bytes : List ℕ). record { flags = n; bytes = bytes }) (same_flags e.flags.bits s.flags.bits same.1) ((bytes_eq-Decides e.tag s.tag).0 same.0)) ∙ sym by.0))

    all_of : (right once same : Bool) → (right && (not once && not same)) ≡ true → (right ≡ true) × ((once ≡ false) × (same ≡ false))
    all_of true false false is = (refl, (refl, refl))
    all_of true false true is = absurd (true≢false (sym is))
    all_of true true same is = absurd (true≢false (sym is))
    all_of false once same is = absurd (true≢false (sym is))

    tests : replaces s e ≡ true → (bytes_eq e.tag s.prior ≡ true) × ((is_write_once e.flags.bits ≡ false) × ((bytes_eq e.tag s.tag && (e.flags.bits == s.flags.bits)) ≡ false))
    tests holds = all_of (bytes_eq e.tag s.prior) (is_write_once e.flags.bits) (bytes_eq e.tag s.tag && (e.flags.bits == s.flags.bits)) holds

    by_room : (fits : Bool) → fits_tag secure maps key ≡ fits → replaces s e ≡ true → insert below key (new_tag (stored_by e)) ≡ (if fits then insert below key (tag_by s) else below)
    by_room true room holds =
        ap (insert below key) (completes secure maps key (stored_by e) (tag_by s) (record {
          stored = is.stored;
          metadata = is.metadata;
          found = is.there;
          sealed = is.sealed;
          prior = is.prior ∙ ap Some (sym ((bytes_eq-Decides e.tag s.prior).0 (tests holds).0));
          free = (tests holds).1.0;
          room = leb-true (needed_for_tag secure maps key) c.room room;
          completed = is.completed;
        }))
    by_room false room holds =
        ap (insert below key) (unless (stored_by e) (λ h. absurd (true≢false (sym (le-leb (needed_for_tag secure maps key) c.room h.room) ∙ room))))
        ∙ insert_same below key (stored_by e) there

    -- it is replaced, where there is room
    pub replaced_is : replaces s e ≡ true → with_tag c key (tag_by s) below ≡ with_healed secure above below key
    replaced_is holds =
        sym (ap (λ (o : Option Stored). option_map_or (λ (tag : Stored). insert below key (new_tag tag)) o below) there ∙ by_room (fits_tag secure maps key) refl holds)

-- ---- what calls leave

widened : (old new : KvState) (before goal : FlaggedMap) → TellsOnly old.crash.primary new.crash.primary before before → TellsOnly old.crash.primary new.crash.primary before goal
widened old new before goal tells = record {
  moment = tells.moment;
  told = λ t map early later. elim (tells.told t map early later) [
    | inl earlier ↦ inl earlier
    | inr (inl is) ↦ inr (inl is)
    | inr (inr is) ↦ inr (inl is)
  ];
}

module _ (by : Constants → Rules) (old new : KvState) (goal : StoreState → FlaggedMap) where
  still_moments : HasRead old new → IsTrue old.crash.tells_moments → WhereStill by old (λ s. TellsOnly old.crash.primary new.crash.primary s.primary (goal s))
  still_moments read tells s idle = widened old new s.primary (goal s) (read.moments tells s idle.told)

  pub rewrites_still : HasRead old new → WhereStill by old (λ s. goal s ≡ s.primary) → Rewrites by old new goal (Ok false)
  rewrites_still read same = record {
    told = λ s idle. record {
      told = read.state ∙ idle.told ∙ (λ i. Some (record s { primary = sym (same s idle) i }));
      counted = λ holds. absurd (true≢false (sym holds));
      uncounted = λ lacks. same s idle;
    };
    moments = still_moments read;
  }

pub plain_of : {by : Constants → Rules} {s : KvState} {state : StoreState} → IsIdle by s state → TellsPlain by s state
plain_of idle = record { rules = idle.rules; told = idle.told; running = idle.running }

pub idle_behind : {by : Constants → Rules} {old mid : KvState} {state : StoreState} → HasRead old mid → IsIdle by old state → IsIdle by mid state
idle_behind read idle = record { rules = idle.rules; told = read.state ∙ idle.told; running = idle.running; holds = idle.holds }

-- a call behind reads
pub rewrites_behind : (by : Constants → Rules) (old mid new : KvState) (goal late : StoreState → FlaggedMap) (result : Result Bool KvError) → HasRead old mid
    → WhereStill by old (λ s. late s ≡ goal s) → Rewrites by mid new late result → Rewrites by old new goal result
rewrites_behind by old mid new goal late result read same rewrites = record {
  told = λ s idle. subst (λ (m : FlaggedMap). Leaves new s m result) (same s idle) (rewrites.told s (idle_behind read idle));
  moments = λ tells s idle.
      tells_more (widened old mid s.primary (goal s) (read.moments tells s idle.told))
      (subst (λ (m : FlaggedMap). TellsOnly mid.crash.primary new.crash.primary s.primary m) (same s idle)
      (rewrites.moments (subst IsTrue (sym read.keeps.tells_moments) tells) s (idle_behind read idle)))
      (inl refl) (inr refl);
}
