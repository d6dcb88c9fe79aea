-- What an old primary map shows of a key beside the rollback map of now.
use Rattle.std.proofs.Common.{◌≡◌, ◌≢◌, ◌⊎◌, inl, inr, ℕ, zero, suc, ◌+◌, ◌<◌, ◌≤◌, Bool, true, false, ◌==◌, List, [], ◌∷◌, length, Option, Some, None, IfSome, MatchOption, slice_index_or, refl, sym, ◌∙◌, ap, ap₂, subst, arith, true≢false}
use Rattle.std.specs.Prelude.{if◌then◌else◌, is_some}
use Rattle.std.specs.Str.{bytes_eq}
use Rattle.std.specs.FinMap.{get}
use Rattle.std.specs.List.{Contains}
use Rattle.std.proofs.lemmas.Bool.{eqb-true}
use Rattle.std.proofs.lemmas.Slice.Eq.{bytes_eq-Decides}
use Rattle.kv_model.specs.Constants.{Constants}
use Rattle.kv_model.specs.FlaggedMap.{FlaggedMap, Stored}
use Rattle.kv_model.specs.Flags.{is_mirrored}
use Rattle.kv_model.specs.History.{last_state}
use Rattle.kv_model.specs.Rules.{cuts}
use Rattle.kv_model.specs.StoreState.{Doubt, StoreState, maps_of}
use Rattle.secure_record.specs.declared.metadata.Metadata.{Metadata}
use Rattle.secure_record.specs.Metadata.{IsMetadata}
use Rattle.secure_record.specs.Sealed.{sealed, sealed_metadata, sealed_vector}
use Rattle.secure_record.specs.Unseal.{Opened, unseal}
use Rattle.sealed_pair.specs.Heal.{IsHealed, heal, metadata_in}
use Rattle.sealed_pair.specs.Laws.{HealsKey, mounted_view}
use Rattle.sealed_pair.specs.Sealing.{is_numbered, secure_of, tag_of}
use Rattle.sealed_pair.specs.SecureStep.{secure_rules, view}
use Rattle.sealed_pair.specs.View.{View, Held, RollbackFailed, holds_tag, view_by, view_unsealed}
use Rattle.sealed_pair.proofs.SealLemmas.{HaveForm, is_metadata}
use Rattle.sealed_pair.proofs.SetLemmas.{SealsOpen}
use Rattle.fresh_numbers.specs.Histories.{Event, History, IsHistory, PassesThrough, all_states, first_state, present, root_of}
use Rattle.fresh_numbers.specs.Replays.{HasHad, HasNumber, HaveOneTag, IsNewer, ShowsNothingOld, put_back}
use Rattle.fresh_numbers.proofs.NumberLemmas.{HasBeen, IsNumbered, IsSeal, IsTagBelow, floor, is_numbered_too, metadata_is, some_same}
use Rattle.fresh_numbers.proofs.HistoryLemmas.{Heals, KeepsAll, along, fewer_have, first_kept, follows, number_before}

-- a record is read in one way
abbrev pub OneReading : Type 0
OneReading = (root key : List ℕ) (m n : Metadata) (v w : List ℕ) → IsMetadata m → IsMetadata n → length v ≡ m.size → length w ≡ n.size
    → sealed root key m v ≡ sealed root key n w → (m ≡ n) × (v ≡ w)

-- ---- a view that is held

same_flags : (a b : ℕ) (v w : List ℕ) → Held a v ≡ Held b w → a ≡ b
same_flags a b v w is = cc is

not_held : (a : ℕ) (v : List ℕ) → RollbackFailed ≡ Held a v → ⊥
not_held a v is = absurd (cc is)

-- both stores have the key, and the rollback store the tag of its record
pub record IsWhole (root key : List ℕ) (primary tag : Option Stored) : Type 0 where
  pub stored : Stored
  pub there : primary ≡ Some stored
  pub mirror : Stored
  pub beside : tag ≡ Some mirror
  pub its : mirror.bytes ≡ tag_of stored.bytes
  pub opened : Opened
  pub opens : unseal root key stored.bytes ≡ Some opened
  pub mirrored : is_mirrored opened.flags ≡ true
  pub shown : view_by root key primary tag ≡ Held opened.flags opened.value

module _ (root key : List ℕ) (flags : ℕ) (value : List ℕ) (mirrored : is_mirrored flags ≡ true) where
  by_tag : (s t : Stored) (o : Opened) → unseal root key s.bytes ≡ Some o → (own : Bool) → is_mirrored o.flags ≡ true → bytes_eq t.bytes (tag_of s.bytes) ≡ own
      → (if own then Held o.flags o.value else RollbackFailed) ≡ Held flags value → IsWhole root key (Some s) (Some t)
  by_tag s t o opens true is own held = record {
    stored = s;
    there = refl;
    mirror = t;
    beside = refl;
    its = (bytes_eq-Decides t.bytes (tag_of s.bytes)).0 own;
    opened = o;
    opens = opens;
    mirrored = is;
    shown =
        ap (view_unsealed s.bytes (Some t)) opens
        ∙ ap₂ (λ (m h : Bool). if m then (if h then Held o.flags o.value else RollbackFailed) else RollbackFailed) is own;
  }
  by_tag s t o opens false is own held = absurd (not_held flags value held)

  by_mirror : (s : Stored) (tag : Option Stored) (o : Opened) → unseal root key s.bytes ≡ Some o → (m : Bool) → is_mirrored o.flags ≡ m
      → (if m then (if holds_tag s.bytes tag then Held o.flags o.value else RollbackFailed) else if is_some tag then RollbackFailed else Held o.flags o.value) ≡ Held flags value
      → IsWhole root key (Some s) tag
  by_mirror s None o opens true is held = absurd (not_held flags value held)
  by_mirror s (Some t) o opens true is held = by_tag s t o opens (bytes_eq t.bytes (tag_of s.bytes)) is refl held
  by_mirror s None o opens false is held = absurd (true≢false (sym mirrored ∙ ap is_mirrored (sym (same_flags o.flags flags o.value value held)) ∙ is))
  by_mirror s (Some t) o opens false is held = absurd (not_held flags value held)

  by_seal : (s : Stored) (tag : Option Stored) (found : Option Opened) → unseal root key s.bytes ≡ found → view_unsealed s.bytes tag found ≡ Held flags value → IsWhole root key (Some s) tag
  by_seal s tag None opens held = absurd (cc held)
  by_seal s tag (Some o) opens held = by_mirror s tag o opens (is_mirrored o.flags) refl held

  pub whole : (primary tag : Option Stored) → view_by root key primary tag ≡ Held flags value → IsWhole root key primary tag
  whole None None held = absurd (cc held)
  whole None (Some t) held = absurd (not_held flags value held)
  whole (Some s) tag held = by_seal s tag (unseal root key s.bytes) refl held

-- ---- an old record

not_zero : (flags : ℕ) → is_numbered flags ≡ true → (flags == 0) ≡ false
not_zero flags is = by_zero (flags == 0) refl
  where
    by_zero : (b : Bool) → (flags == 0) ≡ b → b ≡ false
    by_zero true none = absurd (true≢false (sym is ∙ ap is_numbered (eqb-true flags 0 none)))
    by_zero false none = refl

-- a record with a number has it as vector
pub vector_is : (flags iv : ℕ) → is_numbered flags ≡ true → sealed_vector flags iv ≡ iv
vector_is flags iv is = ap (λ (b : Bool). if b then 0 else iv) (not_zero flags is)

module _ (opens : SealsOpen) (form : HaveForm) (one : OneReading) (root key : List ℕ) where
  -- the same record under another name
  abbrev pub moved : (a b : List ℕ) → a ≡ b → IsSeal root key a → IsSeal root key b
  moved a b same s = record { flags = s.flags; iv = s.iv; prior = s.prior; value = s.value; may = s.may; is = sym same ∙ s.is }

  -- the numbers of two seals that are one record
  pub same_number : (bytes : List ℕ) (a b : IsSeal root key bytes) → is_numbered a.flags ≡ true → is_numbered b.flags ≡ true → a.iv ≡ b.iv
  same_number bytes a b first second =
      let m = (one root key (sealed_metadata (length a.value) a.flags a.iv a.prior) (sealed_metadata (length b.value) b.flags b.iv b.prior) a.value b.value
      (is_metadata form root key a.flags a.iv a.prior a.value a.may) (is_metadata form root key b.flags b.iv b.prior b.value b.may) refl refl (sym a.is ∙ b.is)).0 in
      sym (vector_is a.flags a.iv first) ∙ ap (λ (x : Metadata). x.vector) m ∙ vector_is b.flags b.iv second

  pub opens_to : (bytes : List ℕ) (s : IsSeal root key bytes) → unseal root key bytes ≡ Some (record { flags = s.flags; vector = sealed_vector s.flags s.iv; value = s.value })
  opens_to bytes s = ap (unseal root key) s.is ∙ opens root key s.flags s.iv s.prior s.value s.may.secure s.may.number s.may.replaced (let most = s.may.most in omega (arith, most))

-- ---- two moments of a history

module _ (Was : List ℕ → Type 0) (key : List ℕ) (constants : Constants) where
  abbrev its_root : List ℕ
  its_root = (secure_of constants).root

  -- an old record, and what is kept of its number since: every other record has a higher one
  pub record IsOld (now : StoreState) (s : Stored) : Type 0 where
    pub limit : ℕ
    pub numbered : IsNumbered Was its_root key [] 0 limit s.bytes
    pub since : is_numbered numbered.sealed.flags ≡ true → KeepsAll Was key s.bytes constants (numbered.sealed.iv + 1) now

  abbrev pub AreMoments : StoreState → StoreState → Type 0
  AreMoments earlier now = IfSome (get earlier.primary key) (IsOld now)

  abbrev limit_of : StoreState → ℕ
  limit_of old = floor old.open_set (number_before old)

  raised : (old : StoreState) (kept : KeepsAll Was key [] constants 0 old) (s : Stored) → get old.primary key ≡ Some s
      → (n : IsNumbered Was its_root key [] 0 (limit_of old) s.bytes) → is_numbered n.sealed.flags ≡ true → KeepsAll Was key s.bytes constants (n.sealed.iv + 1) old
  raised old kept s there n is =
      let below = (n.between is).1 in
      record {
        within = kept.within;
        keeps = record {
          both = record {
            early = omega (arith, below);
            primary = subst (λ (o : Option Stored). IfSome o (λ (x : Stored). IsNumbered Was its_root key s.bytes (n.sealed.iv + 1) (limit_of old) x.bytes)) (sym there)
                (record { sealed = n.sealed; between = λ so. (inl refl, below); replaced = n.replaced });
            tag = kept.keeps.both.tag;
          };
          taken = kept.keeps.taken;
        };
        counted = kept.counted;
      }

  at_moment : (old now : StoreState) → KeepsAll Was key [] constants 0 old
      → ((past : List ℕ) (low : ℕ) → KeepsAll Was key past constants low old → KeepsAll Was key past constants low now)
      → (found : Option Stored) → get old.primary key ≡ found → IfSome found (λ (s : Stored). IsNumbered Was its_root key [] 0 (limit_of old) s.bytes) → IfSome found (IsOld now)
  at_moment old now kept go None there n = tt
  at_moment old now kept go (Some s) there n = record { limit = limit_of old; numbered = n; since = λ is. go s.bytes (n.sealed.iv + 1) (raised old kept s there n is) }

  module _ (form : HaveForm) (heals : Heals) (earlier later : StoreState) where
    pub moments : (events : List Event) (states : List StoreState) (old : StoreState) → PassesThrough constants old events states
        → ((state : StoreState) → Contains (old ∷ states) state → HasBeen Was key state.primary) → KeepsAll Was key [] constants 0 old
        → (i j : ℕ) → i ≤ j → i < length (old ∷ states) → slice_index_or (old ∷ states) i earlier ≡ earlier
        → j < length (old ∷ states) → slice_index_or (old ∷ states) j later ≡ later → AreMoments earlier later
    moments events states old passes have kept zero j order below is within so =
        subst (λ (s : StoreState). AreMoments s later) is
        (at_moment old later kept
        (λ past low from. along Was key past form heals constants low events states old passes (fewer_have Was key past form heals constants low old states have) from later j within so)
        (get old.primary key) refl kept.keeps.both.primary)
    moments events states old passes have kept (suc i) zero order below is within so = absurd (omega (arith, order))
    moments [] [] old passes have kept (suc i) (suc j) order below is within so = absurd (omega (arith, below))
    moments [] (new ∷ states) old passes have kept (suc i) (suc j) order below is within so = absurd passes
    moments (event ∷ events) [] old passes have kept (suc i) (suc j) order below is within so = absurd passes
    moments (event ∷ events) (new ∷ states) old passes have kept (suc i) (suc j) order below is within so =
        let fewer = fewer_have Was key [] form heals constants 0 old (new ∷ states) have in
        moments events states new passes.1 fewer (follows Was key [] form heals constants 0 old kept event new passes.0 (fewer new (zero, omega arith, refl)))
        i j (omega (arith, order)) (omega (arith, below)) is (omega (arith, within)) so

-- the last state stands at the end
pub last_is : (old : StoreState) (states : List StoreState) → slice_index_or (old ∷ states) (length states) (last_state old states) ≡ last_state old states
last_is old [] = refl
last_is old (new ∷ states) = last_is new states

pub last_in : (old : StoreState) (states : List StoreState) → Contains (old ∷ states) (last_state old states)
last_in old states = (length states, omega arith, last_is old states)

-- ---- what is shown

module _ (opens : SealsOpen) (form : HaveForm) (one : OneReading) (heals : Heals) (h : History) (key : List ℕ) where
  abbrev now : StoreState
  now = present h

  abbrev root : List ℕ
  root = root_of h

  -- the number of a record
  abbrev pub number_of : (bytes : List ℕ) (s : IsSeal root key bytes) → is_numbered s.flags ≡ true → HasNumber root key bytes s.iv
  number_of bytes s numbered = record {
    opened = record { flags = s.flags; vector = sealed_vector s.flags s.iv; value = s.value };
    opens = opens_to opens form one root key bytes s;
    numbered = numbered;
    vector = vector_is s.flags s.iv numbered;
  }

  pub seal_number : (bytes : List ℕ) (number : ℕ) (s : IsSeal root key bytes) (n : HasNumber root key bytes number) → (is_numbered s.flags ≡ true) × (s.iv ≡ number)
  seal_number bytes number s n =
      let o = some_same _ n.opened (sym (opens_to opens form one root key bytes s) ∙ n.opens) in
      let numbered : is_numbered s.flags ≡ true = ap (λ (x : Opened). is_numbered x.flags) o ∙ n.numbered in
      (numbered, sym (vector_is s.flags s.iv numbered) ∙ ap (λ (x : Opened). x.vector) o ∙ n.vector)

  -- A map that is put back, whose records are of those that may collide.
  module _ (Was : List ℕ → Type 0) (primary : FlaggedMap) (limit : ℕ) (been : HasBeen Was key primary) (has : HasBeen Was key now.primary)
      (w : IsWhole root key (get now.primary key) (get now.rollback key)) where
    abbrev Shows : View → Type 0
    Shows v = (v ≡ view h.constants now key) ⊎ ((v ≡ RollbackFailed) ⊎ (HaveOneTag Was ⊎ IsNewer h primary key v))

    collide : (bytes : List ℕ) → Was bytes → bytes ≢ w.stored.bytes → tag_of bytes ≡ tag_of w.stored.bytes → HaveOneTag Was
    collide bytes was differ same = record {
      first = bytes;
      second = w.stored.bytes;
      had_first = was;
      had_second = has w.stored w.there;
      differ = differ;
      same_tag = same;
    }

    no_same : (a b : List ℕ) → bytes_eq a b ≡ false → a ≢ b
    no_same a b not_eq eq = true≢false (sym ((bytes_eq-Decides a b).1 eq) ∙ not_eq)

    module _ (s : Stored) (there : get primary key ≡ Some s) (n : IsNumbered Was root key [] 0 limit s.bytes) (tag : Stored) where
      abbrev shown : View
      shown = Held n.sealed.flags n.sealed.value

      -- the same record
      same_view : s.bytes ≡ w.stored.bytes → shown ≡ view h.constants now key
      same_view same =
          let o = some_same _ w.opened (sym (opens_to opens form one root key s.bytes n.sealed) ∙ ap (unseal root key) same ∙ w.opens) in
          ap (λ (x : Opened). Held x.flags x.value) o ∙ sym w.shown

      stays : tag ≡ w.mirror → tag.bytes ≡ tag_of s.bytes → (same : Bool) → bytes_eq s.bytes w.stored.bytes ≡ same → Shows shown
      stays kept its true same = inl (same_view ((bytes_eq-Decides s.bytes w.stored.bytes).0 same))
      stays kept its false same = inr (inr (inl (collide s.bytes (been s there) (no_same _ _ same) (sym its ∙ ap (λ (t : Stored). t.bytes) kept ∙ w.its))))

      -- healing completes it: its prior is the tag of now, which a record with a lower number has
      completes : is_mirrored n.sealed.flags ≡ true → (t : IsTagBelow Was root key n.sealed.iv w.mirror.bytes) → (same : Bool) → bytes_eq t.bytes w.stored.bytes ≡ same → Shows shown
      completes mirrored t true same =
          let one_record = (bytes_eq-Decides t.bytes w.stored.bytes).0 same in
          inr (inr (inr (record {
            put = s;
            put_there = there;
            number = n.sealed.iv;
            put_number = number_of s.bytes n.sealed (is_numbered_too n.sealed.flags mirrored);
            shown_is = refl;
            now = w.stored;
            now_there = w.there;
            now_number = t.sealed.iv;
            numbered_now = number_of w.stored.bytes (moved opens form one root key t.bytes w.stored.bytes one_record t.sealed) (is_numbered_too t.sealed.flags t.mirrored);
            newer = t.below;
          })))
      completes mirrored t false same = inr (inr (inl (collide t.bytes t.was (no_same _ _ same) (sym t.its ∙ w.its))))

      replaced : IsHealed (secure_of h.constants) (put_back h primary) key w.mirror tag → IsTagBelow Was root key n.sealed.iv w.mirror.bytes
      replaced healed =
          let stored = some_same healed.stored s (sym healed.found ∙ there) in
          let m = metadata_is Was root key [] form s.bytes n.sealed healed.metadata (ap (λ (x : Stored). metadata_in root key x.bytes) (sym stored) ∙ healed.sealed) in
          (n.replaced w.mirror.bytes (ap (λ (x : Metadata). x.prior) (sym m) ∙ healed.prior)).1

      accepted : is_mirrored n.sealed.flags ≡ true → tag.bytes ≡ tag_of s.bytes → (tag ≡ w.mirror) ⊎ IsHealed (secure_of h.constants) (put_back h primary) key w.mirror tag → Shows shown
      accepted mirrored its (inl kept) = stays kept its (bytes_eq s.bytes w.stored.bytes) refl
      accepted mirrored its (inr healed) = let t = replaced healed in completes mirrored t (bytes_eq t.bytes w.stored.bytes) refl

      by_tests : (tag ≡ w.mirror) ⊎ IsHealed (secure_of h.constants) (put_back h primary) key w.mirror tag
          → (mirrored own : Bool) → is_mirrored n.sealed.flags ≡ mirrored → bytes_eq tag.bytes (tag_of s.bytes) ≡ own
          → Shows (if mirrored then (if own then shown else RollbackFailed) else RollbackFailed)
      by_tests so true true is own = accepted is ((bytes_eq-Decides tag.bytes (tag_of s.bytes)).0 own) so
      by_tests so true false is own = inr (inl refl)
      by_tests so false own is same = inr (inl refl)

      shows_old : (tag ≡ w.mirror) ⊎ IsHealed (secure_of h.constants) (put_back h primary) key w.mirror tag → Shows (view_by root key (Some s) (Some tag))
      shows_old so =
          subst Shows (sym (ap (view_unsealed s.bytes (Some tag)) (opens_to opens form one root key s.bytes n.sealed)))
          (by_tests so (is_mirrored n.sealed.flags) (bytes_eq tag.bytes (tag_of s.bytes)) refl refl)

    by_record : (found after : Option Stored) → get primary key ≡ found → IfSome found (λ (s : Stored). IsNumbered Was root key [] 0 limit s.bytes)
        → HealsKey (secure_of h.constants) (put_back h primary) key (Some w.mirror) after → Shows (view_by root key found after)
    by_record found None there n so = absurd so
    by_record None (Some tag) there n so = inr (inl refl)
    by_record (Some s) (Some tag) there n so = shows_old s there n tag so

    pub shows_nothing_older : IfSome (get primary key) (λ (s : Stored). IsNumbered Was root key [] 0 limit s.bytes) → Shows (mounted_view h.constants (put_back h primary) key)
    shows_nothing_older n =
        by_record (get primary key) (get (heal (secure_of h.constants) (put_back h primary)).rollback key) refl n
        (subst (λ (o : Option Stored). HealsKey (secure_of h.constants) (put_back h primary) key o (get (heal (secure_of h.constants) (put_back h primary)).rollback key)) w.beside
        (heals (secure_of h.constants) (put_back h primary) key))

-- ---- the map of a state

module _ (opens : SealsOpen) (form : HaveForm) (one : OneReading) (heals : Heals) (h : History) (is : IsHistory h) (earlier : StoreState) (passed : Contains (all_states h) earlier) (key : List ℕ) where
  abbrev Had : List ℕ → Type 0
  Had bytes = HasHad h key bytes

  pub had : (state : StoreState) → Contains (all_states h) state → HasBeen Had key state.primary
  had state within s there = record { state = state; passed = within; flags = s.flags; stored = there }

  old_and_now : AreMoments Had key h.constants earlier (present h)
  old_and_now =
      moments Had key h.constants form heals earlier (present h) h.events h.states (first_state h) is.passes had (first_kept Had key [] h.constants h.number is.fits)
      passed.0 (length h.states) (let within = passed.1 in omega (arith, within)) passed.1 passed.2 (omega arith) (last_is (first_state h) h.states)

  -- no record of a state is newer than that of a later one
  none_newer : (shown : View) → IsNewer h earlier.primary key shown → ⊥
  none_newer shown n =
      let old : IsOld Had key h.constants (present h) n.put = subst (λ (o : Option Stored). IfSome o (IsOld Had key h.constants (present h))) n.put_there old_and_now in
      let first = seal_number opens form one heals h key n.put.bytes n.number old.numbered.sealed n.put_number in
      let kept = (old.since first.0).keeps.both.primary in
      let limit : ℕ = floor (present h).open_set (number_before (present h)) in
      let m : IsNumbered Had (root_of h) key n.put.bytes (old.numbered.sealed.iv + 1) limit n.now.bytes =
      subst (λ (o : Option Stored). IfSome o (λ (x : Stored). IsNumbered Had (root_of h) key n.put.bytes (old.numbered.sealed.iv + 1) limit x.bytes)) n.now_there kept in
      let second = seal_number opens form one heals h key n.now.bytes n.now_number m.sealed n.numbered_now in
      let first_is = first.1 in
      let second_is = second.1 in
      let less = n.newer in
      elim ((m.between second.0).0) [
        | inl again ↦
            let number = same_number opens form one (root_of h) key n.now.bytes (moved opens form one (root_of h) key n.put.bytes n.now.bytes (sym again) old.numbered.sealed) m.sealed first.0 second.0 in
            omega (arith, number, first_is, second_is, less)
        | inr low ↦ omega (arith, low, first_is, second_is, less)
      ]

  module _ (w : IsWhole (root_of h) key (get (present h).primary key) (get (present h).rollback key)) where
    abbrev Older : Type 0
    Older = (mounted_view h.constants (put_back h earlier.primary) key ≡ view h.constants (present h) key)
        ⊎ ((mounted_view h.constants (put_back h earlier.primary) key ≡ RollbackFailed) ⊎ (HaveOneTag Had ⊎ IsNewer h earlier.primary key (mounted_view h.constants (put_back h earlier.primary) key)))

    at_limit : (limit : ℕ) → IfSome (get earlier.primary key) (λ (s : Stored). IsNumbered Had (root_of h) key [] 0 limit s.bytes) → Older
    at_limit limit n =
        shows_nothing_older opens form one heals h key Had earlier.primary limit (had earlier passed) (had (present h) (last_in (first_state h) h.states)) w n

    by_old : (found : Option Stored) → get earlier.primary key ≡ found → IfSome found (IsOld Had key h.constants (present h)) → Older
    by_old None there old = at_limit 0 (subst (λ (o : Option Stored). IfSome o (λ (s : Stored). IsNumbered Had (root_of h) key [] 0 0 s.bytes)) (sym there) tt)
    by_old (Some s) there old = at_limit old.limit (subst (λ (o : Option Stored). IfSome o (λ (x : Stored). IsNumbered Had (root_of h) key [] 0 old.limit x.bytes)) (sym there) old.numbered)

    shows_nothing_old : ShowsNothingOld h earlier.primary key
    shows_nothing_old =
        elim (by_old (get earlier.primary key) refl old_and_now) [
          | inl same ↦ inl same
          | inr (inl fails) ↦ inr (inl fails)
          | inr (inr (inl collide)) ↦ inr (inr collide)
          | inr (inr (inr newer)) ↦ absurd (none_newer _ newer)
        ]

  pub nothing_old : (flags : ℕ) (value : List ℕ) → view h.constants (present h) key ≡ Held flags value → is_mirrored flags ≡ true → ShowsNothingOld h earlier.primary key
  nothing_old flags value held mirrored = shows_nothing_old (whole (root_of h) key flags value mirrored (get (present h).primary key) (get (present h).rollback key) held)

-- ---- the maps that a state has itself

pub its_own : (constants : Constants) (state : StoreState) (doubt : Option Doubt)
    → MatchOption doubt (maps_of state ≡ maps_of state) (λ (d : Doubt). Contains (cuts (secure_rules constants) state d.who d.operation) (maps_of state))
its_own constants state None = refl
its_own constants state (Some d) = (zero, omega arith, refl)
