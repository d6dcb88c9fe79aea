-- Every step of a plain store keeps the limits of its state.
use Rattle.std.proofs.Common.{◌≡◌, ℕ, ◌+◌, ◌-◌, ◌^◌, ◌<◌, ◌≤◌, Bool, true, false, not, ◌&&◌, cond, nat_lt, nat_le, List, [], ◌∷◌, ◌++◌, length, length-append, Option, Some, None, IfSome, MatchBool, MatchOption, slice_index_or, zero, suc, inl, inr, refl, sym, ◌∙◌, ap, subst, arith}
use Rattle.std.specs.Prelude.{is_some, if◌then◌else◌}
use Rattle.std.specs.Option.{option_map_or}
use Rattle.std.specs.Ordering.{nat_cmp, eq_by_cmp}
use Rattle.std.specs.Cmp.Lexicographic.{slice_cmp, nat_list_cmp_total}
use Rattle.std.specs.FinMap as map
use Rattle.std.specs.List.{Contains}
use Rattle.kv_model.specs.declared.call.Reply.{Reply}
use Rattle.kv_model.specs.declared.call.Reply.TheVariants.{Done}
use Rattle.std.specs.FinMap.{get-insert, get-remove, get-empty, len-insert, len-remove, len-empty}
use Rattle.kv_model.specs.declared.error.KvError.{KvError}
use Rattle.kv_model.specs.declared.error.KvError.TheVariants as error
use Rattle.kv_model.specs.declared.limits.TheConstants.{MAX_ITERATORS, MAX_VALUE}
use Rattle.kv_model.specs.Checks.{first_refusal}
use Rattle.kv_model.specs.Flags.{is_mirrored, is_plain_flags}
use Rattle.kv_model.specs.Keys.{is_key}
use Rattle.kv_model.specs.FlaggedMap.{FlaggedMap, Stored}
use Rattle.kv_model.specs.StoreState.{Maps, StoreState, OpenSet, Position, Iterators, Doubt, begun_remove, begun_set, fresh_state, iterator_cmp, maps_of, prior_in, tag_in}
use Rattle.kv_model.specs.Operations.{Operation, Get, Part, Info, Set, Remove, RemoveStart, Start, Add, Finish, Abort, OpenIterator, Next, CloseIterator, Reset, operation_of}
use Rattle.kv_model.specs.Constants.{Constants}
use Rattle.kv_model.specs.Rules.{Outcome, Mounts, Steps, after_refusal, before_doubt, cuts, mounted, refused_or}
use Rattle.kv_model.specs.Rows.{advanced}
use Rattle.kv_model.specs.PlainStep.{finished_map, plain_checks, plain_effect, plain_rules, plain_step}
use Rattle.kv_model.specs.declared.call.Entry.{Entry}
use Rattle.kv_model.specs.History.{Follows}
use Rattle.kv_model.specs.Limits.{AreShort, IsActive, IsSet, IsPlain, plain_starts}
use Rattle.std.proofs.lemmas.Bool.{ltb-false, ltb-true, leb-false}
use mathlib.Core.Bool.{false≢true}
use Rattle.kv_model.proofs.MapLemmas.{iterator_total}

abbrev IsShort : Stored → Type 0
IsShort value = length value.bytes ≤ MAX_VALUE

one_of : (same : Bool) (value : Stored) (found : Option Stored) → IsShort value → IfSome found IsShort → IfSome (cond same (Some value) found) IsShort
one_of true value found new old = new
one_of false value found new old = old

none_or : (same : Bool) (found : Option Stored) → IfSome found IsShort → IfSome (cond same None found) IsShort
none_or true found old = tt
none_or false found old = old

short_insert : (m : FlaggedMap) (key : List ℕ) (value : Stored) → AreShort m → IsShort value → AreShort (map.insert m key value)
short_insert m key value old new q = subst (λ (found : Option Stored). IfSome found IsShort) (sym (get-insert nat_list_cmp_total m key value q))
    (one_of (eq_by_cmp (slice_cmp nat_cmp) q key) value (map.get m q) new (old q))

short_remove : (m : FlaggedMap) (key : List ℕ) → AreShort m → AreShort (map.remove m key)
short_remove m key old q = subst (λ (found : Option Stored). IfSome found IsShort) (sym (get-remove nat_list_cmp_total m key q))
    (none_or (eq_by_cmp (slice_cmp nat_cmp) q key) (map.get m q) (old q))

short_empty : AreShort map.empty
short_empty key = subst (λ (found : Option Stored). IfSome found IsShort) (sym (get-empty (slice_cmp nat_cmp) key)) tt

never_prior : (mirrored : Bool) (found : Option Stored) → found ≡ None → (if mirrored then tag_in found else None) ≡ None
never_prior true None none = refl
never_prior true (Some stored) none = absurd (cc)
never_prior false found none = refl

-- ---- refusals

some_is_not_none : {X : Type 0} (x : X) → Some x ≡ None → ⊥
some_is_not_none x h = cc h

-- nothing refuses, so the first check does not, and none behind it
pub unrefused : (applies : Bool) (refusal : KvError) (others : Option KvError) → (if applies then Some refusal else others) ≡ None → (applies ≡ false) × (others ≡ None)
unrefused true refusal others none = absurd (some_is_not_none refusal none)
unrefused false refusal others none = (refl, none)

pub is_not : (b : Bool) → not b ≡ false → b ≡ true
is_not true h = refl
is_not false h = sym h

and_true : (b : Bool) → b && true ≡ false → b ≡ false
and_true true h = h
and_true false h = h

pub at_most : (a b : ℕ) → nat_lt a b ≡ false → b ≤ a
at_most a b h = ltb-false a b h

module _ (constants : Constants) (state : StoreState) (who : ℕ) (old : IsPlain state) where
  -- ---- changes that keep the limits

  stored : (m : FlaggedMap) → AreShort m → IsPlain (record state { primary = m })
  stored m short = record {
    within = record {
      primary = short;
      rollback = old.within.rollback;
      open_set = old.within.open_set;
      iterators = old.within.iterators;
      next_vector = old.within.next_vector;
    };
    no_rollback = old.no_rollback;
  }

  emptied : IsPlain (record state { primary = map.empty; rollback = map.empty })
  emptied = record {
    within = record {
      primary = short_empty;
      rollback = short_empty;
      open_set = subst (λ (m : FlaggedMap). IfSome state.open_set (IsActive plain_starts m state.next_vector)) old.no_rollback old.within.open_set;
      iterators = old.within.iterators;
      next_vector = old.within.next_vector;
    };
    no_rollback = refl;
  }

  with_iterators : (iterators : Iterators) → map.len iterators ≤ MAX_ITERATORS → IsPlain (record state { iterators = iterators })
  with_iterators iterators few = record {
    within = record {
      primary = old.within.primary;
      rollback = old.within.rollback;
      open_set = old.within.open_set;
      iterators = few;
      next_vector = old.within.next_vector;
    };
    no_rollback = old.no_rollback;
  }

  without_set : (m : FlaggedMap) → AreShort m → IsPlain (record state { primary = m; open_set = None })
  without_set m short = record {
    within = record {
      primary = short;
      rollback = old.within.rollback;
      open_set = tt;
      iterators = old.within.iterators;
      next_vector = old.within.next_vector;
    };
    no_rollback = old.no_rollback;
  }

  nothing_mirrored : (key : List ℕ) → map.get state.rollback key ≡ None
  nothing_mirrored key = ap (λ (m : FlaggedMap). map.get m key) old.no_rollback ∙ get-empty (slice_cmp nat_cmp) key

  no_prior : (flags : ℕ) (key : List ℕ) → None ≡ prior_in state.rollback flags key
  no_prior flags key = sym (never_prior (is_mirrored flags) (map.get state.rollback key) (nothing_mirrored key))

  abbrev may_start : ℕ → ℕ → Type 0
  may_start = plain_starts.may_start

  -- a set or a remove that began as a plain store allows, and has no more bytes than its size
  abbrev Began : OpenSet → Type 0
  Began set = (set.prior ≡ None) × MatchBool set.is_remove (Unit {0}) (may_start set.flags set.size × (length set.bytes ≤ set.size))

  set_or_remove : (set : OpenSet) (is_remove : Bool) → set.prior ≡ None → MatchBool is_remove (Unit {0}) (may_start set.flags set.size × (length set.bytes ≤ set.size))
      → MatchBool is_remove (set.prior ≡ None) (IsSet plain_starts state.rollback state.next_vector set)
  set_or_remove set true none valid = none
  set_or_remove set false none valid = record {
    began = valid.0;
    fed = valid.1;
    not_mirrored = λ free. nothing_mirrored set.key;
    numbered = λ takes. absurd (false≢true takes);
    prior = none ∙ no_prior set.flags set.key;
  }

  with_set : (set : OpenSet) → Began set → IsPlain (record state { open_set = Some set })
  with_set set valid = record {
    within = record {
      primary = old.within.primary;
      rollback = old.within.rollback;
      open_set = set_or_remove set set.is_remove valid.0 valid.1;
      iterators = old.within.iterators;
      next_vector = old.within.next_vector;
    };
    no_rollback = old.no_rollback;
  }

  -- ---- the calls that change more than one thing

  prior_none : (set : OpenSet) (is_remove : Bool) → MatchBool is_remove (set.prior ≡ None) (IsSet plain_starts state.rollback state.next_vector set) → set.prior ≡ None
  prior_none set true valid = valid
  prior_none set false valid = valid.prior ∙ sym (no_prior set.flags set.key)

  more : (set : OpenSet) (value : List ℕ) (is_remove : Bool) → MatchBool is_remove (set.prior ≡ None) (IsSet plain_starts state.rollback state.next_vector set)
      → length set.bytes + length value ≤ set.size → MatchBool is_remove (Unit {0}) (may_start set.flags set.size × (length (set.bytes ++ value) ≤ set.size))
  more set value true valid fits = tt
  more set value false valid fits = (valid.began, subst (λ (n : ℕ). n ≤ set.size) (sym (length-append set.bytes value)) fits)

  added : (value : List ℕ) (found : Option OpenSet) → IfSome found (IsActive plain_starts state.rollback state.next_vector)
      → nat_lt (option_map_or (λ (s : OpenSet). s.size) found 0) (option_map_or (λ (s : OpenSet). length s.bytes) found 0 + length value) ≡ false
      → IsPlain (option_map_or (λ (s : OpenSet). record state { open_set = Some (record s { bytes = s.bytes ++ value }) }) found state)
  added value None valid fits = old
  added value (Some set) valid fits = with_set (record set { bytes = set.bytes ++ value })
      (prior_none set set.is_remove valid, more set value set.is_remove valid (at_most set.size (length set.bytes + length value) fits))

  ended : (set : OpenSet) (is_remove : Bool) → MatchBool is_remove (set.prior ≡ None) (IsSet plain_starts state.rollback state.next_vector set)
      → IsPlain (record state {
        primary = if is_remove then map.remove state.primary set.key else map.insert state.primary set.key (record { flags = set.flags; bytes = set.bytes });
        open_set = None;
      })
  ended set true valid = without_set _ (short_remove state.primary set.key old.within.primary)
  ended set false valid = without_set _ (short_insert state.primary set.key (record { flags = set.flags; bytes = set.bytes }) old.within.primary (omega (arith, valid.fed, valid.began.1)))

  finishes : (found : Option OpenSet) → IfSome found (IsActive plain_starts state.rollback state.next_vector)
      → IsPlain (option_map_or (λ (s : OpenSet). record state { primary = finished_map state.primary s; rollback = state.rollback; open_set = None }) found state)
  finishes None valid = old
  finishes (Some set) valid = ended set set.is_remove valid

  abbrev has : ℕ → Bool
  has n = map.contains_key state.iterators (who, n)

  one_more : (there : Bool) (n : ℕ) → nat_le MAX_ITERATORS n && not there ≡ false → n ≤ MAX_ITERATORS → cond there n (n + 1) ≤ MAX_ITERATORS
  one_more true n h old_few = old_few
  one_more false n h old_few = omega (arith, leb-false MAX_ITERATORS n (and_true (nat_le MAX_ITERATORS n) h))

  no_more : (there : Bool) (n : ℕ) → there ≡ true → n ≤ MAX_ITERATORS → cond there n (n + 1) ≤ MAX_ITERATORS
  no_more there n is few = subst (λ (b : Bool). cond b n (n + 1) ≤ MAX_ITERATORS) (sym is) few

  one_less : (there : Bool) (n : ℕ) → n ≤ MAX_ITERATORS → cond there (n - 1) n ≤ MAX_ITERATORS
  one_less true n few = omega (arith, few)
  one_less false n few = few

  placed : (n : ℕ) (position : Position) → cond (has n) (map.len state.iterators) (map.len state.iterators + 1) ≤ MAX_ITERATORS
      → IsPlain (record state { iterators = map.insert state.iterators (who, n) position })
  placed n position few = with_iterators (map.insert state.iterators (who, n) position) (subst (λ (k : ℕ). k ≤ MAX_ITERATORS) (sym (len-insert iterator_total state.iterators (who, n) position)) few)

  moved : (n : ℕ) (found : Option (List ℕ)) → has n ≡ true → IsPlain (advanced state who n found).state
  moved n None is = old
  moved n (Some key) is = placed n _ (no_more (has n) (map.len state.iterators) is old.within.iterators)

  -- ---- refusals

  after_finish : (e : KvError) → IsPlain (after_refusal state Finish e)
  after_finish error.NotFound = old
  after_finish error.InvalidKey = old
  after_finish error.InvalidFlags = old
  after_finish error.InvalidSize = without_set _ old.within.primary
  after_finish error.WriteProtected = old
  after_finish (error.MediaFull need room) = old
  after_finish error.TooManyIterators = old
  after_finish error.NoIterator = old
  after_finish error.SetOpen = old
  after_finish error.NoSet = old
  after_finish (error.Busy owner) = old
  after_finish error.Stopped = old
  after_finish error.ReadFault = old
  after_finish error.WriteFault = old
  after_finish (error.Corrupt stored computed) = old
  after_finish error.AuthFailed = old
  after_finish error.RollbackFailed = old
  after_finish error.IvSpent = old
  after_finish error.Memory = old

  after_refused : (operation : Operation) (e : KvError) → IsPlain (after_refusal state operation e)
  after_refused (Get key) e = old
  after_refused (Part key offset count) e = old
  after_refused (Info key) e = old
  after_refused (Set key value flags) e = old
  after_refused (Remove key) e = old
  after_refused (RemoveStart key) e = old
  after_refused (Start key size flags) e = old
  after_refused (Add value) e = old
  after_refused Finish e = after_finish e
  after_refused Abort e = old
  after_refused (OpenIterator n prefix) e = old
  after_refused (Next n) e = old
  after_refused (CloseIterator n) e = old
  after_refused Reset e = old

  -- what the checks of a set and of a start let through
  may_set : (key : List ℕ) (size flags : ℕ) → first_refusal (plain_checks constants state who (Start key size flags)) ≡ None → may_start flags size
  may_set key size flags none =
      let plain = unrefused (not (is_plain_flags flags)) error.InvalidFlags _ (unrefused (not (is_key key)) error.InvalidKey _ none).1 in
      let sized = unrefused (nat_lt MAX_VALUE size) error.InvalidSize _ plain.1 in
      (ltb-true flags 2 (is_not (nat_lt flags 2) plain.0), at_most MAX_VALUE size sized.0)

  not_refused : (operation : Operation) → first_refusal (plain_checks constants state who operation) ≡ None → IsPlain (plain_effect constants state who operation).state
  not_refused (Get key) none = old
  not_refused (Part key offset count) none = old
  not_refused (Info key) none = old
  not_refused (Set key value flags) none =
      stored _ (short_insert state.primary key (record { flags = flags; bytes = value }) old.within.primary (may_set key (length value) flags none).1)
  not_refused (Remove key) none = stored _ (short_remove state.primary key old.within.primary)
  not_refused (RemoveStart key) none = with_set (begun_remove who key) (refl, tt)
  not_refused (Start key size flags) none =
      with_set (begun_set who key flags size None) (refl, (may_set key size flags none, omega arith))
  not_refused (Add value) none = added value state.open_set old.within.open_set (unrefused _ _ _ (unrefused _ _ _ none).1).0
  not_refused Finish none = finishes state.open_set old.within.open_set
  not_refused Abort none = without_set _ old.within.primary
  not_refused Reset none = emptied
  not_refused (OpenIterator n prefix) none = placed n _ (one_more (has n) (map.len state.iterators) (unrefused _ _ _ (unrefused _ _ _ none).1).0 old.within.iterators)
  not_refused (Next n) none = moved n _ (is_not (has n) (unrefused _ _ _ none).0)
  not_refused (CloseIterator n) none = with_iterators (map.remove state.iterators (who, n))
      (subst (λ (k : ℕ). k ≤ MAX_ITERATORS) (sym (len-remove iterator_total state.iterators (who, n))) (one_less (has n) (map.len state.iterators) old.within.iterators))

  answered : (operation : Operation) (found : Option KvError) → first_refusal (plain_checks constants state who operation) ≡ found → IsPlain (refused_or (plain_rules constants) state who operation found).state
  answered operation None none = not_refused operation none
  answered operation (Some e) refused = after_refused operation e

  either : (b : Bool) (x y : Outcome) → IsPlain x.state → IsPlain y.state → IsPlain (if b then x else y).state
  either true x y first second = first
  either false x y first second = second

  pub step_keeps_limits : (operation : Operation) → IsPlain (plain_step constants state who operation).state
  step_keeps_limits operation = either (is_some state.doubt) _ _ old (answered operation (first_refusal (plain_checks constants state who operation)) refl)

pub fresh_keeps_limits : (next_vector : ℕ) → next_vector < 2 ^ 64 → IsPlain (fresh_state map.empty map.empty next_vector)
fresh_keeps_limits next_vector fits = record {
  within = record {
    primary = short_empty;
    rollback = short_empty;
    open_set = tt;
    iterators = subst (λ (n : ℕ). n ≤ MAX_ITERATORS) (sym (len-empty iterator_cmp Position)) (omega arith);
    next_vector = fits;
  };
  no_rollback = refl;
}

-- the maps of a plain store
record ArePlain (maps : Maps) : Type 0 where
  primary : AreShort maps.primary
  no_rollback : maps.rollback ≡ map.empty

plain_maps : (state : StoreState) → IsPlain state → ArePlain (maps_of state)
plain_maps state plain = record { primary = plain.within.primary; no_rollback = plain.no_rollback }

-- a mount that finds such maps
mount_keeps_limits : (old : StoreState) (maps : Maps) → IsPlain old → ArePlain maps → IsPlain (mounted old maps)
mount_keeps_limits old maps plain there = record {
  within = record {
    primary = there.primary;
    rollback = subst AreShort (sym there.no_rollback) short_empty;
    open_set = tt;
    iterators = subst (λ (n : ℕ). n ≤ MAX_ITERATORS) (sym (len-empty iterator_cmp Position)) (omega arith);
    next_vector = plain.within.next_vector;
  };
  no_rollback = there.no_rollback;
}

-- whether it is stopped, and with which call in doubt, is no limit
other_doubt : (state : StoreState) (doubt : Option Doubt) → IsPlain state → IsPlain (record state { doubt = doubt })
other_doubt state doubt plain = record { within = record { primary = plain.within.primary; rollback = plain.within.rollback; open_set = plain.within.open_set; iterators = plain.within.iterators; next_vector = plain.within.next_vector }; no_rollback = plain.no_rollback }

pub one_of_three : {X : Type 0} (P : X → Type 0) (a b c x : X) → P a → P b → P c → (k : ℕ) → k < 3 → slice_index_or (a ∷ b ∷ c ∷ []) k x ≡ x → P x
one_of_three P a b c x first second third zero below is = subst P is first
one_of_three P a b c x first second third (suc zero) below is = subst P is second
one_of_three P a b c x first second third (suc (suc zero)) below is = subst P is third
one_of_three P a b c x first second third (suc (suc (suc k))) below is = absurd (omega (arith, below))

-- a plain store gives no number back
pub same_number : (found : Option Doubt) (next : ℕ) → option_map_or (λ (d : Doubt). next) found next ≡ next
same_number None next = refl
same_number (Some doubt) next = refl

pub before_keeps_limits : (constants : Constants) (state : StoreState) → IsPlain state → IsPlain (before_doubt (plain_rules constants) state)
before_keeps_limits constants state plain =
    subst (λ (n : ℕ). IsPlain (record state { next_vector = n; doubt = None })) (sym (same_number state.doubt state.next_vector)) (other_doubt state None plain)

module _ (constants : Constants) (old new : StoreState) (plain : IsPlain old) where
  mounts : (doubt : Option Doubt) → MatchOption doubt (new ≡ mounted old (maps_of old))
      (λ d. (maps : Maps) × Contains (cuts (plain_rules constants) old d.who d.operation) maps × (new ≡ mounted old maps)) → IsPlain new
  mounts None is = subst IsPlain (sym is) (mount_keeps_limits old (maps_of old) plain (plain_maps old plain))
  mounts (Some doubt) (maps, cut, is) =
      let before = before_doubt (plain_rules constants) old in
      let running = before_keeps_limits constants old plain in
      let first = plain_maps before running in
      let third = plain_maps _ (step_keeps_limits constants before doubt.who running doubt.operation) in
      let found : ArePlain maps = one_of_three ArePlain _ _ _ maps first (record { primary = third.primary; no_rollback = first.no_rollback }) third cut.0 cut.1 cut.2 in
      subst IsPlain (sym is) (mount_keeps_limits old maps plain found)

  steps : (who : ℕ) (operation : Operation) (outcome : Outcome) → Steps (plain_rules constants) old who operation outcome → IsPlain outcome.state
  steps who operation outcome (inl is) = subst (λ (o : Outcome). IsPlain o.state) (sym is) (step_keeps_limits constants old who plain operation)
  steps who operation outcome (inr (inl (runs, may, is))) = subst (λ (o : Outcome). IsPlain o.state) (sym is) plain
  steps who operation outcome (inr (inr (runs, may, is))) = subst (λ (o : Outcome). IsPlain o.state) (sym is) (other_doubt old (Some (record { who = who; operation = operation })) plain)

  asked : (who : ℕ) (reply : Reply) (asks : Option Operation) → MatchOption asks ((reply ≡ Done) × Mounts (plain_rules constants) old new)
      (λ operation. Steps (plain_rules constants) old who operation (record { state = new; reply = reply })) → IsPlain new
  asked who reply None follows = mounts old.doubt follows.1
  asked who reply (Some operation) follows = steps who operation (record { state = new; reply = reply }) follows

pub follows_keeps_limits : (constants : Constants) (old new : StoreState) (entry : Entry) → IsPlain old → Follows (plain_rules constants) old entry new → IsPlain new
follows_keeps_limits constants old new entry plain follows = asked constants old new plain entry.who entry.reply (operation_of entry.call) follows
