-- Every step of a secure store keeps the limits of its state.
use Rattle.std.proofs.Common.{◌≡◌, ℕ, ◌+◌, ◌-◌, ◌^◌, ◌<◌, ◌≤◌, Bool, true, false, not, ◌&&◌, ◌==◌, cond, nat_lt, nat_le, List, ◌++◌, length, length-append, Option, Some, None, IfSome, MatchBool, MatchOption, inl, inr, refl, sym, subst, arith, true≢false}
use Rattle.std.specs.Prelude.{is_some, if◌then◌else◌, IsTrue}
use Rattle.std.specs.Option.{option_map, option_map_or}
use Rattle.std.specs.Ordering.{nat_cmp, eq_by_cmp}
use Rattle.std.specs.Cmp.Lexicographic.{slice_cmp, nat_list_cmp_total}
use Rattle.std.specs.FinMap as map
use Rattle.std.specs.FinMap.{get-insert, get-remove, get-empty, len-insert, len-remove, len-empty}
use Rattle.std.specs.List.{Contains}
use Rattle.std.proofs.lemmas.Bool.{eqb-false, leb-false}
use Rattle.std.proofs.lemmas.List.{length-drop}
use Rattle.kv_model.specs.declared.error.KvError.{KvError}
use Rattle.kv_model.specs.declared.error.KvError.TheVariants as error
use Rattle.kv_model.specs.declared.limits.TheConstants.{MAX_ITERATORS, MAX_VALUE}
use Rattle.kv_model.specs.declared.call.Reply.{Reply}
use Rattle.kv_model.specs.declared.call.Reply.TheVariants.{Done}
use Rattle.kv_model.specs.declared.call.Entry.{Entry}
use Rattle.kv_model.specs.Checks.{first_refusal, may_fail_writing}
use Rattle.kv_model.specs.Constants.{Constants, Secure}
use Rattle.kv_model.specs.FlaggedMap.{FlaggedMap, Stored}
use Rattle.kv_model.specs.Flags.{is_mirrored, is_secure_flags}
use Rattle.kv_model.specs.History.{Follows}
use Rattle.kv_model.specs.Keys.{is_key}
use Rattle.kv_model.specs.Limits.{AreShort, IsActive, IsSet}
use Rattle.kv_model.specs.Operations.{Operation, Get, Part, Info, Set, Remove, RemoveStart, Start, Add, Finish, Abort, OpenIterator, Next, CloseIterator, Reset, operation_of}
use Rattle.kv_model.specs.Rows.{advanced, owns_set, set_owner}
use Rattle.kv_model.specs.Rules.{Outcome, Mounts, Steps, after_refusal, before_doubt, cuts, failed_write, mounted, number_taken, refused_or, refuses}
use Rattle.kv_model.specs.StoreState.{Maps, StoreState, OpenSet, Position, Iterators, Doubt, fresh_state, iterator_cmp, maps_of, prior_in}
use Rattle.kv_model.proofs.LimitLemmas.{at_most, is_not, one_of_three, unrefused}
use Rattle.kv_model.proofs.MapLemmas.{iterator_total}
use Rattle.secure_record.specs.declared.metadata.Revision.TheVariants.{Second}
use Rattle.secure_record.specs.Metadata.{HasPrior}
use Rattle.sealed_pair.specs.declared.limits.TheConstants.{MAX_SECURE_VALUE, TAG_SIZE}
use Rattle.sealed_pair.specs.Sealing.{is_numbered, record_entry, secure_of, tag_entry, tag_of, with_record, without_key}
use Rattle.sealed_pair.specs.SecureStep.{finished, finished_record, is_protected, is_spent, last_number, secure_checks, secure_effect, secure_rules, secure_step, set_record, takes_number, unmirrors}
use Rattle.sealed_pair.specs.Heal.{heal, healed}
use Rattle.sealed_pair.specs.Limits.{IsSecure, secure_starts}
use Rattle.sealed_pair.specs.Laws.{MaySeal}
use Rattle.sealed_pair.proofs.HealLemmas.{get_healed, length-healed}
use Rattle.sealed_pair.proofs.SealLemmas.{HaveForm, length-seal}
use Rattle.sealed_pair.proofs.SetLemmas.{MaySet, may_set, small_vector, some_prior}
use Rattle.sealed_pair.proofs.CutLemmas.{small_before}

-- ---- short values

abbrev IsShort : Stored → Type 0
IsShort value = length value.bytes ≤ MAX_VALUE

one_of : (same : Bool) (value : Stored) (found : Option Stored) → IsShort value → IfSome found IsShort → IfSome (cond same (Some value) found) IsShort
one_of true value found new old = new
one_of false value found new old = old

none_or : (same : Bool) (found : Option Stored) → IfSome found IsShort → IfSome (cond same None found) IsShort
none_or true found old = tt
none_or false found old = old

short_insert : (m : FlaggedMap) (key : List ℕ) (value : Stored) → AreShort m → IsShort value → AreShort (map.insert m key value)
short_insert m key value old new q = subst (λ (found : Option Stored). IfSome found IsShort) (sym (get-insert nat_list_cmp_total m key value q))
    (one_of (eq_by_cmp (slice_cmp nat_cmp) q key) value (map.get m q) new (old q))

short_remove : (m : FlaggedMap) (key : List ℕ) → AreShort m → AreShort (map.remove m key)
short_remove m key old q = subst (λ (found : Option Stored). IfSome found IsShort) (sym (get-remove nat_list_cmp_total m key q))
    (none_or (eq_by_cmp (slice_cmp nat_cmp) q key) (map.get m q) (old q))

short_empty : AreShort map.empty
short_empty key = subst (λ (found : Option Stored). IfSome found IsShort) (sym (get-empty (slice_cmp nat_cmp) key)) tt

-- both maps of a store have short values
pub record ShortMaps (maps : Maps) : Type 0 where
  pub primary : AreShort maps.primary
  pub rollback : AreShort maps.rollback

short_tag : (bytes : List ℕ) → length (tag_of bytes) ≤ MAX_VALUE
short_tag bytes = omega (arith, length-drop (length bytes - TAG_SIZE) bytes)

tag_or : (mirrored : Bool) (m : FlaggedMap) (key : List ℕ) (tag : Stored) → AreShort m → IsShort tag → AreShort (if mirrored then map.insert m key tag else m)
tag_or true m key tag old new = short_insert m key tag old new
tag_or false m key tag old new = old

short_record : (maps : Maps) (key : List ℕ) (flags : ℕ) (bytes : List ℕ) → ShortMaps maps → length bytes ≤ MAX_VALUE → ShortMaps (with_record maps key flags bytes)
short_record maps key flags bytes old new = record {
  primary = short_insert maps.primary key (record_entry flags bytes) old.primary new;
  rollback = tag_or (is_mirrored flags) maps.rollback key (tag_entry flags bytes) old.rollback (short_tag bytes);
}

short_without : (maps : Maps) (key : List ℕ) → ShortMaps maps → ShortMaps (without_key maps key)
short_without maps key old = record { primary = short_remove maps.primary key old.primary; rollback = short_remove maps.rollback key old.rollback }

healed_short : (secure : Secure) (maps : Maps) (key : List ℕ) (found : Option Stored) → IfSome found IsShort → IfSome (option_map (healed secure maps key) found) IsShort
healed_short secure maps key None old = tt
healed_short secure maps key (Some tag) old = omega (arith, old, length-healed secure maps key tag)

short_healed : (secure : Secure) (maps : Maps) → ShortMaps maps → ShortMaps (heal secure maps)
short_healed secure maps old = record {
  primary = old.primary;
  rollback = λ key.
      subst (λ (found : Option Stored). IfSome found IsShort) (sym (get_healed secure maps key)) (healed_short secure maps key (map.get maps.rollback key) (old.rollback key));
}

-- ---- numbers

number_small : (numbered : Bool) (n : ℕ) (last : Bool) → (n == last_number) ≡ last → numbered && last ≡ false → n < 2 ^ 64 → number_taken numbered n < 2 ^ 64
number_small false n last is unspent small = small
number_small true n true is unspent small = absurd (true≢false unspent)
number_small true n false is unspent small = below_last n (eqb-false n last_number is) small
  where
    below_last : (n : ℕ) → (n ≡ 2 ^ 64 - 1 → ⊥) → n < 2 ^ 64 → n + 1 < 2 ^ 64
    below_last n differs small = omega (arith, differs, small)

one_taken : (takes : Bool) (n : ℕ) → takes ≡ true → 1 ≤ number_taken takes n
one_taken true n is = omega arith
one_taken false n is = absurd (true≢false (sym is))

no_less : (takes : Bool) (n : ℕ) → n ≤ number_taken takes n
no_less true n = omega arith
no_less false n = omega arith

pub none_active : (P : OpenSet → Type 0) (found : Option OpenSet) → is_some found ≡ false → IfSome found P
none_active P None none = tt
none_active P (Some set) none = absurd (true≢false none)

-- ---- iterators

and_true : (b : Bool) → b && true ≡ false → b ≡ false
and_true true h = h
and_true false h = h

one_more : (there : Bool) (n : ℕ) → nat_le MAX_ITERATORS n && not there ≡ false → n ≤ MAX_ITERATORS → cond there n (n + 1) ≤ MAX_ITERATORS
one_more true n h few = few
one_more false n h few = omega (arith, leb-false MAX_ITERATORS n (and_true (nat_le MAX_ITERATORS n) h))

no_more : (there : Bool) (n : ℕ) → there ≡ true → n ≤ MAX_ITERATORS → cond there n (n + 1) ≤ MAX_ITERATORS
no_more true n is few = few
no_more false n is few = absurd (true≢false (sym is))

one_less : (there : Bool) (n : ℕ) → n ≤ MAX_ITERATORS → cond there (n - 1) n ≤ MAX_ITERATORS
one_less true n few = omega (arith, few)
one_less false n few = few

-- ---- what is sealed

module _ (constants : Constants) (state : StoreState) (small : state.next_vector < 2 ^ 64) where
  pub set_seals : (key value : List ℕ) (flags : ℕ) → MaySet constants state key (length value) flags
      → MaySeal flags (if is_numbered flags then state.next_vector else 0) (prior_in state.rollback flags key) value
  set_seals key value flags may = record {
    secure = may.secure;
    number = small_vector (is_numbered flags) state.next_vector small;
    replaced = some_prior (is_mirrored flags) (map.get state.rollback key);
    most = may.most;
  }

  pub finish_seals : (n : ℕ) (set : OpenSet) → IsSet secure_starts state.rollback n set
      → MaySeal set.flags (if is_numbered set.flags then state.next_vector - 1 else 0) set.prior set.bytes
  finish_seals n set valid =
      let less : state.next_vector - 1 < 2 ^ 64 = omega (arith, small) in
      record {
        secure = valid.began.0;
        number = small_vector (is_numbered set.flags) (state.next_vector - 1) less;
        replaced = subst (HasPrior Second) (sym valid.prior) (some_prior (is_mirrored set.flags) (map.get state.rollback set.key));
        most = omega (arith, valid.fed, valid.began.1);
      }

-- ---- the maps after a step

module _ (form : HaveForm) (constants : Constants) (state : StoreState) (who : ℕ) (small : state.next_vector < 2 ^ 64) (old : ShortMaps (maps_of state)) where
  abbrev root : List ℕ
  root = (secure_of constants).root

  set_short : (key value : List ℕ) (flags : ℕ) → MaySet constants state key (length value) flags → ShortMaps (with_record (maps_of state) key flags (set_record constants state key value flags))
  set_short key value flags may =
      let size = length-seal form root key flags (if is_numbered flags then state.next_vector else 0) (prior_in state.rollback flags key) value (set_seals constants state small key value flags may) in
      short_record (maps_of state) key flags (set_record constants state key value flags) old (omega (arith, size, may.most))

  finish_short : (n : ℕ) (set : OpenSet) (is_remove : Bool) → MatchBool is_remove (set.prior ≡ None) (IsSet secure_starts state.rollback n set)
      → ShortMaps (if is_remove then without_key (maps_of state) set.key else with_record (maps_of state) set.key set.flags (finished_record constants state set))
  finish_short n set true valid = short_without (maps_of state) set.key old
  finish_short n set false valid =
      let size = length-seal form root set.key set.flags (if is_numbered set.flags then state.next_vector - 1 else 0) set.prior set.bytes (finish_seals constants state small n set valid) in
      short_record (maps_of state) set.key set.flags (finished_record constants state set) old (omega (arith, size, valid.fed, valid.began.1))

  finished_short : (n : ℕ) (found : Option OpenSet) → IfSome found (IsActive secure_starts state.rollback n)
      → ShortMaps (maps_of (option_map_or (λ (s : OpenSet). record state { primary = (finished constants state s).primary; rollback = (finished constants state s).rollback; open_set = None }) found state))
  finished_short n None valid = old
  finished_short n (Some set) valid = finish_short n set set.is_remove valid

  added_short : (value : List ℕ) (found : Option OpenSet)
      → ShortMaps (maps_of (option_map_or (λ (s : OpenSet). record state { open_set = Some (record s { bytes = s.bytes ++ value }) }) found state))
  added_short value None = old
  added_short value (Some set) = old

  moved_short : (n : ℕ) (found : Option (List ℕ)) → ShortMaps (maps_of (advanced state who n found).state)
  moved_short n None = old
  moved_short n (Some key) = old

  granted_short : (n : ℕ) → IfSome state.open_set (IsActive secure_starts state.rollback n) → (operation : Operation) → first_refusal (secure_checks constants state who operation) ≡ None
      → ShortMaps (maps_of (secure_effect constants state who operation).state)
  granted_short n active (Get key) none = old
  granted_short n active (Part key offset count) none = old
  granted_short n active (Info key) none = old
  granted_short n active (Set key value flags) none = set_short key value flags (may_set constants state who key (length value) flags none)
  granted_short n active (Remove key) none = short_without (maps_of state) key old
  granted_short n active (RemoveStart key) none = old
  granted_short n active (Start key size flags) none = old
  granted_short n active (Add value) none = added_short value state.open_set
  granted_short n active Finish none = finished_short n state.open_set active
  granted_short n active Abort none = old
  granted_short n active Reset none = record { primary = short_empty; rollback = short_empty }
  granted_short n active (OpenIterator m prefix) none = old
  granted_short n active (Next m) none = moved_short m _
  granted_short n active (CloseIterator m) none = old

  finish_refused : (e : KvError) → ShortMaps (maps_of (after_refusal state Finish e))
  finish_refused error.InvalidSize = old
  finish_refused e = old

  refused_short : (operation : Operation) (e : KvError) → ShortMaps (maps_of (after_refusal state operation e))
  refused_short Finish e = finish_refused e
  refused_short operation e = old

  answered_short : (n : ℕ) → IfSome state.open_set (IsActive secure_starts state.rollback n) → (operation : Operation) (stopped : Bool) (found : Option KvError)
      → first_refusal (secure_checks constants state who operation) ≡ found
      → ShortMaps (maps_of (if stopped then refuses state error.Stopped else refused_or (secure_rules constants) state who operation found).state)
  answered_short n active operation true found is = old
  answered_short n active operation false None is = granted_short n active operation is
  answered_short n active operation false (Some e) is = refused_short operation e

  pub step_short : (n : ℕ) → IfSome state.open_set (IsActive secure_starts state.rollback n) → (operation : Operation) → ShortMaps (maps_of (secure_step constants state who operation).state)
  step_short n active operation = answered_short n active operation (is_some state.doubt) (first_refusal (secure_checks constants state who operation)) refl

-- ---- the rest of the state after a step

-- the limits but for the maps
record KeepsRest (state : StoreState) : Type 0 where
  active : IfSome state.open_set (IsActive secure_starts state.rollback state.next_vector)
  few : map.len state.iterators ≤ MAX_ITERATORS
  small : state.next_vector < 2 ^ 64

joined : (state : StoreState) → ShortMaps (maps_of state) → KeepsRest state → IsSecure state
joined state maps rest = record { primary = maps.primary; rollback = maps.rollback; open_set = rest.active; iterators = rest.few; next_vector = rest.small }

pub maps_short : (state : StoreState) → IsSecure state → ShortMaps (maps_of state)
maps_short state within = record { primary = within.primary; rollback = within.rollback }

module _ (constants : Constants) (state : StoreState) (who : ℕ) (old : IsSecure state) where
  rest : KeepsRest state
  rest = record { active = old.open_set; few = old.iterators; small = old.next_vector }

  without_set : KeepsRest (record state { open_set = None })
  without_set = record { active = tt; few = old.iterators; small = old.next_vector }

  with_iterators : (iterators : Iterators) → map.len iterators ≤ MAX_ITERATORS → KeepsRest (record state { iterators = iterators })
  with_iterators iterators few = record { active = old.open_set; few = few; small = old.next_vector }

  -- a set of maps where none is active
  with_maps : (primary rollback : FlaggedMap) → is_some state.open_set ≡ false → KeepsRest (record state { primary = primary; rollback = rollback })
  with_maps primary rollback none = record {
    active = none_active (IsActive secure_starts rollback state.next_vector) state.open_set none;
    few = old.iterators;
    small = old.next_vector;
  }

  set_rest : (key value : List ℕ) (flags : ℕ) → MaySet constants state key (length value) flags → KeepsRest (secure_effect constants state who (Set key value flags)).state
  set_rest key value flags may = record {
    active =
        none_active (IsActive secure_starts (with_record (maps_of state) key flags (set_record constants state key value flags)).rollback (number_taken (is_numbered flags) state.next_vector))
        state.open_set may.none_open;
    few = old.iterators;
    small = number_small (is_numbered flags) state.next_vector _ refl may.unspent old.next_vector;
  }

  start_rest : (key : List ℕ) (size flags : ℕ) → MaySet constants state key size flags → KeepsRest (secure_effect constants state who (Start key size flags)).state
  start_rest key size flags may = record {
    active = record {
      began = (may.secure, may.most);
      fed = omega arith;
      not_mirrored = may.lacks;
      numbered = one_taken (is_numbered flags) state.next_vector;
      prior = refl;
    };
    few = old.iterators;
    small = number_small (is_numbered flags) state.next_vector _ refl may.unspent old.next_vector;
  }

  more : (set : OpenSet) (value : List ℕ) (is_remove : Bool) → MatchBool is_remove (set.prior ≡ None) (IsSet secure_starts state.rollback state.next_vector set)
      → length set.bytes + length value ≤ set.size
      → MatchBool is_remove (set.prior ≡ None) (IsSet secure_starts state.rollback state.next_vector (record set { bytes = set.bytes ++ value }))
  more set value true valid fits = valid
  more set value false valid fits = record {
    began = valid.began;
    fed = subst (λ (n : ℕ). n ≤ set.size) (sym (length-append set.bytes value)) fits;
    not_mirrored = valid.not_mirrored;
    numbered = valid.numbered;
    prior = valid.prior;
  }

  added : (value : List ℕ) (found : Option OpenSet) → IfSome found (IsActive secure_starts state.rollback state.next_vector)
      → nat_lt (option_map_or (λ (s : OpenSet). s.size) found 0) (option_map_or (λ (s : OpenSet). length s.bytes) found 0 + length value) ≡ false
      → KeepsRest (option_map_or (λ (s : OpenSet). record state { open_set = Some (record s { bytes = s.bytes ++ value }) }) found state)
  added value None valid fits = rest
  added value (Some set) valid fits = record {
    active = more set value set.is_remove valid (at_most set.size (length set.bytes + length value) fits);
    few = old.iterators;
    small = old.next_vector;
  }

  finishes : (found : Option OpenSet)
      → KeepsRest (option_map_or (λ (s : OpenSet). record state { primary = (finished constants state s).primary; rollback = (finished constants state s).rollback; open_set = None }) found state)
  finishes None = record { active = old.open_set; few = old.iterators; small = old.next_vector }
  finishes (Some set) = record { active = tt; few = old.iterators; small = old.next_vector }

  abbrev has : ℕ → Bool
  has n = map.contains_key state.iterators (who, n)

  placed : (n : ℕ) (position : Position) → cond (has n) (map.len state.iterators) (map.len state.iterators + 1) ≤ MAX_ITERATORS
      → KeepsRest (record state { iterators = map.insert state.iterators (who, n) position })
  placed n position few = with_iterators (map.insert state.iterators (who, n) position) (subst (λ (k : ℕ). k ≤ MAX_ITERATORS) (sym (len-insert iterator_total state.iterators (who, n) position)) few)

  moved : (n : ℕ) (found : Option (List ℕ)) → has n ≡ true → KeepsRest (advanced state who n found).state
  moved n None is = rest
  moved n (Some key) is = placed n _ (no_more (has n) (map.len state.iterators) is old.iterators)

  pub none_open : (key : List ℕ) → first_refusal (secure_checks constants state who (Remove key)) ≡ None → is_some state.open_set ≡ false
  none_open key none =
      let named = unrefused (not (is_key key)) error.InvalidKey _ none in
      let not_own = unrefused (owns_set state who) error.SetOpen _ named.1 in
      (unrefused (is_some state.open_set) (error.Busy (set_owner state who)) _ not_own.1).0

  pub none_at_reset : first_refusal (secure_checks constants state who Reset) ≡ None → is_some state.open_set ≡ false
  none_at_reset none = (unrefused (is_some state.open_set) (error.Busy (set_owner state who)) _ (unrefused (owns_set state who) error.SetOpen _ none).1).0

  granted : (operation : Operation) → first_refusal (secure_checks constants state who operation) ≡ None → KeepsRest (secure_effect constants state who operation).state
  granted (Get key) none = rest
  granted (Part key offset count) none = rest
  granted (Info key) none = rest
  granted (Set key value flags) none = set_rest key value flags (may_set constants state who key (length value) flags none)
  granted (Remove key) none = with_maps (map.remove state.primary key) (map.remove state.rollback key) (none_open key none)
  granted (RemoveStart key) none = record { active = refl; few = old.iterators; small = old.next_vector }
  granted (Start key size flags) none = start_rest key size flags (may_set constants state who key size flags none)
  granted (Add value) none = added value state.open_set old.open_set (unrefused _ _ _ (unrefused _ _ _ none).1).0
  granted Finish none = finishes state.open_set
  granted Abort none = without_set
  granted Reset none = with_maps map.empty map.empty (none_at_reset none)
  granted (OpenIterator n prefix) none = placed n _ (one_more (has n) (map.len state.iterators) (unrefused _ _ _ (unrefused _ _ _ none).1).0 old.iterators)
  granted (Next n) none = moved n _ (is_not (has n) (unrefused _ _ _ none).0)
  granted (CloseIterator n) none = with_iterators (map.remove state.iterators (who, n))
      (subst (λ (k : ℕ). k ≤ MAX_ITERATORS) (sym (len-remove iterator_total state.iterators (who, n))) (one_less (has n) (map.len state.iterators) old.iterators))

  finish_rest : (e : KvError) → KeepsRest (after_refusal state Finish e)
  finish_rest error.InvalidSize = without_set
  finish_rest e = rest

  refused_rest : (operation : Operation) (e : KvError) → KeepsRest (after_refusal state operation e)
  refused_rest Finish e = finish_rest e
  refused_rest operation e = rest

  answered_rest : (operation : Operation) (stopped : Bool) (found : Option KvError) → first_refusal (secure_checks constants state who operation) ≡ found
      → KeepsRest (if stopped then refuses state error.Stopped else refused_or (secure_rules constants) state who operation found).state
  answered_rest operation true found is = rest
  answered_rest operation false None is = granted operation is
  answered_rest operation false (Some e) is = refused_rest operation e

  pub step_keeps_limits : HaveForm → (operation : Operation) → IsSecure (secure_step constants state who operation).state
  step_keeps_limits form operation =
      joined _ (step_short form constants state who old.next_vector (maps_short state old) state.next_vector old.open_set operation)
      (answered_rest operation (is_some state.doubt) (first_refusal (secure_checks constants state who operation)) refl)

-- ---- faults and mounts

passes : (applies behind : Bool) → (if applies then false else behind) ≡ true → (applies ≡ false) × (behind ≡ true)
passes true behind h = absurd (true≢false (sym h))
passes false behind h = (refl, h)

module _ (constants : Constants) (state : StoreState) (who : ℕ) (old : IsSecure state) where
  -- a set that may fail writing has a number to take
  has_number : (key : List ℕ) (size flags : ℕ) → IsTrue (may_fail_writing (secure_checks constants state who (Start key size flags))) → is_spent constants state flags ≡ false
  has_number key size flags may =
      let named = passes (not (is_key key)) _ may in
      let flagged = passes (not (is_secure_flags flags)) _ named.1 in
      let sized = passes (nat_lt MAX_SECURE_VALUE size) _ flagged.1 in
      let not_own = passes (owns_set state who) _ sized.1 in
      let other = passes (is_some state.open_set) _ not_own.1 in
      let free = passes (is_protected constants state key) _ other.1 in
      let mirrors = passes (unmirrors constants state key flags) _ free.1 in
      (passes (is_spent constants state flags) _ mirrors.1).0

  taken_small : (operation : Operation) → IsTrue (may_fail_writing (secure_checks constants state who operation)) → number_taken (takes_number operation) state.next_vector < 2 ^ 64
  taken_small (Set key value flags) may = number_small (is_numbered flags) state.next_vector _ refl (has_number key (length value) flags may) old.next_vector
  taken_small (Start key size flags) may = number_small (is_numbered flags) state.next_vector _ refl (has_number key size flags may) old.next_vector
  taken_small operation may = old.next_vector

  later_set : (set : OpenSet) (n : ℕ) (is_remove : Bool) → state.next_vector ≤ n → MatchBool is_remove (set.prior ≡ None) (IsSet secure_starts state.rollback state.next_vector set)
      → MatchBool is_remove (set.prior ≡ None) (IsSet secure_starts state.rollback n set)
  later_set set n true later valid = valid
  later_set set n false later valid = record {
    began = valid.began;
    fed = valid.fed;
    not_mirrored = valid.not_mirrored;
    numbered = λ takes. omega (arith, valid.numbered takes, later);
    prior = valid.prior;
  }

  later_active : (found : Option OpenSet) (n : ℕ) → state.next_vector ≤ n → IfSome found (IsActive secure_starts state.rollback state.next_vector) → IfSome found (IsActive secure_starts state.rollback n)
  later_active None n later valid = tt
  later_active (Some set) n later valid = later_set set n set.is_remove later valid

  pub failed_write_keeps_limits : (operation : Operation) → IsTrue (may_fail_writing (secure_checks constants state who operation)) → IsSecure (failed_write (secure_rules constants) state who operation)
  failed_write_keeps_limits operation may = record {
    primary = old.primary;
    rollback = old.rollback;
    open_set = later_active state.open_set (number_taken (takes_number operation) state.next_vector) (no_less (takes_number operation) state.next_vector) old.open_set;
    iterators = old.iterators;
    next_vector = taken_small operation may;
  }

pub fresh_keeps_limits : (next_vector : ℕ) → next_vector < 2 ^ 64 → IsSecure (fresh_state map.empty map.empty next_vector)
fresh_keeps_limits next_vector fits = record {
  primary = short_empty;
  rollback = short_empty;
  open_set = tt;
  iterators = subst (λ (n : ℕ). n ≤ MAX_ITERATORS) (sym (len-empty iterator_cmp Position)) (omega arith);
  next_vector = fits;
}

module _ (form : HaveForm) (constants : Constants) (old new : StoreState) (within : IsSecure old) where
  mount_keeps_limits : (maps : Maps) → ShortMaps maps → new ≡ mounted old (heal (secure_of constants) maps) → IsSecure new
  mount_keeps_limits maps short is =
      let there = short_healed (secure_of constants) maps short in
      subst IsSecure (sym is)
      (record {
        primary = there.primary;
        rollback = there.rollback;
        open_set = tt;
        iterators = subst (λ (n : ℕ). n ≤ MAX_ITERATORS) (sym (len-empty iterator_cmp Position)) (omega arith);
        next_vector = within.next_vector;
      })

  cut_short : (who : ℕ) (operation : Operation) (maps : Maps) → Contains (cuts (secure_rules constants) old who operation) maps → ShortMaps maps
  cut_short who operation maps cut =
      let before = before_doubt (secure_rules constants) old in
      let first = maps_short old within in
      let third = step_short form constants before who (small_before old.next_vector old.doubt within.next_vector) first old.next_vector within.open_set operation in
      one_of_three ShortMaps _ _ _ maps first (record { primary = third.primary; rollback = first.rollback }) third cut.0 cut.1 cut.2

  mounts : (doubt : Option Doubt) → MatchOption doubt (new ≡ mounted old (heal (secure_of constants) (maps_of old)))
      (λ d. (maps : Maps) × Contains (cuts (secure_rules constants) old d.who d.operation) maps × (new ≡ mounted old (heal (secure_of constants) maps))) → IsSecure new
  mounts None is = mount_keeps_limits (maps_of old) (maps_short old within) is
  mounts (Some doubt) (maps, cut, is) = mount_keeps_limits maps (cut_short doubt.who doubt.operation maps cut) is

  steps : (who : ℕ) (operation : Operation) (outcome : Outcome) → Steps (secure_rules constants) old who operation outcome → IsSecure outcome.state
  steps who operation outcome (inl is) = subst (λ (o : Outcome). IsSecure o.state) (sym is) (step_keeps_limits constants old who within form operation)
  steps who operation outcome (inr (inl (runs, may, is))) = subst (λ (o : Outcome). IsSecure o.state) (sym is) within
  steps who operation outcome (inr (inr (runs, may, is))) = subst (λ (o : Outcome). IsSecure o.state) (sym is) (failed_write_keeps_limits constants old who within operation may)

  asked : (who : ℕ) (reply : Reply) (asks : Option Operation) → MatchOption asks ((reply ≡ Done) × Mounts (secure_rules constants) old new)
      (λ operation. Steps (secure_rules constants) old who operation (record { state = new; reply = reply })) → IsSecure new
  asked who reply None follows = mounts old.doubt follows.1
  asked who reply (Some operation) follows = steps who operation (record { state = new; reply = reply }) follows

pub follows_keeps_limits : HaveForm → (constants : Constants) (old new : StoreState) (entry : Entry) → IsSecure old → Follows (secure_rules constants) old entry new → IsSecure new
follows_keeps_limits form constants old new entry within follows = asked form constants old new within entry.who entry.reply (operation_of entry.call) follows
