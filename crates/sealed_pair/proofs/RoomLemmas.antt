-- Every step of a secure store keeps both maps, and what the active set will store, within the rooms.
use Rattle.std.proofs.Common.{◌≡◌, ℕ, ◌+◌, ◌-◌, ◌^◌, ◌<◌, ◌≤◌, Bool, true, false, List, ◌++◌, length, Option, Some, None, IfSome, MatchBool, MatchOption, inl, inr, refl, sym, ◌∙◌, ap, subst, arith}
use Rattle.std.specs.Prelude.{is_some, if◌then◌else◌}
use Rattle.std.specs.Option.{option_map_or}
use Rattle.std.specs.FinMap as map
use Rattle.std.specs.List.{Contains}
use Rattle.std.proofs.lemmas.List.{length-drop}
use Rattle.base_core.specs.Sizes.{record_size}
use Rattle.kv_model.specs.declared.error.KvError.{KvError}
use Rattle.kv_model.specs.declared.error.KvError.TheVariants as error
use Rattle.kv_model.specs.declared.call.Reply.{Reply}
use Rattle.kv_model.specs.declared.call.Reply.TheVariants.{Done}
use Rattle.kv_model.specs.declared.call.Entry.{Entry}
use Rattle.kv_model.specs.Checks.{first_refusal}
use Rattle.kv_model.specs.Constants.{Constants}
use Rattle.kv_model.specs.FlaggedMap.{FlaggedMap, Stored}
use Rattle.kv_model.specs.Flags.{is_mirrored}
use Rattle.kv_model.specs.History.{Follows}
use Rattle.kv_model.specs.Limits.{IsActive, IsSet}
use Rattle.kv_model.specs.Operations.{Operation, Get, Part, Info, Set, Remove, RemoveStart, Start, Add, Finish, Abort, OpenIterator, Next, CloseIterator, Reset, operation_of}
use Rattle.kv_model.specs.Rows.{advanced}
use Rattle.kv_model.specs.Rules.{Outcome, Mounts, Steps, after_refusal, before_doubt, cuts, mounted, refused_or, refuses}
use Rattle.kv_model.specs.Sizes.{used}
use Rattle.kv_model.specs.StoreState.{Doubt, Maps, StoreState, OpenSet, fresh_state, maps_of, prior_in}
use Rattle.kv_model.proofs.LimitLemmas.{at_most, one_of_three, unrefused}
use Rattle.kv_model.proofs.UsedLemmas.{used-empty, used-insert_at_most, used-remove_at_most}
use Rattle.sealed_pair.specs.declared.limits.TheConstants.{SEAL_SIZE, TAG_SIZE}
use Rattle.sealed_pair.specs.Sealing.{is_numbered, record_entry, secure_of, tag_entry, tag_of, with_record, without_key}
use Rattle.sealed_pair.specs.SecureStep.{finished, finished_record, secure_checks, secure_effect, secure_rules, secure_step, set_record}
use Rattle.sealed_pair.specs.Heal.{heal}
use Rattle.sealed_pair.specs.Limits.{ForActive, HasRooms, IsReserved, IsSecure, secure_starts}
use Rattle.sealed_pair.proofs.HealLemmas.{used_healed}
use Rattle.sealed_pair.proofs.SealLemmas.{HaveForm, length-seal}
use Rattle.sealed_pair.proofs.SetLemmas.{MaySet, may_set}
use Rattle.sealed_pair.proofs.CutLemmas.{small_before}
use Rattle.sealed_pair.proofs.LimitLemmas.{none_active, none_at_reset, none_open, set_seals, finish_seals}

-- both maps fit in their rooms
pub record Fit (constants : Constants) (maps : Maps) : Type 0 where
  pub primary : used constants.prog maps.primary ≤ constants.room
  pub rollback : used (secure_of constants).prog maps.rollback ≤ (secure_of constants).room

length-tag : (bytes : List ℕ) (n : ℕ) → length bytes ≡ n + SEAL_SIZE → length (tag_of bytes) ≡ TAG_SIZE
length-tag bytes n size = omega (arith, length-drop (length bytes - TAG_SIZE) bytes, size)

-- a map with one record more, of a known size
insert_fits : (prog room : ℕ) (m : FlaggedMap) (key : List ℕ) (value : Stored) (size : ℕ) → length value.bytes ≡ size
    → used prog m + record_size prog (length key) size ≤ room → used prog (map.insert m key value) ≤ room
insert_fits prog room m key value size is fits =
    let more = used-insert_at_most prog m key value in
    let sized : used prog m + record_size prog (length key) (length value.bytes) ≤ room =
    subst (λ (n : ℕ). used prog m + record_size prog (length key) n ≤ room) (sym is) fits in
    omega (arith, more, sized)

tag_fits : (prog room : ℕ) (m : FlaggedMap) (key : List ℕ) (tag : Stored) (mirrored : Bool) → length tag.bytes ≡ TAG_SIZE → used prog m ≤ room
    → (mirrored ≡ true → used prog m + record_size prog (length key) TAG_SIZE ≤ room) → used prog (if mirrored then map.insert m key tag else m) ≤ room
tag_fits prog room m key tag true is old fits = insert_fits prog room m key tag TAG_SIZE is (fits refl)
tag_fits prog room m key tag false is old fits = old

module _ (constants : Constants) (maps : Maps) (fit : Fit constants maps) where
  record_fits : (key : List ℕ) (flags : ℕ) (bytes : List ℕ) (size : ℕ) → length bytes ≡ size + SEAL_SIZE
      → used constants.prog maps.primary + record_size constants.prog (length key) (size + SEAL_SIZE) ≤ constants.room
      → (is_mirrored flags ≡ true → used (secure_of constants).prog maps.rollback + record_size (secure_of constants).prog (length key) TAG_SIZE ≤ (secure_of constants).room)
      → Fit constants (with_record maps key flags bytes)
  record_fits key flags bytes size is room beside = record {
    primary = insert_fits constants.prog constants.room maps.primary key (record_entry flags bytes) (size + SEAL_SIZE) is room;
    rollback =
        tag_fits (secure_of constants).prog (secure_of constants).room maps.rollback key (tag_entry flags bytes) (is_mirrored flags) (length-tag bytes size is) fit.rollback beside;
  }

  without_fits : (key : List ℕ) → Fit constants (without_key maps key)
  without_fits key = record {
    primary = omega (arith, used-remove_at_most constants.prog maps.primary key, fit.primary);
    rollback = omega (arith, used-remove_at_most (secure_of constants).prog maps.rollback key, fit.rollback);
  }

  pub healed_fits : Fit constants (heal (secure_of constants) maps)
  healed_fits = record { primary = fit.primary; rollback = omega (arith, used_healed (secure_of constants) maps, fit.rollback) }

empty_fits : (constants : Constants) → Fit constants (record { primary = map.empty; rollback = map.empty })
empty_fits constants = record { primary = omega (arith, used-empty constants.prog); rollback = omega (arith, used-empty (secure_of constants).prog) }

pub maps_fit : (constants : Constants) (state : StoreState) → HasRooms constants state → Fit constants (maps_of state)
maps_fit constants state rooms = record { primary = rooms.primary; rollback = rooms.rollback }

-- ---- the maps after a step

module _ (form : HaveForm) (constants : Constants) (state : StoreState) (who : ℕ) (small : state.next_vector < 2 ^ 64) (old : HasRooms constants state) where
  fit : Fit constants (maps_of state)
  fit = maps_fit constants state old

  abbrev root : List ℕ
  root = (secure_of constants).root

  set_fits : (key value : List ℕ) (flags : ℕ) → MaySet constants state key (length value) flags → Fit constants (with_record (maps_of state) key flags (set_record constants state key value flags))
  set_fits key value flags may =
      record_fits constants (maps_of state) fit key flags (set_record constants state key value flags) (length value)
      (length-seal form root key flags (if is_numbered flags then state.next_vector else 0) (prior_in state.rollback flags key) value (set_seals constants state small key value flags may))
      may.room may.room_beside

  -- a set that is finished has all its bytes
  finish_fits : (n : ℕ) (set : OpenSet) (is_remove : Bool) → MatchBool is_remove (set.prior ≡ None) (IsSet secure_starts state.rollback n set)
      → MatchBool is_remove (Unit {0}) (IsReserved constants (maps_of state) set.key set.size set.flags) → set.size ≤ length set.bytes
      → Fit constants (if is_remove then without_key (maps_of state) set.key else with_record (maps_of state) set.key set.flags (finished_record constants state set))
  finish_fits n set true valid room whole = without_fits constants (maps_of state) fit set.key
  finish_fits n set false valid room whole =
      let all : length set.bytes ≡ set.size = omega (arith, whole, valid.fed) in
      let size = length-seal form root set.key set.flags (if is_numbered set.flags then state.next_vector - 1 else 0) set.prior set.bytes (finish_seals constants state small n set valid) in
      record_fits constants (maps_of state) fit set.key set.flags (finished_record constants state set) set.size (size ∙ ap (λ (k : ℕ). k + SEAL_SIZE) all)
      room.room room.room_beside

  finished_fits : (n : ℕ) (found : Option OpenSet) → IfSome found (IsActive secure_starts state.rollback n) → IfSome found (ForActive constants (maps_of state))
      → option_map_or (λ (s : OpenSet). s.size) found 0 ≤ option_map_or (λ (s : OpenSet). length s.bytes) found 0
      → Fit constants (maps_of (option_map_or (λ (s : OpenSet). record state { primary = (finished constants state s).primary; rollback = (finished constants state s).rollback; open_set = None }) found state))
  finished_fits n None valid room whole = fit
  finished_fits n (Some set) valid room whole = finish_fits n set set.is_remove valid room whole

  added_fits : (value : List ℕ) (found : Option OpenSet)
      → Fit constants (maps_of (option_map_or (λ (s : OpenSet). record state { open_set = Some (record s { bytes = s.bytes ++ value }) }) found state))
  added_fits value None = fit
  added_fits value (Some set) = fit

  moved_fits : (n : ℕ) (found : Option (List ℕ)) → Fit constants (maps_of (advanced state who n found).state)
  moved_fits n None = fit
  moved_fits n (Some key) = fit

  granted_fits : (n : ℕ) → IfSome state.open_set (IsActive secure_starts state.rollback n) → (operation : Operation) → first_refusal (secure_checks constants state who operation) ≡ None
      → Fit constants (maps_of (secure_effect constants state who operation).state)
  granted_fits n active (Get key) none = fit
  granted_fits n active (Part key offset count) none = fit
  granted_fits n active (Info key) none = fit
  granted_fits n active (Set key value flags) none = set_fits key value flags (may_set constants state who key (length value) flags none)
  granted_fits n active (Remove key) none = without_fits constants (maps_of state) fit key
  granted_fits n active (RemoveStart key) none = fit
  granted_fits n active (Start key size flags) none = fit
  granted_fits n active (Add value) none = added_fits value state.open_set
  granted_fits n active Finish none = finished_fits n state.open_set active old.reserved (at_most _ _ (unrefused _ _ _ (unrefused _ _ _ none).1).0)
  granted_fits n active Abort none = fit
  granted_fits n active Reset none = empty_fits constants
  granted_fits n active (OpenIterator m prefix) none = fit
  granted_fits n active (Next m) none = moved_fits m _
  granted_fits n active (CloseIterator m) none = fit

  finish_refused : (e : KvError) → Fit constants (maps_of (after_refusal state Finish e))
  finish_refused error.InvalidSize = fit
  finish_refused e = fit

  refused_fits : (operation : Operation) (e : KvError) → Fit constants (maps_of (after_refusal state operation e))
  refused_fits Finish e = finish_refused e
  refused_fits operation e = fit

  answered_fits : (n : ℕ) → IfSome state.open_set (IsActive secure_starts state.rollback n) → (operation : Operation) (stopped : Bool) (found : Option KvError)
      → first_refusal (secure_checks constants state who operation) ≡ found
      → Fit constants (maps_of (if stopped then refuses state error.Stopped else refused_or (secure_rules constants) state who operation found).state)
  answered_fits n active operation true found is = fit
  answered_fits n active operation false None is = granted_fits n active operation is
  answered_fits n active operation false (Some e) is = refused_fits operation e

  pub step_fits : (n : ℕ) → IfSome state.open_set (IsActive secure_starts state.rollback n) → (operation : Operation) → Fit constants (maps_of (secure_step constants state who operation).state)
  step_fits n active operation = answered_fits n active operation (is_some state.doubt) (first_refusal (secure_checks constants state who operation)) refl

-- ---- the active set after a step

-- what the active set will store has its room
abbrev Reserved : Constants → StoreState → Type 0
Reserved constants state = IfSome state.open_set (ForActive constants (maps_of state))

module _ (constants : Constants) (state : StoreState) (who : ℕ) (within : IsSecure state) (old : Reserved constants state) where
  added : (value : List ℕ) (found : Option OpenSet) → IfSome found (ForActive constants (maps_of state))
      → Reserved constants (option_map_or (λ (s : OpenSet). record state { open_set = Some (record s { bytes = s.bytes ++ value }) }) found state)
  added value None room = old
  added value (Some set) room = room

  finishes : (found : Option OpenSet)
      → Reserved constants (option_map_or (λ (s : OpenSet). record state { primary = (finished constants state s).primary; rollback = (finished constants state s).rollback; open_set = None }) found state)
  finishes None = old
  finishes (Some set) = tt

  moved : (n : ℕ) (found : Option (List ℕ)) → Reserved constants (advanced state who n found).state
  moved n None = old
  moved n (Some key) = old

  started : (key : List ℕ) (size flags : ℕ) → MaySet constants state key size flags → Reserved constants (secure_effect constants state who (Start key size flags)).state
  started key size flags may = record { room = may.room; room_beside = may.room_beside; free = may.free }

  granted : (operation : Operation) → first_refusal (secure_checks constants state who operation) ≡ None → Reserved constants (secure_effect constants state who operation).state
  granted (Get key) none = old
  granted (Part key offset count) none = old
  granted (Info key) none = old
  granted (Set key value flags) none =
      none_active (ForActive constants (with_record (maps_of state) key flags (set_record constants state key value flags))) state.open_set
      (may_set constants state who key (length value) flags none).none_open
  granted (Remove key) none = none_active (ForActive constants (without_key (maps_of state) key)) state.open_set (none_open constants state who within key none)
  granted (RemoveStart key) none = tt
  granted (Start key size flags) none = started key size flags (may_set constants state who key size flags none)
  granted (Add value) none = added value state.open_set old
  granted Finish none = finishes state.open_set
  granted Abort none = tt
  granted Reset none = none_active (ForActive constants (record { primary = map.empty; rollback = map.empty })) state.open_set (none_at_reset constants state who within none)
  granted (OpenIterator n prefix) none = old
  granted (Next n) none = moved n _
  granted (CloseIterator n) none = old

  finish_refuses : (e : KvError) → Reserved constants (after_refusal state Finish e)
  finish_refuses error.InvalidSize = tt
  finish_refuses e = old

  refused : (operation : Operation) (e : KvError) → Reserved constants (after_refusal state operation e)
  refused Finish e = finish_refuses e
  refused operation e = old

  answered : (operation : Operation) (stopped : Bool) (found : Option KvError) → first_refusal (secure_checks constants state who operation) ≡ found
      → Reserved constants (if stopped then refuses state error.Stopped else refused_or (secure_rules constants) state who operation found).state
  answered operation true found is = old
  answered operation false None is = granted operation is
  answered operation false (Some e) is = refused operation e

  pub step_reserves : (operation : Operation) → Reserved constants (secure_step constants state who operation).state
  step_reserves operation = answered operation (is_some state.doubt) (first_refusal (secure_checks constants state who operation)) refl

pub step_keeps_rooms : HaveForm → (constants : Constants) (state : StoreState) (who : ℕ) (operation : Operation) → IsSecure state → HasRooms constants state
    → HasRooms constants (secure_step constants state who operation).state
step_keeps_rooms form constants state who operation within old =
    let fits = step_fits form constants state who within.next_vector old state.next_vector within.open_set operation in
    record { primary = fits.primary; rollback = fits.rollback; reserved = step_reserves constants state who within old.reserved operation }

pub fresh_has_rooms : (constants : Constants) (next_vector : ℕ) → HasRooms constants (fresh_state map.empty map.empty next_vector)
fresh_has_rooms constants next_vector =
    let fits = empty_fits constants in
    record { primary = fits.primary; rollback = fits.rollback; reserved = tt }

-- ---- faults and mounts

module _ (form : HaveForm) (constants : Constants) (old new : StoreState) (within : IsSecure old) (rooms : HasRooms constants old) where
  mounted_rooms : (maps : Maps) → Fit constants maps → new ≡ mounted old (heal (secure_of constants) maps) → HasRooms constants new
  mounted_rooms maps fits is =
      let healed = healed_fits constants maps fits in
      subst (HasRooms constants) (sym is) (record { primary = healed.primary; rollback = healed.rollback; reserved = tt })

  cut_fits : (who : ℕ) (operation : Operation) (maps : Maps) → Contains (cuts (secure_rules constants) old who operation) maps → Fit constants maps
  cut_fits who operation maps cut =
      let before = before_doubt (secure_rules constants) old in
      let first = maps_fit constants old rooms in
      let third = step_fits form constants before who (small_before old.next_vector old.doubt within.next_vector)
      (record { primary = rooms.primary; rollback = rooms.rollback; reserved = rooms.reserved }) old.next_vector within.open_set operation in
      one_of_three (Fit constants) _ _ _ maps first (record { primary = third.primary; rollback = first.rollback }) third cut.0 cut.1 cut.2

  mounts : (doubt : Option Doubt) → MatchOption doubt (new ≡ mounted old (heal (secure_of constants) (maps_of old)))
      (λ d. (maps : Maps) × Contains (cuts (secure_rules constants) old d.who d.operation) maps × (new ≡ mounted old (heal (secure_of constants) maps))) → HasRooms constants new
  mounts None is = mounted_rooms (maps_of old) (maps_fit constants old rooms) is
  mounts (Some doubt) (maps, cut, is) = mounted_rooms maps (cut_fits doubt.who doubt.operation maps cut) is

  steps : (who : ℕ) (operation : Operation) (outcome : Outcome) → Steps (secure_rules constants) old who operation outcome → HasRooms constants outcome.state
  steps who operation outcome (inl is) = subst (λ (o : Outcome). HasRooms constants o.state) (sym is) (step_keeps_rooms form constants old who operation within rooms)
  steps who operation outcome (inr (inl (runs, may, is))) = subst (λ (o : Outcome). HasRooms constants o.state) (sym is) rooms
  steps who operation outcome (inr (inr (runs, may, is))) =
      subst (λ (o : Outcome). HasRooms constants o.state) (sym is) (record { primary = rooms.primary; rollback = rooms.rollback; reserved = rooms.reserved })

  asked : (who : ℕ) (reply : Reply) (asks : Option Operation) → MatchOption asks ((reply ≡ Done) × Mounts (secure_rules constants) old new)
      (λ operation. Steps (secure_rules constants) old who operation (record { state = new; reply = reply })) → HasRooms constants new
  asked who reply None follows = mounts old.doubt follows.1
  asked who reply (Some operation) follows = steps who operation (record { state = new; reply = reply }) follows

pub follows_keeps_rooms : HaveForm → (constants : Constants) (old new : StoreState) (entry : Entry) → IsSecure old → HasRooms constants old → Follows (secure_rules constants) old entry new
    → HasRooms constants new
follows_keeps_rooms form constants old new entry within rooms follows = asked form constants old new within rooms entry.who entry.reply (operation_of entry.call) follows
