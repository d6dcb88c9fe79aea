-- Every step of a plain store keeps its map, and the set that is active, within the room.
use Rattle.std.proofs.Common.{◌≡◌, ℕ, ◌+◌, ◌≤◌, Bool, true, false, nat_lt, List, ◌++◌, length, Option, Some, None, IfSome, MatchBool, MatchOption, refl, sym, subst, inl, inr, arith}
use Rattle.std.specs.Prelude.{not, is_some, if◌then◌else◌}
use Rattle.std.specs.Option.{option_map_or}
use Rattle.std.specs.List.{Contains}
use Rattle.std.specs.FinMap as map
use Rattle.kv_model.specs.declared.call.Reply.{Reply}
use Rattle.kv_model.specs.declared.call.Reply.TheVariants.{Done}
use Rattle.kv_model.specs.declared.error.KvError.{KvError}
use Rattle.kv_model.specs.declared.error.KvError.TheVariants as error
use Rattle.kv_model.specs.declared.call.Entry.{Entry}
use Rattle.kv_model.specs.Checks.{first_refusal}
use Rattle.kv_model.specs.FlaggedMap.{FlaggedMap, Stored}
use Rattle.base_core.specs.Sizes.{record_size}
use Rattle.kv_model.specs.Sizes.{used}
use Rattle.kv_model.specs.Constants.{Constants}
use Rattle.kv_model.specs.StoreState.{Maps, StoreState, OpenSet, Doubt, fresh_state, maps_of}
use Rattle.kv_model.specs.Operations.{Operation, Get, Part, Info, Set, Remove, RemoveStart, Start, Add, Finish, Abort, OpenIterator, Next, CloseIterator, Reset, operation_of}
use Rattle.kv_model.specs.Rules.{Outcome, Mounts, Steps, after_refusal, before_doubt, cuts, mounted, refused_or}
use Rattle.kv_model.specs.declared.limits.TheConstants.{MAX_VALUE}
use Rattle.kv_model.specs.Flags.{is_plain_flags, is_write_once}
use Rattle.kv_model.specs.Keys.{is_key}
use Rattle.kv_model.specs.Rows.{advanced, owns_set, set_owner}
use Rattle.kv_model.specs.PlainStep.{finished_map, flags_in, needed, plain_checks, plain_effect, plain_rules, plain_step}
use Rattle.kv_model.specs.History.{Follows}
use Rattle.kv_model.specs.Limits.{HasRoom, IsActive, IsPlain, IsSet, plain_starts}
use mathlib.Core.Bool.{true≢false}
use Rattle.kv_model.proofs.LimitLemmas.{at_most, before_keeps_limits, one_of_three, unrefused}
use Rattle.kv_model.proofs.UsedLemmas.{used-empty, used-insert_at_most, used-remove_at_most}

module _ (constants : Constants) where
  abbrev fits : FlaggedMap → Type 0
  fits m = used constants.prog m ≤ constants.room

  -- the set that is active has room beside a map
  abbrev ForActive : FlaggedMap → OpenSet → Type 0
  ForActive m set = MatchBool set.is_remove (Unit {0})
      (used constants.prog m + record_size constants.prog (length set.key) set.size ≤ constants.room)

  none_active : (P : OpenSet → Type 0) (found : Option OpenSet) → is_some found ≡ false → IfSome found P
  none_active P None none = tt
  none_active P (Some set) none = absurd (true≢false none)

  -- the active set has room in a smaller map too
  smaller : (m n : FlaggedMap) (set : OpenSet) (is_remove : Bool) → used constants.prog n ≤ used constants.prog m
      → MatchBool is_remove (Unit {0}) (used constants.prog m + record_size constants.prog (length set.key) set.size ≤ constants.room)
      → MatchBool is_remove (Unit {0}) (used constants.prog n + record_size constants.prog (length set.key) set.size ≤ constants.room)
  smaller m n set true less room = tt
  smaller m n set false less room = omega (arith, less, room)

  reserved_in : (m n : FlaggedMap) (found : Option OpenSet) → used constants.prog n ≤ used constants.prog m → IfSome found (ForActive m) → IfSome found (ForActive n)
  reserved_in m n None less room = tt
  reserved_in m n (Some set) less room = smaller m n set set.is_remove less room

  empty_is_least : (m : FlaggedMap) → used constants.prog map.empty ≤ used constants.prog m
  empty_is_least m = omega (arith, used-empty constants.prog)

  module _ (state : StoreState) (who : ℕ) (plain : IsPlain state) (old : HasRoom constants state) where
    -- what the checks of a set and of a start let through
    may_set : (key : List ℕ) (size flags : ℕ) → first_refusal (plain_checks constants state who (Start key size flags)) ≡ None
        → (is_some state.open_set ≡ false) × (needed constants state who key size ≤ constants.room)
    may_set key size flags none =
        let key_right = unrefused (not (is_key key)) error.InvalidKey _ none in
        let flags_right = unrefused (not (is_plain_flags flags)) error.InvalidFlags _ key_right.1 in
        let sized = unrefused (nat_lt MAX_VALUE size) error.InvalidSize _ flags_right.1 in
        let not_own = unrefused (owns_set state who) error.SetOpen _ sized.1 in
        let other = unrefused (is_some state.open_set) (error.Busy (set_owner state who)) _ not_own.1 in
        let free = unrefused (is_write_once (flags_in state.primary key)) error.WriteProtected _ other.1 in
        let full = unrefused (nat_lt constants.room (needed constants state who key size)) (error.MediaFull (needed constants state who key size) constants.room) _ free.1 in
        (other.0, at_most constants.room (needed constants state who key size) full.0)

    added : (value : List ℕ) (found : Option OpenSet) → IfSome found (ForActive state.primary)
        → IfSome found (λ (s : OpenSet). ForActive state.primary (record s { bytes = s.bytes ++ value }))
    added value None room = tt
    added value (Some set) room = room

    adds : (value : List ℕ) (found : Option OpenSet) → IfSome found (ForActive state.primary)
        → HasRoom constants (option_map_or (λ (s : OpenSet). record state { open_set = Some (record s { bytes = s.bytes ++ value }) }) found state)
    adds value None room = old
    adds value (Some set) room = record { fits = old.fits; reserved = room }

    -- a set that is finished has all its bytes
    ended : (set : OpenSet) (is_remove : Bool) → MatchBool is_remove (set.prior ≡ None) (IsSet plain_starts state.rollback state.next_vector set)
        → set.size ≤ length set.bytes
        → MatchBool is_remove (Unit {0}) (used constants.prog state.primary + record_size constants.prog (length set.key) set.size ≤ constants.room)
        → fits (if is_remove then map.remove state.primary set.key else map.insert state.primary set.key (record { flags = set.flags; bytes = set.bytes }))
    ended set true valid whole room = omega (arith, used-remove_at_most constants.prog state.primary set.key, old.fits)
    ended set false valid whole room =
        let value : Stored = record { flags = set.flags; bytes = set.bytes } in
        let all : length set.bytes ≡ set.size = omega (arith, whole, valid.fed) in
        let more = used-insert_at_most constants.prog state.primary set.key value in
        let sized : used constants.prog state.primary + record_size constants.prog (length set.key) (length set.bytes) ≤ constants.room =
        subst (λ (n : ℕ). used constants.prog state.primary + record_size constants.prog (length set.key) n ≤ constants.room) (sym all) room in
        omega (arith, more, sized)

    finishes : (found : Option OpenSet) → IfSome found (IsActive plain_starts state.rollback state.next_vector) → IfSome found (ForActive state.primary)
        → option_map_or (λ (s : OpenSet). s.size) found 0 ≤ option_map_or (λ (s : OpenSet). length s.bytes) found 0
        → HasRoom constants (option_map_or (λ (s : OpenSet). record state { primary = finished_map state.primary s; rollback = state.rollback; open_set = None }) found state)
    finishes None valid room whole = old
    finishes (Some set) valid room whole = record { fits = ended set set.is_remove valid whole room; reserved = tt }

    moved : (n : ℕ) (found : Option (List ℕ)) → HasRoom constants (advanced state who n found).state
    moved n None = old
    moved n (Some key) = record { fits = old.fits; reserved = old.reserved }

    not_refused : (operation : Operation) → first_refusal (plain_checks constants state who operation) ≡ None → HasRoom constants (plain_effect constants state who operation).state
    not_refused (Get key) none = old
    not_refused (Part key offset count) none = old
    not_refused (Info key) none = old
    not_refused (Set key value flags) none =
        let may = may_set key (length value) flags none in
        let stored : Stored = record { flags = flags; bytes = value } in
        record {
          fits = omega (arith, used-insert_at_most constants.prog state.primary key stored, may.1);
          reserved = none_active (ForActive (map.insert state.primary key stored)) state.open_set may.0;
        }
    not_refused (Remove key) none =
        let less = used-remove_at_most constants.prog state.primary key in
        record { fits = omega (arith, less, old.fits); reserved = reserved_in state.primary (map.remove state.primary key) state.open_set less old.reserved }
    not_refused (RemoveStart key) none = record { fits = old.fits; reserved = tt }
    not_refused (Start key size flags) none = record { fits = old.fits; reserved = (may_set key size flags none).1 }
    not_refused (Add value) none = adds value state.open_set old.reserved
    not_refused Finish none =
        finishes state.open_set plain.within.open_set old.reserved (at_most _ _ (unrefused _ _ _ (unrefused _ _ _ none).1).0)
    not_refused Abort none = record { fits = old.fits; reserved = tt }
    not_refused Reset none =
        let less = empty_is_least state.primary in
        record { fits = omega (arith, less, old.fits); reserved = reserved_in state.primary map.empty state.open_set less old.reserved }
    not_refused (OpenIterator n prefix) none = record { fits = old.fits; reserved = old.reserved }
    not_refused (Next n) none = moved n _
    not_refused (CloseIterator n) none = record { fits = old.fits; reserved = old.reserved }

    without_set : HasRoom constants (record state { open_set = None })
    without_set = record { fits = old.fits; reserved = tt }

    after_finish : (e : KvError) → HasRoom constants (after_refusal state Finish e)
    after_finish error.NotFound = old
    after_finish error.InvalidKey = old
    after_finish error.InvalidFlags = old
    after_finish error.InvalidSize = without_set
    after_finish error.WriteProtected = old
    after_finish (error.MediaFull need room) = old
    after_finish error.TooManyIterators = old
    after_finish error.NoIterator = old
    after_finish error.SetOpen = old
    after_finish error.NoSet = old
    after_finish (error.Busy owner) = old
    after_finish error.Stopped = old
    after_finish error.ReadFault = old
    after_finish error.WriteFault = old
    after_finish (error.Corrupt stored computed) = old
    after_finish error.AuthFailed = old
    after_finish error.RollbackFailed = old
    after_finish error.IvSpent = old
    after_finish error.Memory = old

    after_refused : (operation : Operation) (e : KvError) → HasRoom constants (after_refusal state operation e)
    after_refused (Get key) e = old
    after_refused (Part key offset count) e = old
    after_refused (Info key) e = old
    after_refused (Set key value flags) e = old
    after_refused (Remove key) e = old
    after_refused (RemoveStart key) e = old
    after_refused (Start key size flags) e = old
    after_refused (Add value) e = old
    after_refused Finish e = after_finish e
    after_refused Abort e = old
    after_refused (OpenIterator n prefix) e = old
    after_refused (Next n) e = old
    after_refused (CloseIterator n) e = old
    after_refused Reset e = old

    answered : (operation : Operation) (found : Option KvError) → first_refusal (plain_checks constants state who operation) ≡ found
        → HasRoom constants (refused_or (plain_rules constants) state who operation found).state
    answered operation None none = not_refused operation none
    answered operation (Some e) refused = after_refused operation e

    either : (b : Bool) (x y : Outcome) → HasRoom constants x.state → HasRoom constants y.state → HasRoom constants (if b then x else y).state
    either true x y first second = first
    either false x y first second = second

    pub step_keeps_room : (operation : Operation) → HasRoom constants (plain_step constants state who operation).state
    step_keeps_room operation =
        either (is_some state.doubt) _ _ old (answered operation (first_refusal (plain_checks constants state who operation)) refl)

  pub fresh_has_room : (next_vector : ℕ) → HasRoom constants (fresh_state map.empty map.empty next_vector)
  fresh_has_room next_vector = record { fits = omega (arith, used-empty constants.prog); reserved = tt }

  before_has_room : (state : StoreState) → HasRoom constants state → HasRoom constants (before_doubt (plain_rules constants) state)
  before_has_room state room = record { fits = room.fits; reserved = room.reserved }

  module _ (old new : StoreState) (plain : IsPlain old) (room : HasRoom constants old) where
    mounted_room : (maps : Maps) → fits maps.primary → new ≡ mounted old maps → HasRoom constants new
    mounted_room maps less is = subst (HasRoom constants) (sym is) (record { fits = less; reserved = tt })

    mounts : (doubt : Option Doubt) → MatchOption doubt (new ≡ mounted old (maps_of old))
        (λ d. (maps : Maps) × Contains (cuts (plain_rules constants) old d.who d.operation) maps × (new ≡ mounted old maps)) → HasRoom constants new
    mounts None is = mounted_room (maps_of old) room.fits is
    mounts (Some doubt) (maps, cut, is) =
        let before = before_doubt (plain_rules constants) old in
        let after = step_keeps_room before doubt.who (before_keeps_limits constants old plain) (before_has_room old room) doubt.operation in
        mounted_room maps (one_of_three (λ (m : Maps). fits m.primary) _ _ _ maps room.fits after.fits after.fits cut.0 cut.1 cut.2) is

    steps : (who : ℕ) (operation : Operation) (outcome : Outcome) → Steps (plain_rules constants) old who operation outcome → HasRoom constants outcome.state
    steps who operation outcome (inl is) = subst (λ (o : Outcome). HasRoom constants o.state) (sym is) (step_keeps_room old who plain room operation)
    steps who operation outcome (inr (inl (runs, may, is))) = subst (λ (o : Outcome). HasRoom constants o.state) (sym is) room
    steps who operation outcome (inr (inr (runs, may, is))) =
        subst (λ (o : Outcome). HasRoom constants o.state) (sym is) (record { fits = room.fits; reserved = room.reserved })

    asked : (who : ℕ) (reply : Reply) (asks : Option Operation) → MatchOption asks ((reply ≡ Done) × Mounts (plain_rules constants) old new)
        (λ operation. Steps (plain_rules constants) old who operation (record { state = new; reply = reply })) → HasRoom constants new
    asked who reply None follows = mounts old.doubt follows.1
    asked who reply (Some operation) follows = steps who operation (record { state = new; reply = reply }) follows

  pub follows_keeps_room : (old new : StoreState) (entry : Entry) → IsPlain old → HasRoom constants old → Follows (plain_rules constants) old entry new → HasRoom constants new
  follows_keeps_room old new entry plain room follows = asked old new plain room entry.who entry.reply (operation_of entry.call) follows
