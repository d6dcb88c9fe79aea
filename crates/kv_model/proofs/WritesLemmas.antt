-- The records that a history of a plain store writes stand for the map that it leaves.
use Rattle.std.proofs.Common.{◌≡◌, ℕ, ◌<◌, Bool, true, false, nat_lt, List, [], ◌∷◌, ◌++◌, length, Option, Some, None, IfSome, MatchBool, MatchOption, All, refl, sym, ◌∙◌, ap, subst, inl, inr, arith}
use Rattle.std.specs.Prelude.{not, is_some, ◌==◌, if◌then◌else◌}
use Rattle.std.specs.Option.{option_map_or}
use Rattle.std.specs.FinMap as map
use Rattle.std.proofs.lemmas.Bool.{ltb-true, ne_eqb}
use Rattle.std.proofs.lemmas.List.Elements.{All-head, All-tail}
use mathlib.Core.Bool.{true≢false}
use Rattle.kv_model.specs.declared.call.Reply.{Reply}
use Rattle.kv_model.specs.declared.call.Reply.TheVariants.{Done, Value, Facts, Found, End, Refused}
use Rattle.kv_model.specs.declared.flags.Flags.{Flags}
use Rattle.kv_model.specs.declared.call.Call.{Call}
use Rattle.kv_model.specs.declared.call.Call.TheVariants as call
use Rattle.kv_model.specs.declared.call.Entry.{Entry}
use Rattle.kv_model.specs.declared.error.KvError.{KvError}
use Rattle.kv_model.specs.declared.error.KvError.TheVariants as error
use Rattle.kv_model.specs.Checks.{first_refusal}
use Rattle.kv_model.specs.Flags.{is_plain_flags, remove_flags}
use Rattle.kv_model.specs.Keys.{is_key}
use Rattle.kv_model.specs.FlaggedMap.{FlaggedMap, Stored}
use Rattle.kv_model.specs.Constants.{Constants}
use Rattle.kv_model.specs.Write.{Write, applied, map_after, map_of}
use Rattle.kv_model.specs.Writes.{IsOrdinary, NoRemoveBegun, set_after, written, writes}
use Rattle.kv_model.specs.StoreState.{StoreState, OpenSet}
use Rattle.kv_model.specs.Operations.{Operation, Get, Part, Info, Set, Remove, RemoveStart, Start, Add, Finish, Abort, OpenIterator, Next, CloseIterator, Reset, operation_of}
use Rattle.kv_model.specs.Rules.{Outcome, Mounts, Steps, after_refusal, refused_or, refuses}
use Rattle.kv_model.specs.Rows.{advanced}
use Rattle.kv_model.specs.PlainStep.{finished_map, plain_checks, plain_effect, plain_rules, plain_step}
use Rattle.kv_model.specs.History.{PassesThrough, Runs, last_state}
use Rattle.kv_model.specs.Limits.{IsActive, IsPlain, IsSet, plain_starts}
use Rattle.kv_model.proofs.LimitLemmas.{follows_keeps_limits, is_not, unrefused}

pub map_after-append : (m : FlaggedMap) (rs ss : List Write) → map_after m (rs ++ ss) ≡ map_after (map_after m rs) ss
map_after-append m [] ss = refl
map_after-append m (r ∷ rs) ss = map_after-append (applied r m) rs ss

-- a record is applied behind the others
pub map_of-append : (rs : List Write) (r : Write) → map_of (rs ++ r ∷ []) ≡ applied r (map_of rs)
map_of-append rs r = map_after-append map.empty rs (r ∷ [])

-- what a call writes, and the set that it leaves, are those of its outcome
pub record Agrees (old : StoreState) (who : ℕ) (asked : Call) (outcome : Outcome) : Type 0 where
  set : outcome.state.open_set ≡ set_after old.open_set who asked outcome.reply
  map_is : outcome.state.primary ≡ map_after old.primary (written old.open_set asked outcome.reply)

module _ (old : StoreState) (who : ℕ) where
  -- ---- refusals

  add_set : (value : List ℕ) (e : KvError) (found : Option OpenSet) → found ≡ set_after found who (call.Add value) (Refused e)
  add_set value e None = refl
  add_set value e (Some set) = refl

  finish_map : (e : KvError) (found : Option OpenSet) → written found call.Finish (Refused e) ≡ []
  finish_map e None = refl
  finish_map e (Some set) = refl

  finish_refused : (e : KvError) → after_refusal old Finish e ≡ old → old.open_set ≡ set_after old.open_set who call.Finish (Refused e)
      → Agrees old who call.Finish (refuses (after_refusal old Finish e) e)
  finish_refused e stays set = record {
    set = ap (λ (s : StoreState). s.open_set) stays ∙ set;
    map_is = ap (λ (s : StoreState). s.primary) stays ∙ sym (ap (map_after old.primary) (finish_map e old.open_set));
  }

  finish_agrees : (e : KvError) → Agrees old who call.Finish (refuses (after_refusal old Finish e) e)
  finish_agrees error.NotFound = finish_refused error.NotFound refl refl
  finish_agrees error.InvalidKey = finish_refused error.InvalidKey refl refl
  finish_agrees error.InvalidFlags = finish_refused error.InvalidFlags refl refl
  finish_agrees error.InvalidSize = record { set = refl; map_is = sym (ap (map_after old.primary) (finish_map error.InvalidSize old.open_set)) }
  finish_agrees error.WriteProtected = finish_refused error.WriteProtected refl refl
  finish_agrees (error.MediaFull need room) = finish_refused (error.MediaFull need room) refl refl
  finish_agrees error.TooManyIterators = finish_refused error.TooManyIterators refl refl
  finish_agrees error.NoIterator = finish_refused error.NoIterator refl refl
  finish_agrees error.SetOpen = finish_refused error.SetOpen refl refl
  finish_agrees error.NoSet = finish_refused error.NoSet refl refl
  finish_agrees (error.Busy owner) = finish_refused (error.Busy owner) refl refl
  finish_agrees error.Stopped = finish_refused error.Stopped refl refl
  finish_agrees error.ReadFault = finish_refused error.ReadFault refl refl
  finish_agrees error.WriteFault = finish_refused error.WriteFault refl refl
  finish_agrees (error.Corrupt stored computed) = finish_refused (error.Corrupt stored computed) refl refl
  finish_agrees error.AuthFailed = finish_refused error.AuthFailed refl refl
  finish_agrees error.RollbackFailed = finish_refused error.RollbackFailed refl refl
  finish_agrees error.IvSpent = finish_refused error.IvSpent refl refl
  finish_agrees error.Memory = finish_refused error.Memory refl refl

  -- a refusal that leaves the state writes nothing
  stays_agrees : (asked : Call) (e : KvError) → MatchOption (operation_of asked) (Unit {0}) (λ operation. after_refusal old operation e ≡ old) → Agrees old who asked (refuses old e)
  stays_agrees (call.Get key) e stays = record { set = refl; map_is = refl }
  stays_agrees (call.Part key offset count) e stays = record { set = refl; map_is = refl }
  stays_agrees (call.Info key) e stays = record { set = refl; map_is = refl }
  stays_agrees (call.Set key value flags) e stays = record { set = refl; map_is = refl }
  stays_agrees (call.Remove key) e stays = record { set = refl; map_is = refl }
  stays_agrees (call.Start key size flags) e stays = record { set = refl; map_is = refl }
  stays_agrees (call.Add value) e stays = record { set = add_set value e old.open_set; map_is = refl }
  stays_agrees call.Finish e stays = subst (λ (s : StoreState). Agrees old who call.Finish (refuses s e)) stays (finish_agrees e)
  stays_agrees call.Abort e stays = record { set = refl; map_is = refl }
  stays_agrees (call.IterOpen n prefix) e stays = record { set = refl; map_is = refl }
  stays_agrees (call.Next n) e stays = record { set = refl; map_is = refl }
  stays_agrees (call.IterClose n) e stays = record { set = refl; map_is = refl }
  stays_agrees call.Reset e stays = record { set = refl; map_is = refl }
  stays_agrees call.Mount e stays = record { set = refl; map_is = refl }

  stays_by : (asked : Call) (operation : Operation) (e : KvError) → operation_of asked ≡ Some operation → after_refusal old operation e ≡ old → Agrees old who asked (refuses old e)
  stays_by asked operation e asks stays =
      let about : (o : Option Operation) → Type 0 = λ o. MatchOption o (Unit {0}) (λ op. after_refusal old op e ≡ old) in
      stays_agrees asked e (subst about (sym asks) stays)

  only_finish : (asked : Call) → operation_of asked ≡ Some Finish → asked ≡ call.Finish
  only_finish (call.Get key) asks = absurd (cc)
  only_finish (call.Part key offset count) asks = absurd (cc)
  only_finish (call.Info key) asks = absurd (cc)
  only_finish (call.Set key value flags) asks = absurd (cc)
  only_finish (call.Remove key) asks = absurd (cc)
  only_finish (call.Start key size flags) asks = absurd (cc)
  only_finish (call.Add value) asks = absurd (cc)
  only_finish call.Finish asks = refl
  only_finish call.Abort asks = absurd (cc)
  only_finish (call.IterOpen n prefix) asks = absurd (cc)
  only_finish (call.Next n) asks = absurd (cc)
  only_finish (call.IterClose n) asks = absurd (cc)
  only_finish call.Reset asks = absurd (cc)
  only_finish call.Mount asks = absurd (cc)

  -- the state stands where a store is stopped, and where a read failed
  stopped_stays : (operation : Operation) → after_refusal old operation error.Stopped ≡ old
  stopped_stays (Get key) = refl
  stopped_stays (Part key offset count) = refl
  stopped_stays (Info key) = refl
  stopped_stays (Set key value flags) = refl
  stopped_stays (Remove key) = refl
  stopped_stays (RemoveStart key) = refl
  stopped_stays (Start key size flags) = refl
  stopped_stays (Add value) = refl
  stopped_stays Finish = refl
  stopped_stays Abort = refl
  stopped_stays (OpenIterator n prefix) = refl
  stopped_stays (Next n) = refl
  stopped_stays (CloseIterator n) = refl
  stopped_stays Reset = refl

  read_stays : (operation : Operation) → after_refusal old operation error.ReadFault ≡ old
  read_stays (Get key) = refl
  read_stays (Part key offset count) = refl
  read_stays (Info key) = refl
  read_stays (Set key value flags) = refl
  read_stays (Remove key) = refl
  read_stays (RemoveStart key) = refl
  read_stays (Start key size flags) = refl
  read_stays (Add value) = refl
  read_stays Finish = refl
  read_stays Abort = refl
  read_stays (OpenIterator n prefix) = refl
  read_stays (Next n) = refl
  read_stays (CloseIterator n) = refl
  read_stays Reset = refl

  refused_agrees : (asked : Call) (operation : Operation) (e : KvError) → operation_of asked ≡ Some operation → Agrees old who asked (refuses (after_refusal old operation e) e)
  refused_agrees asked (Get key) e asks = stays_by asked (Get key) e asks refl
  refused_agrees asked (Part key offset count) e asks = stays_by asked (Part key offset count) e asks refl
  refused_agrees asked (Info key) e asks = stays_by asked (Info key) e asks refl
  refused_agrees asked (Set key value flags) e asks = stays_by asked (Set key value flags) e asks refl
  refused_agrees asked (Remove key) e asks = stays_by asked (Remove key) e asks refl
  refused_agrees asked (RemoveStart key) e asks = stays_by asked (RemoveStart key) e asks refl
  refused_agrees asked (Start key size flags) e asks = stays_by asked (Start key size flags) e asks refl
  refused_agrees asked (Add value) e asks = stays_by asked (Add value) e asks refl
  refused_agrees asked Finish e asks = subst (λ (a : Call). Agrees old who a (refuses (after_refusal old Finish e) e)) (sym (only_finish asked asks)) (finish_agrees e)
  refused_agrees asked Abort e asks = stays_by asked Abort e asks refl
  refused_agrees asked (OpenIterator n prefix) e asks = stays_by asked (OpenIterator n prefix) e asks refl
  refused_agrees asked (Next n) e asks = stays_by asked (Next n) e asks refl
  refused_agrees asked (CloseIterator n) e asks = stays_by asked (CloseIterator n) e asks refl
  refused_agrees asked Reset e asks = stays_by asked Reset e asks refl

  -- ---- what is done

  insert_is : (removes : Bool) (m : FlaggedMap) (key : List ℕ) (stored : Stored) → removes ≡ false
      → map.insert m key stored ≡ (if removes then map.remove m key else map.insert m key stored)
  insert_is true m key stored not_it = absurd (true≢false not_it)
  insert_is false m key stored not_it = refl

  plain_is_no_remove : (flags : ℕ) → flags < 2 → flags == remove_flags ≡ false
  plain_is_no_remove flags plain = ne_eqb flags remove_flags (λ same. absurd (omega (arith, same, plain)))

  add_agrees : (value : List ℕ) (found : Option OpenSet) → old.open_set ≡ found
      → (option_map_or (λ (s : OpenSet). record old { open_set = Some (record s { bytes = s.bytes ++ value }) }) found old).open_set ≡ set_after found who (call.Add value) Done
  add_agrees value None is = is
  add_agrees value (Some set) is = refl

  add_map : (value : List ℕ) (found : Option OpenSet)
      → (option_map_or (λ (s : OpenSet). record old { open_set = Some (record s { bytes = s.bytes ++ value }) }) found old).primary ≡ old.primary
  add_map value None = refl
  add_map value (Some set) = refl

  abbrev ended : Option OpenSet → StoreState
  ended found = option_map_or (λ (s : OpenSet). record old { primary = finished_map old.primary s; rollback = old.rollback; open_set = None }) found old

  finish_set : (found : Option OpenSet) → old.open_set ≡ found → (ended found).open_set ≡ set_after found who call.Finish Done
  finish_set None is = is
  finish_set (Some set) is = refl

  finished_is : (set : OpenSet) (is_remove : Bool) (m : FlaggedMap) → is_remove ≡ false
      → (if is_remove then map.remove m set.key else map.insert m set.key (record { flags = set.flags; bytes = set.bytes }))
      ≡ map.insert m set.key (record { flags = set.flags; bytes = set.bytes })
  finished_is set true m not_it = absurd (true≢false not_it)
  finished_is set false m not_it = refl

  set_flags : (set : OpenSet) (is_remove : Bool) → is_remove ≡ false → MatchBool is_remove (set.prior ≡ None) (IsSet plain_starts old.rollback old.next_vector set) → set.flags < 2
  set_flags set true not_it valid = absurd (true≢false not_it)
  set_flags set false not_it valid = valid.began.0

  finish_done : (found : Option OpenSet) → IfSome found (IsActive plain_starts old.rollback old.next_vector) → IfSome found (λ (set : OpenSet). set.is_remove ≡ false)
      → (ended found).primary ≡ map_after old.primary (written found call.Finish Done)
  finish_done None valid none = refl
  finish_done (Some set) valid none =
      finished_is set set.is_remove old.primary none
      ∙ insert_is (set.flags == remove_flags) old.primary set.key (record { flags = set.flags; bytes = set.bytes }) (plain_is_no_remove set.flags (set_flags set set.is_remove none valid))

  next_agrees : (n : ℕ) (found : Option (List ℕ)) → Agrees old who (call.Next n) (advanced old who n found)
  next_agrees n None = record { set = refl; map_is = refl }
  next_agrees n (Some key) = record { set = refl; map_is = refl }

  module _ (constants : Constants) (plain : IsPlain old) (none : NoRemoveBegun old) where
    set_may : (key : List ℕ) (size flags : ℕ) → first_refusal (plain_checks constants old who (Start key size flags)) ≡ None → flags < 2
    set_may key size flags refused =
        let behind : _ = unrefused (not (is_plain_flags flags)) error.InvalidFlags _ (unrefused (not (is_key key)) error.InvalidKey _ refused).1 in
        ltb-true flags 2 (is_not (nat_lt flags 2) behind.0)

    effect_agrees : (asked : Call) → MatchOption (operation_of asked) (Unit {0}) (λ operation. first_refusal (plain_checks constants old who operation) ≡ None)
        → MatchOption (operation_of asked) (Unit {0}) (λ operation. (operation ≡ Reset → ⊥) → Agrees old who asked (plain_effect constants old who operation))
    effect_agrees (call.Get key) passed = λ other. record { set = refl; map_is = refl }
    effect_agrees (call.Part key offset count) passed = λ other. record { set = refl; map_is = refl }
    effect_agrees (call.Info key) passed = λ other. record { set = refl; map_is = refl }
    effect_agrees (call.Set key value flags) passed = λ other. record {
      set = refl;
      map_is = insert_is (flags.bits == remove_flags) old.primary key (record { flags = flags.bits; bytes = value })
          (plain_is_no_remove flags.bits (set_may key (length value) flags.bits passed));
    }
    effect_agrees (call.Remove key) passed = λ other. record { set = refl; map_is = refl }
    effect_agrees (call.Start key size flags) passed = λ other. record { set = refl; map_is = refl }
    effect_agrees (call.Add value) passed = λ other. record { set = add_agrees value old.open_set refl; map_is = add_map value old.open_set }
    effect_agrees call.Finish passed = λ other. record { set = finish_set old.open_set refl; map_is = finish_done old.open_set plain.within.open_set none }
    effect_agrees call.Abort passed = λ other. record { set = refl; map_is = refl }
    effect_agrees (call.IterOpen n prefix) passed = λ other. record { set = refl; map_is = refl }
    effect_agrees (call.Next n) passed = λ other. next_agrees n _
    effect_agrees (call.IterClose n) passed = λ other. record { set = refl; map_is = refl }
    effect_agrees call.Reset passed = λ other. absurd (other refl)
    effect_agrees call.Mount passed = tt

    answered : (asked : Call) (operation : Operation) (found : Option KvError) → operation_of asked ≡ Some operation → (operation ≡ Reset → ⊥)
        → first_refusal (plain_checks constants old who operation) ≡ found → Agrees old who asked (refused_or (plain_rules constants) old who operation found)
    answered asked operation None asks other passed =
        let about : (o : Option Operation) → Type 0 = λ o. MatchOption o (Unit {0}) (λ op. first_refusal (plain_checks constants old who op) ≡ None) in
        let gives : (o : Option Operation) → Type 0 = λ o. MatchOption o (Unit {0}) (λ op. (op ≡ Reset → ⊥) → Agrees old who asked (plain_effect constants old who op)) in
        let agrees : gives (operation_of asked) = effect_agrees asked (subst about (sym asks) passed) in
        let at : gives (Some operation) = subst gives asks agrees in
        at other
    answered asked operation (Some e) asks other refused = refused_agrees asked operation e asks

    either : (asked : Call) (b : Bool) (x y : Outcome) → Agrees old who asked x → Agrees old who asked y → Agrees old who asked (if b then x else y)
    either asked true x y first second = first
    either asked false x y first second = second

    step_agrees : (asked : Call) (operation : Operation) → operation_of asked ≡ Some operation → (operation ≡ Reset → ⊥) → Agrees old who asked (plain_step constants old who operation)
    step_agrees asked operation asks other = either asked (is_some old.doubt) _ _
        (stays_by asked operation error.Stopped asks (stopped_stays operation))
        (answered asked operation (first_refusal (plain_checks constants old who operation)) asks other refl)

    steps_agree : (asked : Call) (operation : Operation) (outcome : Outcome) → operation_of asked ≡ Some operation → (operation ≡ Reset → ⊥) → (outcome.reply ≡ Refused error.WriteFault → ⊥)
        → Steps (plain_rules constants) old who operation outcome → Agrees old who asked outcome
    steps_agree asked operation outcome asks other written (inl is) = subst (Agrees old who asked) (sym is) (step_agrees asked operation asks other)
    steps_agree asked operation outcome asks other written (inr (inl (runs, may, is))) =
        subst (Agrees old who asked) (sym is) (stays_by asked operation error.ReadFault asks (read_stays operation))
    steps_agree asked operation outcome asks other written (inr (inr (runs, may, is))) = absurd (written (ap (λ (o : Outcome). o.reply) is))

-- ---- no call of a history begins a remove

abbrev IsSetOnly : Option OpenSet → Type 0
IsSetOnly found = IfSome found (λ (set : OpenSet). set.is_remove ≡ false)

module _ (who : ℕ) where
  after_start : (found : Option OpenSet) (key : List ℕ) (size : ℕ) (flags : Flags) (reply : Reply) → IsSetOnly found → IsSetOnly (set_after found who (call.Start key size flags) reply)
  after_start found key size flags Done none = refl
  after_start found key size flags (Value bytes) none = none
  after_start found key size flags (Facts n bits) none = none
  after_start found key size flags (Found k) none = none
  after_start found key size flags End none = none
  after_start found key size flags (Refused e) none = none

  after_add : (found : Option OpenSet) (value : List ℕ) (reply : Reply) → IsSetOnly found → IsSetOnly (set_after found who (call.Add value) reply)
  after_add None value reply none = tt
  after_add (Some set) value Done none = none
  after_add (Some set) value (Value bytes) none = none
  after_add (Some set) value (Facts n bits) none = none
  after_add (Some set) value (Found k) none = none
  after_add (Some set) value End none = none
  after_add (Some set) value (Refused e) none = none

  after_refused_finish : (found : Option OpenSet) (e : KvError) → IsSetOnly found → IsSetOnly (set_after found who call.Finish (Refused e))
  after_refused_finish found error.NotFound none = none
  after_refused_finish found error.InvalidKey none = none
  after_refused_finish found error.InvalidFlags none = none
  after_refused_finish found error.InvalidSize none = tt
  after_refused_finish found error.WriteProtected none = none
  after_refused_finish found (error.MediaFull need room) none = none
  after_refused_finish found error.TooManyIterators none = none
  after_refused_finish found error.NoIterator none = none
  after_refused_finish found error.SetOpen none = none
  after_refused_finish found error.NoSet none = none
  after_refused_finish found (error.Busy owner) none = none
  after_refused_finish found error.Stopped none = none
  after_refused_finish found error.ReadFault none = none
  after_refused_finish found error.WriteFault none = none
  after_refused_finish found (error.Corrupt stored computed) none = none
  after_refused_finish found error.AuthFailed none = none
  after_refused_finish found error.RollbackFailed none = none
  after_refused_finish found error.IvSpent none = none
  after_refused_finish found error.Memory none = none

  after_finish : (found : Option OpenSet) (reply : Reply) → IsSetOnly found → IsSetOnly (set_after found who call.Finish reply)
  after_finish found Done none = tt
  after_finish found (Value bytes) none = none
  after_finish found (Facts n bits) none = none
  after_finish found (Found k) none = none
  after_finish found End none = none
  after_finish found (Refused e) none = after_refused_finish found e none

  -- of a call that ends the set where it is done
  after_abort : (found : Option OpenSet) (reply : Reply) → IsSetOnly found → IsSetOnly (set_after found who call.Abort reply)
  after_abort found Done none = tt
  after_abort found (Value bytes) none = none
  after_abort found (Facts n bits) none = none
  after_abort found (Found k) none = none
  after_abort found End none = none
  after_abort found (Refused e) none = none

  after_mount : (found : Option OpenSet) (reply : Reply) → IsSetOnly found → IsSetOnly (set_after found who call.Mount reply)
  after_mount found Done none = tt
  after_mount found (Value bytes) none = none
  after_mount found (Facts n bits) none = none
  after_mount found (Found k) none = none
  after_mount found End none = none
  after_mount found (Refused e) none = none

  after_call : (found : Option OpenSet) (asked : Call) (reply : Reply) → IsSetOnly found → IsSetOnly (set_after found who asked reply)
  after_call found (call.Get key) reply none = none
  after_call found (call.Part key offset count) reply none = none
  after_call found (call.Info key) reply none = none
  after_call found (call.Set key value flags) reply none = none
  after_call found (call.Remove key) reply none = none
  after_call found (call.Start key size flags) reply none = after_start found key size flags reply none
  after_call found (call.Add value) reply none = after_add found value reply none
  after_call found call.Finish reply none = after_finish found reply none
  after_call found call.Abort reply none = after_abort found reply none
  after_call found (call.IterOpen n prefix) reply none = none
  after_call found (call.Next n) reply none = none
  after_call found (call.IterClose n) reply none = none
  after_call found call.Reset reply none = none
  after_call found call.Mount reply none = after_mount found reply none

-- ---- whole histories

only_mount : (asked : Call) → operation_of asked ≡ None → asked ≡ call.Mount
only_mount (call.Get key) asks = absurd (cc)
only_mount (call.Part key offset count) asks = absurd (cc)
only_mount (call.Info key) asks = absurd (cc)
only_mount (call.Set key value flags) asks = absurd (cc)
only_mount (call.Remove key) asks = absurd (cc)
only_mount (call.Start key size flags) asks = absurd (cc)
only_mount (call.Add value) asks = absurd (cc)
only_mount call.Finish asks = absurd (cc)
only_mount call.Abort asks = absurd (cc)
only_mount (call.IterOpen n prefix) asks = absurd (cc)
only_mount (call.Next n) asks = absurd (cc)
only_mount (call.IterClose n) asks = absurd (cc)
only_mount call.Reset asks = absurd (cc)
only_mount call.Mount asks = refl

only_reset : (asked : Call) → operation_of asked ≡ Some Reset → asked ≡ call.Reset
only_reset (call.Get key) asks = absurd (cc)
only_reset (call.Part key offset count) asks = absurd (cc)
only_reset (call.Info key) asks = absurd (cc)
only_reset (call.Set key value flags) asks = absurd (cc)
only_reset (call.Remove key) asks = absurd (cc)
only_reset (call.Start key size flags) asks = absurd (cc)
only_reset (call.Add value) asks = absurd (cc)
only_reset call.Finish asks = absurd (cc)
only_reset call.Abort asks = absurd (cc)
only_reset (call.IterOpen n prefix) asks = absurd (cc)
only_reset (call.Next n) asks = absurd (cc)
only_reset (call.IterClose n) asks = absurd (cc)
only_reset call.Reset asks = refl
only_reset call.Mount asks = absurd (cc)

module _ (constants : Constants) where
  pub asked_agrees : (old new : StoreState) (entry : Entry) (asks : Option Operation) → operation_of entry.call ≡ asks → IsPlain old → NoRemoveBegun old → IsOrdinary entry
      → MatchOption asks ((entry.reply ≡ Done) × Mounts (plain_rules constants) old new)
      (λ operation. Steps (plain_rules constants) old entry.who operation (record { state = new; reply = entry.reply }))
      → Agrees old entry.who entry.call (record { state = new; reply = entry.reply })
  asked_agrees old new entry None asks plain none ordinary follows = absurd (ordinary.no_mount (only_mount entry.call asks))
  asked_agrees old new entry (Some operation) asks plain none ordinary follows =
      steps_agree old entry.who constants plain none entry.call operation (record { state = new; reply = entry.reply }) asks
      (λ reset. ordinary.no_reset (only_reset entry.call (asks ∙ ap (λ (o : Operation). Some o) reset))) ordinary.no_fault follows

  pub writes_agree : (old : StoreState) (entries : List Entry) (states : List StoreState) → IsPlain old → NoRemoveBegun old → All IsOrdinary entries
      → PassesThrough (plain_rules constants) old entries states → (last_state old states).primary ≡ map_after old.primary (writes old.open_set entries)
  writes_agree old [] [] plain none ordinary passes = refl
  writes_agree old [] (new ∷ states) plain none ordinary passes = absurd passes
  writes_agree old (entry ∷ entries) [] plain none ordinary passes = absurd passes
  writes_agree old (entry ∷ entries) (new ∷ states) plain none ordinary passes =
      let first = asked_agrees old new entry (operation_of entry.call) refl plain none (All-head IsOrdinary entry entries ordinary) passes.0 in
      let none_now : NoRemoveBegun new = subst IsSetOnly (sym first.set) (after_call entry.who old.open_set entry.call entry.reply none) in
      let later = writes_agree new entries states (follows_keeps_limits constants old new entry plain passes.0) none_now (All-tail IsOrdinary entry entries ordinary) passes.1 in
      later
      ∙ ap (λ (m : FlaggedMap). map_after m (writes new.open_set entries)) first.map_is
      ∙ ap (λ (set : Option OpenSet). map_after (map_after old.primary (written old.open_set entry.call entry.reply)) (writes set entries)) first.set
      ∙ sym (map_after-append old.primary (written old.open_set entry.call entry.reply) (writes (set_after old.open_set entry.who entry.call entry.reply) entries))

  pub records_go_on : (old new : StoreState) (records : List Write) (entries : List Entry) → IsPlain old → NoRemoveBegun old → All IsOrdinary entries
      → Runs (plain_rules constants) old entries new → old.primary ≡ map_of records → new.primary ≡ map_of (records ++ writes old.open_set entries)
  records_go_on old new records entries plain none ordinary (states, passes, is) map_is =
      ap (λ (s : StoreState). s.primary) is
      ∙ writes_agree old entries states plain none ordinary passes
      ∙ ap (λ (m : FlaggedMap). map_after m (writes old.open_set entries)) map_is
      ∙ sym (map_after-append map.empty records (writes old.open_set entries))
