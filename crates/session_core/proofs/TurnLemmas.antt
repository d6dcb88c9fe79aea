-- What one entry of a history does to the set that is active and to the log, where no device fails.
use Rattle.std.proofs.Common.{◌≡◌, ◌≢◌, ℕ, ◌+◌, ◌≤◌, Bool, true, false, nat_lt, List, [], ◌∷◌, ◌++◌, length, Option, Some, None, IfSome, MatchBool, MatchOption, refl, sym, ◌∙◌, ap, subst, inl, inr}
use Rattle.std.specs.Prelude.{Contains, not, ◌&&◌, ◌||◌, ◌==◌, nat_le, is_some, if◌then◌else◌}
use Rattle.std.specs.Option.{option_map_or}
use Rattle.std.specs.FinMap as map
use mathlib.Core.Bool.{false≢true}
use Rattle.kv_model.specs.declared.call.Call.{Call}
use Rattle.kv_model.specs.declared.call.Call.TheVariants as call
use Rattle.kv_model.specs.declared.call.Reply.{Reply}
use Rattle.kv_model.specs.declared.call.Reply.TheVariants.{Done, Refused}
use Rattle.kv_model.specs.declared.error.KvError.{KvError}
use Rattle.kv_model.specs.declared.error.KvError.TheVariants as error
use Rattle.kv_model.specs.declared.limits.TheConstants.{MAX_VALUE}
use Rattle.kv_model.specs.Checks.{first_refusal}
use Rattle.kv_model.specs.Constants.{Constants}
use Rattle.kv_model.specs.Flags.{is_plain_flags}
use Rattle.kv_model.specs.Keys.{is_key}
use Rattle.kv_model.specs.Kv.{UnlessFailedWrite, kind_of}
use Rattle.kv_model.specs.LogStep.{IsCollected, LogFollows, appended, collects, removal}
use Rattle.kv_model.specs.NextKey.{next_key}
use Rattle.kv_model.specs.Opening.{Log}
use Rattle.kv_model.specs.Operations.{Operation, Get, Part, Info, Set, Remove, Start, Add, Finish, Abort, OpenIterator, Next, CloseIterator, Reset, operation_of}
use Rattle.kv_model.specs.PlainStep.{finished_map, plain_checks, plain_effect, plain_rules, plain_step}
use Rattle.kv_model.specs.Rows.{advanced, opened, owns_set, position_of, set_owner, with_more}
use Rattle.kv_model.specs.Rules.{Mounts, Outcome, Steps, after_refusal, cuts, mounted, refused_or, refuses}
use Rattle.kv_model.specs.StoreState.{Doubt, Maps, OpenSet, StoreState, begun_set, maps_of}
use Rattle.kv_model.specs.Write.{Write}
use Rattle.kv_model.specs.Writes.{set_after, written}
use Rattle.kv_model.proofs.LimitLemmas.{at_most, is_not, unrefused}
use Rattle.session_core.specs.Growing.{is_done, is_finish, is_reset, is_start}
use Rattle.session_core.specs.Power.{IsOrdinary}

-- what an entry shows: the sets that are active before and after, its records, and whether it is a start, a finish or a
-- reset that was done
pub record Move : Type 0 where
  pub set : Option OpenSet
  pub after : Option OpenSet
  pub records : List Write
  pub starts : ℕ
  pub finishes : ℕ
  pub resets : ℕ

abbrev pub one_if : Bool → ℕ
one_if b = if b then 1 else 0

abbrev pub move : Option OpenSet → ℕ → Call → Reply → Move
move set who asked reply = record {
  set = set;
  after = set_after set who asked reply;
  records = written set asked reply;
  starts = one_if (is_start asked && is_done reply);
  finishes = one_if (is_finish asked && is_done reply);
  resets = one_if (is_reset asked && is_done reply);
}

abbrev pub of_set : OpenSet → Write
of_set s = record { flags = s.flags; key = s.key; value = s.bytes }

-- what it does
pub data Turn (constants : Constants) (m : Move) (log later : Log) : Type 0 where
  -- nothing
  Stays : m.after ≡ m.set → m.records ≡ [] → m.starts ≡ 0 → m.finishes ≡ 0 → later ≡ log → Turn constants m log later
  -- a set gets bytes
  Feeds : (s : OpenSet) (value : List ℕ) (clean : Bool) → m.set ≡ Some s → m.after ≡ Some (record s { bytes = s.bytes ++ value }) → m.records ≡ []
      → m.starts ≡ 0 → m.finishes ≡ 0 → later ≡ record log { is_clean = clean } → Turn constants m log later
  -- no set is active any more, and none was finished
  Drops : m.after ≡ None → m.records ≡ [] → m.starts ≡ 0 → m.finishes ≡ 0 → later ≡ log → Turn constants m log later
  -- a record is written at once
  Puts : (r : Write) → m.set ≡ None → m.after ≡ None → m.records ≡ r ∷ [] → m.starts ≡ 0 → m.finishes ≡ 0
      → (collects constants log r.key (length r.value) ≡ false → later ≡ appended log r) → Turn constants m log later
  -- a set is begun
  Begins : (s : OpenSet) → m.set ≡ None → m.after ≡ Some s → s.is_remove ≡ false → m.records ≡ [] → m.starts ≡ 1 → m.finishes ≡ 0
      → (collects constants log s.key s.size ≡ false → later ≡ log) → Turn constants m log later
  -- it is finished
  Ends : (s : OpenSet) → m.set ≡ Some s → m.after ≡ None → s.size ≤ length s.bytes → m.records ≡ of_set s ∷ [] → m.starts ≡ 0 → m.finishes ≡ 1
      → (s.is_remove ≡ false → later ≡ appended log (of_set s)) → Turn constants m log later
  -- all is forgotten
  Resets : m.resets ≡ 1 → m.after ≡ m.set → m.starts ≡ 0 → m.finishes ≡ 0 → Turn constants m log later

at_false : (A B : Type 0) (b : Bool) → MatchBool b A B → b ≡ false → B
at_false A B true given is = absurd (false≢true (sym is))
at_false A B false given is = given

none_is : {X : Type 0} (o : Option X) → is_some o ≡ false → o ≡ None
none_is None is = refl
none_is (Some x) is = absurd (false≢true (sym is))

-- a refusal that is no failed read, no failed write and no record that doesn't match leaves the log
unfailed : (constants : Constants) (old : StoreState) (log later : Log) (op : Operation) (e : KvError) → IsOrdinary (Refused e) → (Refused e ≢ Refused error.WriteFault)
    → UnlessFailedWrite (kind_of (Refused e)) (LogFollows constants old log later op (Refused e)) → later ≡ log
unfailed constants old log later op error.ReadFault ordinary other given = absurd (ordinary.no_read_fault refl)
unfailed constants old log later op error.WriteFault ordinary other given = absurd (other refl)
unfailed constants old log later op (error.Corrupt stored computed) ordinary other given = absurd (ordinary.no_mismatch stored computed refl)
unfailed constants old log later op e ordinary other given = given

module _ (constants : Constants) (old : StoreState) (log later : Log) (who : ℕ) where
  -- the set that an outcome leaves is that which the entry shows, and this is what the entry does
  pub record Turned (asked : Call) (outcome : Outcome) : Type 0 where
    pub set : outcome.state.open_set ≡ set_after old.open_set who asked outcome.reply
    pub turn : Turn constants (move old.open_set who asked outcome.reply) log later

  -- ---- refusals

  add_same : (value : List ℕ) (e : KvError) (found : Option OpenSet) → set_after found who (call.Add value) (Refused e) ≡ found
  add_same value e None = refl
  add_same value e (Some set) = refl

  finish_none : (e : KvError) (found : Option OpenSet) → written found call.Finish (Refused e) ≡ []
  finish_none e None = refl
  finish_none e (Some set) = refl

  finish_stays : (e : KvError) → after_refusal old Finish e ≡ old → set_after old.open_set who call.Finish (Refused e) ≡ old.open_set → later ≡ log
      → Turned call.Finish (refuses (after_refusal old Finish e) e)
  finish_stays e state set stands = record {
    set = ap (λ (s : StoreState). s.open_set) state ∙ sym set;
    turn = Stays set (finish_none e old.open_set) refl refl stands;
  }

  finish_refused : (e : KvError) → later ≡ log → Turned call.Finish (refuses (after_refusal old Finish e) e)
  finish_refused error.NotFound stands = finish_stays error.NotFound refl refl stands
  finish_refused error.InvalidKey stands = finish_stays error.InvalidKey refl refl stands
  finish_refused error.InvalidFlags stands = finish_stays error.InvalidFlags refl refl stands
  finish_refused error.InvalidSize stands = record { set = refl; turn = Drops refl (finish_none error.InvalidSize old.open_set) refl refl stands }
  finish_refused error.WriteProtected stands = finish_stays error.WriteProtected refl refl stands
  finish_refused (error.MediaFull need room) stands = finish_stays (error.MediaFull need room) refl refl stands
  finish_refused error.TooManyIterators stands = finish_stays error.TooManyIterators refl refl stands
  finish_refused error.NoIterator stands = finish_stays error.NoIterator refl refl stands
  finish_refused error.SetOpen stands = finish_stays error.SetOpen refl refl stands
  finish_refused error.NoSet stands = finish_stays error.NoSet refl refl stands
  finish_refused (error.Busy owner) stands = finish_stays (error.Busy owner) refl refl stands
  finish_refused error.Stopped stands = finish_stays error.Stopped refl refl stands
  finish_refused error.ReadFault stands = finish_stays error.ReadFault refl refl stands
  finish_refused error.WriteFault stands = finish_stays error.WriteFault refl refl stands
  finish_refused (error.Corrupt stored computed) stands = finish_stays (error.Corrupt stored computed) refl refl stands
  finish_refused error.AuthFailed stands = finish_stays error.AuthFailed refl refl stands
  finish_refused error.RollbackFailed stands = finish_stays error.RollbackFailed refl refl stands
  finish_refused error.IvSpent stands = finish_stays error.IvSpent refl refl stands
  finish_refused error.Memory stands = finish_stays error.Memory refl refl stands

  abbrev WhenRefused : Call → KvError → Type 0
  WhenRefused asked e = MatchOption (operation_of asked) (Unit {0}) (λ (op : Operation). later ≡ log → Turned asked (refuses (after_refusal old op e) e))

  refused : (asked : Call) (e : KvError) → WhenRefused asked e
  refused (call.Get key) e = λ stands. record { set = refl; turn = Stays refl refl refl refl stands }
  refused (call.Part key offset count) e = λ stands. record { set = refl; turn = Stays refl refl refl refl stands }
  refused (call.Info key) e = λ stands. record { set = refl; turn = Stays refl refl refl refl stands }
  refused (call.Set key value flags) e = λ stands. record { set = refl; turn = Stays refl refl refl refl stands }
  refused (call.Remove key) e = λ stands. record { set = refl; turn = Stays refl refl refl refl stands }
  refused (call.Start key size flags) e = λ stands. record { set = refl; turn = Stays refl refl refl refl stands }
  refused (call.Add value) e = λ stands. record {
    set = sym (add_same value e old.open_set);
    turn = Stays (add_same value e old.open_set) refl refl refl stands;
  }
  refused call.Finish e = finish_refused e
  refused call.Abort e = λ stands. record { set = refl; turn = Stays refl refl refl refl stands }
  refused (call.IterOpen n prefix) e = λ stands. record { set = refl; turn = Stays refl refl refl refl stands }
  refused (call.Next n) e = λ stands. record { set = refl; turn = Stays refl refl refl refl stands }
  refused (call.IterClose n) e = λ stands. record { set = refl; turn = Stays refl refl refl refl stands }
  refused call.Reset e = λ stands. record { set = refl; turn = Stays refl refl refl refl stands }
  refused call.Mount e = tt

  -- ---- what is done

  set_passed : (key : List ℕ) (size flags : ℕ) → first_refusal (plain_checks constants old who (Start key size flags)) ≡ None → old.open_set ≡ None
  set_passed key size flags passed =
      let keyed = (unrefused (not (is_key key)) error.InvalidKey _ passed).1 in
      let flagged = (unrefused (not (is_plain_flags flags)) error.InvalidFlags _ keyed).1 in
      let sized = (unrefused (nat_lt MAX_VALUE size) error.InvalidSize _ flagged).1 in
      let owned = (unrefused (owns_set old who) error.SetOpen _ sized).1 in
      none_is old.open_set (unrefused (is_some old.open_set) (error.Busy (set_owner old who)) _ owned).0

  remove_passed : (key : List ℕ) → first_refusal (plain_checks constants old who (Remove key)) ≡ None → old.open_set ≡ None
  remove_passed key passed =
      let keyed = (unrefused (not (is_key key)) error.InvalidKey _ passed).1 in
      let owned = (unrefused (owns_set old who) error.SetOpen _ keyed).1 in
      none_is old.open_set (unrefused (is_some old.open_set) (error.Busy (set_owner old who)) _ owned).0

  some_owned : (found : Option OpenSet) → option_map_or (λ (s : OpenSet). s.owner == who) found false ≡ true → is_some found ≡ true
  some_owned None is = is
  some_owned (Some s) is = refl

  add_passed : (value : List ℕ) → first_refusal (plain_checks constants old who (Add value)) ≡ None → is_some old.open_set ≡ true
  add_passed value passed = some_owned old.open_set (is_not (owns_set old who) (unrefused (not (owns_set old who)) error.NoSet _ passed).0)

  abbrev wanted : Option OpenSet → ℕ
  wanted found = option_map_or (λ (s : OpenSet). s.size) found 0

  abbrev fed : Option OpenSet → ℕ
  fed found = option_map_or (λ (s : OpenSet). length s.bytes) found 0

  finish_passed : first_refusal (plain_checks constants old who Finish) ≡ None → (is_some old.open_set ≡ true) × (wanted old.open_set ≤ fed old.open_set)
  finish_passed passed =
      let owned = unrefused (not (owns_set old who)) error.NoSet _ passed in
      let whole = (unrefused (nat_lt (fed old.open_set) (wanted old.open_set)) error.InvalidSize _ owned.1).0 in
      (some_owned old.open_set (is_not (owns_set old who) owned.0), at_most (fed old.open_set) (wanted old.open_set) whole)

  added : (value : List ℕ) (found : Option OpenSet) → is_some found ≡ true → (clean : OpenSet → Bool) → IfSome found (λ (s : OpenSet). later ≡ record log { is_clean = clean s })
      → ((option_map_or (λ (s : OpenSet). opened old who (with_more old who value s)) found old).open_set ≡ set_after found who (call.Add value) Done)
      × Turn constants (move found who (call.Add value) Done) log later
  added value None some clean is = absurd (false≢true some)
  added value (Some s) some clean is = (refl, Feeds s value (clean s) refl refl refl refl refl is)

  ended : (found : Option OpenSet) → is_some found ≡ true → wanted found ≤ fed found
      → IfSome found (λ (s : OpenSet). s.is_remove ≡ false → later ≡ appended log (of_set s))
      → ((option_map_or (λ (s : OpenSet). record old { primary = finished_map old.primary s; rollback = old.rollback; open_set = None }) found old).open_set ≡ set_after found who call.Finish Done)
      × Turn constants (move found who call.Finish Done) log later
  ended None some whole is = absurd (false≢true some)
  ended (Some s) some whole is = (refl, Ends s refl refl whole refl refl refl is)

  next_turned : (n : ℕ) (found : Option (List ℕ)) → later ≡ log → Turned (call.Next n) (advanced old who n found)
  next_turned n None stands = record { set = refl; turn = Stays refl refl refl refl stands }
  next_turned n (Some key) stands = record { set = refl; turn = Stays refl refl refl refl stands }

  next_stands : (n : ℕ) (found : Option (List ℕ))
      → UnlessFailedWrite (kind_of (advanced old who n found).reply) (LogFollows constants old log later (Next n) (advanced old who n found).reply) → later ≡ log
  next_stands n None given = given
  next_stands n (Some key) given = given

  abbrev Removal : OpenSet → Type 0
  Removal s = MatchBool (collects constants log s.key 0) (IsCollected constants.hash_bits (map.remove old.primary s.key) [] log later) (later ≡ appended log (removal s.key))

  finish_log : (found : Option OpenSet) → IfSome found (λ (s : OpenSet). MatchBool s.is_remove (Removal s) (later ≡ appended log (of_set s)))
      → IfSome found (λ (s : OpenSet). s.is_remove ≡ false → later ≡ appended log (of_set s))
  finish_log None given = tt
  finish_log (Some s) given = at_false (Removal s) (later ≡ appended log (of_set s)) s.is_remove given

  abbrev Given : Operation → Outcome → Type 0
  Given op outcome = UnlessFailedWrite (kind_of outcome.reply) (LogFollows constants old log later op outcome.reply)

  abbrev WhenDone : Call → Type 0
  WhenDone asked = MatchOption (operation_of asked) (Unit {0}) (λ (op : Operation). first_refusal (plain_checks constants old who op) ≡ None
      → Given op (plain_effect constants old who op) → Turned asked (plain_effect constants old who op))

  done : (asked : Call) → WhenDone asked
  done (call.Get key) = λ passed stands. record { set = refl; turn = Stays refl refl refl refl stands }
  done (call.Part key offset count) = λ passed stands. record { set = refl; turn = Stays refl refl refl refl stands }
  done (call.Info key) = λ passed stands. record { set = refl; turn = Stays refl refl refl refl stands }
  done (call.Set key value flags) = λ passed given.
      let none : old.open_set ≡ None = set_passed key (length value) flags.bits passed in
      let r : Write = record { flags = flags.bits; key = key; value = value } in
      record {
        set = refl;
        turn = Puts r none none refl refl refl
            (at_false (IsCollected constants.hash_bits old.primary (r ∷ []) log later) (later ≡ appended log r) (collects constants log key (length value)) given);
      }
  done (call.Remove key) = λ passed given.
      let none : old.open_set ≡ None = remove_passed key passed in
      record {
        set = refl;
        turn = Puts (removal key) none none refl refl refl
            (at_false (IsCollected constants.hash_bits (map.remove old.primary key) [] log later) (later ≡ appended log (removal key)) (collects constants log key 0) given);
      }
  done (call.Start key size flags) = λ passed given.
      let none : old.open_set ≡ None = set_passed key size flags.bits passed in
      record {
        set = refl;
        turn = Begins (begun_set who key flags.bits size None) none refl refl refl refl refl
            (at_false (IsCollected constants.hash_bits old.primary [] log later) (later ≡ log) (collects constants log key size) given);
      }
  done (call.Add value) = λ passed given.
      let clean : OpenSet → Bool = λ s. log.is_clean && (nat_le (length s.bytes + length value) 0 || nat_lt (length s.key + (length s.bytes + length value)) constants.prog) in
      let both = added value old.open_set (add_passed value passed) clean given in
      record { set = both.0; turn = both.1 }
  done call.Finish = λ passed given.
      let whole = finish_passed passed in
      let both = ended old.open_set whole.0 whole.1 (finish_log old.open_set given) in
      record { set = both.0; turn = both.1 }
  done call.Abort = λ passed stands. record { set = refl; turn = Drops refl refl refl refl stands }
  done (call.IterOpen n prefix) = λ passed stands. record { set = refl; turn = Stays refl refl refl refl stands }
  done (call.Next n) = λ passed given.
      let found : Option (List ℕ) = next_key constants.hash_bits old.primary (position_of old who n) in
      next_turned n found (next_stands n found given)
  done (call.IterClose n) = λ passed stands. record { set = refl; turn = Stays refl refl refl refl stands }
  done call.Reset = λ passed given. record { set = refl; turn = Resets refl refl refl refl }
  done call.Mount = tt

  -- ---- one entry

  abbrev Goal : Call → Operation → Outcome → Type 0
  Goal asked op outcome = IsOrdinary outcome.reply → (outcome.reply ≢ Refused error.WriteFault) → Given op outcome → Turned asked outcome

  by_found : (asked : Call) (op : Operation) → operation_of asked ≡ Some op → (found : Option KvError) → first_refusal (plain_checks constants old who op) ≡ found
      → Goal asked op (refused_or (plain_rules constants) old who op found)
  by_found asked op asks None passed = λ ordinary other given.
      let about : (o : Option Operation) → Type 0 = λ o. MatchOption o (Unit {0}) (λ (op : Operation). first_refusal (plain_checks constants old who op) ≡ None
      → Given op (plain_effect constants old who op) → Turned asked (plain_effect constants old who op)) in
      let here : about (Some op) = subst about asks (done asked) in
      here passed given
  by_found asked op asks (Some e) passed = λ ordinary other given.
      let about : (o : Option Operation) → Type 0 = λ o. MatchOption o (Unit {0}) (λ (op : Operation). later ≡ log → Turned asked (refuses (after_refusal old op e) e)) in
      let here : about (Some op) = subst about asks (refused asked e) in
      here (unfailed constants old log later op e ordinary other given)

  by_running : (asked : Call) (op : Operation) → operation_of asked ≡ Some op → (stopped : Bool) → stopped ≡ false
      → Goal asked op (if stopped then refuses old error.Stopped else refused_or (plain_rules constants) old who op (first_refusal (plain_checks constants old who op)))
  by_running asked op asks true is = absurd (false≢true (sym is))
  by_running asked op asks false is = by_found asked op asks (first_refusal (plain_checks constants old who op)) refl

  module _ (running : is_some old.doubt ≡ false) (asked : Call) (outcome : Outcome) (ordinary : IsOrdinary outcome.reply) (no_write : outcome.reply ≢ Refused error.WriteFault) where
    -- a call, which is answered by the rules since no device fails
    ruled : (op : Operation) → Steps (plain_rules constants) old who op outcome → outcome ≡ plain_step constants old who op
    ruled op (inl is) = is
    ruled op (inr (inl (runs, may, is))) = absurd (ordinary.no_read_fault (ap (λ (o : Outcome). o.reply) is))
    ruled op (inr (inr (runs, may, is))) = absurd (no_write (ap (λ (o : Outcome). o.reply) is))

    turned_call : (op : Operation) → operation_of asked ≡ Some op → Steps (plain_rules constants) old who op outcome → Given op outcome → Turned asked outcome
    turned_call op asks steps given =
        subst (Goal asked op) (sym (ruled op steps)) (by_running asked op asks (is_some old.doubt) running) ordinary no_write given

  mounted_set : (new : StoreState) (found : Option Doubt) → old.doubt ≡ found → is_some found ≡ false
      → MatchOption found (new ≡ mounted old (maps_of old))
      (λ (d : Doubt). (maps : Maps) × Contains (cuts (plain_rules constants) old d.who d.operation) maps × (new ≡ mounted old maps)) → new.open_set ≡ None
  mounted_set new None is none mounts = ap (λ (s : StoreState). s.open_set) mounts
  mounted_set new (Some d) is none mounts = absurd (false≢true (sym none))

  turned_mount : (new : StoreState) (reply : Reply) → is_some old.doubt ≡ false → reply ≡ Done → Mounts (plain_rules constants) old new → later ≡ log
      → Turned call.Mount (record { state = new; reply = reply })
  turned_mount new reply running is mounts stands =
      subst (λ (r : Reply). Turned call.Mount (record { state = new; reply = r })) (sym is)
      (record { set = mounted_set new old.doubt refl running mounts; turn = Drops refl refl refl refl stands })

  -- an entry, which no device made to fail
  pub turned : is_some old.doubt ≡ false → (new : StoreState) (reply : Reply) → IsOrdinary reply → (reply ≢ Refused error.WriteFault) → (asked : Call)
      → MatchOption (operation_of asked) ((reply ≡ Done) × Mounts (plain_rules constants) old new)
      (λ (op : Operation). Steps (plain_rules constants) old who op (record { state = new; reply = reply }))
      → MatchOption (operation_of asked) (is_some old.doubt ≡ false → later ≡ log) (λ (op : Operation). Given op (record { state = new; reply = reply }))
      → Turned asked (record { state = new; reply = reply })
  turned running new reply ordinary no_write (call.Get key) = turned_call running (call.Get key) (record { state = new; reply = reply }) ordinary no_write (Get key) refl
  turned running new reply ordinary no_write (call.Part key offset count) = turned_call running (call.Part key offset count) (record { state = new; reply = reply }) ordinary no_write (Part key offset count) refl
  turned running new reply ordinary no_write (call.Info key) = turned_call running (call.Info key) (record { state = new; reply = reply }) ordinary no_write (Info key) refl
  turned running new reply ordinary no_write (call.Set key value flags) = turned_call running (call.Set key value flags) (record { state = new; reply = reply }) ordinary no_write (Set key value flags.bits) refl
  turned running new reply ordinary no_write (call.Remove key) = turned_call running (call.Remove key) (record { state = new; reply = reply }) ordinary no_write (Remove key) refl
  turned running new reply ordinary no_write (call.Start key size flags) = turned_call running (call.Start key size flags) (record { state = new; reply = reply }) ordinary no_write (Start key size flags.bits) refl
  turned running new reply ordinary no_write (call.Add value) = turned_call running (call.Add value) (record { state = new; reply = reply }) ordinary no_write (Add value) refl
  turned running new reply ordinary no_write call.Finish = turned_call running call.Finish (record { state = new; reply = reply }) ordinary no_write Finish refl
  turned running new reply ordinary no_write call.Abort = turned_call running call.Abort (record { state = new; reply = reply }) ordinary no_write Abort refl
  turned running new reply ordinary no_write (call.IterOpen n prefix) = turned_call running (call.IterOpen n prefix) (record { state = new; reply = reply }) ordinary no_write (OpenIterator n prefix) refl
  turned running new reply ordinary no_write (call.Next n) = turned_call running (call.Next n) (record { state = new; reply = reply }) ordinary no_write (Next n) refl
  turned running new reply ordinary no_write (call.IterClose n) = turned_call running (call.IterClose n) (record { state = new; reply = reply }) ordinary no_write (CloseIterator n) refl
  turned running new reply ordinary no_write call.Reset = turned_call running call.Reset (record { state = new; reply = reply }) ordinary no_write Reset refl
  turned running new reply ordinary no_write call.Mount = λ mounts stands. turned_mount new reply running mounts.0 mounts.1 (stands running)
