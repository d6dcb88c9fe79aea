-- What a call does to the pass that makes it.
use Rattle.std.specs.Prelude.{◌≡◌, ℕ, ◌<◌, ◌≤◌, Bool, true, false, List, [], ◌∷◌, ◌++◌, length, Result, Ok, Err, Option, Some, None}
use Rattle.std.specs.Option.{ForSome, unwrap_or}
use mathlib.Core.List.{IsPrefix}
use Rattle.journal_core.specs.JournalState.{next_entry}
use Rattle.kv_model.specs.declared.call.Call.{Call}
use Rattle.kv_model.specs.declared.call.Entry.{Entry}
use Rattle.kv_model.specs.Constants.{Constants}
use Rattle.kv_model.specs.Opening.{Opening}
use Rattle.kv_model.specs.StoreState.{StoreState}
use Rattle.kv_model.specs.Rules.{Rules}
use Rattle.kv_model.specs.History.{Runs}
use Rattle.turn_lock.specs.Passes.{HasMissed}
use Rattle.turn_lock.specs.Totals.{once, times}
use Rattle.turn_lock.specs.Views.{ALL, marks_after}
use Rattle.turn_lock.specs.declared.view.View.{View}
use Rattle.shared_kv.specs.declared.fault.Answer.{Answer}
use Rattle.shared_kv.specs.declared.fault.Fault.{Fault}
use Rattle.shared_kv.specs.declared.fault.Fault.TheVariants.{Taken, JournalFull, Quit, Busy, Memory}
use Rattle.shared_kv.specs.Histories.{IsHistory, StandsFor}
use Rattle.shared_kv.specs.Attempts.{IsBusyIn}

-- What every turn keeps of a pass. It then has seen more of the history, or as much.
pub record GoesOn (old new : View) : Type 0 where
  pub who : new.who ≡ old.who
  pub opening : new.opening ≡ old.opening
  pub parts : new.parts ≡ old.parts
  pub seen : IsPrefix old.seen new.seen

-- the same, and the pass owns what it owned and has the marks that it had
pub record Waits (old new : View) : Type 0 where
  pub goes : GoesOn old new
  pub own : new.own ≡ old.own
  pub marks : new.marks ≡ old.marks

-- A call that was made: the history that the pass has now seen ends with the call and its reply, at a position that is
-- now the pass's own. Nobody has quit, and so the pass has no mark.
pub record Completes (old new : View) (call : Call) (answer : Answer) : Type 0 where
  pub goes : GoesOn old new
  pub earlier : List Entry
  pub begins : IsPrefix old.seen earlier
  pub last : new.seen ≡ earlier ++ next_entry earlier old.who call answer.reply ∷ []
  pub seq : answer.seq ≡ length new.seen
  pub own : new.own ≡ old.own ++ answer.seq ∷ []
  pub room : length old.own < old.parts
  pub nobody : new.quitter ≡ None
  pub unmarked : (who : ℕ) → times who old.marks ≡ 0
  pub marks : new.marks ≡ old.marks

-- the history that a pass has seen leads to a state in which a running store refuses the call, since this caller's set
-- is active
abbrev pub IsBusyAfter : (Constants → Rules) → View → Call → ℕ → Type 0
IsBusyAfter rules_by v call owner = ForSome v.opening.state (λ before.
    (state : StoreState) × Runs (rules_by v.opening.constants) before v.seen state × IsBusyIn (rules_by v.opening.constants) state v.who call owner)

-- Why a call was not made, by what the pass knows behind the turn. The faults exclude one another in this order.
abbrev pub FaultAfter : (Constants → Rules) → View → Call → Fault → Type 0
FaultAfter rules_by v call (Taken word) = ⊥
FaultAfter rules_by v call JournalFull = length v.own ≡ v.parts
FaultAfter rules_by v call (Quit by) = (length v.own < v.parts) × (v.quitter ≡ Some by)
FaultAfter rules_by v call (Busy owner position) = (length v.own < v.parts) × (v.quitter ≡ None)
    × (position ≡ length v.seen) × IsBusyAfter rules_by v call owner
FaultAfter rules_by v call Memory = (length v.own < v.parts) × (v.quitter ≡ None)

-- how a turn ended in which a call was to be made
abbrev pub Ends : (Constants → Rules) → View → View → Call → Result Answer Fault → Type 0
Ends rules_by old new call (Ok answer) = Completes old new call answer
Ends rules_by old new call (Err fault) = Waits old new × FaultAfter rules_by new call fault

-- a turn was had, and what the pass has seen in it is a legal history
pub record HadTurns (rules_by : Constants → Rules) (old new : View) : Type 0 where
  pub had : old.had < new.had
  pub history : IsHistory rules_by new.opening new.seen

-- A try: its one exchange found the turn taken, or it had a turn.
abbrev pub Tries : (Constants → Rules) → View → View → Call → Result Answer Fault → Type 0
Tries rules_by old new call (Ok answer) =
    (new.found ≡ old.found) × HadTurns rules_by old new × Completes old new call answer
Tries rules_by old new call (Err (Taken word)) = HasMissed old word new
Tries rules_by old new call (Err fault) =
    (new.found ≡ old.found) × HadTurns rules_by old new × Waits old new × FaultAfter rules_by new call fault

abbrev pub is_busy_fault : Fault → Bool
is_busy_fault (Busy owner position) = true
is_busy_fault fault = false

-- a call that waits is never answered Taken or Busy
abbrev pub IsWaited : {T : Type 0} → Result T Fault → Type 0
IsWaited (Ok x) = Unit {0}
IsWaited (Err (Taken word)) = ⊥
IsWaited (Err (Busy owner position)) = ⊥
IsWaited (Err fault) = Unit {0}

abbrev pub Calls : (Constants → Rules) → View → View → Call → Result Answer Fault → Type 0
Calls rules_by old new call result =
    HadTurns rules_by old new × Ends rules_by old new call result × IsWaited result

-- A caller quits: the history's first that quit is named now, and is this one where there was none. Then the pass has
-- its mark.
pub record Quits (rules_by : Constants → Rules) (old new : View) (by : ℕ) : Type 0 where
  pub goes : GoesOn old new
  pub turns : HadTurns rules_by old new
  pub own : new.own ≡ old.own
  pub first : new.quitter ≡ Some by
  pub named : Option ℕ
  pub answer : by ≡ unwrap_or named old.who
  pub marks : new.marks ≡ marks_after named (Some by) old.marks

-- ---- in a turn

-- what the end of a turn keeps of the exchanges and the turns that a pass had
pub record EndsOne (rules_by : Constants → Rules) (old new : View) : Type 0 where
  pub had : new.had ≡ old.had
  pub found : new.found ≡ old.found
  pub history : IsHistory rules_by new.opening new.seen

abbrev pub EndsTurn : (Constants → Rules) → View → View → Call → Result Answer Fault → Type 0
EndsTurn rules_by old new call result = EndsOne rules_by old new × Ends rules_by old new call result

pub record QuitsTurn (rules_by : Constants → Rules) (old new : View) (by : ℕ) : Type 0 where
  pub goes : GoesOn old new
  pub one : EndsOne rules_by old new
  pub own : new.own ≡ old.own
  pub first : new.quitter ≡ Some by
  pub answer : by ≡ unwrap_or old.quitter old.who
  pub marks : new.marks ≡ marks_after old.quitter (Some by) old.marks

-- an answer, without the call that comes back behind a fault
abbrev pub without_call : Result Answer (Fault × Call) → Result Answer Fault
without_call (Ok answer) = Ok answer
without_call (Err e) = Err e.0

-- ---- at the end

-- The store and its journal: the journal begins with what the pass has seen and leads from the opening to the store,
-- and of a pass that has all parts each position in it is its own, once.
pub record HasParts (rules_by : Constants → Rules) (v : View) (now : Opening) (entries : List Entry) : Type 0 where
  pub stands : StandsFor rules_by now entries v.opening
  pub seen : IsPrefix v.seen entries
  pub short : length entries ≤ ALL
  pub owned : v.parts ≡ ALL → (p : ℕ) → times p v.own ≡ once p (length entries)
