-- What a call does in its turn.
use Rattle.std.specs.Prelude.{◌≡◌, ℕ, false, List, [], ◌∷◌, ◌++◌, length, None, Some, MatchOption}
use Rattle.std.specs.Option.{ForSome}
use Rattle.journal_core.specs.JournalState.{next_entry}
use Rattle.kv_model.specs.declared.error.KvError.TheVariants as error
use Rattle.kv_model.specs.declared.call.Call.{Call}
use Rattle.kv_model.specs.declared.call.Reply.TheVariants.{Refused}
use Rattle.kv_model.specs.declared.call.Entry.{Entry}
use Rattle.kv_model.specs.Constants.{Constants}
use Rattle.kv_model.specs.Opening.{Opening}
use Rattle.kv_model.specs.StoreState.{StoreState}
use Rattle.kv_model.specs.Operations.{Operation, operation_of}
use Rattle.kv_model.specs.Rules.{Rules, step}
use Rattle.turn_lock.specs.Books.{Book}
use Rattle.shared_kv.specs.declared.fault.Answer.{Answer}
use Rattle.shared_kv.specs.declared.fault.Fault.{Fault}
use Rattle.shared_kv.specs.declared.fault.Fault.TheVariants.{Taken, JournalFull, Quit, Busy, Memory}
use Rattle.shared_kv.specs.Histories.{is_busy}

-- a running store refuses the call since this caller's incremental set is active
abbrev pub IsBusyIn : Rules → StoreState → ℕ → Call → ℕ → Type 0
IsBusyIn rules state who call owner = (state.doubt ≡ None) × MatchOption (operation_of call) ⊥
    (λ (operation : Operation). (step rules state who operation).reply ≡ Refused (error.Busy owner))

-- the same of a store, where it tells its state
abbrev pub IsBusyFor : (Constants → Rules) → Opening → ℕ → Call → ℕ → Type 0
IsBusyFor rules_by now who call owner = ForSome now.state (λ state. IsBusyIn (rules_by now.constants) state who call owner)

-- the journal has one entry more, of this call and its reply, at the position that is answered
pub record IsNoted (book : Book) (who : ℕ) (call : Call) (answer : Answer) (entries : List Entry) : Type 0 where
  pub nobody : book.quitter ≡ None
  pub next : entries ≡ book.entries ++ next_entry book.entries who call answer.reply ∷ []
  pub seq : answer.seq ≡ length entries
  pub not_busy : is_busy answer.reply ≡ false

-- why a call was not made in its turn
abbrev pub FaultsInTurn : (Constants → Rules) → Book → ℕ → Call → Fault → Type 0
FaultsInTurn rules_by book who call (Taken word) = ⊥
FaultsInTurn rules_by book who call JournalFull = ⊥
FaultsInTurn rules_by book who call (Quit by) = book.quitter ≡ Some by
FaultsInTurn rules_by book who call (Busy owner position) =
    (book.quitter ≡ None) × (position ≡ length book.entries) × IsBusyFor rules_by book.opening who call owner
FaultsInTurn rules_by book who call Memory = book.quitter ≡ None
