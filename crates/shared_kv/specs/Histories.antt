-- What the journal of a shared store is: one legal history from what the store was when it was handed in.
use Rattle.std.specs.Prelude.{◌≡◌, ◌≢◌, ℕ, ◌+◌, ◌-◌, ◌<◌, ◌≤◌, ◌^◌, Bool, true, false, min, List, [], ◌∷◌, Some, is_some, count_by}
use Rattle.std.specs.Option.{ForSome}
use Rattle.kv_model.specs.declared.error.KvError.TheVariants.{Busy}
use Rattle.kv_model.specs.declared.call.Reply.{Reply}
use Rattle.kv_model.specs.declared.call.Reply.TheVariants.{Refused}
use Rattle.kv_model.specs.declared.call.Entry.{Entry}
use Rattle.kv_model.specs.Constants.{Constants}
use Rattle.kv_model.specs.StoreState.{StoreState}
use Rattle.kv_model.specs.Operations.{Operation, operation_of}
use Rattle.kv_model.specs.Rules.{Rules}
use Rattle.kv_model.specs.Kv.{Kind, LeadsTo, answered, kind_of, FailedRead, FailedWrite, Wanted}
use Rattle.kv_model.specs.History.{AreNumbered, IsLegal, Runs}
use Rattle.kv_model.specs.Opening.{Opening}

abbrev pub is_failed_read : Kind → Bool
is_failed_read FailedRead = true
is_failed_read kind = false

abbrev pub is_failed_write : Kind → Bool
is_failed_write FailedWrite = true
is_failed_write kind = false

abbrev pub is_busy : Reply → Bool
is_busy (Refused (Busy owner)) = true
is_busy reply = false

-- how many calls a device failed to read, how many it failed to write, and how many met another caller's set
abbrev pub failed_reads : List Entry → ℕ
failed_reads entries = count_by (λ (e : Entry). is_failed_read (kind_of e.reply)) entries

abbrev pub failed_writes : List Entry → ℕ
failed_writes entries = count_by (λ (e : Entry). is_failed_write (kind_of e.reply)) entries

abbrev pub busy_replies : List Entry → ℕ
busy_replies entries = count_by (λ (e : Entry). is_busy e.reply) entries

-- a count of 64 bits after so many more; it stands still at its last value
abbrev pub counted_more : ℕ → ℕ → ℕ
counted_more before n = min (before + n) (2 ^ 64 - 1)

-- No reply is that another's set is active. Of a store that was handed in on sound devices none is a fault, and of one
-- on steady devices that tells its state none is a fault of a read.
pub record HasFewFaults (opening : Opening) (entries : List Entry) : Type 0 where
  pub busy : busy_replies entries ≡ 0
  pub sound : opening.sound ≡ true → (failed_reads entries ≡ 0) × (failed_writes entries ≡ 0)
  pub steady : opening.steady ≡ true → is_some opening.state ≡ true → failed_reads entries ≡ 0

-- Each fault in the journal was counted; a store that a write failed is stopped.
pub record IsCounted (opening now : Opening) (entries : List Entry) : Type 0 where
  pub reads : counted_more opening.read_faults (failed_reads entries) ≤ now.read_faults
  pub writes : counted_more opening.write_faults (failed_writes entries) ≤ now.write_faults
  pub stopped : 0 < failed_writes entries → ForSome now.state (λ state. is_some state.doubt ≡ true)

-- An entry follows from a state as its reply tells: by the rules, or by a device that failed. It is no mount, and there
-- was memory for it.
pub record IsLed (rules : Rules) (old : StoreState) (entry : Entry) (new : StoreState) : Type 0 where
  pub operation : Operation
  pub is : operation_of entry.call ≡ Some operation
  pub leads : LeadsTo rules old (answered entry.who operation entry.reply) new (kind_of entry.reply)
  pub granted : kind_of entry.reply ≢ Wanted

-- entries lead from one state to another as their replies tell
abbrev pub AreLed : Rules → StoreState → List Entry → StoreState → Type 0
AreLed rules old [] new = new ≡ old
AreLed rules old (entry ∷ entries) new = (mid : StoreState) × IsLed rules old entry mid × AreLed rules mid entries new

-- What a store is now, with this journal, stems from this opening: the journal leads from the opening's state to the
-- present one by the step of the opening's constants, where the state is told.
pub record StandsFor (rules_by : Constants → Rules) (now : Opening) (entries : List Entry) (opening : Opening) : Type 0 where
  pub constants : now.constants ≡ opening.constants
  pub labels : now.labels ≡ opening.labels
  pub tells : is_some now.state ≡ is_some opening.state
  pub numbered : AreNumbered [] entries
  pub runs : ForSome opening.state (λ before. ForSome now.state (λ after. Runs (rules_by opening.constants) before entries after))
  pub led : ForSome opening.state (λ before. ForSome now.state (λ after. AreLed (rules_by opening.constants) before entries after))
  pub faults : HasFewFaults opening entries
  pub counted : IsCounted opening now entries
  pub sound : opening.sound ≡ true → now.sound ≡ true
  pub steady : opening.steady ≡ true → failed_writes entries ≡ 0 → now.steady ≡ true

-- the journal is one legal history from this opening on
pub record IsHistory (rules_by : Constants → Rules) (opening : Opening) (entries : List Entry) : Type 0 where
  pub numbered : AreNumbered [] entries
  pub legal : ForSome opening.state (λ before. (after : StoreState) × IsLegal (rules_by opening.constants) before entries after)
  pub faults : HasFewFaults opening entries
