-- What contracts see of a store that tells nothing: two counts of faults.
use Rattle.std.specs.Prelude.{◌≡◌, ℕ, ◌≤◌, Bool, true, false, [], None, Some}
use Rattle.std.specs.Option.{is_some}
use mathlib.Core.Bool.{false≢true}
use Rattle.kv_model.specs.declared.call.Reply.{Reply}
use Rattle.kv_model.specs.Opening.{Opening}
use Rattle.kv_model.specs.PlainStep.{plain_rules}
use Rattle.kv_model.specs.Kv.{Clock, Crash, IsCause, IsLawful, Kind, KvState, Ruled, FailedRead, FailedWrite, Mismatched, Wanted}

abbrev pub silent_opening : ℕ → ℕ → Opening
silent_opening read_faults write_faults = record {
  constants = record { hash_bits = 0; prog = 0; room = 0; secure = None };
  state = None;
  log = None;
  read_faults = read_faults;
  write_faults = write_faults;
  steady = false;
  sound = false;
  labels = [];
}

-- a clock that tells nothing
abbrev pub stopped_clock : Clock
stopped_clock = record { moment = 0; left_since = λ t map. ⊥ }

-- a store that tells no moments, and of its images of now only what is true of all
abbrev pub silent_crash : Crash
silent_crash = record { tells_moments = false; primary = stopped_clock; rollback = stopped_clock; stands = λ maps. Unit {0} }

abbrev pub silent_state : ℕ → ℕ → KvState
silent_state read_faults write_faults = record { known = silent_opening read_faults write_faults; crash = silent_crash }

-- how a call may end that reads, writes or takes memory
abbrev pub may_end_so : Bool → Bool → Bool → Kind → Bool
may_end_so reads writes takes_memory Ruled = true
may_end_so reads writes takes_memory FailedRead = reads
may_end_so reads writes takes_memory FailedWrite = writes
may_end_so reads writes takes_memory Mismatched = reads
may_end_so reads writes takes_memory Wanted = takes_memory

-- what a reply leaves of the two counts: none falls, and a fault is counted
pub record Counts (old_reads old_writes new_reads new_writes : ℕ) (reply : Reply) : Type 0 where
  pub reads : old_reads ≤ new_reads
  pub writes : old_writes ≤ new_writes
  pub cause : IsCause (silent_opening old_reads old_writes) (silent_opening new_reads new_writes) reply

none_is_told : {X : Type 0} {P : Type 0} (x : X) → None ≡ Some x → P
none_is_told x is = absurd (false≢true (λ i. is_some (is i)))

pub silent_is_lawful : (read_faults write_faults : ℕ) → IsLawful plain_rules (silent_state read_faults write_faults)
silent_is_lawful read_faults write_faults = record {
  sound_is_steady = λ is. absurd (false≢true is);
  stands = λ state is. none_is_told state is;
}
