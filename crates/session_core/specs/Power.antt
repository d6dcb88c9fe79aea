-- How power cuts show in a history: which replies it may have, and where.
use Rattle.std.specs.Prelude.{◌≡◌, ◌≢◌, ℕ, Bool, true, false, ◌+◌, ◌≤◌, if◌then◌else◌, IsTrue, List, [], ◌∷◌, map, All, is_some, Some}
use Rattle.std.specs.Option.{option_map_or}
use Rattle.kv_model.specs.declared.call.Call.{Call}
use Rattle.kv_model.specs.declared.call.Entry.{Entry}
use Rattle.kv_model.specs.declared.call.Reply.{Reply}
use Rattle.kv_model.specs.declared.call.Reply.TheVariants.{Refused}
use Rattle.kv_model.specs.declared.error.KvError.TheVariants.{Corrupt, Memory, ReadFault, Stopped, WriteFault}
use Rattle.kv_model.specs.Kv.{KvState}
use Rattle.kv_model.specs.Operations.{operation_of}
use Rattle.kv_model.specs.StoreState.{StoreState}
use Rattle.script_core.specs.declared.line.Act.{Act}
use Rattle.script_core.specs.declared.line.Act.TheVariants.{Do, Cut}
use Rattle.script_core.specs.declared.line.Line.{Line}

-- what may come of the next write: no cut is to come, one is, or one came and nothing was mounted since
pub data Power : Type 0 where
  Steady : Power
  Armed : Power
  Lost : Power

abbrev pub is_lost : Power → Bool
is_lost Lost = true
is_lost power = false

abbrev pub is_armed : Power → Bool
is_armed Armed = true
is_armed power = false

-- the device behind it fails no call, or none until the next write is cut
abbrev pub HasDevice : KvState → Power → Type 0
HasDevice s Steady = (s.known.sound ≡ true) × (s.known.steady ≡ true)
HasDevice s Armed = s.known.steady ≡ true
HasDevice s Lost = Unit {0}

-- A store tells its state, and is stopped exactly where power was lost.
pub record HasPower (s : KvState) (power : Power) : Type 0 where
  pub state : StoreState
  pub told : s.known.state ≡ Some state
  pub stopped : is_some state.doubt ≡ is_lost power
  pub device : HasDevice s power

-- ---- what becomes of it

abbrev pub after_cut : Power → Power
after_cut Lost = Lost
after_cut power = Armed

abbrev pub is_write_fault : Reply → Bool
is_write_fault (Refused WriteFault) = true
is_write_fault reply = false

abbrev pub after_reply : Power → Reply → Power
after_reply power reply = if is_write_fault reply then Lost else power

-- a mount puts power on
abbrev pub after_call : Power → Call → Reply → Power
after_call power call reply = option_map_or (λ operation. after_reply power reply) (operation_of call) Steady

-- whether a store over such a device may answer so
abbrev pub may_reply : Power → Reply → Bool
may_reply power (Refused ReadFault) = false
may_reply power (Refused (Corrupt stored computed)) = false
may_reply power (Refused Memory) = false
may_reply power (Refused Stopped) = is_lost power
may_reply power (Refused WriteFault) = is_armed power
may_reply power reply = true

-- the replies to the calls of these acts, and what becomes of the power
abbrev pub Shows : Power → List Act → List Entry → Power → Type 0
Shows power [] [] final = final ≡ power
Shows power [] (entry ∷ entries) final = ⊥
Shows power (Cut side n pattern ∷ acts) entries final = Shows (after_cut power) acts entries final
Shows power (Do call ∷ acts) [] final = ⊥
Shows power (Do call ∷ acts) (entry ∷ entries) final =
    IsTrue (may_reply power entry.reply) × Shows (after_call power call entry.reply) acts entries final

abbrev pub acts_of : List Line → List Act
acts_of lines = map (λ (line : Line). line.act) lines

-- ---- the same in the words of a history

-- a device that fails no call unless its power is cut gives none of these
pub record IsOrdinary (reply : Reply) : Type 0 where
  pub no_read_fault : reply ≢ Refused ReadFault
  pub no_mismatch : (stored computed : ℕ) → reply ≢ Refused (Corrupt stored computed)
  pub no_want : reply ≢ Refused Memory

-- it tells of no cut
pub record TellsNoCut (reply : Reply) : Type 0 where
  pub no_write_fault : reply ≢ Refused WriteFault
  pub not_stopped : reply ≢ Refused Stopped

-- how many cuts are armed
abbrev pub cuts_in : List Act → ℕ
cuts_in [] = 0
cuts_in (Cut side n pattern ∷ acts) = 1 + cuts_in acts
cuts_in (Do call ∷ acts) = cuts_in acts

-- how many writes failed
abbrev pub write_faults_in : List Entry → ℕ
write_faults_in [] = 0
write_faults_in (entry ∷ entries) = (if is_write_fault entry.reply then 1 else 0) + write_faults_in entries

abbrev pub armed_cuts : Power → ℕ
armed_cuts Armed = 1
armed_cuts power = 0

-- a cut that was armed is behind each call until a mount
abbrev pub stays_behind : Bool → Call → Bool
stays_behind behind call = option_map_or (λ operation. behind) (operation_of call) false

-- Each write that failed stands behind a cut, with no mount between: the calls of the acts are those of the entries, in
-- order, as far as these go.
abbrev pub AreBehindCuts : Bool → List Act → List Entry → Type 0
AreBehindCuts behind [] entries = Unit {0}
AreBehindCuts behind (Cut side n pattern ∷ acts) entries = AreBehindCuts true acts entries
AreBehindCuts behind (Do call ∷ acts) [] = Unit {0}
AreBehindCuts behind (Do call ∷ acts) (entry ∷ entries) =
    (entry.reply ≡ Refused WriteFault → IsTrue behind) × AreBehindCuts (stays_behind behind call) acts entries

-- How power cuts show in the replies to these lines, or to the first of them, from this power on.
pub record ShowsCuts (power : Power) (lines : List Line) (entries : List Entry) : Type 0 where
  pub ordinary : All (λ (entry : Entry). IsOrdinary entry.reply) entries
  pub uncut : power ≡ Steady → cuts_in (acts_of lines) ≡ 0 → All (λ (entry : Entry). TellsNoCut entry.reply) entries
  pub few : write_faults_in entries ≤ cuts_in (acts_of lines) + armed_cuts power
  pub behind : AreBehindCuts (is_armed power) (acts_of lines) entries

-- The power that a run of these replies leaves, from this power on: where it was lost, a write failed.
pub record LeavesPower (s : KvState) (power : Power) (entries : List Entry) : Type 0 where
  pub after : Power
  pub has : HasPower s after
  pub failed : is_lost power ≡ false → is_lost after ≡ true → 1 ≤ write_faults_in entries
