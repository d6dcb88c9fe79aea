-- What reading one of the two stores gives, and what it leaves.
use Rattle.std.specs.Prelude.{◌≡◌, ℕ, true, min, IsTrue, List, [], length, take, drop, Option, Some, None, Result, Ok, Err}
use Rattle.std.specs.Option.{ForSome}
use Rattle.kv_model.specs.declared.error.KvError.{KvError}
use Rattle.kv_model.specs.declared.error.KvError.TheVariants.{ReadFault}
use Rattle.kv_model.specs.declared.call.Got.{Got}
use Rattle.kv_model.specs.declared.call.Reply.TheVariants.{Refused}
use Rattle.kv_model.specs.Constants.{Constants}
use Rattle.kv_model.specs.FlaggedMap.{Stored}
use Rattle.kv_model.specs.StoreState.{StoreState}
use Rattle.kv_model.specs.Operations.{Info}
use Rattle.kv_model.specs.Rules.{Rules}
use Rattle.kv_model.specs.PlainStep.{plain_rules}
use Rattle.kv_model.specs.Kv.{IsCause, Keeps, KvState, TellsOnly, kind_of, may_end}

-- a store that tells this state, runs, and goes by the plain rules
pub record TellsPlain (rules_by : Constants → Rules) (s : KvState) (state : StoreState) : Type 0 where
  pub rules : rules_by ≡ plain_rules
  pub told : s.known.state ≡ Some state
  pub running : state.doubt ≡ None

-- what holds of the state of a plain store, where it tells one
abbrev pub WhereTold : (Constants → Rules) → KvState → (StoreState → Type 0) → Type 0
WhereTold rules_by s P = (state : StoreState) → TellsPlain rules_by s state → P state

-- What reading a store leaves: its state stands, and a power cut leaves its map.
pub record HasRead (old new : KvState) : Type 0 where
  pub keeps : Keeps old new
  pub state : new.known.state ≡ old.known.state
  pub steady : old.known.steady ≡ true → new.known.steady ≡ true
  pub moments : IsTrue old.crash.tells_moments
      → ForSome old.known.state (λ (s : StoreState). TellsOnly old.crash.primary new.crash.primary s.primary s.primary)

-- Why a store refused to be read. A plain store that runs and has what is to be read refuses only where its device fails.
pub record IsUnread (old new : KvState) (error : KvError) : Type 0 where
  pub cause : IsCause old.known new.known (Refused error)
  pub may_end : IsTrue (may_end (Info []) (kind_of (Refused error)))

-- what a key has, by its first bytes: nothing, or a value of this size that begins so
pub record Begins (found : Option Stored) (wanted : ℕ) (got : Got) (buf : List ℕ) : Type 0 where
  pub stored : Stored
  pub there : found ≡ Some stored
  pub size : got.size ≡ length stored.bytes
  pub flags : got.flags.bits ≡ stored.flags
  pub read : got.read ≡ min wanted (length stored.bytes)
  pub bytes : take got.read buf ≡ take wanted stored.bytes

abbrev pub BeginsWith : Option Stored → Result (Option Got) KvError → ℕ → List ℕ → Type 0
BeginsWith found (Ok None) wanted buf = found ≡ None
BeginsWith found (Ok (Some got)) wanted buf = Begins found wanted got buf
BeginsWith found (Err error) wanted buf = error ≡ ReadFault

-- so many bytes from this place on
abbrev pub part_at : List ℕ → ℕ → ℕ → List ℕ
part_at bytes place n = take n (drop place bytes)

-- the part of a value that lies in it was read, or the device failed
abbrev pub IsPart : List ℕ → ℕ → Result Unit KvError → List ℕ → Type 0
IsPart bytes place (Ok done) buf = buf ≡ part_at bytes place (length buf)
IsPart bytes place (Err error) buf = error ≡ ReadFault
