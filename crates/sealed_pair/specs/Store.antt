-- What contracts see of a secure store, by its two stores.
use Rattle.std.specs.Prelude.{◌≡◌, ◌⊎◌, ℕ, Bool, true, false, List, Option, Some, None, Result, Ok, Err, is_some, take, ◌+◌, ◌≤◌}
use Rattle.std.specs.Option.{ForSome}
use Rattle.std.specs.FinMap.{empty, get}
use Rattle.kv_model.specs.declared.error.KvError.{KvError}
use Rattle.kv_model.specs.declared.error.KvError.TheVariants.{InvalidKey, InvalidSize}
use Rattle.kv_model.specs.Keys.{is_key}
use Rattle.kv_model.specs.Constants.{Constants}
use Rattle.kv_model.specs.declared.call.Got.{Got}
use Rattle.kv_model.specs.FlaggedMap.{Stored}
use Rattle.kv_model.specs.Flags.{is_mirrored}
use Rattle.kv_model.specs.StoreState.{OpenSet, StoreState}
use Rattle.kv_model.specs.Rules.{Rules}
use Rattle.kv_model.specs.PlainStep.{plain_rules}
use Rattle.kv_model.specs.Kv.{KvState}
use Rattle.secure_record.specs.Sealed.{stored, tag, tag1}
use Rattle.sealed_pair.specs.declared.opening.Found.{Found}
use Rattle.sealed_pair.specs.Pair.{Joining}
use Rattle.sealed_pair.specs.Shares.{Holds, Share}

-- A store that tells its state goes by the plain rules, and is not stopped.
pub record IsPlainStore (rules_by : Constants → Rules) (s : KvState) : Type 0 where
  pub rules : is_some s.known.state ≡ true → rules_by ≡ plain_rules
  pub running : ForSome s.known.state (λ (state : StoreState). is_some state.doubt ≡ false)

-- A store that tells its state goes by the plain rules, and while the two run it runs and has its share of the active set.
pub record IsPlainWhile (runs : Bool) (share : Share) (rules_by : Constants → Rules) (s : KvState) : Type 0 where
  pub rules : is_some s.known.state ≡ true → rules_by ≡ plain_rules
  pub running : runs ≡ true → ForSome s.known.state (λ (state : StoreState). is_some state.doubt ≡ false)
  pub holds : runs ≡ true → ForSome s.known.state (Holds share)

-- a plain store without an active set and without iterators
pub record IsFreshStore (rules_by : Constants → Rules) (s : KvState) : Type 0 where
  pub plain : IsPlainStore rules_by s
  pub no_set : ForSome s.known.state (λ (state : StoreState). state.open_set ≡ None)
  pub no_iterators : ForSome s.known.state (λ (state : StoreState). state.iterators ≡ empty)

-- what a secure store has of the state itself: its next number and the set that is active
pub record Own : Type 0 where
  pub number : ℕ
  pub set : Option OpenSet

-- the state of the two stores as one
abbrev pub joined_by : Own → Joining
joined_by own primary rollback = record {
  primary = primary.primary;
  rollback = rollback.primary;
  open_set = own.set;
  iterators = primary.iterators;
  next_vector = own.number;
  doubt = None;
}

-- the same with no active set
abbrev pub idle_own : ℕ → Own
idle_own number = record { number = number; set = None }

abbrev pub joined : ℕ → Joining
joined number = joined_by (idle_own number)

-- what the rollback store holds for the key is a tag of this value, with some vector, in one of the two revisions
abbrev pub IsTagOf : List ℕ → List ℕ → ℕ → List ℕ → List ℕ → Type 0
IsTagOf root key flags value held = (vector : ℕ) × (
    ((prior : Option (List ℕ)) × (tag root key flags vector prior (stored root key flags vector value) ≡ held))
    ⊎ (tag1 root key flags vector (stored root key flags vector value) ≡ held))

-- No foreign value: what was read of a mirrored key, whatever the primary store tells, has the tag that the rollback store
-- holds.
pub record IsOwnValue (root key : List ℕ) (below : StoreState) (got : Got) (buf : List ℕ) : Type 0 where
  pub held : Stored
  pub there : get below.primary key ≡ Some held
  pub tag_is : IsTagOf root key got.flags.bits (take got.read buf) held.bytes

-- the same of a read from the start that gave the whole value of a mirrored key, where the rollback store tells its map
abbrev pub OwnsWhole : List ℕ → List ℕ → KvState → ℕ → Got → List ℕ → Type 0
OwnsWhole root key rollback offset got buf = offset ≡ 0 → got.read ≡ got.size → is_mirrored got.flags.bits ≡ true
    → ForSome rollback.known.state (λ (below : StoreState). IsOwnValue root key below got buf)

-- bytes as a key
abbrev pub KeyOr : List ℕ → Result (List ℕ) KvError → Type 0
KeyOr bytes (Ok key) = (key ≡ bytes) × (is_key bytes ≡ true)
KeyOr bytes (Err error) = (error ≡ InvalidKey) × (is_key bytes ≡ false)

-- what a read gives of a record that was found, where the offset lies in the value
abbrev pub WithinOr : ℕ → Found → Result Got KvError → Type 0
WithinOr offset found (Ok got) = (offset ≤ found.size) × (got ≡ record { flags = found.flags; size = found.size; read = found.read })
WithinOr offset found (Err error) = (found.size + 1 ≤ offset) × (error ≡ InvalidSize)
