-- What a set of a secure store does to its two stores, until the record and its tag stand there.
use Rattle.std.specs.Prelude.{◌≡◌, ◌≢◌, ◌⊎◌, ℕ, Bool, true, false, not, ◌||◌, ◌&&◌, ◌+◌, ◌≤◌, ◌==◌, nat_lt, if◌then◌else◌, IsTrue, List, [], ◌∷◌, ◌++◌, length, Option, Some, None, is_some, Result, Ok, Err}
use Rattle.std.specs.FinMap.{get}
use Rattle.kv_model.specs.declared.error.KvError.{KvError}
use Rattle.kv_model.specs.declared.error.KvError.TheVariants.{InvalidFlags, IvSpent, ReadFault, WriteFault, WriteProtected}
use Rattle.kv_model.specs.declared.flags.Flags.{Flags}
use Rattle.kv_model.specs.declared.call.Reply.TheVariants.{Refused}
use Rattle.kv_model.specs.Checks.{Check, first_refusal, may_fail_reading}
use Rattle.kv_model.specs.Constants.{Constants}
use Rattle.kv_model.specs.FlaggedMap.{Stored}
use Rattle.kv_model.specs.Flags.{is_mirrored, is_secure_flags, is_write_once}
use Rattle.kv_model.specs.Keys.{is_key}
use Rattle.kv_model.specs.StoreState.{Maps, OpenSet, StoreState, begun_set, prior_in, tag_in}
use Rattle.kv_model.specs.Operations.{Add}
use Rattle.kv_model.specs.PlainStep.{flags_in, plain_rules}
use Rattle.kv_model.specs.Rules.{Rules, number_taken}
use Rattle.kv_model.specs.Kv.{IsCause, Keeps, Kind, KvState, TellsOnly, UnlessFailedWrite, kind_of, may_end, Ruled, FailedRead, FailedWrite, Mismatched, Wanted}
use Rattle.secure_record.specs.declared.metadata.Metadata.{Metadata}
use Rattle.secure_record.specs.Sealed.{seal, sealed_metadata, stored}
use Rattle.secure_record.specs.States.{SealState}
use Rattle.secure_record.specs.Streams.{HasSealed}
use Rattle.sealed_pair.specs.declared.limits.TheConstants.{MAX_SECURE_VALUE, SEAL_SIZE, TAG_SIZE}
use Rattle.sealed_pair.specs.declared.setting.Tagged.{Tagged}
use Rattle.sealed_pair.specs.Going.{WhereStill}
use Rattle.sealed_pair.specs.Pair.{Joining, pair_constants}
use Rattle.sealed_pair.specs.Removing.{is_once}
use Rattle.sealed_pair.specs.Running.{Parts, WhereRun, as_one, one_of}
use Rattle.sealed_pair.specs.Sealing.{is_numbered, kept_flags, tag_of}
use Rattle.sealed_pair.specs.SecureStep.{last_number, needed, no_room, no_room_beside, set_checks}
use Rattle.sealed_pair.specs.Store.{joined}

-- ---- what the stores hold for the key

-- an entry of the rollback store: its flags, and its bytes where they are a tag
pub record HasTag (found : Option Stored) (tagged : Tagged) : Type 0 where
  pub stored : Stored
  pub there : found ≡ Some stored
  pub bits : tagged.flags.bits ≡ stored.flags
  pub tag : tagged.tag ≡ tag_in (Some stored)

abbrev pub TagOr : Option Stored → Result (Option Tagged) KvError → Type 0
TagOr found (Ok None) = found ≡ None
TagOr found (Ok (Some tagged)) = HasTag found tagged
TagOr found (Err error) = error ≡ ReadFault

abbrev pub flags_with : Option Tagged → Option Flags
flags_with None = None
flags_with (Some tagged) = Some tagged.flags

abbrev pub tag_with : Option Tagged → Option (List ℕ)
tag_with None = None
tag_with (Some tagged) = tagged.tag

-- the tag that a set of these flags with this number replaces, or why it may not be made beside what the stores hold
abbrev pub admitted : Option Flags → Option Tagged → ℕ → ℕ → Result (Option (List ℕ)) KvError
admitted above below flags number =
    if is_once above || is_once (flags_with below) then Err WriteProtected
    else if is_some below && not (is_mirrored flags) then Err InvalidFlags
    else if is_numbered flags && number == last_number then Err IvSpent
    else Ok (tag_with below)

abbrev pub IsFree : List ℕ → StoreState → Type 0
IsFree key state = is_write_once (flags_in state.primary key) ≡ false

-- the rollback store may set the key's tag, and a set of these flags replaces this prior there
pub record MayMirror (key : List ℕ) (flags : ℕ) (prior : Option (List ℕ)) (state : StoreState) : Type 0 where
  pub free : IsFree key state
  pub mirrors : (is_some (get state.primary key) && not (is_mirrored flags)) ≡ false
  pub replaces : prior ≡ prior_in state.primary flags key

-- Nothing but want of room refuses a set of so many bytes.
pub record IsAdmitted (p : Parts) (key : List ℕ) (size flags : ℕ) (prior : Option (List ℕ)) : Type 0 where
  pub named : is_key key ≡ true
  pub secure : is_secure_flags flags ≡ true
  pub most : size ≤ MAX_SECURE_VALUE
  pub unspent : (is_numbered flags && p.own.number == last_number) ≡ false
  pub above : WhereStill p.above p.primary (IsFree key)
  pub below : WhereStill p.below p.rollback (MayMirror key flags prior)

-- how a list of refusals ends: one of them, or a read that failed
abbrev pub RefusesBy : List Check → KvError → Kind → Type 0
RefusesBy checks error Ruled = first_refusal checks ≡ Some error
RefusesBy checks error FailedRead = (error ≡ ReadFault) × IsTrue (may_fail_reading checks)
RefusesBy checks error FailedWrite = ⊥
RefusesBy checks error Mismatched = ⊥
RefusesBy checks error Wanted = ⊥

-- what a set asks for: a value of so many bytes under a key, with flags
pub record SetRequest : Type 0 where
  pub key : List ℕ
  pub size : ℕ
  pub flags : ℕ

abbrev pub request_of : List ℕ → ℕ → ℕ → SetRequest
request_of key size flags = record { key = key; size = size; flags = flags }

-- A set of so many bytes that was refused before anything was written.
pub record IsRefusedSet (old new : Parts) (request : SetRequest) (error : KvError) : Type 0 where
  pub cause : (before after : Joining) → IsCause (as_one before old).known (as_one after new).known (Refused error)
  pub unwritten : error ≢ WriteFault
  pub leads : WhereRun old (λ above below. (who : ℕ) → RefusesBy
      (set_checks (pair_constants old.root old.primary.known.constants old.rollback.known.constants) (one_of old above below) who request.key request.size request.flags)
      error (kind_of (Refused error)))

-- the next number after a set, and whether it is still one
abbrev pub number_left : {T : Type 0} → ℕ → ℕ → Result T KvError → ℕ
number_left number flags (Ok done) = number_taken (is_numbered flags) number
number_left number flags (Err error) = number

-- ---- one of the two stores while it is set

-- a plain store that tells this state, runs, and has this active set or none
pub record IsAt (rules_by : Constants → Rules) (s : KvState) (set : Option OpenSet) (state : StoreState) : Type 0 where
  pub rules : rules_by ≡ plain_rules
  pub told : s.known.state ≡ Some state
  pub running : state.doubt ≡ None
  pub active : state.open_set ≡ set

-- Calls that were done and that leave the map: of one active set, or none, they made another, or none.
pub record HasMoved (rules_by : Constants → Rules) (old new : KvState) (set later : Option OpenSet) : Type 0 where
  pub keeps : Keeps old new
  pub steady : old.known.steady ≡ true → new.known.steady ≡ true
  pub told : (state : StoreState) → IsAt rules_by old set state → new.known.state ≡ Some (record state { open_set = later })
  pub moments : IsTrue old.crash.tells_moments → (state : StoreState) → IsAt rules_by old set state
      → TellsOnly old.crash.primary new.crash.primary state.primary state.primary

-- a call that fails: whether it begins a set, and what it answers
pub record Failure : Type 0 where
  pub begins : Bool
  pub error : KvError

-- What a plain store tells after a call that failed: a failed write leaves its map, and only a call that begins a set
-- fails otherwise, and then there is none.
abbrev pub FailsSet : KvState → Failure → StoreState → Kind → Type 0
FailsSet new f state Ruled = IsTrue f.begins × (new.known.state ≡ Some (record state { open_set = None }))
FailsSet new f state FailedRead = IsTrue f.begins × (f.error ≡ ReadFault) × (new.known.state ≡ Some (record state { open_set = None }))
FailsSet new f state FailedWrite = (f.error ≡ WriteFault) × ((maps : Maps) → new.crash.stands maps → maps.primary ≡ state.primary)
FailsSet new f state Mismatched = ⊥
FailsSet new f state Wanted = IsTrue f.begins × (new.known.state ≡ Some (record state { open_set = None }))

-- Calls of which the last failed, and that leave the map.
pub record HasFailedSet (rules_by : Constants → Rules) (old new : KvState) (set : Option OpenSet) (f : Failure) : Type 0 where
  pub keeps : Keeps old new
  pub cause : IsCause old.known new.known (Refused f.error)
  pub steady : old.known.steady ≡ true → UnlessFailedWrite (kind_of (Refused f.error)) (new.known.steady ≡ true)
  pub told : (state : StoreState) → IsAt rules_by old set state → FailsSet new f state (kind_of (Refused f.error))
  pub moments : IsTrue old.crash.tells_moments → (state : StoreState) → IsAt rules_by old set state
      → TellsOnly old.crash.primary new.crash.primary state.primary state.primary

-- the sets of both stores, with the bytes so far
abbrev pub record_set : ℕ → List ℕ → ℕ → ℕ → List ℕ → OpenSet
record_set who key size flags bytes = record (begun_set who key (kept_flags flags) (size + SEAL_SIZE) None) { bytes = bytes }

abbrev pub tag_set : ℕ → List ℕ → ℕ → List ℕ → Option OpenSet
tag_set who key flags bytes = if is_mirrored flags then Some (record (begun_set who key (kept_flags flags) TAG_SIZE None) { bytes = bytes }) else None

-- One of the stores failed, and the other has given up its set.
abbrev pub HasGivenUp : Parts → Parts → Option OpenSet → Option OpenSet → Failure → Type 0
HasGivenUp old new above below f =
    (HasFailedSet old.above old.primary new.primary above f × HasMoved old.below old.rollback new.rollback below None)
    ⊎ (HasMoved old.above old.primary new.primary above None × HasFailedSet old.below old.rollback new.rollback below f)

-- what refuses an admitted set: want of room in the primary store, and then in the rollback store
abbrev pub room_checks : Constants → StoreState → List ℕ → ℕ → ℕ → List Check
room_checks constants state key size flags = no_room constants state key size ∷ no_room_beside constants state key flags ∷ []

-- how the starts of an admitted set end; a write fails only where the primary store has room
abbrev pub StartsBy : List Check → Bool → KvError → Kind → Type 0
StartsBy checks full error Ruled = first_refusal checks ≡ Some error
StartsBy checks full error FailedRead = Unit {0}
StartsBy checks full error FailedWrite = full ≡ false
StartsBy checks full error Mismatched = Unit {0}
StartsBy checks full error Wanted = Unit {0}

abbrev pub StartsOr : List Check → Bool → Result Unit KvError → Type 0
StartsOr checks full (Ok done) = first_refusal checks ≡ None
StartsOr checks full (Err error) = StartsBy checks full error (kind_of (Refused error))

-- so the starts of a set of so many bytes end on two stores that are idle
abbrev pub StartsSet : Parts → List ℕ → ℕ → ℕ → Result Unit KvError → Type 0
StartsSet p key size flags result = WhereRun p (λ above below.
    let constants = pair_constants p.root p.primary.known.constants p.rollback.known.constants in
    let state = joined p.own.number above below in
    StartsOr (room_checks constants state key size flags) (nat_lt constants.room (needed constants state key size)) result)

-- ---- the bytes of a record

-- calls on a store by a caller
pub record Calls : Type 1 where
  pub rules_by : Constants → Rules
  pub old : KvState
  pub new : KvState
  pub who : ℕ

abbrev pub calls : (Constants → Rules) → KvState → KvState → ℕ → Calls
calls rules_by old new who = record { rules_by = rules_by; old = old; new = new; who = who }

-- a set of the caller in which there is room for so many bytes more
pub record HasRoomFor (who : ℕ) (set : OpenSet) (n : ℕ) : Type 0 where
  pub owner : set.owner ≡ who
  pub fits : length set.bytes + n ≤ set.size

-- these bytes were added to whatever set was active that has room for them
abbrev pub HasAdded : Calls → List ℕ → Type 0
HasAdded c bytes = (set : OpenSet) → HasRoomFor c.who set (length bytes)
    → HasMoved c.rules_by c.old c.new (Some set) (Some (record set { bytes = set.bytes ++ bytes }))

-- so many bytes could not be added
abbrev pub FailsToAdd : Calls → ℕ → KvError → Type 0
FailsToAdd c n error = (set : OpenSet) → HasRoomFor c.who set n
    → HasFailedSet c.rules_by c.old c.new (Some set) (record { begins = false; error = error })

-- how an add may end that is refused
abbrev pub MayRefuse : KvError → Type 0
MayRefuse error = IsTrue (may_end (Add []) (kind_of (Refused error)))

-- a part of a value was sealed, and its stored bytes were added
pub record HasAddedPart (c : Calls) (old new : SealState) (value : List ℕ) : Type 0 where
  pub bytes : List ℕ
  pub long : length bytes ≡ length value
  pub left : new.body.left + length value ≡ old.body.left
  pub head : new.head ≡ old.head
  pub added : HasAdded c bytes
  pub sealed : (root key : List ℕ) (m : Metadata) (front : List ℕ) → HasSealed old root key m front → HasSealed new root key m (front ++ value)
  pub pieces : (root key : List ℕ) (m : Metadata) (front : List ℕ) → HasSealed old root key m front
      → stored root key m.flags m.vector (front ++ value) ≡ stored root key m.flags m.vector front ++ bytes

-- the whole record of a value was added, which ends with this tag
pub record HasAddedRecord (c : Calls) (stream : SealState) (value tag : List ℕ) : Type 0 where
  pub bytes : List ℕ
  pub long : length bytes ≡ length value + SEAL_SIZE
  pub added : HasAdded c bytes
  pub ends : tag_of bytes ≡ tag
  pub sealed : (root key : List ℕ) (flags number : ℕ) (prior : Option (List ℕ)) → HasSealed stream root key (sealed_metadata (length value) flags number prior) []
      → bytes ≡ seal root key flags number prior value

-- ---- both stores

-- what is asked of a set
pub record Asked : Type 0 where
  pub who : ℕ
  pub key : List ℕ
  pub flags : ℕ
  pub value : List ℕ

abbrev pub asked_of : ℕ → List ℕ → ℕ → List ℕ → Asked
asked_of who key flags value = record { who = who; key = key; flags = flags; value = value }

-- the vector of a record
abbrev pub vector_of : ℕ → ℕ → ℕ
vector_of number flags = if is_numbered flags then number else 0

-- a stream before the first byte of the value that is asked, and the record that comes of it
abbrev pub BeginsRecord : Parts → Asked → SealState → Option (List ℕ) → Type 0
BeginsRecord p a stream prior = HasSealed stream p.root a.key (sealed_metadata (length a.value) a.flags (vector_of p.own.number a.flags) prior) []

abbrev pub bytes_of : Parts → Asked → Option (List ℕ) → List ℕ
bytes_of p a prior = seal p.root a.key a.flags (vector_of p.own.number a.flags) prior a.value

-- both stores have all bytes of their sets, for which they have room
pub record IsFilled (old new : Parts) (a : Asked) (bytes : List ℕ) : Type 0 where
  pub long : length bytes ≡ length a.value + SEAL_SIZE
  pub above : HasMoved old.above old.primary new.primary None (Some (record_set a.who a.key (length a.value) a.flags bytes))
  pub below : HasMoved old.below old.rollback new.rollback None (tag_set a.who a.key a.flags (tag_of bytes))
  pub room : StartsSet old a.key (length a.value) a.flags (Ok tt)

-- where a set took a number there is a next one
abbrev pub TakesOne : {T : Type 0} → ℕ → ℕ → Result T KvError → Type 0
TakesOne number flags (Ok done) = is_numbered flags ≡ true → number + 1 ≤ last_number
TakesOne number flags (Err error) = error ≡ WriteFault → is_numbered flags ≡ true → number + 1 ≤ last_number

-- the next number behind a set: Ok and WriteFault took one, and no other answer
abbrev pub NumberLeft : ℕ → ℕ → ℕ → Result Unit KvError → Type 0
NumberLeft old new flags (Ok done) = new ≡ number_taken (is_numbered flags) old
NumberLeft old new flags (Err error) = (error ≡ WriteFault → new ≡ number_taken (is_numbered flags) old) × (error ≢ WriteFault → new ≡ old)
