-- What a recover does: it heals the tags of the rollback store one by one.
use Rattle.std.specs.Prelude.{◌≡◌, ◌≢◌, ◌⊎◌, ℕ, Bool, true, false, not, ◌&&◌, ◌==◌, ◌+◌, nat_le, if◌then◌else◌, IsTrue, List, [], ◌∷◌, ◌≤◌, length, Option, Some, None, Result, Ok, Err}
use Rattle.std.specs.Option.{option_map_or}
use Rattle.std.specs.Str.{bytes_eq}
use Rattle.std.specs.FinMap.{get, insert}
use Rattle.base_core.specs.Sizes.{record_size}
use Rattle.kv_model.specs.declared.error.KvError.{KvError}
use Rattle.kv_model.specs.declared.error.KvError.TheVariants.{MediaFull, Memory, ReadFault, WriteFault}
use Rattle.kv_model.specs.Constants.{Constants, Secure}
use Rattle.kv_model.specs.FlaggedMap.{FlaggedMap, Stored}
use Rattle.kv_model.specs.Flags.{is_write_once}
use Rattle.kv_model.specs.Given.{done_or}
use Rattle.kv_model.specs.Kv.{Clock, Keeps, KvState, TellsOnly, UnlessFailedWrite, kind_of}
use Rattle.kv_model.specs.Rules.{Rules}
use Rattle.kv_model.specs.Sizes.{used}
use Rattle.kv_model.specs.StoreState.{Maps, StoreState}
use Rattle.secure_record.specs.declared.metadata.Metadata.{Metadata}
use Rattle.sealed_pair.specs.declared.recovering.Successor.{Successor}
use Rattle.sealed_pair.specs.declared.recovering.Entry.{Entry}
use Rattle.sealed_pair.specs.Going.{WhereStill}
use Rattle.sealed_pair.specs.Heal.{healed, metadata_in}
use Rattle.sealed_pair.specs.Running.{StaysIdle}
use Rattle.sealed_pair.specs.Sealing.{tag_entry}

-- the rollback map with the tag of one key healed, by the primary map
abbrev pub with_healed : Secure → FlaggedMap → FlaggedMap → List ℕ → FlaggedMap
with_healed secure primary rollback key = option_map_or
    (λ (tag : Stored). insert rollback key (healed secure (record { primary = primary; rollback = rollback }) key tag))
    (get rollback key) rollback

-- a map with one tag of a key more, where its store has room for it
abbrev pub with_tag : Constants → List ℕ → Stored → FlaggedMap → FlaggedMap
with_tag constants key tag map =
    if nat_le (used constants.prog map + record_size constants.prog (length key) 16) constants.room then insert map key tag else map

-- what a secure store of this root key and this rollback store heals by
abbrev pub secure_by : List ℕ → Constants → Secure
secure_by root rollback = record { root = root; prog = rollback.prog; room = rollback.room }

-- the rollback map of a told state with the tag of one key healed
abbrev pub goal_of : Secure → FlaggedMap → List ℕ → StoreState → FlaggedMap
goal_of secure primary key state = with_healed secure primary state.primary key

-- ---- the record of a key, and its entry in the rollback store

abbrev pub tag_by : Successor → Stored
tag_by s = record { flags = s.flags.bits; bytes = s.tag }

abbrev pub stored_by : Entry → Stored
stored_by e = record { flags = e.flags.bits; bytes = e.tag }

-- the key's record replaces a tag
pub record IsSuccessor (root key : List ℕ) (found : Option Stored) (s : Successor) : Type 0 where
  pub stored : Stored
  pub there : found ≡ Some stored
  pub metadata : Metadata
  pub sealed : metadata_in root key stored.bytes ≡ Some metadata
  pub prior : metadata.prior ≡ Some s.prior
  pub completed : tag_by s ≡ tag_entry metadata.flags stored.bytes

-- whatever the key has is no record that replaces a tag
abbrev pub HasNoSuccessor : List ℕ → List ℕ → Option Stored → Type 0
HasNoSuccessor root key found = (stored : Stored) → found ≡ Some stored
    → (m : Metadata) → metadata_in root key stored.bytes ≡ Some m → m.prior ≡ None

abbrev pub SuccessorOr : List ℕ → List ℕ → Option Stored → Result (Option Successor) KvError → Type 0
SuccessorOr root key found (Ok None) = HasNoSuccessor root key found
SuccessorOr root key found (Ok (Some s)) = IsSuccessor root key found s
SuccessorOr root key found (Err error) = error ≡ ReadFault

-- an entry of the size of a tag, or that there is none
abbrev pub EntryOr : Option Stored → Result (Option Entry) KvError → Type 0
EntryOr found (Ok None) = (stored : Stored) → found ≡ Some stored → length stored.bytes ≢ 16
EntryOr found (Ok (Some entry)) = found ≡ Some (stored_by entry)
EntryOr found (Err error) = error ≡ ReadFault

-- a record replaces just this tag, which is not write-once, with another
abbrev pub replaces : Successor → Entry → Bool
replaces s e = bytes_eq e.tag s.prior && (not (is_write_once e.flags.bits) && not (bytes_eq e.tag s.tag && (e.flags.bits == s.flags.bits)))

-- the store holds a value of the key that this may replace
pub record MayReplace (key : List ℕ) (tag : Stored) (state : StoreState) : Type 0 where
  pub stored : Stored
  pub there : get state.primary key ≡ Some stored
  pub free : is_write_once stored.flags ≡ false
  pub other : stored ≢ tag

-- ---- what a call leaves of the rollback store

abbrev pub is_full : KvError → Bool
is_full (MediaFull need room) = true
is_full error = false

-- what is kept in any case
pub record HasWritten {T : Type 0} (old new : KvState) (result : Result T KvError) : Type 0 where
  pub keeps : Keeps old new
  pub steady : old.known.steady ≡ true → UnlessFailedWrite (kind_of (done_or result)) (new.known.steady ≡ true)

-- a store that runs without an active set still does, unless a write failed
abbrev pub StillRuns : {T : Type 0} → (Constants → Rules) → KvState → KvState → Result T KvError → Type 0
StillRuns rules_by old new result = UnlessFailedWrite (kind_of (done_or result)) (StaysIdle rules_by old new)

-- the store has this map, and it tells whether that is another
pub record HasBecome (new : KvState) (before : StoreState) (goal : FlaggedMap) (changed : Bool) : Type 0 where
  pub told : new.known.state ≡ Some (record before { primary = goal })
  pub counted : changed ≡ true → goal ≢ before.primary
  pub uncounted : changed ≡ false → goal ≡ before.primary

-- A write failed, and the images mount to the map before or to the other; or the state stands.
abbrev pub HasBroken : KvState → StoreState → FlaggedMap → KvError → Type 0
HasBroken new before goal error =
    ((error ≡ WriteFault) × ((maps : Maps) → new.crash.stands maps → (maps.primary ≡ before.primary) ⊎ (maps.primary ≡ goal)))
    ⊎ ((new.known.state ≡ Some before) × ((error ≡ ReadFault) ⊎ (error ≡ Memory)))

abbrev pub Leaves : KvState → StoreState → FlaggedMap → Result Bool KvError → Type 0
Leaves new before goal (Ok changed) = HasBecome new before goal changed
Leaves new before goal (Err error) = HasBroken new before goal error

-- Where the store told its state it now has another map, or a refusal left it; a power cut left one or the other.
pub record Rewrites (rules_by : Constants → Rules) (old new : KvState) (goal : StoreState → FlaggedMap) (result : Result Bool KvError) : Type 0 where
  pub told : WhereStill rules_by old (λ state. Leaves new state (goal state) result)
  pub moments : IsTrue old.crash.tells_moments
      → WhereStill rules_by old (λ state. TellsOnly old.crash.primary new.crash.primary state.primary (goal state))

-- each map that a clock tells anew is one of these
pub record TellsAmong (old new : Clock) (P : FlaggedMap → Type 0) : Type 0 where
  pub moment : old.moment ≤ new.moment
  pub told : (t : ℕ) (map : FlaggedMap) → t ≤ old.moment → new.left_since t map → old.left_since t map ⊎ P map
