-- A sealed record of one of the two stores, opened piece by piece.
use Rattle.std.specs.Prelude.{◌≡◌, ◌⊎◌, ℕ, ◌+◌, ◌≤◌, List, [], ◌++◌, length, take, drop, Option, Some, None, Result, Ok, Err}
use Rattle.std.specs.FinMap.{get}
use Rattle.kv_model.specs.declared.error.KvError.{KvError}
use Rattle.kv_model.specs.declared.error.KvError.TheVariants.{AuthFailed, ReadFault}
use Rattle.kv_model.specs.Constants.{Constants}
use Rattle.kv_model.specs.FlaggedMap.{Stored}
use Rattle.kv_model.specs.StoreState.{StoreState}
use Rattle.kv_model.specs.Rules.{Rules}
use Rattle.kv_model.specs.Kv.{KvState}
use Rattle.secure_record.specs.declared.metadata.Metadata.{Metadata}
use Rattle.secure_record.specs.Metadata.{metadata_of, metadata_size, IsMetadata}
use Rattle.secure_record.specs.Sealed.{opened, record_tag, stored}
use Rattle.secure_record.specs.States.{OpenState}
use Rattle.secure_record.specs.Streams.{HasOpened}
use Rattle.secure_record.specs.Unseal.{Opened, unseal}
use Rattle.sealed_pair.specs.declared.opening.Found.{Found}
use Rattle.sealed_pair.specs.Reading.{WhereTold, part_at}
use Rattle.sealed_pair.specs.Sealing.{tag_of}

-- the value of a key in a store
pub record Source : Type 1 where
  pub rules_by : Constants → Rules
  pub store : KvState
  pub key : List ℕ

abbrev pub source : (Constants → Rules) → KvState → List ℕ → Source
source rules_by store key = record { rules_by = rules_by; store = store; key = key }

-- what holds of the value of a plain store
abbrev pub WhereStored : Source → (Stored → Type 0) → Type 0
WhereStored source P = (stored : Stored) → WhereTold source.rules_by source.store (λ (state : StoreState). get state.primary source.key ≡ Some stored → P stored)

-- The stored bytes from this place of the record on were absorbed, as many as there are values, and these are the bytes of the
-- value that they open to.
pub record HasAbsorbed (source : Source) (place : ℕ) (old new : OpenState) (values : List ℕ) : Type 0 where
  pub bytes : List ℕ
  pub long : length bytes ≡ length values
  pub left : new.body.left + length values ≡ old.body.left
  pub metadata : new.metadata ≡ old.metadata
  pub opened_on : (root key front : List ℕ) → HasOpened old root key front → HasOpened new root key (front ++ bytes)
  pub gives : (root key front : List ℕ) → HasOpened old root key front
      → opened root key old.metadata.flags old.metadata.vector (front ++ bytes) ≡ opened root key old.metadata.flags old.metadata.vector front ++ values
  pub told : WhereStored source (λ stored. place + length bytes ≤ length stored.bytes → bytes ≡ part_at stored.bytes place (length bytes))

-- the same of so many bytes, whatever they open to
pub record HasSkipped (source : Source) (place : ℕ) (old new : OpenState) (n : ℕ) : Type 0 where
  pub values : List ℕ
  pub long : length values ≡ n
  pub absorbed : HasAbsorbed source place old new values

-- A plain store fails in this only where its device does, and only if it has all that is to be read.
abbrev pub FailsToRead : Source → ℕ → KvError → Type 0
FailsToRead source end error = WhereStored source (λ stored. end ≤ length stored.bytes → error ≡ ReadFault)

-- ---- the head of a record

-- the record has this metadata
pub record HasHead (found : Option Stored) (m : Metadata) : Type 0 where
  pub stored : Stored
  pub there : found ≡ Some stored
  pub head : metadata_of (take 40 stored.bytes) (length stored.bytes) ≡ Some m

-- the value of the key was not sealed for it
pub record IsNoRecord (root key : List ℕ) (found : Option Stored) (error : KvError) : Type 0 where
  pub stored : Stored
  pub there : found ≡ Some stored
  pub none : unseal root key stored.bytes ≡ None
  pub refused : error ≡ AuthFailed

-- a record is begun, or there is no value, or no record, or the device failed
abbrev pub BeginsRecord : List ℕ → List ℕ → Option Stored → Result (Option OpenState) KvError → Type 0
BeginsRecord root key found (Ok None) = found ≡ None
BeginsRecord root key found (Ok (Some stream)) = HasHead found stream.metadata
BeginsRecord root key found (Err error) = (error ≡ ReadFault) ⊎ IsNoRecord root key found error

-- a stream before the first stored byte of its record
pub record IsFresh (root key : List ℕ) (stream : OpenState) : Type 0 where
  pub opened : HasOpened stream root key []
  pub left : stream.body.left ≡ stream.metadata.size

-- ---- the whole of a record

-- All stored bytes were absorbed. The buffer has those of the value from an offset on.
pub record HasAbsorbedAll (source : Source) (old new : OpenState) (offset : ℕ) (buf : List ℕ) : Type 0 where
  pub values : List ℕ
  pub whole : length values ≡ old.metadata.size
  pub absorbed : HasAbsorbed source (metadata_size old.metadata.revision) old new values
  pub part : buf ≡ take (length buf) (drop offset values)

-- what was read of a value: its size, and its bytes from an offset on, as many as there are and fit
pub record Gives (value : List ℕ) (offset : ℕ) (found : Found) (buf : List ℕ) : Type 0 where
  pub size : found.size ≡ length value
  pub read : found.read ≤ length buf
  pub bytes : take found.read buf ≡ take (length buf) (drop offset value)

-- A record that was read is the record of its value, whatever the store tells: its tag is the CMAC of this.
pub record IsAuthentic (root key : List ℕ) (offset : ℕ) (found : Found) (buf : List ℕ) : Type 0 where
  pub metadata : Metadata
  pub value : List ℕ
  pub valid : IsMetadata metadata
  pub size : metadata.size ≡ length value
  pub flags : found.flags.bits ≡ metadata.flags
  pub tag : found.tag ≡ record_tag root key metadata (stored root key metadata.flags metadata.vector value)
  pub gives : Gives value offset found buf

-- the key's value in a plain store was sealed for it, and this is what it seals
pub record Shows (root key : List ℕ) (there : Option Stored) (offset : ℕ) (found : Found) (buf : List ℕ) : Type 0 where
  pub stored : Stored
  pub is_there : there ≡ Some stored
  pub opened : Opened
  pub unsealed : unseal root key stored.bytes ≡ Some opened
  pub flags : found.flags.bits ≡ opened.flags
  pub tag : found.tag ≡ tag_of stored.bytes
  pub long : length (tag_of stored.bytes) ≡ 16
  pub gives : Gives opened.value offset found buf

abbrev pub OpensTo : List ℕ → List ℕ → Option Stored → Result Found KvError → ℕ → List ℕ → Type 0
OpensTo root key there (Ok found) offset buf = Shows root key there offset found buf
OpensTo root key there (Err error) offset buf = (error ≡ ReadFault) ⊎ IsNoRecord root key there error

abbrev pub ShowsOr : List ℕ → List ℕ → Option Stored → Result (Option Found) KvError → ℕ → List ℕ → Type 0
ShowsOr root key there (Ok None) offset buf = there ≡ None
ShowsOr root key there (Ok (Some found)) offset buf = Shows root key there offset found buf
ShowsOr root key there (Err error) offset buf = (error ≡ ReadFault) ⊎ IsNoRecord root key there error
