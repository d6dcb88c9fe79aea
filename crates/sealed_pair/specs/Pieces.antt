-- A set that is written in pieces, on the two stores.
use Rattle.std.specs.Prelude.{◌≡◌, ℕ, false, true, ◌+◌, ◌-◌, if◌then◌else◌, List, [], ◌++◌, length, Option, Some, None}
use Rattle.kv_model.specs.declared.error.KvError.{KvError}
use Rattle.kv_model.specs.StoreState.{OpenSet}
use Rattle.secure_record.specs.declared.metadata.Metadata.{Metadata}
use Rattle.secure_record.specs.Metadata.{spelling}
use Rattle.secure_record.specs.Sealed.{seal, sealed_metadata, stored}
use Rattle.secure_record.specs.States.{SealState}
use Rattle.secure_record.specs.Streams.{HasSealed}
use Rattle.sealed_pair.specs.declared.limits.TheConstants.{SEAL_SIZE}
use Rattle.sealed_pair.specs.declared.partial.PartialSet.{PartialSet}
use Rattle.sealed_pair.specs.declared.partial.SetStart.{SetStart}
use Rattle.sealed_pair.specs.Sealing.{tag_of}
use Rattle.sealed_pair.specs.Setting.{Calls, HasFailedSet, HasMoved, MayRefuse, record_set, vector_of}

-- the number that a set took whose start left this next number
abbrev pub vector_before : ℕ → PartialSet → ℕ
vector_before next set = vector_of (next - 1) set.flags.bits

-- the metadata of its record
abbrev pub metadata_of : ℕ → PartialSet → Metadata
metadata_of next set = sealed_metadata set.size set.flags.bits (vector_before next set) set.prior

-- the bytes of its record so far
abbrev pub front_of : List ℕ → ℕ → PartialSet → List ℕ
front_of root next set =
    spelling (metadata_of next set) ++ stored root set.key (metadata_of next set).flags (metadata_of next set).vector set.value.bytes

-- those of them that the primary store has
abbrev pub fed_of : List ℕ → ℕ → PartialSet → List ℕ
fed_of root next set = if set.is_headed then front_of root next set else []

-- the set of the primary store with these bytes, and the one that is active there
abbrev pub set_with : ℕ → PartialSet → List ℕ → OpenSet
set_with who set bytes = record_set who set.key set.size set.flags.bits bytes

abbrev pub fed_set : List ℕ → ℕ → ℕ → PartialSet → OpenSet
fed_set root next who set = set_with who set (fed_of root next set)

-- The stream of a set has sealed its bytes so far, under this root key; without its metadata it has none.
pub record IsSealing (root : List ℕ) (next : ℕ) (set : PartialSet) : Type 0 where
  pub sealed : HasSealed set.stream root set.key (metadata_of next set) set.value.bytes
  pub head : set.head ≡ spelling (metadata_of next set)
  pub long : length set.head ≡ 40
  pub left : set.stream.body.left ≡ set.left
  pub started : set.is_headed ≡ false → set.value.bytes ≡ []

-- a set before its first byte
abbrev pub fresh_set : SetStart → Option (List ℕ) → List ℕ → SealState → PartialSet
fresh_set start prior head stream = record {
  key = start.key;
  flags = start.flags;
  size = start.size;
  prior = prior;
  head = head;
  is_headed = false;
  stream = stream;
  left = start.size;
  value = record { bytes = [] };
}

-- the same set with more bytes, which its record has
abbrev pub set_more : PartialSet → List ℕ → SealState → ℕ → PartialSet
set_more set bytes stream left = record {
  key = set.key;
  flags = set.flags;
  size = set.size;
  prior = set.prior;
  head = set.head;
  is_headed = true;
  stream = stream;
  left = left;
  value = record { bytes = set.value.bytes ++ bytes };
}

-- what of a set, which calls added these bytes to the primary store
abbrev pub HasFed : Calls → PartialSet → (List ℕ → ℕ → List ℕ) → Type 0
HasFed c set bytes = (root : List ℕ) (next : ℕ) → IsSealing root next set
    → HasMoved c.rules_by c.old c.new (Some (fed_set root next c.who set)) (Some (set_with c.who set (bytes root next)))

-- a call that could not add any
pub record FailsToFeed (c : Calls) (set : PartialSet) (error : KvError) : Type 0 where
  pub may : MayRefuse error
  pub failed : (root : List ℕ) (next : ℕ) → IsSealing root next set
      → HasFailedSet c.rules_by c.old c.new (Some (fed_set root next c.who set)) (record { begins = false; error = error })

-- more of the value was added
pub record HasFedMore (c : Calls) (value : List ℕ) (set later : PartialSet) : Type 0 where
  pub more : later ≡ set_more set value later.stream later.left
  pub sealing : (root : List ℕ) (next : ℕ) → IsSealing root next set → IsSealing root next later
  pub fed : HasFed c set (λ root next. front_of root next later)

-- the record of the whole value
abbrev pub whole_of : List ℕ → ℕ → PartialSet → List ℕ
whole_of root next set = seal root set.key set.flags.bits (vector_before next set) set.prior set.value.bytes

-- the whole record is there, which ends with this tag
pub record HasEndedRecord (c : Calls) (set : PartialSet) (tag : List ℕ) : Type 0 where
  pub fed : HasFed c set (λ root next. whole_of root next set)
  pub whole : (root : List ℕ) (next : ℕ) → IsSealing root next set → length set.value.bytes ≡ set.size
  pub long : (root : List ℕ) (next : ℕ) → IsSealing root next set → length (whole_of root next set) ≡ set.size + SEAL_SIZE
  pub ends : (root : List ℕ) (next : ℕ) → IsSealing root next set → tag_of (whole_of root next set) ≡ tag
