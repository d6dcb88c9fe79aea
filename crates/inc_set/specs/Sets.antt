-- A set that is fed its value in pieces, and what stands of it.
use Rattle.std.specs.Prelude.{◌≡◌, ℕ, ◌+◌, ◌-◌, ◌≤◌, List, ◌++◌, length, drop, IsTrue, Option, Some}
use Rattle.std.specs.Option.{ForSome}
use Rattle.base_core.specs.Units.{IsMultipleOf, up}
use Rattle.base_core.specs.Sizes.{record_size}
use Rattle.flash_core.specs.declared.geometry.Geometry.{Geometry}
use Rattle.flash_core.specs.Images.{IsErased, part, put}
use Rattle.flash_core.specs.Sizes.{IsValid}
use Rattle.flash_core.specs.Runs.{Ending, RunsBy}
use Rattle.flash_core.specs.State.{FlashState}
use Rattle.kv_model.specs.Crc.{crc_from, crc_of}
use Rattle.kv_model.specs.Keys.{is_key}
use Rattle.kv_model.specs.Write.{Write}
use Rattle.record_core.specs.Cuts.{IsInArea}
use Rattle.record_core.specs.Header.{IsHeader, header_bytes, header_front}
use Rattle.record_core.specs.Log.{IsRecordAt, spelling_of}
use Rattle.record_core.specs.Record.{padded}
use Rattle.record_core.specs.Written.{AppendsRecord}
use Rattle.inc_set.specs.declared.open_set.OpenSet.{OpenSet}
use Rattle.inc_set.specs.Programs.{IfDone, Programs}
use Rattle.inc_set.specs.Units.{IsHeld, programmed, programmed_size, rest_of}

-- how many bytes the record will take
abbrev pub set_size : ℕ → OpenSet → ℕ
set_size prog set = record_size prog (length set.key) set.size

-- the place of its first byte behind the header
abbrev pub payload_place : ℕ → OpenSet → ℕ
payload_place prog set = set.at + up prog 24

-- how much of it is programmed
abbrev pub done_size : ℕ → OpenSet → ℕ
done_size prog set = programmed_size prog (length set.key) set.fed

-- The set's record, which a header may have, lies in an area of the device, and the buffer has one program unit.
pub record IsPlaced (g : Geometry) (rest : List ℕ) (set : OpenSet) : Type 0 where
  pub valid : IsValid g
  pub unit : length rest ≡ g.prog
  pub key : IsTrue (is_key set.key)
  pub header : IsHeader set.flags (length set.key) set.size
  pub fed : set.fed ≤ set.size
  pub aligned : IsMultipleOf g.prog set.at
  pub area : ℕ
  pub inside : IsInArea g area set.at (set_size g.prog set)

-- What of the record's range is not yet programmed is erased.
pub record IsAhead (g : Geometry) (image : List ℕ) (set : OpenSet) : Type 0 where
  pub header : IsErased image set.at (up g.prog 24)
  pub payload : IsErased image (payload_place g.prog set + done_size g.prog set) (up g.prog (length set.key + set.size) - done_size g.prog set)

-- The image has every whole unit of the key and the bytes behind the header's place, none before the first byte. The
-- buffer begins with what remains of them below a unit. The set counts the bytes, and has the CRC of the header's front,
-- the key and the bytes.
pub record HasBytes (g : Geometry) (told : Option (List ℕ)) (rest : List ℕ) (set : OpenSet) (bytes : List ℕ) : Type 0 where
  pub count : set.fed ≡ length bytes
  pub crc : set.crc ≡ crc_of (header_front set.flags (length set.key) set.size ++ set.key ++ bytes)
  pub stands : ForSome told (λ image. part image (payload_place g.prog set) (length (programmed g.prog set.key bytes)) ≡ programmed g.prog set.key bytes)
  pub waits : IsHeld rest (rest_of g.prog (set.key ++ bytes))

-- The set holds these bytes.
pub record Holds (g : Geometry) (told : Option (List ℕ)) (rest : List ℕ) (set : OpenSet) (bytes : List ℕ) : Type 0 where
  pub placed : IsPlaced g rest set
  pub ahead : ForSome told (λ image. IsAhead g image set)
  pub has : HasBytes g told rest set bytes

-- the set with these bytes more
abbrev pub with_bytes : OpenSet → List ℕ → OpenSet
with_bytes set bytes = record set { fed = set.fed + length bytes; crc = crc_from set.crc bytes }

-- what of these bytes is programmed anew behind others
abbrev pub new_units : ℕ → List ℕ → List ℕ → List ℕ → List ℕ
new_units prog key before bytes = drop (length (programmed prog key before)) (programmed prog key (before ++ bytes))

-- Over the bytes that a set holds, a call programs each unit that these bytes complete.
abbrev pub Feeds : FlashState → FlashState → List ℕ → OpenSet → List ℕ → Ending → Type 0
Feeds old new rest set bytes ending =
    (before : List ℕ) → Holds old.geometry old.image rest set before
    → Programs old new (payload_place old.geometry.prog set + done_size old.geometry.prog set) (new_units old.geometry.prog set.key before bytes) ending

-- the record of these bytes
abbrev pub record_of : OpenSet → List ℕ → Write
record_of set bytes = record { flags = set.flags; key = set.key; value = bytes }

-- a set of which no byte came yet
abbrev pub opened : List ℕ → ℕ → ℕ → ℕ → OpenSet
opened key flags size at = record { key = key; flags = flags; size = size; fed = 0; at = at; crc = crc_of (header_front flags (length key) size ++ key) }

-- a set's header, padded
abbrev pub header_units : ℕ → OpenSet → List ℕ
header_units prog set = padded prog (header_bytes (record { flags = set.flags; key_size = length set.key; value_size = set.size; crc = set.crc }))

-- Over the bytes that a set holds, a call writes what is left of their record, the header last; unless a program failed
-- the record stands.
pub record Appended (old new : FlashState) (set : OpenSet) (bytes : List ℕ) (ending : Ending) : Type 0 where
  pub runs : RunsBy old new (AppendsRecord old.geometry.prog set.at (record_of set bytes)) ending
  pub written : ForSome old.image (λ image. IfDone ending (new.image ≡ Some (put image set.at (spelling_of old.geometry.prog (record_of set bytes)))))

abbrev pub Appends : FlashState → FlashState → List ℕ → OpenSet → Ending → Type 0
Appends old new rest set ending = (bytes : List ℕ) → Holds old.geometry old.image rest set bytes → Appended old new set bytes ending

-- at this place no record stands
abbrev pub HasNoRecord : ℕ → List ℕ → ℕ → Type 0
HasNoRecord prog image place = (r : Write) → IsRecordAt prog image place r → ⊥
