-- What a look-up at a place gives, whatever bytes stand there: each answer is that of the bytes that were read.
use Rattle.std.specs.Prelude.{◌≡◌, ◌⊎◌, ℕ, ◌+◌, ◌-◌, ◌<◌, ◌≤◌, ◌^◌, List, length, slice_range, IsTrue, Result, MatchResult}
use Rattle.std.specs.Int.{w32, from_le_bytes}
use Rattle.std.specs.Option.{ForSome}
use Rattle.base_core.specs.Counts.{Rose}
use Rattle.flash_core.specs.Images.{part}
use Rattle.flash_core.specs.State.{FlashState}
use Rattle.kv_model.specs.declared.error.KvError.{KvError}
use Rattle.kv_model.specs.declared.error.KvError.TheVariants.{Corrupt, ReadFault}
use Rattle.kv_model.specs.Crc.{crc_from}
use Rattle.kv_model.specs.Keys.{is_key}
use Rattle.base_core.specs.Units.{up}
use Rattle.base_core.specs.Sizes.{record_size}
use Rattle.record_core.specs.declared.header.Header.{Header}
use Rattle.record_core.specs.declared.lookup.KeyedHeader.{KeyedHeader}
use Rattle.record_core.specs.Header.{IsValid, header_bytes}

-- A fault of a read: the count rose in this call, and the device was not steady.
pub record IsReadFault (old new : FlashState) (e : KvError) : Type 0 where
  pub is : e ≡ ReadFault
  pub rose : Rose old.read_faults new.read_faults
  pub unsteady : IsTrue old.steady → ⊥

-- The n bytes that were read from this place on: those of the image, where it is told.
pub record IsSeen (s : FlashState) (place n : ℕ) (bytes : List ℕ) : Type 0 where
  pub long : length bytes ≡ n
  pub told : ForSome s.image (λ image. bytes ≡ part image place n)

-- The CRC of the n bytes that were read from this place on, behind what gave this start.
pub record IsCrcOf (s : FlashState) (place n start sum : ℕ) : Type 0 where
  pub bytes : List ℕ
  pub seen : IsSeen s place n bytes
  pub is : sum ≡ crc_from start bytes

-- These bytes spell a header that keeps its rules, of a record that takes at most this room.
pub record IsHead (prog room : ℕ) (bytes : List ℕ) (header : Header) : Type 0 where
  pub spelled : bytes ≡ header_bytes header
  pub valid : IsValid header
  pub fits : header.crc < 2 ^ 32
  pub within : record_size prog header.key_size header.value_size ≤ room

-- what is answered of bytes that spell none: the CRC that they have where a header has it, and the complement of that
abbrev pub broken_answer : List ℕ → KvError
broken_answer bytes = Corrupt (from_le_bytes w32 (slice_range bytes 20 24)) (2 ^ 32 - 1 - from_le_bytes w32 (slice_range bytes 20 24))

-- The bytes that were read at this place spell this header.
pub record HeadSeen (s : FlashState) (place room : ℕ) (header : Header) : Type 0 where
  pub bytes : List ℕ
  pub seen : IsSeen s place 24 bytes
  pub head : IsHead s.geometry.prog room bytes header

-- They spell none.
pub record HeadBroken (s : FlashState) (place room : ℕ) (e : KvError) : Type 0 where
  pub bytes : List ℕ
  pub seen : IsSeen s place 24 bytes
  pub none : (header : Header) → IsHead s.geometry.prog room bytes header → ⊥
  pub is : e ≡ broken_answer bytes

-- the header at this place, or why there is none
abbrev pub ReadsHeader : FlashState → FlashState → ℕ → ℕ → Result Header KvError → Type 0
ReadsHeader old new place room result = MatchResult result (HeadSeen old place room) (λ e. IsReadFault old new e ⊎ HeadBroken old place room e)

-- The bytes that were read at this place spell this header, and those behind it are this key.
pub record KeyedSeen (s : FlashState) (place room : ℕ) (header : Header) (key : List ℕ) : Type 0 where
  pub head : HeadSeen s place room header
  pub seen : IsSeen s (place + up s.geometry.prog 24) header.key_size key
  pub valid : IsTrue (is_key key)

-- The bytes that were read behind the header at this place are this key.
pub record KeySeen (s : FlashState) (place room : ℕ) (key : List ℕ) : Type 0 where
  pub header : Header
  pub head : HeadSeen s place room header
  pub seen : IsSeen s (place + up s.geometry.prog 24) header.key_size key
  pub valid : IsTrue (is_key key)

-- They are no key.
pub record KeyBroken (s : FlashState) (place room : ℕ) (e : KvError) : Type 0 where
  pub header : Header
  pub head : HeadSeen s place room header
  pub key : List ℕ
  pub seen : IsSeen s (place + up s.geometry.prog 24) header.key_size key
  pub no_key : IsTrue (is_key key) → ⊥
  pub is : e ≡ broken_answer head.bytes

-- the key of the record at this place, or why there is none
abbrev pub ReadsKey : FlashState → FlashState → ℕ → ℕ → Result (List ℕ) KvError → Type 0
ReadsKey old new place room result = MatchResult result (KeySeen old place room)
    (λ e. IsReadFault old new e ⊎ (HeadBroken old place room e ⊎ KeyBroken old place room e))

-- the header of the record at this place with its key, or why there is none
abbrev pub ReadsKeyed : FlashState → FlashState → ℕ → ℕ → Result KeyedHeader KvError → Type 0
ReadsKeyed old new place room result = MatchResult result (λ keyed. KeyedSeen old place room keyed.header keyed.key)
    (λ e. IsReadFault old new e ⊎ (HeadBroken old place room e ⊎ KeyBroken old place room e))
