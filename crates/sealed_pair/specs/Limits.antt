-- Which states of a secure store there are.
use Rattle.std.specs.Prelude.{◌≡◌, ℕ, ◌≤◌, ◌+◌, ◌||◌, IsTrue, true, false, List, length, IfSome, MatchBool}
use Rattle.base_core.specs.Sizes.{record_size}
use Rattle.kv_model.specs.Constants.{Constants}
use Rattle.kv_model.specs.Flags.{is_mirrored, is_secure_flags, is_write_once}
use Rattle.kv_model.specs.Limits.{Starts, IsWithin}
use Rattle.kv_model.specs.PlainStep.{flags_in}
use Rattle.kv_model.specs.Sizes.{used}
use Rattle.kv_model.specs.StoreState.{Maps, StoreState, OpenSet, maps_of}
use Rattle.sealed_pair.specs.declared.limits.TheConstants.{MAX_SECURE_VALUE, SEAL_SIZE}
use Rattle.sealed_pair.specs.Sealing.{secure_of}
use Rattle.sealed_pair.specs.Heal.{needed_for_tag}
use Rattle.sealed_pair.specs.SecureStep.{takes_number}

-- what a secure store lets begin
abbrev pub secure_starts : Starts
secure_starts = record {
  may_start = λ flags size. IsTrue (is_secure_flags flags) × (size ≤ MAX_SECURE_VALUE);
  takes_number = takes_number;
}

abbrev pub IsSecure : StoreState → Type 0
IsSecure state = IsWithin secure_starts state

-- what a set that has begun will store has room in both stores, and none of them holds its key write-once
pub record IsReserved (constants : Constants) (maps : Maps) (key : List ℕ) (size flags : ℕ) : Type 0 where
  pub room : used constants.prog maps.primary + record_size constants.prog (length key) (size + SEAL_SIZE) ≤ constants.room
  pub room_beside : is_mirrored flags ≡ true → needed_for_tag (secure_of constants) maps key ≤ (secure_of constants).room
  pub free : is_write_once (flags_in maps.primary key) || is_write_once (flags_in maps.rollback key) ≡ false

abbrev pub ForActive : Constants → Maps → OpenSet → Type 0
ForActive constants maps set = MatchBool set.is_remove (Unit {0}) (IsReserved constants maps set.key set.size set.flags)

-- The records of both maps fit in the rooms of their stores, and with them what the active set will store.
pub record HasRooms (constants : Constants) (state : StoreState) : Type 0 where
  pub primary : used constants.prog state.primary ≤ constants.room
  pub rollback : used (secure_of constants).prog state.rollback ≤ (secure_of constants).room
  pub reserved : IfSome state.open_set (ForActive constants (maps_of state))
