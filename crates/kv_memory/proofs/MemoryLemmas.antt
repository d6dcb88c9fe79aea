-- What a store in memory keeps: its values are short, and the active set has its room.
use Rattle.std.proofs.Common.{◌≡◌, ℕ, ◌<◌, ◌≤◌, List, length, Option, Some, ap, arith}
use Rattle.std.specs.Option.{option_map_or}
use Rattle.std.specs.FinMap.{get}
use Rattle.base_core.specs.Sizes.{record_size}
use Rattle.kv_model.specs.FlaggedMap.{FlaggedMap, Stored}
use Rattle.kv_model.specs.Sizes.{used}
use Rattle.kv_model.specs.StoreState.{OpenSet}
use Rattle.kv_model.proofs.UsedLemmas.{used-at_least}
use Rattle.kv_memory.specs.EntriesState.{EntriesState}
use Rattle.kv_memory.specs.HeldSets.{with_bytes}
use Rattle.kv_memory.specs.Telling.{IsReady}
use Rattle.kv_memory.proofs.WalkLemmas.{payload_within}

pub same_some : {X : Type 0} (x y : X) → Some x ≡ Some y → x ≡ y
same_some x y is = cc

-- no value is longer than what the map uses
pub value_within : (prog : ℕ) (m : FlaggedMap) (key : List ℕ) (stored : Stored) → 0 < prog → get m key ≡ Some stored
    → length stored.bytes ≤ used prog m
value_within prog m key stored positive there =
    let size = ap (λ (found : Option Stored). option_map_or (λ (s : Stored). record_size prog (length key) (length s.bytes)) found 0) there in
    omega (arith, size, used-at_least prog m key, payload_within prog (length key) (length stored.bytes) positive)

-- more bytes change neither the room nor the place of a set
pub ready_with : (prog room : ℕ) (entries : EntriesState) (set : OpenSet) (value : List ℕ) → IsReady prog room entries set
    → IsReady prog room entries (with_bytes set value)
ready_with prog room entries set value ready = record { reserved = ready.reserved; spare = ready.spare }
