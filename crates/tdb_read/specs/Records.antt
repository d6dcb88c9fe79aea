-- The records of a log as an image spells them, from their first place to their end.
use Rattle.std.specs.Prelude.{ℕ, zero, suc, ◌+◌, nat_lt, if◌then◌else◌, List, [], ◌∷◌, slice_range}
use Rattle.std.specs.Int.{w16, w32, from_le_bytes}
use Rattle.base_core.specs.Units.{up}
use Rattle.flash_core.specs.Images.{part}
use Rattle.kv_model.specs.Write.{Write}
use Rattle.record_core.specs.Log.{extent}

-- what the header at this place says, and the key and the value that stand behind it
unfoldable pub record_at : ℕ → List ℕ → ℕ → Write
record_at prog image place =
    let header : List ℕ = part image place 24 in
    let key_size : ℕ = from_le_bytes w16 (slice_range header 12 14) in
    record {
      flags = from_le_bytes w32 (slice_range header 8 12);
      key = part image (place + up prog 24) key_size;
      value = part image (place + (up prog 24 + key_size)) (from_le_bytes w32 (slice_range header 16 20));
    }

-- at most so many records, one directly behind another, up to this end
unfoldable pub some_records : ℕ → List ℕ → ℕ → ℕ → ℕ → List Write
some_records prog image end zero place = []
some_records prog image end (suc most) place =
    if nat_lt place end
    then record_at prog image place ∷ some_records prog image end most (place + extent prog (record_at prog image place))
    else []

-- all of them: each takes some bytes
unfoldable pub records_between : ℕ → List ℕ → ℕ → ℕ → List Write
records_between prog image place end = some_records prog image end end place
