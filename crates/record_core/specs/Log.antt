-- Records one directly behind another, and the map that they stand for.
use Rattle.std.specs.Prelude.{◌≡◌, ℕ, ◌+◌, ◌<◌, ◌≤◌, List, [], ◌∷◌, length}
use Rattle.flash_core.specs.Images.{part}
use Rattle.kv_model.specs.Write.{Write}
use Rattle.base_core.specs.Sizes.{record_size}
use Rattle.record_core.specs.Record.{IsRecord, record_bytes}

-- how many bytes a record takes
abbrev pub extent : ℕ → Write → ℕ
extent prog r = record_size prog (length r.key) (length r.value)

-- its one spelling
abbrev pub spelling_of : ℕ → Write → List ℕ
spelling_of prog r = record_bytes prog r.flags r.key r.value

-- this record stands at this place
abbrev pub IsRecordAt : ℕ → List ℕ → ℕ → Write → Type 0
IsRecordAt prog image place r = IsRecord prog r.flags r.key r.value (part image place (extent prog r))

-- these records stand from this place to this end, each directly behind the one before
abbrev pub AreRecords : ℕ → List ℕ → ℕ → ℕ → List Write → Type 0
AreRecords prog image place end [] = place ≡ end
AreRecords prog image place end (r ∷ rs) = IsRecordAt prog image place r × AreRecords prog image (place + extent prog r) end rs

-- these are all up to the first place that has none that ends inside the limit
pub record AreAllRecords (prog : ℕ) (image : List ℕ) (place limit end : ℕ) (records : List Write) : Type 0 where
  pub each : AreRecords prog image place end records
  pub inside : end ≤ limit
  pub no_more : (r : Write) → IsRecordAt prog image end r → limit < end + extent prog r
