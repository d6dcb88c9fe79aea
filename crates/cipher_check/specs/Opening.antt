-- What the opening of a record gives.
use Rattle.std.specs.Prelude.{◌≡◌, ℕ, ◌+◌, ◌≤◌, List, length, slice_range, Option, Some, None, Result, Ok, Err}
use Rattle.kv_model.specs.declared.error.KvError.{KvError}
use Rattle.kv_model.specs.declared.error.KvError.TheVariants.{AuthFailed}
use Rattle.secure_record.specs.Unseal.{Opened}
use Rattle.cipher_check.specs.declared.records.Opening.{Opening}

-- the flags and the place of the value that the record seals
pub record IsOpening (opening : Opening) (record_now : List ℕ) (found : Option Opened) : Type 0 where
  pub within : opening.start + opening.size ≤ length record_now
  pub vector : ℕ
  pub found_is : found ≡ Some (record {
    flags = opening.flags.bits;
    vector = vector;
    value = slice_range record_now opening.start (opening.start + opening.size);
  })

-- the value stands in its place, or the record seals nothing
abbrev pub Gives : Result Opening KvError → List ℕ → Option Opened → Type 0
Gives (Ok opening) record_now found = IsOpening opening record_now found
Gives (Err e) record_now found = (found ≡ None) × (e ≡ AuthFailed)
