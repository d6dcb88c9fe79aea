-- A record written to a device, its payload first and its header last.
use Rattle.std.specs.Prelude.{◌≡◌, ◌⊎◌, ℕ, ◌+◌, ◌≤◌, List, length, take, Option, Some, None}
use Rattle.std.specs.Option.{ForSome}
use Rattle.base_core.specs.Units.{IsMultipleOf}
use Rattle.flash_core.specs.declared.geometry.Geometry.{Geometry}
use Rattle.flash_core.specs.Calls.{IsMomentWithin}
use Rattle.flash_core.specs.Images.{part, put, IsErased}
use Rattle.flash_core.specs.Sizes.{area_size, size_of}
use Rattle.flash_core.specs.State.{DeviceCall, FlashState}
use Rattle.flash_core.specs.TwoPrograms.{payload_put}
use Rattle.kv_model.specs.Keys.{master_key}
use Rattle.kv_model.specs.Write.{Write}
use Rattle.record_core.specs.Record.{master_value, record_header, record_payload}

-- the place of an area's first byte
abbrev pub IsArea : Geometry → ℕ → Type 0
IsArea g area = (area ≡ 0) ⊎ (area ≡ area_size g)

-- n bytes from this place on may be written: whole units, erased, in the image
pub record CanWrite (s : FlashState) (place n : ℕ) : Type 0 where
  pub aligned : IsMultipleOf s.geometry.prog place
  pub inside : place + n ≤ size_of s.geometry
  pub erased : ForSome s.image (λ image. IsErased image place n)

-- Between programs: the first of these bytes, whole units of them, stand from this place on, and no other byte differs.
pub record FirstUnits (prog place : ℕ) (bytes image c : List ℕ) : Type 0 where
  pub done : ℕ
  pub whole : IsMultipleOf prog done
  pub most : done ≤ length bytes
  pub is : c ≡ put image place (take done bytes)

-- Inside the program of the units right behind these.
pub record InUnits (prog place : ℕ) (bytes image : List ℕ) (call : DeviceCall) (c : List ℕ) : Type 0 where
  pub done : ℕ
  pub count : ℕ
  pub whole : IsMultipleOf prog done
  pub within : done + count ≤ length bytes
  pub moment : IsMomentWithin (put image place (take done bytes)) (place + done) (part bytes done count) (Some call) c

-- a moment at which bytes are programmed from this place on, in ascending order and each unit once
abbrev pub Ascends : ℕ → ℕ → List ℕ → List ℕ → Option DeviceCall → List ℕ → Type 0
Ascends prog place bytes image None c = FirstUnits prog place bytes image c
Ascends prog place bytes image (Some call) c = InUnits prog place bytes image call c

-- a moment of the write of a record: of its payload, in ascending order, and when that is whole of its header's program
abbrev pub WritesRecord : ℕ → ℕ → List ℕ → List ℕ → List ℕ → Option DeviceCall → List ℕ → Type 0
WritesRecord prog place header payload image call c =
    Ascends prog (place + length header) payload image call c
    ⊎ IsMomentWithin (payload_put image place header payload) place header call c

-- the same by the record that is written
abbrev pub AppendsRecord : ℕ → ℕ → Write → List ℕ → Option DeviceCall → List ℕ → Type 0
AppendsRecord prog place r = WritesRecord prog place (record_header prog r.flags r.key r.value) (record_payload prog r.key r.value)

-- a master record as one that is written
abbrev pub master_of : ℕ → Write
master_of version = record { flags = 0; key = master_key; value = master_value version }
