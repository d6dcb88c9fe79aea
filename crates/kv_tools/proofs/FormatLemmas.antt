-- The image that a format makes.
use Rattle.std.proofs.Common.{◌≡◌, ℕ, ◌+◌, ◌-◌, List, ◌++◌, length, replicate, ◌∙◌, ap, subst, zero-add}
use Rattle.std.specs.Prelude.{Option, Some}
use Rattle.std.proofs.lemmas.List.{drop-replicate}
use Rattle.base_core.specs.Sizes.{master_size}
use Rattle.flash_core.specs.declared.geometry.Geometry.{Geometry}
use Rattle.flash_core.specs.Images.{put}
use Rattle.flash_core.specs.Runs.{IsCause, RunsBy}
use Rattle.flash_core.specs.Sizes.{IsValid, size_of}
use Rattle.flash_core.specs.State.{DeviceCall, FlashState}
use Rattle.flash_core.proofs.GeometryLaws.{prog_positive}
use Rattle.flash_sim.specs.ChipState.{ChipState, device_of, new_chip}
use Rattle.flash_sim.specs.Plan.{names_from}
use Rattle.kv_model.specs.declared.error.KvError.{KvError}
use Rattle.kv_model.specs.declared.error.KvError.TheVariants.{WriteFault}
use Rattle.record_core.specs.Endings.{kv_ending}
use Rattle.record_core.specs.Record.{master_bytes}
use Rattle.record_core.proofs.MountLemmas.{length-master_bytes}
use Rattle.tdb_mount.proofs.MountLemmas.{some_is}
use Rattle.kv_tools.specs.Formatting.{formatted_image}

-- a new chip is sound: no write of it fails
pub no_write_fails : (g : Geometry) (bytes : List ℕ) (chip : ChipState) (new : FlashState) (R : List ℕ → Option DeviceCall → List ℕ → Type 0) (e : KvError)
    → chip ≡ new_chip g bytes → e ≡ WriteFault → RunsBy (device_of chip) new R (kv_ending e) → ⊥
unfolding names_from
no_write_fails g bytes chip new R e fresh is runs =
    let failed : IsCause (device_of chip) new (kv_ending WriteFault) = subst (λ (x : KvError). IsCause (device_of chip) new (kv_ending x)) is runs.cause in
    failed.1 (ap (λ (c : ChipState). (device_of c).sound) fresh)

-- a master record at the front of erased bytes
pub formatted_is : (g : Geometry) → IsValid g → (bytes left : List ℕ) (chip : ChipState) → bytes ≡ replicate (size_of g) 255 → chip ≡ new_chip g bytes
    → Some left ≡ Some (put chip.image 0 (master_bytes chip.geometry.prog 1)) → left ≡ formatted_image g
formatted_is g valid bytes left chip erased fresh written =
    let master : List ℕ = master_bytes g.prog 1 in
    let long : 0 + length master ≡ master_size g.prog = zero-add (length master) ∙ length-master_bytes g.prog (prog_positive g valid) 1 in
    some_is left _ written
    ∙ ap (λ (c : ChipState). put c.image 0 (master_bytes c.geometry.prog 1)) fresh
    ∙ ap (λ (b : List ℕ). put b 0 master) erased
    ∙ ap (λ (b : List ℕ). master ++ b) (drop-replicate (0 + length master) (size_of g) 255)
    ∙ ap (λ (n : ℕ). master ++ replicate (size_of g - n) 255) long
