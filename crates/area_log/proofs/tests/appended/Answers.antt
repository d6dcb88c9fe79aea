use Rattle.std.proofs.Common.{◌≡◌, ℕ, ◌<◌, ◌≤◌, ◌+◌, ◌-◌, List, replicate, length, Some, Option, subst, ap, rules}
use native.Mathlib.Omega.{arith}
use Rattle.std.specs.Prelude.{slice_index}
use Rattle.std.proofs.lemmas.List.{get_or-replicate}
use Rattle.base_core.specs.Sizes.{record_size}
use Rattle.area_log.proofs.tests.appended.Goals as goal

bytes_of_erased : (image x : List ℕ) (i : ℕ) → Some image ≡ Some (replicate 512 255) → Some image ≡ Some x → i < 512 → slice_index x i ≡ 255
bytes_of_erased image x i is told below =
    let same : replicate 512 255 ≡ x = cc in
    subst (λ (l : List ℕ). slice_index l i ≡ 255) same (get_or-replicate 512 i 255 0 below)

pub append_record-requires-clause-erased : goal.append_record-requires-clause-erased
append_record-requires-clause-erased g c x told i from to =
    let low : c.args.at ≤ 128 = search rules in
    let fits : c.size_of_record-size.result ≤ 256 - c.args.at = search rules in
    let sized = c.size_of_record-size.ensures in
    let flash = c.in_ok-flash.flash in
    let unit : flash.geometry.prog ≡ c.args.prog = search rules in
    let key : length c.in_ok-key.key ≡ 1 = ap length c.in_ok-key.ensures.bytes in
    let size : record_size flash.geometry.prog (length c.in_ok-key.key) (length c.args.value.now) ≡ c.size_of_record-size.result = cc in
    let below : i < 512 = omega (arith, size, low, fits, to) in
    bytes_of_erased flash.image.items x i c.in_ok-flash.ensures.image_is told below
