-- A loop that feeds a value in pieces, to a set at a place of a small device.
use Rattle.std.proofs.Common.{◌≡◌, ℕ, ◌+◌, ◌-◌, ◌*◌, ◌≤◌, List, ◌++◌, length, take, drop, Option, refl, sym, ◌∙◌, ap, inl, arith}
use Rattle.std.proofs.Math.Seq.{take-add}
use Rattle.flash_core.specs.declared.geometry.Geometry.{Geometry}
use Rattle.flash_core.specs.Images.{IsErased}
use Rattle.flash_core.specs.Sizes.{size_of}
use Rattle.flash_core.proofs.ImageLaws.{IsErased-within}
use Rattle.record_core.specs.Cuts.{IsInArea}
use Rattle.inc_set.specs.declared.open_set.OpenSet.{OpenSet}
use Rattle.inc_set.specs.Sets.{Holds}

-- The set holds the first of the value's bytes.
pub record HoldsSoMany (g : Geometry) (told : Option (List ℕ)) (rest : List ℕ) (set : OpenSet) (value : List ℕ) (done : ℕ) : Type 0 where
  pub holds : Holds g told rest set (take done value)
  pub size : set.size ≡ length value
  pub within : done ≤ length value

pub one_piece : (value : List ℕ) (done count : ℕ) → take done value ++ take (done + count - done) (drop done value) ≡ take (done + count) value
one_piece value done count =
    let same : done + count - done ≡ count = omega arith in
    ap (λ (n : ℕ). take done value ++ take n (drop done value)) same ∙ sym (take-add done count value)

pub in_first_area : (g : Geometry) (size : ℕ) → g.erase ≡ 4096 → g.units_per_area ≡ 8 → size ≤ 24576 → IsInArea g 0 8192 size
in_first_area g size erase units small =
    let area : g.units_per_area * g.erase ≡ 32768 = λ i. units i * erase i in
    record { number = inl refl; from = omega arith; to = omega (arith, area, small) }

pub erased_there : (g : Geometry) (image : List ℕ) (size : ℕ) → g.erase ≡ 4096 → g.units_per_area ≡ 8 → size ≤ 24576 → IsErased image 0 (size_of g) → IsErased image 8192 size
erased_there g image size erase units small erased =
    let whole : 2 * g.units_per_area * g.erase ≡ 65536 = λ i. 2 * units i * erase i in
    IsErased-within image 0 (size_of g) 8192 size erased (omega arith) (omega (arith, whole, small))
