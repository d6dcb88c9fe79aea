use Rattle.std.proofs.Common.{◌≡◌, List, ℕ, ◌+◌, ◌*◌, ◌≤◌, ◌%◌, replicate, refl, lit≤, sym, ◌∙◌, subst}
use Rattle.std.specs.Prelude.{Some}
use Rattle.flash_core.specs.Calls.{CanProgram}
use Rattle.flash_core.specs.Images.{IsErased}
use Rattle.flash_core.specs.State.{FlashState}
use Rattle.flash_core.specs.declared.geometry.Geometry.{Geometry}
use Rattle.flash_core.specs.declared.tests.TheConstants.{SMALL}
use Rattle.flash_core.proofs.ImageLaws.{IsErased-replicate}
use Rattle.flash_core.proofs.tests.program_both.Goals as goal

some_is : {X : Type 0} (x y : X) → Some x ≡ Some y → x ≡ y
some_is x y same = cc

-- a range of an erased device
can_program : (s : FlashState) (place n : ℕ) → s.geometry ≡ SMALL → s.image ≡ Some (replicate 256 255) → place % 8 ≡ 0 → n % 8 ≡ 0 → 8 ≤ n → n ≤ 64 → place + n ≤ 256 → CanProgram s place n
can_program s place n geometry_is image_is place_aligned length_aligned at_least at_most inside = record {
  place_aligned = subst (λ (g : Geometry). place % g.prog ≡ 0) (sym geometry_is) place_aligned;
  length_aligned = subst (λ (g : Geometry). n % g.prog ≡ 0) (sym geometry_is) length_aligned;
  at_least = subst (λ (g : Geometry). g.prog ≤ n) (sym geometry_is) at_least;
  at_most = subst (λ (g : Geometry). n ≤ g.erase) (sym geometry_is) at_most;
  inside = subst (λ (g : Geometry). place + n ≤ 2 * g.units_per_area * g.erase) (sym geometry_is) inside;
  erased = λ image told. subst (λ (l : List ℕ). IsErased l place n) (some_is _ image (sym image_is ∙ told)) (IsErased-replicate 256 place n inside);
}

pub program_payload_then_header-requires-clause-header : goal.program_payload_then_header-requires-clause-header
program_payload_then_header-requires-clause-header c = can_program _ 64 24 c.requires.geometry c.requires.erased refl refl (lit≤ tt) (lit≤ tt) (lit≤ tt)

pub program_payload_then_header-requires-clause-payload : goal.program_payload_then_header-requires-clause-payload
program_payload_then_header-requires-clause-payload c = can_program _ 88 16 c.requires.geometry c.requires.erased refl refl (lit≤ tt) (lit≤ tt) (lit≤ tt)
