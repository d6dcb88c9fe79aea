use Rattle.std.proofs.Common.{◌≡◌, List, ℕ, true, ap, refl, ◌∙◌}
use Rattle.flash_core.specs.declared.geometry.Geometry.{Geometry}
use Rattle.flash_sim.specs.ChipState.{ChipState, device_of, new_chip}
use Rattle.flash_sim.specs.Plan.{names_from}
use Rattle.serve_core.proofs.tests.session_over.Goals as goal

new_sound : (g : Geometry) (image : List ℕ) → (device_of (new_chip g image)).sound ≡ true
unfolding names_from
new_sound g image = refl

-- no call of a new chip is to fail
sound_by : {g : Geometry} {image : List ℕ} {chip : ChipState} → chip ≡ new_chip g image → (device_of chip).sound ≡ true
sound_by {g = g} {image = image} is = ap (λ (c : ChipState). (device_of c).sound) is ∙ new_sound g image

pub plain-requires-clause-sound : goal.plain-requires-clause-sound
plain-requires-clause-sound g c = sound_by c.new.ensures
