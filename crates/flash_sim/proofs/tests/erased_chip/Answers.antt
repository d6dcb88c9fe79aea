use Rattle.std.proofs.Common.{◌≡◌, replicate, rules, ap, ◌∙◌}
use Rattle.flash_sim.specs.ChipState.{new_chip}
use Rattle.flash_sim.specs.declared.tests.TheConstants.{SMALL}
use Rattle.flash_sim.proofs.tests.erased_chip.Goals as goal

pub returns : goal.returns
returns c =
    let is : c.in_ok-image.image.items ≡ replicate 256 255 = search rules in
    c.new.ensures ∙ ap (new_chip SMALL) is
