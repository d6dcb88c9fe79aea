use Rattle.std.proofs.Common.{ℕ, ◌+◌, ◌≤◌, List, lit≤, sym, ◌∙◌, subst}
use Rattle.flash_core.specs.declared.geometry.Geometry.{Geometry}
use Rattle.flash_core.specs.Images.{IsErased}
use Rattle.flash_core.proofs.ImageLaws.{IsErased-replicate}
use Rattle.base_core.specs.Sizes.{master_size}
use Rattle.base_core.specs.Units.{up}
use Rattle.std.proofs.lemmas.Option.{same_Some}
use Rattle.record_core.proofs.writer_tests.master_over_log.Goals as goal

master_fits : 256 + master_size 8 ≤ 512
unfolding up
master_fits = lit≤ tt

pub write_master-requires-clause-erased : goal.write_master-requires-clause-erased
write_master-requires-clause-erased g c = λ image told.
    let fresh = c.in_ok-flash.ensures in
    subst (λ (x : Geometry). IsErased image 256 (master_size x.prog)) (sym fresh.geometry_is)
    (subst (λ (l : List ℕ). IsErased l 256 (master_size 8)) (same_Some _ image (sym fresh.image_is ∙ told)) (IsErased-replicate 512 256 (master_size 8) master_fits))
