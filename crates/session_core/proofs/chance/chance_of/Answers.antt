use Rattle.std.proofs.Common.{◌≡◌, ℕ, List, ◌∙◌, subst, rules}
use Rattle.flash_core.specs.declared.geometry.Geometry.{Geometry}
use Rattle.flash_core.specs.Images.{put}
use Rattle.flash_sim.specs.Views.{view_of}
use Rattle.session_core.specs.Search.{IsChanceIn}
use Rattle.session_core.proofs.SearchLemmas.{chance_lent}
use Rattle.session_core.proofs.chance.chance_of.Goals as goal

pub returns : goal.returns
returns c =
    let chip = view_of c.args.chip.now in
    let tear = c.in-Some.tear.now in
    let geometry = c.in_ok-flash.ensures.device.geometry_is ∙ c.geometry.ensures in
    let before : c.deref-3.result.now ≡ put chip.image tear.place tear.before.items = search rules in
    let after : c.deref-4.result.now ≡ put chip.image tear.place tear.after.items = search rules in
    let torn : c.image-3.result.now ≡ chip.image = search rules in
    let found = c.in-Ok.found in
    let here : IsChanceIn chip.geometry c.deref-3.result.now c.deref-4.result.now c.image-3.result.now found =
    subst (λ (x : Geometry). IsChanceIn x c.deref-3.result.now c.deref-4.result.now c.image-3.result.now found) geometry c.in-Ok.ensures.found in
    chance_lent chip.geometry chip.image c.in-Some.tear c.args.chip.now.tear c.in-Some.ensures found
    (subst (λ (l : List ℕ). IsChanceIn chip.geometry (put chip.image tear.place tear.before.items) (put chip.image tear.place tear.after.items) l found) torn
    (subst (λ (l : List ℕ). IsChanceIn chip.geometry (put chip.image tear.place tear.before.items) l c.image-3.result.now found) after
    (subst (λ (l : List ℕ). IsChanceIn chip.geometry l c.deref-4.result.now c.image-3.result.now found) before here)))
