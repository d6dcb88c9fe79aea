use Rattle.std.proofs.Common.{◌≡◌, ◌∙◌, ap}
use Rattle.std.specs.Prelude.{IsTrue, ◌↔◌, ◌-◌}
use Rattle.flash_core.specs.declared.geometry.Geometry.{Geometry}
use Rattle.flash_core.specs.Images.{IsErased}
use Rattle.area_log.specs.Areas.{end_of}
use Rattle.tdb_mount.specs.Room.{area_of}
use Rattle.kv_tools.proofs.CheckLemmas.{facts_are}
use Rattle.kv_tools.proofs.check.facts_of.Goals as goal

pub returns-clause-facts : goal.returns-clause-facts
returns-clause-facts g c image told =
    let s = g.F.Flash.state c.args.flash.now in
    let found = c.in_ok-found.found in
    let same : c.area_at-area.result ≡ area_of s.geometry c.args.number = c.area_at-area.ensures.area ∙ ap (λ (x : Geometry). area_of x c.args.number) c.geometry.ensures in
    let tail : IsTrue c.is_clean_from-is_clean.result ↔ IsErased image found.end (end_of c.area_at-area.result - found.end) =
    c.is_clean_from-is_clean.ensures.clean image (c.in_ok-found.ensures.reads.image ∙ told) in
    facts_are s.geometry image c.args.active c.args.version c.args.number found c.is_number_of.result c.is_clean_from-is_clean.result c.is_number_of.ensures
    c.area_at-area.result same c.in_ok-found.ensures.end (c.in_ok-found.ensures.found image told) tail
