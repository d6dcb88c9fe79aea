use Rattle.std.proofs.Common.{◌≡◌, ◌∙◌, refl, replicate, rules}
use Rattle.flash_core.specs.Sizes.{size_of}
use Rattle.kv_tools.proofs.FormatLemmas.{formatted_is, no_write_fails}
use Rattle.kv_tools.proofs.format.format_image.Goals as goal

pub unreachable-requires : goal.unreachable-requires
unreachable-requires c = no_write_fails _ _ _ _ _ _ c.new-chip.ensures c.in-Err.ensures.fault c.in-Err.ensures.runs

pub returns : goal.returns
returns c =
    let erased : c.in_ok-image.image.items ≡ replicate (size_of c.args.geometry) 255 = search rules in
    c.into_image.ensures ∙ formatted_is _ c.requires _ _ _ erased c.new-chip.ensures (c.in-Ok.ensures.written _ refl)
