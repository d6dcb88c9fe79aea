use Rattle.std.proofs.Common.{◌≡◌, rules}
use Rattle.kv_tools.proofs.MountLemmas.{held_so, listed_so}
use Rattle.kv_tools.proofs.list.list_image.Goals as goal

pub list_parts-requires-clause-there : goal.list_parts-requires-clause-there
list_parts-requires-clause-there c =
    let device = c.in_ok-flash.ensures.device in
    let copied : c.in_ok-to_vec.field-0.items ≡ c.args.image.now = search rules in
    let mounted = c.in_ok-parts.ensures.mounted c.in_ok-to_vec.field-0.items device.image_is in (
      mounted.0,
      mounted.1,
      held_so c.args.geometry _ _ c.requires.valid device.geometry_is c.in_ok-parts.ensures.geometry c.args.hash_bits c.args.image.now _ mounted.0 copied c.in_ok-parts.parts mounted.2,
    )

pub returns : goal.returns
returns c =
    let device = c.in_ok-flash.ensures.device in
    let copied : c.in_ok-to_vec.field-0.items ≡ c.args.image.now = search rules in
    let mounted = c.in_ok-parts.ensures.mounted c.in_ok-to_vec.field-0.items device.image_is in
    listed_so c.args.geometry _ _ c.requires.valid device.geometry_is c.in_ok-parts.ensures.geometry c.args.hash_bits c.args.image.now _ mounted.0 copied c.in_ok-parts.parts mounted.2
    c.list_parts.result (c.list_parts.ensures mounted.0 mounted.1)
