use Rattle.std.proofs.Common.{◌≡◌, sym, ◌∙◌, arith}
use Rattle.base_core.specs.Sizes.{record_size}
use Rattle.record_core.proofs.HeaderLemmas.{same_sizes}
use Rattle.record_core.proofs.reader.header_within.Goals as goal

pub returns-else-size-room-clause-none : goal.returns-else-size-room-clause-none
returns-else-size-room-clause-none c header valid is none =
    let found = c.in_ok-header.ensures.found in
    let same = same_sizes c.in_ok-header.header header found.0 valid (sym found.1 ∙ is) in
    let key_size : c.from.result ≡ header.key_size = c.from.ensures ∙ same.key_size in
    let size : record_size c.args.prog c.from.result c.in_ok-header.header.value_size ≡ record_size c.args.prog header.key_size header.value_size =
    λ i. record_size c.args.prog (key_size i) (same.value_size i) in
    omega (arith, size)
