use Rattle.std.proofs.Common.{ℕ, ◌+◌, ◌-◌, ap, arith}
use Rattle.base_core.specs.Units.{up}
use Rattle.base_core.proofs.UnitLemmas.{up-ge}
use Rattle.record_core.proofs.RangeLemmas.{padding_is}
use Rattle.record_core.proofs.reader.is_padded_to_units.Goals as goal

pub padded_size-requires-clause-fits : goal.padded_size-requires-clause-fits
padded_size-requires-clause-fits g c = omega (arith, up-ge c.args.prog c.args.size c.requires.positive)

pub overflow_sub-padding : goal.overflow_sub-padding
overflow_sub-padding g c = omega (arith, up-ge c.args.prog c.args.size c.requires.positive)

pub overflow_add-place : goal.overflow_add-place
overflow_add-place g c = omega (arith, up-ge c.args.prog c.args.size c.requires.positive)

pub is_erased_range-requires-clause-inside : goal.is_erased_range-requires-clause-inside
is_erased_range-requires-clause-inside g c = omega (arith, up-ge c.args.prog c.args.size c.requires.positive)

pub returns-clause-padded : goal.returns-clause-padded
returns-clause-padded g c image told =
    let size : ℕ = c.args.size in
    let least = up-ge c.args.prog size c.requires.positive in
    padding_is image (c.args.place + size) (c.padded_size.result - size) (up c.args.prog size - size)
    (ap (λ (n : ℕ). n - size) c.padded_size.ensures)
    (omega (arith, least, c.requires.inside, (g.met.F.Flash.lawful c.args.flash.now).sized image told))
    c.is_erased_range.result (c.is_erased_range.ensures.erased image told)
