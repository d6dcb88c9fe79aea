use Rattle.std.proofs.Common.{◌+◌, ◌-◌, ◌/◌, ℕ, length, sym, subst, arith}
use Rattle.ram_table.proofs.Halving.{IsHalved, halved_all, halved_more, lower_half, upper_half}
use Rattle.ram_table.proofs.table.RamTable.first_of_hash.Goals as goal

pub loop-low-preserved-then-look-hash : goal.loop-low-preserved-then-look-hash
loop-low-preserved-then-look-hash g c =
    let low = c.loop-low.low in
    let high = c.loop-low.high in
    let middle = low + (high - low) / 2 in
    let one_more : IsHalved c.args.steps.now (c.loop-low.steps + 1) (high - (middle + 1)) (length c.args.self.now.entries) =
    halved_more _ _ (high - low) _ _ c.loop-low.invariant.halved (omega arith) (omega arith) in
    record {
      between = upper_half middle c.loop-low.invariant.between (omega arith) (omega (arith, c.look.ensures.hash, c.if-look-hash.true));
      halved = subst (λ (now : ℕ). IsHalved c.args.steps.now now (high - (middle + 1)) (length c.args.self.now.entries)) (sym c.look.ensures.steps) one_more;
    }

pub loop-low-preserved : goal.loop-low-preserved
loop-low-preserved g c =
    let low = c.loop-low.low in
    let high = c.loop-low.high in
    let middle = low + (high - low) / 2 in
    let one_more : IsHalved c.args.steps.now (c.loop-low.steps + 1) (middle - low) (length c.args.self.now.entries) =
    halved_more _ _ (high - low) _ _ c.loop-low.invariant.halved (omega arith) (omega arith) in
    record {
      between = lower_half middle c.loop-low.invariant.between (omega arith) (omega arith) (omega (arith, c.look.ensures.hash, c.if-look-hash.false));
      halved = subst (λ (now : ℕ). IsHalved c.args.steps.now now (middle - low) (length c.args.self.now.entries)) (sym c.look.ensures.steps) one_more;
    }

pub returns-clause-steps : goal.returns-clause-steps
returns-clause-steps g c digits fits = halved_all _ _ _ _ digits c.loop-low.invariant.halved fits
