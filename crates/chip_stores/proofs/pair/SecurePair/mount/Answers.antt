use Rattle.std.proofs.Common.{sym, ◌∙◌, ap, subst}
use Rattle.std.specs.Prelude.{None}
use Rattle.flash_sim.specs.ChipState.{ChipState}
use Rattle.flash_sim.specs.Views.{view_of}
use Rattle.chip_stores.specs.Healing.{HasHealed, IsPartlyHealed}
use Rattle.chip_stores.specs.PairViews.{chips_of, setup_of, told_in}
use Rattle.chip_stores.specs.Pairs.{ChipPair, HasKeptPair}
use Rattle.chip_stores.specs.Stores.{plain_told}
use Rattle.chip_stores.proofs.CallLemmas.{StoreParts, told_parts}
use Rattle.chip_stores.proofs.MountingLemmas.{is_fresh, kept_pair, kept_powered, mounted_pair, partly_mounted}
use Rattle.chip_stores.proofs.pair.SecurePair.mount.Goals as goal

pub returns-in-Err-clause-mounted : goal.returns-in-Err-clause-mounted
returns-in-Err-clause-mounted c =
    kept_powered (chips_of c.args.parts) (view_of c.in-Err.primary) (view_of c.power_on.new.chip) (setup_of c.args.parts c.args.hash_bits) c.in-Err.ensures c.power_on.ensures

pub new-requires-clause-primary : goal.new-requires-clause-primary
new-requires-clause-primary c =
    is_fresh (view_of c.args.parts.primary) (view_of c.in-Ok.primary.store.log.flash) c.args.parts.primary.valid c.args.hash_bits
    (plain_told c.in-Ok.primary.store) c.in-Ok.ensures

pub new-requires-clause-rollback : goal.new-requires-clause-rollback
new-requires-clause-rollback c =
    is_fresh (view_of c.args.parts.rollback) (view_of c.in-Ok-mount_plain.rollback.store.log.flash) c.args.parts.rollback.valid c.args.hash_bits
    (plain_told c.in-Ok-mount_plain.rollback.store) c.in-Ok-mount_plain.ensures

pub recovered-requires-clause-iterators : goal.recovered-requires-clause-iterators
recovered-requires-clause-iterators c =
    let fresh = is_fresh (view_of c.args.parts.primary) (view_of c.in-Ok.primary.store.log.flash) c.args.parts.primary.valid c.args.hash_bits
    (plain_told c.in-Ok.primary.store) c.in-Ok.ensures in
    λ state told. fresh.no_iterators state (ap (λ t. (plain_told t.store).known.state) (sym c.new.ensures.primary) ∙ told)

pub returns-in-Ok-recovered-clause-mounted : goal.returns-in-Ok-recovered-clause-mounted
returns-in-Ok-recovered-clause-mounted c =
    let parts = c.args.parts in
    let n = c.new.ensures in
    let above = c.in-Ok.primary.store in
    let below = c.in-Ok-mount_plain.rollback.store in
    let new : ChipPair = record { primary = view_of above.log.flash; rollback = view_of below.log.flash } in
    let healed : HasHealed (told_parts (record { root = parts.root; iv = parts.number; active = None; stopped = None; above = above; below = below })) (told_in c.in-Ok-recovered.pair) =
    subst (λ (p : StoreParts). HasHealed (told_parts p) (told_in c.in-Ok-recovered.pair))
    (λ i. record { root = n.root i; iv = n.iv i; active = n.free i; stopped = n.runs i; above = (n.primary i).store; below = (n.rollback i).store })
    c.in-Ok-recovered.ensures.healed in
    mounted_pair (chips_of parts) new (setup_of parts c.args.hash_bits) parts.primary.valid parts.rollback.valid (plain_told above) (plain_told below)
    c.in-Ok.ensures c.in-Ok-mount_plain.ensures c.in-Ok-recovered.pair healed.stands healed

pub returns-in-Err-recovered-clause-mounted : goal.returns-in-Err-recovered-clause-mounted
returns-in-Err-recovered-clause-mounted c =
    let parts = c.args.parts in
    let n = c.new.ensures in
    let above = c.in-Ok.primary.store in
    let below = c.in-Ok-mount_plain.rollback.store in
    let new : ChipPair = record { primary = view_of above.log.flash; rollback = view_of below.log.flash } in
    let partly : IsPartlyHealed (told_parts (record { root = parts.root; iv = parts.number; active = None; stopped = None; above = above; below = below })) (told_in c.in-Err-recovered.pair) =
    subst (λ (p : StoreParts). IsPartlyHealed (told_parts p) (told_in c.in-Err-recovered.pair))
    (λ i. record { root = n.root i; iv = n.iv i; active = n.free i; stopped = n.runs i; above = (n.primary i).store; below = (n.rollback i).store })
    c.in-Err-recovered.ensures.healed in
    subst (λ (kept : ChipPair). HasKeptPair (chips_of parts) kept (setup_of parts c.args.hash_bits)) (sym c.into_parts.ensures.chips)
    (partly_mounted (chips_of parts) new (setup_of parts c.args.hash_bits) parts.primary.valid parts.rollback.valid (plain_told above) (plain_told below)
    c.in-Ok.ensures c.in-Ok-mount_plain.ensures c.in-Err-recovered.pair partly.stands partly)

pub returns-in-Err-mount_plain-clause-mounted : goal.returns-in-Err-mount_plain-clause-mounted
returns-in-Err-mount_plain-clause-mounted c =
    let parts = c.args.parts in
    let kept = kept_pair (chips_of parts) (record { primary = view_of c.in-Ok.primary.store.log.flash; rollback = view_of c.in-Err-mount_plain.rollback })
    (setup_of parts c.args.hash_bits) c.in-Ok.ensures.kept c.in-Err-mount_plain.ensures in
    subst (λ (chip : ChipState). HasKeptPair (chips_of parts) (record { primary = chip; rollback = view_of c.in-Err-mount_plain.rollback }) (setup_of parts c.args.hash_bits))
    (sym (ap view_of c.into_flash.ensures)) kept
