use Rattle.std.proofs.Common.{subst}
use Rattle.flash_sim.specs.ChipState.{ChipState, device_of}
use Rattle.flash_sim.specs.Views.{view_of}
use Rattle.tdb_read.specs.Mounting.{IsMounted, IsUnmounted}
use Rattle.tdb_read.specs.Views.{view_of as log_view}
use Rattle.plain_store.specs.Mounting.{IsFresh}
use Rattle.plain_store.specs.Sets.{set_in}
use Rattle.plain_store.specs.Stores.{noted_in, state_of, store_view}
use Rattle.chip_stores.specs.Chips.{device_in}
use Rattle.chip_stores.proofs.ChipLemmas.{kept_chip, mounted_chip}
use Rattle.chip_stores.proofs.plain.mount_plain.Goals as goal

pub returns-in-Ok : goal.returns-in-Ok
returns-in-Ok c =
    let chip = view_of c.args.chip in
    let store = c.in-Ok.store.store in
    mounted_chip chip (view_of store.log.flash) (log_view device_in store.log).log (set_in store.active) (noted_in store.stopped) c.args.hash_bits
    (subst (λ (x : ChipState). IsMounted (device_of x) c.args.hash_bits (log_view device_in store.log)) c.power_on.ensures c.in-Ok.ensures.mounted)
    (subst (λ (x : ChipState). IsFresh (device_of x) c.args.hash_bits (state_of (store_view device_in store))) c.power_on.ensures c.in-Ok.ensures.fresh)

pub returns-in-Err : goal.returns-in-Err
returns-in-Err c =
    kept_chip (view_of c.args.chip) (view_of c.in-Err.chip) c.args.chip.valid c.in-Err.field-0-1
    (subst (λ (x : ChipState). IsUnmounted (device_of x) (device_of (view_of c.in-Err.chip)) c.in-Err.field-0-1) c.power_on.ensures c.in-Err.ensures.mounted)
