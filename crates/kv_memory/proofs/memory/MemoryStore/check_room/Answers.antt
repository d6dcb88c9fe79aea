use Rattle.std.proofs.Common.{◌+◌, length, ap, arith}
use Rattle.base_core.proofs.UnitLemmas.{up-below}
use Rattle.kv_memory.proofs.memory.MemoryStore.check_room.Goals as goal

pub overflow_add-need : goal.overflow_add-need
overflow_add-need c =
    let store = c.args.self.now in
    omega (
      arith,
      up-below store.prog 24 (omega (arith, store.positive)),
      up-below store.prog (length c.as_slice.result.now + c.args.size) (omega (arith, store.positive)),
      store.fits,
      store.small,
      store.unit,
      c.requires,
      c.used.ensures,
      c.record_bytes.ensures,
      ap length c.as_slice.ensures.bytes,
      c.as_slice.ensures.at_most,
    )
