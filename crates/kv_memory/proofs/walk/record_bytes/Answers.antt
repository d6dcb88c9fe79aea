use Rattle.std.proofs.Common.{◌+◌, arith}
use Rattle.kv_memory.proofs.WalkLemmas.{record_fits}
use Rattle.kv_memory.proofs.walk.record_bytes.Goals as goal

pub overflow_add-result : goal.overflow_add-result
overflow_add-result c =
    omega (arith, record_fits c.args.prog (c.args.key_size + c.args.value_size) c.requires.positive c.requires.unit c.requires.sizes, c.padded_size.ensures, c.padded_size-2.ensures)
