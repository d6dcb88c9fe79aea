use Rattle.std.proofs.Common.{◌≡◌, ℕ, List, length, arith, ap, ◌∙◌}
use Rattle.base_core.specs.Sizes.{record_size}
use Rattle.kv_memory.proofs.WalkLemmas.{one_within, payload_within}
use Rattle.kv_memory.proofs.walk.bytes_used.Goals as goal

pub overflow_cast-as_slice : goal.overflow_cast-as_slice
overflow_cast-as_slice c =
    let item = c.index-items-at.result in
    let within = one_within c.args.prog c.args.items.now c.loop-at.at item (omega arith) (omega arith) c.index-items-at.is in
    omega (arith, within, payload_within c.args.prog (length item.key) (length item.value) c.requires.positive, c.requires.fits, ap length c.as_slice-in-loop-at.ensures)

pub record_bytes-used-requires-clause-sizes : goal.record_bytes-used-requires-clause-sizes
record_bytes-used-requires-clause-sizes c =
    let item = c.index-items-at.result in
    let within = one_within c.args.prog c.args.items.now c.loop-at.at item (omega arith) (omega arith) c.index-items-at.is in
    omega (arith, within, payload_within c.args.prog (length item.key) (length item.value) c.requires.positive, c.requires.fits, ap length c.as_slice-in-loop-at.ensures, ap length c.as_slice.ensures.bytes)

pub overflow_add-used : goal.overflow_add-used
overflow_add-used c =
    let item = c.index-items-at.result in
    let within = one_within c.args.prog c.args.items.now c.loop-at.at item (omega arith) (omega arith) c.index-items-at.is in
    let size : c.record_bytes-used.result ≡ record_size c.args.prog (length item.key) (length item.value) =
    c.record_bytes-used.ensures
    ∙ ap (λ (key : List ℕ). record_size c.args.prog (length key) (length c.as_slice-in-loop-at.result.now)) c.as_slice.ensures.bytes
    ∙ ap (λ (value : List ℕ). record_size c.args.prog (length item.key) (length value)) c.as_slice-in-loop-at.ensures in
    omega (arith, within, c.requires.fits, c.loop-at.invariant, size)
