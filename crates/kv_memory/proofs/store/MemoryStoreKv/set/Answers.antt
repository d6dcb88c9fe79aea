use Rattle.std.proofs.Common.{◌∙◌, ℕ, List, length, ap, arith}
use Rattle.base_core.specs.Sizes.{record_size}
use Rattle.kv_model.specs.FlaggedMap.{FlaggedMap, Stored}
use Rattle.kv_model.specs.Sizes.{used}
use Rattle.kv_model.proofs.UsedLemmas.{used-insert_at_most}
use Rattle.kv_memory.proofs.store.MemoryStoreKv.set.Goals as goal

pub invariant_of-self-2-clause-fits : goal.invariant_of-self-2-clause-fits
invariant_of-self-2-clause-fits c =
    let store = c.args.self.now in
    let stored : Stored = record { flags = c.args.flags.bits; bytes = c.in-Ok.copy } in
    let map = c.reserve_one.new.self.map in
    let sized =
    ap (λ (key : List ℕ). record_size store.prog (length key) (length c.in-Ok.copy)) c.in_ok-key.ensures.key
    ∙ ap (λ (value : List ℕ). record_size store.prog (length c.args.key.now) (length value)) c.in-Ok.ensures in
    omega (
      arith,
      c.in_ok-key.ensures.room,
      sized,
      ap (λ (m : FlaggedMap). used store.prog m) c.reserve_one.ensures.map,
      ap (λ (m : FlaggedMap). used store.prog m) c.set.ensures,
      used-insert_at_most store.prog map c.in_ok-key.key stored,
    )
