use Rattle.std.proofs.Common.{◌≡◌, ℕ, length, sym, ◌∙◌, ap, arith}
use Rattle.base_core.specs.Sizes.{record_size}
use Rattle.kv_model.specs.FlaggedMap.{FlaggedMap, Stored}
use Rattle.kv_model.specs.Sizes.{used}
use Rattle.kv_model.proofs.UsedLemmas.{used-insert_at_most, used-remove_at_most}
use Rattle.kv_memory.proofs.store.MemoryStoreKv.set_finish.Goals as goal

pub invariant_of-self-then-held-clause-fits : goal.invariant_of-self-then-held-clause-fits
invariant_of-self-then-held-clause-fits c =
    let store = c.args.self.now in
    omega (arith, store.fits, ap (λ (m : FlaggedMap). used store.prog m) c.remove.ensures.map, used-remove_at_most store.prog store.entries.map c.in-Some.held.key)

pub set-requires : goal.set-requires
set-requires c =
    let ready = c.args.self.now.ready c.in-Some.held (sym c.take.ensures.value ∙ c.in-Some.is) in
    ready.spare c.if-held.false

pub invariant_of-self-in-Some-clause-fits : goal.invariant_of-self-in-Some-clause-fits
invariant_of-self-in-Some-clause-fits c =
    let store = c.args.self.now in
    let held = c.in-Some.held in
    let ready = store.ready held (sym c.take.ensures.value ∙ c.in-Some.is) in
    let stored : Stored = record { flags = held.flags.bits; bytes = c.from_vec.result } in
    let whole : length held.bytes.items ≡ held.size = omega (arith, held.fed, c.if-len-held.false, c.len.ensures, held.bytes.ok) in
    let sized = ap (λ (n : ℕ). record_size store.prog (length held.key) n) (ap length c.from_vec.ensures ∙ whole) in
    omega (
      arith,
      ready.reserved c.if-held.false,
      sized,
      ap (λ (m : FlaggedMap). used store.prog m) c.set.ensures,
      used-insert_at_most store.prog store.entries.map held.key stored,
    )
