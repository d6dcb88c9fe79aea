use Rattle.std.proofs.Common.{sym, subst}
use Rattle.kv_model.specs.StoreState.{OpenSet}
use Rattle.kv_memory.specs.declared.held.HeldSet.{HeldSet}
use Rattle.kv_memory.specs.HeldSets.{set_of}
use Rattle.kv_memory.specs.Telling.{IsReady}
use Rattle.kv_memory.proofs.MemoryLemmas.{ready_with, same_some}
use Rattle.kv_memory.proofs.store.MemoryStoreKv.set_add.Goals as goal

pub invariant_of-self-clause-ready : goal.invariant_of-self-clause-ready
invariant_of-self-clause-ready c =
    let store = c.args.self.now in
    let old = store.ready c.in-Some.held c.in-Some.is in
    let more = ready_with store.prog store.room store.entries (set_of c.in-Some.held) c.args.value.now old in
    λ x is.
    subst (λ (h : HeldSet). IsReady store.prog store.room store.entries (set_of h)) (same_some c.add.new.self x is)
    (subst (λ (set : OpenSet). IsReady store.prog store.room store.entries set) (sym c.add.ensures) more)
