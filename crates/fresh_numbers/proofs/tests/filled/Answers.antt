use Rattle.std.proofs.Common.{refl}
use Rattle.kv_memory.specs.Memory.{known_of, state_in}
use Rattle.sealed_pair.proofs.FreshLemmas.{fresh_at, fresh_kept}
use Rattle.fresh_numbers.proofs.tests.filled.Goals as goal

pub returns-in-Ok : goal.returns-in-Ok
returns-in-Ok c =
    fresh_kept (known_of c.new-store.result) (known_of c.set.new.self)
    (fresh_at (known_of c.new-store.result) (state_in c.new-store.result) refl c.new-store.ensures.state) 0 c.args.key.now c.args.value.now 0 c.in-Ok.ensures

pub returns-in-Err : goal.returns-in-Err
returns-in-Err c = fresh_at (known_of c.new.result) (state_in c.new.result) refl c.new.ensures.state
