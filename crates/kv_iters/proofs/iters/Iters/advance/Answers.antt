use Rattle.std.proofs.Common.{ℕ, Some, ap, ◌∙◌}
use Rattle.std.specs.FinMap.{insert}
use Rattle.kv_model.specs.StoreState.{Position}
use Rattle.kv_iters.specs.Calls.{advanced}
use Rattle.kv_iters.specs.Slots.{iterators_of}
use Rattle.kv_iters.proofs.SlotLemmas.{advanced_from, insert-remove}
use Rattle.kv_iters.proofs.iters.Iters.advance.Goals as goal

pub returns-clause-advanced : goal.returns-clause-advanced
returns-clause-advanced c =
    let name : ℕ × ℕ = (c.args.who, c.args.n) in
    let taken = c.take_out-named.ensures.taken name c.in_ok-place.ensures.found in
    let position : Position = record c.take_out-named.result.iter { last = Some c.args.key.now } in
    c.put_in.ensures.put
    ∙ ap (λ p. insert (iterators_of c.take_out-named.new.slots) name p) c.behind.ensures
    ∙ ap (λ table. insert table name position) taken.removed
    ∙ insert-remove (iterators_of c.self.inside.slots) name position
    ∙ advanced_from (iterators_of c.self.inside.slots) c.args.who c.args.n c.args.key.now _ taken.stood
    ∙ ap (λ table. advanced table c.args.who c.args.n c.args.key.now) c.self.view_is
