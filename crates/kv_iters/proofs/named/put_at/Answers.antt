use Rattle.std.proofs.Common.{ap, ◌∙◌}
use Rattle.std.specs.FinMap.{insert}
use Rattle.kv_iters.specs.Slots.{iterators_of, name_of}
use Rattle.kv_iters.proofs.SlotLemmas.{insert-remove}
use Rattle.kv_iters.proofs.named.put_at.Goals as goal
use Rattle.kv_iters.proofs.named.put_at.Goals.{in-Some, in-None+else-is_err}

pub returns-clause-put : goal.returns-clause-put
returns-clause-put c =
    let name = name_of c.args.named in
    c.put_in.ensures.put ∙ (elim c.match-place.branch [
      | in-Some w ↦
          let taken = w.take_out.ensures.taken name (rw w.in-Some.is at c.requires.place) in
          ap (λ slots. insert (iterators_of slots) name c.args.named.iter) w.slots-is
          ∙ ap (λ table. insert table name c.args.named.iter) taken.removed ∙ insert-remove _ name c.args.named.iter
      | in-None+else-is_err w ↦
          ap (λ slots. insert (iterators_of slots) name c.args.named.iter) w.slots-is
          ∙ ap (λ slots. insert (iterators_of slots) name c.args.named.iter) w.reserve.ensures.rest_kept
    ])
