use Rattle.record_core.specs.Endings.{kv_ended}
use Rattle.tdb_read.specs.Views.{view_of}
use Rattle.tdb_write.specs.Copying.{without}
use Rattle.tdb_write.proofs.CollectedLemmas.{any_step, stands_then}
use Rattle.plain_store.specs.Removing.{Readies, RemovesFrom}
use Rattle.plain_store.proofs.RemoveLemmas.{readied_stays, readied_then}
use Rattle.plain_store.proofs.RemovedLemmas.{finished_found}
use Rattle.plain_store.proofs.removing.remove_found.Goals as goal

pub returns-in_err-copied-clause-changes : goal.returns-in_err-copied-clause-changes
returns-in_err-copied-clause-changes g c =
    let v = view_of g.F.Flash.state c.args.log.now in
    any_step v (view_of g.F.Flash.state c.ready_remove.new.log) (Readies v c.args.key) (RemovesFrom v c.args.key) (without c.args.key) c.from_residual.result c.in_err-copied.field-0.0 c.from_residual.ensures.1
    c.in_err-copied.ensures.changes

pub returns-clause-changes : goal.returns-clause-changes
returns-clause-changes g c =
    let v = view_of g.F.Flash.state c.args.log.now in
    let mid = view_of g.F.Flash.state c.ready_remove.new.log in
    let w = view_of g.F.Flash.state c.finish_begun.new.log in
    let key = c.args.key in
    stands_then v mid w (without key) (Readies v key) (RemovesFrom v key) (RemovesFrom v key) (kv_ended c.finish_begun.result) (readied_stays v key) (readied_then v key) c.in_ok-copied.ensures.changes
    (finished_found v mid w c.args.owner key c.args.place c.in_ok-copied.copied (kv_ended c.finish_begun.result) c.in_ok-copied.ensures.exactly c.in_ok-copied.ensures.changes.callers.hash_bits
    c.finish_begun.ensures.changes)
