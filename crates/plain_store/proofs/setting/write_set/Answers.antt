use Rattle.std.proofs.Common.{length}
use Rattle.kv_model.specs.Write.{applied}
use Rattle.record_core.specs.Endings.{kv_ended}
use Rattle.tdb_read.specs.Views.{view_of}
use Rattle.tdb_write.specs.Changes.{MakesRoom}
use Rattle.tdb_write.proofs.CollectedLemmas.{any_step}
use Rattle.plain_store.specs.Setting.{size_at, write_of}
use Rattle.plain_store.specs.Steps.{SetsRecord}
use Rattle.plain_store.proofs.AtOnceLemmas.{set_written, two_ends}
use Rattle.plain_store.proofs.setting.write_set.Goals as goal

pub returns-in_err-set-clause-changes : goal.returns-in_err-set-clause-changes
returns-in_err-set-clause-changes g c =
    let v = view_of g.F.Flash.state c.args.log.now in
    let w = view_of g.F.Flash.state c.begin_set.new.log in
    let r = write_of c.args.key.now c.args.value.now c.args.flags.bits in
    any_step v w (MakesRoom v (size_at v c.args.key.now (length c.args.value.now))) (SetsRecord v r) (applied r) c.from_residual.result c.in_err-set.field-0.0 c.from_residual.ensures.1
    c.in_err-set.ensures.changes

pub returns-clause-changes : goal.returns-clause-changes
returns-clause-changes g c =
    let v = view_of g.F.Flash.state c.args.log.now in
    let w = view_of g.F.Flash.state c.begin_set.new.log in
    let x = view_of g.F.Flash.state c.write_value.new.log in
    set_written v w x (kv_ended c.write_value.result) (two_ends c.write_value.result c.write_value.ensures.fault) c.in_ok-set.set c.args.value.now c.args.key.now c.args.flags.bits c.begin_set.new.log.end
    c.in_ok-set.ensures.set c.in_ok-set.ensures.changes c.write_value.ensures.changes
