use Rattle.std.proofs.Common.{[], length}
use Rattle.kv_model.specs.Write.{applied}
use Rattle.inc_set.specs.Sets.{record_of}
use Rattle.record_core.specs.Endings.{kv_ended}
use Rattle.tdb_read.specs.Views.{view_of}
use Rattle.tdb_write.specs.Writing.{IsAppended, IsFed}
use Rattle.tdb_write.proofs.CollectedLemmas.{any_step}
use Rattle.plain_store.proofs.AtOnceLemmas.{two_ends, value_written}
use Rattle.plain_store.proofs.FeedLemmas.{fed_begun}
use Rattle.plain_store.proofs.setting.write_value.Goals as goal

pub returns-in_err-feed-clause-changes : goal.returns-in_err-feed-clause-changes
returns-in_err-feed-clause-changes g c =
    let v = view_of g.F.Flash.state c.args.log.now in
    let w = view_of g.F.Flash.state c.feed.new.log in
    let r = record_of c.args.set c.args.value.now in
    any_step v w (IsFed v c.args.set (length c.args.value.now)) (IsAppended r) (applied r) c.from_residual.result c.in_err-feed.field-0.0 c.from_residual.ensures.1
    (c.in_err-feed.ensures.changes [] c.requires.begun.writing)

pub seal-requires-clause-found : goal.seal-requires-clause-found
seal-requires-clause-found g c =
    let v = view_of g.F.Flash.state c.args.log.now in
    let w = view_of g.F.Flash.state c.feed.new.log in
    let fed = c.in_ok-feed.ensures in
    let writing = c.requires.begun.writing in
    (fed_begun v w c.args.set c.feed.new.set c.args.place [] c.args.value.now c.args.value.now c.requires.begun (fed.writing [] writing) fed.set (fed.places [] writing) fed.memory).found

pub returns-clause-changes : goal.returns-clause-changes
returns-clause-changes g c =
    let v = view_of g.F.Flash.state c.args.log.now in
    let w = view_of g.F.Flash.state c.feed.new.log in
    let x = view_of g.F.Flash.state c.seal.new.log in
    let fed = c.in_ok-feed.ensures in
    let writing = c.requires.begun.writing in
    value_written v w x (kv_ended c.seal.result) (two_ends c.seal.result c.seal.ensures.fault) c.args.set c.args.value.now c.feed.new.set fed.set (fed.changes [] writing)
    (c.seal.ensures.changes c.args.value.now (fed.writing [] writing))
