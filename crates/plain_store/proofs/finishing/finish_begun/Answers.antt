use Rattle.std.proofs.Common.{[], subst}
use Rattle.kv_model.specs.LogStep.{removal}
use Rattle.kv_model.specs.Write.{applied}
use Rattle.inc_set.specs.declared.open_set.OpenSet.{OpenSet as Writer}
use Rattle.inc_set.specs.Sets.{record_of}
use Rattle.record_core.specs.Endings.{kv_ended}
use Rattle.tdb_read.specs.Views.{view_of}
use Rattle.tdb_write.specs.Changes.{Changes}
use Rattle.tdb_write.specs.Copying.{without}
use Rattle.tdb_write.specs.Writing.{IsAppended}
use Rattle.tdb_write.proofs.PreparedLemmas.{can_complete}
use Rattle.plain_store.specs.Begun.{IsBegunBy}
use Rattle.plain_store.specs.declared.active.Begun.{Begun}
use Rattle.plain_store.proofs.PartLemmas.{finishes_copied, finishes_removed, finishes_set, prepared_by, remove_header, since_begun, valid_by}
use Rattle.plain_store.proofs.finishing.finish_begun.Goals as goal

pub begin-set-requires-clause-header : goal.begin-set-requires-clause-header
begin-set-requires-clause-header g c =
    remove_header c.in-Remove.key (valid_by (view_of g.F.Flash.state c.args.log.now) c.args.active.begun c.in-Remove.key c.in-Remove.place c.in-Remove.copied c.in-Remove.is c.requires.begun)

pub complete-requires-clause-can : goal.complete-requires-clause-can
complete-requires-clause-can g c =
    let v = view_of g.F.Flash.state c.args.log.now in
    can_complete v c.in-Some.end (without c.in-Remove.key)
    (prepared_by v c.args.active.begun c.in-Remove.key c.in-Remove.place c.in-Remove.copied c.in-Some.end c.in-Some.is c.in-Remove.is c.requires.begun)

pub returns-in-Set-clause-changes : goal.returns-in-Set-clause-changes
returns-in-Set-clause-changes g c =
    let v = view_of g.F.Flash.state c.args.log.now in
    let is = subst (λ (b : Begun). IsBegunBy v b) c.in-Set.is c.requires.begun in
    finishes_set v (view_of g.F.Flash.state c.seal.new.log) c.args.active.owner c.args.active.begun (kv_ended c.seal.result) c.in-Set.set c.in-Set.place c.in-Set.fed c.in-Set.is c.requires.begun
    (c.seal.ensures.changes c.in-Set.fed.bytes is.writing)

pub returns-in-None-clause-changes : goal.returns-in-None-clause-changes
returns-in-None-clause-changes g c =
    let v = view_of g.F.Flash.state c.args.log.now in
    let w = view_of g.F.Flash.state c.seal-in-None.new.log in
    let mid = view_of g.F.Flash.state c.begin-set.new.log in
    let ended = kv_ended c.seal-in-None.result in
    let key = c.in-Remove.key in
    finishes_removed v w c.args.active.owner c.args.active.begun ended key c.in-Remove.place c.in-Remove.copied c.in-None.is c.in-Remove.is
    (since_begun g.F.Flash.state c.args.log.now.flash c.begin-set.new.log.flash v.log mid.log c.begin-set.ensures.flash c.begin-set.ensures.memory w (applied (removal key)) (IsAppended (removal key)) ended
    (subst (λ (s : Writer). Changes mid w (applied (record_of s [])) (IsAppended (record_of s [])) ended) c.begin-set.ensures.set (c.seal-in-None.ensures.changes [] c.begin-set.ensures.writing)))

pub returns-in-Some-clause-changes : goal.returns-in-Some-clause-changes
returns-in-Some-clause-changes g c =
    let v = view_of g.F.Flash.state c.args.log.now in
    finishes_copied v (view_of g.F.Flash.state c.complete.new.log) c.args.active.owner c.args.active.begun (kv_ended c.complete.result) c.in-Remove.key c.in-Remove.place c.in-Remove.copied c.in-Some.end c.in-Some.is c.in-Remove.is
    (c.complete.ensures.changes (without c.in-Remove.key)
    (prepared_by v c.args.active.begun c.in-Remove.key c.in-Remove.place c.in-Remove.copied c.in-Some.end c.in-Some.is c.in-Remove.is c.requires.begun))
