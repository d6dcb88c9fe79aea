use Rattle.std.proofs.Common.{List, ℕ, length, sym, subst}
use Rattle.flash_core.specs.Runs.{Done}
use Rattle.tdb_read.specs.Views.{view_of}
use Rattle.tdb_write.specs.Changes.{Changes, unchanged}
use Rattle.tdb_write.specs.Writing.{IsWriting}
use Rattle.plain_store.specs.Begun.{IsBegunBy}
use Rattle.plain_store.specs.Steps.{AddsTo}
use Rattle.plain_store.specs.declared.active.Begun.{Begun}
use Rattle.plain_store.proofs.FeedLemmas.{fed_begun, nothing_done}
use Rattle.plain_store.proofs.feeding.feed_begun.Goals as goal

pub returns-in_ok-feed-in-Set-clause-begun : goal.returns-in_ok-feed-in-Set-clause-begun
returns-in_ok-feed-in-Set-clause-begun g c =
    let old = view_of g.F.Flash.state c.args.log.now in
    let new = view_of g.F.Flash.state c.feed.new.log in
    let is = subst (λ (b : Begun). IsBegunBy old b) c.in-Set.is c.requires.begun in
    let fed = c.in_ok-feed-in-Set.ensures in
    fed_begun old new c.in-Set.set c.feed.new.set c.in-Set.place c.in-Set.fed.bytes c.note_more-fed.result.bytes c.args.value.now is
    (subst (λ (bytes : List ℕ). IsWriting new c.feed.new.set bytes) (sym c.note_more-fed.ensures) (fed.writing c.in-Set.fed.bytes is.writing))
    fed.set (fed.places c.in-Set.fed.bytes is.writing) fed.memory

pub returns-in-Remove-clause-changes : goal.returns-in-Remove-clause-changes
returns-in-Remove-clause-changes g c =
    let old = view_of g.F.Flash.state c.args.log.now in
    subst (λ (b : Begun). Changes old old unchanged (AddsTo old b (length c.args.value.now)) Done) (sym c.in-Remove.is) (nothing_done old c.requires.ready)
