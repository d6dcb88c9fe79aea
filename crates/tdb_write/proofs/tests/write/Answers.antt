use Rattle.std.proofs.Common.{◌≡◌, ◌∙◌, List, ap, subst, sym}
use Rattle.inc_set.specs.declared.open_set.OpenSet.{OpenSet as Writer}
use Rattle.tdb_read.specs.Reads.{IsFound}
use Rattle.tdb_read.specs.Views.{view_of}
use Rattle.tdb_write.proofs.BeginLemmas.{found_since}
use Rattle.tdb_write.proofs.tests.write.Goals as goal

pub feed-requires-2-clause-ready : goal.feed-requires-2-clause-ready
feed-requires-2-clause-ready g c = (c.in_ok-feed.ensures.changes _ c.begin-set.ensures.writing).ready

pub feed-requires-2-clause-at_end : goal.feed-requires-2-clause-at_end
feed-requires-2-clause-at_end g c = (c.in_ok-feed.ensures.writing _ c.begin-set.ensures.writing).at_end

pub seal-requires-clause-ready : goal.seal-requires-clause-ready
seal-requires-clause-ready g c =
    let first = c.in_ok-feed.ensures.writing _ c.begin-set.ensures.writing in
    (c.in_ok-feed-2.ensures.changes _ first).ready

pub seal-requires-clause-at_end : goal.seal-requires-clause-at_end
seal-requires-clause-at_end g c =
    let first = c.in_ok-feed.ensures.writing _ c.begin-set.ensures.writing in
    (c.in_ok-feed-2.ensures.writing _ first).at_end

pub seal-requires-clause-found : goal.seal-requires-clause-found
seal-requires-clause-found g c =
    let key = c.in_ok-key.key in
    let place = c.in_ok-place.place in
    let begun = c.begin-set.ensures.writing in
    let first = c.in_ok-feed.ensures.writing _ begun in
    let key_is = ap (λ (w : Writer). w.key) c.begin-set.ensures.set in
    let key_then = ap (λ (w : Writer). w.key) c.in_ok-feed.ensures.set in
    let key_last = ap (λ (w : Writer). w.key) c.in_ok-feed-2.ensures.set in
    let found = found_since (view_of g.F.Flash.state c.args.log.now) (view_of g.F.Flash.state c.find.new.self) key place c.in_ok-place.ensures.reads c.in_ok-place.ensures.finds in
    subst (λ (k : List _). IsFound (view_of g.F.Flash.state c.feed-2.new.log) k place) (sym (key_last ∙ key_then ∙ key_is))
    (c.in_ok-feed-2.ensures.places _ first key place (c.in_ok-feed.ensures.places _ begun key place (c.begin-set.ensures.places key place (c.in_ok-reserve.ensures.places key place found))))

pub returns : goal.returns
returns g c =
    let first = c.in_ok-feed.ensures.writing _ c.begin-set.ensures.writing in
    let second = c.in_ok-feed-2.ensures.writing _ first in
    record { ready = (c.in_ok-seal.ensures.changes _ second).ready }
