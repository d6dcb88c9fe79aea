use Rattle.std.proofs.Common.{◌∙◌, ℕ, List, [], length, drop, ap, subst, sym}
use Rattle.std.proofs.lemmas.List.{take_at}
use Rattle.tdb_read.specs.Views.{IsReady, view_of}
use Rattle.tdb_write.specs.Changes.{KeepsPlaces}
use Rattle.tdb_write.specs.Writing.{IsWriting}
use Rattle.tdb_write.proofs.BeginLemmas.{begun_writing, unit_places, unit_ready}
use Rattle.tdb_write.proofs.FeedLemmas.{view}
use Rattle.tdb_write.proofs.StayLemmas.{with_tail}
use Rattle.tdb_write.proofs.writing.begin.Goals as goal

pub returns-clause-ready : goal.returns-clause-ready
returns-clause-ready g c =
    let s = g.F.Flash.state c.args.log.now.flash in
    let log = (view_of g.F.Flash.state c.args.log.now).log in
    let unit = c.args.log.now.unit in
    let same = take_at c.begin.new.rest (drop (length c.begin.new.rest) unit.items) unit.len (c.begin.ensures.len ∙ c.deref_mut.ensures.len) in
    subst (λ (u : List ℕ). IsReady (view s (with_tail log log.is_clean u))) (sym same) (unit_ready s log c.requires.ready c.begin.new.rest (c.begin.ensures.len ∙ ap length c.deref_mut.ensures.value))

pub returns-clause-writing : goal.returns-clause-writing
returns-clause-writing g c =
    let s = g.F.Flash.state c.args.log.now.flash in
    let log = (view_of g.F.Flash.state c.args.log.now).log in
    let unit = c.args.log.now.unit in
    let same = take_at c.begin.new.rest (drop (length c.begin.new.rest) unit.items) unit.len (c.begin.ensures.len ∙ c.deref_mut.ensures.len) in
    subst (λ (u : List ℕ). IsWriting (view s (with_tail log log.is_clean u)) c.begin.result []) (sym same)
    (begun_writing s log c.requires.ready c.begin.new.rest (c.begin.ensures.len ∙ ap length c.deref_mut.ensures.value) c.requires.clean c.args.key.now c.args.flags c.args.size c.requires.room c.begin.result c.begin.ensures.set
    (λ h told area valid fits inside erased. c.begin.ensures.holds h told area valid (ap length c.deref_mut.ensures.value ∙ fits) inside erased))

pub returns-clause-places : goal.returns-clause-places
returns-clause-places g c =
    let s = g.F.Flash.state c.args.log.now.flash in
    let log = (view_of g.F.Flash.state c.args.log.now).log in
    let unit = c.args.log.now.unit in
    let same = take_at c.begin.new.rest (drop (length c.begin.new.rest) unit.items) unit.len (c.begin.ensures.len ∙ c.deref_mut.ensures.len) in
    subst (λ (u : List ℕ). KeepsPlaces (view s log) (view s (with_tail log log.is_clean u))) (sym same) (unit_places s log c.requires.ready c.begin.new.rest (c.begin.ensures.len ∙ ap length c.deref_mut.ensures.value))
