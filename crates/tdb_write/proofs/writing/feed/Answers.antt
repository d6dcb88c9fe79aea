use Rattle.std.proofs.Common.{◌≡◌, ◌∙◌, ℕ, ◌+◌, List, ◌++◌, length, drop, take, ap, refl, subst, sym}
use Rattle.std.specs.Prelude.{Bool}
use Rattle.std.proofs.lemmas.List.{take_at}
use Rattle.flash_core.specs.Runs.{Ending, Done}
use Rattle.kv_model.specs.declared.error.KvError.{KvError}
use Rattle.record_core.specs.Endings.{kv_ending}
use Rattle.inc_set.specs.declared.open_set.OpenSet.{OpenSet as Writer}
use Rattle.inc_set.specs.Programs.{Programs}
use Rattle.inc_set.specs.Sets.{Holds, done_size, new_units, payload_place, with_bytes}
use Rattle.tdb_read.specs.Views.{LogPart, view_of}
use Rattle.tdb_write.specs.Changes.{Changes, KeepsPlaces, unchanged}
use Rattle.tdb_write.specs.Writing.{IsFed, IsWriting, is_unprogrammed}
use Rattle.tdb_write.proofs.FeedLemmas.{feed_changes, feed_failed, feed_places, feed_writing, view}
use Rattle.tdb_write.proofs.JoinLemmas.{handed_fault}
use Rattle.tdb_write.proofs.StayLemmas.{with_tail}
use Rattle.tdb_write.proofs.writing.feed.Goals as goal

pub returns-in_err-feed-clause-changes : goal.returns-in_err-feed-clause-changes
returns-in_err-feed-clause-changes g c before writing =
    let s = g.F.Flash.state c.args.log.now.flash in
    let t = g.F.Flash.state c.feed.new.flash in
    let log = (view_of g.F.Flash.state c.args.log.now).log in
    let set = c.args.set.now in
    let bytes = c.args.bytes.now in
    let held : Holds s.geometry s.image c.deref_mut.result.now set before = subst (λ (u : List ℕ). Holds s.geometry s.image u set before) (sym c.deref_mut.ensures.value) writing.holds in
    let unit = c.args.log.now.unit in
    let later : LogPart = with_tail log log.is_clean (take unit.len (c.feed.new.rest ++ drop (length c.feed.new.rest) unit.items)) in
    handed_fault (λ (ending : Ending). Changes (view s log) (view t later) unchanged (IsFed (view s log) set (length bytes)) ending) c.from_residual.result c.in_err-feed.field-0.0 c.from_residual.ensures.1 c.in_err-feed.ensures.fault
    (feed_failed s t log set before bytes (g.met.F.Flash.lawful c.args.log.now.flash) c.requires.ready writing c.requires.fits later refl refl
    (subst (λ (e : KvError). Programs s t (payload_place s.geometry.prog set + done_size s.geometry.prog set) (new_units s.geometry.prog set.key before bytes) (kv_ending e)) c.in_err-feed.ensures.fault (c.in_err-feed.ensures.feeds before held)))

clean_is : (prog unit : ℕ) (key lent : List ℕ) (fed now : ℕ) (clean : Bool) → unit ≡ prog → lent ≡ key → now ≡ fed → clean ≡ is_unprogrammed unit (length lent) now → clean ≡ is_unprogrammed prog (length key) fed
clean_is prog unit key lent fed now clean unit_is lent_is now_is is = is ∙ (λ i. is_unprogrammed (unit_is i) (length (lent_is i)) (now_is i))

pub returns-clause-writing : goal.returns-clause-writing
returns-clause-writing g c before writing =
    let s = g.F.Flash.state c.args.log.now.flash in
    let t = g.F.Flash.state c.feed.new.flash in
    let log = (view_of g.F.Flash.state c.args.log.now).log in
    let set = c.args.set.now in
    let bytes = c.args.bytes.now in
    let unit = c.args.log.now.unit in
    let rest = c.feed.new.rest in
    let done = c.in_ok-feed.ensures in
    let held : Holds s.geometry s.image c.deref_mut.result.now set before = subst (λ (u : List ℕ). Holds s.geometry s.image u set before) (sym c.deref_mut.ensures.value) writing.holds in
    let same = take_at rest (drop (length rest) unit.items) unit.len (c.feed.auto.rest ∙ c.deref_mut.ensures.len) in
    let clean = clean_is s.geometry.prog c.len.result set.key c.as_slice.result.now (set.fed + length bytes) c.fed.result c.has_no_unit-log.result
    (c.len.ensures ∙ sym c.deref_mut.ensures.len ∙ ap length c.deref_mut.ensures.value ∙ c.requires.ready.safe.unit)
    (c.as_slice.ensures.bytes ∙ c.key.ensures ∙ ap (λ (w : Writer). w.key) done.set) (c.fed.ensures ∙ ap (λ (w : Writer). w.fed) done.set) c.has_no_unit-log.ensures in
    subst (λ (w : Writer). IsWriting (view t (with_tail log c.has_no_unit-log.result (take unit.len (rest ++ drop (length rest) unit.items)))) w (before ++ bytes)) (sym done.set)
    (subst (λ (u : List ℕ). IsWriting (view t (with_tail log c.has_no_unit-log.result u)) (with_bytes set bytes) (before ++ bytes)) (sym same)
    (feed_writing s t log set before bytes (g.met.F.Flash.lawful c.args.log.now.flash) c.requires.ready writing c.requires.fits (done.feeds before held) c.has_no_unit-log.result rest clean
    (subst (λ (w : Writer). Holds t.geometry t.image rest w (before ++ bytes)) done.set (done.holds before held))))

pub returns-clause-changes : goal.returns-clause-changes
returns-clause-changes g c before writing =
    let s = g.F.Flash.state c.args.log.now.flash in
    let t = g.F.Flash.state c.feed.new.flash in
    let log = (view_of g.F.Flash.state c.args.log.now).log in
    let set = c.args.set.now in
    let bytes = c.args.bytes.now in
    let unit = c.args.log.now.unit in
    let rest = c.feed.new.rest in
    let done = c.in_ok-feed.ensures in
    let held : Holds s.geometry s.image c.deref_mut.result.now set before = subst (λ (u : List ℕ). Holds s.geometry s.image u set before) (sym c.deref_mut.ensures.value) writing.holds in
    let same = take_at rest (drop (length rest) unit.items) unit.len (c.feed.auto.rest ∙ c.deref_mut.ensures.len) in
    let clean = clean_is s.geometry.prog c.len.result set.key c.as_slice.result.now (set.fed + length bytes) c.fed.result c.has_no_unit-log.result
    (c.len.ensures ∙ sym c.deref_mut.ensures.len ∙ ap length c.deref_mut.ensures.value ∙ c.requires.ready.safe.unit)
    (c.as_slice.ensures.bytes ∙ c.key.ensures ∙ ap (λ (w : Writer). w.key) done.set) (c.fed.ensures ∙ ap (λ (w : Writer). w.fed) done.set) c.has_no_unit-log.ensures in
    subst (λ (u : List ℕ). Changes (view s log) (view t (with_tail log c.has_no_unit-log.result u)) unchanged (IsFed (view s log) set (length bytes)) Done) (sym same)
    (feed_changes s t log set before bytes (g.met.F.Flash.lawful c.args.log.now.flash) c.requires.ready writing c.requires.fits (done.feeds before held) c.has_no_unit-log.result rest clean
    (subst (λ (w : Writer). Holds t.geometry t.image rest w (before ++ bytes)) done.set (done.holds before held)))

pub returns-clause-places : goal.returns-clause-places
returns-clause-places g c before writing =
    let s = g.F.Flash.state c.args.log.now.flash in
    let t = g.F.Flash.state c.feed.new.flash in
    let log = (view_of g.F.Flash.state c.args.log.now).log in
    let set = c.args.set.now in
    let bytes = c.args.bytes.now in
    let unit = c.args.log.now.unit in
    let rest = c.feed.new.rest in
    let done = c.in_ok-feed.ensures in
    let held : Holds s.geometry s.image c.deref_mut.result.now set before = subst (λ (u : List ℕ). Holds s.geometry s.image u set before) (sym c.deref_mut.ensures.value) writing.holds in
    let same = take_at rest (drop (length rest) unit.items) unit.len (c.feed.auto.rest ∙ c.deref_mut.ensures.len) in
    let clean = clean_is s.geometry.prog c.len.result set.key c.as_slice.result.now (set.fed + length bytes) c.fed.result c.has_no_unit-log.result
    (c.len.ensures ∙ sym c.deref_mut.ensures.len ∙ ap length c.deref_mut.ensures.value ∙ c.requires.ready.safe.unit)
    (c.as_slice.ensures.bytes ∙ c.key.ensures ∙ ap (λ (w : Writer). w.key) done.set) (c.fed.ensures ∙ ap (λ (w : Writer). w.fed) done.set) c.has_no_unit-log.ensures in
    subst (λ (u : List ℕ). KeepsPlaces (view s log) (view t (with_tail log c.has_no_unit-log.result u))) (sym same)
    (feed_places s t log set before bytes (g.met.F.Flash.lawful c.args.log.now.flash) c.requires.ready writing c.requires.fits (done.feeds before held) c.has_no_unit-log.result rest clean
    (subst (λ (w : Writer). Holds t.geometry t.image rest w (before ++ bytes)) done.set (done.holds before held)))
