use Rattle.std.proofs.Common.{sym, ◌∙◌, refl}
use Rattle.tdb_read.specs.Views.{view_of}
use Rattle.kv_model.specs.LogStep.{SameButOther}
use Rattle.tdb_write.specs.Changes.{unchanged}
use Rattle.tdb_write.proofs.CollectedLemmas.{any_step}
use Rattle.plain_store.specs.Removing.{Readies}
use Rattle.plain_store.proofs.RemoveLemmas.{copied_begun, readies_copies, readies_none, uncopied_begun}
use Rattle.plain_store.proofs.removing.ready_remove.Goals as goal

pub returns-then-not-has_to_collect-clause-changes : goal.returns-then-not-has_to_collect-clause-changes
returns-then-not-has_to_collect-clause-changes g c =
    readies_none (view_of g.F.Flash.state c.args.log.now) c.requires.ready c.args.key.now (sym c.has_to_collect.ensures ∙ c.if-not-has_to_collect.true)

pub returns-in_err-end-clause-changes : goal.returns-in_err-end-clause-changes
returns-in_err-end-clause-changes g c =
    any_step (view_of g.F.Flash.state c.args.log.now) (view_of g.F.Flash.state c.copy_without.new.log) SameButOther (Readies (view_of g.F.Flash.state c.args.log.now) c.args.key.now) unchanged c.from_residual.result c.in_err-end.field-0.0 c.from_residual.ensures.1
    c.in_err-end.ensures.changes

pub returns-clause-changes : goal.returns-clause-changes
returns-clause-changes g c =
    readies_copies (view_of g.F.Flash.state c.args.log.now) (view_of g.F.Flash.state c.copy_without.new.log) c.args.key.now (sym c.has_to_collect.ensures ∙ c.if-not-has_to_collect.false)
    c.in_ok-end.ensures.changes

pub returns-then-not-has_to_collect-clause-begun : goal.returns-then-not-has_to_collect-clause-begun
returns-then-not-has_to_collect-clause-begun g c =
    uncopied_begun (view_of g.F.Flash.state c.args.log.now) c.args.key.now c.args.place c.requires.valid c.requires.found c.requires.there
    (sym c.has_to_collect.ensures ∙ c.if-not-has_to_collect.true)

pub returns-clause-begun : goal.returns-clause-begun
returns-clause-begun g c =
    copied_begun (view_of g.F.Flash.state c.args.log.now) (view_of g.F.Flash.state c.copy_without.new.log) c.requires.ready c.in_ok-end.ensures.changes c.in_ok-end.ensures.memory
    c.args.key.now c.args.place c.in_ok-end.end c.requires.valid c.requires.found c.requires.there (sym c.has_to_collect.ensures ∙ c.if-not-has_to_collect.false)
    (c.in_ok-end.ensures.prepared c.args.key.now c.args.place (record { found = c.requires.found; there = c.requires.there; at_is = refl }))

pub returns-then-not-has_to_collect-clause-exactly : goal.returns-then-not-has_to_collect-clause-exactly
returns-then-not-has_to_collect-clause-exactly g c = sym c.if-not-has_to_collect.true ∙ c.has_to_collect.ensures

pub returns-clause-exactly : goal.returns-clause-exactly
returns-clause-exactly g c = sym c.if-not-has_to_collect.false ∙ c.has_to_collect.ensures
