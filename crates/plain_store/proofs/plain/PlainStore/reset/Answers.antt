use Rattle.std.proofs.Common.{◌∙◌, ap, refl, Some}
use Rattle.kv_model.specs.StoreState.{StoreState}
use Rattle.kv_model.specs.Operations.{Reset}
use Rattle.record_core.specs.Endings.{kv_ending}
use Rattle.tdb_read.specs.Views.{view_of}
use Rattle.plain_store.specs.Sets.{set_in}
use Rattle.plain_store.specs.Stores.{in_doubt, noted_in}
use Rattle.plain_store.proofs.ResetLemmas.{reset_cuts, reset_done, reset_doubted, reset_stop}
use Rattle.plain_store.proofs.plain.PlainStore.reset.Goals as goal

pub returns-in-Ok-clause-answers : goal.returns-in-Ok-clause-answers
returns-in-Ok-clause-answers g c =
    reset_done (view_of g.F.Flash.state c.args.self.now.log) (view_of g.F.Flash.state c.reset.new.log) c.args.self.now.active (noted_in c.args.self.now.stopped)
    (ap noted_in c.in_ok-check_running.ensures) c.requires.is c.in_ok-check_free.ensures c.args.who _ c.in-Ok.ensures.changes refl

pub returns-in-Err-clause-is : goal.returns-in-Err-clause-is
returns-in-Err-clause-is g c =
    reset_stop (view_of g.F.Flash.state c.args.self.now.log) (view_of g.F.Flash.state c.reset.new.log) c.args.self.now.active (noted_in c.args.self.now.stopped)
    (ap noted_in c.in_ok-check_running.ensures) c.requires.is c.in_ok-check_free.ensures c.args.who _ c.in-Err.ensures.changes
    (ap kv_ending c.in-Err.ensures.fault) c.note_reset.result.state
    (c.note_reset.ensures ∙ ap (λ (s : StoreState). in_doubt s c.args.who Reset) c.note_state-before.ensures)

pub returns-in-Err-clause-answers : goal.returns-in-Err-clause-answers
returns-in-Err-clause-answers g c =
    reset_doubted (view_of g.F.Flash.state c.args.self.now.log) (view_of g.F.Flash.state c.reset.new.log) c.args.self.now.active (noted_in c.args.self.now.stopped)
    (ap noted_in c.in_ok-check_running.ensures) c.requires.is c.in_ok-check_free.ensures c.args.who _ c.in-Err.ensures.changes
    (ap kv_ending c.in-Err.ensures.fault) c.note_reset.result.state
    (c.note_reset.ensures ∙ ap (λ (s : StoreState). in_doubt s c.args.who Reset) c.note_state-before.ensures)
    (set_in c.args.self.now.active) c.in-Err.error c.in-Err.ensures.fault

pub returns-in-Err-clause-moments : goal.returns-in-Err-clause-moments
returns-in-Err-clause-moments g c runs =
    reset_cuts (view_of g.F.Flash.state c.args.self.now.log) (view_of g.F.Flash.state c.reset.new.log) c.args.self.now.active (noted_in c.args.self.now.stopped)
    (ap noted_in runs) c.requires.is c.in_ok-check_free.ensures c.args.who _ c.in-Err.ensures.changes
    c.args.self.now.active (Some c.note_reset.result.state) (λ stopped. ap kv_ending c.in-Err.ensures.fault)
