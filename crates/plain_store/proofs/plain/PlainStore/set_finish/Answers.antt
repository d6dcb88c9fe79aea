use Rattle.std.proofs.Common.{rules, ◌≡◌, Some, None, refl, ◌∙◌, ap}
use Rattle.kv_model.specs.StoreState.{StoreState}
use Rattle.kv_model.specs.Operations.{Finish}
use Rattle.record_core.specs.Endings.{kv_ending}
use Rattle.tdb_read.specs.Views.{view_of}
use Rattle.plain_store.specs.Sets.{set_in}
use Rattle.plain_store.specs.Stores.{in_doubt, noted_in}
use Rattle.plain_store.proofs.FinishLemmas.{finish_done, finish_doubted, finish_stop, finish_cuts}
use Rattle.plain_store.proofs.plain.PlainStore.set_finish.Goals as goal

pub returns-in-Ok-clause-answers : goal.returns-in-Ok-clause-answers
returns-in-Ok-clause-answers g c =
    let its_is : c.args.self.now.active ≡ Some c.in-Some.active = search rules in
    let gone : c.take.new.self ≡ None = search rules in
    finish_done (view_of g.F.Flash.state c.args.self.now.log) (view_of g.F.Flash.state c.finish_begun.new.log) c.args.self.now.active (noted_in c.args.self.now.stopped)
    (ap noted_in c.in_ok-check_running.ensures) c.requires.is c.in-Some.active its_is c.args.who c.in_ok-check_owner.ensures
    c.bytes_left-left.result c.bytes_left-left.ensures c.if-left-gt0.false _ c.in-Ok.ensures.changes refl c.take.new.self gone

pub returns-in-Err-clause-is : goal.returns-in-Err-clause-is
returns-in-Err-clause-is g c =
    let its_is : c.args.self.now.active ≡ Some c.in-Some.active = search rules in
    finish_stop (view_of g.F.Flash.state c.args.self.now.log) (view_of g.F.Flash.state c.finish_begun.new.log) c.args.self.now.active (noted_in c.args.self.now.stopped)
    (ap noted_in c.in_ok-check_running.ensures) c.requires.is c.in-Some.active its_is c.args.who c.in_ok-check_owner.ensures
    c.bytes_left-left.result c.bytes_left-left.ensures c.if-left-gt0.false _ c.in-Err.ensures.changes (ap kv_ending c.in-Err.ensures.fault) c.note_finish.result.state
    (c.note_finish.ensures ∙ ap (λ (s : StoreState). in_doubt s c.args.who Finish) c.note_state-before.ensures)

pub returns-in-Err-clause-answers : goal.returns-in-Err-clause-answers
returns-in-Err-clause-answers g c =
    let its_is : c.args.self.now.active ≡ Some c.in-Some.active = search rules in
    finish_doubted (view_of g.F.Flash.state c.args.self.now.log) (view_of g.F.Flash.state c.finish_begun.new.log) c.args.self.now.active (noted_in c.args.self.now.stopped)
    (ap noted_in c.in_ok-check_running.ensures) c.requires.is c.in-Some.active its_is c.args.who c.in_ok-check_owner.ensures
    c.bytes_left-left.result c.bytes_left-left.ensures c.if-left-gt0.false _ c.in-Err.ensures.changes (ap kv_ending c.in-Err.ensures.fault) c.note_finish.result.state
    (c.note_finish.ensures ∙ ap (λ (s : StoreState). in_doubt s c.args.who Finish) c.note_state-before.ensures)
    (set_in c.take.new.self) c.in-Err.error c.in-Err.ensures.fault

pub returns-in-Err-clause-moments : goal.returns-in-Err-clause-moments
returns-in-Err-clause-moments g c runs =
    let its_is : c.args.self.now.active ≡ Some c.in-Some.active = search rules in
    finish_cuts (view_of g.F.Flash.state c.args.self.now.log) (view_of g.F.Flash.state c.finish_begun.new.log) c.args.self.now.active (noted_in c.args.self.now.stopped)
    (ap noted_in c.in_ok-check_running.ensures) c.requires.is c.in-Some.active its_is c.args.who c.in_ok-check_owner.ensures
    c.bytes_left-left.result c.bytes_left-left.ensures c.if-left-gt0.false _ c.in-Err.ensures.changes c.take.new.self (Some c.note_finish.result.state) (λ stopped. ap kv_ending c.in-Err.ensures.fault)
