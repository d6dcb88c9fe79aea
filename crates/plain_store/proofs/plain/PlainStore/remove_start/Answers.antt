use Rattle.std.proofs.Common.{rules, ◌≡◌, Some, refl, ◌∙◌, ap}
use Rattle.kv_model.specs.declared.error.KvError.TheVariants.{WriteFault}
use Rattle.kv_model.specs.StoreState.{StoreState, begun_remove}
use Rattle.kv_model.specs.Operations.{RemoveStart}
use Rattle.record_core.specs.Endings.{kv_ending}
use Rattle.tdb_read.specs.Views.{view_of}
use Rattle.tdb_write.specs.Changes.{unchanged}
use Rattle.plain_store.specs.Removing.{Readies}
use Rattle.plain_store.specs.Sets.{set_in}
use Rattle.plain_store.specs.Stores.{in_doubt, noted_in}
use Rattle.plain_store.proofs.RemovalLemmas.{begins, look_up_refused, removal_done, removal_doubted, removal_stop, removal_unread, removal_cuts}
use Rattle.plain_store.proofs.RemovedLemmas.{ready_follows}
use Rattle.plain_store.proofs.StoreLemmas.{running_of}
use Rattle.plain_store.proofs.plain.PlainStore.remove_start.Goals as goal

pub returns-in_err-place-clause-answers : goal.returns-in_err-place-clause-answers
returns-in_err-place-clause-answers g c =
    let old = view_of g.F.Flash.state c.args.self.now.log in
    let mid = view_of g.F.Flash.state c.find_removable.new.log in
    look_up_refused old mid c.args.self.now.active (noted_in c.args.self.now.stopped)
    (ap noted_in c.in_ok-check_running.ensures) c.in_ok-key.ensures.allowed.free c.args.who c.in_ok-key.key c.args.key.now c.in_ok-key.ensures.key RemoveStart
    c.in_ok-key.ensures.allowed.valid begins c.in_err-place.ensures.reads c.from_residual-in_err-place.result c.in_err-place.field-0.0 c.from_residual-in_err-place.ensures.1 c.in_err-place.ensures.can

pub returns-in-Ok-clause-answers : goal.returns-in-Ok-clause-answers
returns-in-Ok-clause-answers g c =
    let old = view_of g.F.Flash.state c.args.self.now.log in
    let mid = view_of g.F.Flash.state c.find_removable.new.log in
    let new = view_of g.F.Flash.state c.ready_remove.new.log in
    removal_done old mid new c.args.self.now.active (noted_in c.args.self.now.stopped)
    (ap noted_in c.in_ok-check_running.ensures) c.requires.is c.in_ok-key.ensures.allowed.free c.args.who c.in_ok-key.key c.args.key.now c.in_ok-key.ensures.key c.in_ok-key.ensures.allowed.valid
    RemoveStart begins c.in_ok-place.ensures.reads c.in_ok-place.ensures.can.replaceable (Some (begun_remove c.args.who c.in_ok-key.key)) unchanged (Readies mid c.in_ok-key.key) (λ image. refl) _ c.in-Ok.ensures.changes refl
    (ready_follows old mid
    (running_of old c.args.self.now.active (noted_in c.args.self.now.stopped) (ap noted_in c.in_ok-check_running.ensures) c.requires.is).ready
    c.in_ok-place.ensures.reads c.in_ok-key.key)

pub returns-then-eq-clause-is : goal.returns-then-eq-clause-is
returns-then-eq-clause-is g c =
    let old = view_of g.F.Flash.state c.args.self.now.log in
    let mid = view_of g.F.Flash.state c.find_removable.new.log in
    let new = view_of g.F.Flash.state c.ready_remove.new.log in
    let fault : c.in-Err.error ≡ WriteFault = search rules in
    removal_stop old mid new c.args.self.now.active (noted_in c.args.self.now.stopped)
    (ap noted_in c.in_ok-check_running.ensures) c.requires.is c.in_ok-key.ensures.allowed.free c.args.who c.in_ok-key.key c.args.key.now c.in_ok-key.ensures.key c.in_ok-key.ensures.allowed.valid
    RemoveStart begins c.in_ok-place.ensures.reads c.in_ok-place.ensures.can.replaceable (Some (begun_remove c.args.who c.in_ok-key.key)) unchanged (Readies mid c.in_ok-key.key) (λ image. refl) _ c.in-Err.ensures.changes
    (ap kv_ending fault) c.note_remove_start-note.result.state
    (c.note_remove_start-note.ensures ∙ ap (λ (s : StoreState). in_doubt s c.args.who (RemoveStart c.in_ok-key.key)) c.note_state.ensures)

pub returns-then-eq-clause-answers : goal.returns-then-eq-clause-answers
returns-then-eq-clause-answers g c =
    let old = view_of g.F.Flash.state c.args.self.now.log in
    let mid = view_of g.F.Flash.state c.find_removable.new.log in
    let new = view_of g.F.Flash.state c.ready_remove.new.log in
    let fault : c.in-Err.error ≡ WriteFault = search rules in
    removal_doubted old mid new c.args.self.now.active (noted_in c.args.self.now.stopped)
    (ap noted_in c.in_ok-check_running.ensures) c.requires.is c.in_ok-key.ensures.allowed.free c.args.who c.in_ok-key.key c.args.key.now c.in_ok-key.ensures.key c.in_ok-key.ensures.allowed.valid
    RemoveStart begins c.in_ok-place.ensures.reads c.in_ok-place.ensures.can.replaceable (Some (begun_remove c.args.who c.in_ok-key.key)) unchanged (Readies mid c.in_ok-key.key) (λ image. refl) _ c.in-Err.ensures.changes
    (ap kv_ending fault) c.note_remove_start-note.result.state
    (c.note_remove_start-note.ensures ∙ ap (λ (s : StoreState). in_doubt s c.args.who (RemoveStart c.in_ok-key.key)) c.note_state.ensures)
    (set_in c.args.self.now.active) c.in-Err.error fault

pub returns-else-eq-clause-answers : goal.returns-else-eq-clause-answers
returns-else-eq-clause-answers g c =
    let old = view_of g.F.Flash.state c.args.self.now.log in
    let mid = view_of g.F.Flash.state c.find_removable.new.log in
    let new = view_of g.F.Flash.state c.ready_remove.new.log in
    let no_fault : c.in-Err.error ≡ WriteFault → ⊥ = search rules in
    removal_unread old mid new c.args.self.now.active (noted_in c.args.self.now.stopped)
    (ap noted_in c.in_ok-check_running.ensures) c.requires.is c.in_ok-key.ensures.allowed.free c.args.who c.in_ok-key.key c.args.key.now c.in_ok-key.ensures.key c.in_ok-key.ensures.allowed.valid
    RemoveStart begins c.in_ok-place.ensures.reads c.in_ok-place.ensures.can.replaceable (Some (begun_remove c.args.who c.in_ok-key.key)) unchanged (Readies mid c.in_ok-key.key) (λ image. refl) _ c.in-Err.ensures.changes
    c.in-Err.error refl no_fault c.in-Err.ensures.refusal

pub returns-then-eq-clause-moments : goal.returns-then-eq-clause-moments
returns-then-eq-clause-moments g c runs =
    let old = view_of g.F.Flash.state c.args.self.now.log in
    let mid = view_of g.F.Flash.state c.find_removable.new.log in
    let new = view_of g.F.Flash.state c.ready_remove.new.log in
    let fault : c.in-Err.error ≡ WriteFault = search rules in
    removal_cuts old mid new c.args.self.now.active (noted_in c.args.self.now.stopped)
    (ap noted_in c.in_ok-check_running.ensures) c.requires.is c.in_ok-key.ensures.allowed.free c.args.who c.in_ok-key.key c.args.key.now c.in_ok-key.ensures.key c.in_ok-key.ensures.allowed.valid
    RemoveStart begins c.in_ok-place.ensures.reads c.in_ok-place.ensures.can.replaceable (Some (begun_remove c.args.who c.in_ok-key.key)) unchanged (Readies mid c.in_ok-key.key) (λ image. refl) _ c.in-Err.ensures.changes
    c.args.self.now.active (Some c.note_remove_start-note.result.state) (λ stopped. ap kv_ending fault)
