use Rattle.std.proofs.Common.{rules, ◌≡◌, refl, sym, ◌∙◌, ap, subst, List, ℕ, Some}
use Rattle.kv_model.specs.declared.call.Reply.{Reply}
use Rattle.kv_model.specs.declared.call.Reply.TheVariants.{Refused}
use Rattle.kv_model.specs.declared.error.KvError.TheVariants.{WriteFault}
use Rattle.kv_model.specs.Kv.{answered}
use Rattle.kv_model.specs.Operations.{Start}
use Rattle.kv_model.specs.StoreState.{StoreState}
use Rattle.record_core.specs.Endings.{kv_ending}
use Rattle.tdb_read.specs.Views.{view_of}
use Rattle.plain_store.specs.Setting.{IsAllowed}
use Rattle.plain_store.specs.Stores.{Calls, in_doubt, noted_in}
use Rattle.plain_store.proofs.SetLemmas.{early_refused, handed, look_refused}
use Rattle.plain_store.proofs.StartLemmas.{not_fault, over_free, start_done, start_doubted, start_refused, start_stop, start_cuts}
use Rattle.plain_store.proofs.StoreLemmas.{view_at}
use Rattle.plain_store.proofs.plain.PlainStore.set_start.Goals as goal

pub returns-in_err-key-clause-answers : goal.returns-in_err-key-clause-answers
returns-in_err-key-clause-answers g c =
    let v = view_of g.F.Flash.state c.args.self.now.log in
    let active = c.args.self.now.active in
    let note = noted_in c.args.self.now.stopped in
    let operation = Start c.args.key.now c.args.size c.args.flags.bits in
    handed (λ (given : Reply). Calls (view_at v active note) (view_at v active note) (answered c.args.who operation given)) c.from_residual-in_err-key.result c.in_err-key.field-0.0 c.from_residual-in_err-key.ensures.1
    (early_refused v active note (ap noted_in c.in_ok-check_running.ensures) c.args.who operation c.args.key.now c.args.size c.args.flags.bits (λ image set. refl) (λ s e. refl)
    c.in_err-key.field-0.0 c.in_err-key.ensures.allowed)

pub returns-in_err-place-clause-answers : goal.returns-in_err-place-clause-answers
returns-in_err-place-clause-answers g c =
    let v = view_of g.F.Flash.state c.args.self.now.log in
    let w = view_of g.F.Flash.state c.look_up.new.log in
    let active = c.args.self.now.active in
    let note = noted_in c.args.self.now.stopped in
    let key = c.in_ok-key.key in
    let bytes = c.args.key.now in
    let key_is = c.in_ok-key.ensures.key in
    let free = c.in_ok-key.ensures.allowed.free in
    let runs = ap noted_in c.in_ok-check_running.ensures in
    let operation = Start key c.args.size c.args.flags.bits in
    let allowed = subst (λ (k : List ℕ). IsAllowed active k c.args.size c.args.flags.bits) (sym key_is) c.in_ok-key.ensures.allowed in
    handed (λ (given : Reply). Calls (view_at v active note) (view_at w active note) (answered c.args.who (Start bytes c.args.size c.args.flags.bits) given)) c.from_residual-in_err-place.result c.in_err-place.field-0.0 c.from_residual-in_err-place.ensures.1
    (subst (λ (k : List ℕ). Calls (view_at v active note) (view_at w active note) (answered c.args.who (Start k c.args.size c.args.flags.bits) (Refused c.in_err-place.field-0.0))) key_is
    (over_free v w active note runs free c.args.who operation (Refused c.in_err-place.field-0.0)
    (look_refused v w c.in_err-place.ensures.reads c.args.who operation key c.args.size c.args.flags.bits refl refl (λ image. refl) (λ s e. refl) active allowed
    c.in_err-place.field-0.0 c.in_err-place.ensures.can)))

pub returns-then-ne-clause-answers : goal.returns-then-ne-clause-answers
returns-then-ne-clause-answers g c =
    let v = view_of g.F.Flash.state c.args.self.now.log in
    let w = view_of g.F.Flash.state c.look_up.new.log in
    let x = view_of g.F.Flash.state c.begin_set.new.log in
    let other : c.in-Err.error ≡ WriteFault → ⊥ = search rules in
    start_refused v w x c.args.self.now.active (noted_in c.args.self.now.stopped) (ap noted_in c.in_ok-check_running.ensures) c.requires.is c.args.who c.in_ok-key.key c.args.key.now c.in_ok-key.ensures.key
    c.args.size c.args.flags.bits c.in_ok-key.ensures.allowed c.in_ok-place.ensures.reads c.in_ok-place.place c.in_ok-place.ensures.can (kv_ending c.in-Err.error) c.in-Err.ensures.changes c.in-Err.error refl
    (not_fault w.device x.device c.in-Err.error c.in-Err.ensures.refusal other)

pub returns-in-Ok-clause-answers : goal.returns-in-Ok-clause-answers
returns-in-Ok-clause-answers g c =
    let v = view_of g.F.Flash.state c.args.self.now.log in
    let w = view_of g.F.Flash.state c.look_up.new.log in
    let x = view_of g.F.Flash.state c.begin_set.new.log in
    start_done v w x c.args.self.now.active (noted_in c.args.self.now.stopped) (ap noted_in c.in_ok-check_running.ensures) c.requires.is c.args.who c.in_ok-key.key c.args.key.now c.in_ok-key.ensures.key
    c.args.size c.args.flags.bits c.in_ok-key.ensures.allowed c.in_ok-place.ensures.reads c.in_ok-place.place c.in_ok-place.ensures.can _ c.in-Ok.ensures.changes refl
    c.in-Ok.set c.begin_set.new.log.end c.in-Ok.ensures.set c.note_bytes-fed.result c.note_bytes-fed.ensures

pub returns-else-ne-clause-is : goal.returns-else-ne-clause-is
returns-else-ne-clause-is g c =
    let v = view_of g.F.Flash.state c.args.self.now.log in
    let w = view_of g.F.Flash.state c.look_up.new.log in
    let x = view_of g.F.Flash.state c.begin_set.new.log in
    let fault : c.in-Err.error ≡ WriteFault = search rules in
    start_stop v w x c.args.self.now.active (noted_in c.args.self.now.stopped) (ap noted_in c.in_ok-check_running.ensures) c.requires.is c.args.who c.in_ok-key.key c.args.key.now c.in_ok-key.ensures.key
    c.args.size c.args.flags.bits c.in_ok-key.ensures.allowed c.in_ok-place.ensures.reads c.in_ok-place.place c.in_ok-place.ensures.can (kv_ending c.in-Err.error) c.in-Err.ensures.changes (ap kv_ending fault)
    c.note_start.result.state
    (c.note_start.ensures ∙ ap (λ (s : StoreState). in_doubt s c.args.who (Start c.in_ok-key.key c.args.size c.args.flags.bits)) c.note_state-before.ensures)

pub returns-else-ne-clause-answers : goal.returns-else-ne-clause-answers
returns-else-ne-clause-answers g c =
    let v = view_of g.F.Flash.state c.args.self.now.log in
    let w = view_of g.F.Flash.state c.look_up.new.log in
    let x = view_of g.F.Flash.state c.begin_set.new.log in
    let fault : c.in-Err.error ≡ WriteFault = search rules in
    start_doubted v w x c.args.self.now.active (noted_in c.args.self.now.stopped) (ap noted_in c.in_ok-check_running.ensures) c.requires.is c.args.who c.in_ok-key.key c.args.key.now c.in_ok-key.ensures.key
    c.args.size c.args.flags.bits c.in_ok-key.ensures.allowed c.in_ok-place.ensures.reads c.in_ok-place.place c.in_ok-place.ensures.can (kv_ending c.in-Err.error) c.in-Err.ensures.changes (ap kv_ending fault)
    c.note_start.result.state
    (c.note_start.ensures ∙ ap (λ (s : StoreState). in_doubt s c.args.who (Start c.in_ok-key.key c.args.size c.args.flags.bits)) c.note_state-before.ensures)
    c.args.self.now.active c.in-Err.error fault

pub returns-else-ne-clause-moments : goal.returns-else-ne-clause-moments
returns-else-ne-clause-moments g c runs =
    let v = view_of g.F.Flash.state c.args.self.now.log in
    let w = view_of g.F.Flash.state c.look_up.new.log in
    let x = view_of g.F.Flash.state c.begin_set.new.log in
    let fault : c.in-Err.error ≡ WriteFault = search rules in
    start_cuts v w x c.args.self.now.active (noted_in c.args.self.now.stopped) (ap noted_in c.in_ok-check_running.ensures) c.requires.is c.args.who c.in_ok-key.key c.args.key.now c.in_ok-key.ensures.key
    c.args.size c.args.flags.bits c.in_ok-key.ensures.allowed c.in_ok-place.ensures.reads c.in_ok-place.place c.in_ok-place.ensures.can (kv_ending c.in-Err.error) c.in-Err.ensures.changes
    c.args.self.now.active (Some c.note_start.result.state) (λ stopped. ap kv_ending fault)
