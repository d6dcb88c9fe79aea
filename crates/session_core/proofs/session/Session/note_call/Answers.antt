use Rattle.std.proofs.Common.{◌≡◌, ◌∷◌, [], ◌++◌, List, ◌∙◌, ap}
use Rattle.kv_model.specs.declared.call.Entry.{Entry}
use Rattle.journal_core.specs.JournalState.{next_entry}
use Rattle.script_core.specs.declared.line.Act.TheVariants.{Do}
use Rattle.session_core.specs.declared.ended.Ended.TheVariants as ended
use Rattle.session_core.proofs.ReplayLemmas.{call_done, call_memory, with_entries}
use Rattle.session_core.proofs.session.Session.note_call.Goals as goal

pub returns-in-Ok-clause-done : goal.returns-in-Ok-clause-done
returns-in-Ok-clause-done c =
    let old = c.args.self.now in
    let new = c.perform.new.store in
    let entries = c.args.journal.now.entries in
    let who = c.args.who in
    let asked = c.args.call in
    let reply = c.in-Ok.reply in
    let noted : c.append.new.self.entries ≡ entries ++ next_entry entries who asked reply ∷ [] = c.append.ensures
    ∙ ap (λ (l : List Entry). l ++ next_entry l who asked reply ∷ []) c.reserve.ensures.entries in
    with_entries old new entries (entries ++ next_entry entries who asked reply ∷ []) c.append.new.self.entries (record { who = who; act = Do asked }) ended.Whole noted
    (call_done old new entries who asked reply c.in-Ok.ensures.memory c.in-Ok.ensures.performs)

pub returns-in-Err-clause-none : goal.returns-in-Err-clause-none
returns-in-Err-clause-none c =
    let old = c.args.self.now in
    let new = c.perform.new.store in
    let entries = c.args.journal.now.entries in
    with_entries old new entries entries c.reserve.new.self.entries (record { who = c.args.who; act = Do c.args.call }) ended.Memory c.reserve.ensures.entries
    (call_memory old new entries c.args.who c.args.call c.in-Err.none c.in-Err.ensures.performs)
