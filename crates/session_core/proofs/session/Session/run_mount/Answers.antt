use Rattle.std.proofs.Common.{◌≡◌, List, [], ◌∷◌, ◌++◌, refl, ◌∙◌, ap}
use Rattle.kv_model.specs.declared.call.Call.TheVariants as call
use Rattle.kv_model.specs.declared.call.Entry.{Entry}
use Rattle.kv_model.specs.declared.call.Reply.TheVariants.{Done}
use Rattle.journal_core.specs.JournalState.{next_entry}
use Rattle.script_core.specs.declared.line.Act.TheVariants.{Do}
use Rattle.session_core.specs.declared.ended.Ended.TheVariants as ended
use Rattle.session_core.proofs.ReplayLemmas.{mount_chance, mount_done, mount_memory, with_entries}
use Rattle.session_core.proofs.session.Session.run_mount.Goals as goal

pub returns-in-Whole : goal.returns-in-Whole
returns-in-Whole c =
    let old = c.args.self.now in
    let new = c.settle.new.self in
    let entries = c.args.journal.now.entries in
    let noted : c.append.new.self.entries ≡ entries ++ next_entry entries 0 call.Mount Done ∷ [] =
    c.append.ensures ∙ ap (λ (l : List Entry). l ++ next_entry l 0 call.Mount Done ∷ []) c.reserve.ensures.entries in
    with_entries old new entries (entries ++ next_entry entries 0 call.Mount Done ∷ []) c.append.new.self.entries (record { who = 0; act = Do call.Mount }) ended.Whole noted
    (mount_done old new entries 0 refl c.in-Whole.ensures)

pub returns-in-Memory : goal.returns-in-Memory
returns-in-Memory c =
    let old = c.args.self.now in
    let new = c.settle.new.self in
    let entries = c.args.journal.now.entries in
    with_entries old new entries entries c.reserve.new.self.entries (record { who = 0; act = Do call.Mount }) ended.Memory c.reserve.ensures.entries
    (mount_memory old new entries (record { who = 0; act = Do call.Mount }) c.in-Memory.ensures)

pub returns-in-Chance : goal.returns-in-Chance
returns-in-Chance c =
    let old = c.args.self.now in
    let new = c.settle.new.self in
    let entries = c.args.journal.now.entries in
    let side = c.in-Chance.side in
    let place = c.in-Chance.place in
    with_entries old new entries entries c.reserve.new.self.entries (record { who = 0; act = Do call.Mount }) (ended.Chance side place) c.reserve.ensures.entries
    (mount_chance old new entries side place c.in-Chance.ensures.0 c.in-Chance.ensures.1)
