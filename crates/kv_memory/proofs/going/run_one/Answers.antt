use Rattle.std.proofs.Common.{◌∷◌, [], ◌++◌, List, sym, ◌∙◌, ap, subst}
use Rattle.kv_model.specs.declared.call.Call.{Call}
use Rattle.kv_model.specs.declared.call.Entry.{Entry}
use Rattle.kv_memory.specs.Going.{HasGoneOn, seen}
use Rattle.kv_memory.proofs.GoingLemmas.{begun, performed, unperformed}
use Rattle.journal_core.specs.JournalState.{next_entry}
use Rattle.kv_memory.proofs.going.run_one.Goals as goal

pub returns-in-Ok-clause-ran : goal.returns-in-Ok-clause-ran
returns-in-Ok-clause-ran g c =
    let by = g.K.Kv.rules_by in
    let old = g.K.Kv.state c.args.store.now in
    let new = g.K.Kv.state c.perform.new.store in
    let entries = c.args.journal.now.entries in
    let gone = performed by (seen old entries) old new entries [] c.args.who c.args.call.now c.in-Ok.reply c.in-Ok.ensures.memory (begun by old entries) c.in-Ok.ensures.performs in
    let noted = c.append.ensures
    ∙ ap (λ (l : List Entry). l ++ next_entry l c.args.who c.in_ok-noted.noted c.in-Ok.reply ∷ []) c.reserve.ensures.entries
    ∙ ap (λ (call : Call). entries ++ next_entry entries c.args.who call c.in-Ok.reply ∷ []) c.in_ok-noted.ensures in
    subst (λ (l : List Entry). HasGoneOn by (seen old entries) (seen new l) ((c.args.who, c.args.call.now) ∷ [])) (sym noted) gone

pub returns-in-Err-clause-stopped : goal.returns-in-Err-clause-stopped
returns-in-Err-clause-stopped g c =
    let by = g.K.Kv.rules_by in
    let old = g.K.Kv.state c.args.store.now in
    let new = g.K.Kv.state c.perform.new.store in
    let entries = c.args.journal.now.entries in
    let gone = unperformed by (seen old entries) old new entries [] c.args.who c.args.call.now c.in-Err.none (begun by old entries) c.in-Err.ensures.performs in
    subst (λ (l : List Entry). HasGoneOn by (seen old entries) (seen new l) []) (sym c.reserve.ensures.entries) gone
