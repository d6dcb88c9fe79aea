use Rattle.std.proofs.Common.{◌≡◌, List, ◌∷◌, [], ◌++◌, length, None, Ok, refl, sym, ◌∙◌, ap, subst, rules}
use Rattle.kv_model.specs.declared.call.Reply.{Reply}
use Rattle.kv_model.specs.declared.call.Entry.{Entry}
use Rattle.kv_model.specs.Performs.{Performs}
use Rattle.journal_core.specs.JournalState.{next_entry}
use Rattle.shared_kv.specs.declared.fault.Fault.{Fault}
use Rattle.shared_kv.specs.Attempts.{FaultsInTurn}
use Rattle.shared_kv.specs.Desks.{book_in}
use Rattle.shared_kv.specs.Histories.{StandsFor}
use Rattle.shared_kv.proofs.HistoryLemmas.{busy, completed, left_stands, same_state, wanted}
use Rattle.shared_kv.proofs.desk.Desk.attempt.Goals as goal

pub returns-in-Some-owner_in-clause-stands : goal.returns-in-Some-owner_in-clause-stands
returns-in-Some-owner_in-clause-stands g c opening stands =
    let by = g.K.Kv.rules_by in
    let store = c.args.self.now.store in
    let old = g.K.Kv.state store in
    let new = g.K.Kv.state c.perform_twice.new.store in
    let does = subst (λ (r : Reply). Performs by old new c.args.who c.args.call (Ok r)) c.in-Some-owner_in.ensures.busy c.in-Ok.ensures.performs in
    let left = (busy by g.met.K.Kv.by_rules old new c.args.who _ c.args.call does).left in
    subst (λ (l : List Entry). StandsFor by new.known l opening) (sym c.reserve.ensures.entries)
    (left_stands by old new (g.met.K.Kv.lawful store) left opening c.args.self.now.journal.entries stands)

pub returns-in-Some-owner_in-clause-same : goal.returns-in-Some-owner_in-clause-same
returns-in-Some-owner_in-clause-same g c =
    let by = g.K.Kv.rules_by in
    let old = g.K.Kv.state c.args.self.now.store in
    let new = g.K.Kv.state c.perform_twice.new.store in
    let does = subst (λ (r : Reply). Performs by old new c.args.who c.args.call (Ok r)) c.in-Some-owner_in.ensures.busy c.in-Ok.ensures.performs in
    let left = (busy by g.met.K.Kv.by_rules old new c.args.who _ c.args.call does).left in
    record { same_state = same_state by old new left; entries = c.reserve.ensures.entries; quitter = refl }

pub returns-in-Some-owner_in-clause-fault : goal.returns-in-Some-owner_in-clause-fault
returns-in-Some-owner_in-clause-fault g c =
    let by = g.K.Kv.rules_by in
    let desk = c.args.self.now in
    let old = g.K.Kv.state desk.store in
    let new = g.K.Kv.state c.perform_twice.new.store in
    let does = subst (λ (r : Reply). Performs by old new c.args.who c.args.call (Ok r)) c.in-Some-owner_in.ensures.busy c.in-Ok.ensures.performs in
    let met = (busy by g.met.K.Kv.by_rules old new c.args.who _ c.args.call does).busy in
    let nobody : desk.quitter ≡ None = search rules in
    subst (λ (f : Fault). FaultsInTurn by (book_in g.K.Kv.state desk) c.args.who c.args.call f) (sym c.busy.ensures)
    (nobody, ap length c.reserve.ensures.entries, met)

pub returns-in-None-clause-stands : goal.returns-in-None-clause-stands
returns-in-None-clause-stands g c opening stands =
    let by = g.K.Kv.rules_by in
    let store = c.args.self.now.store in
    let old = g.K.Kv.state store in
    let new = g.K.Kv.state c.perform_twice.new.store in
    let entries : List Entry = c.args.self.now.journal.entries in
    let call = c.args.call in
    let who = c.args.who in
    let noted = c.note.ensures.entries
    ∙ ap (λ (l : List Entry). l ++ next_entry l who call c.in-Ok.noted ∷ []) c.reserve.ensures.entries
    ∙ ap (λ (r : Reply). entries ++ next_entry entries who call r ∷ []) c.in-Ok.ensures.same in
    let gone = completed by old new (g.met.K.Kv.lawful store) opening entries who call c.in-Ok.reply c.in-Ok.ensures.memory c.in-None.ensures.other c.in-Ok.ensures.performs stands in
    let there = subst (λ (l : List Entry). StandsFor by new.known l opening) (sym noted) gone in
    subst (λ s. StandsFor by (g.K.Kv.state s).known c.note.new.self.journal.entries opening) (sym c.note.ensures.store) there

pub returns-in-Err-clause-stands : goal.returns-in-Err-clause-stands
returns-in-Err-clause-stands g c opening stands =
    let by = g.K.Kv.rules_by in
    let store = c.args.self.now.store in
    let old = g.K.Kv.state store in
    let new = g.K.Kv.state c.perform_twice.new.store in
    let left = wanted by old new c.args.who c.args.call c.in-Err.field-0 c.in-Err.ensures.performs in
    subst (λ (l : List Entry). StandsFor by new.known l opening) (sym c.reserve.ensures.entries)
    (left_stands by old new (g.met.K.Kv.lawful store) left opening c.args.self.now.journal.entries stands)
