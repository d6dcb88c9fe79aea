use Rattle.std.proofs.Common.{◌≡◌, ◌+◌, ◌∷◌, [], ◌++◌, List, Result, Ok, Err, OnErr, take, sym, ◌∙◌, ap, subst, arith, ◌<◌, length}
use Rattle.std.proofs.lemmas.List.{append-nil, take_more}
use Rattle.kv_model.specs.Orders.{Line}
use Rattle.kv_memory.specs.Going.{HasGoneOn, seen}
use Rattle.kv_memory.proofs.GoingLemmas.{history, joined}
use Rattle.kv_memory.proofs.going.run_calls.Goals as goal

on_err : {A E : Type 0} {P : Type 0} (r : Result A E) → P → OnErr r P
on_err (Ok x) p = tt
on_err (Err x) p = p

pub loop-line-preserved : goal.loop-line-preserved
loop-line-preserved g c =
    let by = g.K.Kv.rules_by in
    let lines = c.args.lines.now in
    let at = c.loop-line.line-index in
    let line : Line = c.line-item.result in
    let first = seen (g.K.Kv.state c.args.store.now) c.args.journal.now.entries in
    let mid = seen (g.K.Kv.state c.loop-line.store) c.loop-line.journal.entries in
    let last = seen (g.K.Kv.state c.run_one.new.store) c.run_one.new.journal.entries in
    let gone : HasGoneOn by first last (take at lines ++ line ∷ []) = joined by first mid last (take at lines) (line ∷ []) c.loop-line.invariant c.in_ok-run_one.ensures.ran in
    let within : at < length lines = omega arith in
    let taken : take (at + 1) lines ≡ take at lines ++ line ∷ [] = take_more lines at line within ∙ ap (λ (l : Line). take at lines ++ l ∷ []) (sym c.line-item.is) in
    subst (λ (ls : List Line). HasGoneOn by first last ls) (sym taken) gone

pub returns-in_err-run_one-clause-stopped : goal.returns-in_err-run_one-clause-stopped
returns-in_err-run_one-clause-stopped g c =
    let by = g.K.Kv.rules_by in
    let lines = c.args.lines.now in
    let at = c.loop-line.line-index in
    let first = seen (g.K.Kv.state c.args.store.now) c.args.journal.now.entries in
    let mid = seen (g.K.Kv.state c.loop-line.store) c.loop-line.journal.entries in
    let last = seen (g.K.Kv.state c.run_one.new.store) c.run_one.new.journal.entries in
    let gone : HasGoneOn by first last (take at lines ++ []) = joined by first mid last (take at lines) [] c.loop-line.invariant c.in_err-run_one.ensures.stopped in
    on_err c.from_residual.result (at, subst (λ (ls : List Line). HasGoneOn by first last ls) (append-nil (take at lines)) gone)

pub returns-in_err-run_one-clause-history : goal.returns-in_err-run_one-clause-history
returns-in_err-run_one-clause-history g c =
    let by = g.K.Kv.rules_by in
    let lines = c.args.lines.now in
    let at = c.loop-line.line-index in
    let first = seen (g.K.Kv.state c.args.store.now) c.args.journal.now.entries in
    let mid = seen (g.K.Kv.state c.loop-line.store) c.loop-line.journal.entries in
    let last = seen (g.K.Kv.state c.run_one.new.store) c.run_one.new.journal.entries in
    history by first last (take at lines ++ []) (joined by first mid last (take at lines) [] c.loop-line.invariant c.in_err-run_one.ensures.stopped)

pub returns-clause-history : goal.returns-clause-history
returns-clause-history g c =
    let first = seen (g.K.Kv.state c.args.store.now) c.args.journal.now.entries in
    let last = seen (g.K.Kv.state c.loop-line.store) c.loop-line.journal.entries in
    history g.K.Kv.rules_by first last (take c.loop-line.line-index c.args.lines.now) c.loop-line.invariant
