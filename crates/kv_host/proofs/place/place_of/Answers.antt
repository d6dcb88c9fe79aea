use Rattle.std.proofs.Common.{◌≢◌, sym, ap}
use Rattle.std.specs.Prelude.{IsTrue, is_some}
use Rattle.std.proofs.lemmas.List.Elements.{All-more, All-same}
use Rattle.std.proofs.lemmas.List.{take_all}
use Rattle.kv_host.proofs.Files.{get-at, get-none}
use Rattle.kv_host.specs.Table.{name_in}
use Rattle.kv_host.proofs.place.place_of.Goals as goal

pub loop-i-preserved : goal.loop-i-preserved
loop-i-preserved c = All-more (λ e. name_in c.args.arena.now e ≢ c.args.name.now) _ _ _ c.loop-i-test.true c.loop-i.invariant
    (λ same. let h : IsTrue c.has_name.result = c.has_name.ensures.1 same in cc)

pub returns-then-has_name-clause-found : goal.returns-then-has_name-clause-found
returns-then-has_name-clause-found c = sym (ap is_some (get-at c.args.arena.now c.args.name.now c.args.entries.now c.loop-i.i _ c.loop-i-test.true c.loop-i.invariant (c.has_name.ensures.0 c.if-has_name.true)))

pub returns-clause-found : goal.returns-clause-found
returns-clause-found c = sym (ap is_some (get-none c.args.arena.now c.args.name.now c.args.entries.now
    (All-same (λ e. name_in c.args.arena.now e ≢ c.args.name.now) _ _ (sym (take_all _ c.args.entries.now c.loop-i-test.false)) c.loop-i.invariant)))
