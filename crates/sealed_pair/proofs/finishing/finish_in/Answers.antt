use Rattle.std.proofs.Common.{rules, ◌≡◌, Bool, true, false, subst, sym}
use Rattle.sealed_pair.specs.Active.{share_of_remove}
use Rattle.sealed_pair.specs.Begun.{finishes_remove, with_key_gone}
use Rattle.sealed_pair.specs.Going.{Failed, HasGone, map_after}
use Rattle.sealed_pair.proofs.BegunLemmas.{finished_elsewhere, has_finished, not_finished}
use Rattle.sealed_pair.proofs.finishing.finish_in.Goals as goal

pub returns-then-not-is_begun : goal.returns-then-not-is_begun
returns-then-not-is_begun g c key =
    let not_here : c.args.is_begun ≡ false = search rules in
    subst (λ (b : Bool). HasGone (share_of_remove c.args.who key b) g.S.Kv.rules_by (g.S.Kv.state c.args.store.now) (g.S.Kv.state c.args.store.now) (with_key_gone key)
    (map_after (finishes_remove c.args.who key (share_of_remove c.args.who key b)))) (sym not_here)
    (finished_elsewhere key c.args.who g.S.Kv.rules_by (g.S.Kv.state c.args.store.now))

pub returns-in-Ok : goal.returns-in-Ok
returns-in-Ok g c key =
    let here : c.args.is_begun ≡ true = search rules in
    subst (λ (b : Bool). HasGone (share_of_remove c.args.who key b) g.S.Kv.rules_by (g.S.Kv.state c.args.store.now) (g.S.Kv.state c.set_finish.new.self) (with_key_gone key)
    (map_after (finishes_remove c.args.who key (share_of_remove c.args.who key b)))) (sym here)
    (has_finished key c.args.who g.S.Kv.rules_by (g.S.Kv.state c.args.store.now) (g.S.Kv.state c.set_finish.new.self) c.in-Ok.ensures)

pub returns-in-Err : goal.returns-in-Err
returns-in-Err g c key =
    let here : c.args.is_begun ≡ true = search rules in
    subst (λ (b : Bool). Failed g.S.Kv.rules_by (finishes_remove c.args.who key (share_of_remove c.args.who key b)) (g.S.Kv.state c.args.store.now) (g.S.Kv.state c.set_finish.new.self)
    c.in-Err.refusal) (sym here)
    (not_finished key c.args.who g.S.Kv.rules_by (g.S.Kv.state c.args.store.now) (g.S.Kv.state c.set_finish.new.self) c.in-Err.refusal c.in-Err.ensures)
