use Rattle.std.proofs.Common.{rules, ◌≡◌, false}
use Rattle.std.specs.Prelude.{is_some}
use Rattle.kv_model.specs.Given.{done_or}
use Rattle.sealed_pair.specs.Active.{own_of, share_above}
use Rattle.secure_store.proofs.IteratingLemmas.{Opens, iterates, iterating_while}
use Rattle.secure_store.proofs.SettleLemmas.{not_stopped, some_or_none}
use Rattle.secure_store.proofs.store.SecureStore.iter_open.Goals as goal

pub returns-clause-answers : goal.returns-clause-answers
returns-clause-answers g c =
    let none : is_some c.args.self.now.stopped ≡ false = search rules in
    iterates c.args.self.now.stopped (some_or_none _ c.args.self.now.stopped none) c.args.self.now.root (own_of c.args.self.now.iv c.args.self.now.active) (share_above c.args.self.now.root c.args.self.now.iv c.args.self.now.active) g.U.Kv.rules_by (g.U.Kv.state c.args.self.now.primary) (g.U.Kv.state c.iter_open.new.self)
    (g.R.Kv.state c.args.self.now.rollback) c.args.self.now.above c.args.who (Opens c.args.n c.args.prefix.now) (done_or c.iter_open.result) c.iter_open.ensures

pub invariant_of-self-clause-above : goal.invariant_of-self-clause-above
invariant_of-self-clause-above g c =
    let none : is_some c.args.self.now.stopped ≡ false = search rules in
    iterating_while c.args.self.now.stopped (some_or_none _ c.args.self.now.stopped none) c.args.self.now.root (own_of c.args.self.now.iv c.args.self.now.active) (share_above c.args.self.now.root c.args.self.now.iv c.args.self.now.active) g.U.Kv.rules_by (g.U.Kv.state c.args.self.now.primary) (g.U.Kv.state c.iter_open.new.self)
    (g.R.Kv.state c.args.self.now.rollback) c.args.self.now.above c.args.who (Opens c.args.n c.args.prefix.now) (done_or c.iter_open.result) c.iter_open.ensures

pub invariant_of-self-clause-in_doubt : goal.invariant_of-self-clause-in_doubt
invariant_of-self-clause-in_doubt g c =
    let none : is_some c.args.self.now.stopped ≡ false = search rules in
    not_stopped c.args.self.now.stopped (some_or_none _ c.args.self.now.stopped none) _ _ _
