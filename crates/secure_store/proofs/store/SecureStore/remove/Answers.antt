use Rattle.std.proofs.Common.{rules, ◌≡◌, true}
use Rattle.std.specs.Prelude.{Some, is_none}
use Rattle.kv_model.specs.Keys.{is_key}
use Rattle.kv_model.specs.Operations.{Remove}
use Rattle.sealed_pair.specs.Active.{taken}
use Rattle.secure_store.proofs.TakenLemmas.{taken_answers, taken_remove}
use Rattle.secure_store.proofs.store.SecureStore.remove.Goals as goal

pub returns-else-not-is_key-clause-answers : goal.returns-else-not-is_key-clause-answers
returns-else-not-is_key-clause-answers g c =
    let running : is_none c.args.self.now.stopped ≡ true = search rules in
    let good : is_key c.args.key.now ≡ true = search rules in
    let is : taken c.args.self.now.active c.args.who ≡ Some c.in-Err.refusal = search rules in
    taken_answers (Remove c.args.key.now) (taken_remove c.args.key.now good)
    c.args.self.now.stopped running c.args.self.now.root c.args.self.now.iv c.args.self.now.active (g.U.Kv.state c.args.self.now.primary) (g.R.Kv.state c.args.self.now.rollback) c.args.who c.in-Err.refusal is
