use Rattle.std.proofs.Common.{rules, ◌≡◌, true, false, length}
use Rattle.std.specs.Prelude.{Some, is_none, nat_lt}
use Rattle.kv_model.specs.Flags.{is_secure_flags}
use Rattle.kv_model.specs.Keys.{is_key}
use Rattle.kv_model.specs.Operations.{Set}
use Rattle.sealed_pair.specs.Active.{taken}
use Rattle.sealed_pair.proofs.SettingRunLemmas.{asks_set}
use Rattle.sealed_pair.specs.declared.limits.TheConstants.{MAX_SECURE_VALUE}
use Rattle.secure_store.proofs.TakenLemmas.{taken_answers, taken_set}
use Rattle.secure_store.proofs.store.SecureStore.set.Goals as goal

pub returns-else-value-clause-answers : goal.returns-else-value-clause-answers
returns-else-value-clause-answers g c =
    let running : is_none c.args.self.now.stopped ≡ true = search rules in
    let good : is_key c.args.key.now ≡ true = search rules in
    let secure : is_secure_flags c.args.flags.bits ≡ true = search rules in
    let small : nat_lt MAX_SECURE_VALUE (length c.args.value.now) ≡ false = search rules in
    let is : taken c.args.self.now.active c.args.who ≡ Some c.in-Err.refusal = search rules in
    let op = Set c.args.key.now c.args.value.now c.args.flags.bits in
    taken_answers op (taken_set c.args.key.now (length c.args.value.now) c.args.flags.bits op (asks_set c.args.key.now c.args.value.now c.args.flags.bits) good secure small)
    c.args.self.now.stopped running c.args.self.now.root c.args.self.now.iv c.args.self.now.active (g.U.Kv.state c.args.self.now.primary) (g.R.Kv.state c.args.self.now.rollback) c.args.who c.in-Err.refusal is
