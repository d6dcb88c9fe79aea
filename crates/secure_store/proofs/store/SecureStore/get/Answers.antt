use Rattle.std.proofs.Common.{List, ℕ, length, sym, subst}
use Rattle.kv_model.specs.declared.call.Reply.TheVariants.{Value}
use Rattle.kv_model.specs.Kv.{Answers, answered}
use Rattle.kv_model.specs.Operations.{Part}
use Rattle.secure_store.specs.SecureState.{state_in}
use Rattle.sealed_pair.specs.SecureStep.{secure_rules}
use Rattle.sealed_pair.proofs.StoreReadLemmas.{owns_still}
use Rattle.secure_store.proofs.store.SecureStore.get.Goals as goal

pub returns-in-Ok-clause-answers : goal.returns-in-Ok-clause-answers
returns-in-Ok-clause-answers g c who =
    subst (λ (l : List ℕ). Answers secure_rules (state_in c.args.self.now) (state_in c.read_any.new.self) (answered who (Part c.args.key.now c.args.offset (length c.args.buf.now)) (Value l)))
    (sym c.clear_from-in-Ok.ensures.front) (c.in-Ok.ensures.answers who)

pub returns-in-Ok-clause-own : goal.returns-in-Ok-clause-own
returns-in-Ok-clause-own g c =
    owns_still c.args.self.now.root c.args.key.now (g.R.Kv.state c.args.self.now.rollback) c.args.offset c.in-Ok.got c.read_any.new.buf c.clear_from-in-Ok.new.buf c.clear_from-in-Ok.ensures.front
    c.in-Ok.ensures.own
