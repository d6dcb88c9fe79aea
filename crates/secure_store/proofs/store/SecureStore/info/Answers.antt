use Rattle.std.proofs.Common.{List, ℕ, subst}
use Rattle.kv_model.specs.Given.{facts_or}
use Rattle.kv_model.specs.Kv.{Answers, answered}
use Rattle.kv_model.specs.Operations.{Info}
use Rattle.secure_store.specs.SecureState.{state_in}
use Rattle.sealed_pair.specs.SecureStep.{secure_rules}
use Rattle.secure_store.proofs.store.SecureStore.info.Goals as goal

pub returns-in-Ok-clause-answers : goal.returns-in-Ok-clause-answers
returns-in-Ok-clause-answers g c who =
    subst (λ (k : List ℕ). Answers secure_rules (state_in c.args.self.now) (state_in c.describe.new.self) (answered who (Info k) (facts_or c.describe.result))) c.in-Ok.ensures.0
    (c.describe.ensures.answers who)
