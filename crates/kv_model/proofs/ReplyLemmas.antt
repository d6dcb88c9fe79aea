-- How the replies to calls in order follow from each single step. A worked example that is too long for one computation
-- is so cut into its steps.
use Rattle.std.proofs.Common.{◌≡◌, ℕ, List, [], ◌∷◌, map, refl, ◌∙◌, ap}
use Rattle.kv_model.specs.declared.call.Reply.{Reply}
use Rattle.kv_model.specs.StoreState.{StoreState}
use Rattle.kv_model.specs.Operations.{Operation}
use Rattle.kv_model.specs.Constants.{Constants}
use Rattle.kv_model.specs.Rules.{Outcome}
use Rattle.kv_model.specs.PlainStep.{plain_step}
use Rattle.kv_model.specs.Replies.{plain_replies, replies_from}

-- a call, its reply and the state that it leaves
pub record Step : Type 0 where
  pub who : ℕ
  pub operation : Operation
  pub outcome : Outcome

abbrev pub AreSteps : Constants → StoreState → List Step → Type 0
AreSteps constants old [] = Unit {0}
AreSteps constants old (step ∷ steps) = (plain_step constants old step.who step.operation ≡ step.outcome) × AreSteps constants step.outcome.state steps

abbrev pub call_of : Step → ℕ × Operation
call_of step = (step.who, step.operation)

abbrev pub reply_of : Step → Reply
reply_of step = step.outcome.reply

first_reply : (constants : Constants) (outcome : Outcome) (calls : List (ℕ × Operation)) → replies_from constants outcome calls ≡ outcome.reply ∷ plain_replies constants outcome.state calls
first_reply constants outcome [] = refl
first_reply constants outcome (call ∷ calls) = refl

pub replies_of_steps : (constants : Constants) (old : StoreState) (steps : List Step) → AreSteps constants old steps → plain_replies constants old (map call_of steps) ≡ map reply_of steps
replies_of_steps constants old [] are = refl
replies_of_steps constants old (step ∷ steps) are =
    ap (λ (o : Outcome). replies_from constants o (map call_of steps)) are.0
    ∙ first_reply constants step.outcome (map call_of steps)
    ∙ ap (λ (rs : List Reply). reply_of step ∷ rs) (replies_of_steps constants step.outcome.state steps are.1)
