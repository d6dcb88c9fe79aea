-- The replies of a plain store to calls in order, where no device fails.
use Rattle.std.specs.Prelude.{ℕ, List, [], ◌∷◌}
use Rattle.kv_model.specs.declared.call.Reply.{Reply}
use Rattle.kv_model.specs.StoreState.{StoreState}
use Rattle.kv_model.specs.Operations.{Operation}
use Rattle.kv_model.specs.Constants.{Constants}
use Rattle.kv_model.specs.Rules.{Outcome}
use Rattle.kv_model.specs.PlainStep.{plain_step}

abbrev pub replies_from : Constants → Outcome → List (ℕ × Operation) → List Reply
replies_from constants outcome [] = outcome.reply ∷ []
replies_from constants outcome (call ∷ calls) =
    outcome.reply ∷ replies_from constants (plain_step constants outcome.state call.0 call.1) calls

abbrev pub plain_replies : Constants → StoreState → List (ℕ × Operation) → List Reply
plain_replies constants state [] = []
plain_replies constants state (call ∷ calls) = replies_from constants (plain_step constants state call.0 call.1) calls
