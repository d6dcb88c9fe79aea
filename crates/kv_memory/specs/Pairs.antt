-- What a call that is made on one store and then on a second leaves in both.
use Rattle.std.specs.Prelude.{ℕ, Result, Ok, Err}
use Rattle.std.specs.Option.{ForSome}
use Rattle.kv_model.specs.declared.call.Reply.{Reply}
use Rattle.kv_model.specs.declared.call.Reply.TheVariants.{Done, Refused}
use Rattle.kv_model.specs.Constants.{Constants}
use Rattle.kv_model.specs.Rules.{Rules}
use Rattle.kv_model.specs.Operations.{Operation}
use Rattle.kv_model.specs.Opening.{Opening}
use Rattle.kv_model.specs.Kv.{LeadsTo, answered, kind_of}
use Rattle.kv_memory.specs.declared.pair.PairRefusal.{PairRefusal}
use Rattle.kv_memory.specs.declared.pair.PairRefusal.TheVariants.{First, Second}

-- what the first store answered
abbrev pub first_reply : Result Unit PairRefusal → Reply
first_reply (Ok done) = Done
first_reply (Err (First error)) = Refused error
first_reply (Err (Second error)) = Done

-- The second store is asked only where the first has done the call, and else stands.
abbrev pub AnswersSecond : (Reply → Type 0) → Type 0 → Result Unit PairRefusal → Type 0
AnswersSecond answers stands (Ok done) = answers Done
AnswersSecond answers stands (Err (First error)) = stands
AnswersSecond answers stands (Err (Second error)) = answers (Refused error)

-- the state to which a call leads that is answered so, where the state is told
abbrev pub Leads : (Constants → Rules) → Opening → Opening → (ℕ × Operation) → Reply → Type 0
Leads rules_by old new call reply = ForSome old.state (λ before. ForSome new.state (λ after.
    LeadsTo (rules_by old.constants) before (answered call.0 call.1 reply) after (kind_of reply)))
