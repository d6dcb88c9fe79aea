-- What it is to perform a call of a script on a store.
use Rattle.std.specs.Prelude.{◌≡◌, ◌≢◌, ℕ, Result, Ok, Err, MatchOption}
use Rattle.base_core.specs.declared.no_memory.NoMemory.{NoMemory}
use Rattle.kv_model.specs.declared.error.KvError.TheVariants.{Memory}
use Rattle.kv_model.specs.declared.call.Call.{Call}
use Rattle.kv_model.specs.declared.call.Reply.{Reply}
use Rattle.kv_model.specs.declared.call.Reply.TheVariants.{Refused}
use Rattle.kv_model.specs.Constants.{Constants}
use Rattle.kv_model.specs.Operations.{Operation, operation_of}
use Rattle.kv_model.specs.Rules.{Rules}
use Rattle.kv_model.specs.Kv.{Does, KvState, answered}

-- want of memory is a refusal too
abbrev pub reply_or : Result Reply NoMemory → Reply
reply_or (Ok reply) = reply
reply_or (Err none) = Refused Memory

-- the call, which is no mount, was done and answered so
abbrev pub Performs : (Constants → Rules) → KvState → KvState → ℕ → Call → Result Reply NoMemory → Type 0
Performs rules_by old new who call result =
    MatchOption (operation_of call) ⊥ (λ operation. Does rules_by old new (answered who operation (reply_or result)))
