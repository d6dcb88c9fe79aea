-- What the worked example of the order of lines speaks of.
use Rattle.std.specs.Prelude.{ℕ, List, [], ◌∷◌}
use Rattle.kv_model.specs.declared.call.Call.{Call}
use Rattle.kv_model.specs.declared.call.Call.TheVariants as call
use Rattle.kv_model.specs.declared.call.Reply.TheVariants as reply
use Rattle.kv_model.specs.declared.call.Entry.{Entry}

abbrev entry_of : ℕ → ℕ → ℕ → Call → Entry
entry_of seq who index call = record { seq = seq; who = who; index = index; call = call; reply = reply.Done }

abbrev pub example_entries : List Entry
example_entries = entry_of 1 1 1 call.Finish ∷ entry_of 2 2 1 call.Abort ∷ entry_of 3 1 2 call.Abort ∷ []
