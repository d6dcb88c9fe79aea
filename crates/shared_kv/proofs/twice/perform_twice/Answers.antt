use Rattle.std.proofs.Common.{List, ℕ, Ok, sym, subst}
use Rattle.kv_model.specs.declared.call.Call.{Call}
use Rattle.kv_model.specs.declared.call.Reply.{Reply}
use Rattle.kv_model.specs.declared.call.Reply.TheVariants.{Facts}
use Rattle.kv_model.specs.Kv.{Does, answered}
use Rattle.kv_model.specs.Operations.{Info}
use Rattle.kv_model.specs.Performs.{Performs, reply_or}
use Rattle.shared_kv.specs.Twice.{first_of}
use Rattle.shared_kv.proofs.twice.perform_twice.Goals as goal

pub returns-in-Ok-clause-performs : goal.returns-in-Ok-clause-performs
returns-in-Ok-clause-performs g c =
    let by = g.K.Kv.rules_by in
    let old = g.K.Kv.state c.args.store.now in
    let new = g.K.Kv.state c.info.new.self in
    let reply = Facts c.in-Ok.field-0.size c.in-Ok.field-0.flags in
    subst (λ (call : Call). Performs by old new c.args.who call (Ok reply)) (sym c.in-Info.is)
    (subst (λ (key : List ℕ). Does by old new (answered c.args.who (Info key) reply)) c.as_slice.ensures (c.in-Ok.ensures c.args.who).does)

pub returns-in-Err-clause-performs : goal.returns-in-Err-clause-performs
returns-in-Err-clause-performs g c =
    let by = g.K.Kv.rules_by in
    let old = g.K.Kv.state c.args.store.now in
    let new = g.K.Kv.state c.info.new.self in
    let result = first_of c.refused.result in
    subst (λ (call : Call). Performs by old new c.args.who call result) (sym c.in-Info.is)
    (subst (λ (key : List ℕ). Does by old new (answered c.args.who (Info key) (reply_or result))) c.as_slice.ensures
    (subst (λ (reply : Reply). Does by old new (answered c.args.who (Info c.as_slice.result.now) reply)) (sym c.refused.ensures.reply) (c.in-Err.ensures c.args.who).does))
