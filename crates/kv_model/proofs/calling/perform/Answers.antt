use Rattle.std.proofs.Common.{ℕ, List, Ok, sym, subst}
use Rattle.kv_model.specs.declared.call.Call.{Call}
use Rattle.kv_model.specs.declared.call.Reply.{Reply}
use Rattle.kv_model.specs.declared.call.Reply.TheVariants.{Facts}
use Rattle.kv_model.specs.Kv.{Does, answered}
use Rattle.kv_model.specs.Operations.{Get, Part, Info}
use Rattle.kv_model.specs.Performs.{Performs, reply_or}
use Rattle.kv_model.proofs.calling.perform.Goals as goal

pub returns-in-Get-clause-performs : goal.returns-in-Get-clause-performs
returns-in-Get-clause-performs g c =
    let by = g.K.Kv.rules_by in
    let old = g.K.Kv.state c.args.store.now in
    let new = g.K.Kv.state c.read_whole.new.store in
    subst (λ (call : Call). Performs by old new c.args.who call c.read_whole.result) (sym c.in-Get.is)
    (subst (λ (key : List ℕ). Does by old new (answered c.args.who (Get key) (reply_or c.read_whole.result))) c.as_slice.ensures (c.read_whole.ensures.does c.args.who))

pub returns-in-Part-clause-performs : goal.returns-in-Part-clause-performs
returns-in-Part-clause-performs g c =
    let by = g.K.Kv.rules_by in
    let old = g.K.Kv.state c.args.store.now in
    let new = g.K.Kv.state c.read_part.new.store in
    subst (λ (call : Call). Performs by old new c.args.who call c.read_part.result) (sym c.in-Part.is)
    (subst (λ (key : List ℕ). Does by old new (answered c.args.who (Part key c.in-Part.offset c.in-Part.count) (reply_or c.read_part.result))) c.as_slice-in-Part.ensures (c.read_part.ensures.does c.args.who))

pub returns-in-Ok-clause-performs : goal.returns-in-Ok-clause-performs
returns-in-Ok-clause-performs g c =
    let by = g.K.Kv.rules_by in
    let old = g.K.Kv.state c.args.store.now in
    let new = g.K.Kv.state c.info.new.self in
    let reply = Facts c.in-Ok.field-0.size c.in-Ok.field-0.flags in
    subst (λ (call : Call). Performs by old new c.args.who call (Ok reply)) (sym c.in-Info.is)
    (subst (λ (key : List ℕ). Does by old new (answered c.args.who (Info key) reply)) c.as_slice-in-Info.ensures (c.in-Ok.ensures c.args.who).does)

pub returns-in-Err-clause-performs : goal.returns-in-Err-clause-performs
returns-in-Err-clause-performs g c =
    let by = g.K.Kv.rules_by in
    let old = g.K.Kv.state c.args.store.now in
    let new = g.K.Kv.state c.info.new.self in
    subst (λ (call : Call). Performs by old new c.args.who call c.refused.result) (sym c.in-Info.is)
    (subst (λ (key : List ℕ). Does by old new (answered c.args.who (Info key) (reply_or c.refused.result))) c.as_slice-in-Info.ensures
    (subst (λ (reply : Reply). Does by old new (answered c.args.who (Info c.as_slice-in-Info.result.now) reply)) (sym c.refused.ensures.reply) (c.in-Err.ensures c.args.who).does))
