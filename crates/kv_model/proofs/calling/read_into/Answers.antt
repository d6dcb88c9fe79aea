use Rattle.std.proofs.Common.{◌≡◌, ℕ, List, length, take, drop, sym, ◌∙◌, ap, subst}
use Rattle.std.proofs.lemmas.List.{take_at}
use Rattle.kv_model.specs.declared.call.Reply.{Reply}
use Rattle.kv_model.specs.declared.call.Reply.TheVariants.{Value, Refused}
use Rattle.kv_model.specs.Kv.{Does, FailedWrite, answered, kind_of}
use Rattle.kv_model.specs.Operations.{Part}
use Rattle.kv_model.proofs.PerformLemmas.{reads_only}
use Rattle.kv_model.proofs.calling.read_into.Goals as goal

pub returns-in-Ok-clause-does : goal.returns-in-Ok-clause-does
returns-in-Ok-clause-does g c who =
    let read = c.in-Ok.got.read in
    let buf = c.get.new.buf in
    let key = c.args.key.now in
    let old = g.K.Kv.state c.args.store.now in
    let new = g.K.Kv.state c.get.new.self in
    let front = take_at buf (drop (length buf) c.in_ok-buf.buf.items) c.in_ok-buf.buf.len (c.get.auto.buf ∙ c.deref_mut.ensures.len) in
    let bytes : take read buf ≡ c.from_vec.result = sym (c.from_vec.ensures ∙ c.truncate.ensures.items ∙ ap (take read) front) in
    let sized : length c.deref_mut.result.now ≡ c.args.size = c.deref_mut.ensures.len ∙ c.in_ok-buf.ensures.len in
    subst (λ (l : List ℕ). Does g.K.Kv.rules_by old new (answered who (Part key c.args.offset c.args.size) (Value l))) bytes
    (subst (λ (n : ℕ). Does g.K.Kv.rules_by old new (answered who (Part key c.args.offset n) (Value (take read buf)))) sized (c.in-Ok.ensures.answers who).does)

pub returns-in-Err-clause-does : goal.returns-in-Err-clause-does
returns-in-Err-clause-does g c who =
    let key = c.args.key.now in
    let old = g.K.Kv.state c.args.store.now in
    let new = g.K.Kv.state c.get.new.self in
    let sized : length c.deref_mut.result.now ≡ c.args.size = c.deref_mut.ensures.len ∙ c.in_ok-buf.ensures.len in
    subst (λ (reply : Reply). Does g.K.Kv.rules_by old new (answered who (Part key c.args.offset c.args.size) reply)) (sym c.refused.ensures.reply)
    (subst (λ (n : ℕ). Does g.K.Kv.rules_by old new (answered who (Part key c.args.offset n) (Refused c.in-Err.error))) sized (c.in-Err.ensures.answers who).does)

pub returns-in-Err-clause-reads : goal.returns-in-Err-clause-reads
returns-in-Err-clause-reads g c is =
    reads_only c.args.key.now c.args.offset (length c.deref_mut.result.now) _ (c.in-Err.ensures.answers 0).may_end (ap kind_of (sym c.refused.ensures.reply) ∙ is)
