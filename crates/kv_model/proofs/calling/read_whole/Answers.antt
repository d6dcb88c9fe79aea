use Rattle.std.proofs.Common.{sym, subst}
use Rattle.kv_model.specs.declared.call.Reply.{Reply}
use Rattle.kv_model.specs.Kv.{Does, answered}
use Rattle.kv_model.specs.Operations.{Get, Part}
use Rattle.kv_model.specs.Performs.{reply_or}
use Rattle.kv_model.proofs.PerformLemmas.{get_log, get_reading, info_only, part_log, part_reading, refused_does, then_does, whole_alike}
use Rattle.kv_model.proofs.calling.read_whole.Goals as goal

pub returns-in-Ok-clause-does : goal.returns-in-Ok-clause-does
returns-in-Ok-clause-does g c who =
    let by = g.K.Kv.rules_by in
    let are = g.met.K.Kv.by_rules in
    let key = c.args.key.now in
    let size = c.in-Ok.info.size in
    then_does by are who key (g.K.Kv.state c.args.store.now) (g.K.Kv.state c.info.new.self) (g.K.Kv.state c.read_into.new.store)
    (Part key 0 size) (Get key) size c.in-Ok.info.flags (reply_or c.read_into.result) c.read_into.ensures.reads
    (λ constants state. part_reading (by constants) (are constants) state who key 0 size)
    (λ constants state. get_reading (by constants) (are constants) state who key)
    (part_log key 0 size) (get_log key)
    (λ constants state told. whole_alike (by constants) (are constants) state who key size told.passed told.size_is)
    (c.in-Ok.ensures who).does (c.read_into.ensures.does who)

pub returns-in-Err-clause-does : goal.returns-in-Err-clause-does
returns-in-Err-clause-does g c who =
    let by = g.K.Kv.rules_by in
    let are = g.met.K.Kv.by_rules in
    let key = c.args.key.now in
    let old = g.K.Kv.state c.args.store.now in
    let new = g.K.Kv.state c.info.new.self in
    subst (λ (reply : Reply). Does by old new (answered who (Get key) reply)) (sym c.refused.ensures.reply)
    (refused_does by are who key old new (Get key) c.in-Err.error (info_only key _ (c.in-Err.ensures who).may_end)
    (λ constants state. get_reading (by constants) (are constants) state who key) (get_log key) (c.in-Err.ensures who).does)
