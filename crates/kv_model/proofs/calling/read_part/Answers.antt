use Rattle.std.proofs.Common.{sym, subst}
use Rattle.kv_model.specs.declared.call.Reply.{Reply}
use Rattle.kv_model.specs.Kv.{Does, answered}
use Rattle.kv_model.specs.Operations.{Part}
use Rattle.kv_model.specs.Performs.{reply_or}
use Rattle.kv_model.proofs.PerformLemmas.{info_only, part_log, part_reading, parts_alike, refused_does, rest_size, then_does}
use Rattle.kv_model.proofs.calling.read_part.Goals as goal

pub returns-in-Ok-clause-does : goal.returns-in-Ok-clause-does
returns-in-Ok-clause-does g c who =
    let by = g.K.Kv.rules_by in
    let are = g.met.K.Kv.by_rules in
    let key = c.args.key.now in
    let size = c.in-Ok.info.size in
    let offset = c.args.offset in
    let least = c.min-size.result in
    then_does by are who key (g.K.Kv.state c.args.store.now) (g.K.Kv.state c.info.new.self) (g.K.Kv.state c.read_into.new.store)
    (Part key offset least) (Part key offset c.args.count) size c.in-Ok.info.flags (reply_or c.read_into.result) c.read_into.ensures.reads
    (λ constants state. part_reading (by constants) (are constants) state who key offset least)
    (λ constants state. part_reading (by constants) (are constants) state who key offset c.args.count)
    (part_log key offset least) (part_log key offset c.args.count)
    (λ constants state told. parts_alike (by constants) (are constants) state who key offset least c.args.count told.passed
    (rest_size ((are constants).held state key).bytes size offset c.args.count least c.saturating_sub.result told.size_is c.saturating_sub.ensures c.min-size.ensures))
    (c.in-Ok.ensures who).does (c.read_into.ensures.does who)

pub returns-in-Err-clause-does : goal.returns-in-Err-clause-does
returns-in-Err-clause-does g c who =
    let by = g.K.Kv.rules_by in
    let are = g.met.K.Kv.by_rules in
    let key = c.args.key.now in
    let old = g.K.Kv.state c.args.store.now in
    let new = g.K.Kv.state c.info.new.self in
    let operation = Part key c.args.offset c.args.count in
    subst (λ (reply : Reply). Does by old new (answered who operation reply)) (sym c.refused.ensures.reply)
    (refused_does by are who key old new operation c.in-Err.error (info_only key _ (c.in-Err.ensures who).may_end)
    (λ constants state. part_reading (by constants) (are constants) state who key c.args.offset c.args.count) (part_log key c.args.offset c.args.count) (c.in-Err.ensures who).does)
