use Rattle.std.proofs.Common.{rules, ◌≡◌, length}
use Rattle.sealed_pair.proofs.PieceLemmas.{end_fails, record_ended}
use Rattle.sealed_pair.proofs.pieces.end_record.Goals as goal

pub returns-in-Ok-set_add-clause-ended : goal.returns-in-Ok-set_add-clause-ended
returns-in-Ok-set_add-clause-ended g c =
    let long_tag : length c.finish-tag.result ≡ 16 = search rules in
    record_ended g.K.Kv.rules_by (g.K.Kv.state c.args.store.now) (g.K.Kv.state c.feed_head.new.store) (g.K.Kv.state c.set_add.new.self) c.args.who c.args.set c.in-Ok.ensures.fed c.finish-tag.result long_tag c.requires.whole
    c.in-Ok-set_add.ensures c.finish-tag.ensures

pub returns-in-Err-set_add-clause-fails : goal.returns-in-Err-set_add-clause-fails
returns-in-Err-set_add-clause-fails g c =
    let long_tag : length c.finish-tag.result ≡ 16 = search rules in
    end_fails g.K.Kv.rules_by (g.K.Kv.state c.args.store.now) (g.K.Kv.state c.feed_head.new.store) (g.K.Kv.state c.set_add.new.self) c.args.who c.args.set c.in-Ok.ensures.fed c.finish-tag.result long_tag c.in-Err-set_add.refusal
    c.in-Err-set_add.ensures (g.met.K.Kv.lawful c.set_add.new.self)
