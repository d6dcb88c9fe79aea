use Rattle.std.proofs.Common.{rules, ◌≡◌, ◌+◌, length, arith}
use Rattle.sealed_pair.proofs.SettingPartLemmas.{bytes_added, bytes_fail, fails_more, front_added, front_long, record_added}
use Rattle.sealed_pair.proofs.setting.add_record.Goals as goal

pub returns-in-Err-clause-fails : goal.returns-in-Err-clause-fails
returns-in-Err-clause-fails g c =
    let long_head : length c.head-head.result ≡ 40 = search rules in
    bytes_fail g.K.Kv.rules_by _ _ c.args.who c.head-head.result (length c.args.value.now + 56) c.in-Err.refusal c.in-Err.ensures (g.met.K.Kv.lawful c.set_add.new.self) (omega (arith, long_head))

pub returns-in-Err-add_part-clause-fails : goal.returns-in-Err-add_part-clause-fails
returns-in-Err-add_part-clause-fails g c =
    let long_head : length c.head-head.result ≡ 40 = search rules in
    fails_more g.K.Kv.rules_by _ _ _ c.args.who c.head-head.result (length c.args.value.now) (length c.args.value.now + 56) c.in-Err-add_part.refusal
    (bytes_added g.K.Kv.rules_by _ (g.K.Kv.state c.set_add.new.self) c.args.who c.head-head.result c.in-Ok.ensures) c.in-Err-add_part.ensures.fails (omega (arith, long_head))

pub returns-in-Ok-set_add-clause-added : goal.returns-in-Ok-set_add-clause-added
returns-in-Ok-set_add-clause-added g c =
    let long_head : length c.head-head.result ≡ 40 = search rules in
    let long_tag : length c.finish-tag.result ≡ 16 = search rules in
    record_added g.K.Kv.rules_by (g.K.Kv.state c.args.store.now) (g.K.Kv.state c.set_add.new.self) (g.K.Kv.state c.add_part.new.store) (g.K.Kv.state c.set_add-2.new.self) c.args.who
    c.args.stream c.add_part.new.stream c.head-head.result c.args.value.now c.finish-tag.result c.head-head.ensures long_head long_tag
    (bytes_added g.K.Kv.rules_by _ (g.K.Kv.state c.set_add.new.self) c.args.who c.head-head.result c.in-Ok.ensures) c.in-Ok-add_part.ensures.added
    (bytes_added g.K.Kv.rules_by _ (g.K.Kv.state c.set_add-2.new.self) c.args.who c.finish-tag.result c.in-Ok-set_add.ensures) c.finish-tag.ensures

pub returns-in-Err-set_add-clause-fails : goal.returns-in-Err-set_add-clause-fails
returns-in-Err-set_add-clause-fails g c =
    let long_head : length c.head-head.result ≡ 40 = search rules in
    let long_tag : length c.finish-tag.result ≡ 16 = search rules in
    let begun = bytes_added g.K.Kv.rules_by (g.K.Kv.state c.args.store.now) (g.K.Kv.state c.set_add.new.self) c.args.who c.head-head.result c.in-Ok.ensures in
    let front = front_added g.K.Kv.rules_by (g.K.Kv.state c.args.store.now) (g.K.Kv.state c.set_add.new.self) (g.K.Kv.state c.add_part.new.store) (g.K.Kv.state c.set_add-2.new.self) c.args.who
    c.args.stream c.add_part.new.stream c.head-head.result c.args.value.now c.finish-tag.result c.head-head.ensures long_head long_tag begun c.in-Ok-add_part.ensures.added in
    let long = front_long g.K.Kv.rules_by (g.K.Kv.state c.args.store.now) (g.K.Kv.state c.set_add.new.self) (g.K.Kv.state c.add_part.new.store) (g.K.Kv.state c.set_add-2.new.self) c.args.who
    c.args.stream c.add_part.new.stream c.head-head.result c.args.value.now c.finish-tag.result c.head-head.ensures long_head long_tag begun c.in-Ok-add_part.ensures.added in
    fails_more g.K.Kv.rules_by _ _ _ c.args.who _ 16 (length c.args.value.now + 56) c.in-Err-set_add.refusal front
    (bytes_fail g.K.Kv.rules_by _ _ c.args.who c.finish-tag.result 16 c.in-Err-set_add.refusal c.in-Err-set_add.ensures (g.met.K.Kv.lawful c.set_add-2.new.self) (omega (arith, long_tag))) (omega (arith, long))
