use Rattle.std.proofs.Common.{rules, ◌≡◌, ℕ, List, [], length, true, false, subst}
use Rattle.kv_model.specs.Flags.{is_mirrored}
use Rattle.kv_model.specs.Given.{done_or}
use Rattle.kv_model.specs.Operations.{Set}
use Rattle.sealed_pair.specs.Running.{parts}
use Rattle.sealed_pair.specs.Setting.{IsFilled, asked_of, vector_of}
use Rattle.sealed_pair.proofs.SettingFillLemmas.{filled_alone, filled_both, record_given_up, tag_given_up}
use Rattle.sealed_pair.proofs.SettingRunLemmas.{asks_set, fill_given_up, start_given_up}
use Rattle.sealed_pair.proofs.setting.fill_both.Goals as goal

pub returns-in-Err-clause-refused : goal.returns-in-Err-clause-refused
returns-in-Err-clause-refused g c root number prior admitted =
    start_given_up root number g.U.Kv.rules_by g.R.Kv.rules_by (g.U.Kv.state c.args.primary.now) (g.R.Kv.state c.args.rollback.now) (g.U.Kv.state c.start_both.new.primary) (g.R.Kv.state c.start_both.new.rollback)
    c.args.who c.args.key.now (length c.args.value.now) c.args.flags.bits prior (Set c.args.key.now c.args.value.now c.args.flags.bits) (asks_set c.args.key.now c.args.value.now c.args.flags.bits)
    admitted (g.met.U.Kv.lawful c.start_both.new.primary) (g.met.R.Kv.lawful c.start_both.new.rollback)
    c.in-Err.refusal c.in-Err.ensures.refused (c.in-Err.ensures.room root number prior admitted)

pub returns-in-Err-add_record-clause-refused : goal.returns-in-Err-add_record-clause-refused
returns-in-Err-add_record-clause-refused g c root number prior admitted =
    fill_given_up root number g.U.Kv.rules_by g.R.Kv.rules_by (g.U.Kv.state c.args.primary.now) (g.R.Kv.state c.args.rollback.now) (g.U.Kv.state c.add_record.new.store) (g.R.Kv.state c.abort_tag.new.rollback)
    c.args.who c.args.key.now (length c.args.value.now) c.args.flags.bits prior (Set c.args.key.now c.args.value.now c.args.flags.bits) (asks_set c.args.key.now c.args.value.now c.args.flags.bits)
    admitted (g.met.U.Kv.lawful c.add_record.new.store) (g.met.R.Kv.lawful c.abort_tag.new.rollback) c.in-Err-add_record.refusal
    (record_given_up root number g.U.Kv.rules_by g.R.Kv.rules_by (g.U.Kv.state c.args.primary.now) (g.R.Kv.state c.args.rollback.now) (g.U.Kv.state c.start_both.new.primary) (g.R.Kv.state c.start_both.new.rollback)
    c.args.who c.args.key.now c.args.value.now c.args.flags.bits c.in-Ok.ensures.above c.in-Ok.ensures.below (g.U.Kv.state c.add_record.new.store) (g.R.Kv.state c.abort_tag.new.rollback)
    c.in-Err-add_record.refusal c.in-Err-add_record.ensures.fails (c.abort_tag.ensures c.args.key.now []))
    (c.in-Ok.ensures.room root number prior admitted)

pub returns-then-not-is_mirrored-clause-filled : goal.returns-then-not-is_mirrored-clause-filled
returns-then-not-is_mirrored-clause-filled g c root number prior admitted begun =
    let plain : is_mirrored c.args.flags.bits ≡ false = search rules in
    let record_in = c.in-Ok-add_record.ensures.added in
    subst (λ (l : List ℕ). IsFilled (parts root number g.U.Kv.rules_by (g.U.Kv.state c.args.primary.now) g.R.Kv.rules_by (g.R.Kv.state c.args.rollback.now))
    (parts root number g.U.Kv.rules_by (g.U.Kv.state c.add_record.new.store) g.R.Kv.rules_by (g.R.Kv.state c.start_both.new.rollback))
    (asked_of c.args.who c.args.key.now c.args.flags.bits c.args.value.now) l)
    (record_in.sealed root c.args.key.now c.args.flags.bits (vector_of number c.args.flags.bits) prior begun)
    (filled_alone root number g.U.Kv.rules_by g.R.Kv.rules_by (g.U.Kv.state c.args.primary.now) (g.R.Kv.state c.args.rollback.now) (g.U.Kv.state c.start_both.new.primary) (g.R.Kv.state c.start_both.new.rollback)
    c.args.who c.args.key.now c.args.value.now c.args.flags.bits c.in-Ok.ensures.above c.in-Ok.ensures.below (g.U.Kv.state c.add_record.new.store) c.args.stream c.in-Ok-add_record.tag record_in
    (c.in-Ok.ensures.room root number prior admitted) plain)

pub returns-in-Ok-set_add-clause-filled : goal.returns-in-Ok-set_add-clause-filled
returns-in-Ok-set_add-clause-filled g c root number prior admitted begun =
    let mirrored : is_mirrored c.args.flags.bits ≡ true = search rules in
    let record_in = c.in-Ok-add_record.ensures.added in
    subst (λ (l : List ℕ). IsFilled (parts root number g.U.Kv.rules_by (g.U.Kv.state c.args.primary.now) g.R.Kv.rules_by (g.R.Kv.state c.args.rollback.now))
    (parts root number g.U.Kv.rules_by (g.U.Kv.state c.add_record.new.store) g.R.Kv.rules_by (g.R.Kv.state c.set_add.new.self))
    (asked_of c.args.who c.args.key.now c.args.flags.bits c.args.value.now) l)
    (record_in.sealed root c.args.key.now c.args.flags.bits (vector_of number c.args.flags.bits) prior begun)
    (filled_both root number g.U.Kv.rules_by g.R.Kv.rules_by (g.U.Kv.state c.args.primary.now) (g.R.Kv.state c.args.rollback.now) (g.U.Kv.state c.start_both.new.primary) (g.R.Kv.state c.start_both.new.rollback)
    c.args.who c.args.key.now c.args.value.now c.args.flags.bits c.in-Ok.ensures.above c.in-Ok.ensures.below (g.U.Kv.state c.add_record.new.store) c.args.stream c.in-Ok-add_record.tag record_in
    (c.in-Ok.ensures.room root number prior admitted) mirrored (g.R.Kv.state c.set_add.new.self) c.in-Ok-set_add.ensures)

pub returns-in-Err-set_add-clause-refused : goal.returns-in-Err-set_add-clause-refused
returns-in-Err-set_add-clause-refused g c root number prior admitted =
    let mirrored : is_mirrored c.args.flags.bits ≡ true = search rules in
    fill_given_up root number g.U.Kv.rules_by g.R.Kv.rules_by (g.U.Kv.state c.args.primary.now) (g.R.Kv.state c.args.rollback.now) (g.U.Kv.state c.set_abort.new.self) (g.R.Kv.state c.set_add.new.self)
    c.args.who c.args.key.now (length c.args.value.now) c.args.flags.bits prior (Set c.args.key.now c.args.value.now c.args.flags.bits) (asks_set c.args.key.now c.args.value.now c.args.flags.bits)
    admitted (g.met.U.Kv.lawful c.set_abort.new.self) (g.met.R.Kv.lawful c.set_add.new.self) c.in-Err-set_add.refusal
    (tag_given_up root number g.U.Kv.rules_by g.R.Kv.rules_by (g.U.Kv.state c.args.primary.now) (g.R.Kv.state c.args.rollback.now) (g.U.Kv.state c.start_both.new.primary) (g.R.Kv.state c.start_both.new.rollback)
    c.args.who c.args.key.now c.args.value.now c.args.flags.bits c.in-Ok.ensures.above c.in-Ok.ensures.below (g.U.Kv.state c.add_record.new.store) c.args.stream c.in-Ok-add_record.tag c.in-Ok-add_record.ensures.added
    mirrored (g.U.Kv.state c.set_abort.new.self) (g.R.Kv.state c.set_add.new.self) (done_or c.set_abort.result) c.set_abort.ensures (g.met.R.Kv.lawful c.set_add.new.self) c.in-Err-set_add.refusal c.in-Err-set_add.ensures)
    (c.in-Ok.ensures.room root number prior admitted)
