use Rattle.std.proofs.Common.{rules, ◌≡◌, true, false}
use Rattle.kv_model.specs.Flags.{is_mirrored}
use Rattle.sealed_pair.specs.Running.{parts}
use Rattle.sealed_pair.specs.Sealing.{tag_of}
use Rattle.sealed_pair.specs.Setting.{asked_of, bytes_of}
use Rattle.sealed_pair.proofs.SettingFinishLemmas.{finished_alone, finished_both, half_finished, not_finished}
use Rattle.sealed_pair.proofs.setting.write_both.Goals as goal

pub returns-in-Err-set_finish : goal.returns-in-Err-set_finish
returns-in-Err-set_finish g c root number prior admitted begun =
    not_finished root number g.U.Kv.rules_by g.R.Kv.rules_by (g.U.Kv.state c.args.primary.now) (g.R.Kv.state c.args.rollback.now) (g.U.Kv.state c.fill_both.new.primary) (g.R.Kv.state c.fill_both.new.rollback)
    c.args.who c.args.key.now c.args.value.now c.args.flags.bits prior admitted (c.in-Ok.ensures.filled root number prior admitted begun) (g.U.Kv.state c.set_finish.new.self) (g.R.Kv.state c.abort_tag.new.rollback)
    (c.abort_tag.ensures c.args.key.now (tag_of (bytes_of (parts root number g.U.Kv.rules_by (g.U.Kv.state c.args.primary.now) g.R.Kv.rules_by (g.R.Kv.state c.args.rollback.now))
    (asked_of c.args.who c.args.key.now c.args.flags.bits c.args.value.now) prior)))
    (g.met.U.Kv.lawful c.set_finish.new.self) (g.met.R.Kv.lawful c.abort_tag.new.rollback) c.in-Err-set_finish.refusal c.in-Err-set_finish.ensures

pub returns-then-not-is_mirrored : goal.returns-then-not-is_mirrored
returns-then-not-is_mirrored g c root number prior admitted begun =
    let plain : is_mirrored c.args.flags.bits ≡ false = search rules in
    finished_alone root number g.U.Kv.rules_by g.R.Kv.rules_by (g.U.Kv.state c.args.primary.now) (g.R.Kv.state c.args.rollback.now) (g.U.Kv.state c.fill_both.new.primary) (g.R.Kv.state c.fill_both.new.rollback)
    c.args.who c.args.key.now c.args.value.now c.args.flags.bits prior admitted (c.in-Ok.ensures.filled root number prior admitted begun) (g.U.Kv.state c.set_finish.new.self) c.in-Ok-set_finish.ensures plain

pub returns-in-Ok-set_finish-2 : goal.returns-in-Ok-set_finish-2
returns-in-Ok-set_finish-2 g c root number prior admitted begun =
    let mirrored : is_mirrored c.args.flags.bits ≡ true = search rules in
    finished_both root number g.U.Kv.rules_by g.R.Kv.rules_by (g.U.Kv.state c.args.primary.now) (g.R.Kv.state c.args.rollback.now) (g.U.Kv.state c.fill_both.new.primary) (g.R.Kv.state c.fill_both.new.rollback)
    c.args.who c.args.key.now c.args.value.now c.args.flags.bits prior admitted (c.in-Ok.ensures.filled root number prior admitted begun) (g.U.Kv.state c.set_finish.new.self) c.in-Ok-set_finish.ensures mirrored
    (g.R.Kv.state c.set_finish-2.new.self) c.in-Ok-set_finish-2.ensures

pub returns-in-Err-set_finish-2 : goal.returns-in-Err-set_finish-2
returns-in-Err-set_finish-2 g c root number prior admitted begun =
    let mirrored : is_mirrored c.args.flags.bits ≡ true = search rules in
    half_finished root number g.U.Kv.rules_by g.R.Kv.rules_by (g.U.Kv.state c.args.primary.now) (g.R.Kv.state c.args.rollback.now) (g.U.Kv.state c.fill_both.new.primary) (g.R.Kv.state c.fill_both.new.rollback)
    c.args.who c.args.key.now c.args.value.now c.args.flags.bits prior admitted (c.in-Ok.ensures.filled root number prior admitted begun) (g.U.Kv.state c.set_finish.new.self) c.in-Ok-set_finish.ensures mirrored
    (g.R.Kv.state c.set_finish-2.new.self) (g.met.U.Kv.lawful c.set_finish.new.self) (g.met.R.Kv.lawful c.set_finish-2.new.self) c.in-Err-set_finish-2.refusal c.in-Err-set_finish-2.ensures

pub returns-in-Err : goal.returns-in-Err
returns-in-Err g c root number prior admitted begun = c.in-Err.ensures.refused root number prior admitted
