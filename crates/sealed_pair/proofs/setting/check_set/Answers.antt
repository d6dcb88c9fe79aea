use Rattle.std.proofs.Common.{rules, ◌≡◌, ◌≤◌, true, sym, ◌∙◌}
use Rattle.kv_model.specs.Flags.{is_secure_flags}
use Rattle.sealed_pair.proofs.SettingCheckLemmas.{is_admitted, is_refused, unread_above, unread_below}
use Rattle.sealed_pair.proofs.setting.check_set.Goals as goal

pub returns-in-Err-clause-refused : goal.returns-in-Err-clause-refused
returns-in-Err-clause-refused g c root =
    let secure : is_secure_flags c.args.flags.bits ≡ true = search rules in
    let most : c.args.size ≤ 65536 = search rules in
    unread_above root c.args.number g.U.Kv.rules_by g.R.Kv.rules_by (g.U.Kv.state c.args.primary.now) (g.U.Kv.state c.flags_of.new.store) (g.R.Kv.state c.args.rollback.now) (g.R.Kv.state c.args.rollback.now)
    c.args.key.now c.args.size c.args.flags.bits c.requires secure most c.in-Err.ensures.read c.in-Err.refusal c.in-Err.ensures.refusal c.in-Err.ensures.holds

pub returns-in-Err-tag_of-clause-refused : goal.returns-in-Err-tag_of-clause-refused
returns-in-Err-tag_of-clause-refused g c root =
    let secure : is_secure_flags c.args.flags.bits ≡ true = search rules in
    let most : c.args.size ≤ 65536 = search rules in
    unread_below root c.args.number g.U.Kv.rules_by g.R.Kv.rules_by (g.U.Kv.state c.args.primary.now) (g.U.Kv.state c.flags_of.new.store) (g.R.Kv.state c.args.rollback.now) (g.R.Kv.state c.tag_of.new.rollback)
    c.args.key.now c.args.size c.args.flags.bits c.requires secure most c.in-Ok.ensures.read c.in-Err-tag_of.ensures.read c.in-Err-tag_of.refusal c.in-Err-tag_of.ensures.refusal c.in-Err-tag_of.ensures.holds

pub returns-in-Ok-admit-clause-admitted : goal.returns-in-Ok-admit-clause-admitted
returns-in-Ok-admit-clause-admitted g c root =
    let secure : is_secure_flags c.args.flags.bits ≡ true = search rules in
    let most : c.args.size ≤ 65536 = search rules in
    is_admitted root c.args.number g.U.Kv.rules_by g.R.Kv.rules_by (g.U.Kv.state c.args.primary.now) (g.U.Kv.state c.flags_of.new.store) (g.R.Kv.state c.args.rollback.now) (g.R.Kv.state c.tag_of.new.rollback)
    c.args.key.now c.args.size c.args.flags.bits c.requires secure most c.in-Ok.ensures.read c.in-Ok-tag_of.ensures.read c.in-Ok.flags c.in-Ok-tag_of.tagged c.in-Ok.ensures.holds c.in-Ok-tag_of.ensures.holds
    c.in-Ok-admit.prior (sym c.admit.ensures ∙ c.in-Ok-admit.is)

pub returns-in-Err-admit-clause-refused : goal.returns-in-Err-admit-clause-refused
returns-in-Err-admit-clause-refused g c root =
    let secure : is_secure_flags c.args.flags.bits ≡ true = search rules in
    let most : c.args.size ≤ 65536 = search rules in
    is_refused root c.args.number g.U.Kv.rules_by g.R.Kv.rules_by (g.U.Kv.state c.args.primary.now) (g.U.Kv.state c.flags_of.new.store) (g.R.Kv.state c.args.rollback.now) (g.R.Kv.state c.tag_of.new.rollback)
    c.args.key.now c.args.size c.args.flags.bits c.requires secure most c.in-Ok.ensures.read c.in-Ok-tag_of.ensures.read c.in-Ok.flags c.in-Ok-tag_of.tagged c.in-Ok.ensures.holds c.in-Ok-tag_of.ensures.holds
    c.in-Err-admit.refusal (sym c.admit.ensures ∙ c.in-Err-admit.is)
