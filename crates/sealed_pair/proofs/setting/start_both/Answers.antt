use Rattle.std.proofs.Common.{◌≡◌, ◌+◌, ℕ, true, inl, inr, subst, refl, rules}
use Rattle.kv_model.specs.Flags.{is_mirrored}
use Rattle.kv_model.specs.Given.{done_or}
use Rattle.kv_model.specs.declared.call.Reply.TheVariants.{Done, Refused}
use Rattle.kv_model.specs.Kv.{Answers, answered}
use Rattle.kv_model.specs.Operations.{Start}
use Rattle.sealed_pair.proofs.SettingFillLemmas.{mirrored_after}
use Rattle.sealed_pair.proofs.SettingLemmas.{aborted, moved_none, moved_then, start_failed, started}
use Rattle.sealed_pair.proofs.SettingStartLemmas.{both_begun, first_refuses, second_refuses}
use Rattle.sealed_pair.proofs.setting.start_both.Goals as goal

pub returns-in-Err-clause-refused : goal.returns-in-Err-clause-refused
returns-in-Err-clause-refused g c =
    inl (
      start_failed g.U.Kv.rules_by _ _ c.args.who c.args.key.now _ _ c.in-Err.refusal c.in-Err.ensures (g.met.U.Kv.lawful c.set_start.new.self),
      moved_none g.R.Kv.rules_by (g.R.Kv.state c.args.rollback.now) _,
    )

pub returns-in-Err-clause-room : goal.returns-in-Err-clause-room
returns-in-Err-clause-room g c root number prior admitted =
    first_refuses root number g.U.Kv.rules_by g.R.Kv.rules_by (g.U.Kv.state c.args.primary.now) (g.R.Kv.state c.args.rollback.now) (g.U.Kv.state c.set_start.new.self) (g.R.Kv.state c.args.rollback.now)
    c.args.who c.args.key.now c.args.size c.args.flags.bits prior admitted c.in-Err.refusal
    (subst (λ (w : ℕ). Answers g.U.Kv.rules_by (g.U.Kv.state c.args.primary.now) (g.U.Kv.state c.set_start.new.self) (answered c.args.who (Start c.args.key.now (c.args.size + 56) w) (Refused c.in-Err.refusal)))
    c.kept.ensures c.in-Err.ensures)

pub returns-in-Ok-set_start-clause-above : goal.returns-in-Ok-set_start-clause-above
returns-in-Ok-set_start-clause-above g c =
    started g.U.Kv.rules_by _ _ c.args.who c.args.key.now _ _
    (subst (λ (w : ℕ). Answers g.U.Kv.rules_by (g.U.Kv.state c.args.primary.now) (g.U.Kv.state c.set_start.new.self) (answered c.args.who (Start c.args.key.now (c.args.size + 56) w) Done))
    c.kept.ensures c.in-Ok.ensures)

pub returns-in-Ok-set_start-clause-below : goal.returns-in-Ok-set_start-clause-below
returns-in-Ok-set_start-clause-below g c =
    let mirrored : is_mirrored c.args.flags.bits ≡ true = search rules in
    mirrored_after g.R.Kv.rules_by _ _ c.args.who c.args.key.now c.args.flags.bits _ _ mirrored
    (started g.R.Kv.rules_by _ _ c.args.who c.args.key.now _ _
    (subst (λ (w : ℕ). Answers g.R.Kv.rules_by (g.R.Kv.state c.args.rollback.now) (g.R.Kv.state c.set_start-2.new.self) (answered c.args.who (Start c.args.key.now 16 w) Done))
    c.kept-2.ensures c.in-Ok-set_start.ensures))

pub returns-in-Ok-set_start-clause-room : goal.returns-in-Ok-set_start-clause-room
returns-in-Ok-set_start-clause-room g c root number prior admitted =
    both_begun root number g.U.Kv.rules_by g.R.Kv.rules_by (g.U.Kv.state c.args.primary.now) (g.R.Kv.state c.args.rollback.now) (g.U.Kv.state c.set_start.new.self) (g.R.Kv.state c.set_start-2.new.self)
    c.args.who c.args.key.now c.args.size c.args.flags.bits prior admitted
    (subst (λ (w : ℕ). Answers g.U.Kv.rules_by (g.U.Kv.state c.args.primary.now) (g.U.Kv.state c.set_start.new.self) (answered c.args.who (Start c.args.key.now (c.args.size + 56) w) Done))
    c.kept.ensures c.in-Ok.ensures)
    (subst (λ (w : ℕ). Answers g.R.Kv.rules_by (g.R.Kv.state c.args.rollback.now) (g.R.Kv.state c.set_start-2.new.self) (answered c.args.who (Start c.args.key.now 16 w) Done))
    c.kept-2.ensures c.in-Ok-set_start.ensures)

pub returns-in-Err-set_start-clause-refused : goal.returns-in-Err-set_start-clause-refused
returns-in-Err-set_start-clause-refused g c =
    inr (
      moved_then (started g.U.Kv.rules_by _ (g.U.Kv.state c.set_start.new.self) c.args.who c.args.key.now _ _ c.in-Ok.ensures)
          (aborted g.U.Kv.rules_by _ _ c.args.who _ refl (done_or c.set_abort.result) c.set_abort.ensures),
      start_failed g.R.Kv.rules_by _ _ c.args.who c.args.key.now _ _ c.in-Err-set_start.refusal c.in-Err-set_start.ensures (g.met.R.Kv.lawful c.set_start-2.new.self),
    )

pub returns-in-Err-set_start-clause-room : goal.returns-in-Err-set_start-clause-room
returns-in-Err-set_start-clause-room g c root number prior admitted =
    let mirrored : is_mirrored c.args.flags.bits ≡ true = search rules in
    second_refuses root number g.U.Kv.rules_by g.R.Kv.rules_by (g.U.Kv.state c.args.primary.now) (g.R.Kv.state c.args.rollback.now) (g.U.Kv.state c.set_start.new.self) (g.R.Kv.state c.set_start-2.new.self)
    c.args.who c.args.key.now c.args.size c.args.flags.bits prior admitted
    (subst (λ (w : ℕ). Answers g.U.Kv.rules_by (g.U.Kv.state c.args.primary.now) (g.U.Kv.state c.set_start.new.self) (answered c.args.who (Start c.args.key.now (c.args.size + 56) w) Done))
    c.kept.ensures c.in-Ok.ensures)
    c.in-Err-set_start.refusal mirrored
    (subst (λ (w : ℕ). Answers g.R.Kv.rules_by (g.R.Kv.state c.args.rollback.now) (g.R.Kv.state c.set_start-2.new.self) (answered c.args.who (Start c.args.key.now 16 w) (Refused c.in-Err-set_start.refusal)))
    c.kept-2.ensures c.in-Err-set_start.ensures)
