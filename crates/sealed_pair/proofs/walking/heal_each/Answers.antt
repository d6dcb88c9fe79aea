use Rattle.std.proofs.Common.{◌≡◌, ◌+◌, ◌≤◌, ℕ, Bool, true, false, List, Option, Some, None, Result, Ok, Err, refl, sym, subst, inr, arith}
use Rattle.std.specs.Prelude.{if◌then◌else◌}
use Rattle.kv_model.specs.declared.call.Reply.TheVariants.{Refused}
use Rattle.kv_model.specs.Kv.{kind_of}
use Rattle.kv_model.proofs.PerformLemmas.{Keeps-trans}
use Rattle.sealed_pair.specs.Recovering.{secure_by}
use Rattle.sealed_pair.specs.Running.{StaysIdle}
use Rattle.sealed_pair.specs.Walking.{GivesNext}
use Rattle.sealed_pair.proofs.IdleLemmas.{idle_same, idle_then, unless_then}
use Rattle.sealed_pair.proofs.PairLemmas.{read_none}
use Rattle.sealed_pair.proofs.StayingLemmas.{stayed_none, stayed_read, stayed_then}
use Rattle.sealed_pair.proofs.TurnLemmas.{HasCome, cause_since, turn_done, turn_ends, turn_fails, turn_refused}
use Rattle.sealed_pair.proofs.WalkedLemmas.{come_none}
use Rattle.sealed_pair.proofs.walking.heal_each.Goals as goal

one_at_most : (b : Bool) (n most : ℕ) → n ≤ most → (if b then n + 1 else n) ≤ most + 1
one_at_most true n most is = omega (arith, is)
one_at_most false n most is = omega (arith, is)

pub loop-round-init : goal.loop-round-init
loop-round-init g c = record {
  counted = omega arith;
  stayed = stayed_none (g.U.Kv.state c.args.primary.now);
  keeps = (read_none (g.R.Kv.state c.args.rollback.now)).keeps;
  steady = λ steady. steady;
  idle = idle_same g.R.Kv.rules_by (g.R.Kv.state c.args.rollback.now);
  walked = λ walk same at. record {
    given = None;
    at = at;
    come = come_none g.R.Kv.rules_by (secure_by c.args.root.now (g.R.Kv.state c.args.rollback.now).known.constants) walk.before.primary (g.U.Kv.state c.args.primary.now).known.constants.hash_bits
        (g.R.Kv.state c.args.rollback.now);
  };
}

pub loop-round-preserved : goal.loop-round-preserved
loop-round-preserved g c =
    let u0 = g.U.Kv.state c.args.primary.now in
    let u1 = g.U.Kv.state c.next_key.new.primary in
    let u2 = g.U.Kv.state c.heal_key.new.primary in
    let r0 = g.R.Kv.state c.args.rollback.now in
    let r1 = g.R.Kv.state c.loop-round.rollback in
    let r2 = g.R.Kv.state c.heal_key.new.rollback in
    let stayed = stayed_then c.loop-round.invariant.stayed c.in-Ok-Some.ensures.stays in
    record {
      counted = subst (λ (n : ℕ). n ≤ c.loop-round._round + 1) (sym c.next_count-changed.ensures) (one_at_most c.in-Ok.is_changed c.loop-round.changed c.loop-round._round c.loop-round.invariant.counted);
      stayed = stayed_then stayed (stayed_read c.in-Ok.ensures.primary);
      keeps = Keeps-trans c.loop-round.invariant.keeps c.in-Ok.ensures.rollback.keeps;
      steady = λ steady. c.in-Ok.ensures.rollback.steady (c.loop-round.invariant.steady steady);
      idle = idle_then g.R.Kv.rules_by r0 r1 r2 c.loop-round.invariant.idle c.in-Ok.ensures.stays;
      walked = λ walk same at.
          let had = c.loop-round.invariant.walked walk same at in
          subst (HasCome g.U.Kv.rules_by g.R.Kv.rules_by c.args.root.now walk u0 u2 r0 r2) (sym c.next_count-changed.ensures)
          (turn_done g.U.Kv.rules_by g.R.Kv.rules_by c.args.root.now walk u0 (g.U.Kv.state c.loop-round.primary) u1 r0 r1 c.loop-round.changed had stayed c.in-Ok-Some.key
          (subst (λ (o : Option (List ℕ)). GivesNext g.U.Kv.rules_by walk had.given u1 (Ok o)) c.in-Ok-Some.field-0-is (c.in-Ok-Some.ensures.gives walk had.given same had.at))
          r2 c.in-Ok.ensures.rollback.keeps (Ok c.in-Ok.is_changed) c.in-Ok.ensures.heals u2 c.in-Ok.ensures.primary c.in-Ok.is_changed refl);
    }

pub returns-in-Ok-None-clause-primary : goal.returns-in-Ok-None-clause-primary
returns-in-Ok-None-clause-primary g c = stayed_then c.loop-round.invariant.stayed c.in-Ok-None.ensures.stays

pub returns-in-Ok-None-clause-heals : goal.returns-in-Ok-None-clause-heals
returns-in-Ok-None-clause-heals g c walk same at =
    let had = c.loop-round.invariant.walked walk same at in
    turn_ends g.U.Kv.rules_by g.R.Kv.rules_by c.args.root.now walk (g.U.Kv.state c.args.primary.now) (g.U.Kv.state c.loop-round.primary) (g.U.Kv.state c.next_key.new.primary)
    (g.R.Kv.state c.args.rollback.now) (g.R.Kv.state c.loop-round.rollback) c.loop-round.changed had (stayed_then c.loop-round.invariant.stayed c.in-Ok-None.ensures.stays)
    (subst (λ (o : Option (List ℕ)). GivesNext g.U.Kv.rules_by walk had.given (g.U.Kv.state c.next_key.new.primary) (Ok o)) c.in-Ok-None.field-0-is (c.in-Ok-None.ensures.gives walk had.given same had.at))

pub returns-in-Err-clause-primary : goal.returns-in-Err-clause-primary
returns-in-Err-clause-primary g c = stayed_then c.loop-round.invariant.stayed c.in-Err.ensures.stays

pub returns-in-Err-clause-heals : goal.returns-in-Err-clause-heals
returns-in-Err-clause-heals g c walk same at =
    let had = c.loop-round.invariant.walked walk same at in
    turn_refused g.U.Kv.rules_by g.R.Kv.rules_by c.args.root.now walk (g.U.Kv.state c.args.primary.now) (g.U.Kv.state c.loop-round.primary) (g.U.Kv.state c.next_key.new.primary)
    (g.R.Kv.state c.args.rollback.now) (g.R.Kv.state c.loop-round.rollback) c.loop-round.changed had (stayed_then c.loop-round.invariant.stayed c.in-Err.ensures.stays)
    c.in-Err.refusal (c.in-Err.ensures.gives walk had.given same had.at).0

pub returns-in-Err-heal_key-clause-primary : goal.returns-in-Err-heal_key-clause-primary
returns-in-Err-heal_key-clause-primary g c =
    stayed_then (stayed_then c.loop-round.invariant.stayed c.in-Ok-Some.ensures.stays) (stayed_read c.in-Err-heal_key.ensures.primary)

pub returns-in-Err-heal_key-clause-stays : goal.returns-in-Err-heal_key-clause-stays
returns-in-Err-heal_key-clause-stays g c =
    let r0 = g.R.Kv.state c.args.rollback.now in
    let r1 = g.R.Kv.state c.loop-round.rollback in
    let r2 = g.R.Kv.state c.heal_key.new.rollback in
    unless_then (StaysIdle g.R.Kv.rules_by r1 r2) (StaysIdle g.R.Kv.rules_by r0 r2) (kind_of (Refused c.in-Err-heal_key.refusal))
    (idle_then g.R.Kv.rules_by r0 r1 r2 c.loop-round.invariant.idle) c.in-Err-heal_key.ensures.stays

pub returns-in-Err-heal_key-clause-cause : goal.returns-in-Err-heal_key-clause-cause
returns-in-Err-heal_key-clause-cause g c joining =
    let stayed = stayed_then c.loop-round.invariant.stayed c.in-Ok-Some.ensures.stays in
    cause_since c.args.root.now joining (g.U.Kv.state c.args.primary.now) (g.U.Kv.state c.next_key.new.primary) (g.U.Kv.state c.heal_key.new.primary)
    (g.R.Kv.state c.args.rollback.now) (g.R.Kv.state c.loop-round.rollback) (g.R.Kv.state c.heal_key.new.rollback)
    stayed.keeps stayed.steady c.loop-round.invariant.keeps c.loop-round.invariant.steady (Refused c.in-Err-heal_key.refusal) (c.in-Err-heal_key.ensures.cause joining)

pub returns-in-Err-heal_key-clause-heals : goal.returns-in-Err-heal_key-clause-heals
returns-in-Err-heal_key-clause-heals g c walk same at =
    let had = c.loop-round.invariant.walked walk same at in
    let u1 = g.U.Kv.state c.next_key.new.primary in
    turn_fails g.U.Kv.rules_by g.R.Kv.rules_by c.args.root.now walk (g.U.Kv.state c.args.primary.now) (g.U.Kv.state c.loop-round.primary) u1
    (g.R.Kv.state c.args.rollback.now) (g.R.Kv.state c.loop-round.rollback) c.loop-round.changed had (stayed_then c.loop-round.invariant.stayed c.in-Ok-Some.ensures.stays) c.in-Ok-Some.key
    (subst (λ (o : Option (List ℕ)). GivesNext g.U.Kv.rules_by walk had.given u1 (Ok o)) c.in-Ok-Some.field-0-is (c.in-Ok-Some.ensures.gives walk had.given same had.at))
    (g.R.Kv.state c.heal_key.new.rollback) c.in-Err-heal_key.ensures.rollback.keeps (Err c.in-Err-heal_key.refusal) c.in-Err-heal_key.ensures.heals c.in-Err-heal_key.refusal refl

pub returns-clause-heals : goal.returns-clause-heals
returns-clause-heals g c walk same at =
    let had = c.loop-round.invariant.walked walk same at in
    turn_refused g.U.Kv.rules_by g.R.Kv.rules_by c.args.root.now walk (g.U.Kv.state c.args.primary.now) (g.U.Kv.state c.loop-round.primary) (g.U.Kv.state c.loop-round.primary)
    (g.R.Kv.state c.args.rollback.now) (g.R.Kv.state c.loop-round.rollback) c.loop-round.changed had c.loop-round.invariant.stayed _ (inr refl)
