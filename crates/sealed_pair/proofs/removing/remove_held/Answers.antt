use Rattle.std.proofs.Common.{Option, subst}
use Rattle.kv_model.specs.declared.flags.Flags.{Flags}
use Rattle.sealed_pair.specs.Going.{WhereStill}
use Rattle.sealed_pair.specs.Removing.{HeldAs}
use Rattle.sealed_pair.proofs.HeldLemmas.{above_fails, above_taken, below_fails, below_taken, below_held}
use Rattle.sealed_pair.proofs.removing.remove_held.Goals as goal

pub remove_from_both-requires-clause-primary : goal.remove_from_both-requires-clause-primary
remove_from_both-requires-clause-primary g c =
    subst (λ (o : Option Flags). WhereStill g.U.Kv.rules_by (g.U.Kv.state c.args.primary.now) (HeldAs c.args.key.now o)) c.in-Some.is c.requires.primary

pub remove_from_both-requires-clause-rollback : goal.remove_from_both-requires-clause-rollback
remove_from_both-requires-clause-rollback g c =
    subst (λ (o : Option Flags). WhereStill g.R.Kv.rules_by (g.R.Kv.state c.args.rollback.now) (HeldAs c.args.key.now o)) c.in-Some-below.is c.requires.rollback

pub returns-in-Ok : goal.returns-in-Ok
returns-in-Ok g c root number =
    below_taken c.args.key.now c.requires.key c.args.who root number g.U.Kv.rules_by g.R.Kv.rules_by (g.U.Kv.state c.args.primary.now) (g.R.Kv.state c.args.rollback.now)
    (subst (λ (o : Option Flags). WhereStill g.U.Kv.rules_by (g.U.Kv.state c.args.primary.now) (HeldAs c.args.key.now o)) c.in-None.is c.requires.primary)
    (below_held c.args.key.now g.R.Kv.rules_by (g.R.Kv.state c.args.rollback.now) c.args.above c.args.below c.in-None.is c.requires.held c.requires.rollback)
    (g.R.Kv.state c.remove.new.self) c.in-Ok.ensures

pub returns-in-Err : goal.returns-in-Err
returns-in-Err g c root number =
    below_fails c.args.key.now c.requires.key c.args.who root number g.U.Kv.rules_by g.R.Kv.rules_by (g.U.Kv.state c.args.primary.now) (g.R.Kv.state c.args.rollback.now)
    (subst (λ (o : Option Flags). WhereStill g.U.Kv.rules_by (g.U.Kv.state c.args.primary.now) (HeldAs c.args.key.now o)) c.in-None.is c.requires.primary)
    (below_held c.args.key.now g.R.Kv.rules_by (g.R.Kv.state c.args.rollback.now) c.args.above c.args.below c.in-None.is c.requires.held c.requires.rollback)
    (g.R.Kv.state c.remove.new.self) (g.met.U.Kv.lawful c.args.primary.now) (g.met.R.Kv.lawful c.remove.new.self) c.in-Err.refusal c.in-Err.ensures

pub returns-in-Ok-remove : goal.returns-in-Ok-remove
returns-in-Ok-remove g c root number =
    above_taken c.args.key.now c.requires.key c.args.who root number g.U.Kv.rules_by g.R.Kv.rules_by (g.U.Kv.state c.args.primary.now) (g.R.Kv.state c.args.rollback.now)
    (subst (λ (o : Option Flags). WhereStill g.U.Kv.rules_by (g.U.Kv.state c.args.primary.now) (HeldAs c.args.key.now o)) c.in-Some.is c.requires.primary)
    (subst (λ (o : Option Flags). WhereStill g.R.Kv.rules_by (g.R.Kv.state c.args.rollback.now) (HeldAs c.args.key.now o)) c.in-None-below.is c.requires.rollback)
    (g.U.Kv.state c.remove-in-None-below.new.self) c.in-Ok-remove.ensures

pub returns-in-Err-remove : goal.returns-in-Err-remove
returns-in-Err-remove g c root number =
    above_fails c.args.key.now c.requires.key c.args.who root number g.U.Kv.rules_by g.R.Kv.rules_by (g.U.Kv.state c.args.primary.now) (g.R.Kv.state c.args.rollback.now)
    (subst (λ (o : Option Flags). WhereStill g.U.Kv.rules_by (g.U.Kv.state c.args.primary.now) (HeldAs c.args.key.now o)) c.in-Some.is c.requires.primary)
    (subst (λ (o : Option Flags). WhereStill g.R.Kv.rules_by (g.R.Kv.state c.args.rollback.now) (HeldAs c.args.key.now o)) c.in-None-below.is c.requires.rollback)
    (g.U.Kv.state c.remove-in-None-below.new.self) (g.met.U.Kv.lawful c.remove-in-None-below.new.self) (g.met.R.Kv.lawful c.args.rollback.now) c.in-Err-remove.refusal c.in-Err-remove.ensures
