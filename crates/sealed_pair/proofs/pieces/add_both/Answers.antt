use Rattle.std.proofs.Common.{rules, ◌≡◌, ◌==◌, ℕ, List, [], length, Some, None, true, sym, subst}
use Rattle.kv_model.specs.declared.call.Reply.TheVariants.{Done, Refused}
use Rattle.kv_model.specs.Kv.{answered}
use Rattle.kv_model.specs.Operations.{Add}
use Rattle.sealed_pair.specs.declared.active.Begun.{Begun}
use Rattle.sealed_pair.specs.declared.active.Begun.TheVariants.{Remove, Set}
use Rattle.sealed_pair.specs.Active.{IsBegun, may_take}
use Rattle.sealed_pair.specs.Begun.{parts_in}
use Rattle.sealed_pair.specs.Running.{HasRun}
use Rattle.sealed_pair.proofs.PieceRunLemmas.{no_bytes, no_count, none_to_remove}
use Rattle.sealed_pair.proofs.pieces.add_both.Goals as goal

pub returns-in-Remove-clause-run : goal.returns-in-Remove-clause-run
returns-in-Remove-clause-run g c root next sealing =
    let zero : (length c.args.value.now == 0) ≡ true = subst (λ (b : Begun). may_take b (length c.args.value.now) ≡ true) c.in-Remove.is c.requires.fits in
    let none : c.args.value.now ≡ [] = no_bytes c.args.value.now (no_count (length c.args.value.now) zero) in
    subst (λ (b : Begun). HasRun (parts_in root next (Some (record { owner = c.args.active.owner; begun = b; above = c.args.active.above; below = c.args.active.below })) g.U.Kv.rules_by (g.U.Kv.state c.args.primary.now) g.R.Kv.rules_by (g.R.Kv.state c.args.rollback.now)) (parts_in root next (Some (record { owner = c.args.active.owner; begun = (Remove c.in-Remove.key); above = c.args.active.above; below = c.args.active.below })) g.U.Kv.rules_by (g.U.Kv.state c.args.primary.now) g.R.Kv.rules_by (g.R.Kv.state c.args.rollback.now)) (answered c.args.active.owner (Add c.args.value.now) Done)) (sym c.in-Remove.is)
    (subst (λ (l : List ℕ). HasRun (parts_in root next (Some (record { owner = c.args.active.owner; begun = (Remove c.in-Remove.key); above = c.args.active.above; below = c.args.active.below })) g.U.Kv.rules_by (g.U.Kv.state c.args.primary.now) g.R.Kv.rules_by (g.R.Kv.state c.args.rollback.now)) (parts_in root next (Some (record { owner = c.args.active.owner; begun = (Remove c.in-Remove.key); above = c.args.active.above; below = c.args.active.below })) g.U.Kv.rules_by (g.U.Kv.state c.args.primary.now) g.R.Kv.rules_by (g.R.Kv.state c.args.rollback.now)) (answered c.args.active.owner (Add l) Done)) (sym none)
    (none_to_remove root next g.U.Kv.rules_by g.R.Kv.rules_by (g.U.Kv.state c.args.primary.now) (g.R.Kv.state c.args.rollback.now) c.args.active.owner c.in-Remove.key c.args.active.above c.args.active.below))

pub returns-in-Ok-clause-run : goal.returns-in-Ok-clause-run
returns-in-Ok-clause-run g c root next sealing =
    subst (λ (b : Begun). HasRun (parts_in root next (Some (record { owner = c.args.active.owner; begun = b; above = c.args.active.above; below = c.args.active.below })) g.U.Kv.rules_by (g.U.Kv.state c.args.primary.now) g.R.Kv.rules_by (g.R.Kv.state c.args.rollback.now)) (parts_in root next (Some (record { owner = c.args.active.owner; begun = (Set c.in-Ok.set); above = c.args.active.above; below = c.args.active.below })) g.U.Kv.rules_by (g.U.Kv.state c.add_set.new.primary) g.R.Kv.rules_by (g.R.Kv.state c.add_set.new.rollback)) (answered c.args.active.owner (Add c.args.value.now) Done)) (sym c.in-Set.is)
    (c.in-Ok.ensures.run root next c.args.active.above c.args.active.below (subst (IsBegun root next) c.in-Set.is sealing))

pub returns-in-Err-clause-run : goal.returns-in-Err-clause-run
returns-in-Err-clause-run g c root next sealing =
    subst (λ (b : Begun). HasRun (parts_in root next (Some (record { owner = c.args.active.owner; begun = b; above = c.args.active.above; below = c.args.active.below })) g.U.Kv.rules_by (g.U.Kv.state c.args.primary.now) g.R.Kv.rules_by (g.R.Kv.state c.args.rollback.now)) (parts_in root next None g.U.Kv.rules_by (g.U.Kv.state c.add_set.new.primary) g.R.Kv.rules_by (g.R.Kv.state c.add_set.new.rollback)) (answered c.args.active.owner (Add c.args.value.now) (Refused c.in-Err.refusal))) (sym c.in-Set.is)
    (c.in-Err.ensures.run root next c.args.active.above c.args.active.below (subst (IsBegun root next) c.in-Set.is sealing))
