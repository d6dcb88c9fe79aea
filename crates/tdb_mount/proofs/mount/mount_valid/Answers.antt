use Rattle.std.proofs.Common.{sym, ◌∙◌, subst}
use Rattle.std.specs.Prelude.{Some}
use Rattle.flash_core.specs.declared.geometry.Geometry.{Geometry}
use Rattle.flash_core.proofs.KeptLaws.{Keeps-trans}
use Rattle.record_core.specs.Endings.{kv_ended}
use Rattle.tdb_mount.specs.Choice.{ChosenIn}
use Rattle.tdb_mount.proofs.MountLemmas.{cause_since, found_leaves, leaves_handed}
use Rattle.tdb_mount.proofs.RunLemmas.{walk_cause, walk_runs}
use Rattle.tdb_mount.proofs.mount.mount_valid.Goals as goal

pub returns-in_err-active-clause-leaves : goal.returns-in_err-active-clause-leaves
returns-in_err-active-clause-leaves g c image told left stands =
    leaves_handed (g.F.Flash.state c.args.flash.now).geometry image left c.from_residual.result c.in_err-active.field-0.0 c.from_residual.ensures.1
    (c.in_err-active.ensures.leaves image told left stands)

pub walk-requires-clause-active : goal.walk-requires-clause-active
walk-requires-clause-active g c image told =
    subst (λ (x : Geometry). ChosenIn x image (Some c.in_ok-active.active)) (sym c.in_ok-active.ensures.runs.kept.geometry) (c.in_ok-active.ensures.active image told)

pub returns-clause-runs : goal.returns-clause-runs
returns-clause-runs g c = walk_runs c.walk.result c.in_ok-active.ensures.runs c.walk.ensures.visits c.walk.ensures.cause

pub returns-clause-cause : goal.returns-clause-cause
returns-clause-cause g c =
    cause_since (g.F.Flash.state c.args.flash.now) (g.F.Flash.state c.find_active.new.flash) (g.F.Flash.state c.walk.new.flash) c.in_ok-active.ensures.runs.kept c.in_ok-active.ensures.runs.steady c.walk.result
    (walk_cause (g.F.Flash.state c.find_active.new.flash) (g.F.Flash.state c.walk.new.flash) c.walk.result c.walk.ensures.cause)

pub returns-clause-leaves : goal.returns-clause-leaves
returns-clause-leaves g c image told left stands =
    found_leaves (g.F.Flash.state c.args.flash.now).geometry c.requires.valid image left ((g.met.F.Flash.lawful c.args.flash.now).sized image told) (kv_ended c.walk.result)
    (c.in_ok-active.ensures.leaves image told left (sym c.walk.ensures.visits.image ∙ stands))
