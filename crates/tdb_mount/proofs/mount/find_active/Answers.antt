use Rattle.std.proofs.Common.{sym, ◌∙◌, subst}
use Rattle.std.specs.Prelude.{Ok, Option}
use Rattle.tdb_mount.specs.declared.active.Active.{Active}
use Rattle.flash_core.specs.Runs.{Done, ReadFailed}
use Rattle.kv_model.specs.declared.error.KvError.{KvError}
use Rattle.record_core.specs.Endings.{kv_ending}
use Rattle.tdb_mount.specs.Choice.{ChosenIn}
use Rattle.tdb_mount.specs.Format.{Leaves}
use Rattle.record_core.proofs.EndingLemmas.{handed_error}
use Rattle.tdb_mount.proofs.FormatLemmas.{within_torn}
use Rattle.tdb_mount.proofs.RunLemmas.{format_runs, read_by}
use Rattle.tdb_mount.proofs.MountLemmas.{format_active, format_failed, format_leaves, leaves_active, leaves_handed, leaves_same, some_is}
use Rattle.tdb_mount.proofs.mount.find_active.Goals as goal

pub returns-in_err-active-clause-leaves : goal.returns-in_err-active-clause-leaves
returns-in_err-active-clause-leaves g c image told left stands =
    let old = g.F.Flash.state c.args.flash.now in
    let read = c.in_err-active.ensures.reads in
    leaves_handed old.geometry image left c.from_residual.result c.in_err-active.field-0.0 c.from_residual.ensures.1
    (subst (λ (k : KvError). Leaves old.geometry image left (kv_ending k)) (sym read.cause.0)
    (leaves_same old.geometry image left ReadFailed tt (some_is left image (sym stands ∙ read.kept.image ∙ told))))

pub returns-in_err-format-in-None-clause-leaves : goal.returns-in_err-format-in-None-clause-leaves
returns-in_err-format-in-None-clause-leaves g c image told left stands =
    let old = g.F.Flash.state c.args.flash.now in
    let mid = g.F.Flash.state c.read_active.new.flash in
    let new = g.F.Flash.state c.format.new.flash in
    let done = c.in_err-format-in-None.ensures in
    leaves_handed old.geometry image left c.from_residual-in_err-format-in-None.result c.in_err-format-in-None.field-0.0 c.from_residual-in_err-format-in-None.ensures.1
    (subst (λ (k : KvError). Leaves old.geometry image left (kv_ending k)) (sym done.fault)
    (format_failed old mid new c.requires.valid (g.met.F.Flash.lawful c.args.flash.now) c.in_ok-active.ensures.reads.kept done.runs.kept
    (λ image told. subst (λ (o : Option Active). ChosenIn old.geometry image o) c.in-None.is (c.in_ok-active.ensures.chosen image told)) (within_torn 0 _ _ done.within)
    image told left stands))

pub returns-in-Some-clause-leaves : goal.returns-in-Some-clause-leaves
returns-in-Some-clause-leaves g c image told left stands =
    let old = g.F.Flash.state c.args.flash.now in
    let only = c.in_ok-active.ensures.reads.kept in
    let chosen = subst (λ (o : Option Active). ChosenIn old.geometry image o) c.in-Some.is (c.in_ok-active.ensures.chosen image told) in
    leaves_active old.geometry c.requires.valid image left Done c.in-Some.active chosen (some_is left image (sym stands ∙ only.image ∙ told))

pub returns-in_ok-format-in-None-clause-leaves : goal.returns-in_ok-format-in-None-clause-leaves
returns-in_ok-format-in-None-clause-leaves g c =
    let old = g.F.Flash.state c.args.flash.now in
    let mid = g.F.Flash.state c.read_active.new.flash in
    let new = g.F.Flash.state c.format.new.flash in
    let only = c.in_ok-active.ensures.reads.kept in
    let done = c.in_ok-format-in-None.ensures in
    format_leaves old mid new c.requires.valid (g.met.F.Flash.lawful c.args.flash.now) only done.runs.kept
    (λ image told. subst (λ (o : Option Active). ChosenIn old.geometry image o) c.in-None.is (c.in_ok-active.ensures.chosen image told)) done.formatted

pub returns-in_ok-format-in-None-clause-active : goal.returns-in_ok-format-in-None-clause-active
returns-in_ok-format-in-None-clause-active g c =
    let old = g.F.Flash.state c.args.flash.now in
    let mid = g.F.Flash.state c.read_active.new.flash in
    let new = g.F.Flash.state c.format.new.flash in
    let only = c.in_ok-active.ensures.reads.kept in
    let done = c.in_ok-format-in-None.ensures in
    format_active old mid new c.requires.valid (g.met.F.Flash.lawful c.args.flash.now) only done.runs.kept
    (λ image told. subst (λ (o : Option Active). ChosenIn old.geometry image o) c.in-None.is (c.in_ok-active.ensures.chosen image told)) done.formatted

pub returns-in_err-format-in-None-clause-runs : goal.returns-in_err-format-in-None-clause-runs
returns-in_err-format-in-None-clause-runs g c =
    let old = g.F.Flash.state c.args.flash.now in
    handed_error c.from_residual-in_err-format-in-None.result c.in_err-format-in-None.field-0.0 c.from_residual-in_err-format-in-None.ensures.1
    (format_runs (read_by (Ok c.in_ok-active.field-0) c.in_ok-active.ensures.reads)
    (λ image told. subst (λ (o : Option Active). ChosenIn old.geometry image o) c.in-None.is (c.in_ok-active.ensures.chosen image told)) c.in_err-format-in-None.ensures.runs)

pub returns-in_ok-format-in-None-clause-runs : goal.returns-in_ok-format-in-None-clause-runs
returns-in_ok-format-in-None-clause-runs g c =
    let old = g.F.Flash.state c.args.flash.now in
    format_runs (read_by (Ok c.in_ok-active.field-0) c.in_ok-active.ensures.reads)
    (λ image told. subst (λ (o : Option Active). ChosenIn old.geometry image o) c.in-None.is (c.in_ok-active.ensures.chosen image told)) c.in_ok-format-in-None.ensures.runs
