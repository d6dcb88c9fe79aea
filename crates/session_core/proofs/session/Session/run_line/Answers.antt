use Rattle.std.proofs.Common.{◌≡◌, ◌∙◌, ap, sym, subst}
use Rattle.kv_model.specs.declared.call.Call.TheVariants as call
use Rattle.script_core.specs.declared.line.Act.TheVariants.{Do}
use Rattle.script_core.specs.declared.line.Line.{Line}
use Rattle.session_core.specs.Replaying.{RunsLine}
use Rattle.session_core.proofs.LineLemmas.{cut_line, mount_line}
use Rattle.session_core.proofs.session.Session.run_line.Goals as goal

pub returns-else-is_mount : goal.returns-else-is_mount
returns-else-is_mount c =
    subst (λ (l : Line). RunsLine c.args.self.now c.run_call.new.self c.args.journal.now.entries c.run_call.new.journal.entries l c.run_call.result)
    (λ i. record { who = c.args.line.who; act = sym c.in-Do.is i }) c.run_call.ensures

pub returns-in-Ok : goal.returns-in-Ok
returns-in-Ok c =
    cut_line c.args.self.now c.arm.new.self c.args.journal.now.entries c.args.line c.in-Cut.side c.in-Cut.n c.in-Cut.pattern _ c.in-Cut.is c.arm.ensures.arms

pub returns-then-is_mount : goal.returns-then-is_mount
returns-then-is_mount c =
    let mount : c.in-Do.call ≡ call.Mount = c.is_mount.ensures.mount c.if-is_mount.true in
    mount_line c.args.self.now c.run_mount.new.self c.args.journal.now.entries c.run_mount.new.journal.entries c.args.line c.run_mount.result
    c.requires.line (c.in-Do.is ∙ ap Do mount) c.run_mount.ensures
