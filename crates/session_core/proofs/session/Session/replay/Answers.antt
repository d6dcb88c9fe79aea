use Rattle.std.proofs.Common.{List, All, sym, ◌∙◌, subst}
use Rattle.script_core.specs.Grammar.{AreLines, CutsNoRollback}
use Rattle.script_core.specs.declared.line.Line.{Line}
use Rattle.session_core.specs.Replaying.{Replays}
use Rattle.session_core.proofs.ReplayLemmas.{none_run}
use Rattle.session_core.proofs.session.Session.replay.Goals as goal

pub replay_lines-requires-clause-lines : goal.replay_lines-requires-clause-lines
replay_lines-requires-clause-lines c = subst AreLines (sym (c.in-Ok.ensures ∙ c.lines.ensures.lines)) c.lines.ensures.valid

pub replay_lines-requires-clause-primary : goal.replay_lines-requires-clause-primary
replay_lines-requires-clause-primary c =
    subst (All (λ (line : Line). CutsNoRollback line.act)) (sym (c.in-Ok.ensures ∙ c.lines.ensures.lines)) c.requires

pub returns-in-Ok : goal.returns-in-Ok
returns-in-Ok c =
    subst (λ (l : List Line). Replays c.args.self.now c.replay_lines.new.self l c.replay_lines.result) (c.in-Ok.ensures ∙ c.lines.ensures.lines) c.replay_lines.ensures

pub returns-in-Err : goal.returns-in-Err
returns-in-Err c = none_run c.args.self.now c.args.script.now c.new.result c.new.ensures
