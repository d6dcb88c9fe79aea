use Rattle.std.proofs.Common.{List, subst}
use Rattle.script_core.specs.declared.line.Line.{Line}
use Rattle.session_core.specs.Replaying.{Replays}
use Rattle.kv_cli.specs.Asked.{asked_in}
use Rattle.kv_cli.proofs.RunLemmas.{closed_run, stopped_run}
use Rattle.kv_cli.proofs.run.run_script.Goals as goal

pub returns-in_ok-end-in-Whole : goal.returns-in_ok-end-in-Whole
returns-in_ok-end-in-Whole c =
    closed_run (asked_in c.args.asked) c.args.inputs.image.items c.args.inputs.script c.in_ok-session.session c.replay_lines-journal.new.self c.requires.can c.in_ok-session.ensures
    c.replay_lines-journal.result
    (subst (λ (l : List Line). Replays c.in_ok-session.session c.replay_lines-journal.new.self l c.replay_lines-journal.result) c.into_lines.ensures.lines c.replay_lines-journal.ensures)
    c.in-Whole.is c.in_ok-end-in-Whole.end c.in_ok-end-in-Whole.ensures

pub returns-in-Chance : goal.returns-in-Chance
returns-in-Chance c =
    stopped_run (asked_in c.args.asked) c.args.inputs.image.items c.args.inputs.script c.in_ok-session.session c.replay_lines-journal.new.self c.requires.can c.in_ok-session.ensures
    c.replay_lines-journal.result
    (subst (λ (l : List Line). Replays c.in_ok-session.session c.replay_lines-journal.new.self l c.replay_lines-journal.result) c.into_lines.ensures.lines c.replay_lines-journal.ensures)
    c.in-Chance.side c.in-Chance.place c.in-Chance.is
