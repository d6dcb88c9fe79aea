use Rattle.script_core.proofs.Cuts.{reads_cut, reads_no_cut}
use Rattle.script_core.proofs.cut.read_cut.Goals as goal

pub returns-in-Ok : goal.returns-in-Ok
returns-in-Ok c = reads_cut c.args.word.now c.in-Ok.cut.side c.in-Ok.cut.n c.in-Ok.cut.pattern c.in-Ok.ensures

pub returns-in-Err : goal.returns-in-Err
returns-in-Err c = reads_no_cut c.args.word.now c.in-Err.ensures
