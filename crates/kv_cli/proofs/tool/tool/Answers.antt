use Rattle.kv_cli.proofs.Endings as endings
use Rattle.kv_cli.proofs.Untold.{file_untold}
use Rattle.kv_cli.proofs.tool.tool.Goals as goal

pub returns-clause-done : goal.returns-clause-done
returns-clause-done g c = endings.done _ _ _ _ _ _ c.end-ending.ensures.ended

pub returns-clause-chance : goal.returns-clause-chance
returns-clause-chance g c = endings.chance _ _ _ _ _ _ c.end-ending.ensures.ended

pub returns-clause-script : goal.returns-clause-script
returns-clause-script g c = endings.script _ _ _ _ _ _ c.end-ending.ensures.ended

pub returns-clause-image : goal.returns-clause-image
returns-clause-image g c = endings.image _ _ _ _ _ _ c.end-ending.ensures.ended

pub returns-clause-file : goal.returns-clause-file
returns-clause-file g c = endings.file _ _ _ _ _ _ c.end-ending.ensures.ended

pub returns-clause-cut_short : goal.returns-clause-cut_short
returns-clause-cut_short g c = endings.cut_short _ _ _ _ _ _ c.end-ending.ensures.ended

pub returns-clause-only_script : goal.returns-clause-only_script
returns-clause-only_script g c = endings.only_script _ _ _ _ _ _ c.end-ending.ensures.ended

pub returns-clause-only_image : goal.returns-clause-only_image
returns-clause-only_image g c = endings.only_image _ _ _ _ _ _ c.end-ending.ensures.ended

pub returns-clause-only_file : goal.returns-clause-only_file
returns-clause-only_file g c = endings.only_file _ _ _ _ _ _ c.end-ending.ensures.ended

pub returns-clause-only_done : goal.returns-clause-only_done
returns-clause-only_done g c = endings.only_done _ _ _ _ _ _ c.end-ending.ensures.ended

pub returns-clause-untold : goal.returns-clause-untold
returns-clause-untold g c = λ is none. file_untold _ _ _ _ _ _ none c.end-ending.ensures.ended is

pub returns-clause-nothing : goal.returns-clause-nothing
returns-clause-nothing g c = endings.nothing _ _ _ c.end-ending.ensures.ended
