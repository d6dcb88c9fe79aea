use Rattle.std.proofs.Common.{◌∙◌}
use Rattle.std.proofs.lemmas.Result.{on_ok_weaker}
use Rattle.script_core.proofs.Printing.{cut_spelled}
use Rattle.script_core.proofs.print.print_cut.Goals as goal

pub returns : goal.returns
returns c =
    on_ok_weaker c.print_pattern.result
    (cut_spelled c.args.side c.args.n c.args.pattern c.args.text.now.items c.append.new.text.items c.append-2.new.text.items c.append-3.new.text.items c.print_pattern.new.text.items
    c.as_slice.result.now c.letter.result.now c.as_bytes.result.now c.as_slice.ensures c.letter.ensures (c.as_bytes.ensures.value ∙ c.in_ok-n.ensures.ok) c.in_ok-append.ensures c.in_ok-append-2.ensures c.in_ok-append-3.ensures)
    c.print_pattern.ensures
