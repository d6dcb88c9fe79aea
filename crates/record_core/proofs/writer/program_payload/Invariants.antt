use Rattle.std.proofs.Common.{◌-◌}
use Rattle.record_core.specs.Record.{record_payload}
use Rattle.record_core.proofs.WriterLemmas.{Pieces}
use Rattle.record_core.proofs.writer.program_payload.Given as goal

abbrev pub invariant-loop-done : goal.invariant-loop-done
invariant-loop-done g l =
    let old = g.F.Flash.state l.fn.flash in
    Pieces old (g.F.Flash.state l.flash) l.place (record_payload old.geometry.prog l.payload.key.now l.payload.value.now) l.done

abbrev pub decreases-loop-done : goal.decreases-loop-done
decreases-loop-done g l = l.size - l.done
