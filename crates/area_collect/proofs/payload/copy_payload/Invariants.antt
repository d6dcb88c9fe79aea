use Rattle.std.proofs.Common.{◌-◌, ◌≤◌, min}
use Rattle.base_core.specs.Units.{IsMultipleOf, up}
use Rattle.flash_core.specs.Moments.{Within}
use Rattle.flash_core.specs.Runs.{Done, RunsBy}
use Rattle.area_collect.specs.Payload.{HasCopiedBytes}
use Rattle.area_collect.proofs.payload.copy_payload.Given as goal

abbrev pub invariant-loop-done : goal.invariant-loop-done
invariant-loop-done g l =
    let old = g.F.Flash.state l.fn.flash in
    let now = g.F.Flash.state l.flash in
    record {
      runs : RunsBy old now (Within l.target l.done) Done;
      copied : HasCopiedBytes old now (record { source = l.source; target = l.target; size = min l.done l.size; padding = l.done - min l.done l.size }) l.start l.sum;
      whole : IsMultipleOf old.geometry.prog l.done;
      most : l.done ≤ up old.geometry.prog l.size;
    }

abbrev pub decreases-loop-done : goal.decreases-loop-done
decreases-loop-done g l = l.padded - l.done
