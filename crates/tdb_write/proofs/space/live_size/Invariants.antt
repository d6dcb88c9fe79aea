use Rattle.std.proofs.Common.{◌≡◌, ◌≤◌, length}
use Rattle.tdb_read.specs.Views.{HasOnlyRead, IsReady, view_of}
use Rattle.tdb_write.proofs.SpaceLemmas.{IsSum}
use Rattle.tdb_write.proofs.space.live_size.Given as goal

abbrev pub invariant-loop-at : goal.invariant-loop-at
invariant-loop-at g l =
    let old = view_of g.F.Flash.state l.fn.log in
    let now = view_of g.F.Flash.state l.log in
    record {
      ready : IsReady now;
      reads : HasOnlyRead old now;
      sum : IsSum old l.at l.sum;
    }
