use Rattle.std.proofs.Common.{◌≡◌, ◌+◌, ◌-◌, length}
use Rattle.std.specs.Option.{ForSome}
use Rattle.flash_core.specs.Images.{IsErased}
use Rattle.flash_core.specs.Moments.{Within}
use Rattle.flash_core.specs.Runs.{Done, RunsBy}
use Rattle.area_log.specs.Areas.{end_of, IsEnd}
use Rattle.area_collect.specs.Copies.{HasCopiedMore, segment}
use Rattle.area_collect.proofs.entries.copy_entries.Given as goal

abbrev pub invariant-loop-at : goal.invariant-loop-at
invariant-loop-at g l =
    let old = g.F.Flash.state l.fn.flash in
    let now = g.F.Flash.state l.flash in
    record {
      runs : RunsBy old now (Within l.end (end_of l.route.to - l.end)) Done;
      copied : HasCopiedMore old now (record { route = l.route; entries = segment l.table.entries l.first l.at }) (record { end = l.end; entries = l.fn.spare.entries })
          (record { end = l.behind; entries = l.spare.entries });
      end : IsEnd old.geometry l.route.to l.behind;
      erased : ForSome now.image (λ image. IsErased image l.behind (end_of l.route.to - l.behind));
      count : length l.spare.entries ≡ length l.fn.spare.entries + (l.at - l.first);
      room : length l.spare.entries + l.spare.spare ≡ length l.fn.spare.entries + l.fn.spare.spare;
    }
