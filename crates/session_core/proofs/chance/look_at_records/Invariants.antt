use Rattle.std.proofs.Common.{◌-◌}
use Rattle.flash_core.specs.Calls.{OnlyReads}
use Rattle.area_log.specs.Areas.{end_of, first_place, IsEnd}
use Rattle.session_core.proofs.SearchLemmas.{Looked}
use Rattle.session_core.proofs.chance.look_at_records.Given as goal

abbrev pub invariant-loop-header : goal.invariant-loop-header
invariant-loop-header g l =
    let old = g.F.Flash.state l.fn.flash in
    record {
      reads : OnlyReads old (g.F.Flash.state l.flash);
      end : IsEnd old.geometry l.area l.place;
      looked : Looked l.images.before.now l.images.after.now l.images.torn.now old.geometry.prog (first_place old.geometry l.area) l.place l.fn.found l.found;
    }

abbrev pub decreases-loop-header : goal.decreases-loop-header
decreases-loop-header g l = end_of l.area - l.place
