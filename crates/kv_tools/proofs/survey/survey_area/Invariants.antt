use Rattle.std.proofs.Common.{◌-◌, ◌+◌, ◌≤◌}
use Rattle.std.specs.BTreeMap.{btree_map_len}
use Rattle.std.specs.Option.{ForSome}
use Rattle.flash_core.specs.Calls.{OnlyReads}
use Rattle.area_log.specs.Areas.{end_of, first_place, IsEnd}
use Rattle.kv_tools.proofs.SurveyLemmas.{Surveyed}
use Rattle.kv_tools.proofs.survey.survey_area.Given as goal

abbrev pub invariant-loop-header : goal.invariant-loop-header
invariant-loop-header g l =
    let old = g.F.Flash.state l.fn.flash in
    record {
      reads : OnlyReads old (g.F.Flash.state l.flash);
      end : IsEnd old.geometry l.area l.place;
      few : l.records + first_place old.geometry l.area ≤ l.place;
      less : l.live.used + first_place old.geometry l.area ≤ l.place;
      keys : btree_map_len l.live.sizes ≤ l.records;
      surveyed : ForSome old.image (λ image. Surveyed old.geometry.prog image (first_place old.geometry l.area) l.place l.live l.records);
    }

abbrev pub decreases-loop-header : goal.decreases-loop-header
decreases-loop-header g l = end_of l.area - l.place
