use Rattle.record_core.specs.Mounts.{Holds}
use Rattle.record_core.proofs.RenewalCuts.{completes_cuts, fills_cuts, renews_cuts}
use Rattle.record_core.proofs.cuts.renewed_area_is_whole_or_unseen.Goals as goal

pub returns : goal.returns
returns goals = record {
  fill = λ g image c k valid sized spare call now fills. fills_cuts g valid image sized c k spare call now fills;
  renew = λ g image c next k valid sized spare call now renews. renews_cuts g valid image sized c k spare (λ left. Holds g left next) call now renews;
  complete = λ g image c next k valid sized blank call now completes. completes_cuts g valid image sized c k blank (λ left. Holds g left next) call now completes;
}
