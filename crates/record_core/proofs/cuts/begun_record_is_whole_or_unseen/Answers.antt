use Rattle.record_core.specs.Mounts.{Holds}
use Rattle.record_core.proofs.FinishingCuts.{finish_map, finishes_cuts, payload_cuts}
use Rattle.record_core.proofs.cuts.begun_record_is_whole_or_unseen.Goals as goal

pub returns : goal.returns
returns goals = record {
  payload = λ g image c k n valid sized begun call now moment. payload_cuts g valid image sized c k n begun call now moment;
  finish = λ g image c next k n valid sized begun call now moment. finishes_cuts g valid image sized c k n begun (λ left. Holds g left next) call now moment;
  map = λ g image c k n next valid sized begun call now moment. finish_map g valid image sized c k n begun next call now moment;
}
