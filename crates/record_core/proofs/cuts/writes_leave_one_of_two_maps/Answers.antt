use Rattle.record_core.proofs.MapCuts.{append_map, complete_map, fill_map, renew_map}
use Rattle.record_core.proofs.cuts.writes_leave_one_of_two_maps.Goals as goal

pub returns : goal.returns
returns goals = record {
  append = λ g image c k r valid sized may valid_key valid_header call now moment. append_map g valid image sized c k r may valid_key valid_header call now moment;
  fill = λ g image c k valid sized spare call now fills. fill_map g valid image sized c k spare call now fills;
  renew = λ g image c k next valid sized spare call now renews. renew_map g valid image sized c k next spare call now renews;
  complete = λ g image c k next valid sized blank call now completes. complete_map g valid image sized c k next blank call now completes;
}
