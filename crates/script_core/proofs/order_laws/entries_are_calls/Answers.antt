use Rattle.kv_model.proofs.OrderOfLinesLemmas as model
use Rattle.script_core.specs.LineOrder.{calls_of}
use Rattle.script_core.proofs.LineOrderLemmas.{InOrder-push, Interleaves-push, InOrder-cut, Interleaves-cut}
use Rattle.script_core.proofs.order_laws.entries_are_calls.Goals as goal

pub returns : goal.returns
returns c = record {
  in_order = λ entries lines. model.InOrder-Interleaves entries (calls_of lines);
  as_many = λ entries lines. model.Interleaves-length entries (calls_of lines);
  one_more_in_order = InOrder-push;
  one_more = Interleaves-push;
  cut_in_order = InOrder-cut;
  cut = Interleaves-cut;
}
