use Rattle.kv_model.proofs.OrderOfLinesLemmas.{InOrder-Interleaves, Interleaves-length, InOrder-push, Interleaves-push, Interleaves-swap}
use Rattle.kv_model.proofs.order_laws.entries_are_lines.Goals as goal

pub returns : goal.returns
returns c = record { in_order = InOrder-Interleaves; as_many = Interleaves-length; one_more_in_order = InOrder-push; one_more = Interleaves-push; places = Interleaves-swap }
