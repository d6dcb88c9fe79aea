use Rattle.std.proofs.Common.{◌≡◌, List, [], ◌∷◌, slice_index_or, refl, ap, arith}
use Rattle.kv_model.specs.declared.call.Call.TheVariants as call
use Rattle.kv_model.specs.OrderExamples.{example_entries}
use Rattle.kv_model.specs.Orders.{Line, lines_of}
use Rattle.kv_model.proofs.OrderOfLinesLemmas.{InOrder-Interleaves, Interleaves-swap}
use Rattle.kv_model.proofs.order_laws.two_clients.Goals as goal

not_first : (a b : List Line) → (1, call.Finish) ∷ a ≡ (2, call.Abort) ∷ b → ⊥
not_first a b is =
    let numbers : 1 ≡ 2 = ap (λ (lines : List Line). (slice_index_or lines 0 (0, call.Finish)).0) is in
    absurd (omega (arith, numbers))

not_turned : call.Finish ∷ call.Abort ∷ [] ≡ call.Abort ∷ call.Finish ∷ [] → ⊥
not_turned is = cc is

not_more : call.Finish ∷ call.Abort ∷ [] ≡ call.Finish ∷ [] → ⊥
not_more is = cc is

pub returns : goal.returns
returns c = record {
  interleaves = Interleaves-swap example_entries [] (1, call.Finish) (2, call.Abort) ((1, call.Abort) ∷ []) refl (InOrder-Interleaves example_entries (lines_of example_entries) refl);
  in_order = refl;
  not_in_order = λ is. not_first _ _ is;
  not_turned = λ is. not_turned (is 1);
  not_more = λ is. not_more (is 1);
}
