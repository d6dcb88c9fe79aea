-- What serving comes to, once the pass of all parts is back.
use Rattle.std.proofs.Common.{◌≡◌, ℕ, Bool, true, false, List, [], refl, sym, ◌∙◌, ap, subst, inl, inr}
use Rattle.std.specs.Prelude.{All}
use mathlib.Core.List.{IsPrefix}
use Rattle.journal_core.specs.JournalState.{JournalState}
use Rattle.kv_model.specs.declared.call.Entry.{Entry}
use Rattle.kv_model.specs.Constants.{Constants}
use Rattle.kv_model.specs.Opening.{Opening}
use Rattle.kv_model.specs.Orders.{calls_by, lines_of}
use Rattle.kv_model.specs.Rules.{Rules}
use Rattle.script_core.specs.declared.line.Line.{Line}
use Rattle.script_core.specs.LineOrder.{calls_of}
use Rattle.session_core.specs.declared.ended.Ended.{Ended}
use Rattle.session_core.specs.declared.ended.Ended.TheVariants as ended
use Rattle.session_core.specs.declared.replay.Outcome.{Outcome}
use Rattle.shared_kv.specs.Desks.{stands_now}
use Rattle.shared_kv.specs.Histories.{StandsFor}
use Rattle.shared_kv.specs.Turns.{HasParts}
use Rattle.turn_lock.specs.Views.{first_view}
use Rattle.turn_lock.specs.declared.view.View.{View}
use Rattle.serve_core.specs.Clients.{IsClientLine, is_from}
use Rattle.serve_core.specs.Owning.{IsSamePass, Owns}
use Rattle.serve_core.specs.Serving.{InterleavesTo, Serves}
use Rattle.serve_core.proofs.ClientLemmas.{interleaves, interleaves_part, lacks_some}
use Rattle.serve_core.proofs.OwnsLemmas.{nothing_first}

abbrev pub ended_by : Bool → Ended
ended_by true = ended.Whole
ended_by false = ended.Memory

module _ (rules_by : Constants → Rules) (old new : Opening) (lines : List Line) (journal : JournalState) where
  stands_serve : (e : Ended) → StandsFor rules_by new journal.entries old → InterleavesTo e journal.entries lines → Serves rules_by old new lines (record { journal = journal; ended = e })
  stands_serve e stands order = record {
    stands = stands;
    legal = λ before told after later. record { numbered = stands.numbered; runs = stands.runs before told after later };
    order = order;
  }

  -- the pass of all parts
  module _ (clients : All IsClientLine lines) (first v : View) (begins : first ≡ first_view first.opening) (is : first.opening ≡ old) (same : IsSamePass first v)
      (parts : HasParts rules_by v new journal.entries) where
    order_by : (whole : Bool) → Owns (is_from 1) (calls_of lines) whole v → InterleavesTo (ended_by whole) journal.entries lines
    order_by true owns = interleaves lines clients true v journal.entries owns parts.seen (parts.owned (same.parts ∙ ap (λ (x : View). x.parts) begins)) refl
    order_by false owns = (
      interleaves_part lines clients false v journal.entries owns parts.seen (parts.owned (same.parts ∙ ap (λ (x : View). x.parts) begins)),
      inr (lacks_some lines clients false v journal.entries owns parts.seen (parts.owned (same.parts ∙ ap (λ (x : View). x.parts) begins)) refl),
    )

    pub all_served : (whole : Bool) (e : Ended) → e ≡ ended_by whole → Owns (is_from 1) (calls_of lines) whole v → Serves rules_by old new lines (record { journal = journal; ended = e })
    all_served whole e is_so owns =
        stands_serve e (subst (λ (o : Opening). StandsFor rules_by new journal.entries o) (same.opening ∙ is) parts.stands)
        (subst (λ (x : Ended). InterleavesTo x journal.entries lines) (sym is_so) (order_by whole owns))

-- there was no memory to share the store
pub none_served : (rules_by : Constants → Rules) (now : Opening) (lines : List Line) (journal : JournalState) → journal.entries ≡ []
    → Serves rules_by now now lines (record { journal = journal; ended = ended.Memory })
none_served rules_by now lines journal none =
    stands_serve rules_by now now lines journal ended.Memory
    (subst (λ (l : List Entry). StandsFor rules_by now l now) (sym none) (stands_now rules_by now)) (
      (λ who. subst (λ (l : List Entry). IsPrefix (calls_by who (lines_of l)) (calls_by who (calls_of lines))) (sym none) (nothing_first (calls_by who (calls_of lines)))),
      inl none,
    )
