-- A call that each of the two stores does in its turn, as one call of the secure store.
use Rattle.std.proofs.Common.{◌≡◌, ℕ, List, sym, ◌∙◌, ap, subst, inl, inr}
use Rattle.std.specs.Prelude.{IsTrue}
use Rattle.kv_model.specs.declared.error.KvError.{KvError}
use Rattle.kv_model.specs.declared.call.Reply.TheVariants.{Done, Refused}
use Rattle.kv_model.specs.Checks.{may_fail_reading, may_fail_writing}
use Rattle.kv_model.specs.Constants.{Constants}
use Rattle.kv_model.specs.StoreState.{StoreState}
use Rattle.kv_model.specs.Operations.{Operation}
use Rattle.kv_model.specs.Rules.{Outcome, Rules, step}
use Rattle.kv_model.specs.Kv.{IsLawful, Kind, KvState, answered, may_end, FailedRead}
use Rattle.sealed_pair.specs.Going.{Failed, HasGone, Work, map_after}
use Rattle.sealed_pair.specs.Running.{HasRun, IsOpen, Parts, WhereRun, one_of, rules_of}
use Rattle.sealed_pair.specs.Shares.{Share}
use Rattle.sealed_pair.specs.Store.{Own, joined_by}
use Rattle.sealed_pair.proofs.GoingLemmas.{IsEither}
use Rattle.sealed_pair.proofs.RunningLemmas.{AreGoals, Prepares, Runs, left, run_above_fails, run_below_fails, run_done}

module _ (root : List ℕ) (own : Own) (by_above by_below : Constants → Rules) (u r : KvState) (who : ℕ) (operation : Operation) (one two : Work) where
  -- the stores, with the shares that the work begins with
  abbrev pub working : Parts
  working = record {
    root = root;
    own = own;
    above = by_above;
    primary = u;
    share_above = one.share;
    below = by_below;
    rollback = r;
    share_below = two.share;
  }

  abbrev OpenAbove : StoreState → Type 0
  OpenAbove = IsOpen one.share by_above u

  abbrev OpenBelow : StoreState → Type 0
  OpenBelow = IsOpen two.share by_below r

  abbrev pub IsGranted : Own → StoreState → StoreState → Type 0
  IsGranted later above below =
      step (rules_of working) (one_of working above below) who operation ≡ record { state = joined_by later (one.after above) (two.after below); reply = Done }

  module _ (later : Own) (granted : WhereRun working (IsGranted later)) where
    goals : WhereRun working (AreGoals working who operation (map_after one) (map_after two))
    goals above below at at_too = (
      ap (λ (o : Outcome). o.state.primary) (granted above below at at_too),
      ap (λ (o : Outcome). o.state.rollback) (granted above below at at_too),
    )

    pub tried_done : (u' : KvState) (share : Share) (r' : KvState) (share_too : Share) → HasGone one.share by_above u u' one.after (map_after one)
        → HasGone two.share by_below r r' two.after (map_after two)
        → ((above : StoreState) → OpenAbove above → Runs share (one.after above)) → ((below : StoreState) → OpenBelow below → Runs share_too (two.after below))
        → HasRun working (left working later u' share r' share_too) (answered who operation Done)
    tried_done u' share r' share_too gone gone_too runs runs_too =
        run_done working who operation (map_after one) (map_after two) goals later u' share r' share_too one.after two.after gone gone_too runs runs_too granted

    module _ (reads : IsTrue (may_end operation FailedRead) → WhereRun working (λ above below. IsTrue (may_fail_reading ((rules_of working).checks (one_of working above below) who operation))))
        (writes : WhereRun working (λ above below. IsTrue (may_fail_writing ((rules_of working).checks (one_of working above below) who operation))))
        (next : Own) (u' : KvState) (share : Share) (r' : KvState) (share_too : Share) (lawful_above : IsLawful by_above u') (lawful_below : IsLawful by_below r') (e : KvError) where
      -- the primary store fails; the rollback store keeps its map
      pub tried_above_fails : (kinds : (kind : Kind) → IsTrue (may_end one.operation kind) → IsTrue (may_end operation kind)) → Failed by_above one u u' e
          → (now : StoreState → StoreState) → HasGone two.share by_below r r' now (map_after two) → ((below : StoreState) → OpenBelow below → (now below).primary ≡ below.primary)
          → (Prepares one.operation → WhereRun working (λ above below. one_of working above below ≡ joined_by next above (now below)))
          → (Prepares one.operation → (above : StoreState) → OpenAbove above → Runs share above) → ((below : StoreState) → OpenBelow below → Runs share_too (now below))
          → HasRun working (left working next u' share r' share_too) (answered who operation (Refused e))
      tried_above_fails kinds failed now gone kept same runs runs_too =
          run_above_fails working who operation (map_after one) (map_after two) goals next u' share r' share_too (record { who = one.who; operation = one.operation; error = e }) kinds
          (λ may. reads (kinds FailedRead may)) writes lawful_above lawful_below (λ s. s) now same failed.failed gone (λ above at. at.running) runs runs_too
          (λ above below at at_too x either.
          elim (subst (λ (o : Outcome). IsEither x above.primary o.state.primary) (failed.grants above at) either) [
            | inl still ↦ inl (still, kept below at_too)
            | inr gone ↦ inr (inl (gone ∙ sym (goals above below at at_too).0, kept below at_too))
          ])

      -- the rollback store fails, behind what the primary store did
      pub tried_below_fails : (kinds : (kind : Kind) → IsTrue (may_end two.operation kind) → IsTrue (may_end operation kind)) → (now : StoreState → StoreState)
          → HasGone one.share by_above u u' now (map_after one) → ((above : StoreState) → OpenAbove above → (now above).primary ≡ (one.after above).primary)
          → Failed by_below two r r' e
          → (Prepares two.operation → WhereRun working (λ above below. one_of working above below ≡ joined_by next (now above) below))
          → ((above : StoreState) → OpenAbove above → Runs share (now above)) → (Prepares two.operation → (below : StoreState) → OpenBelow below → Runs share_too below)
          → HasRun working (left working next u' share r' share_too) (answered who operation (Refused e))
      tried_below_fails kinds now gone moved failed same runs runs_too =
          run_below_fails working who operation (map_after one) (map_after two) goals next u' share r' share_too (record { who = two.who; operation = two.operation; error = e }) kinds
          (λ may. reads (kinds FailedRead may)) writes lawful_above lawful_below now (λ s. s) same gone failed.failed (λ below at. at.running) runs runs_too
          (λ above below at at_too y either.
          let first = moved above at ∙ sym (goals above below at at_too).0 in
          elim (subst (λ (o : Outcome). IsEither y below.primary o.state.primary) (failed.grants below at_too) either) [
            | inl still ↦ inr (inl (first, still))
            | inr gone ↦ inr (inr (first, gone ∙ sym (goals above below at at_too).1))
          ])
