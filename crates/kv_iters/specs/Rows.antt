-- How the calls on iterators are the model's calls on iterators, of which a store's own rules have no part.
use Rattle.std.specs.Prelude.{◌≡◌, ℕ, List, Option, Some}
use Rattle.kv_model.specs.declared.error.KvError.{KvError}
use Rattle.kv_model.specs.declared.call.Reply.{Reply}
use Rattle.kv_model.specs.declared.call.Reply.TheVariants.{Done, Found}
use Rattle.kv_model.specs.StoreState.{StoreState, Iterators, Maps, OpenSet}
use Rattle.kv_model.specs.Operations.{Operation, OpenIterator, Next, CloseIterator}
use Rattle.kv_model.specs.Checks.{Check, first_refusal}
use Rattle.kv_model.specs.Rules.{Outcome}
use Rattle.kv_model.specs.Rows as rows
use Rattle.kv_iters.specs.Calls.{advanced, ended, start_refusal, started, use_refusal}

module _ (state : StoreState) (who n : ℕ) where
  abbrev pub leaves : Iterators → Reply → Outcome
  leaves iterators reply = record { state = record state { iterators = iterators }; reply = reply }

  -- the model refuses the call so, whatever the store's own checks are
  abbrev pub IsRefusedBy : Operation → Option KvError → Type 0
  IsRefusedBy operation refusal = (own : Operation → List Check) → first_refusal (rows.shared_checks state who own operation) ≡ refusal

  -- the call does this in the model, whatever the store's own calls do
  abbrev pub Does : Operation → Outcome → Type 0
  Does operation outcome = (hash_bits : ℕ) (finished : OpenSet → Maps) (own : Operation → Outcome)
      → rows.shared_effect state who hash_bits finished own operation ≡ outcome

  abbrev pub OpensAsTheModel : List ℕ → Type 0
  OpensAsTheModel prefix = IsRefusedBy (OpenIterator n prefix) (start_refusal state.iterators who n prefix)
      × Does (OpenIterator n prefix) (leaves (started state.iterators who n prefix) Done)

  -- where this key is the next one
  abbrev pub AdvancesAsTheModel : List ℕ → Type 0
  AdvancesAsTheModel key = IsRefusedBy (Next n) (use_refusal state.iterators who n)
      × (rows.advanced state who n (Some key) ≡ leaves (advanced state.iterators who n key) (Found key))

  abbrev pub ClosesAsTheModel : Type 0
  ClosesAsTheModel = IsRefusedBy (CloseIterator n) (use_refusal state.iterators who n)
      × Does (CloseIterator n) (leaves (ended state.iterators who n) Done)
