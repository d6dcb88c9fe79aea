-- A plain store stays fresh under a set.
use Rattle.std.proofs.Common.{◌≡◌, ℕ, Bool, true, false, List, Option, Some, None, refl, sym, ◌∙◌, ap}
use Rattle.std.specs.Prelude.{if◌then◌else◌, is_some}
use Rattle.kv_model.specs.declared.error.KvError.{KvError}
use Rattle.kv_model.specs.declared.error.KvError.TheVariants.{Stopped}
use Rattle.kv_model.specs.declared.call.Reply.{Reply}
use Rattle.kv_model.specs.declared.call.Reply.TheVariants.{Done, Refused}
use Rattle.kv_model.specs.Checks.{first_refusal}
use Rattle.kv_model.specs.Constants.{Constants}
use Rattle.std.specs.FinMap.{empty}
use Rattle.kv_model.specs.StoreState.{StoreState, fresh_state}
use Rattle.sealed_pair.proofs.PairLemmas.{same_told}
use Rattle.kv_model.specs.Operations.{Set}
use Rattle.kv_model.specs.PlainStep.{plain_rules}
use Rattle.kv_model.specs.Rules.{Outcome, refused_or, refuses}
use Rattle.kv_model.specs.Kv.{Answers, KvState, answered}
use Rattle.sealed_pair.specs.Store.{IsFreshStore}
use Rattle.sealed_pair.proofs.ReadingLemmas.{some_of}

abbrev as_reply : Reply → Reply
as_reply reply = reply

module _ (constants : Constants) (state : StoreState) (who : ℕ) (key value : List ℕ) (flags : ℕ) where
  record Stays (after : StoreState) : Type 0 where
    pub doubt : after.doubt ≡ state.doubt
    pub open_set : after.open_set ≡ state.open_set
    pub iterators : after.iterators ≡ state.iterators

  stays : (stopped : Bool) (found : Option KvError) (after : StoreState)
      → (if stopped then refuses state Stopped else refused_or (plain_rules constants) state who (Set key value flags) found) ≡ record { state = after; reply = Done } → Stays after
  stays true found after is = let same : as_reply (Refused Stopped) ≡ as_reply Done = ap (λ (o : Outcome). o.reply) is in absurd (cc)
  stays false (Some e) after is = let same : as_reply (Refused e) ≡ as_reply Done = ap (λ (o : Outcome). o.reply) is in absurd (cc)
  stays false None after is = record {
    doubt = ap (λ (o : Outcome). o.state.doubt) (sym is);
    open_set = ap (λ (o : Outcome). o.state.open_set) (sym is);
    iterators = ap (λ (o : Outcome). o.state.iterators) (sym is);
  }

module _ (u u' : KvState) (fresh : IsFreshStore plain_rules u) (who : ℕ) (key value : List ℕ) (flags : ℕ)
    (answers : Answers plain_rules u u' (answered who (Set key value flags) Done)) where
  record At (after : StoreState) : Type 0 where
    pub state : StoreState
    pub told : u.known.state ≡ Some state
    pub stayed : Stays u.known.constants state who key value flags after

  at : (after : StoreState) → u'.known.state ≡ Some after → At after
  at after later =
      let there = some_of u.known.state (sym answers.does.keeps.tells_state ∙ ap is_some later) in
      record {
        state = there.0;
        told = there.1;
        stayed = stays u.known.constants there.0 who key value flags (is_some there.0.doubt)
            (first_refusal ((plain_rules u.known.constants).checks there.0 who (Set key value flags))) after (answers.does.leads there.0 there.1 after later);
      }

  pub fresh_kept : IsFreshStore plain_rules u'
  fresh_kept = record {
    plain = record {
      rules = λ told. refl;
      running = λ after later. let a = at after later in ap is_some a.stayed.doubt ∙ fresh.plain.running a.state a.told;
    };
    no_set = λ after later. let a = at after later in a.stayed.open_set ∙ fresh.no_set a.state a.told;
    no_iterators = λ after later. let a = at after later in a.stayed.iterators ∙ fresh.no_iterators a.state a.told;
  }

-- a store that has just been made
pub fresh_at : (s : KvState) (state : StoreState) → s.known.state ≡ Some state → state ≡ fresh_state empty empty 1 → IsFreshStore plain_rules s
fresh_at s state is made = record {
  plain = record {
    rules = λ told. refl;
    running = λ other told. ap (λ (t : StoreState). is_some t.doubt) (same_told s.known.state state other is told ∙ made);
  };
  no_set = λ other told. ap (λ (t : StoreState). t.open_set) (same_told s.known.state state other is told ∙ made);
  no_iterators = λ other told. ap (λ (t : StoreState). t.iterators) (same_told s.known.state state other is told ∙ made);
}
