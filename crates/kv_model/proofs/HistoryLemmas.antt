-- How a history goes on.
use Rattle.std.proofs.Common.{◌≡◌, List, [], ◌∷◌, ◌++◌, refl, sym, subst, append_assoc}
use Rattle.std.proofs.lemmas.List.{append-nil}
use Rattle.kv_model.specs.declared.call.Entry.{Entry}
use Rattle.kv_model.specs.StoreState.{StoreState}
use Rattle.kv_model.specs.Rules.{Rules}
use Rattle.kv_model.specs.History.{AreNumbered, Runs, PassesThrough, Follows, last_state}

pub last_state-push : (old new : StoreState) (states : List StoreState) → last_state old (states ++ new ∷ []) ≡ new
last_state-push old new [] = refl
last_state-push old new (s ∷ states) = last_state-push s new states

pub PassesThrough-push : (rules : Rules) (old new : StoreState) (entries : List Entry) (states : List StoreState) (entry : Entry)
    → PassesThrough rules old entries states → Follows rules (last_state old states) entry new → PassesThrough rules old (entries ++ entry ∷ []) (states ++ new ∷ [])
PassesThrough-push rules old new [] [] entry passes follows = (follows, tt)
PassesThrough-push rules old new [] (s ∷ states) entry passes follows = absurd passes
PassesThrough-push rules old new (e ∷ entries) [] entry passes follows = absurd passes
PassesThrough-push rules old new (e ∷ entries) (s ∷ states) entry passes follows = (passes.0, PassesThrough-push rules s new entries states entry passes.1 follows)

pub runs_more : (rules : Rules) (old mid new : StoreState) (entries : List Entry) (entry : Entry) → Runs rules old entries mid → Follows rules mid entry new → Runs rules old (entries ++ entry ∷ []) new
runs_more rules old mid new entries entry (states, passes, is) follows =
    (states ++ new ∷ [], PassesThrough-push rules old new entries states entry passes (subst (λ (s : StoreState). Follows rules s entry new) is follows), sym (last_state-push old new states))

-- numbered entries, and one more behind them
pub AreNumbered-push : (earlier entries : List Entry) (entry : Entry) → AreNumbered earlier entries → AreNumbered (earlier ++ entries) (entry ∷ []) → AreNumbered earlier (entries ++ entry ∷ [])
AreNumbered-push earlier [] entry numbered next = subst (λ (l : List Entry). AreNumbered l (entry ∷ [])) (append-nil earlier) next
AreNumbered-push earlier (e ∷ entries) entry numbered next =
    (numbered.0, numbered.1, AreNumbered-push (earlier ++ e ∷ []) entries entry numbered.2 (subst (λ (l : List Entry). AreNumbered l (entry ∷ [])) (sym (append_assoc earlier (e ∷ []) entries)) next))
