-- What a history of a store is: calls and replies that follow one another by the store's own step.
use Rattle.std.specs.Prelude.{◌≡◌, ℕ, ◌+◌, ◌==◌, List, [], ◌∷◌, ◌++◌, length, count_by, MatchOption}
use Rattle.kv_model.specs.declared.call.Reply.TheVariants.{Done}
use Rattle.kv_model.specs.declared.call.Entry.{Entry}
use Rattle.kv_model.specs.StoreState.{StoreState}
use Rattle.kv_model.specs.Operations.{operation_of}
use Rattle.kv_model.specs.Rules.{Rules, Steps, Mounts}

-- an entry follows from a state: a mount, or a call and its reply
abbrev pub Follows : Rules → StoreState → Entry → StoreState → Type 0
Follows rules old entry new = MatchOption (operation_of entry.call)
    ((entry.reply ≡ Done) × Mounts rules old new)
    (λ operation. Steps rules old entry.who operation (record { state = new; reply = entry.reply }))

-- each entry follows from the state that those before it leave; these are the states behind the entries, in order
abbrev pub PassesThrough : Rules → StoreState → List Entry → List StoreState → Type 0
PassesThrough rules old [] [] = Unit {0}
PassesThrough rules old (entry ∷ entries) (new ∷ states) = Follows rules old entry new × PassesThrough rules new entries states
PassesThrough rules old entries states = ⊥

abbrev pub last_state : StoreState → List StoreState → StoreState
last_state old [] = old
last_state old (new ∷ states) = last_state new states

-- entries lead from one state to another
abbrev pub Runs : Rules → StoreState → List Entry → StoreState → Type 0
Runs rules old entries new = (states : List StoreState) × PassesThrough rules old entries states × (new ≡ last_state old states)

abbrev pub entries_of : ℕ → List Entry → ℕ
entries_of who entries = count_by (λ (entry : Entry). entry.who == who) entries

-- entries are numbered from 1, and each caller's from 1 for itself
abbrev pub AreNumbered : List Entry → List Entry → Type 0
AreNumbered earlier [] = Unit {0}
AreNumbered earlier (entry ∷ entries) =
    (entry.seq ≡ length earlier + 1) × (entry.index ≡ entries_of entry.who earlier + 1) × AreNumbered (earlier ++ entry ∷ []) entries

pub record IsLegal (rules : Rules) (old : StoreState) (entries : List Entry) (new : StoreState) : Type 0 where
  pub numbered : AreNumbered [] entries
  pub runs : Runs rules old entries new
