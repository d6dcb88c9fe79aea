-- What a run of calls on a store does: the journal goes on by entries that are a history of the store.
use Rattle.std.specs.Prelude.{◌≡◌, List, [], ◌++◌}
use Rattle.std.specs.Option.{ForSome}
use Rattle.kv_model.specs.declared.call.Entry.{Entry}
use Rattle.kv_model.specs.Constants.{Constants}
use Rattle.kv_model.specs.Rules.{Rules}
use Rattle.kv_model.specs.Kv.{Keeps, KvState}
use Rattle.kv_model.specs.History.{AreNumbered, IsLegal, Runs}
use Rattle.kv_model.specs.Orders.{Line, lines_of}

-- a store and the journal of its calls
pub record Seen : Type 1 where
  pub store : KvState
  pub entries : List Entry

abbrev pub seen : KvState → List Entry → Seen
seen store entries = record { store = store; entries = entries }

-- The journal has these lines more, with their replies. Where the state is told, they lead from the old one to the new
-- one by the store's rules.
pub record HasGoneOn (rules_by : Constants → Rules) (old new : Seen) (lines : List Line) : Type 0 where
  pub keeps : Keeps old.store new.store
  pub more : List Entry
  pub entries : new.entries ≡ old.entries ++ more
  pub lines_are : lines_of more ≡ lines
  pub numbered : AreNumbered old.entries more
  pub runs : ForSome old.store.known.state (λ before. ForSome new.store.known.state (λ after.
      Runs (rules_by old.store.known.constants) before more after))

-- A journal that began empty is a legal history of the store, where its state is told.
abbrev pub IsHistory : (Constants → Rules) → Seen → Seen → Type 0
IsHistory rules_by old new = old.entries ≡ [] → ForSome old.store.known.state (λ before. ForSome new.store.known.state (λ after.
    IsLegal (rules_by old.store.known.constants) before new.entries after))
