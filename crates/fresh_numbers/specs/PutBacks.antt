-- Histories under attack: at each mount any primary map that the store has had, or that a cut may have left, can stand in
-- the place of the one that the last run left. The rollback map is always the one that the mount finds.
use Rattle.std.specs.Prelude.{◌≡◌, ℕ, ◌<◌, ◌≤◌, ◌^◌, List, [], ◌∷◌, Contains}
use Rattle.kv_model.specs.Constants.{Constants}
use Rattle.kv_model.specs.FlaggedMap.{FlaggedMap}
use Rattle.kv_model.specs.Rules.{Steps}
use Rattle.kv_model.specs.StoreState.{Maps, StoreState}
use Rattle.sealed_pair.specs.SecureStep.{secure_rules}
use Rattle.fresh_numbers.specs.Histories.{Event, Called, Began, Finds, History, begun, first_state}

-- a primary map of one of these states
pub record IsOldMap (constants : Constants) (past : List StoreState) (primary : FlaggedMap) : Type 0 where
  pub state : StoreState
  pub passed : Contains past state
  pub maps : Maps
  pub left : Finds constants state maps
  pub its : primary ≡ maps.primary

-- A run begins with an old primary map beside the rollback map that the mount finds. Its numbers are fresh.
pub record BeginsWithOld (constants : Constants) (past : List StoreState) (old : StoreState) (event : Maps × ℕ) (new : StoreState) : Type 0 where
  pub found : Maps
  pub finds : Finds constants old found
  pub beside : event.0.rollback ≡ found.rollback
  pub put : IsOldMap constants past event.0.primary
  pub fresh : old.next_vector ≤ event.1
  pub fits : event.1 < 2 ^ 64
  pub begun_so : new ≡ begun constants event.0 event.1

abbrev pub FollowsUnderAttack : Constants → List StoreState → StoreState → Event → StoreState → Type 0
FollowsUnderAttack constants past old (Called who operation reply) new =
    Steps (secure_rules constants) old who operation (record { state = new; reply = reply })
FollowsUnderAttack constants past old (Began maps number) new = BeginsWithOld constants past old (maps, number) new

-- each event follows; the past has the states before, and the one that it follows from
abbrev pub PassesUnderAttack : Constants → List StoreState → StoreState → List Event → List StoreState → Type 0
PassesUnderAttack constants past old [] [] = Unit {0}
PassesUnderAttack constants past old (event ∷ events) (new ∷ states) =
    FollowsUnderAttack constants (old ∷ past) old event new × PassesUnderAttack constants (old ∷ past) new events states
PassesUnderAttack constants past old events states = ⊥

-- the history of a store whose primary maps were put back at will
pub record IsHistoryUnderAttack (h : History) : Type 0 where
  pub fits : h.number < 2 ^ 64
  pub passes : PassesUnderAttack h.constants [] (first_state h) h.events h.states
