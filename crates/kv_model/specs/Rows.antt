-- The calls that every store answers alike: those of incremental sets but for their starts, those of iterators, and
-- reset. A store states its own rows and takes these.
use Rattle.std.specs.Prelude.{ℕ, Bool, false, not, ◌+◌, ◌&&◌, ◌==◌, nat_lt, nat_le, List, [], ◌∷◌, ◌++◌, length, Option, Some, None, is_some, unwrap_or}
use Rattle.std.specs.Option.{option_map_or}
use Rattle.std.specs.FinMap as map
use Rattle.kv_model.specs.declared.limits.TheConstants.{MAX_ITERATORS}
use Rattle.kv_model.specs.declared.error.KvError.TheVariants as error
use Rattle.kv_model.specs.declared.call.Reply.{Reply}
use Rattle.kv_model.specs.declared.call.Reply.TheVariants as reply
use Rattle.kv_model.specs.Keys.{is_key, is_prefix}
use Rattle.kv_model.specs.StoreState.{Maps, StoreState, OpenSet, Position, begun_remove}
use Rattle.kv_model.specs.Operations.{Operation, RemoveStart, Add, Finish, Abort, OpenIterator, Next, CloseIterator, Reset}
use Rattle.kv_model.specs.Checks.{Check, Refuses, Reads, Writes}
use Rattle.kv_model.specs.Rules.{Outcome}
use Rattle.kv_model.specs.NextKey.{next_key}

module _ (state : StoreState) (who : ℕ) where
  abbrev pub owns_set : Bool
  owns_set = option_map_or (λ (s : OpenSet). s.owner == who) state.open_set false

  abbrev pub set_owner : ℕ
  set_owner = option_map_or (λ (s : OpenSet). s.owner) state.open_set 0

  -- how many bytes the active set wants, and has
  abbrev set_size : ℕ
  set_size = option_map_or (λ (s : OpenSet). s.size) state.open_set 0

  abbrev set_fed : ℕ
  set_fed = option_map_or (λ (s : OpenSet). length s.bytes) state.open_set 0

  abbrev has_iterator : ℕ → Bool
  has_iterator n = map.contains_key state.iterators (who, n)

  -- ---- single refusals

  abbrev pub bad_key : List ℕ → Check
  bad_key key = Refuses (not (is_key key)) error.InvalidKey

  abbrev pub own_set : Check
  own_set = Refuses owns_set error.SetOpen

  -- behind own_set, so the set is another's
  abbrev pub other_set : Check
  other_set = Refuses (is_some state.open_set) (error.Busy set_owner)

  abbrev no_set : Check
  no_set = Refuses (not owns_set) error.NoSet

  abbrev no_iterator : ℕ → Check
  no_iterator n = Refuses (not (has_iterator n)) error.NoIterator

  -- ---- the refusals of each call; `own` has those of the store's own rows

  abbrev pub shared_checks : (Operation → List Check) → Operation → List Check
  shared_checks own (Add value) = no_set ∷ Refuses (nat_lt set_size (set_fed + length value)) error.InvalidSize ∷ Writes ∷ []
  shared_checks own Finish = no_set ∷ Refuses (nat_lt set_fed set_size) error.InvalidSize ∷ Writes ∷ []
  shared_checks own Abort = no_set ∷ []
  shared_checks own (OpenIterator n prefix) =
      Refuses (not (is_prefix prefix)) error.InvalidKey
      ∷ Refuses (nat_le MAX_ITERATORS (map.len state.iterators) && not (has_iterator n)) error.TooManyIterators ∷ []
  shared_checks own (Next n) = no_iterator n ∷ Reads ∷ []
  shared_checks own (CloseIterator n) = no_iterator n ∷ []
  shared_checks own Reset = own_set ∷ other_set ∷ Writes ∷ []
  shared_checks own operation = own operation

  -- ---- what each call does

  abbrev pub answers : Reply → Outcome
  answers reply = record { state = state; reply = reply }

  abbrev pub becomes : StoreState → Outcome
  becomes new = record { state = new; reply = reply.Done }

  abbrev pub with_maps : Maps → StoreState
  with_maps maps = record state { primary = maps.primary; rollback = maps.rollback }

  abbrev pub opened : OpenSet → StoreState
  opened set = record state { open_set = Some set }

  abbrev pub with_more : List ℕ → OpenSet → OpenSet
  with_more value set = record set { bytes = set.bytes ++ value }

  abbrev ended : Maps → StoreState
  ended maps = record state { primary = maps.primary; rollback = maps.rollback; open_set = None }

  abbrev placed : ℕ → Position → StoreState
  placed n position = record state { iterators = map.insert state.iterators (who, n) position }

  abbrev pub position_of : ℕ → Position
  position_of n = unwrap_or (map.get state.iterators (who, n)) (record { prefix = []; last = None })

  abbrev pub advanced : ℕ → Option (List ℕ) → Outcome
  advanced n None = answers reply.End
  advanced n (Some key) = record { state = placed n (record (position_of n) { last = Some key }); reply = reply.Found key }

  -- `finished` has the maps once a set is finished, and `own` what the calls of the store's own rows do
  abbrev pub shared_effect : ℕ → (OpenSet → Maps) → (Operation → Outcome) → Operation → Outcome
  shared_effect hash_bits finished own (RemoveStart key) = becomes (opened (begun_remove who key))
  shared_effect hash_bits finished own (Add value) = becomes (option_map_or (λ (s : OpenSet). opened (with_more value s)) state.open_set state)
  shared_effect hash_bits finished own Finish = becomes (option_map_or (λ (s : OpenSet). ended (finished s)) state.open_set state)
  shared_effect hash_bits finished own Abort = becomes (record state { open_set = None })
  shared_effect hash_bits finished own (OpenIterator n prefix) = becomes (placed n (record { prefix = prefix; last = None }))
  shared_effect hash_bits finished own (Next n) = advanced n (next_key hash_bits state.primary (position_of n))
  shared_effect hash_bits finished own (CloseIterator n) = becomes (record state { iterators = map.remove state.iterators (who, n) })
  shared_effect hash_bits finished own Reset = becomes (with_maps (record { primary = map.empty; rollback = map.empty }))
  shared_effect hash_bits finished own operation = own operation
