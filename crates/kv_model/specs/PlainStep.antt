-- The plain store: one call of it, as a step on its map.
use Rattle.std.specs.Prelude.{◌≡◌, ℕ, false, not, ◌+◌, nat_lt, List, [], ◌∷◌, length, take, drop, Option, Some, None, is_none, if◌then◌else◌, refl}
use Rattle.std.specs.Option.{option_map_or}
use Rattle.std.specs.FinMap as map
use Rattle.kv_model.specs.declared.limits.TheConstants.{MAX_VALUE}
use Rattle.kv_model.specs.declared.error.KvError.TheVariants as error
use Rattle.kv_model.specs.declared.call.Reply.TheVariants as reply
use Rattle.kv_model.specs.Flags.{is_plain_flags, is_write_once}
use Rattle.kv_model.specs.FlaggedMap.{Stored, FlaggedMap}
use Rattle.base_core.specs.Sizes.{record_size}
use Rattle.kv_model.specs.Sizes.{used}
use Rattle.kv_model.specs.Constants.{Constants}
use Rattle.kv_model.specs.StoreState.{Maps, StoreState, OpenSet, begun_set}
use Rattle.kv_model.specs.Operations.{Operation, Get, Part, Info, Set, Remove, RemoveStart, Start, Add, Finish, Abort, OpenIterator, Next, CloseIterator, Reset}
use Rattle.kv_model.specs.Checks.{Check, Refuses, Reads, Writes}
use Rattle.kv_model.specs.Rules.{Outcome, Rules, step}
use Rattle.kv_model.specs.Rows.{shared_checks, shared_effect, bad_key, own_set, other_set, answers, becomes, opened, advanced, position_of}
use Rattle.kv_model.specs.NextKey.{next_key}

-- the value and the flags of a key that a map has, and of one that it lacks none
abbrev pub bytes_in : FlaggedMap → List ℕ → List ℕ
bytes_in m key = option_map_or (λ (s : Stored). s.bytes) (map.get m key) []

abbrev pub flags_in : FlaggedMap → List ℕ → ℕ
flags_in m key = option_map_or (λ (s : Stored). s.flags) (map.get m key) 0

-- the map once a set is finished, or a remove
abbrev pub finished_map : FlaggedMap → OpenSet → FlaggedMap
finished_map m set = if set.is_remove then map.remove m set.key else map.insert m set.key (record { flags = set.flags; bytes = set.bytes })

module _ (constants : Constants) (state : StoreState) (who : ℕ) where
  -- what the map's records and one more would take: the old record of the key counts too
  abbrev pub needed : List ℕ → ℕ → ℕ
  needed key size = used constants.prog state.primary + record_size constants.prog (length key) size

  abbrev pub no_room : List ℕ → ℕ → Check
  no_room key size = Refuses (nat_lt constants.room (needed key size)) (error.MediaFull (needed key size) constants.room)

  abbrev pub absent : List ℕ → Check
  absent key = Refuses (is_none (map.get state.primary key)) error.NotFound

  abbrev pub protected : List ℕ → Check
  protected key = Refuses (is_write_once (flags_in state.primary key)) error.WriteProtected

  -- behind these a set and a start differ from one store to the next by their room alone
  abbrev pub set_checks : Check → List ℕ → ℕ → ℕ → List Check
  set_checks full key size flags =
      bad_key state who key ∷ Refuses (not (is_plain_flags flags)) error.InvalidFlags ∷ Refuses (nat_lt MAX_VALUE size) error.InvalidSize
      ∷ own_set state who ∷ other_set state who ∷ Reads ∷ protected key ∷ full ∷ Writes ∷ []

  abbrev pub remove_checks : List ℕ → List Check
  remove_checks key = bad_key state who key ∷ own_set state who ∷ other_set state who ∷ Reads ∷ absent key ∷ protected key ∷ Writes ∷ []

  abbrev own_checks : Operation → List Check
  own_checks (Get key) = bad_key state who key ∷ Reads ∷ absent key ∷ []
  own_checks (Part key offset count) =
      bad_key state who key ∷ Reads ∷ absent key ∷ Refuses (nat_lt (length (bytes_in state.primary key)) offset) error.InvalidSize ∷ []
  own_checks (Info key) = bad_key state who key ∷ Reads ∷ absent key ∷ []
  own_checks (Set key value flags) = set_checks (no_room key (length value)) key (length value) flags
  own_checks (Start key size flags) = set_checks (no_room key size) key size flags
  own_checks (Remove key) = remove_checks key
  own_checks (RemoveStart key) = remove_checks key
  own_checks operation = []

  abbrev pub plain_checks : Operation → List Check
  plain_checks = shared_checks state who own_checks

  abbrev pub finished : OpenSet → Maps
  finished set = record { primary = finished_map state.primary set; rollback = state.rollback }

  abbrev with_map : FlaggedMap → StoreState
  with_map m = record state { primary = m }

  abbrev own_effect : Operation → Outcome
  own_effect (Get key) = answers state who (reply.Value (bytes_in state.primary key))
  own_effect (Part key offset count) = answers state who (reply.Value (take count (drop offset (bytes_in state.primary key))))
  own_effect (Info key) = answers state who (reply.Facts (length (bytes_in state.primary key)) (record { bits = flags_in state.primary key }))
  own_effect (Set key value flags) = becomes state who (with_map (map.insert state.primary key (record { flags = flags; bytes = value })))
  own_effect (Start key size flags) = becomes state who (opened state who (begun_set who key flags size None))
  own_effect (Remove key) = becomes state who (with_map (map.remove state.primary key))
  own_effect operation = answers state who reply.Done

  abbrev pub plain_effect : Operation → Outcome
  plain_effect = shared_effect state who constants.hash_bits finished own_effect

-- a plain store takes no number and heals nothing
abbrev pub plain_rules : Constants → Rules
plain_rules constants = record {
  checks = plain_checks constants;
  effect = plain_effect constants;
  takes_number = λ operation. false;
  heal = λ maps. maps;
}

abbrev pub plain_step : Constants → StoreState → ℕ → Operation → Outcome
plain_step constants = step (plain_rules constants)
