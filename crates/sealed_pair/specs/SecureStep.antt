-- The secure store: one call of it, as a step on its two maps.
use Rattle.std.specs.Prelude.{ℕ, Bool, true, false, not, ◌||◌, ◌&&◌, ◌+◌, ◌-◌, ◌^◌, ◌==◌, nat_lt, if◌then◌else◌, List, [], ◌∷◌, length, take, drop, Option, Some, is_none, is_some}
use Rattle.std.specs.FinMap.{get}
use Rattle.base_core.specs.Sizes.{record_size}
use Rattle.kv_model.specs.declared.error.KvError.TheVariants as error
use Rattle.kv_model.specs.declared.call.Reply.TheVariants as reply
use Rattle.kv_model.specs.Constants.{Constants}
use Rattle.kv_model.specs.FlaggedMap.{Stored}
use Rattle.kv_model.specs.Flags.{is_secure_flags, is_write_once, is_mirrored}
use Rattle.kv_model.specs.Sizes.{used}
use Rattle.kv_model.specs.StoreState.{Maps, StoreState, OpenSet, begun_set, maps_of, prior_in}
use Rattle.kv_model.specs.Operations.{Operation, Get, Part, Info, Set, Remove, RemoveStart, Start}
use Rattle.kv_model.specs.Checks.{Check, Refuses, Reads, Writes}
use Rattle.kv_model.specs.Rules.{Outcome, Rules, step, number_taken}
use Rattle.kv_model.specs.Rows.{shared_checks, shared_effect, bad_key, own_set, other_set, answers, becomes}
use Rattle.kv_model.specs.PlainStep.{flags_in}
use Rattle.secure_record.specs.Sealed.{seal}
use Rattle.sealed_pair.specs.declared.limits.TheConstants.{MAX_SECURE_VALUE, SEAL_SIZE}
use Rattle.sealed_pair.specs.Sealing.{secure_of, is_numbered, with_record, without_key}
use Rattle.sealed_pair.specs.View.{View, Absent, Held, AuthFailed, RollbackFailed, view_of}
use Rattle.sealed_pair.specs.Heal.{heal, needed_for_tag}

-- what is read for a key that is held, and for any other nothing
abbrev pub held_in : View → Stored
held_in (Held flags bytes) = record { flags = flags; bytes = bytes }
held_in view = record { flags = 0; bytes = [] }

abbrev is_absent : View → Bool
is_absent Absent = true
is_absent view = false

abbrev fails_authentication : View → Bool
fails_authentication AuthFailed = true
fails_authentication view = false

abbrev fails_rollback : View → Bool
fails_rollback RollbackFailed = true
fails_rollback view = false

-- sets and starts take a number, where they have any of the three flags
abbrev pub takes_number : Operation → Bool
takes_number (Set key value flags) = is_numbered flags
takes_number (Start key size flags) = is_numbered flags
takes_number operation = false

-- the last number, which is never taken
abbrev pub last_number : ℕ
last_number = 2 ^ 64 - 1

module _ (constants : Constants) (state : StoreState) where
  abbrev pub view : List ℕ → View
  view key = view_of (secure_of constants).root (maps_of state) key

  abbrev pub held : List ℕ → Stored
  held key = held_in (view key)

  -- ---- single refusals

  -- a store holds the key write-once
  abbrev pub is_protected : List ℕ → Bool
  is_protected key = is_write_once (flags_in state.primary key) || is_write_once (flags_in state.rollback key)

  abbrev pub protected : List ℕ → Check
  protected key = Refuses (is_protected key) error.WriteProtected

  abbrev pub in_neither : List ℕ → Bool
  in_neither key = is_none (get state.primary key) && is_none (get state.rollback key)

  -- a key that has a tag stays mirrored
  abbrev pub unmirrors : List ℕ → ℕ → Bool
  unmirrors key flags = is_some (get state.rollback key) && not (is_mirrored flags)

  abbrev pub is_spent : ℕ → Bool
  is_spent flags = is_numbered flags && state.next_vector == last_number

  -- what the primary store's records and one more would take
  abbrev pub needed : List ℕ → ℕ → ℕ
  needed key size = used constants.prog state.primary + record_size constants.prog (length key) (size + SEAL_SIZE)

  abbrev pub no_room : List ℕ → ℕ → Check
  no_room key size = Refuses (nat_lt constants.room (needed key size)) (error.MediaFull (needed key size) constants.room)

  abbrev pub needed_beside : List ℕ → ℕ
  needed_beside key = needed_for_tag (secure_of constants) (maps_of state) key

  abbrev pub no_room_beside : List ℕ → ℕ → Check
  no_room_beside key flags =
      Refuses (is_mirrored flags && nat_lt (secure_of constants).room (needed_beside key)) (error.MediaFull (needed_beside key) (secure_of constants).room)

  -- ---- what sets and removes make of the maps

  -- the record of a set that takes its number now, and of one whose start took it
  abbrev pub set_record : List ℕ → List ℕ → ℕ → List ℕ
  set_record key value flags =
      seal (secure_of constants).root key flags (if is_numbered flags then state.next_vector else 0) (prior_in state.rollback flags key) value

  abbrev pub finished_record : OpenSet → List ℕ
  finished_record set =
      seal (secure_of constants).root set.key set.flags (if is_numbered set.flags then state.next_vector - 1 else 0) set.prior set.bytes

  abbrev pub finished : OpenSet → Maps
  finished set =
      if set.is_remove then without_key (maps_of state) set.key
      else with_record (maps_of state) set.key set.flags (finished_record set)

  -- with these maps, and its number taken where the call takes one
  abbrev pub after : Maps → Option OpenSet → Operation → StoreState
  after maps set operation = record state {
    primary = maps.primary;
    rollback = maps.rollback;
    open_set = set;
    next_vector = number_taken (takes_number operation) state.next_vector;
  }

  module _ (who : ℕ) where
    -- ---- the refusals of the store's own calls

    abbrev pub read_checks : List ℕ → List Check
    read_checks key =
        bad_key state who key ∷ Reads ∷ Refuses (is_absent (view key)) error.NotFound ∷ Refuses (fails_authentication (view key)) error.AuthFailed
        ∷ Refuses (fails_rollback (view key)) error.RollbackFailed ∷ []

    abbrev pub part_checks : List ℕ → ℕ → List Check
    part_checks key offset =
        bad_key state who key ∷ Reads ∷ Refuses (is_absent (view key)) error.NotFound ∷ Refuses (fails_authentication (view key)) error.AuthFailed
        ∷ Refuses (fails_rollback (view key)) error.RollbackFailed ∷ Refuses (nat_lt (length (held key).bytes) offset) error.InvalidSize ∷ []

    -- the primary store is read and written before the rollback store's room is looked at
    abbrev pub set_checks : List ℕ → ℕ → ℕ → List Check
    set_checks key size flags =
        bad_key state who key ∷ Refuses (not (is_secure_flags flags)) error.InvalidFlags ∷ Refuses (nat_lt MAX_SECURE_VALUE size) error.InvalidSize
        ∷ own_set state who ∷ other_set state who ∷ Reads ∷ protected key ∷ Refuses (unmirrors key flags) error.InvalidFlags
        ∷ Refuses (is_spent flags) error.IvSpent ∷ no_room key size ∷ Reads ∷ Writes ∷ no_room_beside key flags ∷ Reads ∷ Writes ∷ []

    abbrev pub remove_checks : List ℕ → List Check
    remove_checks key =
        bad_key state who key ∷ own_set state who ∷ other_set state who ∷ Reads ∷ Refuses (in_neither key) error.NotFound ∷ protected key ∷ Reads ∷ Writes ∷ []

    abbrev own_checks : Operation → List Check
    own_checks (Get key) = read_checks key
    own_checks (Part key offset count) = part_checks key offset
    own_checks (Info key) = read_checks key
    own_checks (Set key value flags) = set_checks key (length value) flags
    own_checks (Start key size flags) = set_checks key size flags
    own_checks (Remove key) = remove_checks key
    own_checks (RemoveStart key) = remove_checks key
    own_checks operation = []

    abbrev pub secure_checks : Operation → List Check
    secure_checks = shared_checks state who own_checks

    -- ---- what the calls do

    abbrev own_effect : Operation → Outcome
    own_effect (Get key) = answers state who (reply.Value (held key).bytes)
    own_effect (Part key offset count) = answers state who (reply.Value (take count (drop offset (held key).bytes)))
    own_effect (Info key) = answers state who (reply.Facts (length (held key).bytes) (record { bits = (held key).flags }))
    own_effect (Set key value flags) =
        becomes state who (after (with_record (maps_of state) key flags (set_record key value flags)) state.open_set (Set key value flags))
    own_effect (Start key size flags) =
        becomes state who (after (maps_of state) (Some (begun_set who key flags size (prior_in state.rollback flags key))) (Start key size flags))
    own_effect (Remove key) = becomes state who (after (without_key (maps_of state) key) state.open_set (Remove key))
    own_effect operation = answers state who reply.Done

    abbrev pub secure_effect : Operation → Outcome
    secure_effect = shared_effect state who constants.hash_bits finished own_effect

abbrev pub secure_rules : Constants → Rules
secure_rules constants = record {
  checks = secure_checks constants;
  effect = secure_effect constants;
  takes_number = takes_number;
  heal = heal (secure_of constants);
}

abbrev pub secure_step : Constants → StoreState → ℕ → Operation → Outcome
secure_step constants = step (secure_rules constants)
