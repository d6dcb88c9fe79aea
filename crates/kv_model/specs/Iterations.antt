-- Iterators in the history of a store: what each entry is to one iterator, and which keys it gives.
use Rattle.std.specs.Prelude.{◌≡◌, ℕ, ◌≤◌, Bool, true, false, ◌&&◌, ◌==◌, if◌then◌else◌, List, ◌∷◌, ◌++◌, map, length, take, drop, Option, None, Some, All, count_by, bytes_eq}
use Rattle.std.specs.List.{filter_map}
use Rattle.std.specs.Option.{option_map_or}
use Rattle.std.specs.FinMap.{contains_key}
use Rattle.kv_model.specs.declared.call.Reply.{Reply}
use Rattle.kv_model.specs.declared.call.Reply.TheVariants.{Done, Found, End}
use Rattle.kv_model.specs.declared.call.Entry.{Entry}
use Rattle.kv_model.specs.StoreState.{StoreState, OpenSet, Maps}
use Rattle.kv_model.specs.Operations.{Operation, OpenIterator, Next, CloseIterator, operation_of}
use Rattle.kv_model.specs.NextKey.{HasPrefix}
use Rattle.kv_model.specs.Rules.{Rules, Outcome}
use Rattle.kv_model.specs.Rows.{shared_effect}
use Rattle.kv_model.specs.History.{PassesThrough}

-- what one call is to an iterator
pub data Turn : Type 0 where
  -- it is opened, over this prefix
  Opens : List ℕ → Turn
  -- it gives this key
  Gives : List ℕ → Turn
  -- it answers that there is no further key
  Ends : Turn
  -- it is closed, by its caller or by a mount
  Closes : Turn
  -- the call is no call of this iterator, or it is refused
  Passes : Turn

abbrev pub stays_open : Turn → Bool
stays_open (Opens prefix) = false
stays_open Closes = false
stays_open turn = true

abbrev pub key_given : Turn → Option (List ℕ)
key_given (Gives key) = Some key
key_given turn = None

-- the keys that it gives, in order
abbrev pub keys_given : List Turn → List (List ℕ)
keys_given turns = filter_map key_given turns

-- how often it gives a key
abbrev pub times_given : List ℕ → List Turn → ℕ
times_given key turns = count_by (bytes_eq key) (keys_given turns)

abbrev pub is_of_iterators : Operation → Bool
is_of_iterators (OpenIterator n prefix) = true
is_of_iterators (Next n) = true
is_of_iterators (CloseIterator n) = true
is_of_iterators operation = false

-- a store that takes the shared rows of iterators, and whose own calls leave iterators as they are
pub record SharesIterators (hash_bits : ℕ) (rules : Rules) : Type 0 where
  pub shared : (state : StoreState) (who : ℕ) (operation : Operation) (finished : OpenSet → Maps) (own : Operation → Outcome)
      → is_of_iterators operation ≡ true → rules.effect state who operation ≡ shared_effect state who hash_bits finished own operation
  pub others : (state : StoreState) (who : ℕ) (operation : Operation) → is_of_iterators operation ≡ false
      → (rules.effect state who operation).state.iterators ≡ state.iterators

module _ (who n : ℕ) where
  -- what a call that was answered is to the caller's iterator n
  abbrev pub turn_by : ℕ → Operation → Reply → Turn
  turn_by owner (OpenIterator m prefix) Done = if who == owner && n == m then Opens prefix else Passes
  turn_by owner (Next m) (Found key) = if who == owner && n == m then Gives key else Passes
  turn_by owner (Next m) End = if who == owner && n == m then Ends else Passes
  turn_by owner (CloseIterator m) Done = if who == owner && n == m then Closes else Passes
  turn_by owner operation reply = Passes

  -- a mount closes every iterator
  abbrev pub turn_of : Entry → Turn
  turn_of entry = option_map_or (λ (operation : Operation). turn_by entry.who operation entry.reply) (operation_of entry.call) Closes

  abbrev pub turns_of : List Entry → List Turn
  turns_of entries = map turn_of entries

  -- an entry opens the iterator over a prefix, and in those that follow it is neither opened anew nor closed
  pub record IsIteration (prefix : List ℕ) (opening : Entry) (during : List Entry) : Type 0 where
    pub opens : turn_of opening ≡ Opens prefix
    pub stays : All (λ (entry : Entry). stays_open (turn_of entry) ≡ true) during

-- Wherever a history has an iteration, no key is given twice.
abbrev pub GivesNoKeyTwice : Rules → Type 0
GivesNoKeyTwice rules = (old : StoreState) (earlier : List Entry) (opening : Entry) (during later : List Entry) (states : List StoreState)
    (who n : ℕ) (prefix key : List ℕ)
    → PassesThrough rules old (earlier ++ (opening ∷ during ++ later)) states → IsIteration who n prefix opening during
    → times_given key (turns_of who n during) ≤ 1

-- Where it comes to an end, each key with the prefix that was present in each state from the opening to the end is
-- given once.
abbrev pub GivesEachKeyOnce : Rules → Type 0
GivesEachKeyOnce rules = (old : StoreState) (earlier : List Entry) (opening : Entry) (during : List Entry) (ending : Entry) (later : List Entry)
    (states : List StoreState) (who n : ℕ) (prefix key : List ℕ)
    → PassesThrough rules old (earlier ++ (opening ∷ during ++ ending ∷ later)) states → IsIteration who n prefix opening during
    → turn_of who n ending ≡ Ends → HasPrefix prefix key
    → All (λ (state : StoreState). contains_key state.primary key ≡ true) (take (length (opening ∷ during)) (drop (length earlier) states))
    → times_given key (turns_of who n during) ≡ 1
