-- What the calls on iterators answer and do. An iterator is named by its owner and its number.
use Rattle.std.specs.Prelude.{ℕ, Bool, not, ◌&&◌, nat_le, List, [], Option, Some, None, if◌then◌else◌, unwrap_or}
use Rattle.std.specs.FinMap as map
use Rattle.kv_model.specs.declared.limits.TheConstants.{MAX_ITERATORS}
use Rattle.kv_model.specs.declared.error.KvError.{KvError}
use Rattle.kv_model.specs.declared.error.KvError.TheVariants.{InvalidKey, NoIterator, TooManyIterators}
use Rattle.kv_model.specs.Keys.{is_prefix}
use Rattle.kv_model.specs.StoreState.{Iterators, Position}

-- an iterator over these keys that has given none yet
abbrev pub at_the_start : List ℕ → Position
at_the_start prefix = record { prefix = prefix; last = None }

module _ (iterators : Iterators) (who n : ℕ) where
  abbrev pub is_active : Bool
  is_active = map.contains_key iterators (who, n)

  -- as many iterators are active as may be, and this is none of them
  abbrev pub has_no_place : Bool
  has_no_place = nat_le MAX_ITERATORS (map.len iterators) && not is_active

  -- what refuses a start, but for want of memory
  abbrev pub start_refusal : List ℕ → Option KvError
  start_refusal prefix =
      if not (is_prefix prefix) then Some InvalidKey
      else if has_no_place then Some TooManyIterators
      else None

  -- what refuses every other call
  abbrev pub use_refusal : Option KvError
  use_refusal = if not is_active then Some NoIterator else None

  abbrev pub started : List ℕ → Iterators
  started prefix = map.insert iterators (who, n) (at_the_start prefix)

  -- where the iterator stands
  abbrev pub position_of : Position
  position_of = unwrap_or (map.get iterators (who, n)) (at_the_start [])

  -- the iterator gave this key
  abbrev pub advanced : List ℕ → Iterators
  advanced key = map.insert iterators (who, n) (record position_of { last = Some key })

  abbrev pub ended : Iterators
  ended = map.remove iterators (who, n)
