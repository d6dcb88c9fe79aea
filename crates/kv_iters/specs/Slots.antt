-- How iterators lie in the places of a slab.
use Rattle.std.specs.Prelude.{◌≡◌, ℕ, ◌<◌, ◌≤◌, List, [], ◌∷◌, Option, Some, None, slice_index_or}
use Rattle.std.specs.FinMap as map
use Rattle.slab.specs.Slab.{Slab, get, slab_len}
use Rattle.kv_model.specs.declared.limits.TheConstants.{MAX_ITERATORS}
use Rattle.kv_model.specs.StoreState.{Iterators, Position}
use Rattle.kv_iters.specs.declared.named.Named.{Named}

abbrev pub name_of : Named → ℕ × ℕ
name_of named = (named.owner, named.number)

-- the iterators at these places
abbrev pub iterators_in : List (Option Named) → Iterators
iterators_in [] = map.empty
iterators_in (None ∷ slots) = iterators_in slots
iterators_in (Some named ∷ slots) = map.insert (iterators_in slots) (name_of named) named.iter

abbrev pub iterators_of : Slab Named → Iterators
iterators_of slab = iterators_in slab.slots

-- two places with one name are one place
abbrev pub AreDistinct : List (Option Named) → Type 0
AreDistinct slots = (i j : ℕ) (a b : Named) → slice_index_or slots i None ≡ Some a → slice_index_or slots j None ≡ Some b
    → name_of a ≡ name_of b → i ≡ j

pub record IsTable (slab : Slab Named) : Type 0 where
  pub distinct : AreDistinct slab.slots
  pub few : slab_len slab ≤ MAX_ITERATORS

-- an iterator of this name is at this place
pub record IsAt (slab : Slab Named) (name : ℕ × ℕ) (place : ℕ) : Type 0 where
  pub named : Named
  pub there : get slab place ≡ Some named
  pub is_named : name_of named ≡ name

-- where an iterator of this name goes: in its own place, or in a new one while there are few
abbrev pub CanTake : Slab Named → ℕ × ℕ → Option ℕ → Type 0
CanTake slab name None = (map.get (iterators_of slab) name ≡ None) × (slab_len slab < MAX_ITERATORS)
CanTake slab name (Some place) = IsAt slab name place

-- the iterator of this name was taken out, which stood so
pub record TakesOut (old new : Slab Named) (name : ℕ × ℕ) (position : Position) : Type 0 where
  pub stood : map.get (iterators_of old) name ≡ Some position
  pub removed : iterators_of new ≡ map.remove (iterators_of old) name
  pub gone : map.get (iterators_of new) name ≡ None
