-- The set that is active, as contracts see it.
use Rattle.std.specs.Prelude.{◌≡◌, ℕ, Bool, true, false, ◌==◌, nat_le, if◌then◌else◌, List, [], Option, Some, None}
use Rattle.kv_model.specs.declared.error.KvError.{KvError}
use Rattle.kv_model.specs.declared.error.KvError.TheVariants.{Busy, SetOpen}
use Rattle.kv_model.specs.StoreState.{OpenSet, begun_remove, begun_set}
use Rattle.sealed_pair.specs.declared.active.Active.{Active}
use Rattle.sealed_pair.specs.declared.active.Begun.{Begun}
use Rattle.sealed_pair.specs.declared.active.Begun.TheVariants.{Remove, Set}
use Rattle.sealed_pair.specs.Pieces.{IsSealing, fed_set}
use Rattle.sealed_pair.specs.Setting.{tag_set}
use Rattle.sealed_pair.specs.Shares.{Share, NoShare, HasSet, LacksKey, share_of}
use Rattle.sealed_pair.specs.Store.{Own}

-- what was begun as a set of the state
abbrev pub opened_by : ℕ → Begun → OpenSet
opened_by owner (Remove key) = begun_remove owner key
opened_by owner (Set set) = record (begun_set owner set.key set.flags.bits set.size set.prior) { bytes = set.value.bytes }

-- what a store has of a remove: it was begun there, or the store lacks the key
abbrev pub share_of_remove : ℕ → List ℕ → Bool → Share
share_of_remove owner key true = HasSet (begun_remove owner key)
share_of_remove owner key false = LacksKey key

-- what the primary store has of what was begun, where a remove was begun there and where not
abbrev pub share_in_primary : List ℕ → ℕ → ℕ → Begun → Bool → Share
share_in_primary root next owner (Remove key) is_begun = share_of_remove owner key is_begun
share_in_primary root next owner (Set set) is_begun = HasSet (fed_set root next owner set)

-- the same of the rollback store, where the set of a tag is fed by its finish alone
abbrev pub share_in_rollback : ℕ → Begun → Bool → Share
share_in_rollback owner (Remove key) is_begun = share_of_remove owner key is_begun
share_in_rollback owner (Set set) is_begun = share_of (tag_set owner set.key set.flags.bits [])

abbrev pub set_in : Option Active → Option OpenSet
set_in None = None
set_in (Some active) = Some (opened_by active.owner active.begun)

abbrev pub share_above : List ℕ → ℕ → Option Active → Share
share_above root next None = NoShare
share_above root next (Some active) = share_in_primary root next active.owner active.begun active.above

abbrev pub share_below : Option Active → Share
share_below None = NoShare
share_below (Some active) = share_in_rollback active.owner active.begun active.below

-- what was begun is sealed so far, if it is a set
abbrev pub IsBegun : List ℕ → ℕ → Begun → Type 0
IsBegun root next (Remove key) = Unit {0}
IsBegun root next (Set set) = IsSealing root next set

abbrev pub IsActive : List ℕ → ℕ → Option Active → Type 0
IsActive root next None = Unit {0}
IsActive root next (Some active) = IsBegun root next active.begun

-- the count of a set's missing bytes is that of its stream
abbrev pub IsCounted : Begun → Type 0
IsCounted (Remove key) = Unit {0}
IsCounted (Set set) = set.stream.body.left ≡ set.left

-- whether so many bytes more may be added; a remove takes none
abbrev pub may_take : Begun → ℕ → Bool
may_take (Remove key) count = count == 0
may_take (Set set) count = nat_le count set.left

-- what a secure store has of the state itself
abbrev pub own_of : ℕ → Option Active → Own
own_of number active = record { number = number; set = set_in active }

-- what a caller is answered who wants to change a map while a set is active
abbrev pub taken : Option Active → ℕ → Option KvError
taken None who = None
taken (Some active) who = Some (if active.owner == who then SetOpen else Busy active.owner)

-- whether the caller's own set is active
abbrev pub owns : Option Active → ℕ → Bool
owns None who = false
owns (Some active) who = active.owner == who

-- what the caller has begun was taken, or it has begun nothing
abbrev pub TakesOwn : Option Active → Option Active → ℕ → Option Active → Type 0
TakesOwn old new who (Some taken) = (old ≡ Some taken) × ((new ≡ None) × (taken.owner ≡ who))
TakesOwn old new who None = (new ≡ old) × (owns old who ≡ false)
