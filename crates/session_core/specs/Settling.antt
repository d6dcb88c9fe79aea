-- What it is to settle a session.
use Rattle.std.specs.Prelude.{◌≡◌, ◌⊎◌, ℕ, true, false, Option, Some, None}
use Rattle.script_core.specs.declared.line.Side.{Side}
use Rattle.script_core.specs.declared.line.Side.TheVariants.{Primary}
use Rattle.session_core.specs.declared.ended.Ended.{Ended}
use Rattle.session_core.specs.declared.ended.Ended.TheVariants as ended
use Rattle.session_core.specs.declared.session.Session.{Session}
use Rattle.session_core.specs.Mounting.{HasKept, HasMounted, LeadsOn}
use Rattle.session_core.specs.Search.{IsChanceOf}
use Rattle.session_core.specs.Views.{is_mounted, primary_in, state_in}

-- The first record of a session's chips that is there by chance, or none.
abbrev pub IsSessionChance : Session → Option (Side × ℕ) → Type 0
IsSessionChance session None = IsChanceOf (primary_in session) None
IsSessionChance session (Some (side, place)) = (side ≡ Primary) × IsChanceOf (primary_in session) (Some place)

-- It was mounted, since no record is there by chance.
pub record IsSettled (old new : Session) : Type 0 where
  pub unlikely : IsSessionChance old None
  pub is_mounted : is_mounted new ≡ true
  pub mounted : HasMounted (primary_in old) (primary_in new) old.hash_bits (state_in new)
  pub leads : LeadsOn (state_in old) (state_in new)

-- There was no memory to mount it: it keeps its chips.
pub record IsUnmounted (old new : Session) : Type 0 where
  pub unlikely : IsSessionChance old None
  pub not_mounted : is_mounted new ≡ false
  pub constants : (state_in new).known.constants ≡ (state_in old).known.constants
  pub kept : HasKept (primary_in old) (primary_in new)

-- How it ended. Where a record is there by chance nothing is mounted, and where there was no memory to look for one
-- neither.
abbrev pub Settles : Session → Session → Ended → Type 0
Settles old new ended.Whole = IsSettled old new
Settles old new (ended.Chance side place) = IsSessionChance old (Some (side, place)) × (new ≡ old)
Settles old new ended.Memory = (new ≡ old) ⊎ IsUnmounted old new
