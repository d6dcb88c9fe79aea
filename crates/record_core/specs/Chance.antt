-- Whether a torn image holds a record by chance, that nobody wrote.
use Rattle.std.specs.Prelude.{◌≡◌, ◌⊎◌, ℕ, List, [], ◌∷◌}
use Rattle.flash_core.specs.declared.geometry.Geometry.{Geometry}
use Rattle.record_core.specs.Mounts.{Contents, Holds, StandsIn, reads_of}

-- what was read at a place stands there in the image before, or in the one after
abbrev pub StandsInOne : List ℕ → List ℕ → ℕ × List ℕ → Type 0
StandsInOne before after read = StandsIn before read ⊎ StandsIn after read

-- each of these does
abbrev pub AllStand : List ℕ → List ℕ → List (ℕ × List ℕ) → Type 0
AllStand before after [] = Unit {0}
AllStand before after (read ∷ reads) = StandsInOne before after read × AllStand before after reads

-- the first of these that stands in neither was read at this place
abbrev pub BreaksAt : List ℕ → List ℕ → List (ℕ × List ℕ) → ℕ → Type 0
BreaksAt before after [] place = ⊥
BreaksAt before after (read ∷ reads) place =
    ((StandsInOne before after read → ⊥) × (read.0 ≡ place)) ⊎ (StandsInOne before after read × BreaksAt before after reads place)

-- Of a program or erase that was cut off: each record that mounting reads from the image that is left stands, the same
-- and at the same place, in the image before or in the one after it when whole.
abbrev pub NoChance : Geometry → List ℕ → List ℕ → List ℕ → Type 0
NoChance g before after torn = (contents : Contents) → Holds g torn contents → AllStand before after (reads_of g contents)

-- The first record that breaks this stands at this place.
pub record FirstBreak (g : Geometry) (before after torn : List ℕ) (place : ℕ) : Type 0 where
  pub contents : Contents
  pub holds : Holds g torn contents
  pub breaks : BreaksAt before after (reads_of g contents) place
