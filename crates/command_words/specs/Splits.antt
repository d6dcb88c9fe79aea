-- A word that a byte cuts in two.
use Rattle.std.specs.Prelude.{ℕ, ◌==◌, if◌then◌else◌, List, [], ◌∷◌, Option, Some, None}

-- what stands in front of the first such byte, or all where there is none
abbrev pub before : ℕ → List ℕ → List ℕ
before separator [] = []
before separator (byte ∷ word) = if byte == separator then [] else byte ∷ before separator word

-- what stands behind the first such byte, where there is one
abbrev pub behind : ℕ → List ℕ → Option (List ℕ)
behind separator [] = None
behind separator (byte ∷ word) = if byte == separator then Some word else behind separator word
