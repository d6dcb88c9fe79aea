-- How a label spells a pattern of a tear.
use Rattle.std.specs.Prelude.{ℕ, List, [], ◌∷◌}
use Rattle.kv_model.specs.declared.pattern.Pattern.{Pattern}
use Rattle.kv_model.specs.declared.pattern.Pattern.TheVariants as pattern

-- a pattern as a label spells it: no two alike, and none empty
abbrev pub spelling : Pattern → List ℕ
spelling pattern.None = 0 ∷ []
spelling pattern.Half = 1 ∷ []
spelling pattern.Zero = 2 ∷ []
spelling pattern.All = 3 ∷ []
spelling (pattern.Mix seed) = 4 ∷ (seed ∷ [])
