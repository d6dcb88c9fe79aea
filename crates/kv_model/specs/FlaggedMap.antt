-- The map that a store stands for: from keys to flags and values.
use Rattle.std.specs.Prelude.{ℕ, List}
use Rattle.std.specs.Ordering.{nat_cmp}
use Rattle.std.specs.Cmp.Lexicographic.{slice_cmp}
use Rattle.std.specs.FinMap.{FinMap}

pub record Stored : Type 0 where
  pub flags : ℕ
  pub bytes : List ℕ

abbrev pub FlaggedMap : Type 0
FlaggedMap = FinMap (slice_cmp nat_cmp) Stored
