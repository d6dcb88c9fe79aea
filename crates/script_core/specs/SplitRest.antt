-- The parts of what stands behind a separator, where one was found.
use Rattle.std.specs.Prelude.{ℕ, ◌==◌, List, [], Option, Some, None}
use Rattle.std.specs.List.{slice_split}
use denote.Ref.{Bor}

abbrev pub split_rest : ℕ → Option (Bor (List ℕ)) → List (List ℕ)
split_rest separator None = []
split_rest separator (Some rest) = slice_split (λ b. b == separator) rest.now
