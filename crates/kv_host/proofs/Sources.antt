-- A source that is read through a limit.
use Rattle.std.specs.Prelude.{◌≡◌, ℕ, ◌+◌, ◌≤◌, min, List, [], ◌++◌, length, take, Option, Some, None, IfSome}
use Rattle.std.specs.Option.{option_map}
use Rattle.std.proofs.Common.{ap, subst, ◌∙◌, arith, length-take, take_all}

below : (all limit : ℕ) → min (limit + 1) all ≤ limit → all ≤ limit + 1
below all limit fits = omega arith

-- a front part of limit + 1 bytes that is no longer than the limit is the whole
whole_within : (bytes : List ℕ) (limit : ℕ) → length (take (limit + 1) bytes) ≤ limit → take (limit + 1) bytes ≡ bytes
whole_within bytes limit fits =
    take_all (limit + 1) bytes (below (length bytes) limit (subst (λ n. n ≤ limit) (length-take (limit + 1) bytes) fits))

-- what is read through the limit, and is no longer than it, is all that was left
pub all_that_was_left : (left : Option (List ℕ)) (old new : List ℕ) (limit : ℕ) → old ≡ [] → IfSome (option_map (take (limit + 1)) left) (λ read. new ≡ old ++ read) → length new ≤ limit → IfSome left (λ bytes. new ≡ bytes)
all_that_was_left None old new limit empty read fits = read
all_that_was_left (Some bytes) old new limit empty read fits =
    let same : new ≡ take (limit + 1) bytes = read ∙ ap (λ front. front ++ take (limit + 1) bytes) empty in
    same ∙ whole_within bytes limit (subst (λ list. length list ≤ limit) same fits)
