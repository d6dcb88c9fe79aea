-- Lines of refusals, piece by piece, and how long they are.
use Rattle.std.proofs.Common.{◌≡◌, ℕ, ◌+◌, ◌≤◌, List, ◌++◌, length, length-append, ap, ◌∙◌, append_assoc, arith}
use Rattle.std.specs.Prelude.{Result, Ok, Err, OnOk}

-- what was put behind a piece is put behind what that piece was put behind, with the piece
pub joined : (old piece mid more new : List ℕ) → mid ≡ old ++ piece → new ≡ mid ++ more → new ≡ old ++ (piece ++ more)
joined old piece mid more new first then = then ∙ ap (λ (m : List ℕ). m ++ more) first ∙ append_assoc old piece more

pub behind : {T E : Type 0} (r : Result T E) (old piece mid more new : List ℕ) → mid ≡ old ++ piece → OnOk r (new ≡ mid ++ more) → OnOk r (new ≡ old ++ (piece ++ more))
behind (Ok x) old piece mid more new first then = joined old piece mid more new first then
behind (Err e) old piece mid more new first then = tt

-- a text of at most so many bytes makes what it is put behind at most so much longer
pub longer : {T E : Type 0} (r : Result T E) (old text new : List ℕ) (most : ℕ) → length text ≤ most → OnOk r (new ≡ old ++ text) → OnOk r (length new ≤ length old + most)
longer (Ok x) old text new most short is = omega (arith, ap length is, length-append old text, short)
longer (Err e) old text new most short is = tt
