-- The CRC of a list in pieces.
use Rattle.std.proofs.Common.{◌≡◌, ℕ, List, [], ◌∷◌, ◌++◌, refl}
use Rattle.kv_model.specs.Crc.{crc_from, crc_step}

pub crc_from-append : (start : ℕ) (xs ys : List ℕ) → crc_from start (xs ++ ys) ≡ crc_from (crc_from start xs) ys
unfolding crc_from
crc_from-append start [] ys = refl
crc_from-append start (x ∷ xs) ys = crc_from-append (crc_step start x) xs ys
