-- Images: the bytes of a whole device.
use Rattle.std.specs.Prelude.{◌≡◌, ℕ, ◌+◌, ◌<◌, ◌≤◌, List, ◌++◌, length, take, drop, slice_index}

-- the n bytes from this place on
abbrev pub part : List ℕ → ℕ → ℕ → List ℕ
part image place n = take n (drop place image)

-- the image with these bytes at this place
abbrev pub put : List ℕ → ℕ → List ℕ → List ℕ
put image place bytes = take place image ++ bytes ++ drop (place + length bytes) image

-- each of the n bytes from this place on is 0xFF
abbrev pub IsErased : List ℕ → ℕ → ℕ → Type 0
IsErased image place n = (i : ℕ) → place ≤ i → i < place + n → slice_index image i ≡ 255

-- what a program or erase of the n bytes from this place on may leave where it is cut off: any bytes in its
-- range, and every other byte as it was
pub record Torn (place n : ℕ) (old new : List ℕ) : Type 0 where
  pub same_length : length new ≡ length old
  pub below : (i : ℕ) → i < place → slice_index new i ≡ slice_index old i
  pub behind : (i : ℕ) → place + n ≤ i → slice_index new i ≡ slice_index old i
