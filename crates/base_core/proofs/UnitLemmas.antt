-- Whole units: multiples of a unit, and padding to them.
use Rattle.std.proofs.Common.{◌≡◌, ℕ, ◌+◌, ◌-◌, ◌*◌, ◌/◌, ◌<◌, ◌≤◌, sym, ◌∙◌, ap, arith, inl, inr}
use Rattle.std.proofs.Math.Nat.{mul-mod_left, mul_assoc, mul_comm, mul-sub}
use Rattle.std.proofs.lemmas.Bool.{cases_lt}
use Rattle.std.proofs.lemmas.Nat.{div-add-mod', mod_below, mul-le, row_fits}
use Rattle.base_core.specs.Units.{IsMultipleOf, up}

-- a whole number of units is that many times the unit
pub IsMultipleOf-is : (unit n : ℕ) → IsMultipleOf unit n → n / unit * unit ≡ n
IsMultipleOf-is unit n whole = omega (arith, div-add-mod' n unit, whole)

pub IsMultipleOf-mul : (unit n : ℕ) → IsMultipleOf unit (n * unit)
IsMultipleOf-mul unit n = mul-mod_left n unit

pub IsMultipleOf-from : (unit n m : ℕ) → n ≡ m * unit → IsMultipleOf unit n
IsMultipleOf-from unit n m is = rw is (IsMultipleOf-mul unit m)

pub IsMultipleOf-add : (unit a b : ℕ) → IsMultipleOf unit a → IsMultipleOf unit b → IsMultipleOf unit (a + b)
IsMultipleOf-add unit a b whole_a whole_b =
    IsMultipleOf-from unit (a + b) (a / unit + b / unit) (omega (arith, IsMultipleOf-is unit a whole_a, IsMultipleOf-is unit b whole_b))

pub IsMultipleOf-sub : (unit a b : ℕ) → IsMultipleOf unit a → IsMultipleOf unit b → IsMultipleOf unit (a - b)
IsMultipleOf-sub unit a b whole_a whole_b =
    IsMultipleOf-from unit (a - b) (a / unit - b / unit)
    (omega (arith, IsMultipleOf-is unit a whole_a, IsMultipleOf-is unit b whole_b, mul_comm (a / unit - b / unit) unit, mul-sub unit (a / unit) (b / unit), mul_comm (a / unit) unit, mul_comm (b / unit) unit))

-- of the units up to a smaller product there are fewer
fewer_units : (unit q r : ℕ) → q * unit < r * unit → q < r
fewer_units unit q r below = elim (cases_lt q r) [
  | inl less ↦ less
  | inr not_less ↦ absurd (omega (arith, mul-le r unit q unit not_less (omega arith)))
]

-- between two multiples there is a whole unit
pub unit_fits : (unit a b : ℕ) → IsMultipleOf unit a → IsMultipleOf unit b → a < b → a + unit ≤ b
unit_fits unit a b whole_a whole_b below =
    let is_a = IsMultipleOf-is unit a whole_a in
    let is_b = IsMultipleOf-is unit b whole_b in
    let fewer : a / unit < b / unit = fewer_units unit (a / unit) (b / unit) (omega (arith, is_a, is_b)) in
    omega (arith, row_fits (a / unit) unit (b / unit) unit fewer (omega arith), is_a, is_b)

-- a multiple of a multiple
pub IsMultipleOf-trans : (unit mid n : ℕ) → IsMultipleOf unit mid → IsMultipleOf mid n → IsMultipleOf unit n
IsMultipleOf-trans unit mid n whole_mid whole_n =
    IsMultipleOf-from unit n (n / mid * (mid / unit))
    (sym (IsMultipleOf-is mid n whole_n) ∙ ap (λ (k : ℕ). n / mid * k) (sym (IsMultipleOf-is unit mid whole_mid)) ∙ sym (mul_assoc (n / mid) (mid / unit) unit))

-- ---- padding

pub up-multiple : (unit x : ℕ) → IsMultipleOf unit (up unit x)
unfolding up
up-multiple unit x = IsMultipleOf-mul unit ((x + (unit - 1)) / unit)

pub up-ge : (unit x : ℕ) → 1 ≤ unit → x ≤ up unit x
unfolding up
up-ge unit x positive = omega (arith, div-add-mod' (x + (unit - 1)) unit, mod_below (x + (unit - 1)) unit positive)

pub up-least : (unit x m : ℕ) → 1 ≤ unit → x ≤ m * unit → up unit x ≤ m * unit
unfolding up
up-least unit x m positive le = elim (cases_lt m ((x + (unit - 1)) / unit)) [
  | inl more ↦ absurd (omega (arith, row_fits m unit ((x + (unit - 1)) / unit) unit more (omega arith), div-add-mod' (x + (unit - 1)) unit))
  | inr not_more ↦ mul-le ((x + (unit - 1)) / unit) unit m unit not_more (omega arith)
]

pub up-below : (unit x : ℕ) → 1 ≤ unit → up unit x < x + unit
unfolding up
up-below unit x positive = omega (arith, div-add-mod' (x + (unit - 1)) unit)

-- no multiple that is not less than x is less than `up`
pub up-is_least : (unit x n : ℕ) → 1 ≤ unit → IsMultipleOf unit n → x ≤ n → up unit x ≤ n
up-is_least unit x n positive whole le =
    let is : n / unit * unit ≡ n = IsMultipleOf-is unit n whole in
    omega (arith, is, up-least unit x (n / unit) positive (omega (arith, is, le)))

-- whole units need no padding
pub up-same : (unit x : ℕ) → 1 ≤ unit → IsMultipleOf unit x → up unit x ≡ x
up-same unit x positive whole = omega (arith, up-ge unit x positive, up-is_least unit x x positive whole (omega arith))

pub up-monotone : (unit x y : ℕ) → 1 ≤ unit → x ≤ y → up unit x ≤ up unit y
up-monotone unit x y positive le = up-is_least unit x (up unit y) positive (up-multiple unit y) (omega (arith, up-ge unit y positive, le))
