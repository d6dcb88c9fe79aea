-- A count that rose has risen since earlier and until later.
use Rattle.std.proofs.Common.{ℕ, ◌+◌, ◌^◌, ◌≤◌, inl, inr, ⊎_elim, arith}
use Rattle.std.proofs.lemmas.Bool.{cases_lt}
use Rattle.base_core.specs.Counts.{Rose, counted}

pub Rose-since : {early before now : ℕ} → early ≤ before → Rose before now → Rose early now
Rose-since le rose = ⊎_elim (λ more. inl (omega (arith, le, more))) (λ end. inr end) rose

pub Rose-until : {before now late : ℕ} → Rose before now → now ≤ late → Rose before late
Rose-until rose le = ⊎_elim (λ more. inl (omega (arith, le, more))) (λ end. inr (omega (arith, le, end))) rose

pub Rose-counted : (n : ℕ) → Rose n (counted n)
Rose-counted n = elim (cases_lt (n + 1) (2 ^ 64)) [
  | inl more ↦ inl (omega arith)
  | inr end ↦ inr (omega arith)
]

pub counted-ge : (n : ℕ) → n ≤ counted n
counted-ge n = omega arith
