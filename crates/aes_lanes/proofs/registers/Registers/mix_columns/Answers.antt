use Rattle.std.proofs.Common.{ℕ, ◌<◌, arith}
use Rattle.aes_lanes.proofs.Bytes.{HasBlock-mixed, below}
use Rattle.aes_lanes.proofs.registers.Registers.mix_columns.Goals as goal

pub returns : goal.returns
returns c place block h =
    let next = λ (lane : ℕ) (l : lane < 16). c.next_rows-next.ensures lane place _ l (h.bytes (below 1 lane) (omega (arith, l))) in
    let sum = λ (lane : ℕ) (l : lane < 16). c.xored-sums.ensures lane place _ _ l (h.bytes lane l) (next lane l) in
    HasBlock-mixed _ place block (λ n l. (h.bytes n l).small) (λ lane l.
    c.xored-2.ensures lane place _ _ l
    (c.xored.ensures lane place _ _ l (c.doubled.ensures lane place _ l (sum lane l)) (next lane l))
    (c.rows_after.ensures lane place _ l (sum (below 2 lane) (omega (arith, l)))))
