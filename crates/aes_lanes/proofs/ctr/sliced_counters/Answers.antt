use Rattle.std.proofs.Common.{◌≡◌, ℕ, ◌<◌, length, get_or, refl}
use Rattle.aes_lanes.specs.Ctr.{counter_block}
use Rattle.aes_lanes.proofs.Slicing.{HasBlock-sliced, register-each, be_bytes-small}
use Rattle.aes_lanes.proofs.ctr.sliced_counters.Goals as goal

counter_long : (start n : ℕ) → length (counter_block start n) ≡ 16
unfolding counter_block
counter_long start n = refl

counter_small : (start n k : ℕ) → k < 16 → get_or (counter_block start n) k 0 < 256
unfolding counter_block
counter_small start n k h = be_bytes-small _ k h

pub returns : goal.returns
returns c n h =
    HasBlock-sliced _ _ (record { turned = c.transposed.ensures }) n h (counter_block c.args.start n)
    (register-each _ (counter_block c.args.start) c.counter_lanes.ensures c.counter_lanes-2.ensures c.counter_lanes-3.ensures c.counter_lanes-4.ensures
    c.counter_lanes-5.ensures c.counter_lanes-6.ensures c.counter_lanes-7.ensures c.counter_lanes-8.ensures n h)
    (counter_long c.args.start n) (counter_small c.args.start n)
