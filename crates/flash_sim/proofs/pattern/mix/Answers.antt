use Rattle.std.proofs.Common.{◌≡◌, ℕ, suc, ◌/◌, ◌^◌, ◌∙◌, length, refl, ap, arith, add-one, sym}
use Rattle.flash_sim.specs.Patterns.{next_number, number_at}
use Rattle.flash_sim.proofs.MixLaws.{mixed_is, mixed_more, number_next}
use Rattle.flash_sim.proofs.pattern.mix.Goals as goal

start : (y : ℕ) → y ≡ number_at y 0
unfolding number_at
start y = refl

stepped : (seed y next i : ℕ) → y ≡ number_at seed i → next ≡ next_number y → next ≡ number_at seed (suc i)
stepped seed y next i is next_is = next_is ∙ ap next_number is ∙ sym (number_next seed i)

pub loop-byte-init : goal.loop-byte-init
loop-byte-init c = record { number = start c.args.seed; done = λ k lt. absurd (omega arith) }

pub loop-byte-preserved : goal.loop-byte-preserved
loop-byte-preserved c =
    let next : c.next_of-y.result ≡ number_at c.args.seed (suc c.loop-byte.byte-index) =
    stepped c.args.seed c.loop-byte.y c.next_of-y.result c.loop-byte.byte-index c.loop-byte.invariant.number c.next_of-y.ensures in
    record {
      number = rw add-one next;
      done = mixed_more c.args.seed c.loop-byte.byte-index (c.next_of-y.result / 2 ^ 24) c.loop-byte.range (omega arith) (ap (λ (n : ℕ). n / 2 ^ 24) next) c.loop-byte.invariant.done;
    }

pub returns : goal.returns
returns c =
    let end : c.loop-byte.byte-index ≡ length c.args.range.now = omega arith in
    mixed_is c.args.seed (length c.args.range.now) c.loop-byte.range c.loop-byte.auto.range (λ k lt. c.loop-byte.invariant.done k (omega (arith, end, lt)))
