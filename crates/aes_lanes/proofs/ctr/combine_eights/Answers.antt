use Rattle.std.proofs.Common.{◌≡◌, ℕ, ◌+◌, ◌-◌, ◌*◌, length, take, drop, ◌++◌, refl, ap, ◌∙◌, arith, rules}
use Rattle.aes_lanes.specs.Ctr.{ctr_text}
use Rattle.aes_lanes.proofs.CtrText.{ctr_text-put_mid, ctr_text-moved}
use Rattle.aes_lanes.proofs.Blocks.{whole_text, no_text}
use Rattle.aes_lanes.proofs.ctr.combine_eights.Goals as goal

pub loop-eight-init : goal.loop-eight-init
unfolding ctr_text
loop-eight-init c = record { next = omega arith; text = refl }

pub loop-eight-preserved : goal.loop-eight-preserved
loop-eight-preserved c =
    let key = c.args.aes.now in
    let a = 128 * c.loop-eight.eight in
    let whole = c.args.bytes.now in
    let size : a + 128 - a ≡ 128 = omega arith in
    let more : a + 128 ≡ 128 * (c.loop-eight.eight + 1) = omega arith in
    let place : 16 * (8 * c.loop-eight.eight) ≡ 0 + a = omega arith in
    record {
      next = omega arith;
      text =
          ctr_text-put_mid key c.args.start 0 a 128 _ whole _ _ size (omega arith) c.loop-eight.invariant.text (λ same.
          c.combine_eight.ensures key c.sliced_keys-keys.ensures
          ∙ ap (ctr_text key c.loop-eight.next 0) (ap (λ (k : ℕ). take k (drop a c.loop-eight.bytes)) size ∙ same)
          ∙ ctr_text-moved key c.args.start c.loop-eight.next (8 * c.loop-eight.eight) _ c.loop-eight.invariant.next
          ∙ ap (λ (p : ℕ). ctr_text key c.args.start p (take 128 (drop a whole))) place)
          ∙ ap (λ (n : ℕ). ctr_text key c.args.start 0 (take n whole) ++ drop n whole) more;
    }

pub returns : goal.returns
returns c = c.loop-eight.invariant.text ∙ whole_text _ _ _ _ (omega arith)

pub returns-then-is_empty : goal.returns-then-is_empty
returns-then-is_empty c = let none : length c.args.bytes.now ≡ 0 = search rules in no_text _ _ _ none
