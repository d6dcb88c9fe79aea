use Rattle.std.proofs.Common.{◌≡◌, ℕ, ◌+◌, ◌-◌, ◌*◌, List, length, take, drop, ◌++◌, refl, ap, ◌∙◌, arith, rules}
use Rattle.std.proofs.lemmas.List.{length-take, length-drop}
use Rattle.std.specs.Int.{to_be_bytes, w128}
use Rattle.aes_core.specs.Aes.{xor_bytes, encrypted}
use Rattle.aes_lanes.specs.Ctr.{counter_block, ctr_text}
use Rattle.aes_lanes.proofs.CtrText.{ctr_text-put_mid, ctr_text-one}
use Rattle.aes_lanes.proofs.Blocks.{whole_text}
use Rattle.aes_lanes.proofs.ctr.combine_singles.Goals as goal

pub loop-block-init : goal.loop-block-init
unfolding ctr_text
loop-block-init c = record { next = omega arith; text = refl }

pub loop-block-preserved : goal.loop-block-preserved
unfolding counter_block
loop-block-preserved c =
    let key = c.args.aes.now in
    let a = 16 * c.loop-block.block in
    let whole = c.args.bytes.now in
    let sixteen : a + 16 - a ≡ 16 = omega arith in
    let more : a + 16 ≡ 16 * (c.loop-block.block + 1) = omega arith in
    let size : length (take 16 (drop a whole)) ≡ 16 = length-take 16 (drop a whole) ∙ omega (arith, length-drop a whole) in
    let is = c.pad_of-pad.ensures ∙ ap (λ (n : ℕ). encrypted key (to_be_bytes w128 n)) c.loop-block.invariant.next in
    record {
      next = omega arith;
      text =
          ctr_text-put_mid key c.args.start 0 a 16 _ whole _ _ sixteen (omega arith) c.loop-block.invariant.text (λ same.
          c.combine.ensures.text ∙ ap (λ (xs : List ℕ). xor_bytes xs c.pad_of-pad.result) (ap (λ (k : ℕ). take k (drop a c.loop-block.bytes)) sixteen ∙ same)
          ∙ ctr_text-one key c.args.start c.loop-block.block (0 + a) _ _ is (omega arith) (search rules) size)
          ∙ ap (λ (n : ℕ). ctr_text key c.args.start 0 (take n whole) ++ drop n whole) more;
    }

pub returns : goal.returns
returns c = c.loop-block.invariant.text ∙ whole_text _ _ _ _ (omega arith)
