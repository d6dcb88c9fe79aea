use Rattle.std.proofs.Common.{◌≡◌, ℕ, ◌+◌, ◌*◌, ◌/◌, ◌%◌, ◌^◌, List, ◌++◌, length, sym, ap, ap₂, ◌∙◌, arith}
use Rattle.std.specs.Int.{to_be_bytes, w128}
use Rattle.aes_lanes.specs.Ctr.{counter_block, ctr_text}
use Rattle.aes_lanes.proofs.CtrText.{ctr_text-++, ctr_text-moved}
use Rattle.aes_lanes.proofs.ctr_blocks.Goals as goal

pub returns-clause-text : goal.returns-clause-text
returns-clause-text c =
    let key = c.args.aes.now in
    let start = c.from_be_bytes-start.result in
    let front = c.split_at_mut-eights.result.0.now in
    let back = c.split_at_mut-eights.result.1.now in
    let done : 16 * (length front / 16) ≡ 0 + length front = omega arith in
    ap₂ (λ (xs ys : List ℕ). xs ++ ys) c.combine_eights.ensures
    (c.combine_singles.ensures ∙ ctr_text-moved key start _ (length front / 16) back (omega arith) ∙ ap (λ (p : ℕ). ctr_text key start p back) done)
    ∙ sym (ctr_text-++ key start 0 front back) ∙ ap (ctr_text key start 0) (sym c.split_at_mut-eights.ensures.value)
    ∙ ap (λ (n : ℕ). ctr_text key n 0 c.args.buf.now) c.from_be_bytes-start.ensures

pub returns-clause-counter : goal.returns-clause-counter
unfolding counter_block
returns-clause-counter c =
    c.to_be_bytes.ensures ∙ ap (λ (n : ℕ). to_be_bytes w128 ((n + length c.args.buf.now / 16) % 2 ^ 128)) c.from_be_bytes-start.ensures
