use Rattle.std.proofs.Common.{refl, arith, ◌∙◌}
use Rattle.aes_lanes.specs.Ctr.{ctr_text}
use Rattle.aes_lanes.proofs.Blocks.{block_put, whole_text}
use Rattle.aes_lanes.proofs.ctr.combine_eight.Goals as goal

pub returns : goal.returns
unfolding ctr_text
returns c key keys =
    let whole = c.args.bytes.now in
    let start = c.args.start in
    let s1 = block_put key start 0 0 whole _ _ _ refl (omega arith) refl c.combine.ensures.text c.combine.ensures.pad (c.pads_of-pads.ensures key 0 (omega arith) keys) in
    let s2 = block_put key start 1 16 whole _ _ _ refl (omega arith) s1 c.combine-2.ensures.text c.combine-2.ensures.pad (c.pads_of-pads.ensures key 1 (omega arith) keys) in
    let s3 = block_put key start 2 32 whole _ _ _ refl (omega arith) s2 c.combine-3.ensures.text c.combine-3.ensures.pad (c.pads_of-pads.ensures key 2 (omega arith) keys) in
    let s4 = block_put key start 3 48 whole _ _ _ refl (omega arith) s3 c.combine-4.ensures.text c.combine-4.ensures.pad (c.pads_of-pads.ensures key 3 (omega arith) keys) in
    let s5 = block_put key start 4 64 whole _ _ _ refl (omega arith) s4 c.combine-5.ensures.text c.combine-5.ensures.pad (c.pads_of-pads.ensures key 4 (omega arith) keys) in
    let s6 = block_put key start 5 80 whole _ _ _ refl (omega arith) s5 c.combine-6.ensures.text c.combine-6.ensures.pad (c.pads_of-pads.ensures key 5 (omega arith) keys) in
    let s7 = block_put key start 6 96 whole _ _ _ refl (omega arith) s6 c.combine-7.ensures.text c.combine-7.ensures.pad (c.pads_of-pads.ensures key 6 (omega arith) keys) in
    let s8 = block_put key start 7 112 whole _ _ _ refl (omega arith) s7 c.combine-8.ensures.text c.combine-8.ensures.pad (c.pads_of-pads.ensures key 7 (omega arith) keys) in
    s8 ∙ whole_text key start 128 whole (omega arith)
