use Rattle.std.proofs.Common.{◌≡◌, ◌+◌, ◌*◌, ◌%◌, ◌^◌, take, drop, ◌++◌}
use Rattle.aes_lanes.specs.Ctr.{ctr_text}
use Rattle.aes_lanes.proofs.ctr.combine_singles.Given as goal

abbrev pub invariant-loop-block : goal.invariant-loop-block
invariant-loop-block l = record {
  next : l.next ≡ (l.fn.start + l.block) % 2 ^ 128;
  text : l.bytes ≡ ctr_text l.aes l.fn.start 0 (take (16 * l.block) l.fn.bytes) ++ drop (16 * l.block) l.fn.bytes;
}
