use Rattle.std.proofs.Common.{◌≡◌, ◌+◌, ◌*◌, ◌%◌, ◌^◌, take, drop, ◌++◌}
use Rattle.aes_lanes.specs.Ctr.{ctr_text}
use Rattle.aes_lanes.proofs.ctr.combine_eights.Given as goal

abbrev pub invariant-loop-eight : goal.invariant-loop-eight
invariant-loop-eight l = record {
  next : l.next ≡ (l.fn.start + 8 * l.eight) % 2 ^ 128;
  text : l.bytes ≡ ctr_text l.fn.aes l.fn.start 0 (take (128 * l.eight) l.fn.bytes) ++ drop (128 * l.eight) l.fn.bytes;
}
