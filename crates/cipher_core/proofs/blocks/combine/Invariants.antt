use Rattle.std.proofs.Common.{◌≡◌, ℕ, ◌<◌, ◌≤◌, get_or, length}
use Rattle.aes_core.specs.Aes.{◌⊕◌}
use Rattle.cipher_core.proofs.blocks.combine.Given as goal

abbrev pub invariant-loop-i : goal.invariant-loop-i
invariant-loop-i l = record {
  long : length l.bytes ≡ length l.fn.bytes;
  done : (k : ℕ) → k < l.i → get_or l.bytes k 0 ≡ get_or l.fn.bytes k 0 ⊕ get_or l.pad k 0;
  left : (k : ℕ) → l.i ≤ k → get_or l.bytes k 0 ≡ get_or l.fn.bytes k 0;
}
