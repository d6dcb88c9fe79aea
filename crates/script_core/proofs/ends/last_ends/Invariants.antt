use Rattle.std.proofs.Common.{◌≡◌, ◌≤◌, ◌+◌, ℕ, length, get_or, max}
use Rattle.script_core.specs.Grammar.{lines_of}
use Rattle.script_core.specs.Parts.{parts_left}
use Rattle.script_core.specs.Reading.{last_end}
use Rattle.script_core.proofs.ends.last_ends.Given as goal

-- the later of the last end so far and the last end of the lines left is the last of all
abbrev pub invariant-loop-text : goal.invariant-loop-text
invariant-loop-text l = record {
  count : l.number + length (parts_left l.text-iterator) ≡ length (lines_of l.bytes);
  long : length l.last ≡ 17;
  passed : (who : ℕ) → who ≤ 16 → get_or l.last who 0 ≤ l.number;
  ends : (who : ℕ) → who ≤ 16 → max (get_or l.last who 0) (last_end who (l.number + 1) (parts_left l.text-iterator)) ≡ last_end who 1 (lines_of l.bytes);
}
