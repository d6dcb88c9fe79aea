use Rattle.std.proofs.Common.{◌≡◌, ◌≤◌, [], ◌++◌, length}
use Rattle.std.specs.Vec.Iter.{into_iter_items, into_iter_len}
use Rattle.script_core.specs.LineOrder.{calls_of}
use Rattle.session_core.specs.Growing.{LogGoesOn}
use Rattle.session_core.specs.Replaying.{HasReplayed, StillTells, seen_in}
use Rattle.session_core.specs.Views.{state_in}
use Rattle.session_core.proofs.ReplayLemmas.{ShowsSoFar}
use Rattle.session_core.proofs.session.Session.replay_lines.Given as goal

abbrev pub invariant-loop-line : goal.invariant-loop-line
invariant-loop-line l = record {
  all : l.yielded ++ into_iter_items l.line-iterator ≡ l.fn.lines.items;
  left : into_iter_len l.line-iterator ≡ length (into_iter_items l.line-iterator);
  ran : HasReplayed (seen_in l.fn.self []) (seen_in l.self l.journal.entries) (calls_of l.yielded);
  still : StillTells l.fn.self l.self;
  shows : ShowsSoFar l.fn.self l.self l.yielded l.journal.entries;
  logs : LogGoesOn (state_in l.fn.self) (state_in l.self) l.journal.entries;
  count : length l.journal.entries ≤ length l.yielded;
}
