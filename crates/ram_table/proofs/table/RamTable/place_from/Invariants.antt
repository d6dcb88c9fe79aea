use Rattle.std.proofs.Common.{◌+◌, ◌<◌, ◌≤◌, ℕ, take}
use Rattle.std.specs.Prelude.{IsTrue}
use Rattle.kv_model.specs.KeyOrder.{is_below}
use Rattle.std.specs.Option.{ForSome}
use Rattle.ram_table.specs.Reader.{CountsStand, Keeps}
use Rattle.ram_table.specs.Find.{count_hash, key_at}
use Rattle.ram_table.proofs.table.RamTable.place_from.Given as goal

abbrev pub invariant-loop-at : goal.invariant-loop-at
invariant-loop-at g l = record {
  kept : Keeps (g.R.KeyReader.state l.initial.reader) (g.R.KeyReader.state l.reader);
  stand : CountsStand (g.R.KeyReader.state l.initial.reader) (g.R.KeyReader.state l.reader);
  follows : g.R.KeyReader.may_follow l.initial.reader l.reader;
  below : ForSome (g.R.KeyReader.state l.initial.reader).keys (λ keys.
      (i : ℕ) → i < l.at → IsTrue (is_below (g.R.KeyReader.state l.initial.reader).hash_bits (key_at keys l.self.entries i) l.key));
  not_fewer : l.initial.steps ≤ l.steps;
  steps : l.steps ≤ l.initial.steps + count_hash l.hash (take l.at l.self.entries);
}
