use Rattle.std.proofs.Common.{◌≡◌, ◌≤◌, ◌*◌}
use Rattle.kv_bench.specs.Lookups.{HasLooked}
use Rattle.kv_bench.proofs.lookup.total_of.Given as goal

abbrev pub invariant-loop-find : goal.invariant-loop-find
invariant-loop-find g l = record {
  keys : l.reader ≡ l.fn.reader;
  looked : HasLooked l.fn.reader.keys.now l.table.entries l.find l.total;
  most : l.total ≤ l.find * 4294967296;
}
