use Rattle.std.proofs.Common.{◌≡◌, length}
use Rattle.ram_table.specs.Find.{IsIndexOf}
use Rattle.kv_bench.specs.Lookups.{told}
use Rattle.kv_bench.proofs.lookup.index_of.Given as goal

abbrev pub invariant-loop-number : goal.invariant-loop-number
invariant-loop-number g l = record {
  keys : l.reader ≡ l.fn.reader;
  index : IsIndexOf 32 (told l.fn.reader.keys.now) l.table.entries;
  whole : length l.table.entries ≡ l.number;
}
