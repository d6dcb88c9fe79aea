use Rattle.std.proofs.Common.{◌≡◌}
use Rattle.ram_table.specs.Find.{IsIndexOf}
use Rattle.ram_table.specs.Letters.{letters}
use Rattle.ram_table.proofs.tests.places_among.Given as goal

abbrev pub invariant-loop-other : goal.invariant-loop-other
invariant-loop-other g l = record {
  bits : l.reader.hash_bits ≡ l.fn.hash_bits;
  index : IsIndexOf l.reader.hash_bits letters l.table.entries;
}
