use Rattle.std.proofs.Common.{arith, ap, length}
use Rattle.kv_host.specs.Table.{IsTable}
use Rattle.kv_host.proofs.Files.{IsTable-nil}
use Rattle.kv_host.proofs.memory.MemHost.new.Goals as goal

pub invariant_of-result : goal.invariant_of-result
invariant_of-result c = record {
  table = IsTable-nil _ _ c.in-Ok.ensures.arena.items c.in-Ok.ensures.entries.items;
  places = omega (arith, c.in-Ok.ensures.entries.capacity);
  room = omega (arith, c.in-Ok.ensures.arena.len, c.in-Ok.ensures.arena.capacity, c.in-Ok.ensures.entries.len);
  printable = omega (arith, c.in-Ok.ensures.printed.len, c.in-Ok.ensures.printed.capacity);
}

pub returns-in-Ok-clause-calm : goal.returns-in-Ok-clause-calm
returns-in-Ok-clause-calm c none =
    let table : IsTable c.in-Ok.arena.items c.in-Ok.entries.items = IsTable-nil _ _ c.in-Ok.ensures.arena.items c.in-Ok.ensures.entries.items in
    record { unlisted = none; places = omega (arith, table.distinct, ap length c.in-Ok.ensures.entries.items); room = omega arith }
