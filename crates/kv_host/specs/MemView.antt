-- The state of a host in memory, from its fields.
use Rattle.std.specs.Prelude.{◌+◌, ◌-◌, ◌*◌, ◌≤◌, vec_len, vec_capacity}
use Rattle.kv_host.specs.declared.memory.MemHost.TheInside.{Inside}
use Rattle.kv_host.specs.MemState.{MemState}
use Rattle.kv_host.specs.Table.{files_of, IsTable}

abbrev pub state_of : Inside → MemState
state_of h = record {
  contents = record { files = files_of h.arena.items h.entries.items; printed = h.printed.items };
  left = h.left;
  faults = h.faults;
  calls = h.calls;
  failing = h.failing.items;
}

-- the entries are a table, and the buffers have room for all that may still come
pub record IsSound (h : Inside) : Type 0 where
  pub table : IsTable h.arena.items h.entries.items
  pub places : 8 ≤ vec_capacity h.entries
  pub room : vec_len h.arena + h.left + 64 * (8 - vec_len h.entries) ≤ vec_capacity h.arena
  pub printable : vec_len h.printed + h.left ≤ vec_capacity h.printed
