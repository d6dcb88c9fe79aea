-- More room in the tables changes nothing of a log.
use Rattle.std.proofs.Common.{◌≡◌, length, sym, ap, subst, arith}
use Rattle.flash_core.specs.State.{FlashState}
use Rattle.area_log.specs.Areas.{first_place}
use Rattle.area_log.specs.Listing.{listed}
use Rattle.ram_table.specs.Table.{KeepsRoom, TableState}
use Rattle.tdb_mount.specs.Index.{IsTable, places_of}
use Rattle.tdb_mount.specs.Room.{AreIn}
use Rattle.tdb_read.specs.Views.{IsReady, LogPart, area_in, records_in}
use Rattle.tdb_write.proofs.FeedLemmas.{view}

pub reserved_ready : (device : FlashState) (log : LogPart) → IsReady (view device log) → (table spare : TableState) → table.entries ≡ log.table.entries → spare.entries ≡ log.spare.entries → KeepsRoom log.spare spare
    → IsReady (view device (record log { table = table; spare = spare }))
reserved_ready device log ready table spare same_table same_spare room = record {
  safe = record {
    valid = ready.safe.valid;
    hash_bits = ready.safe.hash_bits;
    active = ready.safe.active;
    end = ready.safe.end;
    within = subst (AreIn (area_in device.geometry log)) (sym same_table) ready.safe.within;
    room = omega (arith, ap length same_table, ap length same_spare, room, ready.safe.room);
    work = ready.safe.work;
    unit = ready.safe.unit;
  };
  stands = λ image told.
      let is = ready.stands image told in
      record {
        first = is.first;
        second = is.second;
        active = is.active;
        version = is.version;
        holds = is.holds;
        table = subst (IsTable log.hash_bits (places_of (listed device.geometry.prog (first_place device.geometry (area_in device.geometry log)) (records_in device.geometry log image)))) (sym same_table) is.table;
        clean = is.clean;
      };
}
