use Rattle.std.specs.Option.{ForSome}
use Rattle.flash_core.specs.Calls.{OnlyReads}
use Rattle.tdb_mount.specs.Keys.{keys_in}
use Rattle.tdb_read.specs.Reads.{LackBetween}
use Rattle.tdb_read.proofs.iterate.first_with_prefix.Given as goal

abbrev pub invariant-loop-at : goal.invariant-loop-at
invariant-loop-at g l =
    let old = g.F.Flash.state l.fn.flash in
    record {
      reads : OnlyReads old (g.F.Flash.state l.flash);
      lack : ForSome old.image (λ image. LackBetween (keys_in old.geometry l.fn.area image) l.table.entries l.prefix l.from l.at);
    }
