use Rattle.std.proofs.Common.{refl}
use Rattle.flash_core.proofs.GeometryLaws.{prog_positive}
use Rattle.area_log.proofs.ScanLemmas.{visits_reads}
use Rattle.tdb_mount.proofs.PlaceLemmas.{can_find, table_more, table_told}
use Rattle.tdb_mount.proofs.RunLemmas.{memory_counts}
use Rattle.tdb_mount.proofs.builder.BuilderVisitor.found.Goals as goal

pub place_of-requires-clause-can : goal.place_of-requires-clause-can
place_of-requires-clause-can g c =
    let s = g.F.Flash.state c.args.flash.now in
    let self = c.args.self.now in
    can_find s self.area self.hash_bits 0 self.table.entries self.within (λ image told.
    let next = c.requires.next image told in
    (table_told s.geometry (prog_positive s.geometry c.requires.valid) image self.area _ next.0 next.1 self.hash_bits self.table.entries next.2).index)

pub returns-in-Ok-clause-visits : goal.returns-in-Ok-clause-visits
returns-in-Ok-clause-visits g c =
    let reads = c.in-Ok.ensures.reads in
    visits_reads c.take_in.result reads.kept (memory_counts c.take_in.result c.take_in.ensures.only reads.counts)

pub returns-in-Ok-clause-stands : goal.returns-in-Ok-clause-stands
returns-in-Ok-clause-stands g c image told before next table =
    let s = g.F.Flash.state c.args.flash.now in
    let self = c.args.self.now in
    let found = c.in-Ok.ensures in
    table_more s.geometry (prog_positive s.geometry c.requires.valid) image self.area _ before next self.hash_bits c.take_in.new.self.hash_bits self.table.entries
    c.take_in.new.self.table.entries c.in-Ok.place c.hash_of-hash.result _ c.take_in.result c.take_in.ensures.bits c.take_in.ensures.entries table
    (found.place image told) found.inside.most found.inside.there c.hash_of-hash.ensures refl
