use Rattle.std.proofs.Common.{◌≡◌, ℕ, sym, ◌∙◌, ap, subst}
use Rattle.flash_core.specs.declared.geometry.Geometry.{Geometry}
use Rattle.flash_core.proofs.GeometryLaws.{prog_positive}
use Rattle.flash_core.proofs.KeptLaws.{OnlyReads-trans}
use Rattle.flash_core.proofs.RunLaws.{counts_same}
use Rattle.area_log.specs.declared.area.Area.{Area}
use Rattle.area_log.proofs.ScanLemmas.{reads_of, visits_after, visits_handed, visits_read, visits_reads}
use Rattle.ram_table.specs.Table.{TableState}
use Rattle.tdb_mount.specs.Index.{IsTable, places_of}
use Rattle.tdb_mount.specs.Room.{AreIn, HasRoomFor, area_of}
use Rattle.tdb_mount.proofs.WalkLemmas.{empty_table, mount_of, safe_of}
use Rattle.tdb_mount.proofs.mount.walk.Goals as goal

pub scan-requires-clause-none : goal.scan-requires-clause-none
scan-requires-clause-none g c = empty_table c.new-builder.result.hash_bits c.new-builder.result.table.entries c.new-builder.ensures.none

pub returns-in_err-end-clause-visits : goal.returns-in_err-end-clause-visits
returns-in_err-end-clause-visits g c = visits_handed c.from_residual.result c.in_err-end.field-0.0 c.from_residual.ensures.1 c.in_err-end.ensures.visits

pub returns-in_err-clean-clause-visits : goal.returns-in_err-clean-clause-visits
returns-in_err-clean-clause-visits g c =
    let visit = c.in_ok-end.ensures.visits in
    visits_handed c.from_residual-in_err-clean.result c.in_err-clean.field-0.0 c.from_residual-in_err-clean.ensures.1
    (visits_after _ (reads_of _ visit) visit.counts (visits_read _ c.in_err-clean.ensures.reads))

pub returns-clause-visits : goal.returns-clause-visits
returns-clause-visits g c =
    let visit = c.in_ok-end.ensures.visits in
    let read = c.in_ok-clean.ensures.reads in
    visits_reads _ (OnlyReads-trans (reads_of _ visit) read.kept) (counts_same visit.counts read.counts)

pub returns-clause-safe : goal.returns-clause-safe
returns-clause-safe g c =
    let s = g.F.Flash.state c.args.flash.now in
    let builder = c.scan.new.visitor in
    let area = c.area_at-area.result in
    let table = c.into_tables-table.ensures.table in
    let spare = c.into_tables-table.ensures.spare in
    safe_of s.geometry _ area (c.area_at-area.ensures.area ∙ ap (λ (x : Geometry). area_of x c.args.active.number) c.geometry.ensures) c.requires.number c.in_ok-end.ensures.end
    (subst (λ (t : TableState). AreIn area t.entries) (sym table) (subst (λ (a : Area). AreIn a builder.table.entries) c.in_ok-end.ensures.same builder.within))
    (subst (λ (t : TableState). HasRoomFor c.into_tables-table.result.1 t) (sym table) (subst (λ (t : TableState). HasRoomFor t builder.table) (sym spare) builder.room))
    (ap (λ (t : TableState). t.entries) spare ∙ builder.empty)

pub returns-clause-mounted : goal.returns-clause-mounted
returns-clause-mounted g c image told =
    let s = g.F.Flash.state c.args.flash.now in
    let builder = c.scan.new.visitor in
    let area = c.area_at-area.result in
    let table = c.into_tables-table.ensures.table in
    let found = c.in_ok-end.ensures.all image told in
    let bits : builder.hash_bits ≡ c.args.hash_bits = builder.same_bits ∙ sym c.requires.same in
    mount_of s.geometry (prog_positive s.geometry c.requires.valid) c.args.hash_bits image _ area
    (c.area_at-area.ensures.area ∙ ap (λ (x : Geometry). area_of x c.args.active.number) c.geometry.ensures) (c.requires.active image told) found.0 found.1
    (subst (λ (t : TableState). IsTable c.args.hash_bits (places_of found.0) t.entries) (sym table)
    (subst (λ (b : ℕ). IsTable b (places_of found.0) builder.table.entries) bits found.2))
    (c.in_ok-clean.ensures.erased image ((reads_of _ c.in_ok-end.ensures.visits).image ∙ told))
