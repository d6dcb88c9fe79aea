use Rattle.std.proofs.Common.{List, ℕ, sym, ap, subst, arith}
use Rattle.std.specs.Prelude.{Option}
use Rattle.std.specs.Option.{option_copied, option_map}
use Rattle.base_core.proofs.UnitLemmas.{up-ge}
use Rattle.flash_core.proofs.GeometryLaws.{prog_positive}
use Rattle.area_log.proofs.AreaLemmas.{area_fits}
use Rattle.ram_table.specs.Find.{IsIndexOf}
use Rattle.ram_table.specs.Reader.{KeyMap}
use Rattle.tdb_mount.specs.Keys.{keys_in}
use Rattle.tdb_mount.proofs.ReaderLemmas.{mapped_from}
use Rattle.tdb_read.specs.Reads.{IsBehind}
use Rattle.tdb_read.proofs.NextLemmas.{behind_first}
use Rattle.tdb_read.proofs.iterate.place_behind.Goals as goal

pub invariant_of-reader : goal.invariant_of-reader
invariant_of-reader g c =
    let s = g.F.Flash.state c.args.flash.now in
    let valid = c.requires.valid in
    record {
      valid = valid;
      inside = area_fits s.geometry c.args.area c.requires.area;
      least = omega (arith, c.requires.area.size, valid.master_fits, up-ge s.geometry.prog 24 (prog_positive s.geometry valid));
    }

pub returns-clause-behind : goal.returns-clause-behind
returns-clause-behind g c image told =
    let s = g.F.Flash.state c.args.flash.now in
    let keys = keys_in s.geometry c.args.area image in
    subst (λ (o : Option (List ℕ)). IsBehind c.args.hash_bits keys c.args.table.now.entries o c.in_ok-place_after.field-0) (sym (ap option_copied c.in-Some.is))
    (behind_first c.args.hash_bits keys c.args.table.now.entries c.in-Some.last.now c.in_ok-place_after.field-0
    (c.in_ok-place_after.ensures.first keys (ap (option_map (keys_in s.geometry c.args.area)) told)))

pub place_after-requires-clause-can : goal.place_after-requires-clause-can
place_after-requires-clause-can g c =
    let s = g.F.Flash.state c.args.flash.now in
    record {
      within = λ i lt. omega (arith, (c.requires.within i lt).1);
      index = λ keys told. let image = mapped_from (keys_in s.geometry c.args.area) s.image keys told in
          subst (λ (k : KeyMap). IsIndexOf c.args.hash_bits k c.args.table.now.entries) image.2 (c.requires.index image.0 image.1);
    }
