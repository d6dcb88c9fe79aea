use Rattle.std.proofs.Common.{arith, ap, sym, subst, rules}
use Rattle.std.specs.Option.{option_map}
use Rattle.std.specs.Prelude.{Result, Ok, Err}
use Rattle.flash_core.specs.Runs.{ReadsBy}
use Rattle.kv_model.specs.declared.error.KvError.{KvError}
use Rattle.ram_table.specs.Find.{IsPlaceOf}
use Rattle.ram_table.specs.Reader.{IsRefusal}
use Rattle.ram_table.specs.Table.{entry_at}
use Rattle.ram_table.specs.declared.table.Place.{Place}
use Rattle.tdb_mount.specs.Keys.{HasHead, IsLast, keys_in, keys_of}
use Rattle.record_core.specs.Endings.{kv_ended}
use Rattle.base_core.proofs.UnitLemmas.{up-ge}
use Rattle.flash_core.proofs.GeometryLaws.{prog_positive}
use Rattle.area_log.specs.declared.area.Area.{Area}
use Rattle.area_log.proofs.AreaLemmas.{area_fits}
use Rattle.tdb_mount.proofs.ReaderLemmas.{has_head, search_cause, search_reads}
use Rattle.tdb_mount.proofs.lookup.look_up_by.Goals as goal

pub invariant_of-reader : goal.invariant_of-reader
invariant_of-reader g c =
    let s = g.F.Flash.state c.args.flash.now in
    let valid = c.requires.valid in
    record {
      valid = valid;
      inside = area_fits s.geometry c.args.area c.requires.area;
      least = omega (arith, c.requires.area.size, valid.master_fits, up-ge s.geometry.prog 24 (prog_positive s.geometry valid));
    }

abbrev place_found : Place → Result Place KvError
place_found place = Ok place

abbrev refused : KvError → Result Place KvError
refused e = Err e

pub returns-in-Ok-clause-reads : goal.returns-in-Ok-clause-reads
returns-in-Ok-clause-reads g c =
    let reader = c.find.new.reader in
    let all : ReadsBy (g.F.Flash.state c.args.flash.now) (g.F.Flash.state c.find.new.reader.flash.now) (kv_ended (place_found c.in-Ok.place)) =
    search_reads (g.F.Flash.state c.args.flash.now) (g.F.Flash.state c.find.new.reader.flash.now) c.args.area reader.area c.args.hash_bits reader.hash_bits 0 reader.refusals (place_found c.in-Ok.place) c.in-Ok.ensures.follows.0 c.in-Ok.ensures.reads in
    search rules

pub returns-in-Ok-clause-place : goal.returns-in-Ok-clause-place
returns-in-Ok-clause-place g c image told =
    let s = g.F.Flash.state c.args.flash.now in
    let keys = keys_in s.geometry c.args.area image in
    subst (IsPlaceOf c.args.hash_bits keys c.args.table.now.entries c.args.key.now) (sym c.seen_at.ensures.place)
    (c.in-Ok.ensures.place keys (ap (option_map (keys_in s.geometry c.args.area)) told))

pub returns-in-Ok-clause-head : goal.returns-in-Ok-clause-head
returns-in-Ok-clause-head g c =
    let reader = c.find.new.reader in
    let s = g.F.Flash.state c.find.new.reader.flash.now in
    let all : HasHead s c.args.area c.args.table.now.entries c.args.key.now c.seen_at.result =
    has_head s c.args.area c.args.table.now.entries c.args.key.now c.in-Ok.place reader.last c.seen_at.result c.seen_at.ensures.place c.seen_at.ensures.found c.seen_at.ensures.absent
    (λ found. subst (λ (a : Area). IsLast s a reader.last (entry_at c.args.table.now.entries c.in-Ok.place.at).offset c.args.key.now) c.in-Ok.ensures.follows.2 (c.in-Ok.ensures.last found)) in
    search rules

pub returns-clause-reads : goal.returns-clause-reads
returns-clause-reads g c =
    let reader = c.find.new.reader in
    let all : ReadsBy (g.F.Flash.state c.args.flash.now) (g.F.Flash.state c.find.new.reader.flash.now) (kv_ended (refused c.in-Err.error)) =
    search_reads (g.F.Flash.state c.args.flash.now) (g.F.Flash.state c.find.new.reader.flash.now) c.args.area reader.area c.args.hash_bits reader.hash_bits 0 reader.refusals (refused c.in-Err.error) c.in-Err.ensures.follows.0 c.in-Err.ensures.reads in
    search rules

pub returns-clause-cause : goal.returns-clause-cause
returns-clause-cause g c =
    let reader = c.find.new.reader in
    let all : IsRefusal (keys_of (g.F.Flash.state c.args.flash.now) c.args.area c.args.hash_bits 0) (keys_of (g.F.Flash.state c.find.new.reader.flash.now) c.args.area c.args.hash_bits 0) c.in-Err.error =
    search_cause (g.F.Flash.state c.args.flash.now) (g.F.Flash.state c.find.new.reader.flash.now) c.args.area reader.area c.args.hash_bits reader.hash_bits 0 reader.refusals (refused c.in-Err.error) c.in-Err.ensures.reads.cause in
    search rules
