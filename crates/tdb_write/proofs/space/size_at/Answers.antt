use Rattle.std.proofs.Common.{◌≡◌, ℕ, ◌-◌, length, ◌∙◌, ap, subst}
use Rattle.std.specs.Prelude.{Result, Ok, Err}
use Rattle.base_core.specs.Sizes.{record_size}
use Rattle.flash_core.specs.declared.geometry.Geometry.{Geometry}
use Rattle.kv_model.specs.declared.error.KvError.{KvError}
use Rattle.area_log.specs.declared.area.Area.{Area}
use Rattle.area_log.specs.Areas.{end_of}
use Rattle.record_core.specs.declared.header.Header.{Header}
use Rattle.record_core.specs.Log.{extent}
use Rattle.record_core.specs.Lookup.{ReadsHeader}
use Rattle.tdb_read.specs.Reads.{GivesHeader, IsReadRefusal, OfRecord, offset_in}
use Rattle.tdb_read.specs.Views.{LogView, view_of}
use Rattle.tdb_read.proofs.ReadLemmas.{header_given}
use Rattle.tdb_write.proofs.SpaceLemmas.{match_handed}
use Rattle.tdb_write.proofs.space.size_at.Goals as goal

pub returns-in_err-header-clause-size : goal.returns-in_err-header-clause-size
returns-in_err-header-clause-size g c =
    let v = view_of g.F.Flash.state c.args.log.now in
    let s = g.F.Flash.state c.read_header_at.new.flash in
    let e = c.in_err-header.field-0.0 in
    let refused : Result Header KvError = Err e in
    match_handed (λ size. OfRecord v.device (offset_in v.log c.args.at) (λ r. size ≡ extent v.device.geometry.prog r)) (IsReadRefusal v.device s) c.from_residual.result e c.from_residual.ensures.1
    (header_given v (record { device = s; log = v.log }) c.requires.ready c.args.at c.requires.inside refused
    (subst (λ (a : Area). ReadsHeader v.device s (offset_in v.log c.args.at) (end_of a - offset_in v.log c.args.at) refused) c.area-area.ensures.area
    (subst (λ (p : ℕ). ReadsHeader v.device s p (end_of c.area-area.result - p) refused) c.entry-place.ensures.offset c.in_err-header.ensures.answer)))

pub returns-clause-size : goal.returns-clause-size
returns-clause-size g c image told r stands =
    let v = view_of g.F.Flash.state c.args.log.now in
    let s = g.F.Flash.state c.read_header_at.new.flash in
    let header : Result Header KvError = Ok c.in_ok-header.header in
    let says = header_given v (record { device = s; log = v.log }) c.requires.ready c.args.at c.requires.inside header
    (subst (λ (a : Area). ReadsHeader v.device s (offset_in v.log c.args.at) (end_of a - offset_in v.log c.args.at) header) c.area-area.ensures.area
    (subst (λ (p : ℕ). ReadsHeader v.device s p (end_of c.area-area.result - p) header) c.entry-place.ensures.offset c.in_ok-header.ensures.answer)) image told r stands in
    let prog : c.geometry-prog.result.prog ≡ v.device.geometry.prog = ap (λ (x : Geometry). x.prog) c.geometry-prog.ensures in
    c.size_of_record.ensures
    ∙ ap (λ (p : ℕ). record_size p c.from.result c.in_ok-header.header.value_size) prog
    ∙ ap (λ (k : ℕ). record_size v.device.geometry.prog k c.in_ok-header.header.value_size) (c.from.ensures ∙ says.key_size)
    ∙ ap (record_size v.device.geometry.prog (length r.key)) says.size
