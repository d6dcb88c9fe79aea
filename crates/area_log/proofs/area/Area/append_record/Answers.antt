use Rattle.kv_model.specs.Write.{Write}
use Rattle.record_core.proofs.EndingLemmas.{handed_error}
use Rattle.area_log.proofs.AppendLemmas.{append_within}
use Rattle.area_log.proofs.AreaLemmas.{range_fits}
use Rattle.area_log.proofs.area.Area.append_record.Goals as goal

pub returns-in_err-write_record-clause-within : goal.returns-in_err-write_record-clause-within
returns-in_err-write_record-clause-within g c =
    let r : Write = record { flags = c.args.flags; key = c.args.key.now; value = c.args.value.now } in
    handed_error c.from_residual.result c.in_err-write_record.field-0.0 c.from_residual.ensures.1
    (append_within (g.met.F.Flash.lawful c.args.flash.now) c.requires.can.valid c.args.at r (range_fits _ _ c.requires.can.is_area c.requires.inside) c.in_err-write_record.ensures.runs)

pub returns-clause-within : goal.returns-clause-within
returns-clause-within g c =
    let r : Write = record { flags = c.args.flags; key = c.args.key.now; value = c.args.value.now } in
    append_within (g.met.F.Flash.lawful c.args.flash.now) c.requires.can.valid c.args.at r (range_fits _ _ c.requires.can.is_area c.requires.inside) c.in_ok-write_record.ensures.runs
