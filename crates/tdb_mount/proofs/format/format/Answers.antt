use Rattle.record_core.proofs.EndingLemmas.{handed_error}
use Rattle.tdb_mount.proofs.FormatLemmas.{format_within, master_format, room_erased}
use Rattle.tdb_mount.proofs.format.format.Goals as goal

pub returns-in_err-erase_first-clause-within : goal.returns-in_err-erase_first-clause-within
returns-in_err-erase_first-clause-within g c =
    handed_error c.from_residual.result c.in_err-erase_first.field-0.0 c.from_residual.ensures.1
    (format_within c.requires.valid (g.met.F.Flash.lawful c.args.flash.now) c.in_err-erase_first.ensures.runs)

pub write_master-requires-clause-erased : goal.write_master-requires-clause-erased
write_master-requires-clause-erased g c =
    room_erased (g.F.Flash.state c.args.flash.now) (g.F.Flash.state c.erase_first.new.flash) c.requires.valid (g.met.F.Flash.lawful c.args.flash.now)
    c.in_ok-erase_first.ensures.runs.kept c.in_ok-erase_first.ensures.erased

pub returns-clause-runs : goal.returns-clause-runs
returns-clause-runs g c = master_format c.in_ok-erase_first.ensures.erased c.in_ok-erase_first.ensures.runs c.write_master.ensures.runs

pub returns-clause-within : goal.returns-clause-within
returns-clause-within g c =
    format_within c.requires.valid (g.met.F.Flash.lawful c.args.flash.now)
    (master_format c.in_ok-erase_first.ensures.erased c.in_ok-erase_first.ensures.runs c.write_master.ensures.runs)
