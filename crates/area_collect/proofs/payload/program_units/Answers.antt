use Rattle.std.proofs.Common.{length, subst}
use Rattle.std.specs.Prelude.{Ok, Err}
use Rattle.flash_core.specs.declared.flash.FlashFault.{FlashFault}
use Rattle.flash_core.specs.Moments.{Within}
use Rattle.flash_core.specs.Runs.{RunsBy, fault_ending}
use Rattle.area_collect.proofs.PayloadLemmas.{program_within}
use Rattle.area_collect.proofs.payload.program_units.Goals as goal

pub returns-in-Ok-clause-runs : goal.returns-in-Ok-clause-runs
returns-in-Ok-clause-runs g c = program_within c.args.place c.args.bytes.now (Ok c.in-Ok.field-0) (g.met.F.Flash.lawful c.args.flash.now) c.requires.inside c.in-Ok.ensures

pub returns-in-Err-clause-runs : goal.returns-in-Err-clause-runs
returns-in-Err-clause-runs g c =
    subst (λ (f : FlashFault). RunsBy (g.F.Flash.state c.args.flash.now) (g.F.Flash.state c.program.new.self) (Within c.args.place (length c.args.bytes.now)) (fault_ending f)) c.in-Err.ensures.cause.0
    (program_within c.args.place c.args.bytes.now (Err c.in-Err.field-0) (g.met.F.Flash.lawful c.args.flash.now) c.requires.inside c.in-Err.ensures)
