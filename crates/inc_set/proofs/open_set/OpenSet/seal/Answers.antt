use Rattle.std.proofs.Common.{subst}
use Rattle.flash_core.specs.declared.flash.FlashFault.{FlashFault}
use Rattle.flash_core.specs.Runs.{fault_ending}
use Rattle.inc_set.specs.Sets.{Appended}
use Rattle.inc_set.proofs.open_set.OpenSet.seal.Goals as goal

pub returns-in-Err-clause-appends : goal.returns-in-Err-clause-appends
returns-in-Err-clause-appends g c bytes holds =
    let old = g.F.Flash.state c.args.flash.now in
    let new = g.F.Flash.state c.finish.new.flash in
    subst (λ (f : FlashFault). Appended old new c.args.self.now bytes (fault_ending f)) c.in-Err.ensures.fault (c.in-Err.ensures.appends bytes holds)
