use Rattle.std.proofs.Common.{◌≡◌, refl, rules}
use Rattle.std.specs.Prelude.{Err, Ok, IfErr}
use Rattle.flash_core.specs.declared.flash.FlashFault.TheVariants.{Write}
use Rattle.flash_core.specs.Runs.{fault_ending}
use Rattle.inc_set.specs.Units.{last_units}
use Rattle.inc_set.proofs.SealLemmas.{appended_handed, can_header, last_room, record_finished, record_unfinished}
use Rattle.inc_set.proofs.payload.finish.Goals as goal

pub returns-in_err-push_last-clause-appends : goal.returns-in_err-push_last-clause-appends
returns-in_err-push_last-clause-appends g c bytes holds =
    let old = g.F.Flash.state c.args.flash.now in
    let new = g.F.Flash.state c.push_last.new.flash in
    let e = c.in_err-push_last.field-0.0 in
    let fault : IfErr c.from_residual.result (λ f. f ≡ Write) = search rules in
    appended_handed old new c.args.set.now bytes c.in_err-push_last.field-0.0 c.from_residual.result c.from_residual.ensures.0 fault c.in_err-push_last.ensures.fault
    (record_unfinished old new c.args.rest.now c.args.set.now bytes (g.met.F.Flash.lawful c.args.flash.now) holds c.requires.whole (fault_ending c.in_err-push_last.field-0.0) c.in_err-push_last.ensures.programs c.in_err-push_last.field-0.0 refl)

pub program_header-requires-clause-can : goal.program_header-requires-clause-can
program_header-requires-clause-can g c =
    let old = g.F.Flash.state c.args.flash.now in
    can_header old (g.F.Flash.state c.push_last.new.flash) c.args.rest.now c.args.set.now (g.met.F.Flash.lawful c.args.flash.now) c.requires.placed c.requires.ahead c.requires.whole
    (last_units old.geometry.prog c.args.set.now.key c.args.set.now.fed c.args.rest.now) (last_room old c.args.rest.now c.args.set.now c.requires.placed c.requires.whole) c.in_ok-push_last.ensures.programs

pub returns-in_err-program_header-clause-appends : goal.returns-in_err-program_header-clause-appends
returns-in_err-program_header-clause-appends g c bytes holds =
    let old = g.F.Flash.state c.args.flash.now in
    let mid = g.F.Flash.state c.push_last.new.flash in
    let new = g.F.Flash.state c.program_header.new.flash in
    let fault : IfErr c.from_residual-in_err-program_header.result (λ f. f ≡ Write) = search rules in
    appended_handed old new c.args.set.now bytes c.in_err-program_header.field-0.0 c.from_residual-in_err-program_header.result c.from_residual-in_err-program_header.ensures.0 fault c.in_err-program_header.ensures.cause.0
    (record_finished old mid new c.args.rest.now c.args.set.now bytes (g.met.F.Flash.lawful c.args.flash.now) (g.met.F.Flash.lawful c.push_last.new.flash) holds c.requires.whole c.in_ok-push_last.ensures.programs (Err c.in_err-program_header.field-0.0) c.in_err-program_header.ensures)

pub returns-clause-appends : goal.returns-clause-appends
returns-clause-appends g c bytes holds =
    let old = g.F.Flash.state c.args.flash.now in
    let mid = g.F.Flash.state c.push_last.new.flash in
    let new = g.F.Flash.state c.program_header.new.flash in
    record_finished old mid new c.args.rest.now c.args.set.now bytes (g.met.F.Flash.lawful c.args.flash.now) (g.met.F.Flash.lawful c.push_last.new.flash) holds c.requires.whole c.in_ok-push_last.ensures.programs (Ok c.in_ok-program_header.field-0) c.in_ok-program_header.ensures
