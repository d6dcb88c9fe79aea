use Rattle.std.proofs.Common.{◌≡◌, ℕ, List, [], length, take, sym, ◌∙◌, ap, subst, arith, rules}
use Rattle.std.specs.Prelude.{Err, Ok, IfErr}
use Rattle.flash_core.specs.declared.flash.FlashFault.TheVariants.{Write}
use Rattle.flash_core.specs.Runs.{Done, fault_ending}
use Rattle.flash_core.proofs.GeometryLaws.{prog_positive}
use Rattle.record_core.specs.Record.{padded}
use Rattle.record_core.specs.Written.{CanWrite}
use Rattle.inc_set.specs.Programs.{Programs}
use Rattle.inc_set.proofs.AscendLemmas.{programs_handed, programs_none, programs_once}
use Rattle.inc_set.proofs.SealLemmas.{can_rest, pad_long, padded_nothing, padded_unit}
use Rattle.inc_set.proofs.payload.program_rest.Goals as goal

pub returns-then-held-eq0-clause-programs : goal.returns-then-held-eq0-clause-programs
returns-then-held-eq0-clause-programs g c =
    let old = g.F.Flash.state c.args.flash.now in
    let none : c.args.held ≡ 0 = omega (arith, c.if-held-eq0.true) in
    let is : padded old.geometry.prog (take c.args.held c.args.rest.now) ≡ [] = ap (λ (n : ℕ). padded old.geometry.prog (take n c.args.rest.now)) none ∙ padded_nothing old.geometry.prog (prog_positive old.geometry c.requires.valid) c.args.rest.now in
    subst (λ (l : List ℕ). Programs old old c.args.place l Done) (sym is) (programs_none old c.args.place)

pub program-requires : goal.program-requires
program-requires g c =
    let old = g.F.Flash.state c.args.flash.now in
    let is = padded_unit old.geometry.prog c.args.held c.args.rest.now c.requires.unit (omega (arith, c.if-held-eq0.false)) c.requires.held ∙ sym c.pad.ensures in
    let long : length c.pad.new.rest ≡ old.geometry.prog = ap length c.pad.ensures ∙ pad_long c.args.held c.args.rest.now (omega (arith, c.requires.held)) ∙ c.requires.unit in
    can_rest old c.args.place c.pad.new.rest c.requires.valid long (subst (λ (l : List ℕ). CanWrite old c.args.place (length l)) is c.requires.can)

pub returns-in_err-program-clause-programs : goal.returns-in_err-program-clause-programs
returns-in_err-program-clause-programs g c =
    let old = g.F.Flash.state c.args.flash.now in
    let new = g.F.Flash.state c.program.new.self in
    let is = padded_unit old.geometry.prog c.args.held c.args.rest.now c.requires.unit (omega (arith, c.if-held-eq0.false)) c.requires.held ∙ sym c.pad.ensures in
    let long : length c.pad.new.rest ≡ old.geometry.prog = ap length c.pad.ensures ∙ pad_long c.args.held c.args.rest.now (omega (arith, c.requires.held)) ∙ c.requires.unit in
    let can = can_rest old c.args.place c.pad.new.rest c.requires.valid long (subst (λ (l : List ℕ). CanWrite old c.args.place (length l)) is c.requires.can) in
    let fault : IfErr c.from_residual.result (λ f. f ≡ Write) = search rules in
    programs_handed c.from_residual.result c.from_residual.ensures.0 fault c.in_err-program.ensures.cause.0
    (subst (λ (l : List ℕ). Programs old new c.args.place l (fault_ending c.in_err-program.field-0.0)) (sym is)
    (programs_once (Err c.in_err-program.field-0.0) (g.met.F.Flash.lawful c.args.flash.now) c.in_err-program.ensures can.length_aligned can.inside))

pub returns-clause-programs : goal.returns-clause-programs
returns-clause-programs g c =
    let old = g.F.Flash.state c.args.flash.now in
    let new = g.F.Flash.state c.program.new.self in
    let is = padded_unit old.geometry.prog c.args.held c.args.rest.now c.requires.unit (omega (arith, c.if-held-eq0.false)) c.requires.held ∙ sym c.pad.ensures in
    let long : length c.pad.new.rest ≡ old.geometry.prog = ap length c.pad.ensures ∙ pad_long c.args.held c.args.rest.now (omega (arith, c.requires.held)) ∙ c.requires.unit in
    let can = can_rest old c.args.place c.pad.new.rest c.requires.valid long (subst (λ (l : List ℕ). CanWrite old c.args.place (length l)) is c.requires.can) in
    subst (λ (l : List ℕ). Programs old new c.args.place l Done) (sym is)
    (programs_once (Ok c.in_ok-program.field-0) (g.met.F.Flash.lawful c.args.flash.now) c.in_ok-program.ensures can.length_aligned can.inside)
