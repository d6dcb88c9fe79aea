use Rattle.std.proofs.Common.{◌≡◌, ℕ, ◌+◌, ◌-◌, ◌%◌, List, length, take, sym, ◌∙◌, ap, subst, arith, rules}
use Rattle.std.specs.Prelude.{IfErr}
use Rattle.base_core.specs.Units.{IsMultipleOf}
use Rattle.flash_core.specs.declared.flash.FlashFault.TheVariants.{Write}
use Rattle.flash_core.specs.Runs.{Done, fault_ending}
use Rattle.flash_core.proofs.GeometryLaws.{prog_positive}
use Rattle.record_core.specs.Written.{CanWrite}
use Rattle.inc_set.specs.Programs.{Programs}
use Rattle.inc_set.specs.Units.{IsHeld}
use Rattle.inc_set.proofs.AscendLemmas.{programs_handed}
use Rattle.inc_set.proofs.PushLemmas.{cut_rest, cut_units}
use Rattle.inc_set.proofs.UnitLemmas.{whole_units-whole}
use Rattle.inc_set.proofs.units.push_whole.Goals as goal

pub program_units-requires-clause-whole : goal.program_units-requires-clause-whole
program_units-requires-clause-whole g c =
    let old = g.F.Flash.state c.args.flash.now in
    let is = c.split_at.ensures.front ∙ cut_units old.geometry.prog c.args.bytes.now _ (ap (λ (n : ℕ). length c.args.bytes.now - length c.args.bytes.now % n) c.requires.unit) in
    subst (λ (l : List ℕ). IsMultipleOf old.geometry.prog (length l)) (sym is) (whole_units-whole old.geometry.prog (prog_positive old.geometry c.requires.valid) c.args.bytes.now)

pub program_units-requires-clause-can : goal.program_units-requires-clause-can
program_units-requires-clause-can g c =
    let old = g.F.Flash.state c.args.flash.now in
    let is = c.split_at.ensures.front ∙ cut_units old.geometry.prog c.args.bytes.now _ (ap (λ (n : ℕ). length c.args.bytes.now - length c.args.bytes.now % n) c.requires.unit) in
    subst (λ (l : List ℕ). CanWrite old c.args.place (length l)) (sym is) c.requires.can

pub returns-in_err-program_units-clause-programs : goal.returns-in_err-program_units-clause-programs
returns-in_err-program_units-clause-programs g c =
    let old = g.F.Flash.state c.args.flash.now in
    let new = g.F.Flash.state c.program_units.new.flash in
    let is = c.split_at.ensures.front ∙ cut_units old.geometry.prog c.args.bytes.now _ (ap (λ (n : ℕ). length c.args.bytes.now - length c.args.bytes.now % n) c.requires.unit) in
    let fault : IfErr c.from_residual.result (λ f. f ≡ Write) = search rules in
    programs_handed c.from_residual.result c.from_residual.ensures.0 fault c.in_err-program_units.ensures.fault
    (subst (λ (l : List ℕ). Programs old new c.args.place l (fault_ending c.in_err-program_units.field-0.0)) is c.in_err-program_units.ensures.programs)

pub returns-clause-programs : goal.returns-clause-programs
returns-clause-programs g c =
    let old = g.F.Flash.state c.args.flash.now in
    let is = c.split_at.ensures.front ∙ cut_units old.geometry.prog c.args.bytes.now _ (ap (λ (n : ℕ). length c.args.bytes.now - length c.args.bytes.now % n) c.requires.unit) in
    subst (λ (l : List ℕ). Programs old (g.F.Flash.state c.program_units.new.flash) c.args.place l Done) is c.in_ok-program_units.ensures.programs

pub returns-clause-rest : goal.returns-clause-rest
returns-clause-rest g c =
    let old = g.F.Flash.state c.args.flash.now in
    let is = c.split_at.ensures.back ∙ cut_rest old.geometry.prog c.args.bytes.now _ (ap (λ (n : ℕ). length c.args.bytes.now - length c.args.bytes.now % n) c.requires.unit) in
    let size : 0 + length c.split_at.result.1.now ≡ length c.split_at.result.1.now = omega arith in
    subst (IsHeld c.copy_at.new.units) is (ap (λ (n : ℕ). take n c.copy_at.new.units) (sym size) ∙ c.copy_at.ensures.front)
