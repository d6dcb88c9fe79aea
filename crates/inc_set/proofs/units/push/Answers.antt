use Rattle.std.proofs.Common.{◌≡◌, ℕ, List, sym, ◌∙◌, ap, subst, arith, rules}
use Rattle.std.specs.Prelude.{IfErr}
use Rattle.flash_core.specs.declared.flash.FlashFault.TheVariants.{Write}
use Rattle.flash_core.specs.declared.geometry.Geometry.{Geometry}
use Rattle.flash_core.specs.Runs.{Done}
use Rattle.inc_set.specs.Programs.{Programs}
use Rattle.inc_set.specs.Units.{IsHeld, rest_of}
use Rattle.inc_set.proofs.AscendLemmas.{programs_handed, programs_none}
use Rattle.inc_set.proofs.PushLemmas.{all_held, can_others, can_unit, completed, nothing_whole, rest_then, unit_alone, unit_and_others}
use Rattle.inc_set.proofs.units.push.Goals as goal

pub returns-then-bytes-missing-clause-programs : goal.returns-then-bytes-missing-clause-programs
returns-then-bytes-missing-clause-programs g c =
    let old = g.F.Flash.state c.args.flash.now in
    subst (λ (l : List ℕ). Programs old old c.args.place l Done) (sym (nothing_whole old.geometry.prog c.args.held c.args.rest.now c.args.bytes.now c.requires.unit c.requires.held c.if-bytes-missing.true))
    (programs_none old c.args.place)

pub returns-then-bytes-missing-clause-rest : goal.returns-then-bytes-missing-clause-rest
returns-then-bytes-missing-clause-rest g c =
    all_held (g.F.Flash.state c.args.flash.now).geometry.prog c.args.held c.args.rest.now c.args.bytes.now c.requires.unit c.requires.held c.if-bytes-missing.true c.copy_at.new.units c.copy_at.ensures.front

pub program-requires : goal.program-requires
program-requires g c =
    let done = completed _ c.args.held c.args.rest.now c.args.bytes.now c.split_at.result.0.now c.split_at.result.1.now c.copy_at-2.new.units c.requires.unit c.requires.held (omega (arith, c.if-bytes-missing.false)) c.split_at.ensures.front c.split_at.ensures.back c.copy_at-2.ensures.front c.copy_at-2.ensures.len in
    can_unit (g.F.Flash.state c.args.flash.now) c.args.place c.args.held c.args.rest.now c.args.bytes.now c.copy_at-2.new.units c.split_at.result.1.now c.requires.valid done c.requires.can

pub returns-in_err-program-clause-programs : goal.returns-in_err-program-clause-programs
returns-in_err-program-clause-programs g c =
    let done = completed _ c.args.held c.args.rest.now c.args.bytes.now c.split_at.result.0.now c.split_at.result.1.now c.copy_at-2.new.units c.requires.unit c.requires.held (omega (arith, c.if-bytes-missing.false)) c.split_at.ensures.front c.split_at.ensures.back c.copy_at-2.ensures.front c.copy_at-2.ensures.len in
    let fault : IfErr c.from_residual-in_err-program.result (λ f. f ≡ Write) = search rules in
    programs_handed c.from_residual-in_err-program.result c.from_residual-in_err-program.ensures.0 fault c.in_err-program.ensures.cause.0
    (unit_alone (g.F.Flash.state c.args.flash.now) c.args.place c.args.held c.args.rest.now c.args.bytes.now c.copy_at-2.new.units c.split_at.result.1.now c.requires.valid done c.requires.can (g.met.F.Flash.lawful c.args.flash.now) c.in_err-program.field-0.0 c.in_err-program.ensures)

pub push_whole-requires-2-clause-can : goal.push_whole-requires-2-clause-can
push_whole-requires-2-clause-can g c =
    let done = completed _ c.args.held c.args.rest.now c.args.bytes.now c.split_at.result.0.now c.split_at.result.1.now c.copy_at-2.new.units c.requires.unit c.requires.held (omega (arith, c.if-bytes-missing.false)) c.split_at.ensures.front c.split_at.ensures.back c.copy_at-2.ensures.front c.copy_at-2.ensures.len in
    can_others (g.F.Flash.state c.args.flash.now) c.args.place c.args.held c.args.rest.now c.args.bytes.now c.copy_at-2.new.units c.split_at.result.1.now c.requires.valid done c.requires.can (g.F.Flash.state c.program.new.self) c.in_ok-program.field-0 (g.met.F.Flash.lawful c.args.flash.now) c.in_ok-program.ensures

pub returns-in_err-push_whole-2-clause-programs : goal.returns-in_err-push_whole-2-clause-programs
returns-in_err-push_whole-2-clause-programs g c =
    let done = completed _ c.args.held c.args.rest.now c.args.bytes.now c.split_at.result.0.now c.split_at.result.1.now c.copy_at-2.new.units c.requires.unit c.requires.held (omega (arith, c.if-bytes-missing.false)) c.split_at.ensures.front c.split_at.ensures.back c.copy_at-2.ensures.front c.copy_at-2.ensures.len in
    let fault : IfErr c.from_residual-in_err-push_whole-2.result (λ f. f ≡ Write) = search rules in
    programs_handed c.from_residual-in_err-push_whole-2.result c.from_residual-in_err-push_whole-2.ensures.0 fault c.in_err-push_whole-2.ensures.fault
    (unit_and_others (g.F.Flash.state c.args.flash.now) c.args.place c.args.held c.args.rest.now c.args.bytes.now c.copy_at-2.new.units c.split_at.result.1.now c.requires.valid done c.requires.can (g.F.Flash.state c.program.new.self) c.in_ok-program.field-0 (g.met.F.Flash.lawful c.args.flash.now) c.in_ok-program.ensures c.in_err-push_whole-2.ensures.programs)

pub returns-clause-programs : goal.returns-clause-programs
returns-clause-programs g c =
    let done = completed _ c.args.held c.args.rest.now c.args.bytes.now c.split_at.result.0.now c.split_at.result.1.now c.copy_at-2.new.units c.requires.unit c.requires.held (omega (arith, c.if-bytes-missing.false)) c.split_at.ensures.front c.split_at.ensures.back c.copy_at-2.ensures.front c.copy_at-2.ensures.len in
    unit_and_others (g.F.Flash.state c.args.flash.now) c.args.place c.args.held c.args.rest.now c.args.bytes.now c.copy_at-2.new.units c.split_at.result.1.now c.requires.valid done c.requires.can (g.F.Flash.state c.program.new.self) c.in_ok-program.field-0 (g.met.F.Flash.lawful c.args.flash.now) c.in_ok-program.ensures c.in_ok-push_whole-2.ensures.programs

pub returns-clause-rest : goal.returns-clause-rest
returns-clause-rest g c =
    let old = g.F.Flash.state c.args.flash.now in
    let mid = g.F.Flash.state c.program.new.self in
    let done = completed _ c.args.held c.args.rest.now c.args.bytes.now c.split_at.result.0.now c.split_at.result.1.now c.copy_at-2.new.units c.requires.unit c.requires.held (omega (arith, c.if-bytes-missing.false)) c.split_at.ensures.front c.split_at.ensures.back c.copy_at-2.ensures.front c.copy_at-2.ensures.len in
    let same : rest_of mid.geometry.prog c.split_at.result.1.now ≡ rest_of old.geometry.prog c.split_at.result.1.now = ap (λ (x : Geometry). rest_of x.prog c.split_at.result.1.now) c.in_ok-program.ensures.kept.geometry in
    subst (IsHeld c.push_whole-2.new.rest) (same ∙ sym (rest_then old.geometry.prog c.args.held c.args.rest.now c.args.bytes.now c.copy_at-2.new.units c.split_at.result.1.now done)) c.in_ok-push_whole-2.ensures.rest
