use Rattle.std.proofs.Common.{◌≡◌, ℕ, ◌+◌, ◌≤◌, List, length, inl, inr, refl, sym, ◌∙◌, ap, arith, rules, subst}
use Rattle.std.specs.Prelude.{Some, Result, Ok, Err, IfErr}
use Rattle.std.specs.Option.{ForSome}
use Rattle.flash_core.specs.declared.flash.FlashFault.{FlashFault}
use Rattle.flash_core.specs.declared.flash.FlashFault.TheVariants.{Write}
use Rattle.flash_core.specs.Calls.{IsMomentWithin, Writes}
use Rattle.flash_core.specs.Runs.{Done, RunsBy, ended}
use Rattle.flash_core.specs.State.{FlashState}
use Rattle.flash_core.specs.TwoPrograms.{IsHeaderLast, payload_put}
use Rattle.flash_core.proofs.ImageLaws.{length-put}
use Rattle.flash_core.proofs.KeptLaws.{CanProgram-after, told_before}
use Rattle.flash_core.proofs.RunLaws.{handed_on, one_write, runs_more}
use Rattle.flash_core.proofs.two_programs.program_payload_then_header.Goals as goal

pub program-requires-2 : goal.program-requires-2
program-requires-2 g c =
    let old = c.args.flash.now in
    CanProgram-after c.args.place (length c.args.header.now) (g.met.F.Flash.lawful old) c.in_ok-program.ensures c.requires.payload.inside (inl (omega arith)) c.requires.header

some_is : {X : Type 0} (x y : X) → Some x ≡ Some y → x ≡ y
some_is x y same = cc

-- the payload's program
payload_runs : {T : Type 0} (old mid : FlashState) (place : ℕ) (header payload : List ℕ) (result : Result T FlashFault) → Writes old mid (place + length header) payload result → ForSome old.image (λ image. place + length header + length payload ≤ length image)
    → RunsBy old mid (IsHeaderLast place header payload) (ended result)
payload_runs old mid place header payload result wrote fits =
    one_write (IsHeaderLast place header payload) result wrote fits (λ image told. inl (refl, refl)) (λ image told call c moment. inr (inl moment))

fits : (s : FlashState) (place n : ℕ) → ForSome s.image (λ image. length image ≡ n) → place ≤ n → ForSome s.image (λ image. place ≤ length image)
fits s place n sized inside image told = omega (arith, sized image told)

-- and then the header's
header_runs : {T U : Type 0} {x : U} (old mid new : FlashState) (place : ℕ) (header payload : List ℕ) (result : Result T FlashFault) → RunsBy old mid (IsHeaderLast place header payload) Done → Writes mid new place header result → Writes old mid (place + length header) payload (Ok x)
    → ForSome old.image (λ image. place + length header + length payload ≤ length image) → RunsBy old new (IsHeaderLast place header payload) (ended result)
header_runs old mid new place header payload result first wrote behind fits =
    runs_more result first wrote
    (λ now mid_told.
    let was = told_before behind.kept mid_told in
    let long = length-put was.0 (place + length header) payload (fits was.0 was.1) in
    let is : payload_put was.0 place header payload ≡ now = some_is (payload_put was.0 place header payload) now (sym (behind.written was.0 was.1) ∙ mid_told) in
    omega (arith, ap length is, long, fits was.0 was.1))
    (λ image now told mid_told was call c moment.
    let is : payload_put image place header payload ≡ now = some_is (payload_put image place header payload) now (sym (behind.written image told) ∙ mid_told) in
    inr (inr (subst (λ (l : List ℕ). IsMomentWithin l place header call c) (sym is) moment)))

pub returns-in_err-program-clause-runs : goal.returns-in_err-program-clause-runs
returns-in_err-program-clause-runs g c =
    let old = g.F.Flash.state c.args.flash.now in
    let mid = g.F.Flash.state c.program.new.self in
    let fault : IfErr c.from_residual.result (λ f. f ≡ Write) = search rules in
    handed_on c.from_residual.result c.from_residual.ensures.0 fault c.in_err-program.ensures.cause.0
    (payload_runs old mid c.args.place c.args.header.now c.args.payload.now (Err c.in_err-program.field-0.0) c.in_err-program.ensures
    (fits old _ _ (g.met.F.Flash.lawful c.args.flash.now).sized c.requires.payload.inside))

pub returns-clause-runs : goal.returns-clause-runs
returns-clause-runs g c =
    let old = g.F.Flash.state c.args.flash.now in
    let mid = g.F.Flash.state c.program.new.self in
    let lawful = g.met.F.Flash.lawful c.args.flash.now in
    let first = payload_runs old mid c.args.place c.args.header.now c.args.payload.now (Ok c.in_ok-program.field-0) c.in_ok-program.ensures
    (fits old _ _ lawful.sized c.requires.payload.inside) in
    header_runs old mid (g.F.Flash.state c.program-2.new.self) c.args.place c.args.header.now c.args.payload.now c.program-2.result first c.program-2.ensures c.in_ok-program.ensures
    (fits old _ _ lawful.sized c.requires.payload.inside)
