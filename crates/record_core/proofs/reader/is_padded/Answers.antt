use Rattle.std.proofs.Common.{◌≡◌, ◌↔◌, ℕ, ◌+◌, ◌-◌, replicate, IsTrue, Bool, false, refl, ◌∙◌, ap, subst}
use Rattle.std.specs.Prelude.{IfOk}
use mathlib.Core.Bool.{false≢true}
use Rattle.flash_core.specs.declared.geometry.Geometry.{Geometry}
use Rattle.flash_core.specs.Images.{part}
use Rattle.base_core.specs.Units.{up}
use Rattle.record_core.proofs.ReaderLemmas.{both_padded}
use Rattle.record_core.proofs.reader.is_padded.Goals as goal

pub returns-then-not-branch-clause-padded : goal.returns-then-not-branch-clause-padded
returns-then-not-branch-clause-padded g c image told =
    let prog = ap (λ (x : Geometry). x.prog) c.geometry-prog.ensures in
    let header = subst (λ (p : ℕ). IsTrue false ↔ (part image (c.args.place + 24) (up p 24 - 24) ≡ replicate (up p 24 - 24) 255)) prog
    (subst (λ (b : Bool). IsTrue b ↔ (part image (c.args.place + 24) (up c.geometry-prog.result.prog 24 - 24) ≡ replicate (up c.geometry-prog.result.prog 24 - 24) 255)) c.if-not-branch.true
    (c.in_ok-is_padded_to_units.ensures.padded image told)) in
    (λ yes. absurd (false≢true yes), λ pad. header.1 pad.header)

pub returns-clause-padded : goal.returns-clause-padded
returns-clause-padded g c image told =
    let s = g.F.Flash.state c.args.flash.now in
    let place : ℕ = c.args.place in
    let size : ℕ = c.args.size in
    let prog = ap (λ (x : Geometry). x.prog) c.geometry-prog.ensures in
    let header = (subst (λ (b : Bool). IsTrue b ↔ (part image (place + 24) (up c.geometry-prog.result.prog 24 - 24) ≡ replicate (up c.geometry-prog.result.prog 24 - 24) 255)) c.if-not-branch.false
    (c.in_ok-is_padded_to_units.ensures.padded image told)).0 refl in
    let now = c.in_ok-is_padded_to_units.ensures.reads.kept.image ∙ told in
    let payload = subst (λ (n : ℕ). IfOk c.is_padded_to_units-2.result (λ is_padded. IsTrue is_padded ↔ (part image (place + n + size) (up c.geometry-prog.result.prog size - size) ≡ replicate (up c.geometry-prog.result.prog size - size) 255)))
    c.padded_size.ensures (c.is_padded_to_units-2.ensures.padded image now) in
    both_padded s.geometry.prog image place size
    (subst (λ (p : ℕ). part image (place + 24) (up p 24 - 24) ≡ replicate (up p 24 - 24) 255) prog header)
    c.is_padded_to_units-2.result
    (subst (λ (p : ℕ). IfOk c.is_padded_to_units-2.result (λ is_padded. IsTrue is_padded ↔ (part image (place + up p 24 + size) (up p size - size) ≡ replicate (up p size - size) 255))) prog payload)
