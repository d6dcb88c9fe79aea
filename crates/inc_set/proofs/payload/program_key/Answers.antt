use Rattle.std.proofs.Common.{◌≡◌, ℕ, zero, suc, ◌+◌, ◌-◌, ◌%◌, ◌<◌, List, [], length, take, refl, sym, ◌∙◌, ap, subst, arith, rules}
use Rattle.std.specs.Prelude.{IfErr}
use Rattle.base_core.specs.Units.{IsMultipleOf}
use Rattle.flash_core.specs.declared.flash.FlashFault.TheVariants.{Write}
use Rattle.flash_core.specs.Runs.{Done, Ending, fault_ending}
use Rattle.flash_core.specs.State.{FlashState}
use Rattle.flash_core.proofs.GeometryLaws.{prog_positive}
use Rattle.record_core.specs.Written.{CanWrite}
use Rattle.inc_set.specs.declared.open_set.OpenSet.{OpenSet}
use Rattle.inc_set.specs.Programs.{Programs}
use Rattle.inc_set.specs.Sets.{IsPlaced, done_size, payload_place}
use Rattle.inc_set.specs.Units.{key_units, programmed_size, whole_units}
use Rattle.inc_set.proofs.AscendLemmas.{programs_handed, programs_none}
use Rattle.inc_set.proofs.PushLemmas.{cut_units}
use Rattle.inc_set.proofs.SetLemmas.{can_key}
use Rattle.inc_set.proofs.UnitLemmas.{whole_units-whole}
use Rattle.inc_set.proofs.payload.program_key.Goals as goal

no_key_units : (prog : ℕ) (key : List ℕ) (n : ℕ) → 0 < n → key_units prog key n ≡ []
no_key_units prog key zero some = absurd (omega (arith, some))
no_key_units prog key (suc n) some = refl

pub returns-then-set-gt0-clause-programs : goal.returns-then-set-gt0-clause-programs
returns-then-set-gt0-clause-programs g c =
    let old = g.F.Flash.state c.args.flash.now in
    subst (λ (l : List ℕ). Programs old old (c.args.place + done_size old.geometry.prog c.args.set.now) l Done) (sym (no_key_units old.geometry.prog c.args.set.now.key c.args.set.now.fed c.if-set-gt0.true))
    (programs_none old (c.args.place + done_size old.geometry.prog c.args.set.now))

-- the piece of the key is its whole units
piece_is : (prog unit : ℕ) (key lent : List ℕ) → unit ≡ prog → lent ≡ key → take (length lent - length lent % unit) lent ≡ whole_units prog key
piece_is prog unit key lent unit_is lent_is =
    cut_units prog lent _ (ap (λ (n : ℕ). length lent - length lent % n) unit_is) ∙ ap (whole_units prog) lent_is

pub program_units-requires-clause-whole : goal.program_units-requires-clause-whole
program_units-requires-clause-whole g c =
    let old = g.F.Flash.state c.args.flash.now in
    let is = piece_is old.geometry.prog c.args.prog c.args.set.now.key c.as_slice-key.result.now c.requires.unit c.as_slice-key.ensures.bytes in
    subst (λ (l : List ℕ). IsMultipleOf old.geometry.prog (length l)) (sym is) (whole_units-whole old.geometry.prog (prog_positive old.geometry c.requires.placed.1.valid) c.args.set.now.key)

pub program_units-requires-clause-can : goal.program_units-requires-clause-can
program_units-requires-clause-can g c =
    let old = g.F.Flash.state c.args.flash.now in
    let is = piece_is old.geometry.prog c.args.prog c.args.set.now.key c.as_slice-key.result.now c.requires.unit c.as_slice-key.ensures.bytes in
    let none : c.args.set.now.fed ≡ 0 = omega (arith, c.if-set-gt0.false) in
    subst (λ (l : List ℕ). CanWrite old c.args.place (length l)) (sym is)
    (subst (λ (p : ℕ). CanWrite old p (length (whole_units old.geometry.prog c.args.set.now.key))) (sym c.requires.place)
    (can_key old c.requires.placed.0 c.args.set.now c.requires.placed.1 c.requires.ahead none))

-- the units that were programmed are those of the key, where they are to stand
moved : (old new : FlashState) (set : OpenSet) (place : ℕ) (units : List ℕ) (ending : Ending) → (rest : List ℕ) → IsPlaced old.geometry rest set → set.fed ≡ 0 → place ≡ payload_place old.geometry.prog set → units ≡ whole_units old.geometry.prog set.key
    → Programs old new place units ending → Programs old new (place + done_size old.geometry.prog set) (key_units old.geometry.prog set.key set.fed) ending
moved old new set place units ending rest placed none at is programs =
    let nothing : done_size old.geometry.prog set ≡ 0 = ap (programmed_size old.geometry.prog (length set.key)) none in
    let same : place ≡ place + done_size old.geometry.prog set = omega (arith, nothing) in
    let all : units ≡ key_units old.geometry.prog set.key set.fed = is ∙ sym (ap (key_units old.geometry.prog set.key) none) in
    subst (λ (p : ℕ). Programs old new p (key_units old.geometry.prog set.key set.fed) ending) same
    (subst (λ (l : List ℕ). Programs old new place l ending) all programs)

pub returns-in_err-program_units-clause-programs : goal.returns-in_err-program_units-clause-programs
returns-in_err-program_units-clause-programs g c =
    let old = g.F.Flash.state c.args.flash.now in
    let is = piece_is old.geometry.prog c.args.prog c.args.set.now.key c.as_slice-key.result.now c.requires.unit c.as_slice-key.ensures.bytes in
    let none : c.args.set.now.fed ≡ 0 = omega (arith, c.if-set-gt0.false) in
    let fault : IfErr c.from_residual.result (λ f. f ≡ Write) = search rules in
    programs_handed c.from_residual.result c.from_residual.ensures.0 fault c.in_err-program_units.ensures.fault
    (moved old (g.F.Flash.state c.program_units.new.flash) c.args.set.now c.args.place _ (fault_ending c.in_err-program_units.field-0.0) c.requires.placed.0 c.requires.placed.1 none c.requires.place is c.in_err-program_units.ensures.programs)

pub returns-clause-programs : goal.returns-clause-programs
returns-clause-programs g c =
    let old = g.F.Flash.state c.args.flash.now in
    let is = piece_is old.geometry.prog c.args.prog c.args.set.now.key c.as_slice-key.result.now c.requires.unit c.as_slice-key.ensures.bytes in
    let none : c.args.set.now.fed ≡ 0 = omega (arith, c.if-set-gt0.false) in
    moved old (g.F.Flash.state c.program_units.new.flash) c.args.set.now c.args.place _ Done c.requires.placed.0 c.requires.placed.1 none c.requires.place is c.in_ok-program_units.ensures.programs
