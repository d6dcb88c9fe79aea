use Rattle.std.proofs.Common.{◌≡◌, ℕ, ◌+◌, ◌%◌, length, take, sym, ◌∙◌, ap, subst, rules}
use Rattle.std.specs.Prelude.{IfErr}
use Rattle.base_core.specs.Units.{up}
use Rattle.flash_core.specs.declared.flash.FlashFault.TheVariants.{Write}
use Rattle.flash_core.specs.Runs.{Done, Ending, fault_ending}
use Rattle.record_core.specs.Record.{padded}
use Rattle.record_core.specs.Written.{CanWrite}
use Rattle.inc_set.specs.Programs.{Programs}
use Rattle.inc_set.specs.Sets.{done_size, payload_place}
use Rattle.inc_set.specs.Units.{key_units, whole_size}
use Rattle.inc_set.proofs.AscendLemmas.{programs_handed, programs_widen}
use Rattle.inc_set.proofs.SealLemmas.{can_left, left_pushed}
use Rattle.inc_set.proofs.SetLemmas.{held_is, place_is}
use Rattle.inc_set.proofs.payload.push_last.Goals as goal

pub returns-in_err-program_key-clause-programs : goal.returns-in_err-program_key-clause-programs
returns-in_err-program_key-clause-programs g c =
    let old = g.F.Flash.state c.args.flash.now in
    let new = g.F.Flash.state c.program_key.new.flash in
    let set = c.args.set.now in
    let prog : ℕ = old.geometry.prog in
    let fault : IfErr c.from_residual.result (λ f. f ≡ Write) = search rules in
    let at : set.at + c.padded_size.result ≡ payload_place prog set = ap (λ (n : ℕ). set.at + n) (c.padded_size.ensures ∙ ap (λ (n : ℕ). up n 24) c.requires.placed.unit) in
    programs_handed c.from_residual.result c.from_residual.ensures.0 fault c.in_err-program_key.ensures.fault
    (programs_widen c.in_err-program_key.field-0.0 _
    (subst (λ (p : ℕ). Programs old new (p + done_size prog set) (key_units prog set.key set.fed) (fault_ending c.in_err-program_key.field-0.0)) at c.in_err-program_key.ensures.programs))

pub program_rest-requires-clause-can : goal.program_rest-requires-clause-can
program_rest-requires-clause-can g c =
    let old = g.F.Flash.state c.args.flash.now in
    let mid = g.F.Flash.state c.program_key.new.flash in
    let set = c.args.set.now in
    let prog : ℕ = old.geometry.prog in
    let at : set.at + c.padded_size.result ≡ payload_place prog set = ap (λ (n : ℕ). set.at + n) (c.padded_size.ensures ∙ ap (λ (n : ℕ). up n 24) c.requires.placed.unit) in
    let first : Programs old mid (payload_place prog set + done_size prog set) (key_units prog set.key set.fed) Done = subst (λ (p : ℕ). Programs old mid (p + done_size prog set) (key_units prog set.key set.fed) Done) at c.in_ok-program_key.ensures.programs in
    subst (λ (p : ℕ). CanWrite mid p (length (padded mid.geometry.prog (take ((length c.as_slice.result.now + set.fed) % length c.args.rest.now) c.args.rest.now)))) (sym (place_is set prog _ c.padded_size.result c.as_slice.result.now c.requires.placed.unit c.as_slice.ensures.bytes c.padded_size.ensures))
    (subst (λ (n : ℕ). CanWrite mid (payload_place prog set + whole_size prog (length set.key + set.fed)) (length (padded mid.geometry.prog (take n c.args.rest.now)))) (sym (held_is set prog _ c.as_slice.result.now c.requires.placed.unit c.as_slice.ensures.bytes))
    (can_left old c.args.rest.now set c.requires.placed c.requires.whole c.requires.ahead (g.met.F.Flash.lawful c.args.flash.now) mid first))

pub returns-in_err-program_rest-clause-programs : goal.returns-in_err-program_rest-clause-programs
returns-in_err-program_rest-clause-programs g c =
    let old = g.F.Flash.state c.args.flash.now in
    let mid = g.F.Flash.state c.program_key.new.flash in
    let new = g.F.Flash.state c.program_rest.new.flash in
    let set = c.args.set.now in
    let prog : ℕ = old.geometry.prog in
    let ending : Ending = fault_ending c.in_err-program_rest.field-0.0 in
    let at : set.at + c.padded_size.result ≡ payload_place prog set = ap (λ (n : ℕ). set.at + n) (c.padded_size.ensures ∙ ap (λ (n : ℕ). up n 24) c.requires.placed.unit) in
    let first : Programs old mid (payload_place prog set + done_size prog set) (key_units prog set.key set.fed) Done = subst (λ (p : ℕ). Programs old mid (p + done_size prog set) (key_units prog set.key set.fed) Done) at c.in_ok-program_key.ensures.programs in
    let fault : IfErr c.from_residual-in_err-program_rest.result (λ f. f ≡ Write) = search rules in
    programs_handed c.from_residual-in_err-program_rest.result c.from_residual-in_err-program_rest.ensures.0 fault c.in_err-program_rest.ensures.fault
    (left_pushed old c.args.rest.now set c.requires.placed c.requires.whole c.requires.ahead (g.met.F.Flash.lawful c.args.flash.now) mid first
    (subst (λ (n : ℕ). Programs mid new (payload_place prog set + whole_size prog (length set.key + set.fed)) (padded mid.geometry.prog (take n c.args.rest.now)) ending) (held_is set prog _ c.as_slice.result.now c.requires.placed.unit c.as_slice.ensures.bytes)
    (subst (λ (p : ℕ). Programs mid new p (padded mid.geometry.prog (take ((length c.as_slice.result.now + set.fed) % length c.args.rest.now) c.args.rest.now)) ending) (place_is set prog _ c.padded_size.result c.as_slice.result.now c.requires.placed.unit c.as_slice.ensures.bytes c.padded_size.ensures) c.in_err-program_rest.ensures.programs)))

pub returns-clause-programs : goal.returns-clause-programs
returns-clause-programs g c =
    let old = g.F.Flash.state c.args.flash.now in
    let mid = g.F.Flash.state c.program_key.new.flash in
    let new = g.F.Flash.state c.program_rest.new.flash in
    let set = c.args.set.now in
    let prog : ℕ = old.geometry.prog in
    let at : set.at + c.padded_size.result ≡ payload_place prog set = ap (λ (n : ℕ). set.at + n) (c.padded_size.ensures ∙ ap (λ (n : ℕ). up n 24) c.requires.placed.unit) in
    let first : Programs old mid (payload_place prog set + done_size prog set) (key_units prog set.key set.fed) Done = subst (λ (p : ℕ). Programs old mid (p + done_size prog set) (key_units prog set.key set.fed) Done) at c.in_ok-program_key.ensures.programs in
    left_pushed old c.args.rest.now set c.requires.placed c.requires.whole c.requires.ahead (g.met.F.Flash.lawful c.args.flash.now) mid first
    (subst (λ (n : ℕ). Programs mid new (payload_place prog set + whole_size prog (length set.key + set.fed)) (padded mid.geometry.prog (take n c.args.rest.now)) Done) (held_is set prog _ c.as_slice.result.now c.requires.placed.unit c.as_slice.ensures.bytes)
    (subst (λ (p : ℕ). Programs mid new p (padded mid.geometry.prog (take ((length c.as_slice.result.now + set.fed) % length c.args.rest.now) c.args.rest.now)) Done) (place_is set prog _ c.padded_size.result c.as_slice.result.now c.requires.placed.unit c.as_slice.ensures.bytes c.padded_size.ensures) c.in_ok-program_rest.ensures.programs))
