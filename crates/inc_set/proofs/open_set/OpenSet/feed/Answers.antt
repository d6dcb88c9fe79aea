use Rattle.std.proofs.Common.{◌≡◌, ℕ, ◌+◌, ◌≤◌, List, [], ◌∷◌, ◌++◌, length, refl, sym, ◌∙◌, ap, subst, arith, add-zero}
use Rattle.std.specs.Prelude.{false, ◌==◌}
use Rattle.std.proofs.lemmas.Bool.{eq-eqb, eqb-true}
use mathlib.Core.Bool.{false≢true}
use Rattle.flash_core.specs.declared.flash.FlashFault.{FlashFault}
use Rattle.flash_core.specs.Runs.{Done, fault_ending}
use Rattle.flash_core.proofs.GeometryLaws.{prog_positive}
use Rattle.kv_model.specs.Crc.{crc_from}
use Rattle.inc_set.specs.declared.open_set.OpenSet.{OpenSet}
use Rattle.inc_set.specs.Programs.{Programs}
use Rattle.inc_set.specs.Sets.{Holds, done_size, new_units, payload_place, with_bytes}
use Rattle.inc_set.specs.Units.{completed_units}
use Rattle.inc_set.proofs.AscendLemmas.{programs_none}
use Rattle.inc_set.proofs.FeedLemmas.{holds_more}
use Rattle.inc_set.proofs.SetLemmas.{new_is, new_none}
use Rattle.inc_set.proofs.open_set.OpenSet.feed.Goals as goal

no_bytes : (l : List ℕ) → length l ≡ 0 → l ≡ []
no_bytes [] none = refl
no_bytes (x ∷ l) none = absurd (omega (arith, none))

some_bytes : (l : List ℕ) → (length l == 0) ≡ false → 1 ≤ length l
some_bytes [] is = absurd (false≢true (sym is ∙ eq-eqb 0 0 refl))
some_bytes (x ∷ l) is = omega arith

with_nothing : (set : OpenSet) → set ≡ with_bytes set []
unfolding crc_from
with_nothing set = λ i. record { key = set.key; flags = set.flags; size = set.size; fed = sym (add-zero set.fed) i; at = set.at; crc = set.crc }

pub returns-then-is_empty-clause-set : goal.returns-then-is_empty-clause-set
returns-then-is_empty-clause-set g c =
    let none : c.args.bytes.now ≡ [] = no_bytes c.args.bytes.now (eqb-true (length c.args.bytes.now) 0 (sym c.is_empty.ensures ∙ c.if-is_empty.true)) in
    with_nothing c.args.self.now ∙ ap (with_bytes c.args.self.now) (sym none)

pub returns-then-is_empty-clause-feeds : goal.returns-then-is_empty-clause-feeds
returns-then-is_empty-clause-feeds g c before holds =
    let old = g.F.Flash.state c.args.flash.now in
    let set = c.args.self.now in
    let none : c.args.bytes.now ≡ [] = no_bytes c.args.bytes.now (eqb-true (length c.args.bytes.now) 0 (sym c.is_empty.ensures ∙ c.if-is_empty.true)) in
    let nothing : new_units old.geometry.prog set.key before c.args.bytes.now ≡ [] = ap (new_units old.geometry.prog set.key before) none ∙ new_none old.geometry.prog set.key before in
    subst (λ (l : List ℕ). Programs old old (payload_place old.geometry.prog set + done_size old.geometry.prog set) l Done) (sym nothing) (programs_none old (payload_place old.geometry.prog set + done_size old.geometry.prog set))

pub returns-in-Ok-clause-feeds : goal.returns-in-Ok-clause-feeds
returns-in-Ok-clause-feeds g c before holds =
    let old = g.F.Flash.state c.args.flash.now in
    let set = c.args.self.now in
    let some : 1 ≤ length c.args.bytes.now = some_bytes c.args.bytes.now (sym c.is_empty.ensures ∙ c.if-is_empty.false) in
    let is : completed_units old.geometry.prog set.key set.fed c.args.rest.now c.args.bytes.now ≡ new_units old.geometry.prog set.key before c.args.bytes.now =
    ap (λ (n : ℕ). completed_units old.geometry.prog set.key n c.args.rest.now c.args.bytes.now) holds.has.count
    ∙ new_is old.geometry.prog (prog_positive old.geometry c.requires.placed.valid) set.key before c.args.rest.now c.args.bytes.now some holds.has.waits in
    subst (λ (l : List ℕ). Programs old (g.F.Flash.state c.push_bytes.new.flash) (payload_place old.geometry.prog set + done_size old.geometry.prog set) l Done) is c.in-Ok.ensures.programs

pub returns-in-Ok-clause-holds : goal.returns-in-Ok-clause-holds
returns-in-Ok-clause-holds g c before holds =
    let old = g.F.Flash.state c.args.flash.now in
    let new = g.F.Flash.state c.push_bytes.new.flash in
    let set = c.args.self.now in
    let some : 1 ≤ length c.args.bytes.now = some_bytes c.args.bytes.now (sym c.is_empty.ensures ∙ c.if-is_empty.false) in
    subst (λ (n : ℕ). Holds new.geometry new.image c.push_bytes.new.rest (record { key = set.key; flags = set.flags; size = set.size; fed = set.fed + length c.args.bytes.now; at = set.at; crc = n }) (before ++ c.args.bytes.now)) (sym c.crc-self.ensures)
    (holds_more old new c.args.rest.now c.push_bytes.new.rest set before c.args.bytes.now (g.met.F.Flash.lawful c.args.flash.now) holds some c.requires.fits c.in-Ok.ensures.programs c.in-Ok.ensures.len c.in-Ok.ensures.rest)

pub returns-in-Err-clause-feeds : goal.returns-in-Err-clause-feeds
returns-in-Err-clause-feeds g c before holds =
    let old = g.F.Flash.state c.args.flash.now in
    let new = g.F.Flash.state c.push_bytes.new.flash in
    let set = c.args.self.now in
    let some : 1 ≤ length c.args.bytes.now = some_bytes c.args.bytes.now (sym c.is_empty.ensures ∙ c.if-is_empty.false) in
    let is : completed_units old.geometry.prog set.key set.fed c.args.rest.now c.args.bytes.now ≡ new_units old.geometry.prog set.key before c.args.bytes.now =
    ap (λ (n : ℕ). completed_units old.geometry.prog set.key n c.args.rest.now c.args.bytes.now) holds.has.count
    ∙ new_is old.geometry.prog (prog_positive old.geometry c.requires.placed.valid) set.key before c.args.rest.now c.args.bytes.now some holds.has.waits in
    subst (λ (f : FlashFault). Programs old new (payload_place old.geometry.prog set + done_size old.geometry.prog set) (new_units old.geometry.prog set.key before c.args.bytes.now) (fault_ending f)) c.in-Err.ensures.fault
    (subst (λ (l : List ℕ). Programs old new (payload_place old.geometry.prog set + done_size old.geometry.prog set) l (fault_ending c.in-Err.field-0)) is c.in-Err.ensures.programs)
