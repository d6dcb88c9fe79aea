use Rattle.std.proofs.Common.{◌≡◌, ℕ, List, Some, None, rules, sym, subst}
use Rattle.flash_core.specs.declared.geometry.Geometry.{Geometry}
use Rattle.command_words.specs.Splits.{before, behind}
use Rattle.command_words.specs.Values.{SpellsShort, SpellsGeometry}
use Rattle.command_words.proofs.GeometryLemmas.{no_second, no_third, prog_at, erase_at, units_at, not_valid, geometry_joined}
use Rattle.command_words.proofs.values.parse_geometry.Goals as goal

pub returns-in_err-ok_or : goal.returns-in_err-ok_or
returns-in_err-ok_or c =
    let none : behind 58 c.args.word.now ≡ None = search rules in
    let refused : (y : Geometry) → SpellsGeometry c.args.word.now y → ⊥ = no_second c.args.word.now none in
    search rules

pub returns-in_err-units : goal.returns-in_err-units
returns-in_err-units c =
    let first : behind 58 c.args.word.now ≡ Some c.in_ok-ok_or.field-0.now = search rules in
    let none : behind 58 c.in_ok-ok_or.field-0.now ≡ None = search rules in
    let refused : (y : Geometry) → SpellsGeometry c.args.word.now y → ⊥ = no_third c.args.word.now c.in_ok-ok_or.field-0.now first none in
    search rules

pub returns-in_err-parse_short : goal.returns-in_err-parse_short
returns-in_err-parse_short c =
    let refused : (y : Geometry) → SpellsGeometry c.args.word.now y → ⊥ =
    λ y h. c.in_err-parse_short.ensures y.prog (subst (λ (w : List ℕ). SpellsShort w y.prog) (sym c.cut_at.ensures.front) (prog_at c.args.word.now y h)) in
    search rules

pub returns-in_err-parse_short-2 : goal.returns-in_err-parse_short-2
returns-in_err-parse_short-2 c =
    let first : behind 58 c.args.word.now ≡ Some c.in_ok-ok_or.field-0.now = search rules in
    let refused : (y : Geometry) → SpellsGeometry c.args.word.now y → ⊥ =
    λ y h. c.in_err-parse_short-2.ensures y.erase (subst (λ (w : List ℕ). SpellsShort w y.erase) (sym c.cut_at-2.ensures.front) (erase_at c.args.word.now c.in_ok-ok_or.field-0.now y first h)) in
    search rules

pub returns-in_err-parse_short-3 : goal.returns-in_err-parse_short-3
returns-in_err-parse_short-3 c =
    let first : behind 58 c.args.word.now ≡ Some c.in_ok-ok_or.field-0.now = search rules in
    let second : behind 58 c.in_ok-ok_or.field-0.now ≡ Some c.in_ok-units.units.now = search rules in
    let refused : (y : Geometry) → SpellsGeometry c.args.word.now y → ⊥ =
    λ y h. c.in_err-parse_short-3.ensures y.units_per_area (units_at c.args.word.now c.in_ok-ok_or.field-0.now c.in_ok-units.units.now y first second h) in
    search rules

pub returns-then-not-is_valid : goal.returns-then-not-is_valid
returns-then-not-is_valid c =
    let first : behind 58 c.args.word.now ≡ Some c.in_ok-ok_or.field-0.now = search rules in
    let second : behind 58 c.in_ok-ok_or.field-0.now ≡ Some c.in_ok-units.units.now = search rules in
    let prog : SpellsShort (before 58 c.args.word.now) c.in_ok-parse_short.field-0 = subst (λ (w : List ℕ). SpellsShort w c.in_ok-parse_short.field-0) c.cut_at.ensures.front c.in_ok-parse_short.ensures in
    let erase : SpellsShort (before 58 c.in_ok-ok_or.field-0.now) c.in_ok-parse_short-2.field-0 = subst (λ (w : List ℕ). SpellsShort w c.in_ok-parse_short-2.field-0) c.cut_at-2.ensures.front c.in_ok-parse_short-2.ensures in
    not_valid c.args.word.now c.in_ok-ok_or.field-0.now c.in_ok-units.units.now _ c.is_valid.result first second prog erase c.in_ok-parse_short-3.ensures c.is_valid.ensures.1 (search rules)

pub returns : goal.returns
returns c =
    let first : behind 58 c.args.word.now ≡ Some c.in_ok-ok_or.field-0.now = search rules in
    let second : behind 58 c.in_ok-ok_or.field-0.now ≡ Some c.in_ok-units.units.now = search rules in
    let prog : SpellsShort (before 58 c.args.word.now) c.in_ok-parse_short.field-0 = subst (λ (w : List ℕ). SpellsShort w c.in_ok-parse_short.field-0) c.cut_at.ensures.front c.in_ok-parse_short.ensures in
    let erase : SpellsShort (before 58 c.in_ok-ok_or.field-0.now) c.in_ok-parse_short-2.field-0 = subst (λ (w : List ℕ). SpellsShort w c.in_ok-parse_short-2.field-0) c.cut_at-2.ensures.front c.in_ok-parse_short-2.ensures in
    geometry_joined c.args.word.now c.in_ok-ok_or.field-0.now c.in_ok-units.units.now (record { prog = c.in_ok-parse_short.field-0; erase = c.in_ok-parse_short-2.field-0; units_per_area = c.in_ok-parse_short-3.field-0 }) (search rules) first second prog erase c.in_ok-parse_short-3.ensures
