-- The word of a geometry, cut at its two colons.
use Rattle.std.proofs.Common.{◌≡◌, ℕ, ◌^◌, ◌<◌, ◌≤◌, ◌*◌, Bool, true, false, List, ◌∷◌, ◌++◌, Some, None, refl, sym, ap, subst, ◌∙◌, arith}
use Rattle.std.specs.Fmt.{decimal}
use Rattle.std.proofs.lemmas.Fmt.{decimal_injective}
use Rattle.script_core.proofs.Options.{some_is}
use Rattle.flash_core.specs.Sizes.{IsValid}
use Rattle.flash_core.specs.declared.geometry.Geometry.{Geometry}
use Rattle.script_core.proofs.Words.{IsWhole-decimal}
use Rattle.command_words.specs.Splits.{before, behind}
use Rattle.command_words.specs.Values.{SpellsShort, SpellsGeometry}
use Rattle.command_words.proofs.SplitLemmas.{before-joined, behind-joined, joined}

-- what the parts of the word of a geometry are
pub record HasParts (word : List ℕ) (g : Geometry) : Type 0 where
  pub rest : List ℕ
  pub units : List ℕ
  pub behind_prog : behind 58 word ≡ Some rest
  pub behind_erase : behind 58 rest ≡ Some units
  pub prog : SpellsShort (before 58 word) g.prog
  pub erase : SpellsShort (before 58 rest) g.erase
  pub units_per_area : SpellsShort units g.units_per_area

few_units : (units erase : ℕ) → 1 ≤ erase → 2 * units * erase ≤ 16777216 → units < 2 ^ 32
few_units units erase some fits = grind arith

pub geometry_parts : (word : List ℕ) (g : Geometry) → SpellsGeometry word g → HasParts word g
geometry_parts word g h =
    let prog : g.prog < 2 ^ 32 = omega (arith, h.0.prog_limit) in
    let erase : g.erase < 2 ^ 32 = omega (arith, h.0.erase_limit) in
    let whole_prog = IsWhole-decimal 58 g.prog refl (omega arith) in
    let whole_erase = IsWhole-decimal 58 g.erase refl (omega arith) in
    let rest : List ℕ = decimal g.erase ++ 58 ∷ decimal g.units_per_area in
    record {
      rest = rest;
      units = decimal g.units_per_area;
      behind_prog = ap (behind 58) h.1 ∙ behind-joined 58 (decimal g.prog) rest whole_prog;
      behind_erase = behind-joined 58 (decimal g.erase) (decimal g.units_per_area) whole_erase;
      prog = (prog, ap (before 58) h.1 ∙ before-joined 58 (decimal g.prog) rest whole_prog);
      erase = (erase, before-joined 58 (decimal g.erase) (decimal g.units_per_area) whole_erase);
      units_per_area = (few_units g.units_per_area g.erase h.0.erase_positive h.0.size_limit, refl);
    }

pub geometry_joined : (word rest units : List ℕ) (g : Geometry) → IsValid g → behind 58 word ≡ Some rest → behind 58 rest ≡ Some units
    → SpellsShort (before 58 word) g.prog → SpellsShort (before 58 rest) g.erase → SpellsShort units g.units_per_area → SpellsGeometry word g
geometry_joined word rest units g valid first second prog erase last =
    let tail : rest ≡ decimal g.erase ++ 58 ∷ decimal g.units_per_area = joined 58 rest units second ∙ rw (erase.1, last.1) refl in
    (valid, joined 58 word rest first ∙ rw (prog.1, tail) refl)

pub no_second : (word : List ℕ) → behind 58 word ≡ None → (g : Geometry) → SpellsGeometry word g → ⊥
no_second word none g h = absurd (let parts = geometry_parts word g h in let some = parts.behind_prog in cc)

pub no_third : (word rest : List ℕ) → behind 58 word ≡ Some rest → behind 58 rest ≡ None → (g : Geometry) → SpellsGeometry word g → ⊥
no_third word rest first none g h =
    absurd (let parts = geometry_parts word g h in
    let same : parts.rest ≡ rest = some_is parts.rest rest (sym parts.behind_prog ∙ first) in
    let some = sym (ap (behind 58) same) ∙ parts.behind_erase in cc)

pub prog_at : (word : List ℕ) (g : Geometry) → SpellsGeometry word g → SpellsShort (before 58 word) g.prog
prog_at word g h = (geometry_parts word g h).prog

pub erase_at : (word rest : List ℕ) (g : Geometry) → behind 58 word ≡ Some rest → SpellsGeometry word g → SpellsShort (before 58 rest) g.erase
erase_at word rest g first h =
    let parts = geometry_parts word g h in
    let same : parts.rest ≡ rest = some_is parts.rest rest (sym parts.behind_prog ∙ first) in
    subst (λ (r : List ℕ). SpellsShort (before 58 r) g.erase) same parts.erase

pub units_at : (word rest units : List ℕ) (g : Geometry) → behind 58 word ≡ Some rest → behind 58 rest ≡ Some units → SpellsGeometry word g → SpellsShort units g.units_per_area
units_at word rest units g first second h =
    let parts = geometry_parts word g h in
    let same : parts.rest ≡ rest = some_is parts.rest rest (sym parts.behind_prog ∙ first) in
    let last : parts.units ≡ units = some_is parts.units units (sym parts.behind_erase ∙ ap (behind 58) same ∙ second) in
    subst (λ (u : List ℕ). SpellsShort u g.units_per_area) last parts.units_per_area

one_short : (word : List ℕ) (x y : ℕ) → SpellsShort word x → SpellsShort word y → x ≡ y
one_short word x y a b = decimal_injective x y (omega arith) (omega arith) (sym a.1 ∙ b.1)

pub not_valid : (word rest units : List ℕ) (g : Geometry) (valid : Bool) → behind 58 word ≡ Some rest → behind 58 rest ≡ Some units
    → SpellsShort (before 58 word) g.prog → SpellsShort (before 58 rest) g.erase → SpellsShort units g.units_per_area
    → (IsValid g → valid ≡ true) → valid ≡ false → (y : Geometry) → SpellsGeometry word y → ⊥
not_valid word rest units g valid first second prog erase last tells is y h =
    let p : y.prog ≡ g.prog = one_short _ y.prog g.prog (prog_at word y h) prog in
    let e : y.erase ≡ g.erase = one_short _ y.erase g.erase (erase_at word rest y first h) erase in
    let u : y.units_per_area ≡ g.units_per_area = one_short _ y.units_per_area g.units_per_area (units_at word rest units y first second h) last in
    let same : y ≡ g = λ i. record { prog = p i; erase = e i; units_per_area = u i } in
    absurd (let told = tells (subst IsValid same h.0) in cc)
