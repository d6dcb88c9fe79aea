use Rattle.std.proofs.Common.{◌≡◌, ◌%◌, ◌^◌, refl, ◌∙◌, ap, sym, subst, arith}
use mathlib.Core.Bool.{false≢true}
use Rattle.std.specs.Prelude.{Some}
use Rattle.record_core.specs.Header.{IsValid}
use Rattle.record_core.proofs.HeaderLemmas.{header_is, header_has_form, header_has_fields}
use Rattle.record_core.proofs.header.read_header.Goals as goal

pub returns-then-not-has_form-clause-some : goal.returns-then-not-has_form-clause-some
returns-then-not-has_form-clause-some c header valid is = absurd (false≢true (c.if-not-has_form.ensures.1 (header_has_form _ header is)))

pub returns-then-not-has_form-clause-only : goal.returns-then-not-has_form-clause-only
returns-then-not-has_form-clause-only c header valid crc is = absurd (false≢true (c.if-not-has_form.ensures.1 (header_has_form _ header is)))

pub returns-then-is_valid-clause-found : goal.returns-then-is_valid-clause-found
returns-then-is_valid-clause-found c =
    (c.if-is_valid.ensures.0 refl, header_is _ _ (omega arith) (c.if-not-has_form.ensures.0 refl) c.fields_of-header.ensures.spelled)

pub returns-then-is_valid-clause-only : goal.returns-then-is_valid-clause-only
returns-then-is_valid-clause-only c header valid crc is =
    let low : header.crc % 2 ^ 32 ≡ header.crc = omega (arith, crc) in
    ap Some (c.fields_of-header.ensures.only header valid (header_has_fields _ header is) ∙ ap (λ n. record header { crc = n }) low)

pub returns-else-is_valid-clause-some : goal.returns-else-is_valid-clause-some
returns-else-is_valid-clause-some c header valid is =
    let same = c.fields_of-header.ensures.only header valid (header_has_fields _ header is) in
    absurd (false≢true (c.if-is_valid.ensures.1 (subst IsValid (sym same) valid)))

pub returns-else-is_valid-clause-only : goal.returns-else-is_valid-clause-only
returns-else-is_valid-clause-only c header valid crc is =
    let same = c.fields_of-header.ensures.only header valid (header_has_fields _ header is) in
    absurd (false≢true (c.if-is_valid.ensures.1 (subst IsValid (sym same) valid)))
