-- That what a reader may answer is one thing.
use Rattle.std.proofs.Common.{◌≡◌, ℕ, ◌+◌, ◌≤◌, List, length, get_or, IsTrue, refl, sym, ◌∙◌, ap, arith}
use Rattle.std.specs.Prelude.{Option, Some, None}
use Rattle.flash_core.specs.Images.{put}
use Rattle.kv_model.specs.Write.{Write}
use Rattle.kv_model.specs.Keys.{is_key}
use Rattle.record_core.specs.declared.header.Header.{Header}
use Rattle.record_core.specs.Header.{IsHeader}
use Rattle.record_core.specs.Log.{extent, spelling_of}
use Rattle.record_core.specs.Reading.{HasRecord, RecordAt}
use Rattle.record_core.specs.Record.{header_of}
use Rattle.record_core.proofs.LogLemmas.{IsRecordAt-put, no_record_erased, one_record}

module _ (prog : ℕ) (positive : 1 ≤ prog) (image : List ℕ) (place end : ℕ) where
  same_written : (key other : List ℕ) (a b : Header) → (is_a : HasRecord prog image place end key a) (is_b : HasRecord prog image place end other b) → is_a.written ≡ is_b.written
  same_written key other a b is_a is_b = one_record prog positive image place is_a.written is_b.written is_a.stands is_b.stands

  pub one_key : (key other : List ℕ) (a b : Header) → HasRecord prog image place end key a → HasRecord prog image place end other b → key ≡ other
  one_key key other a b is_a is_b = is_a.key_is ∙ ap (λ (r : Write). r.key) (same_written key other a b is_a is_b) ∙ sym is_b.key_is

  pub one_answer : (key other : List ℕ) (a b : Option Header) → RecordAt prog image place end key a → RecordAt prog image place end other b → a ≡ b
  one_answer key other None None is_a is_b = refl
  one_answer key other None (Some b) is_a is_b = absurd (omega (arith, is_a is_b.written is_b.stands, is_b.inside))
  one_answer key other (Some a) None is_a is_b = absurd (omega (arith, is_b is_a.written is_a.stands, is_a.inside))
  one_answer key other (Some a) (Some b) is_a is_b =
      ap Some (is_a.header_is ∙ ap (λ (r : Write). header_of r.flags r.key r.value) (same_written key other a b is_a is_b) ∙ sym is_b.header_is)

  -- an erased place has none
  pub erased_answer : (key : List ℕ) (found : Option Header) → get_or image place 0 ≡ 255 → RecordAt prog image place end key found → found ≡ None
  erased_answer key found erased is = one_answer key key found None is (λ r stands. absurd (no_record_erased prog positive image place r erased stands))

-- a record that was programmed is answered
pub programmed_answer : (prog : ℕ) → 1 ≤ prog → (image : List ℕ) (place end : ℕ) (r : Write) (key : List ℕ) (found : Option Header) → IsTrue (is_key r.key) → IsHeader r.flags (length r.key) (length r.value)
    → place + extent prog r ≤ end → end ≤ length image → RecordAt prog (put image place (spelling_of prog r)) place end key found → found ≡ Some (header_of r.flags r.key r.value)
programmed_answer prog positive image place end r key found valid_key valid_header inside fits is =
    one_answer prog positive (put image place (spelling_of prog r)) place end key r.key found (Some (header_of r.flags r.key r.value)) is
    (record {
      written = r;
      stands = IsRecordAt-put prog positive image place r valid_key valid_header (omega arith);
      inside = inside;
      key_is = refl;
      header_is = refl;
    })
