-- How a survey of an area's records goes on.
use Rattle.std.proofs.Common.{◌≡◌, ℕ, ◌+◌, List, [], ◌∷◌, ◌++◌, length, refl, sym, ◌∙◌, ap, subst, length-append}
use Rattle.std.specs.Prelude.{◌==◌}
use Rattle.base_core.specs.Sizes.{record_size}
use Rattle.kv_model.specs.Flags.{remove_flags}
use Rattle.kv_model.specs.Write.{Write, applied, map_of}
use Rattle.kv_model.proofs.WritesLemmas.{map_of-append}
use Rattle.record_core.specs.declared.header.Header.{Header}
use Rattle.record_core.specs.Log.{AreRecords, extent}
use Rattle.record_core.specs.Reading.{HasRecord}
use Rattle.record_core.proofs.LogLemmas.{AreRecords-append}
use Rattle.kv_tools.specs.declared.live.Live.{Live}
use Rattle.kv_tools.specs.Surveying.{StandsFor}

-- The records before this place were taken in.
pub record Surveyed (prog : ℕ) (image : List ℕ) (first place : ℕ) (live : Live) (count : ℕ) : Type 0 where
  pub records : List Write
  pub each : AreRecords prog image first place records
  pub count_is : count ≡ length records
  pub stands : StandsFor prog live (map_of records)

module _ (prog : ℕ) (image : List ℕ) (first : ℕ) where
  pub surveyed_none : (live : Live) (count : ℕ) → count ≡ 0 → StandsFor prog live (map_of []) → Surveyed prog image first first live count
  surveyed_none live count none stands = record { records = []; each = refl; count_is = none; stands = stands }

  module _ (place limit : ℕ) (key : List ℕ) (header : Header) (old new : Live) (count : ℕ) (so_far : Surveyed prog image first place old count) (there : HasRecord prog image place limit key header) where
    -- one record more
    pub surveyed_more : ((r : Write) → r.key ≡ key → (header.flags == remove_flags) ≡ (r.flags == remove_flags)
        → record_size prog header.key_size header.value_size ≡ record_size prog (length r.key) (length r.value)
        → StandsFor prog old (map_of so_far.records) → StandsFor prog new (applied r (map_of so_far.records)))
        → Surveyed prog image first (place + record_size prog header.key_size header.value_size) new (count + 1)
    surveyed_more takes =
        let r = there.written in
        let size : record_size prog header.key_size header.value_size ≡ extent prog r = ap (λ (h : Header). record_size prog h.key_size h.value_size) there.header_is in
        let kind : (header.flags == remove_flags) ≡ (r.flags == remove_flags) = ap (λ (h : Header). h.flags == remove_flags) there.header_is in
        record {
          records = so_far.records ++ r ∷ [];
          each = subst (λ (n : ℕ). AreRecords prog image first (place + n) (so_far.records ++ r ∷ [])) (sym size)
              (AreRecords-append prog image first place (place + extent prog r) so_far.records (r ∷ []) so_far.each (there.stands, refl));
          count_is = ap (λ (n : ℕ). n + 1) so_far.count_is ∙ sym (length-append so_far.records (r ∷ []));
          stands = subst (StandsFor prog new) (sym (map_of-append so_far.records r)) (takes r (sym there.key_is) kind size so_far.stands);
        }
