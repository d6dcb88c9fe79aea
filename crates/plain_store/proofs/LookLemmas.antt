-- What a look-up for a set finds.
use Rattle.std.proofs.Common.{◌≡◌, ℕ, ◌+◌, ◌<◌, ◌≤◌, ◌==◌, ◌%◌, ◌^◌, Bool, true, false, not, List, sym, ◌∙◌, ap, arith}
use Rattle.std.specs.Prelude.{MatchBool, Option}
use Rattle.std.specs.Option.{option_map_or}
use Rattle.std.proofs.lemmas.Bool.Decides.{nat_tests}
use mathlib.Core.Bool.{false≢true}
use Rattle.base_core.specs.Sizes.{record_size}
use Rattle.base_core.proofs.UnitLemmas.{up-below}
use Rattle.kv_model.specs.declared.limits.TheConstants.{MAX_VALUE}
use Rattle.kv_model.specs.FlaggedMap.{Stored}
use Rattle.kv_model.specs.Flags.{is_write_once}
use Rattle.ram_table.specs.declared.table.Place.{Place}
use Rattle.record_core.specs.declared.header.Header.{Header}
use Rattle.tdb_mount.specs.Index.{record_of}
use Rattle.tdb_read.specs.Reads.{HasAt, IsFound, OfRecord, SaysOf, offset_in}
use Rattle.tdb_read.specs.Views.{LogView}
use Rattle.plain_store.specs.Setting.{IsProtected}

-- the record of a key and a value takes less than 2 GiB
pub record_below : (prog key size : ℕ) → 1 ≤ prog → prog ≤ 4096 → key ≤ 128 → size ≤ MAX_VALUE → (n : ℕ) → n ≡ record_size prog key size → n < 2 ^ 31
record_below prog key size positive most short small n is = omega (arith, is, up-below prog 24 positive, up-below prog (key + size) positive, most, short, small)

-- ---- whether a key is protected

is_one : (n : ℕ) → n ≡ 1 → (n == 1) ≡ true
is_one n is = grind (arith, nat_tests)

is_not_one : (n : ℕ) → (n ≡ 1 → ⊥) → (n == 1) ≡ false
is_not_one n not = grind (arith, nat_tests)

module _ (v : LogView) (key : List ℕ) (place : Place) (found : IsFound v key place) where
  stands_at : (b : Bool) (P Q : Type 0) → not b ≡ false → MatchBool b P Q → P
  stands_at true P Q there is = is
  stands_at false P Q there is = absurd (false≢true (sym there))

  lacks : (b : Bool) (P Q : Type 0) → not b ≡ true → MatchBool b P Q → Q
  lacks false P Q none is = is
  lacks true P Q none is = absurd (false≢true none)

  -- a key without a value has no flags
  pub absent_open : not place.found ≡ true → IsProtected v key false
  absent_open none image told =
      ap (λ (o : Option Stored). is_write_once (option_map_or (λ (s : Stored). s.flags) o 0)) (lacks place.found _ _ none (found.located image told).map_is)

  module _ (there : not place.found ≡ false) (header : Header) (says : OfRecord v.device (offset_in v.log place.at) (SaysOf header)) where
    as_header : (b : Bool) → is_write_once header.flags ≡ b → IsProtected v key b
    as_header b is image told =
        let has : HasAt v.device.geometry image v.log key (offset_in v.log place.at) = stands_at place.found _ _ there (found.located image told).map_is in
        ap (λ (o : Option Stored). is_write_once (option_map_or (λ (s : Stored). s.flags) o 0)) has.present
        ∙ ap is_write_once (sym (says image told (record_of key has.stored) has.kept.stands).flags) ∙ is

    pub header_protects : header.flags % 2 ≡ 1 → IsProtected v key true
    header_protects is = as_header true (is_one (header.flags % 2) is)

    pub header_opens : (header.flags % 2 ≡ 1 → ⊥) → IsProtected v key false
    header_opens not = as_header false (is_not_one (header.flags % 2) not)
