-- Laws of what areas list, and of what is read of them.
use Rattle.std.proofs.Common.{◌≡◌, ℕ, ◌+◌, ◌-◌, ◌≤◌, ◌<◌, List, [], ◌∷◌, ◌++◌, length, take, drop, refl, sym, ◌∙◌, ap, subst, arith, inl}
use Rattle.std.specs.List.{All}
use Rattle.std.proofs.lemmas.List.{length-drop}
use Rattle.std.proofs.lemmas.List.Elements.{All-cons, All-nil}
use Rattle.std.proofs.Math.Seq.{take-append_seam, take-length}
use Rattle.flash_core.specs.declared.geometry.Geometry.{Geometry}
use Rattle.flash_core.specs.Images.{IsErased, Torn, part}
use Rattle.kv_model.specs.declared.call.Got.{Got}
use Rattle.kv_model.specs.Write.{Write}
use Rattle.base_core.specs.Units.{up}
use Rattle.record_core.specs.Header.{header_bytes}
use Rattle.record_core.specs.Log.{AreRecords, IsRecordAt, extent}
use Rattle.record_core.proofs.LogLemmas.{AreRecords-append, AreRecords-Torn, all_before_erased, extent-positive, header_at, key_at, one_list}
use Rattle.area_log.specs.declared.area.Area.{Area}
use Rattle.area_log.specs.Areas.{end_of, first_place}
use Rattle.area_log.specs.Listing.{Found, IsListOf, IsNext, found_at, listed}
use Rattle.area_log.specs.Reading.{Gives, IsWithin, filled}
use Rattle.area_log.proofs.ScanLemmas.{listed-append}

module _ (g : Geometry) (positive : 1 ≤ g.prog) (area : Area) where
  abbrev first : ℕ
  first = first_place g area

  pub one_listing : (image : List ℕ) (end other_end : ℕ) (list other : List Found) → IsListOf g image area end list → IsListOf g image area other_end other → (list ≡ other) × (end ≡ other_end)
  one_listing image end other_end list other is also =
      let same = one_list g.prog positive image first (end_of area) end other_end is.records also.records is.all also.all in
      (is.list_is ∙ ap (listed g.prog first) same.0 ∙ sym also.list_is, same.1)

  pub one_before : (image : List ℕ) (found : Found) (before other : List Found) → IsNext g image area found before → IsNext g image area found other → before ≡ other
  one_before image found before other is also =
      let none : (r : Write) → IsRecordAt g.prog image found.at r → found.at < found.at + extent g.prog r = λ r stands. omega (arith, extent-positive g.prog positive r) in
      let same = one_list g.prog positive image first found.at found.at found.at is.records also.records
      (record { each = is.each; inside = omega arith; no_more = none })
      (record { each = also.each; inside = omega arith; no_more = none }) in
      is.before_is ∙ ap (listed g.prog first) same.0 ∙ sym also.before_is

  pub none_listed : (image : List ℕ) → first ≤ end_of area → IsErased image first (end_of area - first) → IsListOf g image area first []
  none_listed image inside erased = record {
    records = [];
    all = all_before_erased g.prog positive image first (end_of area) first [] refl inside erased;
    list_is = refl;
  }

  pub one_more_listed : (old new : List ℕ) (end : ℕ) (list : List Found) (r : Write) → IsListOf g old area end list → Torn end (extent g.prog r) old new → IsRecordAt g.prog new end r
      → end + extent g.prog r ≤ end_of area → IsErased new (end + extent g.prog r) (end_of area - (end + extent g.prog r)) → IsListOf g new area (end + extent g.prog r) (list ++ found_at end r ∷ [])
  one_more_listed old new end list r is torn stands inside erased =
      let rs = is.records in
      let stay = AreRecords-Torn g.prog positive end (extent g.prog r) old new first end rs torn (inl (omega arith)) is.all.each in
      let each = AreRecords-append g.prog new first end (end + extent g.prog r) rs (r ∷ []) stay (stands, refl) in
      record {
        records = rs ++ r ∷ [];
        all = all_before_erased g.prog positive new first (end_of area) (end + extent g.prog r) (rs ++ r ∷ []) each inside erased;
        list_is = ap (λ (l : List Found). l ++ found_at end r ∷ []) is.list_is ∙ sym (listed-append g.prog new first end rs r stay);
      }

-- the header, and the key, stand at the place
abbrev pub HasHeader : List ℕ → Found → Type 0
HasHeader image found = part image found.at 24 ≡ header_bytes found.header

abbrev pub HasKey : ℕ → List ℕ → Found → Type 0
HasKey prog image found = part image (found.at + up prog 24) (length found.key) ≡ found.key

-- what has each record has each listed one
each_listed : (prog : ℕ) (image : List ℕ) (Has : Found → Type 0) → ((place : ℕ) (r : Write) → IsRecordAt prog image place r → Has (found_at place r)) → (place end : ℕ) (rs : List Write)
    → AreRecords prog image place end rs → All Has (listed prog place rs)
each_listed prog image Has has place end [] records = All-nil Has
each_listed prog image Has has place end (r ∷ rs) records =
    All-cons Has (found_at place r) (listed prog (place + extent prog r) rs) (has place r records.0) (each_listed prog image Has has (place + extent prog r) end rs records.1)

module _ (g : Geometry) (positive : 1 ≤ g.prog) (image : List ℕ) (area : Area) (end : ℕ) (list : List Found) (is : IsListOf g image area end list) where
  pub headers_listed : All (HasHeader image) list
  headers_listed = subst (All (HasHeader image)) (sym is.list_is)
      (each_listed g.prog image (HasHeader image) (λ place r stands. header_at g.prog positive image place r stands) (first_place g area) end is.records is.all.each)

  pub keys_listed : All (HasKey g.prog image) list
  keys_listed = subst (All (HasKey g.prog image)) (sym is.list_is)
      (each_listed g.prog image (HasKey g.prog image) (λ place r stands. key_at g.prog positive image place r stands) (first_place g area) end is.records is.all.each)

-- where there is room, all that is behind the offset is given
pub rest_given : (r : Write) (offset : ℕ) (buf : List ℕ) (got : Got) → length r.value ≤ offset + length buf → IsWithin offset (length buf) got → Gives r offset buf got → take got.read buf ≡ drop offset r.value
rest_given r offset buf got room within gives =
    let rest : List ℕ = drop offset r.value in
    let long : length rest ≡ got.read = length-drop offset r.value ∙ omega (arith, within.read, gives.size, within.in_value) in
    let whole : part r.value offset got.read ≡ rest = ap (λ (n : ℕ). take n rest) (sym long) ∙ take-length rest in
    ap (take got.read) gives.bytes
    ∙ ap (λ (l : List ℕ). take got.read (filled (length buf) l)) whole
    ∙ ap (λ (n : ℕ). take n (filled (length buf) rest)) (sym long)
    ∙ take-append_seam rest _
