-- What a torn range leaves of what an image holds.
use Rattle.std.proofs.Common.{◌≡◌, ◌⊎◌, ℕ, zero, suc, ◌+◌, ◌-◌, ◌%◌, ◌^◌, ◌<◌, ◌≤◌, ◌==◌, if◌then◌else◌, Bool, true, false, List, [], ◌∷◌, ◌++◌, length, get_or, refl, sym, ◌∙◌, ap, subst, arith, inl, inr, ⊎_elim, Some, None}
use Rattle.std.specs.Prelude.{Option}
use Rattle.std.proofs.lemmas.Bool.{cases_lt}
use Rattle.std.proofs.lemmas.List.{ext_get_or}
use Rattle.std.proofs.lemmas.Option.{none-some}
use Rattle.flash_core.specs.declared.geometry.Geometry.{Geometry}
use Rattle.flash_core.specs.Images.{Torn, part}
use Rattle.flash_core.specs.Sizes.{IsValid, area_size, size_of}
use Rattle.flash_core.proofs.GeometryLaws.{prog_positive, size-areas}
use Rattle.flash_core.proofs.ImageLaws.{get_or-part, part-Torn}
use Rattle.kv_model.specs.Write.{Write}
use Rattle.base_core.specs.Sizes.{master_size}
use Rattle.record_core.specs.Chance.{AllStand, BreaksAt, FirstBreak, StandsInOne}
use Rattle.record_core.specs.Cuts.{IsApart, IsApartFromMaster, IsApartFromRecords, IsHeaderCall, IsInArea, IsMasterCall, ShareMaster, active_of, base_of, version_of, with_version}
use Rattle.record_core.specs.Log.{AreAllRecords, AreRecords, IsRecordAt, extent, spelling_of}
use Rattle.record_core.specs.Mounts.{ActiveRecords, Contents, Holds, MasterAt, active_area, active_reads, master_reads, record_reads, reads_of}
use Rattle.record_core.specs.Record.{IsMaster, master_bytes}
use Rattle.record_core.proofs.ChanceLemmas.{AllStand-append, BreaksAt-append, BreaksAt-front, known_stands, stand_before}
use Rattle.record_core.proofs.Existence.{EndsInside, Known, SomeRecords, master_within, next_record, some_contents, some_master, some_records}
use Rattle.record_core.proofs.LogLemmas.{AreRecords-Torn, AreRecords-append, AreRecords-forward, IsRecordAt-Torn, no_record_erased}
use Rattle.record_core.proofs.MountLemmas.{length-master_bytes, masters_stand, no_master_erased, one_version}
use Rattle.record_core.proofs.RecordLemmas.{length-record_bytes}

-- what was torn in one image was so in the other
pub Torn-sym : (place n : ℕ) (old new : List ℕ) → Torn place n old new → Torn place n new old
Torn-sym place n old new torn = record {
  same_length = sym torn.same_length;
  below = λ i below. sym (torn.below i below);
  behind = λ i behind. sym (torn.behind i behind);
}

-- two images that differ from one in the same range differ from one another there
pub Torn-both : (place n : ℕ) (old a b : List ℕ) → Torn place n old a → Torn place n old b → Torn place n a b
Torn-both place n old a b to_a to_b = record {
  same_length = to_b.same_length ∙ sym to_a.same_length;
  below = λ i below. to_b.below i below ∙ sym (to_a.below i below);
  behind = λ i behind. to_b.behind i behind ∙ sym (to_a.behind i behind);
}

-- torn where the two are the same
pub same_of_torn : (place n m : ℕ) (a b : List ℕ) → Torn place n a b → n ≤ m → part a place m ≡ part b place m → a ≡ b
same_of_torn place n m a b torn within same = ext_get_or 0 a b (sym torn.same_length) (λ i inside. elim (cases_lt i place) [
  | inl below ↦ sym (torn.below i below)
  | inr from ↦ elim (cases_lt i (place + m)) [
    | inl to ↦
        let at : place + (i - place) ≡ i = omega arith in
        ap (λ (k : ℕ). get_or a k 0) (sym at)
        ∙ sym (get_or-part a place m (i - place) (omega (arith, to, from)))
        ∙ ap (λ (l : List ℕ). get_or l (i - place) 0) same
        ∙ get_or-part b place m (i - place) (omega (arith, to, from))
        ∙ ap (λ (k : ℕ). get_or b k 0) at
    | inr behind ↦ sym (torn.behind i (omega (arith, behind, within)))
  ]
])

module _ (g : Geometry) (valid : IsValid g) where
  positive : 1 ≤ g.prog
  positive = prog_positive g valid

  same_part : (before torn : List ℕ) (area : ℕ) (v : Option ℕ) → part torn area (master_size g.prog) ≡ part before area (master_size g.prog) → MasterAt g.prog before area v → MasterAt g.prog torn area v
  same_part before torn area None is none = λ version stands. none version (subst (IsMaster g.prog version) is stands)
  same_part before torn area (Some v) is stands = subst (IsMaster g.prog v) (sym is) stands

  -- an erased first byte excludes a master record
  pub erased_has_none : (image : List ℕ) (area : ℕ) → get_or image area 0 ≡ 255 → MasterAt g.prog image area None
  erased_has_none image area erased version is = no_master_erased g.prog positive image area version erased is

  module _ (before torn : List ℕ) (sized : length before ≡ size_of g) (q n : ℕ) (cut : Torn q n before torn) where
    pub master_stays : (area : ℕ) (v : Option ℕ) → area + master_size g.prog ≤ size_of g → IsApartFromMaster g before area q n → MasterAt g.prog before area v → MasterAt g.prog torn area v
    master_stays area v inside apart is = ⊎_elim
        (λ before_it. same_part before torn area v (part-Torn q n before torn area (master_size g.prog) cut (inl before_it) (omega (arith, inside, sized))) is)
        (⊎_elim
        (λ behind_it. same_part before torn area v (part-Torn q n before torn area (master_size g.prog) cut (inr behind_it) (omega (arith, inside, sized))) is)
        (λ (erased : area < q × (get_or before area 0 ≡ 255)). subst (MasterAt g.prog torn area)
        (one_version g.prog positive before area None v (erased_has_none before area erased.1) is)
        (erased_has_none torn area (cut.below area erased.0 ∙ erased.1))))
        apart

    records_stay : (start limit end : ℕ) (rs : List Write) → (limit ≤ q) ⊎ (q + n ≤ start) ⊎ ((end < q) × (get_or before end 0 ≡ 255)) → AreAllRecords g.prog before start limit end rs → AreAllRecords g.prog torn start limit end rs
    records_stay start limit end rs apart all = record {
      each = AreRecords-Torn g.prog positive q n before torn start end rs cut (outside apart) all.each;
      inside = all.inside;
      no_more = no_more apart;
    }
      where
        outside : (limit ≤ q) ⊎ (q + n ≤ start) ⊎ ((end < q) × (get_or before end 0 ≡ 255)) → (end ≤ q) ⊎ (q + n ≤ start)
        outside (inl below) = inl (omega (arith, below, all.inside))
        outside (inr (inl behind)) = inr behind
        outside (inr (inr erased)) = inl (omega (arith, erased.0))

        back : (r : Write) → (end + extent g.prog r ≤ q) ⊎ (q + n ≤ end) → IsRecordAt g.prog torn end r → limit < end + extent g.prog r
        back r where_it_is is = all.no_more r (IsRecordAt-Torn g.prog positive q n torn before end r (Torn-sym q n before torn cut) where_it_is is)

        no_more : (limit ≤ q) ⊎ (q + n ≤ start) ⊎ ((end < q) × (get_or before end 0 ≡ 255)) → (r : Write) → IsRecordAt g.prog torn end r → limit < end + extent g.prog r
        no_more (inl below) r is = elim (cases_lt limit (end + extent g.prog r)) [
          | inl beyond ↦ beyond
          | inr within ↦ back r (inl (omega (arith, within, below))) is
        ]
        no_more (inr (inl behind)) r is = back r (inr (omega (arith, behind, AreRecords-forward g.prog positive before start end rs all.each))) is
        no_more (inr (inr erased)) r is = absurd (no_record_erased g.prog positive torn end r (cut.below end erased.0 ∙ erased.1) is)

    active_stays : (active : Option ℕ) (end : ℕ) (rs : List Write) → ((k : ℕ) → active ≡ Some k → IsApartFromRecords g before k end q n) → ActiveRecords g before active end rs → ActiveRecords g torn active end rs
    active_stays None end rs apart is = is
    active_stays (Some k) end rs apart is = records_stay (base_of g k + master_size g.prog) (base_of g k + area_size g) end rs (⊎_elim
        (λ below. inl below)
        (⊎_elim (λ behind. inr (inl (omega (arith, behind)))) (λ erased. inr (inr erased)))
        (apart k refl)) is

    -- what an image holds it holds where anything else is torn
    pub contents_stay : (c : Contents) → Holds g before c → IsApart g before c q n → Holds g torn c
    contents_stay c holds apart = record {
      first_master = master_stays 0 c.first (omega (arith, master_within g valid, size-areas g)) apart.first holds.first_master;
      second_master = master_stays (area_size g) c.second (omega (arith, master_within g valid, size-areas g)) apart.second holds.second_master;
      active = active_stays (active_of c) c.end c.records apart.records holds.active;
    }

-- ---- areas by their numbers

module _ (g : Geometry) where
  pub zero_base : base_of g 0 ≡ 0
  zero_base = omega arith

  pub one_base : base_of g 1 ≡ area_size g
  one_base = omega arith

  pub master_at : (image : List ℕ) (c : Contents) (k : ℕ) → (k ≡ 0) ⊎ (k ≡ 1) → Holds g image c → MasterAt g.prog image (base_of g k) (version_of k c)
  master_at image c k (inl is) holds = subst (λ (j : ℕ). MasterAt g.prog image (base_of g j) (version_of j c)) (sym is)
      (subst (λ (place : ℕ). MasterAt g.prog image place c.first) (sym zero_base) holds.first_master)
  master_at image c k (inr is) holds = subst (λ (j : ℕ). MasterAt g.prog image (base_of g j) (version_of j c)) (sym is)
      (subst (λ (place : ℕ). MasterAt g.prog image place c.second) (sym one_base) holds.second_master)

some_is : {X : Type 0} (x y : X) → Some x ≡ Some y → x ≡ y
some_is x y same = cc

pub active_number : (first second : Option ℕ) (k : ℕ) → active_area first second ≡ Some k → (k ≡ 0) ⊎ (k ≡ 1)
active_number None None k is = absurd (none-some k is)
active_number (Some v) None k is = inl (sym (some_is 0 k is))
active_number None (Some w) k is = inr (sym (some_is 1 k is))
active_number (Some v) (Some w) k is = of_test (w == (v + 1) % 2 ^ 16) is
  where
    of_test : (b : Bool) → Some (if b then 1 else 0) ≡ Some k → (k ≡ 0) ⊎ (k ≡ 1)
    of_test true same = inr (sym (some_is 1 k same))
    of_test false same = inl (sym (some_is 0 k same))

-- ---- a header behind the records

-- records, the first of which behind the end stands in neither
reads_break : (prog : ℕ) → 1 ≤ prog → (before after : List ℕ) (place end : ℕ) (rs : List Write) (r : Write) (rest : List Write) → AreRecords prog before place end rs → (StandsInOne before after (end, spelling_of prog r) → ⊥)
    → BreaksAt before after (record_reads prog place (rs ++ r ∷ rest)) end
reads_break prog some before after place end [] r rest is not =
    inl (subst (λ (p : ℕ). StandsInOne before after (p, spelling_of prog r) → ⊥) (sym is) not, is)
reads_break prog some before after place end (s ∷ rs) r rest records not =
    inr (
      inl (ap (part before place) (length-record_bytes prog some s.flags s.key s.value) ∙ records.0.spelling),
      reads_break prog some before after (place + extent prog s) end rs r rest records.1 not,
    )

module _ (g : Geometry) (valid : IsValid g) (before after torn : List ℕ) (sized : length before ≡ size_of g) (c : Contents) (k n : ℕ) (call : IsHeaderCall g before after torn c k n) where
  all : AreAllRecords g.prog before (base_of g k + master_size g.prog) (base_of g k + area_size g) c.end c.records
  all = subst (λ (active : Option ℕ). ActiveRecords g before active c.end c.records) call.active call.holds.active

  from_start : base_of g k + master_size g.prog ≤ c.end
  from_start = AreRecords-forward g.prog (prog_positive g valid) before _ c.end c.records all.each

  first_stays : MasterAt g.prog torn 0 c.first
  first_stays = master_stays g valid before torn sized c.end n call.cut.cut 0 c.first (omega (arith, master_within g valid, size-areas g)) (inl (omega (arith, from_start))) call.holds.first_master

  second_apart : (k ≡ 0) ⊎ (k ≡ 1) → IsApartFromMaster g before (area_size g) c.end n
  second_apart (inl is) = inr (inl (omega (arith, call.inside, ap (base_of g) is, zero_base g)))
  second_apart (inr is) = inl (omega (arith, from_start, ap (base_of g) is, one_base g))

  second_stays : MasterAt g.prog torn (area_size g) c.second
  second_stays = master_stays g valid before torn sized c.end n call.cut.cut (area_size g) c.second (omega (arith, master_within g valid, size-areas g)) (second_apart (active_number c.first c.second k call.active)) call.holds.second_master

  torn_records : AreRecords g.prog torn (base_of g k + master_size g.prog) c.end c.records
  torn_records = AreRecords-Torn g.prog (prog_positive g valid) c.end n before torn _ c.end c.records call.cut.cut (inl (omega arith)) all.each

  -- a record at the end that stands in neither is the first that breaks the premise
  breaks_at_end : (r : Write) → EndsInside g.prog (prog_positive g valid) torn c.end (base_of g k + area_size g) r → (StandsInOne before after (c.end, spelling_of g.prog r) → ⊥) → FirstBreak g before after torn c.end
  breaks_at_end r is not =
      let rest : SomeRecords g.prog (prog_positive g valid) torn (c.end + extent g.prog r) (base_of g k + area_size g) = some_records g.prog (prog_positive g valid) torn _ _ is.1 in
      let records : List Write = c.records ++ r ∷ rest.records in
      record {
        contents = record { first = c.first; second = c.second; records = records; end = rest.end };
        holds = record {
          first_master = first_stays;
          second_master = second_stays;
          active = subst (λ (active : Option ℕ). ActiveRecords g torn active rest.end records) (sym call.active) (record {
            each = AreRecords-append g.prog torn _ c.end rest.end c.records (r ∷ rest.records) torn_records (is.0, rest.are.each);
            inside = rest.are.inside;
            no_more = rest.are.no_more;
          });
        };
        breaks = BreaksAt-append before after (master_reads g.prog 0 c.first ++ master_reads g.prog (area_size g) c.second) (active_reads g (active_of c) records) c.end
            (AllStand-append before after (master_reads g.prog 0 c.first) (master_reads g.prog (area_size g) c.second)
            (stand_before before after (master_reads g.prog 0 c.first) (masters_stand g.prog (prog_positive g valid) before 0 c.first call.holds.first_master))
            (stand_before before after (master_reads g.prog (area_size g) c.second) (masters_stand g.prog (prog_positive g valid) before (area_size g) c.second call.holds.second_master)))
            (subst (λ (active : Option ℕ). BreaksAt before after (active_reads g active records) c.end) (sym call.active)
            (reads_break g.prog (prog_positive g valid) before after _ c.end c.records r rest.records all.each not));
      }

  of_record : (r : Write) → EndsInside g.prog (prog_positive g valid) torn c.end (base_of g k + area_size g) r → Known (StandsInOne before after (c.end, spelling_of g.prog r)) → Holds g torn c ⊎ (torn ≡ after) ⊎ FirstBreak g before after torn c.end
  of_record r is (inl (inl stands)) = absurd (no_record_erased g.prog (prog_positive g valid) before c.end r call.erased (record {
    valid_key = is.0.valid_key;
    valid_header = is.0.valid_header;
    spelling = ap (part before c.end) (sym (length-record_bytes g.prog (prog_positive g valid) r.flags r.key r.value)) ∙ stands;
  }))
  of_record r is (inl (inr stands)) = inr (inl (same_of_torn c.end n (extent g.prog r) torn after
      (Torn-both c.end n before torn after call.cut.cut call.cut.whole)
      (omega (arith, call.in_header))
      (is.0.spelling ∙ sym stands ∙ ap (part after c.end) (length-record_bytes g.prog (prog_positive g valid) r.flags r.key r.value))))
  of_record r is (inr not) = inr (inr (breaks_at_end r is not))

  -- a torn header leaves what was held, or it is whole, or its record is there by chance
  pub torn_header : Holds g torn c ⊎ (torn ≡ after) ⊎ FirstBreak g before after torn c.end
  torn_header = ⊎_elim
      (λ (is : (r : Write) × EndsInside g.prog (prog_positive g valid) torn c.end (base_of g k + area_size g) r). of_record is.0 is.1 (known_stands before after (c.end, spelling_of g.prog is.0)))
      (λ none. inl (record {
        first_master = first_stays;
        second_master = second_stays;
        active = subst (λ (active : Option ℕ). ActiveRecords g torn active c.end c.records) (sym call.active) (record { each = torn_records; inside = all.inside; no_more = none });
      }))
      (next_record g.prog (prog_positive g valid) torn c.end (base_of g k + area_size g))

-- ---- the first bytes of a spare area

abbrev first_area : Option ℕ
first_area = Some 0

abbrev second_area : Option ℕ
second_area = Some 1

abbrev area_if : Bool → Option ℕ
area_if b = Some (if b then 1 else 0)

-- without the master record of a spare area the same area is active
pub active_without : (c : Contents) (k : ℕ) → (k ≡ 0) ⊎ (k ≡ 1) → (active_of c ≡ Some k → ⊥) → active_of (with_version k None c) ≡ active_of c
active_without c k (inl is) spare = subst (λ (j : ℕ). active_of (with_version j None c) ≡ active_of c) (sym is) (first_out c.first c.second (λ active. spare (active ∙ ap Some (sym is))))
  where
    of_test : (b : Bool) → (area_if b ≡ Some 0 → ⊥) → second_area ≡ area_if b
    of_test true not = refl
    of_test false not = absurd (not refl)

    first_out : (first second : Option ℕ) → (active_area first second ≡ Some 0 → ⊥) → active_area None second ≡ active_area first second
    first_out None None not = refl
    first_out (Some v) None not = absurd (not refl)
    first_out None (Some w) not = refl
    first_out (Some v) (Some w) not = of_test (w == (v + 1) % 2 ^ 16) not
active_without c k (inr is) spare = subst (λ (j : ℕ). active_of (with_version j None c) ≡ active_of c) (sym is) (second_out c.first c.second (λ active. spare (active ∙ ap Some (sym is))))
  where
    of_test : (b : Bool) → (area_if b ≡ Some 1 → ⊥) → first_area ≡ area_if b
    of_test true not = absurd (not refl)
    of_test false not = refl

    second_out : (first second : Option ℕ) → (active_area first second ≡ Some 1 → ⊥) → active_area first None ≡ active_area first second
    second_out None None not = refl
    second_out (Some v) None not = refl
    second_out None (Some w) not = absurd (not refl)
    second_out (Some v) (Some w) not = of_test (w == (v + 1) % 2 ^ 16) not

module _ (g : Geometry) (valid : IsValid g) (before after torn : List ℕ) (sized : length before ≡ size_of g) (c : Contents) (n : ℕ) where
  records_apart : (k : ℕ) → IsMasterCall g before after torn c k n → (j : ℕ) → active_of c ≡ Some j → IsApartFromRecords g before j c.end (base_of g k) n
  records_apart k call j active = by_numbers call.number (active_number c.first c.second j active)
    where
      by_numbers : (k ≡ 0) ⊎ (k ≡ 1) → (j ≡ 0) ⊎ (j ≡ 1) → IsApartFromRecords g before j c.end (base_of g k) n
      by_numbers (inl is) (inl other) = absurd (call.spare (active ∙ ap Some (other ∙ sym is)))
      by_numbers (inl is) (inr other) = inr (inl (omega (arith, call.inside, ap (base_of g) is, ap (base_of g) other, zero_base g, one_base g)))
      by_numbers (inr is) (inl other) = inl (omega (arith, call.inside, ap (base_of g) is, ap (base_of g) other, zero_base g, one_base g))
      by_numbers (inr is) (inr other) = absurd (call.spare (active ∙ ap Some (other ∙ sym is)))

  active_is : (k : ℕ) → IsMasterCall g before after torn c k n → ActiveRecords g torn (active_of c) c.end c.records
  active_is k call = active_stays g valid before torn sized (base_of g k) n call.cut.cut (active_of c) c.end c.records (records_apart k call) call.holds.active

  first_is : IsMasterCall g before after torn c 1 n → MasterAt g.prog torn 0 c.first
  first_is call = master_stays g valid before torn sized (base_of g 1) n call.cut.cut 0 c.first (omega (arith, master_within g valid, size-areas g))
      (inl (omega (arith, master_within g valid, one_base g))) call.holds.first_master

  -- with the master record that then begins the area, if the same area is active
  pub holds_with : (k : ℕ) → IsMasterCall g before after torn c k n → (v : Option ℕ) → MasterAt g.prog torn (base_of g k) v → active_of (with_version k v c) ≡ active_of c → Holds g torn (with_version k v c)
  holds_with zero call v is same = record {
    first_master = subst (λ (place : ℕ). MasterAt g.prog torn place v) (zero_base g) is;
    second_master = master_stays g valid before torn sized (base_of g 0) n call.cut.cut (area_size g) c.second (omega (arith, master_within g valid, size-areas g))
        (inr (inl (omega (arith, call.inside, zero_base g)))) call.holds.second_master;
    active = subst (λ (active : Option ℕ). ActiveRecords g torn active c.end c.records) (sym same) (active_is 0 call);
  }
  holds_with (suc zero) call v is same = record {
    first_master = first_is call;
    second_master = subst (λ (place : ℕ). MasterAt g.prog torn place v) (one_base g) is;
    active = subst (λ (active : Option ℕ). ActiveRecords g torn active c.end c.records) (sym same) (active_is 1 call);
  }
  holds_with (suc (suc k)) call v is same = absurd (⊎_elim (λ is_zero. omega (arith, is_zero)) (λ is_one. omega (arith, is_one)) call.number)

  -- a master record there that stands in neither is the first that breaks the premise
  breaks_there : (k : ℕ) → IsMasterCall g before after torn c k n → (d : Contents) → Holds g torn d → (v : ℕ) → version_of k d ≡ Some v → (StandsInOne before after (base_of g k, master_bytes g.prog v) → ⊥) → BreaksAt before after (reads_of g d) (base_of g k)
  breaks_there zero call d holds v version not =
      subst (λ (first : Option ℕ). BreaksAt before after (master_reads g.prog 0 first ++ master_reads g.prog (area_size g) d.second ++ active_reads g (active_area first d.second) d.records) (base_of g 0)) (sym version)
      (inl (subst (λ (place : ℕ). StandsInOne before after (place, master_bytes g.prog v) → ⊥) (zero_base g) not, sym (zero_base g)))
  breaks_there (suc zero) call d holds v version not =
      let first : d.first ≡ c.first = one_version g.prog (prog_positive g valid) torn 0 d.first c.first holds.first_master (first_is call) in
      BreaksAt-front before after (master_reads g.prog 0 d.first ++ master_reads g.prog (area_size g) d.second) (active_reads g (active_of d) d.records) (base_of g 1)
      (BreaksAt-append before after (master_reads g.prog 0 d.first) (master_reads g.prog (area_size g) d.second) (base_of g 1)
      (subst (λ (w : Option ℕ). AllStand before after (master_reads g.prog 0 w)) (sym first)
      (stand_before before after (master_reads g.prog 0 c.first) (masters_stand g.prog (prog_positive g valid) before 0 c.first call.holds.first_master)))
      (subst (λ (second : Option ℕ). BreaksAt before after (master_reads g.prog (area_size g) second) (base_of g 1)) (sym version)
      (inl (subst (λ (place : ℕ). StandsInOne before after (place, master_bytes g.prog v) → ⊥) (one_base g) not, sym (one_base g)))))
  breaks_there (suc (suc k)) call d holds v version not = absurd (⊎_elim (λ is_zero. omega (arith, is_zero)) (λ is_one. omega (arith, is_one)) call.number)

  with_own : (k : ℕ) → with_version k (version_of k c) c ≡ c
  with_own zero = refl
  with_own (suc k) = refl

  abbrev MasterOutcome : ℕ → Type 0
  MasterOutcome k = Holds g torn c ⊎ Holds g torn (with_version k None c) ⊎ ShareMaster g after torn (base_of g k) ⊎ FirstBreak g before after torn (base_of g k)

  module _ (k : ℕ) (call : IsMasterCall g before after torn c k n) where
    of_master : (v : ℕ) → IsMaster g.prog v (part torn (base_of g k) (master_size g.prog)) → Known (StandsInOne before after (base_of g k, master_bytes g.prog v)) → MasterOutcome k
    of_master v is (inl (inl stands)) =
        let was : version_of k c ≡ Some v = one_version g.prog (prog_positive g valid) before (base_of g k) (version_of k c) (Some v) (master_at g before c k call.number call.holds)
        (record { in_range = is.in_range; spelling = ap (part before (base_of g k)) (sym (length-master_bytes g.prog (prog_positive g valid) v)) ∙ stands }) in
        inl (subst (Holds g torn) (with_own k)
        (holds_with k call (version_of k c) (subst (MasterAt g.prog torn (base_of g k)) (sym was) is) (ap active_of (with_own k))))
    of_master v is (inl (inr stands)) =
        let in_after : part after (base_of g k) (master_size g.prog) ≡ master_bytes g.prog v = ap (part after (base_of g k)) (sym (length-master_bytes g.prog (prog_positive g valid) v)) ∙ stands in
        inr (inr (inl (record { version = v; stands = record { in_range = is.in_range; spelling = in_after }; same = is.spelling ∙ sym in_after })))
    of_master v is (inr not) =
        let d = some_contents g valid torn in
        inr (inr (inr (record {
          contents = d.0;
          holds = d.1;
          breaks = breaks_there k call d.0 d.1 v (one_version g.prog (prog_positive g valid) torn (base_of g k) (version_of k d.0) (Some v) (master_at g torn d.0 k call.number d.1) is) not;
        })))

    of_version : (v : Option ℕ) → MasterAt g.prog torn (base_of g k) v → MasterOutcome k
    of_version None none = inr (inl (holds_with k call None none (active_without c k call.number call.spare)))
    of_version (Some v) is = of_master v is (known_stands before after (base_of g k, master_bytes g.prog v))

    -- torn first bytes of a spare area leave its master record as it was, or none, or that of the whole image, or one
    -- that is there by chance
    pub torn_master : MasterOutcome k
    torn_master = let found = some_master g.prog (prog_positive g valid) torn (base_of g k) in of_version found.0 found.1

module _ (g : Geometry) (valid : IsValid g) (before after torn : List ℕ) (sized : length before ≡ size_of g) (c : Contents) (k n : ℕ) (call : IsMasterCall g before after torn c k n) where
  -- an erase leaves no master record when whole
  pub torn_erase : get_or after (base_of g k) 0 ≡ 255 → Holds g torn c ⊎ Holds g torn (with_version k None c) ⊎ FirstBreak g before after torn (base_of g k)
  torn_erase erased = ⊎_elim (λ same. inl same)
      (⊎_elim (λ without. inr (inl without))
      (⊎_elim (λ (shared : ShareMaster g after torn (base_of g k)). absurd (no_master_erased g.prog (prog_positive g valid) after (base_of g k) shared.version erased shared.stands))
      (λ breaks. inr (inr breaks))))
      (torn_master g valid before after torn sized c n k call)

  -- and a master's header completes the record when whole
  pub torn_master_header : n ≤ master_size g.prog → Holds g torn c ⊎ Holds g torn (with_version k None c) ⊎ (torn ≡ after) ⊎ FirstBreak g before after torn (base_of g k)
  torn_master_header within = ⊎_elim (λ same. inl same)
      (⊎_elim (λ without. inr (inl without))
      (⊎_elim (λ (shared : ShareMaster g after torn (base_of g k)). inr (inr (inl (same_of_torn (base_of g k) n (master_size g.prog) torn after
      (Torn-both (base_of g k) n before torn after call.cut.cut call.cut.whole) within shared.same))))
      (λ breaks. inr (inr (inr breaks)))))
      (torn_master g valid before after torn sized c n k call)

-- ---- ranges apart from what is held

module _ (g : Geometry) (valid : IsValid g) (image : List ℕ) (c : Contents) (holds : Holds g image c) where
  pub end_behind_master : (k : ℕ) → active_of c ≡ Some k → base_of g k + master_size g.prog ≤ c.end
  end_behind_master k active =
      let all : AreAllRecords g.prog image (base_of g k + master_size g.prog) (base_of g k + area_size g) c.end c.records =
      subst (λ (a : Option ℕ). ActiveRecords g image a c.end c.records) active holds.active in
      AreRecords-forward g.prog (prog_positive g valid) image _ c.end c.records all.each

  -- behind the end of the records, where an erased byte stands
  pub apart_behind_end : (k place n : ℕ) → active_of c ≡ Some k → IsInArea g k place n → c.end < place → get_or image c.end 0 ≡ 255 → IsApart g image c place n
  apart_behind_end k place n active inside behind erased = by_number inside.number
    where
      same : (j : ℕ) → active_of c ≡ Some j → IsApartFromRecords g image j c.end place n
      same j is = inr (inr (behind, erased))

      by_number : (k ≡ 0) ⊎ (k ≡ 1) → IsApart g image c place n
      by_number (inl is) = record {
        first = inl (omega (arith, end_behind_master k active, behind));
        second = inr (inl (omega (arith, inside.to, ap (base_of g) is, zero_base g)));
        records = same;
      }
      by_number (inr is) = record {
        first = inl (omega (arith, end_behind_master k active, behind));
        second = inl (omega (arith, end_behind_master k active, behind, ap (base_of g) is, one_base g));
        records = same;
      }

  -- in an area that isn't active, behind its first byte, which is erased
  pub apart_in_spare : (k place n : ℕ) → (active_of c ≡ Some k → ⊥) → IsInArea g k place n → base_of g k < place → get_or image (base_of g k) 0 ≡ 255 → IsApart g image c place n
  apart_in_spare k place n spare inside behind erased = by_number inside.number
    where
      other : (k ≡ 0) ⊎ (k ≡ 1) → (j : ℕ) → active_of c ≡ Some j → (j ≡ 0) ⊎ (j ≡ 1) → IsApartFromRecords g image j c.end place n
      other (inl is) j active (inl j_is) = absurd (spare (active ∙ ap Some (j_is ∙ sym is)))
      other (inl is) j active (inr j_is) = inr (inl (omega (arith, inside.to, ap (base_of g) is, ap (base_of g) j_is, zero_base g, one_base g)))
      other (inr is) j active (inl j_is) = inl (omega (arith, inside.from, ap (base_of g) is, ap (base_of g) j_is, zero_base g, one_base g))
      other (inr is) j active (inr j_is) = absurd (spare (active ∙ ap Some (j_is ∙ sym is)))

      apart : (j : ℕ) → active_of c ≡ Some j → IsApartFromRecords g image j c.end place n
      apart j active = other inside.number j active (active_number c.first c.second j active)

      by_number : (k ≡ 0) ⊎ (k ≡ 1) → IsApart g image c place n
      by_number (inl is) = record {
        first = inr (inr (omega (arith, behind, ap (base_of g) is, zero_base g), subst (λ (p : ℕ). get_or image p 0 ≡ 255) (ap (base_of g) is ∙ zero_base g) erased));
        second = inr (inl (omega (arith, inside.to, ap (base_of g) is, zero_base g)));
        records = apart;
      }
      by_number (inr is) = record {
        first = inl (omega (arith, behind, ap (base_of g) is, one_base g, master_within g valid));
        second = inr (inr (omega (arith, behind, ap (base_of g) is, one_base g), subst (λ (p : ℕ). get_or image p 0 ≡ 255) (ap (base_of g) is ∙ one_base g) erased));
        records = apart;
      }
