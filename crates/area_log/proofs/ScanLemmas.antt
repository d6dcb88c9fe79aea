-- How a walk over the records of an area goes on.
use Rattle.std.proofs.Common.{◌≡◌, ◌⊎◌, ℕ, ◌+◌, ◌≤◌, ◌<◌, List, [], ◌∷◌, ◌++◌, refl, sym, ◌∙◌, ap, subst, arith, inl, inr, ⊎_elim}
use Rattle.std.specs.Prelude.{Option, Some, None, Result, Ok, Err, IfSome, IsErrAnd, OnOk}
use Rattle.base_core.specs.Counts.{counted}
use Rattle.flash_core.specs.declared.geometry.Geometry.{Geometry}
use Rattle.flash_core.specs.Calls.{CountsStand, OnlyReads}
use Rattle.flash_core.specs.Runs.{IsCounted}
use Rattle.flash_core.proofs.RunLaws.{IsCounted-then}
use Rattle.std.proofs.Math.Nat.{zero-mod}
use Rattle.flash_core.specs.Sizes.{IsValid, area_size}
use Rattle.flash_core.specs.State.{FlashState}
use Rattle.base_core.specs.Units.{IsMultipleOf}
use Rattle.flash_core.proofs.GeometryLaws.{area_whole_progs}
use Rattle.base_core.proofs.CountLemmas.{Rose-since}
use Rattle.base_core.proofs.UnitLemmas.{IsMultipleOf-add}
use Rattle.kv_model.specs.declared.error.KvError.{KvError}
use Rattle.kv_model.specs.declared.error.KvError.TheVariants.{ReadFault}
use Rattle.record_core.specs.Endings.{kv_ended}
use Rattle.area_log.proofs.RangeLemmas.{counts_read}
use Rattle.kv_model.specs.Write.{Write}
use Rattle.base_core.specs.Units.{up}
use Rattle.base_core.specs.Sizes.{master_size, record_size}
use Rattle.base_core.proofs.UnitLemmas.{up-ge, up-multiple}
use Rattle.record_core.specs.declared.header.Header.{Header}
use Rattle.record_core.specs.Log.{AreRecords, extent}
use Rattle.record_core.specs.Reading.{HasNoRecord, HasRead, HasRecord, IsFitting, RecordAt}
use Rattle.record_core.proofs.LogLemmas.{AreRecords-append}
use Rattle.area_log.specs.declared.area.Area.{Area}
use Rattle.area_log.specs.Areas.{end_of, first_place, IsAreaOf, IsEnd}
use Rattle.area_log.specs.Listing.{Found, found_at, HandsOn, IsListOf, IsNext, IsRefusal, listed}
use Rattle.area_log.specs.Reading.{Visits}

-- The records before this place were shown.
pub record Walked (g : Geometry) (image : List ℕ) (area : Area) (place : ℕ) (stands_for : List Found → Type 0) : Type 0 where
  pub records : List Write
  pub each : AreRecords g.prog image (first_place g area) place records
  pub stands : stands_for (listed g.prog (first_place g area) records)

-- one record more in the list
pub listed-append : (prog : ℕ) (image : List ℕ) (place end : ℕ) (rs : List Write) (r : Write) → AreRecords prog image place end rs → listed prog place (rs ++ r ∷ []) ≡ listed prog place rs ++ found_at end r ∷ []
listed-append prog image place end [] r is = ap (λ (p : ℕ). found_at p r ∷ []) is
listed-append prog image place end (s ∷ rs) r records = ap (λ (l : List Found). found_at place s ∷ l) (listed-append prog image (place + extent prog s) end rs r records.1)

module _ (g : Geometry) (image : List ℕ) (area : Area) (place : ℕ) (stands_for : List Found → Type 0) (walked : Walked g image area place stands_for) where
  -- behind the last record they are all
  pub walked_all : HasNoRecord g.prog image place (end_of area) → place ≤ end_of area → (list : List Found) × IsListOf g image area place list × stands_for list
  walked_all none inside = (
    listed g.prog (first_place g area) walked.records,
    record { records = walked.records; all = record { each = walked.each; inside = inside; no_more = none }; list_is = refl },
    walked.stands,
  )

  module _ (key : List ℕ) (header : Header) (found : HasRecord g.prog image place (end_of area) key header) where
    -- the record that was read is the next
    pub walked_next : IsNext g image area (record { at = place; key = key; header = header }) (listed g.prog (first_place g area) walked.records)
    walked_next = record {
      records = walked.records;
      each = walked.each;
      before_is = refl;
      this = found.written;
      stands = found.stands;
      inside = found.inside;
      found_is = λ i. record { at = place; key = found.key_is i; header = found.header_is i };
    }

    -- and behind it the walk stands at its end
    pub walked_more : (later : List Found → Type 0) → later (listed g.prog (first_place g area) walked.records ++ record { at = place; key = key; header = header } ∷ [])
        → Walked g image area (place + record_size g.prog header.key_size header.value_size) later
    walked_more later stands =
        let r = found.written in
        let first : ℕ = first_place g area in
        let end : place + record_size g.prog header.key_size header.value_size ≡ place + extent g.prog r =
        ap (λ (h : Header). place + record_size g.prog h.key_size h.value_size) found.header_is in
        let found_is : record { at = place; key = key; header = header } ≡ found_at place r = λ i. record { at = place; key = found.key_is i; header = found.header_is i } in
        record {
          records = walked.records ++ r ∷ [];
          each = subst (λ (p : ℕ). AreRecords g.prog image first p (walked.records ++ r ∷ [])) (sym end)
              (AreRecords-append g.prog image first place (place + extent g.prog r) walked.records (r ∷ []) walked.each (found.stands, refl));
          stands = subst later (ap (λ (f : Found). listed g.prog first walked.records ++ f ∷ []) found_is ∙ sym (listed-append g.prog image first place walked.records r walked.each)) stands;
        }

-- ---- places

whole_record : (prog key_size value_size : ℕ) → IsMultipleOf prog (record_size prog key_size value_size)
whole_record prog key_size value_size = IsMultipleOf-add prog (up prog 24) (up prog (key_size + value_size)) (up-multiple prog 24) (up-multiple prog (key_size + value_size))

pub record_some : (prog key_size value_size : ℕ) → 0 < prog → 24 ≤ record_size prog key_size value_size
record_some prog key_size value_size positive = omega (arith, up-ge prog 24 positive)

module _ (g : Geometry) (valid : IsValid g) (area : Area) where
  pub end_more : (place key_size value_size : ℕ) → IsEnd g area place → place + record_size g.prog key_size value_size ≤ end_of area → IsEnd g area (place + record_size g.prog key_size value_size)
  end_more place key_size value_size end inside = record {
    inside = record { from = omega (arith, end.inside.from); to = inside };
    aligned = IsMultipleOf-add g.prog place (record_size g.prog key_size value_size) end.aligned (whole_record g.prog key_size value_size);
  }

-- ---- what reads and visits leave

-- reads that counted no fault, and then a visit
pub visits_after : {T : Type 0} {old mid new : FlashState} (result : Result T KvError) → OnlyReads old mid → CountsStand old mid → Visits mid new result → Visits old new result
visits_after {old = old} {mid = mid} {new = new} result only counts visit = record {
  geometry = visit.geometry ∙ only.geometry;
  image = visit.image ∙ only.image;
  label = visit.label ∙ only.label;
  tells_moments = visit.tells_moments ∙ only.tells_moments;
  tells_torn = visit.tells_torn ∙ only.tells_torn;
  torn = visit.torn ∙ only.torn;
  read_faults = omega (arith, only.read_faults, visit.read_faults);
  write_faults = visit.write_faults ∙ only.write_faults;
  counts = IsCounted-then old mid new (kv_ended result) counts visit.counts;
  steady = λ steady. visit.steady (only.steady steady);
  sound = λ sound. visit.sound (only.sound sound);
  moment = visit.moment ∙ only.moment;
  told = λ t call c. (λ left. (only.told t call c).0 ((visit.told t call c).0 left), λ left. (visit.told t call c).1 ((only.told t call c).1 left));
}

when_ok : {T E P : Type 0} (result : Result T E) → P → OnOk result P
when_ok (Ok x) holds = holds
when_ok (Err e) holds = tt

-- reads alone
pub visits_reads : {T : Type 0} {old new : FlashState} (result : Result T KvError) → OnlyReads old new → IsCounted old new (kv_ended result) → Visits old new result
visits_reads result only counts = record {
  geometry = only.geometry;
  image = only.image;
  label = only.label;
  tells_moments = only.tells_moments;
  tells_torn = only.tells_torn;
  torn = only.torn;
  read_faults = only.read_faults;
  write_faults = only.write_faults;
  counts = counts;
  steady = λ steady. when_ok result (only.steady steady);
  sound = only.sound;
  moment = only.moment;
  told = only.told;
}

-- a read
pub visits_read : {T : Type 0} {old new : FlashState} (result : Result T KvError) → HasRead old new result → Visits old new result
visits_read result read = visits_reads result read.kept (counts_read result read)

-- a visit's refusal that is handed on
pub visits_handed : {T U : Type 0} {old new : FlashState} (result : Result U KvError) (e : KvError) → IsErrAnd result (λ x. x ≡ e) → Visits {T = T} old new (Err e) → Visits old new result
visits_handed (Ok x) e is visit = absurd is
visits_handed {U = U} {old = old} {new = new} (Err x) e is visit = subst (λ (k : KvError). Visits {T = U} old new (Err k)) (sym is) (record {
  geometry = visit.geometry;
  image = visit.image;
  label = visit.label;
  tells_moments = visit.tells_moments;
  tells_torn = visit.tells_torn;
  torn = visit.torn;
  read_faults = visit.read_faults;
  write_faults = visit.write_faults;
  counts = visit.counts;
  steady = λ steady. tt;
  sound = visit.sound;
  moment = visit.moment;
  told = visit.told;
})

-- ---- counts of refusals

hands_on : {T : Type 0} (result : Result T KvError) (e : KvError) → IsErrAnd result (λ x. x ≡ e) → (before now : ℕ) → (now ≡ counted before) ⊎ ((now ≡ before) × (e ≡ ReadFault)) → HandsOn before now result
hands_on (Ok x) e is before now rose = absurd is
hands_on (Err x) e is before now (inl rose) = inl rose
hands_on (Err x) e is before now (inr fault) = inr (fault.0, is ∙ fault.1)

module _ {T : Type 0} (result : Result T KvError) (e : KvError) (is : IsErrAnd result (λ x. x ≡ e)) (before mid now : ℕ) (stand : mid ≡ before) where
  -- the visitor refused
  pub refusal_handed : now ≡ counted mid → HandsOn before now result
  refusal_handed rose = hands_on result e is before now (inl (rose ∙ ap counted stand))

  -- a read of the walk failed
  pub fault_handed : now ≡ mid → e ≡ ReadFault → HandsOn before now result
  fault_handed same fault = hands_on result e is before now (inr (same ∙ stand, fault))

-- a visit that was answered Ok is made of reads
pub reads_of : {T : Type 0} {old new : FlashState} (x : T) → Visits {T = T} old new (Ok x) → OnlyReads old new
reads_of x visit = record {
  geometry = visit.geometry;
  image = visit.image;
  label = visit.label;
  tells_moments = visit.tells_moments;
  tells_torn = visit.tells_torn;
  torn = visit.torn;
  read_faults = visit.read_faults;
  write_faults = visit.write_faults;
  steady = visit.steady;
  sound = visit.sound;
  moment = visit.moment;
  told = visit.told;
}

-- a refusal of the visitor is one of the walk
pub refused_since : {old mid new : FlashState} {ran_out : Type 0} {e : KvError} → OnlyReads old mid → IsRefusal mid new ran_out e → IsRefusal old new ran_out e
refused_since only refused = ⊎_elim
    (λ fault. inl (record { is = fault.is; rose = Rose-since only.read_faults fault.rose; unsteady = λ steady. fault.unsteady (only.steady steady) }))
    (λ memory. inr memory)
    refused

-- ---- the first place

master_in_area : (g : Geometry) → IsValid g → master_size g.prog ≤ area_size g
unfolding up
master_in_area g valid = valid.master_fits

pub walk_begins : (g : Geometry) (area : Area) → IsValid g → IsAreaOf g area → IsEnd g area (first_place g area)
walk_begins g area valid is =
    let base : IsMultipleOf g.prog area.base = ⊎_elim
    (λ first. subst (IsMultipleOf g.prog) (sym first) (zero-mod g.prog))
    (λ second. subst (IsMultipleOf g.prog) (sym second) (area_whole_progs g valid))
    is.base in
    record {
      inside = record { from = omega arith; to = omega (arith, is.size, master_in_area g valid) };
      aligned = IsMultipleOf-add g.prog area.base (master_size g.prog) base (whole_record g.prog 4 8);
    }

pub walked_none : (g : Geometry) (image : List ℕ) (area : Area) (stands_for : List Found → Type 0) → stands_for [] → Walked g image area (first_place g area) stands_for
walked_none g image area stands_for stands = record { records = []; each = refl; stands = stands }

-- ---- what was read at a place

module _ (prog later : ℕ) (same : later ≡ prog) (image : List ℕ) (place end : ℕ) (key : List ℕ) (found : Option Header) where
  pub fitting_of : (header : Header) → found ≡ Some header → IfSome found (IsFitting later place end key) → IsFitting prog place end key header
  fitting_of header is fits =
      subst (λ (n : ℕ). IsFitting n place end key header) same (subst (λ (o : Option Header). IfSome o (IsFitting later place end key)) is fits)

  pub record_of : (header : Header) → found ≡ Some header → RecordAt later image place end key found → HasRecord prog image place end key header
  record_of header is there = subst (λ (n : ℕ). HasRecord n image place end key header) same (subst (RecordAt later image place end key) is there)

  pub no_record_of : found ≡ None → RecordAt later image place end key found → HasNoRecord prog image place end
  no_record_of is there = subst (λ (n : ℕ). HasNoRecord n image place end) same (subst (RecordAt later image place end key) is there)
