-- What each moment of a record's write leaves of what an image holds.
use Rattle.std.proofs.Common.{◌≡◌, ◌⊎◌, ℕ, ◌+◌, ◌≤◌, List, [], ◌∷◌, ◌++◌, length, take, IsTrue, refl, sym, ◌∙◌, ap, subst, arith, inl, inr, ⊎_elim, Some, None}
use Rattle.std.specs.Prelude.{Option}
use Rattle.std.proofs.lemmas.List.{length-take-le}
use Rattle.base_core.specs.Units.{up}
use Rattle.base_core.specs.Sizes.{master_size}
use Rattle.base_core.proofs.UnitLemmas.{up-ge}
use Rattle.flash_core.specs.declared.geometry.Geometry.{Geometry}
use Rattle.flash_core.specs.Calls.{IsMomentWithin}
use Rattle.flash_core.specs.Images.{Torn, part, put}
use Rattle.flash_core.specs.Sizes.{IsValid, area_size, size_of}
use Rattle.flash_core.specs.State.{DeviceCall, after_of, before_of, call_at}
use Rattle.flash_core.specs.TwoPrograms.{payload_put}
use Rattle.flash_core.proofs.GeometryLaws.{prog_positive, size-areas}
use Rattle.flash_core.proofs.ImageLaws.{Torn-put, Torn-trans, Torn-widen, after_of_call, before_of_call, length-part, length-put}
use Rattle.kv_model.specs.Keys.{is_key}
use Rattle.kv_model.specs.Write.{Write}
use Rattle.record_core.specs.Chance.{AllStand, FirstBreak, NoChance}
use Rattle.record_core.specs.CutMoments.{CutStrictly, HoldsOneOf, IsCut, IsHeaderOrFirstUnit, MayAppend, with_record}
use Rattle.record_core.specs.Cuts.{IsApartFromMaster, IsHeaderCall, base_of}
use Rattle.record_core.specs.Header.{IsHeader}
use Rattle.record_core.specs.Log.{AreAllRecords, extent, spelling_of}
use Rattle.record_core.specs.Mounts.{ActiveRecords, Contents, Holds, reads_of}
use Rattle.record_core.specs.Record.{record_bytes, record_header, record_payload}
use Rattle.record_core.specs.Written.{AppendsRecord, Ascends}
use Rattle.record_core.proofs.ChanceLemmas.{chance_excludes_break, no_chance_after, one_first_break, stand_before}
use Rattle.record_core.proofs.Existence.{master_within}
use Rattle.record_core.proofs.LogLemmas.{AreRecords-append, AreRecords-Torn, IsRecordAt-put, extent-positive, no_record_erased}
use Rattle.record_core.proofs.MountLemmas.{one_contents, reads_stand}
use Rattle.record_core.proofs.RecordLemmas.{length-record_bytes, length-record_header, length-record_payload}
use Rattle.record_core.proofs.TornLemmas.{apart_behind_end, contents_stay, end_behind_master, master_stays, one_base, torn_header, zero_base}
use Rattle.record_core.proofs.WriterLemmas.{put-before}

module _ (g : Geometry) (valid : IsValid g) (P : List ℕ → Type 0) (before after torn : List ℕ) (place size : ℕ) where
  -- nothing is there by chance
  pub cut_sound : P torn → NoChance g before after torn → IsCut g P before after torn place size
  cut_sound holds chance = record { holds = λ _. holds; first = λ at first. absurd (chance_excludes_break g valid before after torn at chance first) }

  -- or something is, first at this place, in such a range
  pub cut_break : IsHeaderOrFirstUnit g place size → FirstBreak g before after torn place → IsCut g P before after torn place size
  cut_break range breaks = record {
    holds = λ chance. absurd (chance_excludes_break g valid before after torn place chance breaks);
    first = λ at first. (one_first_break g valid before after torn at place first breaks, range);
  }

-- what is held as before is there by no chance
pub same_chance : (g : Geometry) (valid : IsValid g) (before after torn : List ℕ) (c : Contents) → Holds g before c → Holds g torn c → NoChance g before after torn
same_chance g valid before after torn c was is d held =
    let same : c ≡ d = one_contents g torn (prog_positive g valid) c d is held in
    subst (λ (x : Contents). AllStand before after (reads_of g x)) same (stand_before before after (reads_of g c) (reads_stand g before (prog_positive g valid) c was))

-- a moment inside a call, by its two whole images
pub call_cut : (g : Geometry) (P : List ℕ → Type 0) (image : List ℕ) (place : ℕ) (bytes : List ℕ) → place + length bytes ≤ length image → (call : DeviceCall) (c : List ℕ) → IsMomentWithin image place bytes (Some call) c
    → IsCut g P image (put image place bytes) c place (length bytes) → CutStrictly g P (Some call) c
call_cut g P image place bytes fits call c moment cut =
    let at : DeviceCall = call_at image place bytes in
    let before : before_of at c ≡ image = before_of_call image place bytes fits c moment.1 in
    let after : after_of at c ≡ put image place bytes = after_of_call image place bytes fits c moment.1 in
    let of_at : IsCut g P (before_of at c) (after_of at c) c place (length bytes) =
    subst (λ (a : List ℕ). IsCut g P (before_of at c) a c place (length bytes)) (sym after) (subst (λ (b : List ℕ). IsCut g P b (put image place bytes) c place (length bytes)) (sym before) cut) in
    subst (λ (k : DeviceCall). CutStrictly g P (Some k) c) (sym moment.0) of_at

module _ (g : Geometry) (valid : IsValid g) (image : List ℕ) (sized : length image ≡ size_of g) (c : Contents) (k : ℕ) (r : Write) (may : MayAppend g image c k r) where
  abbrev header : List ℕ
  header = record_header g.prog r.flags r.key r.value

  abbrev payload : List ℕ
  payload = record_payload g.prog r.key r.value

  abbrev behind : ℕ
  behind = c.end + length header

  positive : 1 ≤ g.prog
  positive = prog_positive g valid

  header_long : length header ≡ up g.prog 24
  header_long = length-record_header g.prog positive r.flags r.key r.value

  payload_long : length payload ≡ up g.prog (length r.key + length r.value)
  payload_long = length-record_payload g.prog positive r.flags r.key r.value

  area_inside : (k ≡ 0) ⊎ (k ≡ 1) → base_of g k + area_size g ≤ length image
  area_inside (inl is) = omega (arith, sized, size-areas g, ap (base_of g) is, zero_base g)
  area_inside (inr is) = omega (arith, sized, size-areas g, ap (base_of g) is, one_base g)

  fits : c.end + extent g.prog r ≤ length image
  fits = omega (arith, may.inside.to, area_inside may.inside.number)

  record_fits : c.end + (length header + length payload) ≤ length image
  record_fits = omega (arith, fits, header_long, payload_long)

  some_header : 24 ≤ length header
  some_header = omega (arith, header_long, up-ge g.prog 24 positive)

  -- whatever differs in the payload's range alone holds the same
  payload_stays : (now : List ℕ) → Torn behind (length payload) image now → Holds g now c
  payload_stays now torn =
      contents_stay g valid image now sized behind (length payload) torn c may.holds
      (apart_behind_end g valid image c may.holds k behind (length payload) may.active
      (record { number = may.inside.number; from = omega (arith, may.inside.from); to = omega (arith, may.inside.to, header_long, payload_long) })
      (omega (arith, some_header)) may.erased)

  -- what stands of a payload that was begun
  begun : (done : ℕ) → done ≤ length payload → Torn behind (length payload) image (put image behind (take done payload))
  begun done most =
      let long : length (take done payload) ≡ done = length-take-le done payload most in
      Torn-widen behind (length (take done payload)) behind (length payload) (omega arith) (omega (arith, long, most))
      (Torn-put image behind (take done payload) (omega (arith, long, most, record_fits)))

  payload_cuts : (call : Option DeviceCall) (now : List ℕ) → Ascends g.prog behind payload image call now → CutStrictly g (HoldsOneOf g c r) call now
  payload_cuts None now first = inl (payload_stays now (subst (λ (l : List ℕ). Torn behind (length payload) image l) (sym first.is) (begun first.done first.most)))
  payload_cuts (Some call) now units =
      let done : ℕ = units.done in
      let most : done ≤ length payload = omega (arith, units.within) in
      let so_far : List ℕ = put image behind (take done payload) in
      let piece : List ℕ = part payload done units.count in
      let long : length piece ≡ units.count = length-part payload done units.count units.within in
      let taken : length (take done payload) ≡ done = length-take-le done payload most in
      let whole : length so_far ≡ length image = length-put image behind (take done payload) (omega (arith, taken, most, record_fits)) in
      let was : Torn behind (length payload) image so_far = begun done most in
      let is : Torn behind (length payload) image now =
      Torn-trans was (Torn-widen (behind + done) (length piece) behind (length payload) (omega arith) (omega (arith, long, units.within)) units.moment.1) in
      call_cut g (HoldsOneOf g c r) so_far (behind + done) piece (omega (arith, whole, long, units.within, record_fits)) call now units.moment
      (cut_sound g valid (HoldsOneOf g c r) so_far (put so_far (behind + done) piece) now (behind + done) (length piece) (inl (payload_stays now is))
      (same_chance g valid so_far (put so_far (behind + done) piece) now c (payload_stays so_far was) (payload_stays now is)))

  -- ---- the whole record

  spelled : put (payload_put image c.end header payload) c.end header ≡ put image c.end (spelling_of g.prog r)
  unfolding record_bytes
  spelled = put-before image c.end header payload (omega (arith, record_fits))

  written : List ℕ
  written = put image c.end (spelling_of g.prog r)

  whole_torn : Torn c.end (extent g.prog r) image (put image c.end (spelling_of g.prog r))
  whole_torn =
      let long : length (spelling_of g.prog r) ≡ extent g.prog r = length-record_bytes g.prog positive r.flags r.key r.value in
      subst (λ (n : ℕ). Torn c.end n image (put image c.end (spelling_of g.prog r))) long (Torn-put image c.end (spelling_of g.prog r) (omega (arith, long, fits)))

  second_apart : (k ≡ 0) ⊎ (k ≡ 1) → IsApartFromMaster g image (area_size g) c.end (extent g.prog r)
  second_apart (inl is) = inr (inl (omega (arith, may.inside.to, ap (base_of g) is, zero_base g)))
  second_apart (inr is) = inl (omega (arith, end_behind_master g valid image c may.holds k may.active, ap (base_of g) is, one_base g))

  all : AreAllRecords g.prog image (base_of g k + master_size g.prog) (base_of g k + area_size g) c.end c.records
  all = subst (λ (active : Option ℕ). ActiveRecords g image active c.end c.records) may.active may.holds.active

  more : IsTrue (is_key r.key) → IsHeader r.flags (length r.key) (length r.value) → AreAllRecords g.prog (put image c.end (spelling_of g.prog r)) (base_of g k + master_size g.prog) (base_of g k + area_size g) (c.end + extent g.prog r) (c.records ++ r ∷ [])
  more valid_key valid_header = record {
    each = AreRecords-append g.prog (put image c.end (spelling_of g.prog r)) _ c.end (c.end + extent g.prog r) c.records (r ∷ [])
        (AreRecords-Torn g.prog positive c.end (extent g.prog r) image (put image c.end (spelling_of g.prog r)) _ c.end c.records whole_torn (inl (omega arith)) all.each)
        (IsRecordAt-put g.prog positive image c.end r valid_key valid_header fits, refl);
    inside = may.inside.to;
    no_more = λ s stands. ⊎_elim
        (λ full. omega (arith, full, extent-positive g.prog positive s))
        (λ erased. absurd (no_record_erased g.prog positive (put image c.end (spelling_of g.prog r)) (c.end + extent g.prog r) s (whole_torn.behind (c.end + extent g.prog r) (omega arith) ∙ erased) stands))
        may.behind;
  }

  -- the image with the record holds one record more
  pub holds_more : IsTrue (is_key r.key) → IsHeader r.flags (length r.key) (length r.value) → Holds g (put image c.end (spelling_of g.prog r)) (with_record g.prog r c)
  holds_more valid_key valid_header = record {
    first_master = master_stays g valid image _ sized c.end (extent g.prog r) whole_torn 0 c.first (omega (arith, master_within g valid, size-areas g))
        (inl (omega (arith, end_behind_master g valid image c may.holds k may.active))) may.holds.first_master;
    second_master = master_stays g valid image _ sized c.end (extent g.prog r) whole_torn (area_size g) c.second (omega (arith, master_within g valid, size-areas g))
        (second_apart may.inside.number) may.holds.second_master;
    active = subst (λ (active : Option ℕ). ActiveRecords g (put image c.end (spelling_of g.prog r)) active (c.end + extent g.prog r) (c.records ++ r ∷ [])) (sym may.active) (more valid_key valid_header);
  }

  module _ (valid_key : IsTrue (is_key r.key)) (valid_header : IsHeader r.flags (length r.key) (length r.value)) where
    abbrev ahead : List ℕ
    ahead = payload_put image c.end header payload

    payload_torn : Torn behind (length payload) image (payload_put image c.end header payload)
    payload_torn = Torn-put image behind payload (omega (arith, record_fits))

    ahead_long : length (payload_put image c.end header payload) ≡ length image
    ahead_long = length-put image behind payload (omega (arith, record_fits))

    ahead_holds : Holds g (payload_put image c.end header payload) c
    ahead_holds = payload_stays ahead payload_torn

    after_holds : Holds g (put (payload_put image c.end header payload) c.end header) (with_record g.prog r c)
    after_holds = subst (λ (l : List ℕ). Holds g l (with_record g.prog r c)) (sym spelled) (holds_more valid_key valid_header)

    header_cut : (now : List ℕ) → Torn c.end (length header) ahead now → IsCut g (HoldsOneOf g c r) ahead (put ahead c.end header) now c.end (length header)
    header_cut now torn =
        let call : IsHeaderCall g ahead (put ahead c.end header) now c k (length header) = record {
          holds = ahead_holds;
          active = may.active;
          erased = payload_torn.below c.end (omega (arith, some_header)) ∙ may.erased;
          in_header = omega (arith, header_long);
          inside = omega (arith, may.inside.to, header_long);
          cut = record { whole = Torn-put ahead c.end header (omega (arith, ahead_long, record_fits)); cut = torn };
        } in
        ⊎_elim
        (λ same. cut_sound g valid (HoldsOneOf g c r) ahead (put ahead c.end header) now c.end (length header) (inl same) (same_chance g valid ahead (put ahead c.end header) now c ahead_holds same))
        (⊎_elim
        (λ whole. subst (λ (l : List ℕ). IsCut g (HoldsOneOf g c r) ahead (put ahead c.end header) l c.end (length header)) (sym whole)
        (cut_sound g valid (HoldsOneOf g c r) ahead (put ahead c.end header) (put ahead c.end header) c.end (length header) (inr after_holds) (no_chance_after g valid ahead (put ahead c.end header))))
        (λ breaks. cut_break g valid (HoldsOneOf g c r) ahead (put ahead c.end header) now c.end (length header) (inl header_long) breaks))
        (torn_header g valid ahead (put ahead c.end header) now (ahead_long ∙ sized) c k (length header) call)

    header_cuts : (call : Option DeviceCall) (now : List ℕ) → IsMomentWithin ahead c.end header call now → CutStrictly g (HoldsOneOf g c r) call now
    header_cuts None now is = inr (subst (λ (l : List ℕ). Holds g l (with_record g.prog r c)) (sym is) after_holds)
    header_cuts (Some call) now moment = call_cut g (HoldsOneOf g c r) ahead c.end header (omega (arith, ahead_long, record_fits)) call now moment (header_cut now moment.1)

    -- each moment of the record's write
    pub record_cuts : (call : Option DeviceCall) (now : List ℕ) → AppendsRecord g.prog c.end r image call now → CutStrictly g (HoldsOneOf g c r) call now
    record_cuts call now (inl ascends) = payload_cuts call now ascends
    record_cuts call now (inr moment) = header_cuts call now moment
