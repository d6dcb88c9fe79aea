-- What a collection keeps of an image whose records it copies.
use Rattle.std.proofs.Common.{◌≡◌, ◌⊎◌, ℕ, ◌+◌, ◌-◌, ◌%◌, ◌^◌, ◌<◌, ◌≤◌, if◌then◌else◌, Bool, List, [], ◌∷◌, ◌++◌, length, refl, sym, ◌∙◌, ap, subst, arith, inl, inr, ⊎_elim, length-append, eq-eqb, Some}
use Rattle.std.specs.Prelude.{Option, Result, Ok, Err, IfErr}
use Rattle.std.proofs.lemmas.Bool.{ne_eqb}
use Rattle.base_core.specs.Sizes.{master_size}
use Rattle.flash_core.specs.declared.geometry.Geometry.{Geometry}
use Rattle.flash_core.specs.Images.{IsErased, Torn, part, put}
use Rattle.flash_core.specs.Erases.{erased_from}
use Rattle.flash_core.specs.Sizes.{IsValid, area_size, size_of}
use Rattle.flash_core.specs.Runs.{Ending, RunsBy}
use Rattle.flash_core.specs.State.{DeviceCall, FlashState, IsLawful}
use Rattle.flash_core.proofs.RunLaws.{runs_weakened}
use Rattle.flash_core.proofs.EraseLaws.{IsErased-erased, Torn-erased, length-erased}
use Rattle.flash_core.proofs.GeometryLaws.{prog_positive}
use Rattle.flash_core.proofs.ImageLaws.{IsErased-Torn, IsErased-within, Torn-put, Torn-trans, Torn-widen, length-put, put-append}
use Rattle.kv_model.specs.declared.error.KvError.{KvError}
use Rattle.kv_model.specs.declared.error.KvError.TheVariants as error
use Rattle.kv_model.specs.declared.call.Got.{Got}
use Rattle.kv_model.specs.FlaggedMap.{FlaggedMap}
use Rattle.kv_model.specs.Write.{Write, map_of}
use Rattle.record_core.specs.CutMoments.{CutStrictly, MountsToOne}
use Rattle.record_core.specs.Cuts.{base_of, version_of}
use Rattle.record_core.specs.Log.{AreAllRecords, AreRecords, IsRecordAt, extent, spelling_of}
use Rattle.record_core.specs.Lookup.{HeadBroken, IsReadFault}
use Rattle.record_core.specs.Mounts.{ActiveRecords, Contents, Holds, MasterAt, Mounts, active_area}
use Rattle.record_core.specs.Record.{IsMaster, master_bytes}
use Rattle.record_core.specs.Renewal.{IsSpare, RenewsArea}
use Rattle.record_core.proofs.LogLemmas.{AreRecords-Torn, IsRecordAt-put, IsRecordAt-Torn, all_before_erased}
use Rattle.record_core.proofs.MapCuts.{renew_map}
use Rattle.record_core.proofs.MountLemmas.{IsMaster-put, length-master_bytes}
use Rattle.record_core.proofs.RecordLemmas.{length-record_bytes}
use Rattle.record_core.proofs.RenewalCuts.{cut_weakened}
use Rattle.record_core.proofs.TornLemmas.{master_at, master_stays, one_base, zero_base}
use Rattle.area_log.specs.declared.area.Area.{Area}
use Rattle.area_log.specs.Areas.{end_of, first_place}
use Rattle.area_log.proofs.AreaLemmas.{area_fits}
use Rattle.area_log.proofs.ReadLemmas.{value_of_record}
use Rattle.area_log.specs.Reading.{IsNotRead}
use Rattle.ram_table.specs.declared.table.Entry.{Entry}
use Rattle.area_collect.specs.declared.entries.Route.{Route}
use Rattle.area_collect.specs.Copies.{AreRead, Copy, IsNotCopied, IsNotReadAt, IsRoute, end_behind, room_for, spellings}
use Rattle.area_collect.specs.Collection.{CanCopy, Collects, IsWhole, StandAt, number_of, with_copies, with_master}
use Rattle.area_collect.specs.Kept.{CanCollect, Follows, KeepsMap}
use Rattle.area_collect.specs.Payload.{IsFault}
use Rattle.area_collect.proofs.CollectLemmas.{base_is, number_is}
use Rattle.area_collect.proofs.EntryLemmas.{areas_apart, end_length}
use Rattle.area_collect.proofs.MapLemmas.{stand_for_map}
use Rattle.area_collect.proofs.StandLemmas.{all_read_stand, read_stands}

-- ---- what is not read where records stand

module _ (s : FlashState) (positive : 1 ≤ s.geometry.prog) (image : List ℕ) (told : s.image ≡ Some image) where
  corrupt_is_no_fault : (e : KvError) (x : Write) (new : FlashState) → (stored computed : ℕ) → e ≡ error.Corrupt stored computed → IsReadFault s new e ⊎ ((e ≡ error.InvalidSize) × (length x.value < 0)) → ⊥
  corrupt_is_no_fault e x new stored computed is (inl fault) = let same = sym is ∙ fault.is in cc
  corrupt_is_no_fault e x new stored computed is (inr invalid) = omega (arith, invalid.1)

  none_unread : (place room : ℕ) (x : Write) (e : KvError) → IsRecordAt s.geometry.prog image place x → extent s.geometry.prog x ≤ room → IsNotReadAt s place room e → ⊥
  none_unread place room x e stands fits not_read =
      let width : place + room - place ≡ room = omega arith in
      let no_value : Result Got KvError = Err e in
      let not_read_wide : IsNotReadAt s place (place + room - place) e = subst (λ (n : ℕ). IsNotReadAt s place n e) (sym width) not_read in
      let why : IsNotRead s s place (place + room - place) 0 e = ⊎_elim (λ broken. inr (inl broken)) (λ wrong. inr (inr (inl wrong))) not_read_wide in
      let is = value_of_record s positive image told place (place + room) x stands (omega (arith, fits)) s 0 [] no_value why in
      ⊎_elim
      (λ (broken : HeadBroken s place room e). corrupt_is_no_fault e x s _ _ broken.is is)
      (λ wrong. corrupt_is_no_fault e x s _ _ wrong.is is)
      not_read

  -- none is missed where they all stand and fit
  none_missed : (route : Route) (end : ℕ) (before : List Entry) (this : Entry) (after : List Entry) (rs xs : List Write) (e : KvError) → AreRead s route end before rs → StandAt s.geometry.prog image (end_of route.from) (before ++ this ∷ after) xs
      → end_behind s.geometry.prog end xs ≤ end_of route.to → IsNotReadAt s this.offset (room_for route this.offset (end_behind s.geometry.prog end rs)) e → ⊥
  none_missed route end [] this after [] [] e read stand fit not_read = absurd stand
  none_missed route end [] this after [] (x ∷ xs) e read stand fit not_read =
      none_unread this.offset (room_for route this.offset end) x e stand.0 (omega (arith, stand.1, fit, end_length s.geometry.prog positive (end + extent s.geometry.prog x) xs)) not_read
  none_missed route end [] this after (r ∷ rs) xs e read stand fit not_read = absurd read
  none_missed route end (b ∷ before) this after [] xs e read stand fit not_read = absurd read
  none_missed route end (b ∷ before) this after (r ∷ rs) [] e read stand fit not_read = absurd stand
  none_missed route end (b ∷ before) this after (r ∷ rs) (x ∷ xs) e read stand fit not_read =
      let first : r ≡ x = read_stands s positive image told b.offset (room_for route b.offset end) r x read.0 stand.0 in
      none_missed route (end + extent s.geometry.prog r) before this after rs xs e read.1 stand.2
      (subst (λ (y : Write). end_behind s.geometry.prog (end + extent s.geometry.prog y) xs ≤ end_of route.to) (sym first) fit) not_read

  pub none_corrupt : (copy : Copy) (xs : List Write) (e : KvError) → CanCopy s.geometry image copy xs → IsNotCopied s copy (first_place s.geometry copy.route.to) e → ⊥
  none_corrupt copy xs e can failed =
      none_missed copy.route (first_place s.geometry copy.route.to) failed.before failed.this failed.after failed.records xs e failed.read
      (subst (λ (l : List Entry). StandAt s.geometry.prog image (end_of copy.route.from) l xs) failed.entries_are can.stand) can.fit failed.not_read

pub only_faults : {T : Type 0} (s : FlashState) → IsValid s.geometry → (image : List ℕ) → s.image ≡ Some image → (copy : Copy) (xs : List Write) → CanCopy s.geometry image copy xs → (result : Result T KvError)
    → IfErr result (λ e. IsFault e ⊎ IsNotCopied s copy (first_place s.geometry copy.route.to) e) → IfErr result IsFault
only_faults s valid image told copy xs can (Ok x) cause = tt
only_faults s valid image told copy xs can (Err e) (inl fault) = fault
only_faults s valid image told copy xs can (Err e) (inr failed) = absurd (none_corrupt s (prog_positive s.geometry valid) image told copy xs e can failed)

-- ---- records that were written one behind another stand so

module _ (prog : ℕ) (positive : 1 ≤ prog) where
  pub spelled_stand : (old : List ℕ) (limit : ℕ) (es : List Entry) (rs : List Write) → StandAt prog old limit es rs → (image : List ℕ) (place : ℕ) → place + length (spellings prog rs) ≤ length image
      → AreRecords prog (put image place (spellings prog rs)) place (end_behind prog place rs) rs
  spelled_stand old limit [] [] stand image place fits = refl
  spelled_stand old limit [] (r ∷ rs) stand image place fits = absurd stand
  spelled_stand old limit (e ∷ es) [] stand image place fits = absurd stand
  spelled_stand old limit (e ∷ es) (r ∷ rs) stand image place fits =
      let first : List ℕ = spelling_of prog r in
      let rest : List ℕ = spellings prog rs in
      let long : length first ≡ extent prog r = length-record_bytes prog positive r.flags r.key r.value in
      let both : length (first ++ rest) ≡ extent prog r + length rest = length-append first rest ∙ omega (arith, long) in
      let now : List ℕ = put image place first in
      let now_long : length now ≡ length image = length-put image place first (omega (arith, long, both, fits)) in
      let at : place + length first ≡ place + extent prog r = ap (λ (n : ℕ). place + n) long in
      let joined : put now (place + extent prog r) rest ≡ put image place (first ++ rest) =
      ap (λ (p : ℕ). put now p rest) (sym at) ∙ put-append image place first rest (omega (arith, both, fits)) in
      let here : IsRecordAt prog now place r = IsRecordAt-put prog positive image place r stand.0.valid_key stand.0.valid_header (omega (arith, both, fits)) in
      let behind : AreRecords prog (put now (place + extent prog r) rest) (place + extent prog r) (end_behind prog (place + extent prog r) rs) rs =
      spelled_stand old limit es rs stand.2 now (place + extent prog r) (omega (arith, both, fits, now_long)) in
      subst (λ (l : List ℕ). IsRecordAt prog l place r × AreRecords prog l (place + extent prog r) (end_behind prog (place + extent prog r) rs) rs) joined (
        IsRecordAt-Torn prog positive (place + extent prog r) (length rest) now (put now (place + extent prog r) rest) place r
            (Torn-put now (place + extent prog r) rest (omega (arith, both, fits, now_long))) (inl (omega arith)) here,
        behind,
      )

-- ---- the image of a whole collection

module _ (g : Geometry) (valid : IsValid g) (image : List ℕ) (sized : length image ≡ size_of g) (route : Route) (is_route : IsRoute g route) (version : ℕ) (version_fits : version < 2 ^ 16) (es : List Entry) (rs : List Write) (can : CanCopy g image (record { route = route; entries = es }) rs) where
  to : Area
  to = route.to

  positive : 1 ≤ g.prog
  positive = prog_positive g valid

  first : ℕ
  first = first_place g route.to

  copies : List ℕ
  copies = with_copies g route.to image rs

  left : List ℕ
  left = with_master g route.to version (with_copies g route.to image rs)

  blank : List ℕ
  blank = erased_from image route.to.base (area_size g)

  inside : end_of route.to ≤ size_of g
  inside = area_fits g route.to is_route.to

  size_is : route.to.size ≡ area_size g
  size_is = is_route.to.size

  blank_long : length (erased_from image route.to.base (area_size g)) ≡ size_of g
  blank_long = length-erased image route.to.base (area_size g) (omega (arith, inside, size_is, sized)) ∙ sized

  end_is : end_behind g.prog (first_place g route.to) rs ≡ first_place g route.to + length (spellings g.prog rs)
  end_is = end_length g.prog positive (first_place g route.to) rs

  pub copies_torn : Torn (first_place g route.to) (length (spellings g.prog rs)) (erased_from image route.to.base (area_size g)) (with_copies g route.to image rs)
  copies_torn = Torn-put (erased_from image route.to.base (area_size g)) (first_place g route.to) (spellings g.prog rs) (omega (arith, end_is, can.fit, inside, blank_long))

  copies_long : length (with_copies g route.to image rs) ≡ size_of g
  copies_long = copies_torn.same_length ∙ blank_long

  master_long : length (master_bytes g.prog version) ≡ master_size g.prog
  master_long = length-master_bytes g.prog positive version

  master_inside : route.to.base + master_size g.prog ≤ size_of g
  master_inside = omega (arith, valid.master_fits, inside, size_is)

  master_torn : Torn route.to.base (master_size g.prog) (with_copies g route.to image rs) (with_master g route.to version (with_copies g route.to image rs))
  master_torn = subst (λ (n : ℕ). Torn route.to.base n (with_copies g route.to image rs) (with_master g route.to version (with_copies g route.to image rs))) master_long
      (Torn-put (with_copies g route.to image rs) route.to.base (master_bytes g.prog version) (omega (arith, master_long, copies_long, master_inside)))

  -- nothing outside the area differs
  area_torn : Torn route.to.base (area_size g) image (with_master g route.to version (with_copies g route.to image rs))
  area_torn = Torn-trans (Torn-trans
      (Torn-erased image route.to.base (area_size g) (area_size g) (omega arith) (omega (arith, inside, size_is, sized)))
      (Torn-widen (first_place g route.to) (length (spellings g.prog rs)) route.to.base (area_size g) (omega arith) (omega (arith, end_is, can.fit, size_is)) copies_torn))
      (Torn-widen route.to.base (master_size g.prog) route.to.base (area_size g) (omega arith) (omega (arith, valid.master_fits)) master_torn)

  pub own_master : IsMaster g.prog version (part (with_master g route.to version (with_copies g route.to image rs)) route.to.base (master_size g.prog))
  own_master = IsMaster-put g.prog positive (with_copies g route.to image rs) route.to.base version version_fits (omega (arith, copies_long, master_inside))

  copied_records : AreRecords g.prog (with_master g route.to version (with_copies g route.to image rs)) (first_place g route.to) (end_behind g.prog (first_place g route.to) rs) rs
  copied_records = AreRecords-Torn g.prog positive route.to.base (master_size g.prog) (with_copies g route.to image rs) (with_master g route.to version (with_copies g route.to image rs)) (first_place g route.to) (end_behind g.prog (first_place g route.to) rs) rs
      master_torn (inr (omega arith))
      (spelled_stand g.prog positive image (end_of route.from) es rs can.stand (erased_from image route.to.base (area_size g)) (first_place g route.to) (omega (arith, end_is, can.fit, inside, blank_long)))

  pub rest : IsErased (with_master g route.to version (with_copies g route.to image rs)) (end_behind g.prog (first_place g route.to) rs) (end_of route.to - end_behind g.prog (first_place g route.to) rs)
  rest =
      let end : ℕ = end_behind g.prog (first_place g route.to) rs in
      let n : ℕ = end_of route.to - end in
      IsErased-Torn route.to.base (master_size g.prog) (with_copies g route.to image rs) (with_master g route.to version (with_copies g route.to image rs)) end n master_torn (inr (omega (arith, end_is)))
      (IsErased-Torn (first_place g route.to) (length (spellings g.prog rs)) (erased_from image route.to.base (area_size g)) (with_copies g route.to image rs) end n copies_torn (inr (omega (arith, end_is)))
      (IsErased-within (erased_from image route.to.base (area_size g)) route.to.base (area_size g) end n
      (IsErased-erased image route.to.base (area_size g) (omega (arith, inside, size_is, sized))) (omega (arith, end_is)) (omega (arith, can.fit, size_is))))

  pub all_copied_records : AreAllRecords g.prog (with_master g route.to version (with_copies g route.to image rs)) (first_place g route.to) (end_of route.to) (end_behind g.prog (first_place g route.to) rs) rs
  all_copied_records = all_before_erased g.prog positive (with_master g route.to version (with_copies g route.to image rs)) (first_place g route.to) (end_of route.to) (end_behind g.prog (first_place g route.to) rs) rs copied_records can.fit rest

  -- the other area's master record stays
  pub other_master : (v : Option ℕ) → MasterAt g.prog image route.from.base v → MasterAt g.prog (with_master g route.to version (with_copies g route.to image rs)) route.from.base v
  other_master v is = master_stays g valid image (with_master g route.to version (with_copies g route.to image rs)) sized route.to.base (area_size g) area_torn route.from.base v
      (omega (arith, valid.master_fits, area_fits g route.from is_route.from, is_route.from.size))
      (⊎_elim (λ before. inl (omega (arith, before, valid.master_fits, is_route.from.size))) (λ behind. inr (inl (omega (arith, behind, size_is)))) (areas_apart g route is_route)) is

  -- ---- what it holds

  contents_as : (first second : Option ℕ) (k : ℕ) → MasterAt g.prog (with_master g route.to version (with_copies g route.to image rs)) 0 first → MasterAt g.prog (with_master g route.to version (with_copies g route.to image rs)) (area_size g) second
      → active_area first second ≡ Some k → base_of g k ≡ route.to.base → Mounts g (with_master g route.to version (with_copies g route.to image rs)) (map_of rs)
  contents_as first second k is_first is_second active at =
      let end : ℕ = end_behind g.prog (first_place g route.to) rs in
      let limit : route.to.base + area_size g ≡ end_of route.to = omega (arith, size_is) in
      let all : ActiveRecords g (with_master g route.to version (with_copies g route.to image rs)) (Some k) end rs =
      subst (λ (p : ℕ). AreAllRecords g.prog (with_master g route.to version (with_copies g route.to image rs)) (p + master_size g.prog) (p + area_size g) end rs) (sym at)
      (subst (λ (n : ℕ). AreAllRecords g.prog (with_master g route.to version (with_copies g route.to image rs)) (first_place g route.to) n end rs) (sym limit) all_copied_records) in (
        record { first = first; second = second; records = rs; end = end },
        record {
          first_master = is_first;
          second_master = is_second;
          active = subst (λ (a : Option ℕ). ActiveRecords g (with_master g route.to version (with_copies g route.to image rs)) a end rs) (sym active) all;
        },
        refl,
      )

  module _ (own : ℕ) (own_fits : own < 2 ^ 16) (next : version ≡ (own + 1) % 2 ^ 16) where
    pub to_second : active_area (Some own) (Some version) ≡ Some 1
    to_second = ap (λ (b : Bool). Some (if b then 1 else 0)) (eq-eqb version ((own + 1) % 2 ^ 16) next)

    pub to_first : active_area (Some version) (Some own) ≡ Some 0
    to_first = ap (λ (b : Bool). Some (if b then 1 else 0)) (ne_eqb own ((version + 1) % 2 ^ 16) (λ same. omega (arith, same, next, own_fits)))

    -- where the area that was copied from has this version, its records are active no more
    pub whole_mounts : MasterAt g.prog image route.from.base (Some own) → Mounts g (with_master g route.to version (with_copies g route.to image rs)) (map_of rs)
    whole_mounts had = ⊎_elim
        (λ to_is_first. ⊎_elim
        (λ from_is_first. absurd (is_route.apart (from_is_first ∙ sym to_is_first)))
        (λ from_is_second. contents_as (Some version) (Some own) 0
        (subst (λ (p : ℕ). MasterAt g.prog (with_master g route.to version (with_copies g route.to image rs)) p (Some version)) to_is_first own_master)
        (subst (λ (p : ℕ). MasterAt g.prog (with_master g route.to version (with_copies g route.to image rs)) p (Some own)) from_is_second (other_master (Some own) had))
        to_first (zero_base g ∙ sym to_is_first))
        is_route.from.base)
        (λ to_is_second. ⊎_elim
        (λ from_is_first. contents_as (Some own) (Some version) 1
        (subst (λ (p : ℕ). MasterAt g.prog (with_master g route.to version (with_copies g route.to image rs)) p (Some own)) from_is_first (other_master (Some own) had))
        (subst (λ (p : ℕ). MasterAt g.prog (with_master g route.to version (with_copies g route.to image rs)) p (Some version)) to_is_second own_master)
        to_second (one_base g ∙ sym to_is_second))
        (λ from_is_second. absurd (is_route.apart (from_is_second ∙ sym to_is_second)))
        is_route.from.base)
        is_route.to.base

-- ---- each moment of a collection

some_is : (x y : ℕ) → Some x ≡ Some y → x ≡ y
some_is x y same = cc

renew_implies : (g : Geometry) (k : ℕ) (V W : List ℕ → Type 0) (image : List ℕ) (call : Option DeviceCall) (now : List ℕ) → ((left : List ℕ) → V left → W left) → RenewsArea g k V image call now → RenewsArea g k W image call now
renew_implies g k V W image call now implies (inl fills) = inl fills
renew_implies g k V W image call now implies (inr last) = inr (record {
  filled = last.filled;
  header = last.header;
  fills = last.fills;
  long = last.long;
  whole = implies _ last.whole;
  moment = last.moment;
})

module _ (s : FlashState) (valid : IsValid s.geometry) (image : List ℕ) (told : s.image ≡ Some image) (sized : length image ≡ size_of s.geometry) (route : Route) (is_route : IsRoute s.geometry route) (entries : List Entry) (version : ℕ) (map : FlaggedMap) (can : CanCollect s.geometry image (record { route = route; entries = entries }) version map) where
  version_fits : version < 2 ^ 16
  version_fits = omega (arith, can.follows.next)

  from_base : base_of s.geometry (number_of route.from) ≡ route.from.base
  from_base = base_is s.geometry valid route.from is_route.from

  -- the version of the area that is copied from
  had_as : (k : ℕ) → (k ≡ 0) ⊎ (k ≡ 1) → version_of k can.contents ≡ Some can.follows.own → base_of s.geometry k ≡ route.from.base → MasterAt s.geometry.prog image route.from.base (Some can.follows.own)
  had_as k number own_is at = subst (λ (v : Option ℕ). MasterAt s.geometry.prog image route.from.base v) own_is
      (subst (λ (p : ℕ). MasterAt s.geometry.prog image p (version_of k can.contents)) at (master_at s.geometry image can.contents k number can.holds))

  had : MasterAt s.geometry.prog image route.from.base (Some can.follows.own)
  had = had_as (number_of route.from) (number_is s.geometry valid route.from is_route.from) can.follows.own_is from_base

  whole_is_map : (left : List ℕ) → IsWhole s (record { route = route; entries = entries }) version image left → Mounts s.geometry left map
  whole_is_map left whole =
      let same : whole.records ≡ can.records = all_read_stand s (prog_positive s.geometry valid) image told route (first_place s.geometry route.to) (end_of route.from) entries whole.records can.records whole.read can.can.stand in
      let is : left ≡ with_master s.geometry route.to version (with_copies s.geometry route.to image can.records) =
      whole.is ∙ ap (λ (rs : List Write). with_master s.geometry route.to version (with_copies s.geometry route.to image rs)) same in
      subst (λ (l : List ℕ). Mounts s.geometry l map) (sym is)
      (subst (λ (m : FlaggedMap). Mounts s.geometry (with_master s.geometry route.to version (with_copies s.geometry route.to image can.records)) m) (stand_for_map map can.records can.stand_for)
      (whole_mounts s.geometry valid image sized route is_route version version_fits entries can.records can.can can.follows.own had.in_range can.follows.next had))

  spare : IsSpare s.geometry image can.contents (number_of route.to)
  spare = record {
    holds = can.holds;
    number = number_is s.geometry valid route.to is_route.to;
    spare = λ active.
        is_route.apart (sym from_base ∙ ap (base_of s.geometry) (some_is (number_of route.from) (number_of route.to) (sym can.active ∙ active)) ∙ base_is s.geometry valid route.to is_route.to);
  }

  pub collection_keeps : (call : Option DeviceCall) (now : List ℕ) → RenewsArea s.geometry (number_of route.to) (IsWhole s (record { route = route; entries = entries }) version image) image call now → CutStrictly s.geometry (λ left. Mounts s.geometry left map) call now
  collection_keeps call now renews =
      cut_weakened s.geometry (MountsToOne s.geometry (map_of can.contents.records) map) (λ left. Mounts s.geometry left map)
      (λ left is. ⊎_elim (λ was. subst (Mounts s.geometry left) (sym can.map_is) was) (λ new. new) is) call now
      (renew_map s.geometry valid image sized can.contents (number_of route.to) map spare call now
      (renew_implies s.geometry (number_of route.to) (IsWhole s (record { route = route; entries = entries }) version image) (λ left. Mounts s.geometry left map) image call now whole_is_map renews))

-- copies that a master record of the next version is written before are what the image mounts to
pub finished_mounts : (g : Geometry) (image : List ℕ) (copy : Copy) (version : ℕ) (records : List Write) (contents : Contents) → IsValid g → length image ≡ size_of g → IsRoute g copy.route → CanCopy g image copy records → Holds g image contents → Follows contents (number_of copy.route.from) version
    → Mounts g (with_master g copy.route.to version (with_copies g copy.route.to image records)) (map_of records)
finished_mounts g image copy version records contents valid sized is_route can holds follows =
    let k : ℕ = number_of copy.route.from in
    let number = number_is g valid copy.route.from is_route.from in
    let had : MasterAt g.prog image copy.route.from.base (Some follows.own) =
    subst (λ (p : ℕ). MasterAt g.prog image p (Some follows.own)) (base_is g valid copy.route.from is_route.from)
    (subst (λ (v : Option ℕ). MasterAt g.prog image (base_of g k) v) follows.own_is (master_at g image contents k number holds)) in
    whole_mounts g valid image sized copy.route is_route version (omega (arith, follows.next)) copy.entries records can follows.own had.in_range follows.next had

pub keeps_runs : {old new : FlashState} {ending : Ending} (lawful : IsLawful old) (valid : IsValid old.geometry) (route : Route) (is_route : IsRoute old.geometry route) (entries : List Entry) (version : ℕ) → RunsBy old new (Collects old (record { route = route; entries = entries }) version) ending
    → RunsBy old new (KeepsMap old (record { route = route; entries = entries }) version) ending
keeps_runs {old} lawful valid route is_route entries version runs = runs_weakened (KeepsMap old (record { route = route; entries = entries }) version)
    (λ image told call c moment map can. collection_keeps old valid image told (lawful.sized image told) route is_route entries version map can call c moment) runs
