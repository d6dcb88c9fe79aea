-- What a collection does to a device.
use Rattle.std.proofs.Common.{◌≡◌, ◌≢◌, ◌⊎◌, ℕ, zero, suc, ◌+◌, ◌-◌, ◌<◌, ◌≤◌, if◌then◌else◌, Bool, List, [], ◌∷◌, length, min, replicate, take, drop, sym, ◌∙◌, ap, subst, arith, inl, inr, ⊎_elim, eq-eqb}
use Rattle.std.specs.Prelude.{Option, Some, None, Result, Ok, Err, IfOk, IfErr}
use Rattle.std.specs.List.{remove}
use Rattle.std.proofs.lemmas.List.Edits.{get_or-remove_above, get_or-remove_below, length-remove}
use Rattle.std.specs.Option.{ForSome}
use Rattle.std.proofs.lemmas.Bool.{cases_lt, ne_eqb}
use Rattle.std.proofs.lemmas.List.{get_or-drop, get_or-take, length-drop, length-replicate, length-take}
use Rattle.std.proofs.Math.Nat.{zero-mod}
use Rattle.base_core.specs.Sizes.{master_size}
use Rattle.base_core.specs.Units.{IsMultipleOf, up}
use Rattle.base_core.proofs.UnitLemmas.{IsMultipleOf-mul}
use Rattle.flash_core.specs.declared.geometry.Geometry.{Geometry}
use Rattle.flash_core.specs.Calls.{Keeps}
use Rattle.flash_core.specs.Erases.{AreUnits, ErasesUnits, erased_from}
use Rattle.flash_core.specs.Images.{IsErased, Torn, put}
use Rattle.flash_core.specs.Moments.{Within}
use Rattle.flash_core.specs.Runs.{Done, Ending, RunsBy}
use Rattle.flash_core.specs.Sizes.{IsValid, area_size, size_of}
use Rattle.flash_core.specs.State.{DeviceCall, FlashState, IsLawful}
use Rattle.flash_core.proofs.EraseLaws.{IsErased-erased, Torn-erased, length-erased}
use Rattle.flash_core.proofs.GeometryLaws.{erase_le_area, prog_positive}
use Rattle.flash_core.proofs.ImageLaws.{IsErased-within, Torn-refl}
use Rattle.flash_core.proofs.KeptLaws.{told_before}
use Rattle.flash_core.proofs.MomentLaws.{Within-moment, Within-trans, Within-widen}
use Rattle.flash_core.proofs.RunLaws.{runs_then, runs_weakened}
use Rattle.kv_model.specs.declared.error.KvError.{KvError}
use Rattle.kv_model.specs.Write.{Write}
use Rattle.record_core.specs.Cuts.{base_of}
use Rattle.record_core.specs.Log.{extent}
use Rattle.record_core.proofs.LogLemmas.{extent-positive}
use Rattle.record_core.specs.Record.{master_bytes}
use Rattle.record_core.specs.Renewal.{BehindHeader, FillsArea, RenewsArea, behind_header, blanked}
use Rattle.record_core.specs.Written.{AppendsRecord, master_of}
use Rattle.record_core.proofs.RenewalLemmas.{behind_more, complete_more, erased_fills, erases_fill, fill_more, master_completes}
use Rattle.record_core.proofs.TornLemmas.{one_base, zero_base}
use Rattle.area_log.specs.declared.area.Area.{Area}
use Rattle.area_log.specs.Areas.{end_of, first_place, IsAreaOf, IsEnd, IsRange}
use Rattle.area_log.proofs.AreaLemmas.{area_fits}
use Rattle.area_log.proofs.ScanLemmas.{walk_begins}
use Rattle.ram_table.specs.declared.table.Entry.{Entry}
use Rattle.area_collect.specs.declared.entries.Route.{Route}
use Rattle.area_collect.specs.Copies.{AreIn, AreRead, Copied, Copy, HasCopiedMore, IsNotCopied, IsRoute, end_behind, moved, segment, spellings}
use Rattle.area_collect.specs.Collection.{HasCopied, IsWhole, number_of, with_copies, with_master}
use Rattle.area_collect.proofs.EntryLemmas.{all_read_since, end_inside, end_length, end_whole, no_entry, not_copied_since}
use Rattle.area_collect.proofs.PayloadLemmas.{erased_behind, some_is}
use Rattle.area_collect.proofs.StandLemmas.{all_read_stand}

-- ---- areas by their numbers

module _ (g : Geometry) (valid : IsValid g) (area : Area) (is : IsAreaOf g area) where
  some_area : 1 ≤ area_size g
  some_area = omega (arith, erase_le_area g valid, valid.erase_positive)

  second_apart : area.base ≡ area_size g → area.base ≢ 0
  second_apart at zero_at = omega (arith, at, zero_at, some_area)

  pub number_is : (number_of area ≡ 0) ⊎ (number_of area ≡ 1)
  number_is = ⊎_elim
      (λ first. inl (ap (λ (b : Bool). if b then 0 else 1) (eq-eqb area.base 0 first)))
      (λ second. inr (ap (λ (b : Bool). if b then 0 else 1) (ne_eqb area.base 0 (second_apart second))))
      is.base

  pub base_is : base_of g (number_of area) ≡ area.base
  base_is = ⊎_elim
      (λ first. ap (base_of g) (ap (λ (b : Bool). if b then 0 else 1) (eq-eqb area.base 0 first)) ∙ zero_base g ∙ sym first)
      (λ second. ap (base_of g) (ap (λ (b : Bool). if b then 0 else 1) (ne_eqb area.base 0 (second_apart second))) ∙ one_base g ∙ sym second)
      is.base

  pub area_units : AreUnits g area.base g.units_per_area
  area_units = record {
    valid = valid;
    aligned = ⊎_elim (λ first. subst (IsMultipleOf g.erase) (sym first) (zero-mod g.erase)) (λ second. subst (IsMultipleOf g.erase) (sym second) (IsMultipleOf-mul g.erase g.units_per_area)) is.base;
    inside = omega (arith, area_fits g area is, is.size);
  }

-- ---- fills

-- An area was erased, and behind the place of its header it may be filled.
pub record Filling (old mid : FlashState) (k : ℕ) : Type 0 where
  pub runs : RunsBy old mid (FillsArea old.geometry k) Done
  pub filled : (image now : List ℕ) → old.image ≡ Some image → mid.image ≡ Some now → BehindHeader old.geometry k (blanked old.geometry k image) None now

module _ {old : FlashState} (lawful : IsLawful old) (valid : IsValid old.geometry) (area : Area) (is : IsAreaOf old.geometry area) where
  g : Geometry
  g = old.geometry

  -- each moment of the erase of its units
  pub erase_fills : {new : FlashState} {ending : Ending} (units : ℕ) → units ≡ old.geometry.units_per_area → RunsBy old new (ErasesUnits old.geometry area.base units) ending → RunsBy old new (FillsArea old.geometry (number_of area)) ending
  erase_fills units units_is runs = runs_weakened (FillsArea old.geometry (number_of area)) (λ image told call c moment.
      erases_fill old.geometry valid (number_of area) (number_is old.geometry valid area is) image (lawful.sized image told) call c
      (subst (λ (n : ℕ). ErasesUnits old.geometry (base_of old.geometry (number_of area)) n image call c) units_is
      (subst (λ (p : ℕ). ErasesUnits old.geometry p units image call c) (sym (base_is old.geometry valid area is)) moment))) runs

  -- the whole area erased
  pub erased_filling : {mid : FlashState} → RunsBy old mid (FillsArea old.geometry (number_of area)) Done → ForSome old.image (λ image. mid.image ≡ Some (erased_from image area.base (area_size old.geometry))) → Filling old mid (number_of area)
  erased_filling {mid} runs erased = record {
    runs = runs;
    filled = λ image now told mid_told.
        let at : erased_from image (base_of old.geometry (number_of area)) (area_size old.geometry) ≡ now =
        ap (λ (p : ℕ). erased_from image p (area_size old.geometry)) (base_is old.geometry valid area is)
        ∙ some_is (erased_from image area.base (area_size old.geometry)) now (sym (erased image told) ∙ mid_told) in
        subst (λ (l : List ℕ). BehindHeader old.geometry (number_of area) (blanked old.geometry (number_of area) image) None l) at
        (erased_fills old.geometry valid (number_of area) (number_is old.geometry valid area is) image (lawful.sized image told));
  }

  -- a run behind the place of the header
  behind_of : (place n : ℕ) → first_place old.geometry area ≤ place → place + n ≤ end_of area → (image : List ℕ) (call : Option DeviceCall) (c : List ℕ) → Within place n image call c → BehindHeader old.geometry (number_of area) image call c
  behind_of place n from to image call c moment =
      Within-widen place n (behind_header old.geometry (number_of area)) (area_size old.geometry - up old.geometry.prog 24) image call c
      (omega (arith, base_is old.geometry valid area is, from)) (omega (arith, base_is old.geometry valid area is, to, is.size, valid.header_fits, erase_le_area old.geometry valid)) moment

  pub fill_runs : {mid new : FlashState} {ending : Ending} (place n : ℕ) → first_place old.geometry area ≤ place → place + n ≤ end_of area → Filling old mid (number_of area) → RunsBy mid new (Within place n) ending → RunsBy old new (FillsArea old.geometry (number_of area)) ending
  fill_runs place n from to filling runs = runs_then filling.runs runs (λ image now told mid_told was call c moment.
      fill_more old.geometry (number_of area) image now call c (filling.filled image now told mid_told) (behind_of place n from to now call c moment))

  pub filling_more : {mid new : FlashState} (place n : ℕ) → first_place old.geometry area ≤ place → place + n ≤ end_of area → Filling old mid (number_of area) → RunsBy mid new (Within place n) Done → Filling old new (number_of area)
  filling_more {mid} {new} place n from to filling runs = record {
    runs = fill_runs place n from to filling runs;
    filled = λ image now told new_told.
        let was = told_before runs.kept new_told in
        behind_more old.geometry (number_of area) (blanked old.geometry (number_of area) image) was.0 None now (filling.filled image was.0 told was.1)
        (behind_of place n from to was.0 None now (runs.stands was.0 was.1 now new_told));
  }

  unit_inside : (image : List ℕ) → length image ≡ size_of old.geometry → base_of old.geometry (number_of area) + old.geometry.erase ≤ length image
  unit_inside image sized = omega (arith, base_is old.geometry valid area is, sized, area_fits old.geometry area is, is.size, erase_le_area old.geometry valid)

  blanked_sized : (image : List ℕ) → length image ≡ size_of old.geometry → length (blanked old.geometry (number_of area) image) ≡ size_of old.geometry
  blanked_sized image sized = length-erased image (base_of old.geometry (number_of area)) old.geometry.erase (unit_inside image sized) ∙ sized

  -- a fill is the beginning of a renewal
  pub fill_renews : {new : FlashState} {ending : Ending} (W : List ℕ → List ℕ → Type 0) → RunsBy old new (FillsArea old.geometry (number_of area)) ending → RunsBy old new (λ image call c. RenewsArea old.geometry (number_of area) (W image) image call c) ending
  fill_renews W runs = runs_weakened (λ image call c. RenewsArea old.geometry (number_of area) (W image) image call c) (λ image told call c fills. inl fills) runs

  -- and the master record's write its end
  pub master_renews : {mid new : FlashState} {ending : Ending} (W : List ℕ → List ℕ → Type 0) (version : ℕ) → ((image now : List ℕ) → old.image ≡ Some image → mid.image ≡ Some now → W image (put now area.base (master_bytes old.geometry.prog version))) → Filling old mid (number_of area)
      → RunsBy mid new (AppendsRecord mid.geometry.prog area.base (master_of version)) ending → RunsBy old new (λ image call c. RenewsArea old.geometry (number_of area) (W image) image call c) ending
  master_renews {mid} {new} {ending} W version whole filling runs =
      runs_then (fill_renews W filling.runs) runs (λ image now told mid_told was call c appends.
      let filled = filling.filled image now told mid_told in
      let sized : length now ≡ size_of old.geometry = filled.same_length ∙ blanked_sized image (lawful.sized image told) in
      complete_more old.geometry (number_of area) (W image) image now call c filled
      (master_completes old.geometry valid (number_of area) (number_is old.geometry valid area is) now sized (W image) version
      (subst (λ (p : ℕ). W image (put now p (master_bytes old.geometry.prog version))) (sym (base_is old.geometry valid area is)) (whole image now told mid_told)) call c
      (subst (λ (p : ℕ). AppendsRecord old.geometry.prog p (master_of version) now call c) (sym (base_is old.geometry valid area is))
      (subst (λ (x : Geometry). AppendsRecord x.prog area.base (master_of version) now call c) filling.runs.kept.geometry appends))))

  -- ---- nothing outside the area differs

  blanked_within : (image : List ℕ) → length image ≡ size_of old.geometry → Torn area.base (area_size old.geometry) image (blanked old.geometry (number_of area) image)
  blanked_within image sized = subst (λ (p : ℕ). Torn p (area_size old.geometry) image (blanked old.geometry (number_of area) image)) (base_is old.geometry valid area is)
      (Torn-erased image (base_of old.geometry (number_of area)) old.geometry.erase (area_size old.geometry) (erase_le_area old.geometry valid)
      (omega (arith, base_is old.geometry valid area is, sized, area_fits old.geometry area is, is.size, erase_le_area old.geometry valid)))

  behind_within : (image : List ℕ) (call : Option DeviceCall) (c : List ℕ) → BehindHeader old.geometry (number_of area) image call c → Within area.base (area_size old.geometry) image call c
  behind_within image call c moment = Within-widen (behind_header old.geometry (number_of area)) (area_size old.geometry - up old.geometry.prog 24) area.base (area_size old.geometry) image call c
      (omega (arith, base_is old.geometry valid area is)) (omega (arith, base_is old.geometry valid area is, valid.header_fits, erase_le_area old.geometry valid)) moment

  pub fills_within : (image : List ℕ) → length image ≡ size_of old.geometry → (call : Option DeviceCall) (c : List ℕ) → FillsArea old.geometry (number_of area) image call c → Within area.base (area_size old.geometry) image call c
  fills_within image sized None c (inl same) = subst (λ (l : List ℕ). Torn area.base (area_size old.geometry) image l) (sym same.1) (Torn-refl area.base (area_size old.geometry) image)
  fills_within image sized (Some call) c (inl same) = absurd (cc (same.0))
  fills_within image sized call c (inr (inl moment)) =
      let long : length (replicate {A = ℕ} old.geometry.erase 255) ≡ old.geometry.erase = length-replicate old.geometry.erase 255 in
      let k_base : ℕ = base_of old.geometry (number_of area) in
      Within-widen k_base (length (replicate {A = ℕ} old.geometry.erase 255)) area.base (area_size old.geometry) image call c
      (omega (arith, base_is old.geometry valid area is)) (omega (arith, base_is old.geometry valid area is, long, erase_le_area old.geometry valid))
      (Within-moment image k_base (replicate old.geometry.erase 255) call c (omega (arith, long, unit_inside image sized)) moment)
  fills_within image sized call c (inr (inr behind)) =
      Within-trans area.base (area_size old.geometry) image (blanked old.geometry (number_of area) image) call c (blanked_within image sized)
      (behind_within (blanked old.geometry (number_of area) image) call c behind)

  pub renews_within : (W : List ℕ → Type 0) (image : List ℕ) → length image ≡ size_of old.geometry → (call : Option DeviceCall) (c : List ℕ) → RenewsArea old.geometry (number_of area) W image call c → Within area.base (area_size old.geometry) image call c
  renews_within W image sized call c (inl fills) = fills_within image sized call c fills
  renews_within W image sized call c (inr last) =
      let k_base : ℕ = base_of old.geometry (number_of area) in
      let n : ℕ = area_size old.geometry in
      let base = base_is old.geometry valid area is in
      let filled_long : length last.filled ≡ size_of old.geometry = last.fills.same_length ∙ blanked_sized image sized in
      let header : Within k_base (length last.header) last.filled call c =
      Within-moment last.filled k_base last.header call c (omega (arith, last.long, filled_long, base, area_fits old.geometry area is, is.size, valid.header_fits, erase_le_area old.geometry valid)) last.moment in
      let in_area : Within area.base n last.filled call c =
      Within-widen k_base (length last.header) area.base n last.filled call c (omega (arith, base)) (omega (arith, base, last.long, valid.header_fits, erase_le_area old.geometry valid)) header in
      let behind : Torn area.base n (blanked old.geometry (number_of area) image) last.filled = behind_within (blanked old.geometry (number_of area) image) None last.filled last.fills in
      Within-trans area.base n image (blanked old.geometry (number_of area) image) call c (blanked_within image sized)
      (Within-trans area.base n (blanked old.geometry (number_of area) image) last.filled call c behind in_area)

-- the copies' headers lie in the area
module _ (s : FlashState) (positive : 1 ≤ s.geometry.prog) (route : Route) where
  pub moved_in : (end : ℕ) (es : List Entry) (rs : List Write) → route.to.base ≤ end → end ≤ end_of route.to → AreRead s route end es rs → AreIn route.to (moved s.geometry.prog end es rs)
  moved_in end [] rs from to read i inside = absurd (omega arith)
  moved_in end (e ∷ es) [] from to read i inside = absurd read
  moved_in end (e ∷ es) (r ∷ rs) from to read zero inside = record { from = from; to = omega (arith, read.0.within, extent-positive s.geometry.prog positive r, to) }
  moved_in end (e ∷ es) (r ∷ rs) from to read (suc i) inside = moved_in (end + extent s.geometry.prog r) es rs (omega arith) (omega (arith, read.0.within, to)) read.1 i (omega (arith, inside))

-- ---- what was copied behind the erase

module _ {old mid : FlashState} (lawful : IsLawful old) (valid : IsValid old.geometry) (route : Route) (is_route : IsRoute old.geometry route) (entries : List Entry) (in_area : AreIn route.from entries) where
  -- the copies were made of what was read before the erase
  pub copies_made : {new : FlashState} (place : ℕ) (done : Copied) → place ≡ first_place old.geometry route.to → RunsBy old mid (FillsArea old.geometry (number_of route.to)) Done → ForSome old.image (λ image. mid.image ≡ Some (erased_from image route.to.base (area_size old.geometry)))
      → HasCopiedMore mid new (record { route = route; entries = entries }) (record { end = place; entries = [] }) done → HasCopied old new (record { route = route; entries = entries }) done (λ image. image)
  copies_made place done place_is runs erased copied =
      let within : RunsBy old mid (Within route.to.base (area_size old.geometry)) Done = runs_weakened (Within route.to.base (area_size old.geometry))
      (λ image told call c fills. fills_within lawful valid route.to is_route.to image (lawful.sized image told) call c fills) runs in
      let same : mid.geometry ≡ old.geometry = runs.kept.geometry in
      let read : AreRead old route place entries copied.records = all_read_since lawful route is_route route.to.base (area_size old.geometry) (omega arith) (omega (arith, is_route.to.size)) within valid place entries copied.records in_area copied.read in
      let read_there : AreRead old route (first_place old.geometry route.to) entries copied.records = subst (λ (p : ℕ). AreRead old route p entries copied.records) place_is read in
      let first = walk_begins old.geometry route.to valid is_route.to in
      let end_is : done.end ≡ end_behind old.geometry.prog (first_place old.geometry route.to) copied.records =
      copied.end_is ∙ ap (λ (g : Geometry). end_behind g.prog place copied.records) same ∙ ap (λ (p : ℕ). end_behind old.geometry.prog p copied.records) place_is in
      let entries_are : done.entries ≡ moved old.geometry.prog (first_place old.geometry route.to) entries copied.records =
      copied.entries_are ∙ ap (λ (g : Geometry). moved g.prog place entries copied.records) same ∙ ap (λ (p : ℕ). moved old.geometry.prog p entries copied.records) place_is in
      record {
        records = copied.records;
        read = read_there;
        these = λ image told standing can. all_read_stand old (prog_positive old.geometry valid) image told route (first_place old.geometry route.to) (end_of route.from) entries copied.records standing read_there can.stand;
        end_is = end_is;
        end = record {
          inside = record {
            from = omega (arith, end_is, end_length old.geometry.prog (prog_positive old.geometry valid) (first_place old.geometry route.to) copied.records);
            to = omega (arith, end_is, end_inside old route (first_place old.geometry route.to) entries copied.records read_there first.inside.to);
          };
          aligned = subst (IsMultipleOf old.geometry.prog) (sym end_is) (end_whole old.geometry.prog (first_place old.geometry route.to) copied.records first.aligned);
        };
        entries_are = entries_are;
        places = subst (AreIn route.to) (sym entries_are) (moved_in old (prog_positive old.geometry valid) route (first_place old.geometry route.to) entries copied.records (omega arith) first.inside.to read_there);
        written = λ image told.
            copied.written (erased_from image route.to.base (area_size old.geometry)) (erased image told)
            ∙ ap (λ (g : Geometry). Some (put (erased_from image route.to.base (area_size old.geometry)) place (spellings g.prog copied.records))) same
            ∙ ap (λ (p : ℕ). Some (put (erased_from image route.to.base (area_size old.geometry)) p (spellings old.geometry.prog copied.records))) place_is;
      }

  -- one that was not read was not there before the erase either
  pub not_copied_before : (place : ℕ) (e : KvError) → place ≡ first_place old.geometry route.to → RunsBy old mid (FillsArea old.geometry (number_of route.to)) Done → IsNotCopied mid (record { route = route; entries = entries }) place e → IsNotCopied old (record { route = route; entries = entries }) (first_place old.geometry route.to) e
  not_copied_before place e place_is runs failed =
      let within : RunsBy old mid (Within route.to.base (area_size old.geometry)) Done = runs_weakened (Within route.to.base (area_size old.geometry))
      (λ image told call c fills. fills_within lawful valid route.to is_route.to image (lawful.sized image told) call c fills) runs in
      subst (λ (p : ℕ). IsNotCopied old (record { route = route; entries = entries }) p e) place_is
      (not_copied_since lawful route is_route route.to.base (area_size old.geometry) (omega arith) (omega (arith, is_route.to.size)) within valid place entries e in_area failed)

-- the master record over the copies
pub collected_made : {old mid new : FlashState} (copy : Copy) (done : Copied) (version : ℕ) → mid.geometry ≡ old.geometry → HasCopied old mid copy done (λ image. image) → ForSome mid.image (λ image. new.image ≡ Some (put image copy.route.to.base (master_bytes mid.geometry.prog version)))
    → HasCopied old new copy done (with_master old.geometry copy.route.to version)
collected_made {old} copy done version same copied wrote = record {
  records = copied.records;
  read = copied.read;
  these = copied.these;
  end_is = copied.end_is;
  end = copied.end;
  entries_are = copied.entries_are;
  places = copied.places;
  written = λ image told.
      wrote (with_copies old.geometry copy.route.to image copied.records) (copied.written image told)
      ∙ ap (λ (g : Geometry). Some (put (with_copies old.geometry copy.route.to image copied.records) copy.route.to.base (master_bytes g.prog version))) same;
}

-- and so it is a whole collection
pub whole_made : {old mid : FlashState} (copy : Copy) (done : Copied) (version : ℕ) → HasCopied old mid copy done (λ image. image) → (image now : List ℕ) → old.image ≡ Some image → mid.image ≡ Some now → IsWhole old copy version image (put now copy.route.to.base (master_bytes old.geometry.prog version))
whole_made {old} copy done version copied image now told mid_told = record {
  records = copied.records;
  read = copied.read;
  is = ap (λ (l : List ℕ). put l copy.route.to.base (master_bytes old.geometry.prog version)) (some_is now (with_copies old.geometry copy.route.to image copied.records) (sym mid_told ∙ copied.written image told));
}

-- ---- the parts of a collection

-- the first copy's place
module _ (g : Geometry) (valid : IsValid g) (area : Area) (is : IsAreaOf g area) (place : ℕ) (place_is : place ≡ first_place g area) where
  pub start_end : (h : Geometry) → h ≡ g → IsEnd h area place
  start_end h same = subst (λ (x : Geometry). IsEnd x area place) (sym same) (subst (IsEnd g area) (sym place_is) (walk_begins g area valid is))

  pub start_inside : place ≤ end_of area
  start_inside = let first = walk_begins g area valid is in omega (arith, place_is, first.inside.to)

module _ {old mid : FlashState} (lawful : IsLawful old) (valid : IsValid old.geometry) (area : Area) (is : IsAreaOf old.geometry area) (place : ℕ) (place_is : place ≡ first_place old.geometry area) where
  pub area_erased : Keeps old mid → ForSome old.image (λ image. mid.image ≡ Some (erased_from image area.base (area_size old.geometry))) → ForSome mid.image (λ image. IsErased image area.base (area_size old.geometry))
  area_erased kept erased image told =
      let was = told_before kept told in
      subst (λ (l : List ℕ). IsErased l area.base (area_size old.geometry)) (some_is (erased_from was.0 area.base (area_size old.geometry)) image (sym (erased was.0 was.1) ∙ told))
      (IsErased-erased was.0 area.base (area_size old.geometry) (omega (arith, area_fits old.geometry area is, is.size, lawful.sized was.0 was.1)))

  -- from there to the area's end all is erased
  pub start_erased : Keeps old mid → ForSome old.image (λ image. mid.image ≡ Some (erased_from image area.base (area_size old.geometry))) → ForSome mid.image (λ image. IsErased image place (end_of area - place))
  start_erased kept erased image told =
      IsErased-within image area.base (area_size old.geometry) place (end_of area - place) (area_erased kept erased image told) (omega (arith, place_is)) (omega (arith, is.size, start_inside old.geometry valid area is place place_is))

  -- and before it, behind copies
  pub master_erased : {last : FlashState} → Keeps old mid → ForSome old.image (λ image. mid.image ≡ Some (erased_from image area.base (area_size old.geometry))) → RunsBy mid last (Within place (end_of area - place)) Done → last.geometry ≡ old.geometry
      → ForSome last.image (λ image. IsErased image area.base (master_size last.geometry.prog))
  master_erased {last} kept erased runs same = subst (λ (g : Geometry). ForSome last.image (λ image. IsErased image area.base (master_size g.prog))) (sym same)
      (erased_behind place (end_of area - place) area.base (master_size old.geometry.prog) runs (inl (omega (arith, place_is)))
      (λ image told. IsErased-within image area.base (area_size old.geometry) area.base (master_size old.geometry.prog) (area_erased kept erased image told) (omega arith) (omega (arith, valid.master_fits))))

-- nothing outside the area differs
module _ {old new : FlashState} {ending : Ending} (lawful : IsLawful old) (valid : IsValid old.geometry) (area : Area) (is : IsAreaOf old.geometry area) where
  pub fill_within : RunsBy old new (FillsArea old.geometry (number_of area)) ending → RunsBy old new (Within area.base (area_size old.geometry)) ending
  fill_within runs = runs_weakened (Within area.base (area_size old.geometry)) (λ image told call c fills. fills_within lawful valid area is image (lawful.sized image told) call c fills) runs

  pub renew_within : (W : List ℕ → List ℕ → Type 0) → RunsBy old new (λ image call c. RenewsArea old.geometry (number_of area) (W image) image call c) ending → RunsBy old new (Within area.base (area_size old.geometry)) ending
  renew_within W runs = runs_weakened (Within area.base (area_size old.geometry)) (λ image told call c renews. renews_within lawful valid area is (W image) image (lawful.sized image told) call c renews) runs

-- copies of other entries, or behind others, are the same where these are
pub same_copies : {mid new : FlashState} (route : Route) (place : ℕ) (es fs before : List Entry) (done : Copied) → es ≡ fs → before ≡ [] → HasCopiedMore mid new (record { route = route; entries = es }) (record { end = place; entries = before }) done
    → HasCopiedMore mid new (record { route = route; entries = fs }) (record { end = place; entries = [] }) done
same_copies {mid} {new} route place es fs before done same none copied =
    subst (λ (l : List Entry). HasCopiedMore mid new (record { route = route; entries = l }) (record { end = place; entries = [] }) done) same
    (subst (λ (l : List Entry). HasCopiedMore mid new (record { route = route; entries = es }) (record { end = place; entries = l }) done) none copied)

pub if_ok_map : {T E : Type 0} {P Q : T → Type 0} (result : Result T E) → ((x : T) → P x → Q x) → IfOk result P → IfOk result Q
if_ok_map (Ok x) implies holds = implies x holds
if_ok_map (Err e) implies holds = tt

pub if_err_map : {T E : Type 0} {P Q : E → Type 0} (result : Result T E) → ((e : E) → P e → Q e) → IfErr result P → IfErr result Q
if_err_map (Ok x) implies holds = tt
if_err_map (Err e) implies holds = implies e holds

-- ---- entries of a part of a table

module _ (area : Area) (all : List Entry) (in_area : AreIn area all) where
  pub segment_in : (first last : ℕ) → last ≤ length all → AreIn area (segment all first last)
  segment_in first last within i inside =
      let long : length (take (last - first) (drop first all)) ≡ min (last - first) (length (drop first all)) = length-take (last - first) (drop first all) in
      let rest : length (drop first all) ≡ length all - first = length-drop first all in
      subst (λ (e : Entry). IsRange area e.offset 24)
      (sym (get_or-take (last - first) (drop first all) i no_entry (omega (arith, inside, long)) ∙ get_or-drop first all i no_entry))
      (in_area (first + i) (omega (arith, inside, long, rest)))

  pub remove_in : (at : ℕ) → at < length all → AreIn area (remove all at)
  remove_in at within i inside = elim (cases_lt i at) [
    | inl below ↦ subst (λ (e : Entry). IsRange area e.offset 24) (sym (get_or-remove_below all at no_entry i below within)) (in_area i (omega (arith, below, within)))
    | inr above ↦ subst (λ (e : Entry). IsRange area e.offset 24) (sym (get_or-remove_above all at no_entry i above within)) (in_area (i + 1) (omega (arith, inside, length-remove all at within)))
  ]
