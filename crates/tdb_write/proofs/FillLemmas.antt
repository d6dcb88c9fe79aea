-- The area that isn't active is filled: the log stands.
use Rattle.std.proofs.Common.{◌≡◌, ◌⊎◌, ℕ, zero, suc, ◌+◌, ◌-◌, ◌*◌, ◌≤◌, ◌==◌, if◌then◌else◌, Bool, true, false, List, length, inl, inr, ⊎_elim, refl, sym, ◌∙◌, ap, subst, arith, eq-eqb}
use Rattle.std.specs.Prelude.{◌↔◌, IsTrue, Option, Some, None}
use Rattle.std.specs.Option.{ForSome}
use Rattle.std.proofs.lemmas.Bool.{ne_eqb}
use Rattle.flash_core.specs.declared.geometry.Geometry.{Geometry}
use Rattle.flash_core.specs.Images.{IsErased, Torn}
use Rattle.flash_core.specs.Runs.{Ending, Done, ReadFailed, WriteFailed, OutOfMemory, Refused, RunsBy, UnlessFailed}
use Rattle.flash_core.specs.Sizes.{IsValid, area_size, size_of}
use Rattle.flash_core.specs.State.{DeviceCall, FlashState, IsLawful}
use Rattle.flash_core.proofs.GeometryLaws.{erase_le_area, prog_positive}
use Rattle.flash_core.proofs.ImageLaws.{IsErased-Torn}
use Rattle.flash_core.proofs.KeptLaws.{told_before}
use Rattle.flash_core.proofs.RunLaws.{runs_weakened}
use Rattle.kv_model.specs.Write.{Write, map_of}
use Rattle.record_core.specs.CutMoments.{MountsToOne}
use Rattle.record_core.specs.Cuts.{active_of, base_of, with_version}
use Rattle.record_core.specs.Log.{AreAllRecords}
use Rattle.record_core.specs.Mounts.{ActiveRecords, Contents, Holds, Mounts, active_area}
use Rattle.record_core.specs.Renewal.{FillsArea, HoldsStill, IsSpare}
use Rattle.record_core.proofs.MapCuts.{fill_map}
use Rattle.record_core.proofs.RenewalCuts.{cut_weakened, fills_cuts}
use Rattle.record_core.proofs.TornLemmas.{Torn-sym, active_without, one_base, zero_base}
use Rattle.area_log.specs.declared.area.Area.{Area}
use Rattle.area_log.specs.Areas.{IsAreaOf, end_of, first_place}
use Rattle.area_log.specs.Listing.{listed}
use Rattle.area_collect.specs.Collection.{number_of}
use Rattle.area_collect.proofs.CollectLemmas.{fills_within}
use Rattle.ram_table.specs.Table.{TableState}
use Rattle.tdb_mount.specs.Choice.{version_in}
use Rattle.tdb_mount.specs.Index.{IsTable, places_of}
use Rattle.tdb_mount.specs.Room.{HasRoomFor, area_of}
use Rattle.tdb_read.specs.Reads.{map_in}
use Rattle.tdb_read.specs.States.{log_in, other_part}
use Rattle.tdb_read.specs.Views.{IsLogOf, IsReady, IsSafe, LogPart, LogView, area_in, records_in}
use Rattle.tdb_read.proofs.RecordLemmas.{records_are}
use Rattle.kv_model.specs.LogStep.{SameButOther}
use Rattle.tdb_write.specs.Changes.{ByEnding, Changes, LeavesOneOf, unchanged}

-- ---- the two areas

pub two_numbers : (a : ℕ) → (a ≡ 0) ⊎ (a ≡ 1) → (1 - a ≡ 0) ⊎ (1 - a ≡ 1)
two_numbers a (inl zero_is) = inr (omega (arith, zero_is))
two_numbers a (inr one_is) = inl (omega (arith, one_is))

pub small_number : (a : ℕ) → a ≤ 1 → (a ≡ 0) ⊎ (a ≡ 1)
small_number zero le = inl refl
small_number (suc zero) le = inr refl
small_number (suc (suc a)) le = absurd (omega (arith, le))

pub number_of_area : (g : Geometry) → IsValid g → (k : ℕ) → (k ≡ 0) ⊎ (k ≡ 1) → number_of (area_of g k) ≡ k
number_of_area g valid k (inl is) =
    let base : k * area_size g ≡ 0 = ap (base_of g) is ∙ zero_base g in
    ap (λ (b : Bool). if b then 0 else 1) (eq-eqb (k * area_size g) 0 base) ∙ sym is
number_of_area g valid k (inr is) =
    let base : k * area_size g ≡ area_size g = ap (base_of g) is ∙ one_base g in
    ap (λ (b : Bool). if b then 0 else 1) (ne_eqb (k * area_size g) 0 (λ none. omega (arith, base, none, erase_le_area g valid, valid.erase_positive))) ∙ sym is

some_is : (a b : ℕ) → Some a ≡ Some b → a ≡ b
some_is a b same = cc

-- ---- what an image holds still

-- These records are the active ones of the image, in the area of this number, of this version.
pub record Stand (g : Geometry) (image : List ℕ) (active version end : ℕ) (rs : List Write) : Type 0 where
  pub first : Option ℕ
  pub second : Option ℕ
  pub active_is : active_area first second ≡ Some active
  pub version_is : version_in first second active ≡ Some version
  pub holds : Holds g image (record { first = first; second = second; records = rs; end = end })

without_other : (g : Geometry) (image : List ℕ) (k active version : ℕ) (c : Contents) → (k ≡ 0) ⊎ (k ≡ 1) → k ≡ 1 - active → active ≤ 1 → active_of c ≡ Some active → (active_of c ≡ Some k → ⊥) → version_in c.first c.second active ≡ Some version
    → Holds g image (with_version k None c) → Stand g image active version c.end c.records
without_other g image zero active version c number is most active_is spare version_is held = record {
  first = None;
  second = c.second;
  active_is = active_without c zero number spare ∙ active_is;
  version_is = ap (λ (b : Bool). if b then None else c.second) (ne_eqb active 0 (λ none. omega (arith, is, none)))
      ∙ sym (ap (λ (b : Bool). if b then c.first else c.second) (ne_eqb active 0 (λ none. omega (arith, is, none)))) ∙ version_is;
  holds = held;
}
without_other g image (suc k) active version c number is most active_is spare version_is held = record {
  first = c.first;
  second = None;
  active_is = active_without c (suc k) number spare ∙ active_is;
  version_is = ap (λ (b : Bool). if b then c.first else None) (eq-eqb active 0 (omega (arith, is, most)))
      ∙ sym (ap (λ (b : Bool). if b then c.first else c.second) (eq-eqb active 0 (omega (arith, is, most)))) ∙ version_is;
  holds = held;
}

module _ (g : Geometry) (image : List ℕ) (log : LogPart) (safe : IsSafe g log) (is : IsLogOf g image log) where
  abbrev pub contents : Contents
  contents = record { first = is.first; second = is.second; records = records_in g log image; end = log.end }

  pub number : (1 - log.active ≡ 0) ⊎ (1 - log.active ≡ 1)
  number = two_numbers log.active (small_number log.active safe.active)

  not_active : active_of (record { first = is.first; second = is.second; records = records_in g log image; end = log.end }) ≡ Some (1 - log.active) → ⊥
  not_active same = let equal : log.active ≡ 1 - log.active = some_is log.active (1 - log.active) (sym is.active ∙ same) in omega (arith, equal, safe.active)

  pub spare_area : IsSpare g image (record { first = is.first; second = is.second; records = records_in g log image; end = log.end }) (1 - log.active)
  spare_area = record { holds = is.holds; number = number; spare = not_active }

  stands_still : (left : List ℕ) → HoldsStill g (record { first = is.first; second = is.second; records = records_in g log image; end = log.end }) (1 - log.active) left → Stand g left log.active log.version log.end (records_in g log image)
  stands_still left (inl held) = record { first = is.first; second = is.second; active_is = is.active; version_is = is.version; holds = held }
  stands_still left (inr held) = without_other g left (1 - log.active) log.active log.version contents number refl safe.active is.active not_active is.version held

  module _ (left : List ℕ) (stand : Stand g left log.active log.version log.end (records_in g log image)) where
    all_left : AreAllRecords g.prog left (first_place g (area_in g log)) (end_of (area_in g log)) log.end (records_in g log image)
    all_left = subst (λ (o : Option ℕ). ActiveRecords g left o log.end (records_in g log image)) stand.active_is stand.holds.active

    pub same_records : records_in g log left ≡ records_in g log image
    same_records = records_are g.prog (prog_positive g safe.valid) left (first_place g (area_in g log)) log.end (records_in g log image) all_left.each

    pub log_left : (spare : TableState) → (IsTrue log.is_clean ↔ IsErased left log.end (end_of (area_in g log) - log.end)) → IsLogOf g left (record log { spare = spare })
    log_left spare clean = record {
      first = stand.first;
      second = stand.second;
      active = stand.active_is;
      version = stand.version_is;
      holds = subst (λ (rs : List Write). Holds g left (record { first = stand.first; second = stand.second; records = rs; end = log.end })) (sym same_records) stand.holds;
      table = subst (λ (rs : List Write). IsTable log.hash_bits (places_of (listed g.prog (first_place g (area_in g log)) rs)) log.table.entries) (sym same_records) is.table;
      clean = clean;
    }

  pub apart_area : (log.end + (end_of (area_in g log) - log.end) ≤ (area_of g (1 - log.active)).base) ⊎ ((area_of g (1 - log.active)).base + area_size g ≤ log.end)
  apart_area = ⊎_elim
      (λ zero_is. let here : log.active * area_size g ≡ 0 = ap (base_of g) zero_is ∙ zero_base g in
      let there : (1 - log.active) * area_size g ≡ area_size g = ap (base_of g) (other log.active 1 (omega (arith, zero_is))) ∙ one_base g in
      inl (omega (arith, here, there, safe.end.inside.to)))
      (λ one_is. let here : log.active * area_size g ≡ area_size g = ap (base_of g) one_is ∙ one_base g in
      let there : (1 - log.active) * area_size g ≡ 0 = ap (base_of g) (other log.active 0 (omega (arith, one_is))) ∙ zero_base g in
      inr (omega (arith, here, there, safe.end.inside.from)))
      (small_number log.active safe.active)
    where
      other : (a k : ℕ) → 1 - a ≡ k → 1 - a ≡ k
      other a k is = is

  pub clean_left : (left : List ℕ) → Torn (area_of g (1 - log.active)).base (area_size g) image left → IsTrue log.is_clean ↔ IsErased left log.end (end_of (area_in g log) - log.end)
  clean_left left torn =
      let base : ℕ = (area_of g (1 - log.active)).base in
      let n : ℕ = end_of (area_in g log) - log.end in (
        (λ clean. IsErased-Torn base (area_size g) image left log.end n torn apart_area (is.clean.0 clean)),
        (λ erased. is.clean.1 (IsErased-Torn base (area_size g) left image log.end n (Torn-sym base (area_size g) image left torn) apart_area erased)),
      )

-- ---- runs

by_ending : (ending : Ending) {F P Q : Type 0} → (F → P) → (F → Q) → UnlessFailed ending F → ByEnding ending P Q
by_ending Done f q is = f is
by_ending ReadFailed f q is = q is
by_ending WriteFailed f q is = tt
by_ending OutOfMemory f q is = q is
by_ending Refused f q is = q is

unless : (ending : Ending) {X P : Type 0} {F : X → Type 0} → ((x : X) → UnlessFailed ending (F x)) → (((x : X) → F x) → P) → UnlessFailed ending P
unless Done is f = f is
unless ReadFailed is f = f is
unless WriteFailed is f = tt
unless OutOfMemory is f = f is
unless Refused is f = f is

module _ {old : LogView} (lawful : IsLawful old.device) (ready : IsReady old) {device : FlashState} (spare : TableState) (room : HasRoomFor spare old.log.table) {ending : Ending} (to : Area) (to_is : to ≡ area_of old.device.geometry (1 - old.log.active))
    (is_area : IsAreaOf old.device.geometry to) (runs : RunsBy old.device device (FillsArea old.device.geometry (number_of to)) ending) where
  abbrev g : Geometry
  g = old.device.geometry

  abbrev log : LogPart
  log = old.log

  abbrev pub filled_view : LogView
  filled_view = record { device = device; log = record old.log { spare = spare } }

  number_is : number_of to ≡ 1 - old.log.active
  number_is = ap number_of to_is ∙ number_of_area old.device.geometry ready.safe.valid (1 - old.log.active) (two_numbers old.log.active (small_number old.log.active ready.safe.active))

  fills_other : (image : List ℕ) (call : Option DeviceCall) (now : List ℕ) → FillsArea old.device.geometry (number_of to) image call now → FillsArea old.device.geometry (1 - old.log.active) image call now
  fills_other image call now fills = subst (λ (k : ℕ). FillsArea old.device.geometry k image call now) number_is fills

  module _ (image left : List ℕ) (told : old.device.image ≡ Some image) (fills : FillsArea old.device.geometry (number_of to) image None left) where
    abbrev is : IsLogOf old.device.geometry image old.log
    is = ready.stands image told

    stand : Stand old.device.geometry left old.log.active old.log.version old.log.end (records_in old.device.geometry old.log image)
    stand = stands_still old.device.geometry image old.log ready.safe (ready.stands image told) left
        (fills_cuts old.device.geometry ready.safe.valid image (lawful.sized image told) (contents old.device.geometry image old.log ready.safe (ready.stands image told)) (1 - old.log.active)
        (spare_area old.device.geometry image old.log ready.safe (ready.stands image told)) None left (fills_other image None left fills))

    torn : Torn (area_of old.device.geometry (1 - old.log.active)).base (area_size old.device.geometry) image left
    torn = subst (λ (a : Area). Torn a.base (area_size old.device.geometry) image left) to_is
        (fills_within lawful ready.safe.valid to is_area image (lawful.sized image told) None left fills)

    pub records_left : records_in old.device.geometry old.log left ≡ records_in old.device.geometry old.log image
    records_left = same_records old.device.geometry image old.log ready.safe (ready.stands image told) left stand

    pub is_left : IsLogOf old.device.geometry left (record old.log { spare = spare })
    is_left = log_left old.device.geometry image old.log ready.safe (ready.stands image told) left stand spare
        (clean_left old.device.geometry image old.log ready.safe (ready.stands image told) left torn)

  pub safe_left : IsSafe old.device.geometry (record old.log { spare = spare })
  safe_left = record {
    valid = ready.safe.valid;
    hash_bits = ready.safe.hash_bits;
    active = ready.safe.active;
    end = ready.safe.end;
    within = ready.safe.within;
    room = room;
    work = ready.safe.work;
    unit = ready.safe.unit;
  }

  abbrev Stands : Type 0
  Stands = ForSome old.device.image (λ image. ForSome device.image (λ left. FillsArea old.device.geometry (number_of to) image None left))

  ready_left : ((image : List ℕ) (told : old.device.image ≡ Some image) → ForSome device.image (λ left. FillsArea old.device.geometry (number_of to) image None left)) → IsReady filled_view
  ready_left stands = record {
    safe = subst (λ (x : Geometry). IsSafe x (record old.log { spare = spare })) (sym runs.kept.geometry) safe_left;
    stands = λ left told_left.
        let was = told_before runs.kept told_left in
        subst (λ (x : Geometry). IsLogOf x left (record old.log { spare = spare })) (sym runs.kept.geometry)
        (is_left was.0 left was.1 (stands was.0 was.1 left told_left));
  }

  unless_ready : (e : Ending) → ForSome old.device.image (λ image. UnlessFailed e (ForSome device.image (λ left. FillsArea old.device.geometry (number_of to) image None left))) → UnlessFailed e (IsReady filled_view)
  unless_ready Done stands = ready_left stands
  unless_ready ReadFailed stands = ready_left stands
  unless_ready WriteFailed stands = tt
  unless_ready OutOfMemory stands = ready_left stands
  unless_ready Refused stands = ready_left stands

  pub filled : Changes old filled_view unchanged SameButOther ending
  filled = record {
    runs = runs_weakened (LeavesOneOf old unchanged) (λ image told call now fills.
        cut_weakened old.device.geometry (λ left. Mounts old.device.geometry left (map_in old.device.geometry old.log image)) (MountsToOne old.device.geometry (map_in old.device.geometry old.log image) (map_in old.device.geometry old.log image)) (λ left mounts. inl mounts) call now
        (fill_map old.device.geometry ready.safe.valid image (lawful.sized image told) (contents old.device.geometry image old.log ready.safe (ready.stands image told)) (1 - old.log.active)
        (spare_area old.device.geometry image old.log ready.safe (ready.stands image told)) call now (fills_other image call now fills))) runs;
    callers = record { hash_bits = refl; iterators = refl };
    ready = unless_ready ending runs.stands;
    map_is = λ image told left told_left. by_ending ending
        (λ (stands : ForSome device.image (λ left. FillsArea old.device.geometry (number_of to) image None left)). ap map_of (records_left image left told (stands left told_left)))
        (λ stands. tt) (runs.stands image told);
    log_is = λ image told left told_left. by_ending ending
        (λ (stands : ForSome device.image (λ left. FillsArea old.device.geometry (number_of to) image None left)). same_log image left told (stands left told_left))
        (λ (stands : ForSome device.image (λ left. FillsArea old.device.geometry (number_of to) image None left)). same_log image left told (stands left told_left))
        (runs.stands image told);
  }
    where
      same_log : (image left : List ℕ) (told : old.device.image ≡ Some image) → FillsArea old.device.geometry (number_of to) image None left
          → SameButOther (log_in old.device.geometry old.log image) (log_in old.device.geometry (record old.log { spare = spare }) left)
      same_log image left told fills i = record {
        active = old.log.active;
        version = old.log.version;
        records = records_left image left told fills i;
        is_clean = old.log.is_clean;
        other = other_part old.device.geometry old.log.active left;
      }
