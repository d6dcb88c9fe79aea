-- What the laws say of maps, versions, places and keys.
use Rattle.std.proofs.Common.{◌≡◌, ℕ, ◌+◌, ◌-◌, ◌*◌, ◌%◌, ◌^◌, ◌<◌, ◌≤◌, Bool, List, [], length, inr, refl, sym, ◌∙◌, ap, subst, arith, ◌≢◌, ◌∷◌, ◌++◌, true, false}
use Rattle.std.specs.Prelude.{if◌then◌else◌, Option, Some, None, ◌==◌, ◌↔◌}
use Rattle.std.proofs.lemmas.Bool.{eq-eqb, ne_eqb}
use Rattle.flash_core.specs.declared.geometry.Geometry.{Geometry}
use Rattle.flash_core.specs.Images.{IsErased, Torn}
use Rattle.flash_core.specs.Runs.{Done}
use Rattle.flash_core.specs.Sizes.{IsValid, area_size, size_of}
use Rattle.flash_core.proofs.GeometryLaws.{prog_positive, size-areas}
use Rattle.flash_core.proofs.ImageLaws.{IsErased-Torn, IsErased-put, IsErased-within, Torn-put}
use Rattle.kv_model.specs.FlaggedMap.{FlaggedMap}
use Rattle.base_core.specs.Sizes.{master_size}
use Rattle.record_core.specs.Log.{AreAllRecords, IsRecordAt, extent}
use Rattle.kv_model.specs.Write.{map_of, Write}
use Rattle.record_core.specs.Mounts.{ActiveRecords, Contents, Holds, Mounts, active_area}
use Rattle.record_core.specs.Record.{master_bytes}
use Rattle.record_core.proofs.LogLemmas.{all_before_erased}
use Rattle.record_core.proofs.Existence.{some_contents}
use Rattle.record_core.proofs.MountLemmas.{length-master_bytes, one_contents}
use Rattle.std.specs.FinMap.{get, insert, remove}
use Rattle.kv_model.specs.Flags.{remove_flags}
use Rattle.area_log.specs.declared.area.Area.{Area}
use Rattle.area_log.specs.Areas.{end_of}
use Rattle.area_log.specs.Listing.{Found}
use Rattle.area_log.proofs.ScanLemmas.{record_some}
use Rattle.tdb_mount.specs.Index.{PlaceMap, places_of}
use Rattle.tdb_mount.specs.Keys.{SpellsKey, key_spelled, keys_in}
use Rattle.tdb_mount.proofs.KeyLemmas.{found_below, get-tabulate, key_spells, record_spells, spelled_key}
use Rattle.tdb_mount.proofs.TableLemmas.{get-placed, get-placed_other, get-taken, get-taken_other, places_of-append}
use Rattle.tdb_mount.specs.Choice.{ChosenIn}
use Rattle.tdb_mount.specs.Format.{Leaves, LeavesBy, first_erased, formatted}
use Rattle.flash_core.proofs.EraseLaws.{length-erased}
use Rattle.tdb_mount.proofs.FormatLemmas.{master_in_area}
use Rattle.tdb_mount.specs.Mounted.{IsMountOf, MountsAs}
use Rattle.tdb_mount.specs.declared.mount.Parts.{Parts}
use Rattle.tdb_mount.proofs.MountLemmas.{formatted_chosen, torn_formatted}

module _ (g : Geometry) (valid : IsValid g) (image : List ℕ) (sized : length image ≡ size_of g) where
  abbrev start : ℕ
  start = 0 * area_size g + master_size g.prog

  abbrev limit : ℕ
  limit = 0 * area_size g + area_size g

  -- behind the master record of a format all is erased
  erased_behind : IsErased (formatted g image) start (limit - start)
  erased_behind =
      let positive = prog_positive g valid in
      let within : master_size g.prog ≤ area_size g = master_in_area g valid in
      let fits : 0 + area_size g ≤ length image = omega (arith, sized, size-areas g) in
      let long = length-erased image 0 (area_size g) (omega (arith, fits)) in
      let master : List ℕ = master_bytes g.prog 1 in
      let size : length master ≡ master_size g.prog = length-master_bytes g.prog positive 1 in
      let torn : Torn 0 (length master) (first_erased g image) (formatted g image) = Torn-put (first_erased g image) 0 master (omega (arith, size, within, long, fits)) in
      IsErased-Torn 0 (length master) (first_erased g image) (formatted g image) start (limit - start) torn (inr (omega (arith, size)))
      (IsErased-within (first_erased g image) 0 (area_size g) start (limit - start) (IsErased-put image 0 (area_size g) fits) (omega arith) (omega (arith, within)))

  no_records : AreAllRecords g.prog (formatted g image) start limit start []
  no_records = all_before_erased g.prog (prog_positive g valid) (formatted g image) start limit start [] refl (omega (arith, master_in_area g valid)) erased_behind

  pub formatted_mounts : ChosenIn g image None → Mounts g (formatted g image) (map_of [])
  formatted_mounts chosen =
      let now = formatted_chosen g valid image sized chosen (torn_formatted g valid image sized) in (
        record { first = now.first; second = now.second; records = []; end = start },
        record {
          first_master = now.first_master;
          second_master = now.second_master;
          active = subst (λ (o : Option ℕ). ActiveRecords g (formatted g image) o start []) (sym now.choice.0) no_records;
        },
        refl,
      )

  keeps_by : (left : List ℕ) (contents : Contents) (map : FlaggedMap) → Holds g image contents → map ≡ map_of contents.records → (area : Option ℕ)
      → active_area contents.first contents.second ≡ area → LeavesBy g image left Done area → Mounts g left map
  keeps_by left contents map holds is (Some area) active leaves = subst (λ (l : List ℕ). Mounts g l map) (sym leaves) (contents, holds, is)
  keeps_by left contents map holds is None active leaves =
      let chosen : ChosenIn g image None = record { first = contents.first; second = contents.second; first_master = holds.first_master; second_master = holds.second_master; choice = active } in
      let none : contents.records ≡ [] = (subst (λ (o : Option ℕ). ActiveRecords g image o contents.end contents.records) active holds.active).0 in
      subst (λ (l : List ℕ). Mounts g l map) (sym leaves)
      (subst (Mounts g (formatted g image)) (sym (is ∙ ap map_of none)) (formatted_mounts chosen))

  pub keeps_the_map : (left : List ℕ) (map : FlaggedMap) → Leaves g image left Done → Mounts g image map → Mounts g left map
  keeps_the_map left map leaves mounts =
      let contents = mounts.0 in
      let holds = mounts.1 in
      keeps_by left contents map holds mounts.2 (active_area contents.first contents.second) refl
      (leaves contents.first contents.second holds.first_master holds.second_master)

  -- what was found stands for the map of the image at entry
  pub mounts_as : (left : List ℕ) (hash_bits : ℕ) (parts : Parts) → Leaves g image left Done → IsMountOf g hash_bits left parts → MountsAs g hash_bits image left parts
  mounts_as left hash_bits parts leaves found =
      let held = some_contents g valid image in
      let map = map_of held.0.records in
      let now : Mounts g left map = keeps_the_map left map leaves (held.0, held.1, refl) in
      record {
        map = map;
        mounts = (held.0, held.1, refl);
        found = found;
        stands = now.2 ∙ ap (λ (c : Contents). map_of c.records) (one_contents g left (prog_positive g valid) now.0 found.contents now.1 found.holds);
      }

-- ---- versions in a circle

pub next_is_second : (version : ℕ) → active_area (Some version) (Some ((version + 1) % 2 ^ 16)) ≡ Some 1
next_is_second version = ap (λ (b : Bool). Some (if b then 1 else 0)) (eq-eqb ((version + 1) % 2 ^ 16) ((version + 1) % 2 ^ 16) refl)

pub previous_is_first : (version : ℕ) → version < 2 ^ 16 → active_area (Some ((version + 1) % 2 ^ 16)) (Some version) ≡ Some 0
previous_is_first version lt =
    ap (λ (b : Bool). Some (if b then 1 else 0)) (ne_eqb version (((version + 1) % 2 ^ 16 + 1) % 2 ^ 16) (λ same. omega (arith, same, lt)))

-- ---- places

placed_by : (list : List Found) (found : Found) (key : List ℕ) (removes : Bool) → (found.header.flags == remove_flags) ≡ removes
    → get (places_of (list ++ found ∷ [])) key ≡ get (if removes then remove (places_of list) found.key else insert (places_of list) found.key found.at) key
placed_by list found key removes is =
    ap (λ (p : PlaceMap). get p key) (places_of-append list found)
    ∙ ap (λ (b : Bool). get (if b then remove (places_of list) found.key else insert (places_of list) found.key found.at) key) is

pub place_placed : (list : List Found) (found : Found) → found.header.flags ≢ remove_flags → get (places_of (list ++ found ∷ [])) found.key ≡ Some found.at
place_placed list found stored = placed_by list found found.key false (ne_eqb found.header.flags remove_flags stored) ∙ get-placed (places_of list) found.key found.at

pub place_removed : (list : List Found) (found : Found) → found.header.flags ≡ remove_flags → get (places_of (list ++ found ∷ [])) found.key ≡ None
place_removed list found removed = placed_by list found found.key true (eq-eqb found.header.flags remove_flags removed) ∙ get-taken (places_of list) found.key

other_by : (list : List Found) (found : Found) (key : List ℕ) (removes : Bool) → (found.header.flags == remove_flags) ≡ removes → key ≢ found.key
    → get (places_of (list ++ found ∷ [])) key ≡ get (places_of list) key
other_by list found key true is other = placed_by list found key true is ∙ get-taken_other (places_of list) found.key key other
other_by list found key false is other = placed_by list found key false is ∙ get-placed_other (places_of list) found.key found.at key other

pub place_other : (list : List Found) (found : Found) (key : List ℕ) → key ≢ found.key → get (places_of (list ++ found ∷ [])) key ≡ get (places_of list) key
place_other list found key other = other_by list found key (found.header.flags == remove_flags) refl other

-- ---- keys

module _ (g : Geometry) (area : Area) (image : List ℕ) (positive : 1 ≤ g.prog) where
  told_spelled : (key : List ℕ) (place : ℕ) → get (keys_in g area image) place ≡ Some key → SpellsKey g.prog image (end_of area) place key
  told_spelled key place told = key_spells g.prog image (end_of area) place key (found_below (key_spelled g.prog image (end_of area)) (end_of area) place key told)

  spelled_told : (key : List ℕ) (place : ℕ) → SpellsKey g.prog image (end_of area) place key → get (keys_in g area image) place ≡ Some key
  spelled_told key place spells =
      let below : place < end_of area = omega (arith, spells.inside, record_some g.prog spells.header.key_size spells.header.value_size positive) in
      get-tabulate (key_spelled g.prog image (end_of area)) (end_of area) place below ∙ spelled_key g.prog image (end_of area) place key spells

  pub told_as_spelled : (key : List ℕ) (place : ℕ) → (get (keys_in g area image) place ≡ Some key) ↔ SpellsKey g.prog image (end_of area) place key
  told_as_spelled key place = (told_spelled key place, spelled_told key place)

  pub record_told : (place : ℕ) (r : Write) → IsRecordAt g.prog image place r → place + extent g.prog r ≤ end_of area → get (keys_in g area image) place ≡ Some r.key
  record_told place r stands inside = spelled_told r.key place (record_spells g.prog positive image (end_of area) place r stands inside)
