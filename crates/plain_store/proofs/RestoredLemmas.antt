-- What a plain store keeps, given back where only some proof of it is known: what its records say beyond facts is found
-- again in the image and in memory.
use Rattle.std.proofs.Common.{◌≡◌, ◌≢◌, ◌⊎◌, ◌↔◌, ℕ, zero, suc, ◌+◌, ◌-◌, ◌*◌, ◌<◌, ◌≤◌, true, List, [], ◌∷◌, length, inl, inr, refl, sym, ◌∙◌, ap, subst, arith, IsTrue}
use Rattle.std.specs.Prelude.{All, Contains, Option, Some, None, is_some, unwrap_or}
use Rattle.std.specs.Coded.{Coded-set, coded×, coded_list, coded_option, coded_ℕ, code_by}
use Rattle.std.specs.FinMap as map
use Rattle.std.specs.Option.{ForSome}
use Rattle.std.proofs.lemmas.Bool.{cases_eq}
use Rattle.std.proofs.Math.Logic.{∥∥₁_elim, ∥∥₁_map}
use Rattle.std.proofs.Props.{props}
use mathlib.Core.Bool.{false≢true}
use Rattle.flash_core.specs.declared.geometry.Geometry.{Geometry}
use Rattle.flash_core.specs.Images.{IsErased}
use Rattle.flash_core.specs.Sizes.{area_size}
use Rattle.flash_core.proofs.GeometryLaws.{prog_positive}
use Rattle.flash_core.specs.State.{FlashState}
use Rattle.kv_model.specs.Flags.{remove_flags}
use Rattle.kv_model.specs.FlaggedMap.{FlaggedMap, Stored}
use Rattle.kv_model.specs.LogStep.{AreLive, Ascend}
use Rattle.kv_model.specs.PlainStep.{plain_rules}
use Rattle.kv_model.specs.Rules.{cuts}
use Rattle.kv_model.specs.StoreState.{Doubt, StoreState}
use Rattle.kv_model.specs.Write.{Write}
use Rattle.record_core.specs.Header.{IsHeader}
use Rattle.record_core.specs.Mounts.{Contents, Holds as HoldsContents, active_area}
use Rattle.record_core.proofs.Existence.{known_as, known_both, known_bytes, known_one, some_contents}
use Rattle.record_core.proofs.MountLemmas.{one_contents}
use Rattle.area_log.specs.Areas.{end_of, first_place}
use Rattle.area_log.specs.Listing.{listed}
use Rattle.inc_set.specs.declared.open_set.OpenSet.{OpenSet as Writer}
use Rattle.inc_set.specs.Sets.{HasBytes, IsAhead, IsPlaced, set_size}
use Rattle.ram_table.specs.declared.table.Entry.{Entry}
use Rattle.ram_table.specs.declared.table.Place.{Place}
use Rattle.ram_table.specs.Find.{HasKey, IsIndexOf, IsPlaceOf, key_at}
use Rattle.ram_table.specs.Reader.{KeyMap}
use Rattle.ram_table.specs.Table.{entry_at}
use Rattle.tdb_mount.specs.Choice.{version_in}
use Rattle.tdb_mount.specs.Index.{HasEntry, IsTableOf, PlaceMap, places_of}
use Rattle.tdb_mount.specs.Keys.{keys_in}
use Rattle.tdb_read.specs.Reads.{IsFound, map_in}
use Rattle.tdb_read.specs.States.{constants_of}
use Rattle.tdb_read.specs.Views.{IsLogOf, IsReady, IsSafe, LogPart, LogView, area_in, records_in, view_of}
use Rattle.tdb_read.proofs.TableLemmas.{located, told_table}
use Rattle.tdb_write.specs.Changes.{IsReserved}
use Rattle.tdb_write.specs.Copying.{IsCopyOf, IsPrepared, completed, completed_image, without}
use Rattle.tdb_write.specs.Writing.{IsAtEnd, IsWriting}
use Rattle.plain_store.specs.Begun.{IsBegunBy, IsReadied, IsRemoveBegun, IsSetBegun}
use Rattle.plain_store.specs.Stores.{Is, IsRunning, IsStopped, IsStore, noted_in}
use Rattle.plain_store.specs.declared.active.ActiveSet.{ActiveSet}
use Rattle.plain_store.specs.declared.active.Begun.{Begun}
use Rattle.plain_store.specs.declared.plain.PlainStore.{PlainStore}
use Rattle.plain_store.specs.declared.active.Begun.TheVariants.{Remove, Set}
use Rattle.plain_store.proofs.FactLemmas.{IsGivenBack, back_fact, back_known, back_some, known_among, known_below, no_proof}
use Rattle.plain_store.proofs.StoreLemmas.{view_at}

-- ---- sets, and facts over them

option_set : IsSet (Option ℕ)
option_set = Coded-set (coded_option coded_ℕ)

records_set : IsSet (List Write)
records_set = Coded-set (coded_list (code_by (ℕ × (List ℕ × List ℕ)) (coded× coded_ℕ (coded× (coded_list coded_ℕ) (coded_list coded_ℕ)))
    (λ (r : Write). (r.flags, (r.key, r.value))) (λ t. record { flags = t.0; key = t.1.0; value = t.1.1 }) (λ _. refl)))

map_set : IsSet FlaggedMap
map_set = Coded-set (map.code (coded_list coded_ℕ) (code_by (ℕ × List ℕ) (coded× coded_ℕ (coded_list coded_ℕ)) (λ (s : Stored). (s.flags, s.bytes)) (λ t. record { flags = t.0; bytes = t.1 }) (λ _. refl)))

safe_fact : (g : Geometry) (log : LogPart) → IsProp (IsSafe g log)
safe_fact g log = hlevel props

ascend_fact : (hash_bits : ℕ) (records : List Write) → IsProp (Ascend hash_bits records)
ascend_fact hash_bits [] = hlevel
ascend_fact hash_bits (r ∷ []) = hlevel
ascend_fact hash_bits (r ∷ s ∷ rs) = hlevel (props, ascend_fact hash_bits (s ∷ rs))

no_removes_fact : (flags : ℕ) (records : List Write) → IsProp (All (λ (r : Write). r.flags ≢ flags) records)
no_removes_fact flags records = hlevel props

live_fact : (hash_bits : ℕ) (m : FlaggedMap) (records : List Write) → IsProp (AreLive hash_bits m records)
live_fact hash_bits m records = hlevel (props, map_set, ascend_fact, no_removes_fact)

-- ---- a log

back_entry : (keys : KeyMap) (entries : List Entry) (key : List ℕ) (offset : ℕ) → IsGivenBack (HasEntry keys entries key offset)
back_entry keys entries key offset = back_known (known_as
    (λ found. record { place = found.0; inside = found.1; key_is = found.2.0; offset_is = found.2.1 })
    (λ has. (has.place, has.inside, (has.key_is, has.offset_is)))
    (known_below (λ i. (key_at keys entries i ≡ key) × ((entry_at entries i).offset ≡ offset))
    (λ i. known_both (known_bytes (key_at keys entries i) key) (cases_eq (entry_at entries i).offset offset)) (length entries)))

index_fact : (hash_bits : ℕ) (keys : KeyMap) (entries : List Entry) → IsProp (IsIndexOf hash_bits keys entries)
index_fact hash_bits keys entries = hlevel props

back_table : (hash_bits : ℕ) (keys : KeyMap) (places : PlaceMap) (entries : List Entry) → IsGivenBack (IsTableOf hash_bits keys places entries)
back_table hash_bits keys places entries some = record {
  index = back_fact (index_fact hash_bits keys entries) (∥∥₁_map some (λ t. t.index));
  same = λ key offset. (
    λ is. back_entry keys entries key offset (∥∥₁_map some (λ t. (t.same key offset).0 is)),
    λ has. ∥∥₁_elim some (option_set (map.get places key) (Some offset)) (λ t. (t.same key offset).1 has),
  );
}

back_log : (g : Geometry) (image : List ℕ) (log : LogPart) → IsSafe g log → IsGivenBack (IsLogOf g image log)
back_log g image log safe some =
    let contents : (c : Contents) × HoldsContents g image c = some_contents g safe.valid image in
    let c = contents.0 in
    let records = records_in g log image in
    let same : (l : IsLogOf g image log) → c ≡ record { first = l.first; second = l.second; records = records; end = log.end } =
    λ l. one_contents g image (prog_positive g safe.valid) c _ contents.1 l.holds in
    let records_are : c.records ≡ records = ∥∥₁_elim some (records_set c.records records) (λ l. ap (λ (x : Contents). x.records) (same l)) in
    let end_is : c.end ≡ log.end = back_fact (hlevel props) (∥∥₁_map some (λ l. ap (λ (x : Contents). x.end) (same l))) in
    let places = places_of (listed g.prog (first_place g (area_in g log)) records) in
    let clean_fact : IsProp (IsTrue log.is_clean ↔ IsErased image log.end (end_of (area_in g log) - log.end)) = hlevel props in
    record {
      first = c.first;
      second = c.second;
      active = ∥∥₁_elim some (option_set (active_area c.first c.second) (Some log.active)) (λ l. ap (λ (x : Contents). active_area x.first x.second) (same l) ∙ l.active);
      version = ∥∥₁_elim some (option_set (version_in c.first c.second log.active) (Some log.version)) (λ l. ap (λ (x : Contents). version_in x.first x.second log.active) (same l) ∙ l.version);
      holds = subst (HoldsContents g image) (λ i. record { first = c.first; second = c.second; records = records_are i; end = end_is i }) contents.1;
      table = record {
        keys = keys_in g (area_in g log) image;
        is = back_table log.hash_bits (keys_in g (area_in g log) image) places log.table.entries (∥∥₁_map some (λ l. told_table g log image safe l));
      };
      clean = back_fact clean_fact (∥∥₁_map some (λ l. l.clean));
    }

back_ready : (v : LogView) → IsGivenBack (IsReady v)
back_ready v some =
    let safe : IsSafe v.device.geometry v.log = back_fact (safe_fact v.device.geometry v.log) (∥∥₁_map some (λ ready. ready.safe)) in
    record {
      safe = safe;
      stands = back_some v.device.image (λ image told. back_log v.device.geometry image v.log safe) (∥∥₁_map some (λ ready. ready.stands));
    }

-- ---- where a key stands

back_place : (hash_bits : ℕ) (keys : KeyMap) (entries : List Entry) (key : List ℕ) (place : Place) → (place.found ≡ true → place.at < length entries)
    → IsGivenBack (IsPlaceOf hash_bits keys entries key place)
back_place hash_bits keys entries key place there some =
    let found_fact : IsProp (HasKey keys entries key → IsTrue place.found) = hlevel props in
    let here_fact : IsProp (place.found ≡ true → key_at keys entries place.at ≡ key) = hlevel props in
    let here = back_fact here_fact (∥∥₁_map some (λ p. p.here)) in
    record {
      found = (λ is. record { place = place.at; inside = there is; is = here is }, back_fact found_fact (∥∥₁_map some (λ p. p.found.1)));
      here = here;
      below = back_fact (hlevel props) (∥∥₁_map some (λ p. p.below));
      above = back_fact (hlevel props) (∥∥₁_map some (λ p. p.above));
    }

back_found : (v : LogView) → IsReady v → (key : List ℕ) (place : Place) → IsGivenBack (IsFound v key place)
back_found v ready key place some =
    let there_fact : IsProp (place.found ≡ true → place.at < length v.log.table.entries) = hlevel props in
    let there = back_fact there_fact (∥∥₁_map some (λ f. f.there)) in
    record {
      inside = back_fact (hlevel props) (∥∥₁_map some (λ f. f.inside));
      there = there;
      located = λ image told.
          located v.device.geometry v.log image ready.safe (ready.stands image told) key place
          (back_place v.log.hash_bits (keys_in v.device.geometry (area_in v.device.geometry v.log) image) v.log.table.entries key place there
          (∥∥₁_map some (λ f. (f.located image told).place_is))) there;
    }

-- ---- what was begun

of_two : (n : ℕ) → n ≤ 1 → (n ≡ 0) ⊎ (n ≡ 1)
of_two zero le = inl refl
of_two (suc n) le = inr (omega (arith, le))

back_header : (flags key_size value_size : ℕ) → IsGivenBack (IsHeader flags key_size value_size)
back_header flags key_size value_size some =
    let empty_fact : IsProp (flags ≡ remove_flags → value_size ≡ 0) = hlevel props in
    record {
      kind = back_known (known_one (cases_eq flags 0) (known_one (cases_eq flags 1) (cases_eq flags remove_flags))) (∥∥₁_map some (λ h. h.kind));
      key_least = back_fact (hlevel props) (∥∥₁_map some (λ h. h.key_least));
      key_most = back_fact (hlevel props) (∥∥₁_map some (λ h. h.key_most));
      value_most = back_fact (hlevel props) (∥∥₁_map some (λ h. h.value_most));
      remove_is_empty = back_fact empty_fact (∥∥₁_map some (λ h. h.remove_is_empty));
    }

module _ (v : LogView) (safe : IsSafe v.device.geometry v.log) (set : Writer) where
  -- the record of a set that stands at the log's end lies in the active area
  back_placed : set.at ≡ v.log.end → set.at + set_size v.device.geometry.prog set ≤ end_of (area_in v.device.geometry v.log)
      → IsGivenBack (IsPlaced v.device.geometry v.log.unit set)
  back_placed at_end inside some = record {
    valid = safe.valid;
    unit = safe.unit;
    key = back_fact (hlevel props) (∥∥₁_map some (λ p. p.key));
    header = back_header set.flags (length set.key) set.size (∥∥₁_map some (λ p. p.header));
    fed = back_fact (hlevel props) (∥∥₁_map some (λ p. p.fed));
    aligned = back_fact (hlevel props) (∥∥₁_map some (λ p. p.aligned));
    area = v.log.active;
    inside = record {
      number = of_two v.log.active safe.active;
      from = subst (λ (n : ℕ). v.log.active * area_size v.device.geometry ≤ n) (sym at_end) safe.end.inside.from;
      to = inside;
    };
  }

  ahead_fact : IsProp (ForSome v.device.image (λ image. IsAhead v.device.geometry image set))
  ahead_fact = hlevel props

  behind_fact : IsProp (ForSome v.device.image (λ image. IsErased image (set.at + set_size v.device.geometry.prog set)
      (end_of (area_in v.device.geometry v.log) - (set.at + set_size v.device.geometry.prog set))))
  behind_fact = hlevel props

  bytes_fact : (bytes : List ℕ) → IsProp (HasBytes v.device.geometry v.device.image v.log.unit set bytes)
  bytes_fact bytes = hlevel props

  back_at_end : IsGivenBack (IsAtEnd v set)
  back_at_end some =
      let at_end : set.at ≡ v.log.end = back_fact (hlevel props) (∥∥₁_map some (λ e. e.at_end)) in
      let inside : set.at + set_size v.device.geometry.prog set ≤ end_of (area_in v.device.geometry v.log) = back_fact (hlevel props) (∥∥₁_map some (λ e. e.inside)) in
      record {
        at_end = at_end;
        inside = inside;
        placed = back_placed at_end inside (∥∥₁_map some (λ e. e.placed));
        ahead = back_fact ahead_fact (∥∥₁_map some (λ e. e.ahead));
        behind = back_fact behind_fact (∥∥₁_map some (λ e. e.behind));
        clean = back_fact (hlevel props) (∥∥₁_map some (λ e. e.clean));
      }

  back_writing : (bytes : List ℕ) → IsGivenBack (IsWriting v set bytes)
  back_writing bytes some =
      let at_end = back_at_end (∥∥₁_map some (λ w. w.at_end)) in
      record {
        at_end = at_end;
        holds = record {
          placed = at_end.placed;
          ahead = at_end.ahead;
          has = back_fact (bytes_fact bytes) (∥∥₁_map some (λ w. w.holds.has));
        };
      }

module _ (v : LogView) (ready : IsReady v) where
  reserved_fact : IsProp (IsReserved v.log)
  reserved_fact = hlevel props

  back_set : (set : Writer) (place : Place) (fed : List ℕ) → IsGivenBack (IsSetBegun v set place fed)
  back_set set place fed some = record {
    writing = back_writing v ready.safe set fed (∥∥₁_map some (λ b. b.writing));
    flags = back_fact (hlevel props) (∥∥₁_map some (λ b. b.flags));
    found = back_found v ready set.key place (∥∥₁_map some (λ b. b.found));
    reserved = back_fact reserved_fact (∥∥₁_map some (λ b. b.reserved));
  }

  back_copy : (image : List ℕ) (end : ℕ) (m : FlaggedMap) → IsSafe v.device.geometry (completed v.log end) → IsGivenBack (IsCopyOf v.device.geometry image v.log end m)
  back_copy image end m safe some =
      let live_is = live_fact v.log.hash_bits m (records_in v.device.geometry (completed v.log end) (completed_image v.device.geometry v.log image)) in
      record {
        log_of = back_log v.device.geometry (completed_image v.device.geometry v.log image) (completed v.log end) safe (∥∥₁_map some (λ c. c.log_of));
        live = back_fact live_is (∥∥₁_map some (λ c. c.live));
        blank = back_fact (hlevel props) (∥∥₁_map some (λ c. c.blank));
      }

  back_prepared : (end : ℕ) (key : List ℕ) → IsGivenBack (IsPrepared v end key)
  back_prepared end key some =
      let safe : IsSafe v.device.geometry (completed v.log end) = back_fact (safe_fact v.device.geometry (completed v.log end)) (∥∥₁_map some (λ p. p.safe)) in
      record {
        safe = safe;
        copy = back_some v.device.image (λ image told. back_copy image end (without key (map_in v.device.geometry v.log image)) safe) (∥∥₁_map some (λ p. p.copy));
      }

  back_readied : (key : List ℕ) (copied : Option ℕ) → IsGivenBack (IsReadied v key copied)
  back_readied key None some = back_fact (hlevel props) some
  back_readied key (Some end) some = (
    back_fact (hlevel props) (∥∥₁_map some (λ r. r.0)),
    back_prepared end key (∥∥₁_map some (λ r. r.1)),
  )

  back_remove : (key : List ℕ) (place : Place) (copied : Option ℕ) → IsGivenBack (IsRemoveBegun v key place copied)
  back_remove key place copied some = record {
    valid = back_fact (hlevel props) (∥∥₁_map some (λ b. b.valid));
    found = back_found v ready key place (∥∥₁_map some (λ b. b.found));
    there = back_fact (hlevel props) (∥∥₁_map some (λ b. b.there));
    readied = back_readied key copied (∥∥₁_map some (λ b. b.readied));
  }

  back_begun : (begun : Begun) → IsGivenBack (IsBegunBy v begun)
  back_begun (Set set place fed) some = back_set set place fed.bytes some
  back_begun (Remove key place copied) some = back_remove key place copied some

-- ---- a store

back_running : (v : LogView) (active : Option ActiveSet) → IsGivenBack (IsRunning v active)
back_running v active some =
    let ready = back_ready v (∥∥₁_map some (λ r. r.ready)) in
    record {
      ready = ready;
      begun = back_some active (λ its is. back_begun v ready its.begun) (∥∥₁_map some (λ r. r.begun));
    }

-- a doubt that a state has
doubt_in : (o : Option Doubt) → IsGivenBack ((doubt : Doubt) × (o ≡ Some doubt))
doubt_in (Some doubt) some = (doubt, refl)
doubt_in None some = absurd (∥∥₁_elim some no_proof (λ found. false≢true (ap is_some found.1)))

some_same : {X : Type 0} (x y : X) → Some x ≡ Some y → x ≡ y
some_same {X} x y same = ap (λ (o : Option X). unwrap_or o x) same

back_stopped : (v : LogView) (state : StoreState) → IsGivenBack (IsStopped v state)
back_stopped v state some =
    let doubt = doubt_in state.doubt (∥∥₁_map some (λ s. (s.doubt, s.is))) in
    let number_fact : IsProp (ForSome v.device.image (λ image. state.next_vector ≡ 1)) = hlevel props in
    record {
      hash_bits = back_fact (hlevel props) (∥∥₁_map some (λ s. s.hash_bits));
      doubt = doubt.0;
      is = doubt.1;
      number = back_fact number_fact (∥∥₁_map some (λ s. s.number));
      stands = λ image told maps stands.
          let among : Doubt → Type 0 = λ d. Contains (cuts (plain_rules (constants_of v.device.geometry v.log)) state d.who d.operation) maps in
          back_known (known_among (cuts (plain_rules (constants_of v.device.geometry v.log)) state doubt.0.who doubt.0.operation) maps)
          (∥∥₁_map some (λ s. subst among (some_same s.doubt doubt.0 (sym s.is ∙ doubt.1)) (s.stands image told maps stands)));
    }

-- a store's invariant
pub back_store : (v : LogView) (active : Option ActiveSet) (note : Option StoreState) → IsGivenBack (IsStore (view_at v active note))
back_store v active None some = back_running v active some
back_store v active (Some state) some = back_stopped v state some

pub is_kept : {F : Type 0} (state : F → FlashState) (store : PlainStore F) → ∥ Is state store ∥₁ → Is state store
is_kept state store some = back_store (view_of state store.log) store.active (noted_in store.stopped) some
