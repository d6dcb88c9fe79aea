-- A set is fed more bytes: the log's map stays.
use Rattle.std.proofs.Common.{◌≡◌, ◌⊎◌, ℕ, zero, suc, ◌+◌, ◌-◌, ◌<◌, ◌≤◌, Bool, List, ◌++◌, length, inl, inr, refl, sym, ◌∙◌, ap, subst, arith}
use Rattle.std.specs.Prelude.{◌↔◌, IsTrue, Option, Some, None}
use Rattle.std.proofs.lemmas.List.{length-append, length-drop}
use Rattle.base_core.specs.Units.{up}
use Rattle.base_core.proofs.UnitLemmas.{up-ge}
use Rattle.flash_core.specs.declared.geometry.Geometry.{Geometry}
use Rattle.flash_core.specs.Images.{IsErased, Torn, put}
use Rattle.flash_core.specs.Runs.{Ending, Done, WriteFailed, RunsBy}
use Rattle.flash_core.specs.Sizes.{size_of}
use Rattle.flash_core.specs.State.{DeviceCall, FlashState, IsLawful}
use Rattle.flash_core.proofs.GeometryLaws.{prog_positive}
use Rattle.flash_core.proofs.ImageLaws.{IsErased-Torn, Torn-put, Torn-widen}
use Rattle.flash_core.proofs.KeptLaws.{told_before}
use Rattle.flash_core.proofs.MomentLaws.{Within-widen}
use Rattle.flash_core.proofs.RunLaws.{runs_weakened}
use Rattle.kv_model.specs.Write.{map_of}
use Rattle.record_core.specs.CutMoments.{CutStrictly, MountsToOne}
use Rattle.record_core.specs.Finishing.{InPayload, IsBegun}
use Rattle.record_core.specs.Mounts.{Holds, Mounts}
use Rattle.record_core.specs.Written.{Ascends}
use Rattle.record_core.proofs.FinishingCuts.{payload_cuts, payload_map}
use Rattle.record_core.proofs.RenewalCuts.{cut_weakened}
use Rattle.record_core.proofs.TornLemmas.{active_number}
use Rattle.record_core.proofs.WithinLemmas.{Within-ascends}
use Rattle.area_log.specs.Areas.{end_of}
use Rattle.inc_set.specs.declared.open_set.OpenSet.{OpenSet as Writer}
use Rattle.inc_set.specs.Programs.{Programs}
use Rattle.inc_set.specs.Sets.{Holds as HoldsBytes, done_size, new_units, payload_place, set_size, with_bytes}
use Rattle.inc_set.specs.Units.{programmed, programmed_size}
use Rattle.inc_set.proofs.SetLemmas.{length-programmed, programmed-most, set_fits}
use Rattle.tdb_read.specs.Reads.{IsLocated, map_in}
use Rattle.tdb_read.specs.States.{other_part}
use Rattle.tdb_read.specs.Views.{IsLogOf, IsReady, IsSafe, LogPart, LogView, area_in, records_in}
use Rattle.tdb_write.specs.Changes.{Changes, KeepsPlaces, LeavesOneOf, unchanged}
use Rattle.tdb_write.specs.Writing.{IsAtEndOf, IsFed, IsWriting, is_unprogrammed}
use Rattle.tdb_write.proofs.OtherLemmas.{other_stays}
use Rattle.tdb_write.proofs.StayLemmas.{contents, located_still, log_stays, records_stay, with_tail}
use Rattle.tdb_write.proofs.TailLemmas.{tail_of_set}

abbrev pub view : FlashState → LogPart → LogView
view device log = record { device = device; log = log }

-- the number of an area is 0 or 1
pub number_of_two : (k : ℕ) → k ≤ 1 → (k ≡ 0) ⊎ (k ≡ 1)
number_of_two zero le = inl refl
number_of_two (suc zero) le = inr refl
number_of_two (suc (suc k)) le = absurd (omega (arith, le))

-- ---- a set at the end of a log

module _ (g : Geometry) (image : List ℕ) (log : LogPart) (safe : IsSafe g log) (is : IsLogOf g image log) (sized : length image ≡ size_of g) (set : Writer) (at_end : IsAtEndOf g (Some image) log set) where
  abbrev payload_size : ℕ
  payload_size = up g.prog (length set.key + set.size)

  pub begun : IsBegun g image (contents g image log is) log.active payload_size
  begun = record {
    holds = is.holds;
    active = is.active;
    inside = record {
      number = active_number is.first is.second log.active is.active;
      from = safe.end.inside.from;
      to = omega (arith, at_end.inside, at_end.at_end);
    };
    erased = subst (λ (p : ℕ). IsErased image p (up g.prog 24)) at_end.at_end (at_end.ahead image refl).header log.end (omega arith) (omega (arith, up-ge g.prog 24 (prog_positive g safe.valid)));
  }

  module _ (place : ℕ) (units : List ℕ) (from : payload_place g.prog set ≤ place) (to : place + length units ≤ payload_place g.prog set + payload_size) where
    inside_image : place + length units ≤ length image
    inside_image = omega (arith, to, set_fits at_end.placed, sized)

    in_payload : (call : Option DeviceCall) (now : List ℕ) → Ascends g.prog place units image call now → InPayload g log.end payload_size image call now
    in_payload call now ascends =
        Within-widen place (length units) (log.end + up g.prog 24) payload_size image call now (omega (arith, from, at_end.at_end)) (omega (arith, to, at_end.at_end))
        (Within-ascends g.prog place units image call now inside_image ascends)

    pub feed_moment : (call : Option DeviceCall) (now : List ℕ) → Ascends g.prog place units image call now → CutStrictly g (MountsToOne g (map_in g log image) (map_in g log image)) call now
    feed_moment call now ascends =
        cut_weakened g (λ left. Mounts g left (map_in g log image)) (MountsToOne g (map_in g log image) (map_in g log image)) (λ left mounts. inl mounts) call now
        (payload_map g safe.valid image sized (contents g image log is) log.active payload_size begun call now (in_payload call now ascends))

    pub feed_holds : Holds g (put image place units) (contents g image log is)
    feed_holds = payload_cuts g safe.valid image sized (contents g image log is) log.active payload_size begun None (put image place units)
        (Torn-widen place (length units) (log.end + up g.prog 24) payload_size (omega (arith, from, at_end.at_end)) (omega (arith, to, at_end.at_end)) (Torn-put image place units inside_image))

-- ---- the call

some_is : (x y : List ℕ) → Some x ≡ Some y → x ≡ y
some_is x y same = cc

module _ (old new : FlashState) (log : LogPart) (set : Writer) (before bytes : List ℕ) (lawful : IsLawful old) (ready : IsReady (view old log)) (writing : IsWriting (view old log) set before) (fits : set.fed + length bytes ≤ set.size) where
  abbrev g : Geometry
  g = old.geometry

  positive : 0 < old.geometry.prog
  positive = prog_positive old.geometry ready.safe.valid

  abbrev place : ℕ
  place = payload_place old.geometry.prog set + done_size old.geometry.prog set

  abbrev units : List ℕ
  units = new_units old.geometry.prog set.key before bytes

  units_within : payload_place old.geometry.prog set + done_size old.geometry.prog set + length (new_units old.geometry.prog set.key before bytes)
      ≤ payload_place old.geometry.prog set + up old.geometry.prog (length set.key + set.size)
  units_within =
      let all : List ℕ = programmed old.geometry.prog set.key (before ++ bytes) in
      let first : List ℕ = programmed old.geometry.prog set.key before in
      let count = writing.holds.has.count in
      let first_long : length first ≡ done_size old.geometry.prog set = length-programmed old.geometry.prog positive set.key before ∙ ap (programmed_size old.geometry.prog (length set.key)) (sym count) in
      let done_most : done_size old.geometry.prog set ≤ length set.key + set.fed = programmed-most old.geometry.prog (length set.key) set.fed in
      let all_most : length all ≤ length set.key + length (before ++ bytes) =
      subst (λ (n : ℕ). n ≤ length set.key + length (before ++ bytes)) (sym (length-programmed old.geometry.prog positive set.key (before ++ bytes))) (programmed-most old.geometry.prog (length set.key) (length (before ++ bytes))) in
      omega (arith, length-drop (length first) all, first_long, done_most, all_most, length-append before bytes, count, fits, up-ge old.geometry.prog (length set.key + set.size) positive)

  told_end : (image : List ℕ) → old.image ≡ Some image → IsAtEndOf old.geometry (Some image) log set
  told_end image told = subst (λ (o : Option (List ℕ)). IsAtEndOf old.geometry o log set) told writing.at_end

  pub feed_runs : (ending : Ending) → Programs old new place units ending → RunsBy old new (LeavesOneOf (view old log) unchanged) ending
  feed_runs ending fed = runs_weakened (LeavesOneOf (view old log) unchanged)
      (λ image told call now ascends.
      feed_moment old.geometry image log ready.safe (ready.stands image told) (lawful.sized image told) set (told_end image told) place units (omega arith) units_within call now ascends) fed.runs

  pub feed_failed : (later : LogPart) → later.hash_bits ≡ log.hash_bits → later.iterators ≡ log.iterators → Programs old new place units WriteFailed
      → Changes (view old log) (view new later) unchanged (IsFed (view old log) set (length bytes)) WriteFailed
  feed_failed later bits iterators fed = record {
    runs = feed_runs WriteFailed fed;
    callers = record { hash_bits = bits; iterators = iterators };
    ready = tt;
    map_is = λ image told left told_left. tt;
    log_is = λ image told left told_left. tt;
  }

  module _ (fed : Programs old new place units Done) (clean : Bool) (unit : List ℕ) (clean_is : clean ≡ is_unprogrammed old.geometry.prog (length set.key) (set.fed + length bytes))
      (holds : HoldsBytes new.geometry new.image unit (with_bytes set bytes) (before ++ bytes)) where
    same_geometry : new.geometry ≡ old.geometry
    same_geometry = fed.runs.kept.geometry

    abbrev limit : ℕ
    limit = end_of (area_in old.geometry log)

    module _ (image left : List ℕ) (told : old.image ≡ Some image) (told_left : new.image ≡ Some left) where
      left_is : left ≡ put image place units
      left_is = some_is left _ (sym told_left ∙ fed.written image told)

      torn : Torn (payload_place old.geometry.prog set + done_size old.geometry.prog set) (length (new_units old.geometry.prog set.key before bytes)) image left
      torn = subst (λ (l : List ℕ). Torn place (length units) image l) (sym left_is)
          (Torn-put image place units (omega (arith, units_within, set_fits writing.at_end.placed, lawful.sized image told)))

      behind_left : IsErased left (set.at + set_size old.geometry.prog set) (end_of (area_in old.geometry log) - (set.at + set_size old.geometry.prog set))
      behind_left = IsErased-Torn place (length units) image left (set.at + set_size old.geometry.prog set) (limit - (set.at + set_size old.geometry.prog set)) torn
          (inr (omega (arith, units_within))) (writing.at_end.behind image told)

      held_left : Holds old.geometry left (contents old.geometry image log (ready.stands image told))
      held_left = subst (λ (l : List ℕ). Holds old.geometry l (contents old.geometry image log (ready.stands image told))) (sym left_is)
          (feed_holds old.geometry image log ready.safe (ready.stands image told) (lawful.sized image told) set (told_end image told) place units (omega arith) units_within)

      tail_left : IsTrue clean ↔ IsErased left log.end (end_of (area_in old.geometry log) - log.end)
      tail_left =
          subst (λ (b : Bool). IsTrue b ↔ IsErased left log.end (limit - log.end)) (ap (λ (h : Geometry). is_unprogrammed h.prog (length set.key) (set.fed + length bytes)) same_geometry ∙ sym clean_is)
          (subst (λ (p : ℕ). IsTrue (is_unprogrammed new.geometry.prog (length set.key) (set.fed + length bytes)) ↔ IsErased left p (limit - p)) writing.at_end.at_end
          (tail_of_set new.geometry new.image unit (with_bytes set bytes) (before ++ bytes) holds left told_left limit
          (subst (λ (h : Geometry). set.at + set_size h.prog set ≤ limit) (sym same_geometry) writing.at_end.inside)
          (subst (λ (h : Geometry). IsErased left (set.at + set_size h.prog set) (limit - (set.at + set_size h.prog set))) (sym same_geometry) behind_left)))

      log_left : IsLogOf old.geometry left (with_tail log clean unit)
      log_left = log_stays old.geometry ready.safe.valid image log (ready.stands image told) left held_left clean unit tail_left

    safe_left : IsSafe old.geometry (with_tail log clean unit)
    safe_left = record {
      valid = ready.safe.valid;
      hash_bits = ready.safe.hash_bits;
      active = ready.safe.active;
      end = ready.safe.end;
      within = ready.safe.within;
      room = ready.safe.room;
      work = ready.safe.work;
      unit = holds.placed.unit ∙ ap (λ (h : Geometry). h.prog) same_geometry;
    }

    pub feed_ready : IsReady (view new (with_tail log clean unit))
    feed_ready = record {
      safe = subst (λ (h : Geometry). IsSafe h (with_tail log clean unit)) (sym same_geometry) safe_left;
      stands = λ left told_left. let was = told_before fed.runs.kept told_left in
          subst (λ (h : Geometry). IsLogOf h left (with_tail log clean unit)) (sym same_geometry) (log_left was.0 left was.1 told_left);
    }

    pub feed_writing : IsWriting (view new (with_tail log clean unit)) (with_bytes set bytes) (before ++ bytes)
    feed_writing = record {
      at_end = record {
        at_end = writing.at_end.at_end;
        inside = subst (λ (h : Geometry). set.at + set_size h.prog set ≤ end_of (area_in h log)) (sym same_geometry) writing.at_end.inside;
        placed = holds.placed;
        ahead = holds.ahead;
        behind = λ left told_left. let was = told_before fed.runs.kept told_left in
            subst (λ (h : Geometry). IsErased left (set.at + set_size h.prog set) (end_of (area_in h log) - (set.at + set_size h.prog set))) (sym same_geometry) (behind_left was.0 left was.1 told_left);
        clean = clean_is ∙ ap (λ (h : Geometry). is_unprogrammed h.prog (length set.key) (set.fed + length bytes)) (sym same_geometry);
      };
      holds = holds;
    }

    pub feed_changes : Changes (view old log) (view new (with_tail log clean unit)) unchanged (IsFed (view old log) set (length bytes)) Done
    feed_changes = record {
      runs = feed_runs Done fed;
      callers = record { hash_bits = refl; iterators = refl };
      ready = feed_ready;
      map_is = λ image told left told_left. ap map_of (same_records image left told told_left);
      log_is = λ image told left told_left. λ i. record {
        active = log.active;
        version = log.version;
        records = same_records image left told told_left i;
        is_clean = clean_is i;
        other = same_other image left told told_left i;
      };
    }
      where
        same_records : (image left : List ℕ) → old.image ≡ Some image → new.image ≡ Some left → records_in old.geometry (with_tail log clean unit) left ≡ records_in old.geometry log image
        same_records image left told told_left = records_stay old.geometry ready.safe.valid image log (ready.stands image told) left (held_left image left told told_left) clean unit

        same_other : (image left : List ℕ) → old.image ≡ Some image → new.image ≡ Some left → other_part old.geometry log.active left ≡ other_part old.geometry log.active image
        same_other image left told told_left = other_stays old.geometry ready.safe.valid log.active ready.safe.active image left (lawful.sized image told) place (length units)
            (omega (arith, ready.safe.end.inside.from, writing.at_end.at_end)) (omega (arith, units_within, writing.at_end.inside)) (torn image left told told_left)

    pub feed_places : KeepsPlaces (view old log) (view new (with_tail log clean unit))
    feed_places key place found = record {
      inside = found.inside;
      there = found.there;
      located = λ left told_left. let was = told_before fed.runs.kept told_left in
          subst (λ (h : Geometry). IsLocated h left (with_tail log clean unit) key place) (sym same_geometry)
          (located_still old.geometry ready.safe.valid was.0 log (ready.stands was.0 was.1) left (held_left was.0 left was.1 told_left) clean unit ready.safe safe_left (log_left was.0 left was.1 told_left)
          key place found.inside found.there (found.located was.0 was.1));
    }
