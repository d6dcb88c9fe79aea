-- What copies of records leave, one behind another.
use Rattle.std.proofs.Common.{◌≡◌, ◌⊎◌, ℕ, zero, suc, ◌+◌, ◌-◌, ◌<◌, ◌≤◌, List, [], ◌∷◌, ◌++◌, length, take, drop, refl, sym, ◌∙◌, ap, subst, arith, inl, inr, ⊎_elim, append_assoc, append-nil, length-append, add-one}
use Rattle.std.specs.List.{remove}
use Rattle.std.proofs.lemmas.List.{drop-drop, get_or-drop, get_or_append_left, length-drop, take_more, take_rest}
use Rattle.std.proofs.lemmas.Bool.{cases_lt}
use Rattle.std.proofs.Math.Seq.{get_or-append_seam, take-add, take-length}
use Rattle.std.specs.Prelude.{Some, Result, Ok, Err, IfErr, IsErrAnd}
use Rattle.std.specs.Option.{ForSome}
use Rattle.base_core.specs.Units.{IsMultipleOf, up}
use Rattle.base_core.proofs.UnitLemmas.{IsMultipleOf-add, up-ge, up-multiple}
use Rattle.flash_core.specs.declared.geometry.Geometry.{Geometry}
use Rattle.flash_core.specs.Calls.{Keeps}
use Rattle.flash_core.specs.Images.{IsErased, put}
use Rattle.flash_core.specs.Moments.{Within}
use Rattle.flash_core.specs.Runs.{Done, RunsBy}
use Rattle.flash_core.specs.Sizes.{IsValid, size_of}
use Rattle.flash_core.specs.State.{FlashState, IsLawful}
use Rattle.flash_core.proofs.GeometryLaws.{prog_positive}
use Rattle.flash_core.proofs.ImageLaws.{IsErased-Torn, IsErased-within, Torn-put, put-append, put-nil}
use Rattle.flash_core.proofs.KeptLaws.{told_before}
use Rattle.kv_model.specs.declared.error.KvError.{KvError}
use Rattle.kv_model.specs.Write.{Write}
use Rattle.record_core.specs.declared.header.Header.{Header}
use Rattle.record_core.specs.Log.{extent, spelling_of}
use Rattle.record_core.specs.Lookup.{IsHead, IsSeen}
use Rattle.record_core.proofs.RecordLemmas.{length-record_bytes}
use Rattle.area_log.specs.declared.area.Area.{Area}
use Rattle.area_log.specs.Areas.{end_of, IsEnd, IsRange}
use Rattle.area_log.proofs.AreaLemmas.{area_fits}
use Rattle.ram_table.specs.declared.table.Entry.{Entry}
use Rattle.ram_table.specs.Table.{entry_at}
use Rattle.area_collect.specs.declared.entries.Route.{Route}
use Rattle.area_collect.specs.Copies.{AreIn, AreRead, Copied, Copy, HasCopiedMore, IsNotCopied, IsNotReadAt, IsReadAt, IsRoute, end_behind, moved, room_for, segment, spellings}
use Rattle.area_collect.proofs.PayloadLemmas.{seen_before, some_is}

-- what stands for an entry past the end
abbrev pub no_entry : Entry
no_entry = record { hash = 0; offset = 0 }

pub handed_cause : {T : Type 0} (P : KvError → Type 0) (result : Result T KvError) (e : KvError) → IsErrAnd result (λ x. x ≡ e) → P e → IfErr result P
handed_cause P (Ok x) e is holds = absurd is
handed_cause P (Err x) e is holds = subst P (sym is) holds

-- two areas of a device have no byte in common
pub areas_apart : (g : Geometry) (route : Route) → IsRoute g route → (end_of route.from ≤ route.to.base) ⊎ (end_of route.to ≤ route.from.base)
areas_apart g route is = ⊎_elim
    (λ from_first. ⊎_elim (λ to_first. absurd (is.apart (from_first ∙ sym to_first))) (λ to_second. inl (omega (arith, from_first, to_second, is.from.size))) is.to.base)
    (λ from_second. ⊎_elim (λ to_first. inr (omega (arith, from_second, to_first, is.to.size))) (λ to_second. absurd (is.apart (from_second ∙ sym to_second))) is.to.base)
    is.from.base

-- ---- ends of copies

module _ (s : FlashState) (route : Route) where
  pub end_inside : (end : ℕ) (es : List Entry) (rs : List Write) → AreRead s route end es rs → end ≤ end_of route.to → end_behind s.geometry.prog end rs ≤ end_of route.to
  end_inside end [] [] read inside = inside
  end_inside end [] (r ∷ rs) read inside = absurd read
  end_inside end (e ∷ es) [] read inside = absurd read
  end_inside end (e ∷ es) (r ∷ rs) read inside = end_inside (end + extent s.geometry.prog r) es rs read.1 (omega (arith, read.0.within, inside))

pub extent_whole : (prog : ℕ) (r : Write) → IsMultipleOf prog (extent prog r)
extent_whole prog r = IsMultipleOf-add prog (up prog 24) (up prog (length r.key + length r.value)) (up-multiple prog 24) (up-multiple prog (length r.key + length r.value))

pub end_whole : (prog end : ℕ) (rs : List Write) → IsMultipleOf prog end → IsMultipleOf prog (end_behind prog end rs)
end_whole prog end [] whole = whole
end_whole prog end (r ∷ rs) whole = end_whole prog (end + extent prog r) rs (IsMultipleOf-add prog end (extent prog r) whole (extent_whole prog r))

module _ (prog : ℕ) (positive : 1 ≤ prog) where
  pub end_length : (place : ℕ) (rs : List Write) → end_behind prog place rs ≡ place + length (spellings prog rs)
  end_length place [] = omega arith
  end_length place (r ∷ rs) =
      end_length (place + extent prog r) rs
      ∙ omega (arith, length-append (spelling_of prog r) (spellings prog rs), length-record_bytes prog positive r.flags r.key r.value)

pub end-append : (prog place : ℕ) (rs ss : List Write) → end_behind prog place (rs ++ ss) ≡ end_behind prog (end_behind prog place rs) ss
end-append prog place [] ss = refl
end-append prog place (r ∷ rs) ss = end-append prog (place + extent prog r) rs ss

pub spellings-append : (prog : ℕ) (rs ss : List Write) → spellings prog (rs ++ ss) ≡ spellings prog rs ++ spellings prog ss
spellings-append prog [] ss = refl
spellings-append prog (r ∷ rs) ss = ap (λ (l : List ℕ). spelling_of prog r ++ l) (spellings-append prog rs ss) ∙ sym (append_assoc (spelling_of prog r) (spellings prog rs) (spellings prog ss))

module _ (s : FlashState) (route : Route) where
  pub read-append : (end : ℕ) (es fs : List Entry) (rs ss : List Write) → AreRead s route end es rs → AreRead s route (end_behind s.geometry.prog end rs) fs ss → AreRead s route end (es ++ fs) (rs ++ ss)
  read-append end [] fs [] ss read more = more
  read-append end [] fs (r ∷ rs) ss read more = absurd read
  read-append end (e ∷ es) fs [] ss read more = absurd read
  read-append end (e ∷ es) fs (r ∷ rs) ss read more = (read.0, read-append (end + extent s.geometry.prog r) es fs rs ss read.1 more)

  pub moved-append : (end : ℕ) (es fs : List Entry) (rs ss : List Write) → AreRead s route end es rs
      → moved s.geometry.prog end (es ++ fs) (rs ++ ss) ≡ moved s.geometry.prog end es rs ++ moved s.geometry.prog (end_behind s.geometry.prog end rs) fs ss
  moved-append end [] fs [] ss read = refl
  moved-append end [] fs (r ∷ rs) ss read = absurd read
  moved-append end (e ∷ es) fs [] ss read = absurd read
  moved-append end (e ∷ es) fs (r ∷ rs) ss read = ap (λ (l : List Entry). record { hash = e.hash; offset = end } ∷ l) (moved-append (end + extent s.geometry.prog r) es fs rs ss read.1)

-- ---- what was read behind copies was there before them

module _ {old mid : FlashState} (lawful : IsLawful old) (route : Route) (is_route : IsRoute old.geometry route) (place n : ℕ) (from : route.to.base ≤ place) (to : place + n ≤ end_of route.to) (runs : RunsBy old mid (Within place n) Done) where
  same : mid.geometry ≡ old.geometry
  same = runs.kept.geometry

  elsewhere : (q m : ℕ) → IsRange route.from q m → (q + m ≤ place) ⊎ (place + n ≤ q)
  elsewhere q m range = ⊎_elim (λ before. inl (omega (arith, before, range.to, from))) (λ behind. inr (omega (arith, behind, range.from, to))) (areas_apart old.geometry route is_route)

  seen_since : (q m : ℕ) (bytes : List ℕ) → IsRange route.from q m → IsSeen mid q m bytes → IsSeen old q m bytes
  seen_since q m bytes range seen = seen_before place n q m bytes lawful runs (elsewhere q m range) (omega (arith, range.to, area_fits old.geometry route.from is_route.from)) seen

  -- the bytes of a payload that is read behind its header lie in the area
  payload_range : (q room m : ℕ) → IsRange route.from q 24 → room ≤ end_of route.from - q → up old.geometry.prog 24 + up old.geometry.prog m ≤ room → (valid : IsValid old.geometry) → IsRange route.from (q + up old.geometry.prog 24) m
  payload_range q room m range within size valid = record {
    from = omega (arith, range.from);
    to = omega (arith, range.from, range.to, within, size, up-ge old.geometry.prog m (prog_positive old.geometry valid));
  }

  module _ (valid : IsValid old.geometry) where
    pub read_since : (q room : ℕ) (r : Write) → IsRange route.from q 24 → room ≤ end_of route.from - q → IsReadAt mid q room r → IsReadAt old q room r
    read_since q room r range within read =
        let n_is : ℕ = length r.key + length r.value in
        let size : extent old.geometry.prog r ≤ room = subst (λ (g : Geometry). extent g.prog r ≤ room) same read.within in
        let payload : IsSeen mid (q + up old.geometry.prog 24) n_is (r.key ++ r.value) =
        subst (λ (g : Geometry). IsSeen mid (q + up g.prog 24) n_is (r.key ++ r.value)) same read.payload in
        record {
          valid = read.valid;
          header = seen_since q 24 _ range read.header;
          payload = seen_since (q + up old.geometry.prog 24) n_is (r.key ++ r.value) (payload_range q room n_is range within size valid) payload;
          within = size;
        }

    head_since : (room : ℕ) (bytes : List ℕ) (header : Header) → IsHead mid.geometry.prog room bytes header → IsHead old.geometry.prog room bytes header
    head_since room bytes header head = subst (λ (g : Geometry). IsHead g.prog room bytes header) same head

    pub not_read_since : (q room : ℕ) (e : KvError) → IsRange route.from q 24 → room ≤ end_of route.from - q → IsNotReadAt mid q room e → IsNotReadAt old q room e
    not_read_since q room e range within (inl broken) = inl (record {
      bytes = broken.bytes;
      seen = seen_since q 24 broken.bytes range broken.seen;
      none = λ header head. broken.none header (subst (λ (g : Geometry). IsHead g.prog room broken.bytes header) (sym same) head);
      is = broken.is;
    })
    not_read_since q room e range within (inr wrong) =
        let n_is : ℕ = wrong.header.key_size + wrong.header.value_size in
        let head : IsHead old.geometry.prog room wrong.read.head.bytes wrong.header = head_since room wrong.read.head.bytes wrong.header wrong.read.head.head in
        let payload : IsSeen mid (q + up old.geometry.prog 24) n_is wrong.payload = subst (λ (g : Geometry). IsSeen mid (q + up g.prog 24) n_is wrong.payload) same wrong.read.seen in
        inr (record {
          header = wrong.header;
          payload = wrong.payload;
          read = record {
            head = record { bytes = wrong.read.head.bytes; seen = seen_since q 24 wrong.read.head.bytes range wrong.read.head.seen; head = head };
            seen = seen_since (q + up old.geometry.prog 24) n_is wrong.payload (payload_range q room n_is range within head.within valid) payload;
          };
          differ = wrong.differ;
          fits = wrong.fits;
          is = wrong.is;
        })

    pub all_read_since : (end : ℕ) (es : List Entry) (rs : List Write) → AreIn route.from es → AreRead mid route end es rs → AreRead old route end es rs
    all_read_since end [] [] in_area read = tt
    all_read_since end [] (r ∷ rs) in_area read = absurd read
    all_read_since end (e ∷ es) [] in_area read = absurd read
    all_read_since end (e ∷ es) (r ∷ rs) in_area read = (
      read_since e.offset (room_for route e.offset end) r (in_area 0 (omega arith)) (omega arith) read.0,
      subst (λ (g : Geometry). AreRead old route (end + extent g.prog r) es rs) same
          (all_read_since (end + extent mid.geometry.prog r) es rs (λ i inside. in_area (suc i) (omega (arith, inside))) read.1),
    )

    -- copies behind copies
    pub copied_more_records : {new : FlashState} (es fs : List Entry) (before now last : Copied) → AreIn route.from fs → place ≡ before.end → before.end ≤ end_of route.to
        → HasCopiedMore old mid (record { route = route; entries = es }) before now → HasCopiedMore mid new (record { route = route; entries = fs }) now last → HasCopiedMore old new (record { route = route; entries = es ++ fs }) before last
    copied_more_records {new} es fs before now last in_area place_is inside first second =
        let prog : ℕ = old.geometry.prog in
        let positive = prog_positive old.geometry valid in
        let more : AreRead old route now.end fs second.records = all_read_since now.end fs second.records in_area second.read in
        let end_is : now.end ≡ end_behind prog before.end first.records = first.end_is in
        let more_at : AreRead old route (end_behind prog before.end first.records) fs second.records = subst (λ (k : ℕ). AreRead old route k fs second.records) end_is more in
        let read : AreRead old route before.end (es ++ fs) (first.records ++ second.records) = read-append old route before.end es fs first.records second.records first.read more_at in
        let last_is : last.end ≡ end_behind prog before.end (first.records ++ second.records) =
        second.end_is ∙ ap (λ (g : Geometry). end_behind g.prog now.end second.records) same ∙ ap (λ (k : ℕ). end_behind prog k second.records) end_is ∙ sym (end-append prog before.end first.records second.records) in
        let last_inside : end_behind prog before.end (first.records ++ second.records) ≤ end_of route.to = end_inside old route before.end (es ++ fs) (first.records ++ second.records) read inside in
        let length_is = end_length prog positive before.end (first.records ++ second.records) in
        let joined = spellings-append prog first.records second.records in
        record {
          records = first.records ++ second.records;
          read = read;
          end_is = last_is;
          entries_are =
              second.entries_are
              ∙ ap (λ (g : Geometry). now.entries ++ moved g.prog now.end fs second.records) same
              ∙ ap (λ (k : ℕ). now.entries ++ moved prog k fs second.records) end_is
              ∙ ap (λ (l : List Entry). l ++ moved prog (end_behind prog before.end first.records) fs second.records) first.entries_are
              ∙ append_assoc before.entries (moved prog before.end es first.records) (moved prog (end_behind prog before.end first.records) fs second.records)
              ∙ ap (λ (l : List Entry). before.entries ++ l) (sym (moved-append old route before.end es fs first.records second.records first.read));
          written = λ image told.
              second.written (put image before.end (spellings prog first.records)) (first.written image told)
              ∙ ap (λ (g : Geometry). Some (put (put image before.end (spellings prog first.records)) now.end (spellings g.prog second.records))) same
              ∙ ap (λ (k : ℕ). Some (put (put image before.end (spellings prog first.records)) k (spellings prog second.records))) (end_is ∙ end_length prog positive before.end first.records)
              ∙ ap Some (put-append image before.end (spellings prog first.records) (spellings prog second.records)
              (omega (arith, ap length joined, length_is, last_inside, area_fits old.geometry route.to is_route.to, lawful.sized image told)))
              ∙ ap (λ (l : List ℕ). Some (put image before.end l)) (sym joined);
        }

    -- a record that was not read
    pub not_copied_since : (end : ℕ) (fs : List Entry) (e : KvError) → AreIn route.from fs → IsNotCopied mid (record { route = route; entries = fs }) end e → IsNotCopied old (record { route = route; entries = fs }) end e
    not_copied_since end fs e in_area failed =
        let front : List Entry = failed.before in
        let this : Entry = failed.this in
        let all_in : AreIn route.from (front ++ this ∷ failed.after) = subst (AreIn route.from) failed.entries_are in_area in
        let all_long : length (front ++ this ∷ failed.after) ≡ length front + (length failed.after + 1) = length-append front (this ∷ failed.after) ∙ omega arith in
        let in_front : AreIn route.from front = λ i inside.
        subst (λ (x : Entry). IsRange route.from x.offset 24) (get_or_append_left front (this ∷ failed.after) no_entry i inside) (all_in i (omega (arith, inside, all_long))) in
        let in_this : IsRange route.from this.offset 24 =
        subst (λ (x : Entry). IsRange route.from x.offset 24) (get_or-append_seam front this failed.after no_entry) (all_in (length front) (omega (arith, all_long))) in
        record {
          before = front;
          this = this;
          after = failed.after;
          entries_are = failed.entries_are;
          records = failed.records;
          read = all_read_since end front failed.records in_front failed.read;
          not_read = subst (λ (g : Geometry). IsNotReadAt old this.offset (room_for route this.offset (end_behind g.prog end failed.records)) e) same
              (not_read_since this.offset (room_for route this.offset (end_behind mid.geometry.prog end failed.records)) e in_this (omega arith) failed.not_read);
        }

    -- the same behind copies
    pub not_copied_more : (es fs : List Entry) (before now : Copied) (e : KvError) → AreIn route.from fs → HasCopiedMore old mid (record { route = route; entries = es }) before now
        → IsNotCopied mid (record { route = route; entries = fs }) now.end e → IsNotCopied old (record { route = route; entries = es ++ fs }) before.end e
    not_copied_more es fs before now e in_area first later =
        let prog : ℕ = old.geometry.prog in
        let failed : IsNotCopied old (record { route = route; entries = fs }) now.end e = not_copied_since now.end fs e in_area later in
        let more : AreRead old route (end_behind prog before.end first.records) failed.before failed.records = subst (λ (k : ℕ). AreRead old route k failed.before failed.records) first.end_is failed.read in
        let behind : end_behind prog now.end failed.records ≡ end_behind prog before.end (first.records ++ failed.records) =
        ap (λ (k : ℕ). end_behind prog k failed.records) first.end_is ∙ sym (end-append prog before.end first.records failed.records) in
        record {
          before = es ++ failed.before;
          this = failed.this;
          after = failed.after;
          entries_are = ap (λ (l : List Entry). es ++ l) failed.entries_are ∙ sym (append_assoc es failed.before (failed.this ∷ failed.after));
          records = first.records ++ failed.records;
          read = read-append old route before.end es failed.before first.records failed.records first.read more;
          not_read = subst (λ (k : ℕ). IsNotReadAt old failed.this.offset (room_for route failed.this.offset k) e) behind failed.not_read;
        }

-- a record that was not read among more entries
pub not_copied_ahead : (s : FlashState) (route : Route) (end : ℕ) (es after all : List Entry) (e : KvError) → es ++ after ≡ all → IsNotCopied s (record { route = route; entries = es }) end e → IsNotCopied s (record { route = route; entries = all }) end e
not_copied_ahead s route end es after all e all_is failed = record {
  before = failed.before;
  this = failed.this;
  after = failed.after ++ after;
  entries_are =
      sym all_is
      ∙ ap (λ (l : List Entry). l ++ after) failed.entries_are
      ∙ append_assoc failed.before (failed.this ∷ failed.after) after;
  records = failed.records;
  read = failed.read;
  not_read = failed.not_read;
}

-- ---- where copies end

module _ {old new : FlashState} (valid : IsValid old.geometry) (copy : Copy) (before now : Copied) (copied : HasCopiedMore old new copy before now) where
  pub end_at : now.end ≡ before.end + length (spellings old.geometry.prog copied.records)
  end_at = copied.end_is ∙ end_length old.geometry.prog (prog_positive old.geometry valid) before.end copied.records

  pub end_of_copies : IsEnd old.geometry copy.route.to before.end → IsEnd old.geometry copy.route.to now.end
  end_of_copies end = record {
    inside = record {
      from = omega (arith, end_at, end.inside.from);
      to = omega (arith, copied.end_is, end_inside old copy.route before.end copy.entries copied.records copied.read end.inside.to);
    };
    aligned = subst (IsMultipleOf old.geometry.prog) (sym copied.end_is) (end_whole old.geometry.prog before.end copied.records end.aligned);
  }

  -- what is behind them is still erased
  pub rest_erased : IsLawful old → Keeps old new → (limit : ℕ) → limit ≤ size_of old.geometry → now.end ≤ limit → ForSome old.image (λ image. IsErased image before.end (limit - before.end)) → ForSome new.image (λ image. IsErased image now.end (limit - now.end))
  rest_erased lawful kept limit inside to erased image told =
      let was = told_before kept told in
      let bytes : List ℕ = spellings old.geometry.prog copied.records in
      let is : put was.0 before.end bytes ≡ image = some_is (put was.0 before.end bytes) image (sym (copied.written was.0 was.1) ∙ told) in
      subst (λ (l : List ℕ). IsErased l now.end (limit - now.end)) is
      (IsErased-Torn before.end (length bytes) was.0 (put was.0 before.end bytes) now.end (limit - now.end)
      (Torn-put was.0 before.end bytes (omega (arith, end_at, to, inside, lawful.sized was.0 was.1))) (inr (omega (arith, end_at)))
      (IsErased-within was.0 before.end (limit - before.end) now.end (limit - now.end) (erased was.0 was.1) (omega (arith, end_at)) (omega (arith, end_at, to))))

-- ---- segments of a table

module _ (all : List Entry) where
  pub segment_none : (first : ℕ) → segment all first first ≡ []
  segment_none first = let none : first - first ≡ 0 = omega arith in ap (λ (n : ℕ). take n (drop first all)) none

  pub segment_more : (first at : ℕ) → first ≤ at → at < length all → segment all first (at + 1) ≡ segment all first at ++ entry_at all at ∷ []
  segment_more first at from inside =
      let next : at + 1 - first ≡ at - first + 1 = omega arith in
      let there : first + (at - first) ≡ at = omega arith in
      ap (λ (n : ℕ). take n (drop first all)) next
      ∙ take_more (drop first all) (at - first) no_entry (omega (arith, length-drop first all))
      ∙ ap (λ (e : Entry). take (at - first) (drop first all) ++ e ∷ []) (get_or-drop first all (at - first) no_entry ∙ ap (λ (k : ℕ). entry_at all k) there)

  pub segment_join : (first at last : ℕ) → first ≤ at → at ≤ last → segment all first last ≡ segment all first at ++ segment all at last
  segment_join first at last from to =
      let split : last - first ≡ (at - first) + (last - at) = omega arith in
      let there : first + (at - first) ≡ at = omega arith in
      ap (λ (n : ℕ). take n (drop first all)) split
      ∙ take-add (at - first) (last - at) (drop first all)
      ∙ ap (λ (l : List Entry). take (at - first) (drop first all) ++ take (last - at) l) (drop-drop (at - first) first all)
      ∙ ap (λ (k : ℕ). take (at - first) (drop first all) ++ take (last - at) (drop k all)) there

  pub segment_all : segment all 0 (length all) ≡ all
  segment_all = let whole : length all - 0 ≡ length all = omega arith in ap (λ (n : ℕ). take n all) whole ∙ take-length all

  pub segment_without : (at : ℕ) → at < length all → segment all 0 at ++ segment all (at + 1) (length all) ≡ remove all at
  segment_without at inside =
      let whole : at - 0 ≡ at = omega arith in
      ap (λ (n : ℕ). take n all ++ segment all (at + 1) (length all)) whole
      ∙ ap (λ (l : List Entry). take at all ++ l) (take_rest all (at + 1))
      ∙ ap (λ (k : ℕ). take at all ++ drop k all) (add-one at)

-- no record yet
pub copied_no_records : (s : FlashState) (route : Route) (entries : List Entry) (start : Copied) → entries ≡ [] → HasCopiedMore s s (record { route = route; entries = entries }) start start
copied_no_records s route entries start none = subst (λ (l : List Entry). HasCopiedMore s s (record { route = route; entries = l }) start start) (sym none) (record {
  records = [];
  read = tt;
  end_is = refl;
  entries_are = sym (append-nil start.entries);
  written = λ image told. told ∙ ap Some (sym (put-nil image start.end));
})

pub one_in : (area : Area) (e : Entry) → IsRange area e.offset 24 → AreIn area (e ∷ [])
one_in area e range zero inside = range
one_in area e range (suc i) inside = absurd (omega arith)

pub same_end : (g h : Geometry) (area : Area) (place : ℕ) → h ≡ g → IsEnd h area place → IsEnd g area place
same_end g h area place is end = subst (λ (x : Geometry). IsEnd x area place) is end

-- one entry more at the end of a table
pub push_in : (area : Area) (xs : List Entry) (e : Entry) → AreIn area xs → IsRange area e.offset 24 → AreIn area (xs ++ e ∷ [])
push_in area xs e in_area range i inside = elim (cases_lt i (length xs)) [
  | inl below ↦ subst (λ (x : Entry). IsRange area x.offset 24) (sym (get_or_append_left xs (e ∷ []) no_entry i below)) (in_area i below)
  | inr end ↦
      let at : i ≡ length xs = omega (arith, end, inside, length-append xs (e ∷ [])) in
      subst (λ (x : Entry). IsRange area x.offset 24) (sym (ap (entry_at (xs ++ e ∷ [])) at ∙ get_or-append_seam xs e [] no_entry)) range
]
