-- The texts of the records at the places that a mount found.
use Rattle.std.proofs.Common.{◌≡◌, ◌≢◌, ℕ, suc, ◌+◌, ◌<◌, ◌≤◌, Bool, true, false, List, [], ◌∷◌, ◌++◌, length, take, refl, sym, ◌∙◌, ap, subst, arith, ⊎_elim, append_assoc}
use Rattle.std.specs.Prelude.{All, IsTrue, MatchBool, Result, Ok, Err, OnOk, map, nat_le, nat_lt}
use Rattle.std.specs.List.{flat_map, list_all}
use Rattle.std.proofs.lemmas.Bool.Decides.{nat_tests}
use Rattle.std.proofs.lemmas.List.{flat_map_more, length-map, map-append, take_more}
use Rattle.base_core.specs.Units.{up}
use Rattle.flash_core.specs.declared.geometry.Geometry.{Geometry}
use Rattle.flash_core.specs.Calls.{OnlyReads}
use Rattle.flash_core.specs.Images.{part}
use Rattle.flash_core.specs.Sizes.{IsValid}
use Rattle.flash_core.specs.State.{FlashState}
use Rattle.area_log.specs.declared.area.Area.{Area}
use Rattle.kv_model.specs.Keys.{is_key, is_key_byte, is_prefix as is_key_prefix}
use Rattle.kv_model.specs.Flags.{remove_flags}
use Rattle.kv_model.specs.Write.{Write}
use Rattle.record_core.specs.declared.header.Header.{Header}
use Rattle.record_core.specs.Header.{IsHeader}
use Rattle.record_core.specs.Log.{IsRecordAt}
use Rattle.record_core.specs.Reading.{HasRecord}
use Rattle.record_core.proofs.LogLemmas.{value_at}
use Rattle.ram_table.specs.declared.table.Entry.{Entry}
use Rattle.ram_table.specs.Table.{entry_at}
use Rattle.script_core.specs.declared.script.ScriptMode.{ScriptMode}
use Rattle.script_core.specs.Grammar.{IsFlagBits, IsLine, IsScript, Read, canonical, is_key_word, is_printing, lines_of, most_lines}
use Rattle.script_core.proofs.Lines.{Spells-alone}
use Rattle.script_core.proofs.Options.{both}
use Rattle.std.specs.Cmp.Derive.{both_true}
use Rattle.script_core.proofs.Splits.{AreWhole, slice_split-joined}
use Rattle.tdb_mount.specs.declared.mount.Parts.{Parts}
use Rattle.tdb_mount.specs.Room.{area_of}
use Rattle.tdb_read.specs.Records.{record_at}
use Rattle.tdb_read.proofs.RecordLemmas.{record_is}
use Rattle.kv_tools.specs.Listing.{IsSpelled, set_line, set_of}
use Rattle.kv_tools.specs.Placing.{AreHeld, HoldsLive, IsHeadOf, Tells}
use Rattle.kv_tools.specs.Reading.{CanRead}

-- ---- a set is a line of a script

printing : (b : ℕ) → is_key_byte b ≡ true → is_printing b ≡ true
unfolding is_key_byte
printing b is = (both _ _ is).0

all_printing : (bytes : List ℕ) → list_all is_key_byte bytes ≡ true → list_all is_printing bytes ≡ true
all_printing [] is = refl
all_printing (b ∷ bytes) is =
    let parts = both (is_key_byte b) (list_all is_key_byte bytes) is in
    both_true (printing b parts.0) (all_printing bytes parts.1)

some_byte : (n : ℕ) → nat_lt 0 n ≡ true → nat_le 1 n ≡ true
some_byte n is = grind (arith, nat_tests)

few_bytes : (n : ℕ) → nat_le n 128 ≡ true → nat_le n 255 ≡ true
few_bytes n is = grind (arith, nat_tests)

key_word : (key : List ℕ) → IsTrue (is_key key) → IsTrue (is_key_word key)
unfolding is_key is_key_prefix is_key_word
key_word key is =
    let parts = both _ _ (both _ _ is).0 in
    let prefix = both _ _ parts.1 in
    both_true (both_true (some_byte (length key) parts.0) (few_bytes (length key) prefix.0)) (all_printing key prefix.1)

flags_word : (flags key_size value_size : ℕ) → IsHeader flags key_size value_size → flags ≢ remove_flags → IsFlagBits flags
flags_word flags key_size value_size header kept = ⊎_elim (λ zero. (false, false, false, zero)) (λ more. ⊎_elim (λ one. (true, false, false, one)) (λ removes. absurd (kept removes)) more) header.kind

-- ---- a header that was read

module _ (prog : ℕ) (positive : 1 ≤ prog) (image : List ℕ) (place end : ℕ) (key : List ℕ) (header : Header) (found : HasRecord prog image place end key header) where
  pub head_is : IsHeadOf (record_at prog image place) key header
  head_is =
      let same : found.written ≡ record_at prog image place = sym (record_is prog positive image place found.written found.stands) in
      record {
        key_is = found.key_is ∙ ap (λ (r : Write). r.key) same;
        flags = ap (λ (h : Header). h.flags) found.header_is ∙ ap (λ (r : Write). r.flags) same;
        size = ap (λ (h : Header). h.value_size) found.header_is ∙ ap (λ (r : Write). length r.value) same;
      }

module _ (prog : ℕ) (positive : 1 ≤ prog) (image : List ℕ) (place : ℕ) (this : Write) (stands : IsRecordAt prog image place this) (key : List ℕ) (header : Header) (head : IsHeadOf (record_at prog image place) key header) where
  is : record_at prog image place ≡ this
  is = record_is prog positive image place this stands

  -- the set of it is a line of a script
  pub line_valid : this.flags ≢ remove_flags → IsTrue (is_key key) → (line_key value : List ℕ) → line_key ≡ key → IsLine (set_of (record { flags = header.flags; key = line_key; value = value }))
  line_valid kept valid line_key value same =
      let flags : header.flags ≡ this.flags = head.flags ∙ ap (λ (r : Write). r.flags) is in
      let bits : IsFlagBits header.flags = subst IsFlagBits (sym flags) (flags_word this.flags (length this.key) (length this.value) stands.valid_header kept) in
      ((omega arith, omega arith), (key_word line_key (subst (λ (k : List ℕ). IsTrue (is_key k)) (sym same) valid), bits))

  -- and is that of the record which stands there
  pub line_is : header.key_size ≡ length key → (line_key value : List ℕ) → line_key ≡ key → value ≡ part image (place + (up prog 24 + header.key_size)) header.value_size
      → set_of (record { flags = header.flags; key = line_key; value = value }) ≡ set_of (record_at prog image place)
  line_is sized line_key value same read =
      let r : Write = record_at prog image place in
      let key_size : header.key_size ≡ length this.key = sized ∙ ap length (head.key_is ∙ ap (λ (x : Write). x.key) is) in
      let size : header.value_size ≡ length this.value = head.size ∙ ap (λ (x : Write). length x.value) is in
      let bytes : value ≡ r.value = read ∙ (λ i. part image (place + (up prog 24 + key_size i)) (size i)) ∙ value_at prog positive image place this stands ∙ ap (λ (x : Write). x.value) (sym is) in
      let keys : line_key ≡ r.key = same ∙ head.key_is in
      λ i. set_of (record { flags = head.flags i; key = keys i; value = bytes i })

-- ---- a device that was only read

pub can_still : {old new : FlashState} (work later : List ℕ) → CanRead old work → OnlyReads old new → length later ≡ length work → CanRead new later
can_still work later can reads long = record {
  valid = subst IsValid (sym reads.geometry) can.valid;
  steady = reads.steady can.steady;
  unit = subst (λ (g : Geometry). g.prog ≤ length later) (sym reads.geometry) (omega (arith, can.unit, long));
  least = omega (arith, can.least, long);
}

pub held_still : {old new : FlashState} (parts : Parts) (area : Area) (place i : ℕ) → OnlyReads old new → area ≡ area_of old.geometry parts.active → Tells old (λ image. AreHeld old.geometry image parts)
    → i < length parts.table.entries → place ≡ (entry_at parts.table.entries i).offset → Tells new (λ image. HoldsLive new.geometry image area place)
held_still {old} {new} parts area place i reads same there lt at = (
  there.0,
  reads.image ∙ there.1,
  subst (λ (g : Geometry). HoldsLive g there.0 area place) (sym reads.geometry)
      (subst (λ (a : Area). HoldsLive old.geometry there.0 a place) (sym same)
      (subst (λ (p : ℕ). HoldsLive old.geometry there.0 (area_of old.geometry parts.active) p) (sym at) (there.2 i lt))),
)

pub when_ok : {T E P : Type 0} (result : Result T E) → P → OnOk result P
when_ok (Ok x) holds = holds
when_ok (Err e) holds = tt

-- ---- one line more

module _ (line : Write → List ℕ) (f : Entry → Write) (es : List Entry) (at : ℕ) where
  abbrev none : Entry
  none = record { hash = 0; offset = 0 }

  pub more_entries : at < length es → map f (take (at + 1) es) ≡ map f (take at es) ++ f (entry_at es at) ∷ []
  more_entries lt = ap (map f) (take_more es at none lt) ∙ map-append f (take at es) (entry_at es at ∷ [])

  pub one_more : (old new : List ℕ) → at < length es → old ≡ flat_map line (map f (take at es)) → new ≡ old ++ line (f (entry_at es at)) → new ≡ flat_map line (map f (take (at + 1) es))
  one_more old new lt before is =
      is ∙ ap (λ (l : List ℕ). l ++ line (f (entry_at es at))) before
      ∙ flat_map_more line [] (map f (take at es)) (f (entry_at es at)) ∙ ap (flat_map line) (sym (more_entries lt))

-- ---- what is dumped is read again

module _ (mode : ScriptMode) where
  served : (b : Bool) → MatchBool b (1 ≤ 1) (Unit {0})
  served true = omega arith
  served false = tt

  cuts_none : (b : Bool) → MatchBool b (Unit {0}) (Unit {0})
  cuts_none true = tt
  cuts_none false = tt

  reads : (rs : List Write) → All IsSpelled rs → Read mode (map (λ r. canonical (set_of r)) rs ++ [] ∷ []) [] (map set_of rs)
  unfolding IsSpelled
  reads [] spelled = refl
  reads (r ∷ rs) spelled =
      let this : IsSpelled r = spelled 0 r (omega arith) in
      let rest : All IsSpelled rs = λ i d lt. spelled (suc i) d (omega (arith, lt)) in
      rw (Spells-alone (canonical (set_of r)) (set_of r) this).1 (set_of r, map set_of rs, refl, (this, (served mode.threads, cuts_none mode.secure)), reads rs rest)

  whole : (rs : List Write) → All IsSpelled rs → AreWhole 10 (map (λ r. canonical (set_of r)) rs)
  unfolding IsSpelled
  whole [] spelled = tt
  whole (r ∷ rs) spelled = ((Spells-alone (canonical (set_of r)) (set_of r) (spelled 0 r (omega arith))).0, whole rs (λ i d lt. spelled (suc i) d (omega (arith, lt))))

  joined : (rs : List Write) → flat_map set_line rs ≡ flat_map (λ line. line ++ 10 ∷ []) (map (λ r. canonical (set_of r)) rs) ++ []
  joined [] = refl
  joined (r ∷ rs) = ap (λ (l : List ℕ). (canonical (set_of r) ++ 10 ∷ []) ++ l) (joined rs)
      ∙ sym (append_assoc (canonical (set_of r) ++ 10 ∷ []) (flat_map (λ line. line ++ 10 ∷ []) (map (λ r. canonical (set_of r)) rs)) [])

  pub parsed : (text : List ℕ) (rs : List Write) → text ≡ flat_map set_line rs → All IsSpelled rs → length rs ≤ most_lines → IsScript mode text (map set_of rs)
  parsed text rs same spelled few =
      let lines : lines_of text ≡ map (λ r. canonical (set_of r)) rs ++ [] ∷ [] =
      ap lines_of (same ∙ joined rs) ∙ slice_split-joined 10 (map (λ r. canonical (set_of r)) rs) [] (whole rs spelled) refl in
      record {
        reads = subst (λ (ls : List (List ℕ)). Read mode ls [] (map set_of rs)) (sym lines) (reads rs spelled);
        count = omega (arith, length-map rs set_of, few);
      }
