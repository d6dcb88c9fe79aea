-- What healing does to the rollback map, key by key.
use Rattle.std.proofs.Common.{◌≡◌, ◌⊎◌, inl, inr, ℕ, ◌+◌, ◌-◌, Bool, true, false, not, ◌&&◌, cond, T, nat_le, List, [], ◌∷◌, map, length, Option, Some, None, Ordering, Less, Equal, Greater, nat_cmp, is_lt, is_eq, refl, sym, ◌∙◌, ap, ap₂, subst, arith, true≢false}
use Rattle.std.specs.Prelude.{if◌then◌else◌}
use Rattle.std.specs.Option.{option_map, option_map_or}
use Rattle.std.specs.Ordering.{eq_by_cmp}
use Rattle.std.specs.Str.{bytes_eq}
use Rattle.std.specs.Cmp.Lexicographic.{slice_cmp, nat_list_cmp_total}
use Rattle.std.specs.FinMap.{get, entries, from_sorted, entries_sorted, get-entries, get-from_sorted, entries-from_sorted, same_map}
use Rattle.std.specs.FinMap.Entries.{find, is_sorted, below_all}
use Rattle.std.proofs.lemmas.Slice.Eq.{bytes_eq-Decides}
use Rattle.std.proofs.lemmas.Bool.{leb-true, le-leb}
use Rattle.std.proofs.lemmas.List.{length-drop}
use Rattle.base_core.specs.Sizes.{record_size}
use Rattle.kv_model.specs.Constants.{Secure}
use Rattle.kv_model.specs.Flags.{is_write_once}
use Rattle.kv_model.specs.FlaggedMap.{FlaggedMap, Stored}
use Rattle.kv_model.specs.Sizes.{used, used_by}
use Rattle.kv_model.specs.StoreState.{Maps}
use Rattle.kv_model.proofs.NextKeyLemmas.{bytes_same}
use Rattle.secure_record.specs.declared.metadata.Revision.{Revision}
use Rattle.secure_record.specs.declared.metadata.Metadata.{Metadata}
use Rattle.secure_record.specs.Metadata.{HasPrior, metadata_size}
use Rattle.secure_record.specs.Unseal.{IsInParts}
use Rattle.secure_record.proofs.RecordLemmas.{in_parts}
use Rattle.sealed_pair.specs.declared.limits.TheConstants.{TAG_SIZE}
use Rattle.sealed_pair.specs.Sealing.{tag_entry, tag_of}
use Rattle.sealed_pair.specs.Heal.{IsHealed, fits_tag, heal, healed, healed_by, is_prior, metadata_in, needed_for_tag}
use Rattle.sealed_pair.specs.Laws.{HealsKey}

abbrev R : List ℕ → List ℕ → Ordering
R = slice_cmp nat_cmp

some_same : {X : Type 0} (x y : X) → Some x ≡ Some y → x ≡ y
some_same x y same = cc

-- ---- sealed records

chosen : (b : Bool) (found : Option Metadata) (m : Metadata) → (if b then found else None) ≡ Some m → found ≡ Some m
chosen true found m is = is
chosen false found m is = absurd (cc)

pub parts_of : (root key bytes : List ℕ) (m : Metadata) → metadata_in root key bytes ≡ Some m → IsInParts bytes m
parts_of root key bytes m is = in_parts bytes m (chosen _ _ m is)

-- the tag of a sealed record, and the one that it replaces, have 16 bytes
pub length-tag : (bytes : List ℕ) (m : Metadata) → IsInParts bytes m → length (tag_of bytes) ≡ TAG_SIZE
length-tag bytes m parts =
    let whole = length-drop (metadata_size m.revision + m.size) bytes in
    omega (arith, length-drop (length bytes - TAG_SIZE) bytes, whole, parts.tag)

length-prior : (r : Revision) (found : Option (List ℕ)) (prior : List ℕ) → HasPrior r found → found ≡ Some prior → length prior ≡ TAG_SIZE
length-prior r None prior has is = absurd (cc is)
length-prior r (Some p) prior has is = ap length (some_same prior p (sym is)) ∙ has.1

-- ---- a map with each value changed in its place

equal : (r : Ordering) → is_eq r ≡ true → r ≡ Equal
equal Less is = absurd (true≢false (sym is))
equal Equal is = refl
equal Greater is = absurd (true≢false (sym is))

module _ (h : List ℕ → Stored → Stored) where
  abbrev each : List ℕ × Stored → List ℕ × Stored
  each e = (e.0, h e.0 e.1)

  below_each : (x : List ℕ) (es : List (List ℕ × Stored)) → below_all R x (map each es) ≡ below_all R x es
  below_each x [] = refl
  below_each x (e ∷ es) = ap (λ (b : Bool). is_lt (R x e.0) && b) (below_each x es)

  sorted_each : (es : List (List ℕ × Stored)) → is_sorted R (map each es) ≡ is_sorted R es
  sorted_each [] = refl
  sorted_each (e ∷ es) = ap₂ (λ (a b : Bool). a && b) (below_each e.0 es) (sorted_each es)

  found_at : (q : List ℕ) (e : List ℕ × Stored) (es : List (List ℕ × Stored)) (tied : Bool) → eq_by_cmp R q e.0 ≡ tied
      → find R q (map each es) ≡ option_map (h q) (find R q es)
      → cond tied (Some (h e.0 e.1)) (find R q (map each es)) ≡ option_map (h q) (cond tied (Some e.1) (find R q es))
  found_at q e es true is rest = ap (λ (k : List ℕ). Some (h k e.1)) (sym (bytes_same q e.0 (equal _ is)))
  found_at q e es false is rest = rest

  find_each : (q : List ℕ) (es : List (List ℕ × Stored)) → find R q (map each es) ≡ option_map (h q) (find R q es)
  find_each q [] = refl
  find_each q (e ∷ es) = found_at q e es (eq_by_cmp R q e.0) refl (find_each q es)

  in_order : (m : FlaggedMap) → T (is_sorted R (map each (entries m)))
  in_order m = subst T (sym (sorted_each (entries m))) (entries_sorted m)

  get_each : (m : FlaggedMap) (q : List ℕ) → get (from_sorted {R = R} (map each (entries m))) q ≡ option_map (h q) (get m q)
  get_each m q =
      get-from_sorted R (map each (entries m)) q (in_order m) ∙ find_each q (entries m) ∙ ap (option_map (h q)) (sym (get-entries m q))

  module _ (prog : ℕ) (keeps : (key : List ℕ) (tag : Stored) → length (h key tag).bytes ≡ length tag.bytes) where
    used_by_each : (es : List (List ℕ × Stored)) → used_by prog (map each es) ≡ used_by prog es
    used_by_each [] = refl
    used_by_each (e ∷ es) = ap₂ (λ (n rest : ℕ). record_size prog (length e.0) n + rest) (keeps e.0 e.1) (used_by_each es)

    used_each : (m : FlaggedMap) → used prog (from_sorted {R = R} (map each (entries m))) ≡ used prog m
    used_each m = ap (used_by prog) (entries-from_sorted R _ (in_order m)) ∙ used_by_each (entries m)

-- ---- one tag

both : (a b : Bool) → a && b ≡ true → (a ≡ true) × (b ≡ true)
both true b is = (refl, is)
both false b is = absurd (true≢false (sym is))

is_false : (b : Bool) → not b ≡ true → b ≡ false
is_false true is = sym is
is_false false is = refl

module _ (secure : Secure) (maps : Maps) (key : List ℕ) where
  -- a tag that stands stays, or is replaced as healing says
  abbrev Stays : Stored → Stored → Type 0
  Stays old new = (new ≡ old) ⊎ IsHealed secure maps key old new

  by_prior : (tag s : Stored) (m : Metadata) (prior : Option (List ℕ)) (stands fits : Bool) → get maps.primary key ≡ Some s → metadata_in secure.root key s.bytes ≡ Some m
      → m.prior ≡ prior → is_prior prior tag ≡ stands → fits_tag secure maps key ≡ fits
      → Stays tag (if stands && fits then tag_entry m.flags s.bytes else tag)
  by_prior tag s m None true fits found sealed is stands room = absurd (true≢false (sym stands))
  by_prior tag s m (Some prior) true true found sealed is stands room =
      let two = both (bytes_eq tag.bytes prior) (not (is_write_once tag.flags)) stands in
      inr (record {
        stored = s;
        metadata = m;
        found = found;
        sealed = sealed;
        prior = is ∙ ap Some (sym ((bytes_eq-Decides tag.bytes prior).0 two.0));
        free = is_false _ two.1;
        room = leb-true (needed_for_tag secure maps key) secure.room room;
        completed = refl;
      })
  by_prior tag s m prior true false found sealed is stands room = inl refl
  by_prior tag s m prior false fits found sealed is stands room = inl refl

  by_metadata : (tag s : Stored) (sealed : Option Metadata) → get maps.primary key ≡ Some s → metadata_in secure.root key s.bytes ≡ sealed
      → Stays tag (healed_by (fits_tag secure maps key) s.bytes sealed tag)
  by_metadata tag s None found sealed = inl refl
  by_metadata tag s (Some m) found sealed = by_prior tag s m m.prior (is_prior m.prior tag) (fits_tag secure maps key) found sealed refl refl refl

  by_record : (tag : Stored) (found : Option Stored) → get maps.primary key ≡ found
      → Stays tag (option_map_or (λ (s : Stored). healed_by (fits_tag secure maps key) s.bytes (metadata_in secure.root key s.bytes) tag) found tag)
  by_record tag None is = inl refl
  by_record tag (Some s) is = by_metadata tag s (metadata_in secure.root key s.bytes) is refl

  pub healed_is : (tag : Stored) → Stays tag (healed secure maps key tag)
  healed_is tag = by_record tag (get maps.primary key) refl

  -- it keeps the size of the tag
  length-completed : (old new : Stored) → IsHealed secure maps key old new → length new.bytes ≡ length old.bytes
  length-completed old new h =
      let parts = parts_of secure.root key h.stored.bytes h.metadata h.sealed in
      ap (λ (s : Stored). length s.bytes) h.completed ∙ length-tag h.stored.bytes h.metadata parts
      ∙ sym (length-prior h.metadata.revision h.metadata.prior old.bytes parts.valid.prior h.prior)

  pub length-healed : (tag : Stored) → length (healed secure maps key tag).bytes ≡ length tag.bytes
  length-healed tag = elim (healed_is tag) [ inl same ↦ ap (λ (s : Stored). length s.bytes) same | inr h ↦ length-completed tag (healed secure maps key tag) h ]

  -- one tag takes the place of another in one way
  one_tag : (a b x y : Stored) → IsHealed secure maps key a x → IsHealed secure maps key b y → x ≡ y
  one_tag a b x y h g =
      let stored = some_same h.stored g.stored (sym h.found ∙ g.found) in
      let sealed = ap (λ (s : Stored). metadata_in secure.root key s.bytes) stored in
      let metadata = some_same h.metadata g.metadata (sym h.sealed ∙ sealed ∙ g.sealed) in
      h.completed ∙ ap₂ (λ (m : Metadata) (s : Stored). tag_entry m.flags s.bytes) metadata stored ∙ sym g.completed

  pub healed_twice : (tag : Stored) → healed secure maps key (healed secure maps key tag) ≡ healed secure maps key tag
  healed_twice tag =
      elim (healed_is tag) [
        | inl same ↦ ap (healed secure maps key) same
        | inr h ↦
            elim (healed_is (healed secure maps key tag)) [
              | inl same ↦ same
              | inr g ↦ one_tag (healed secure maps key tag) tag _ _ g h
            ]
      ]

  -- every tag that healing replaces is replaced
  stands_prior : (old : Stored) → is_write_once old.flags ≡ false → is_prior (Some old.bytes) old ≡ true
  stands_prior old free =
      ap₂ (λ (a b : Bool). a && not b) ((bytes_eq-Decides old.bytes old.bytes).1 refl) free

  pub completes : (old new : Stored) → IsHealed secure maps key old new → healed secure maps key old ≡ new
  completes old new h =
      let fits : Bool = fits_tag secure maps key in
      let by : Option Metadata → Stored = λ (o : Option Metadata). healed_by fits h.stored.bytes o old in
      let prior : is_prior h.metadata.prior old ≡ true = ap (λ (p : Option (List ℕ)). is_prior p old) h.prior ∙ stands_prior old h.free in
      let room : fits ≡ true = le-leb (needed_for_tag secure maps key) secure.room h.room in
      ap (λ (o : Option Stored). option_map_or (λ (s : Stored). healed_by fits s.bytes (metadata_in secure.root key s.bytes) old) o old) h.found
      ∙ ap by h.sealed
      ∙ ap₂ (λ (a b : Bool). if a && b then tag_entry h.metadata.flags h.stored.bytes else old) prior room
      ∙ sym h.completed

-- ---- the maps

module _ (secure : Secure) (maps : Maps) where
  pub get_healed : (key : List ℕ) → get (heal secure maps).rollback key ≡ option_map (healed secure maps key) (get maps.rollback key)
  get_healed key = get_each (healed secure maps) maps.rollback key

  heals_found : (key : List ℕ) (found : Option Stored) → HealsKey secure maps key found (option_map (healed secure maps key) found)
  heals_found key None = refl
  heals_found key (Some tag) = healed_is secure maps key tag

  pub heals_key : (key : List ℕ) → HealsKey secure maps key (get maps.rollback key) (get (heal secure maps).rollback key)
  heals_key key = subst (HealsKey secure maps key (get maps.rollback key)) (sym (get_healed key)) (heals_found key (get maps.rollback key))

  pub heals_whole : (key : List ℕ) (old new : Stored) → IsHealed secure maps key old new → get maps.rollback key ≡ Some old → get (heal secure maps).rollback key ≡ Some new
  heals_whole key old new h stands = get_healed key ∙ ap (option_map (healed secure maps key)) stands ∙ ap Some (completes secure maps key old new h)

  pub used_healed : used secure.prog (heal secure maps).rollback ≡ used secure.prog maps.rollback
  used_healed = used_each (healed secure maps) secure.prog (λ key tag. length-healed secure maps key tag) maps.rollback

  -- the healed maps have as much room
  same_healed : (key : List ℕ) (tag : Stored) → healed secure (heal secure maps) key tag ≡ healed secure maps key tag
  same_healed key tag =
      ap (λ (n : ℕ). option_map_or (λ (s : Stored). healed_by (nat_le (n + record_size secure.prog (length key) TAG_SIZE) secure.room) s.bytes (metadata_in secure.root key s.bytes) tag) (get maps.primary key) tag)
      used_healed

  again : (key : List ℕ) (found : Option Stored) → option_map (healed secure (heal secure maps) key) (option_map (healed secure maps key) found) ≡ option_map (healed secure maps key) found
  again key None = refl
  again key (Some tag) = ap Some (same_healed key (healed secure maps key tag) ∙ healed_twice secure maps key tag)

  rollback_twice : (heal secure (heal secure maps)).rollback ≡ (heal secure maps).rollback
  rollback_twice = same_map nat_list_cmp_total bytes_same _ _ (λ key.
      get_each (healed secure (heal secure maps)) (heal secure maps).rollback key
      ∙ ap (option_map (healed secure (heal secure maps) key)) (get_healed key)
      ∙ again key (get maps.rollback key)
      ∙ sym (get_healed key))

  pub heal_twice : heal secure (heal secure maps) ≡ heal secure maps
  heal_twice = λ i. record { primary = maps.primary; rollback = rollback_twice i }
