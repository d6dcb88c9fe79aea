-- What a mount shows of a set that was cut between the two stores.
use Rattle.std.proofs.Common.{◌≡◌, ◌⊎◌, inl, inr, ℕ, ◌<◌, ◌≤◌, ◌^◌, Bool, true, false, ◌||◌, List, length, Option, Some, None, refl, sym, ◌∙◌, ap, ap₂, arith, true≢false}
use Rattle.std.specs.Prelude.{if◌then◌else◌}
use Rattle.std.specs.Option.{option_map, option_map_or}
use Rattle.std.specs.FinMap.{get, insert}
use Rattle.std.proofs.lemmas.Bool.{eq-eqb}
use Rattle.kv_model.specs.declared.error.KvError.{KvError}
use Rattle.kv_model.specs.Checks.{first_refusal}
use Rattle.kv_model.specs.Constants.{Constants, Secure}
use Rattle.kv_model.specs.FlaggedMap.{Stored}
use Rattle.kv_model.specs.Flags.{is_mirrored, is_write_once}
use Rattle.kv_model.specs.Operations.{Set}
use Rattle.kv_model.specs.Rules.{before_doubt, number_given_back, refused_or}
use Rattle.kv_model.specs.StoreState.{Doubt, Maps, StoreState, maps_of, prior_in, tag_in}
use Rattle.kv_model.proofs.LimitLemmas.{one_of_three}
use Rattle.secure_record.specs.declared.metadata.Metadata.{Metadata}
use Rattle.secure_record.specs.Sealed.{sealed_metadata, sealed_vector}
use Rattle.secure_record.specs.Unseal.{unseal}
use Rattle.sealed_pair.specs.Sealing.{is_numbered, kept_flags, record_entry, secure_of, tag_entry, with_record}
use Rattle.sealed_pair.specs.View.{Held, view_by}
use Rattle.sealed_pair.specs.Heal.{heal, healed, metadata_in, needed_for_tag}
use Rattle.sealed_pair.specs.SecureStep.{secure_checks, secure_rules, set_record, takes_number}
use Rattle.sealed_pair.specs.Laws.{ShowsOldOrSet, mounted_view}
use Rattle.sealed_pair.proofs.HealLemmas.{get_healed, healed_is, heals_whole}
use Rattle.sealed_pair.proofs.SealLemmas.{HaveForm, metadata_in_seal}
use Rattle.sealed_pair.proofs.SetLemmas.{MaySet, SealsOpen, may_set, set_opens, small_vector, some_prior}
use Rattle.sealed_pair.proofs.ViewLemmas.{get_same, opened_held, own_tag, tag_stored}

some_same : {X : Type 0} (x y : X) → Some x ≡ Some y → x ≡ y
some_same x y same = cc

-- ---- the maps that a cut leaves

module _ (constants : Constants) (maps : Maps) (key bytes value : List ℕ) (flags vector : ℕ) (m : Metadata) where
  abbrev secure : Secure
  secure = secure_of constants

  -- the bytes are the record of the value, with this metadata
  pub record IsSealed : Type 0 where
    pub opens : unseal secure.root key bytes ≡ Some (record { flags = flags; vector = vector; value = value })
    pub named : metadata_in secure.root key bytes ≡ Some m
    pub same : m.flags ≡ flags
    pub mirrored : is_mirrored flags ≡ true

  abbrev pub half : Maps
  half = record { primary = insert maps.primary key (record_entry flags bytes); rollback = maps.rollback }

  abbrev whole : Maps
  whole = with_record maps key flags bytes

  found : get (insert maps.primary key (record_entry flags bytes)) key ≡ Some (record_entry flags bytes)
  found = get_same maps.primary key (record_entry flags bytes)

  shown : (left : Maps) → IsSealed → get left.primary key ≡ Some (record_entry flags bytes) → get (heal secure left).rollback key ≡ Some (tag_entry flags bytes)
      → mounted_view constants left key ≡ Held flags value
  shown left is stored tag =
      ap₂ (view_by secure.root key) stored tag
      ∙ opened_held secure.root key bytes (record { flags = flags; vector = vector; value = value }) (kept_flags flags) (Some (tag_entry flags bytes)) is.opens
      (record { mirrored = λ so. own_tag flags bytes; plain = λ so. absurd (true≢false (sym is.mirrored ∙ so)) })

  -- the primary store has the new record and the rollback store the old tag: healing completes the set
  pub half_shown : (tag : Stored) → IsSealed → get maps.rollback key ≡ Some tag → m.prior ≡ Some tag.bytes → is_write_once tag.flags ≡ false
      → needed_for_tag secure maps key ≤ secure.room → mounted_view constants half key ≡ Held flags value
  half_shown tag is stands prior free room =
      shown half is found
      (heals_whole secure half key tag (tag_entry flags bytes)
      (record {
        stored = record_entry flags bytes;
        metadata = m;
        found = found;
        sealed = is.named;
        prior = prior;
        free = free;
        room = room;
        completed = ap (λ (f : ℕ). tag_entry f bytes) (sym is.same);
      })
      stands)

  -- both stores have the new record: healing leaves its tag
  own_stays : IsSealed → healed secure whole key (tag_entry flags bytes) ≡ tag_entry flags bytes
  own_stays is =
      elim (healed_is secure whole key (tag_entry flags bytes)) [
        | inl same ↦ same
        | inr h ↦
            let stored = some_same h.stored (record_entry flags bytes) (sym h.found ∙ found) in
            let metadata = some_same h.metadata m (sym h.sealed ∙ ap (λ (s : Stored). metadata_in secure.root key s.bytes) stored ∙ is.named) in
            h.completed ∙ ap₂ (λ (n : Metadata) (s : Stored). tag_entry n.flags s.bytes) metadata stored ∙ ap (λ (f : ℕ). tag_entry f bytes) is.same
      ]

  pub whole_shown : IsSealed → mounted_view constants whole key ≡ Held flags value
  whole_shown is =
      shown whole is found
      (get_healed secure whole key
      ∙ ap (option_map (healed secure whole key)) (tag_stored maps key bytes flags (is_mirrored flags) is.mirrored)
      ∙ ap Some (own_stays is))

-- ---- what the start of a set found

pub mirrors : (mirrored : Bool) (found : Option Stored) (tag : Stored) → (mirrored ≡ false → found ≡ None) → found ≡ Some tag → mirrored ≡ true
mirrors true found tag lacks stands = refl
mirrors false found tag lacks stands = absurd (cc (lacks refl, stands))

pub prior_is : (mirrored : Bool) (found : Option Stored) (tag : Stored) → mirrored ≡ true → found ≡ Some tag → length tag.bytes ≡ 16
    → (if mirrored then tag_in found else None) ≡ Some tag.bytes
prior_is mirrored stored tag is stands long =
    ap₂ (λ (b : Bool) (o : Option Stored). if b then tag_in o else None) is stands
    ∙ ap (λ (b : Bool). if b then Some tag.bytes else None) (eq-eqb (length tag.bytes) 16 long)

pub second_false : (a b : Bool) → a || b ≡ false → b ≡ false
second_false true b h = absurd (true≢false h)
second_false false b h = h

pub small_before : (next : ℕ) (doubt : Option Doubt) → next < 2 ^ 64
    → option_map_or (λ (d : Doubt). number_given_back (takes_number d.operation) next) doubt next < 2 ^ 64
small_before next None small = small
small_before next (Some d) small = given_back (takes_number d.operation)
  where
    given_back : (takes : Bool) → number_given_back takes next < 2 ^ 64
    given_back true = omega (arith, small)
    given_back false = small

module _ (opens : SealsOpen) (form : HaveForm) (constants : Constants) (state : StoreState) (small : state.next_vector < 2 ^ 64) (key value : List ℕ) (flags : ℕ) where
  abbrev root : List ℕ
  root = (secure_of constants).root

  abbrev number : ℕ
  number = if is_numbered flags then state.next_vector else 0

  abbrev prior : Option (List ℕ)
  prior = prior_in state.rollback flags key

  abbrev metadata : Metadata
  metadata = sealed_metadata (length value) flags number prior

  pub set_sealed : (tag : Stored) → MaySet constants state key (length value) flags → get state.rollback key ≡ Some tag
      → IsSealed constants (maps_of state) key (set_record constants state key value flags) value flags (sealed_vector flags number) metadata
  set_sealed tag may stands =
      let opened = set_opens opens constants state small key value flags may in
      record {
        opens = opened;
        named = metadata_in_seal form root key flags number prior value _ opened (record {
          secure = may.secure;
          number = small_vector (is_numbered flags) state.next_vector small;
          replaced = some_prior (is_mirrored flags) (get state.rollback key);
          most = may.most;
        });
        same = refl;
        mirrored = mirrors (is_mirrored flags) (get state.rollback key) tag may.lacks stands;
      }

  pub half_set : (tag : Stored) → MaySet constants state key (length value) flags → get state.rollback key ≡ Some tag → length tag.bytes ≡ 16
      → mounted_view constants (half constants (maps_of state) key (set_record constants state key value flags) value flags (sealed_vector flags number) metadata) key ≡ Held flags value
  half_set tag may stands long =
      let is = set_sealed tag may stands in
      half_shown constants (maps_of state) key (set_record constants state key value flags) value flags (sealed_vector flags number) metadata tag is stands
      (prior_is (is_mirrored flags) (get state.rollback key) tag is.mirrored stands long)
      (ap (λ (o : Option Stored). is_write_once (option_map_or (λ (s : Stored). s.flags) o 0)) (sym stands) ∙ second_false _ _ may.free)
      (may.room_beside is.mirrored)

  pub whole_set : (tag : Stored) → MaySet constants state key (length value) flags → get state.rollback key ≡ Some tag
      → mounted_view constants (with_record (maps_of state) key flags (set_record constants state key value flags)) key ≡ Held flags value
  whole_set tag may stands =
      whole_shown constants (maps_of state) key (set_record constants state key value flags) value flags (sealed_vector flags number) metadata (set_sealed tag may stands)

-- ---- the cut

module _ (opens : SealsOpen) (form : HaveForm) (constants : Constants) (state : StoreState) (small : state.next_vector < 2 ^ 64) (who : ℕ) (key value : List ℕ) (flags : ℕ) (tag : Stored)
    (stands : get state.rollback key ≡ Some tag) (long : length tag.bytes ≡ 16) where
  abbrev before : StoreState
  before = before_doubt (secure_rules constants) state

  abbrev Shows : Maps → Type 0
  Shows maps = (mounted_view constants maps key ≡ mounted_view constants (maps_of state) key) ⊎ (mounted_view constants maps key ≡ Held flags value)

  abbrev after : Option KvError → StoreState
  after found = (refused_or (secure_rules constants) before who (Set key value flags) found).state

  small_then : before.next_vector < 2 ^ 64
  small_then = small_before state.next_vector state.doubt small

  half_left : (found : Option KvError) → first_refusal (secure_checks constants before who (Set key value flags)) ≡ found
      → Shows (record { primary = (after found).primary; rollback = before.rollback })
  half_left None none = inr (half_set opens form constants before small_then key value flags tag (may_set constants before who key (length value) flags none) stands long)
  half_left (Some e) refused = inl refl

  whole_left : (found : Option KvError) → first_refusal (secure_checks constants before who (Set key value flags)) ≡ found → Shows (maps_of (after found))
  whole_left None none = inr (whole_set opens form constants before small_then key value flags tag (may_set constants before who key (length value) flags none) stands)
  whole_left (Some e) refused = inl refl

  pub cut_shows : ShowsOldOrSet constants state who (Set key value flags) key (Held flags value)
  cut_shows maps cut =
      let found : Option KvError = first_refusal (secure_checks constants before who (Set key value flags)) in
      one_of_three Shows (maps_of before) (record { primary = (after found).primary; rollback = before.rollback }) (maps_of (after found)) maps
      (inl refl) (half_left found refl) (whole_left found refl) cut.0 cut.1 cut.2
