-- The next key of an iterator, found by a walk over the table.
use Rattle.std.proofs.Common.{◌≡◌, ◌⊎◌, ℕ, ◌+◌, ◌-◌, ◌<◌, ◌≤◌, true, false, List, [], ◌++◌, length, drop, inl, inr, ⊎_elim, nat_eq, refl, sym, ◌∙◌, ap, subst, arith}
use Rattle.std.specs.Prelude.{IsTrue, Option, Some, None, is_some}
use Rattle.std.specs.Option.{ForSome, IfSome, option_map, unwrap_or}
use Rattle.std.specs.FinMap as map
use Rattle.std.specs.List.{starts_with}
use Rattle.std.proofs.lemmas.Bool.{cases_eq, cases_lt}
use Rattle.std.proofs.lemmas.Bool.Decides.{Decides-eqb}
use Rattle.std.proofs.lemmas.Slice.Eq.{starts_is}
use mathlib.Core.Bool.{false≢true}
use Rattle.flash_core.specs.declared.geometry.Geometry.{Geometry}
use Rattle.flash_core.specs.Runs.{IsCounted}
use Rattle.flash_core.specs.State.{FlashState}
use Rattle.record_core.specs.Endings.{kv_ending}
use Rattle.kv_model.specs.declared.error.KvError.{KvError}
use Rattle.kv_model.specs.KeyOrder.{is_below}
use Rattle.kv_model.specs.NextKey.{IsAhead, IsNext}
use Rattle.kv_model.specs.StoreState.{Position}
use Rattle.record_core.specs.Lookup.{HeadBroken, IsReadFault, KeyBroken, KeySeen}
use Rattle.area_log.specs.declared.area.Area.{Area}
use Rattle.area_log.specs.Areas.{end_of}
use Rattle.ram_table.specs.declared.table.Entry.{Entry}
use Rattle.ram_table.specs.Find.{IsFirstAbove, IsIndexOf, key_at}
use Rattle.ram_table.specs.Reader.{CanReadKey, KeyMap}
use Rattle.tdb_mount.specs.Keys.{keys_in, keys_of}
use Rattle.tdb_mount.proofs.ReaderLemmas.{key_read, mapped_from, refusal_of_read}
use Rattle.tdb_read.specs.Reads.{IsBehind, IsFirstOrNone, IsReadRefusal, LackBetween, map_in}
use Rattle.tdb_read.specs.Views.{IsLogOf, IsSafe, LogPart, area_in}
use Rattle.tdb_read.proofs.ReadLemmas.{from_reader}
use Rattle.tdb_read.proofs.TableLemmas.{at_entry, entry_of, told_table}

-- ---- the key of an entry

module _ (old new : FlashState) (area : Area) (offset : ℕ) (inside : offset + 24 ≤ end_of area)
    (has : ForSome old.image (λ image. IsTrue (map.contains_key (keys_in old.geometry area image) offset))) where
  can : CanReadKey (keys_of old area 0 0) offset
  can = record {
    within = omega (arith, inside);
    has = λ keys told. let image = mapped_from (keys_in old.geometry area) old.image keys told in
        subst (λ (k : KeyMap). IsTrue (map.contains_key k offset)) image.2 (has image.0 image.1);
  }

  pub key_is_read : (key : List ℕ) → KeySeen old offset (end_of area - offset) key → (image : List ℕ) → old.image ≡ Some image
      → unwrap_or (map.get (keys_in old.geometry area image) offset) [] ≡ key
  key_is_read key is image told = ap (λ (o : Option (List ℕ)). unwrap_or o [])
      (key_read old new area 0 0 0 offset can is.header key (record { head = is.head; seen = is.seen; valid = is.valid }) (keys_in old.geometry area image) (ap (option_map (keys_in old.geometry area)) told))

  pub key_refused : (e : KvError) → IsCounted old new (kv_ending e) → IsReadFault old new e ⊎ (HeadBroken old offset (end_of area - offset) e ⊎ KeyBroken old offset (end_of area - offset) e) → IsReadRefusal old new e
  key_refused e counts cause = from_reader old new area 0 0 0 e (refusal_of_read old new area 0 0 0 offset can e counts cause)

-- ---- the walk

-- one entry more that lacks the prefix
pub lack_more : (keys : KeyMap) (entries : List Entry) (prefix key : List ℕ) (from at : ℕ) → LackBetween keys entries prefix from at
    → key_at keys entries at ≡ key → starts_with nat_eq key prefix ≡ false → LackBetween keys entries prefix from (at + 1)
lack_more keys entries prefix key from at lack is lacks i after before = ⊎_elim
    (λ same. ap (λ (n : ℕ). starts_with nat_eq (key_at keys entries n) prefix) same ∙ ap (λ (k : List ℕ). starts_with nat_eq k prefix) is ∙ lacks)
    (λ other. lack i after (omega (arith, before, other)))
    (cases_eq i at)

starts : (key prefix rest : List ℕ) → key ≡ prefix ++ rest → starts_with nat_eq key prefix ≡ true
starts key prefix rest is = (starts_is Decides-eqb key prefix (starts_with nat_eq key prefix) refl).1 rest is

has_rest : (key prefix : List ℕ) → starts_with nat_eq key prefix ≡ true → key ≡ prefix ++ drop (length prefix) key
has_rest key prefix is = (starts_is Decides-eqb key prefix (starts_with nat_eq key prefix) refl).0 is

there_is : {X : Type 0} (o : Option X) → is_some o ≡ true → (x : X) × (o ≡ Some x)
there_is None is = absurd (false≢true is)
there_is (Some x) is = (x, refl)

module _ (hash_bits : ℕ) (keys : KeyMap) (entries : List Entry) where
  -- a key above the last one given stands behind
  stands_behind : (last : Option (List ℕ)) (from i : ℕ) (key : List ℕ) → IsBehind hash_bits keys entries last from → key_at keys entries i ≡ key
      → IfSome last (λ (l : List ℕ). is_below hash_bits l key ≡ true) → from ≤ i
  stands_behind None from i key behind is above = omega (arith, behind)
  stands_behind (Some last) from i key behind is above = ⊎_elim
      (λ before. absurd (false≢true (sym (behind.0 i before) ∙ ap (is_below hash_bits last) is ∙ above)))
      (λ after. after)
      (cases_lt i from)

  is_above : (last : Option (List ℕ)) (from i : ℕ) → IsBehind hash_bits keys entries last from → from ≤ i → i < length entries
      → IfSome last (λ (l : List ℕ). is_below hash_bits l (key_at keys entries i) ≡ true)
  is_above None from i behind after inside = tt
  is_above (Some last) from i behind after inside = behind.1 i after inside

module _ (g : Geometry) (log : LogPart) (image : List ℕ) (safe : IsSafe g log) (is : IsLogOf g image log) (position : Position) (from : ℕ) where
  abbrev keys : KeyMap
  keys = keys_in g (area_in g log) image

  abbrev entries : List Entry
  entries = log.table.entries

  index : IsIndexOf log.hash_bits keys entries
  index = (told_table g log image safe is).index

  -- where a key stands that the iterator has yet to give
  place_ahead : (key : List ℕ) → IsAhead log.hash_bits (map_in g log image) position key → IsBehind log.hash_bits keys entries position.last from
      → (i : ℕ) × (from ≤ i) × (i < length entries) × (key_at keys entries i ≡ key)
  place_ahead key ahead behind =
      let stored = there_is (map.get (map_in g log image) key) ahead.present in
      let entry = entry_of g log image safe is key stored.0 stored.1 in
      (entry.0, stands_behind log.hash_bits keys entries position.last from entry.0 key behind entry.2 ahead.above, entry.1, entry.2)

  pub is_next : (found : Option (List ℕ)) → IsBehind log.hash_bits keys entries position.last from → IsFirstOrNone keys entries position.prefix from found
      → IsNext log.hash_bits (map_in g log image) position found
  is_next None behind lack = λ key ahead.
      let place = place_ahead key ahead behind in
      false≢true (sym (lack place.0 place.1 place.2) ∙ ap (λ (k : List ℕ). starts_with nat_eq k position.prefix) place.3 ∙ starts key position.prefix ahead.prefixed.0 ahead.prefixed.1)
  is_next (Some key) behind first = (
    record {
      present = ap is_some (subst (λ (k : List ℕ). map.get (map_in g log image) k ≡ Some (at_entry g log image safe is first.at first.inside).stored) first.key_is (at_entry g log image safe is first.at first.inside).present);
      prefixed = (drop (length position.prefix) key, has_rest key position.prefix first.has);
      above = subst (λ (k : List ℕ). IfSome position.last (λ (l : List ℕ). is_below log.hash_bits l k ≡ true)) first.key_is (is_above log.hash_bits keys entries position.last from first.at behind first.from_on first.inside);
    },
    λ other ahead.
        let place = place_ahead other ahead behind in
        ⊎_elim
        (λ before. absurd (false≢true (sym (first.before place.0 place.1 before) ∙ ap (λ (k : List ℕ). starts_with nat_eq k position.prefix) place.3 ∙ starts other position.prefix ahead.prefixed.0 ahead.prefixed.1)))
        (λ not_before. ⊎_elim
        (λ same. inl (sym place.3 ∙ ap (key_at keys entries) same ∙ first.key_is))
        (λ more. inr (subst (λ (k : List ℕ). is_below log.hash_bits k other ≡ true) first.key_is
        (subst (λ (k : List ℕ). is_below log.hash_bits (key_at keys entries first.at) k ≡ true) place.3
        (index.ascend first.at place.0 (omega (arith, not_before, more)) place.2))))
        (cases_eq place.0 first.at))
        (cases_lt place.0 first.at),
  )

-- the first place above a key is behind it
pub behind_first : (hash_bits : ℕ) (keys : KeyMap) (entries : List Entry) (last : List ℕ) (at : ℕ) → IsFirstAbove hash_bits keys entries last at → IsBehind hash_bits keys entries (Some last) at
behind_first hash_bits keys entries last at first = (first.before, first.above)
