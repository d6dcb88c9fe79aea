-- The entries of a log's table are those of its map's keys, and without one of them those of the map without its key.
use Rattle.std.proofs.Common.{◌≡◌, ◌≢◌, ◌⊎◌, ℕ, ◌+◌, ◌-◌, ◌<◌, ◌≤◌, true, List, [], length, inl, inr, ⊎_elim, refl, sym, ◌∙◌, ap, subst, arith}
use Rattle.std.specs.Prelude.{IsTrue, Option, Some, None}
use Rattle.std.specs.FinMap as map
use Rattle.std.specs.List.{remove}
use Rattle.std.specs.Option.{unwrap_or}
use Rattle.std.specs.Ordering.{nat_cmp}
use Rattle.std.specs.Cmp.Lexicographic.{slice_cmp}
use Rattle.std.proofs.lemmas.Bool.{cases_lt}
use Rattle.std.proofs.lemmas.List.Edits.{get_or-remove_above, get_or-remove_below, length-remove}
use Rattle.flash_core.specs.declared.geometry.Geometry.{Geometry}
use Rattle.kv_model.specs.FlaggedMap.{FlaggedMap, Stored}
use Rattle.kv_model.specs.Flags.{remove_flags}
use Rattle.kv_model.specs.KeyOrder.{is_below}
use Rattle.kv_model.specs.Write.{Write, map_of}
use Rattle.record_core.proofs.LogLemmas.{get-applied_other, get-applied_removed}
use Rattle.ram_table.specs.declared.table.Entry.{Entry}
use Rattle.ram_table.specs.Find.{key_at}
use Rattle.ram_table.specs.Reader.{KeyMap}
use Rattle.ram_table.specs.Table.{entry_at}
use Rattle.ram_table.proofs.IndexLemmas.{index_remove}
use Rattle.ram_table.proofs.KeyOrderLemmas.{not_below_itself}
use Rattle.tdb_mount.specs.Index.{record_of}
use Rattle.tdb_mount.specs.Keys.{keys_in}
use Rattle.tdb_read.specs.Reads.{map_in}
use Rattle.tdb_read.specs.Views.{IsLogOf, IsSafe, LogPart, area_in, records_in}
use Rattle.tdb_read.proofs.TableLemmas.{at_entry, entry_of, told_table}
use Rattle.tdb_write.proofs.LiveLemmas.{AreLiveEntries, FindsKey, IsLive, no_removes}

some_none : (x : Stored) → Some x ≡ None → ⊥
some_none x same = cc

-- ---- all of them

module _ (g : Geometry) (image : List ℕ) (log : LogPart) (safe : IsSafe g log) (is : IsLogOf g image log) where
  each_entry : (i : ℕ) → i < length log.table.entries → IsLive g.prog image log.end (keys_in g (area_in g log) image) (map_in g log image) (entry_at log.table.entries i)
  each_entry i lt =
      let at = at_entry g log image safe is i lt in
      let key : List ℕ = key_at (keys_in g (area_in g log) image) log.table.entries i in
      record {
        this = record_of key at.stored;
        stands = at.kept.stands;
        inside = at.kept.inside;
        of_map = record { kept = no_removes (records_in g log image) key at.stored at.present; found = at.present };
        key_is = refl;
      }

  finds : (key : List ℕ) (found : Option Stored) → map.get (map_in g log image) key ≡ found → (map.get (map_in g log image) key ≡ None → ⊥) → FindsKey (keys_in g (area_in g log) image) log.table.entries key
  finds key None is_none some = absurd (some is_none)
  finds key (Some x) there some = let at = entry_of g log image safe is key x there in record { at = at.0; inside = at.1; is = at.2 }

  pub log_entries : AreLiveEntries g.prog log.hash_bits image log.end (keys_in g (area_in g log) image) (map_in g log image) log.table.entries
  log_entries = record {
    index = (told_table g log image safe is).index;
    each = each_entry;
    all = λ key some. finds key (map.get (map_in g log image) key) refl some;
  }

-- ---- all but one

abbrev removal : List ℕ → Write
removal gone = record { flags = remove_flags; key = gone; value = [] }

abbrev no_entry : Entry
no_entry = record { hash = 0; offset = 0 }

module _ (prog bits : ℕ) (image : List ℕ) (end : ℕ) (keys : KeyMap) (m : FlaggedMap) (es : List Entry) (live : AreLiveEntries prog bits image end keys m es) (at : ℕ) (inside : at < length es) where
  gone : List ℕ
  gone = key_at keys es at

  other_key : (i : ℕ) → i < length es → (i < at) ⊎ (at < i) → key_at keys es i ≢ key_at keys es at
  other_key i lt (inl less) same = not_below_itself bits (key_at keys es at) (subst (λ (k : List ℕ). IsTrue (is_below bits k (key_at keys es at))) same (live.index.ascend i at less inside))
  other_key i lt (inr more) same = not_below_itself bits (key_at keys es at) (subst (λ (k : List ℕ). IsTrue (is_below bits (key_at keys es at) k)) same (live.index.ascend at i more lt))

  moved_live : (i : ℕ) → i < length es → (i < at) ⊎ (at < i) → (e : Entry) → e ≡ entry_at es i → IsLive prog image end keys (map.remove m (key_at keys es at)) e
  moved_live i lt apart e same =
      let was = live.each i lt in
      subst (IsLive prog image end keys (map.remove m (key_at keys es at))) (sym same) (record {
        this = was.this;
        stands = was.stands;
        inside = was.inside;
        of_map = record {
          kept = was.of_map.kept;
          found = get-applied_other m (removal (key_at keys es at)) was.this.key (λ equal. other_key i lt apart (sym was.key_is ∙ equal)) ∙ was.of_map.found;
        };
        key_is = was.key_is;
      })

  each_left : (i : ℕ) → i < length (remove es at) → IsLive prog image end keys (map.remove m (key_at keys es at)) (entry_at (remove es at) i)
  each_left i lt =
      let long = length-remove es at inside in
      ⊎_elim
      (λ less. moved_live i (omega (arith, less, inside)) (inl less) (entry_at (remove es at) i) (get_or-remove_below es at no_entry i less inside))
      (λ more. moved_live (i + 1) (omega (arith, lt, long)) (inr (omega (arith, more))) (entry_at (remove es at) i) (get_or-remove_above es at no_entry i more inside))
      (cases_lt i at)

  key_before : (i : ℕ) → i < at → key_at keys (remove es at) i ≡ key_at keys es i
  key_before i less = ap (λ (e : Entry). unwrap_or (map.get keys e.offset) []) (get_or-remove_below es at no_entry i less inside)

  key_behind : (i : ℕ) → at ≤ i → key_at keys (remove es at) i ≡ key_at keys es (i + 1)
  key_behind i more = ap (λ (e : Entry). unwrap_or (map.get keys e.offset) []) (get_or-remove_above es at no_entry i more inside)

  finds_left : (key : List ℕ) → key ≢ key_at keys es at → FindsKey keys es key → FindsKey keys (remove es at) key
  finds_left key other found =
      let long = length-remove es at inside in
      ⊎_elim
      (λ less. record { at = found.at; inside = omega (arith, less, inside, long); is = key_before found.at less ∙ found.is })
      (λ more. ⊎_elim
      (λ here. absurd (other (sym found.is ∙ ap (key_at keys es) (omega (arith, here, more)))))
      (λ behind. let back : found.at - 1 + 1 ≡ found.at = omega (arith, behind) in
      record { at = found.at - 1; inside = omega (arith, behind, found.inside, long); is = key_behind (found.at - 1) (omega (arith, behind)) ∙ ap (key_at keys es) back ∙ found.is })
      (cases_lt found.at (at + 1)))
      (cases_lt found.at at)

  pub without_entry : AreLiveEntries prog bits image end keys (map.remove m (key_at keys es at)) (remove es at)
  without_entry = record {
    index = index_remove bits keys es at live.index inside;
    each = each_left;
    all = λ key some.
        let other : key ≢ key_at keys es at = λ same. some (ap (map.get (map.remove m (key_at keys es at))) same ∙ get-applied_removed m (removal (key_at keys es at)) refl) in
        finds_left key other (live.all key (λ none. some (get-applied_other m (removal (key_at keys es at)) key other ∙ none)));
  }

-- ---- none

abbrev no_values : FlaggedMap
no_values = map.empty

pub no_entries : (prog bits : ℕ) (image : List ℕ) (end : ℕ) (keys : KeyMap) → AreLiveEntries prog bits image end keys map.empty []
no_entries prog bits image end keys = record {
  index = record {
    has = λ i lt. absurd (omega (arith, lt));
    hash = λ i lt. absurd (omega (arith, lt));
    ascend = λ i j less lt. absurd (omega (arith, lt));
  };
  each = λ i lt. absurd (omega (arith, lt));
  all = λ key some. absurd (some (map.get-empty (slice_cmp nat_cmp) key));
}
