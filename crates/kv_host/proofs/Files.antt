-- The files of a table, as its arena grows and an entry comes or changes.
use Rattle.std.proofs.Common.{◌≡◌, ◌≢◌, ℕ, ◌<◌, ◌≤◌, ◌+◌, ◌-◌, cond, List, [], ◌∷◌, ◌++◌, length, get_or, take, drop, refl, sym, ap, subst, ◌∙◌, arith, map, append_assoc, length-append, length-drop}
use Rattle.std.proofs.Math.ListN.{set, length-set}
use Rattle.std.proofs.lemmas.List.{take-append-le, drop-append-le, map-append}
use Rattle.std.proofs.Math.Seq.{drop-append_seam, take-length}
use Rattle.std.specs.Prelude.{Some, None, is_some}
use Rattle.std.specs.Ordering.{nat_cmp}
use Rattle.std.specs.Cmp.Lexicographic.{slice_cmp, nat_list_cmp_total}
use Rattle.std.specs.List.{All}
use Rattle.std.specs.FinMap.{empty, len-empty, IsAntisymmetric, nat_cmp-IsAntisymmetric, slice_cmp-IsAntisymmetric, from_entries, from_entries_push, insert, get, len, get-from_entries, len-insert}
use Rattle.std.proofs.lemmas.List.Elements.{All-nil, All-head, All-tail, All-take, All-weaker, All-set, All-push}
use Rattle.kv_host.specs.declared.table.Span.{Span}
use Rattle.kv_host.specs.declared.table.Entry.{Entry}
use Rattle.kv_host.specs.Contents.{Files}
use Rattle.kv_host.specs.Table.{part, name_in, bytes_in, files_of, IsSpan, IsTable}
use Rattle.kv_host.proofs.Find.{find_none, find_at, from_entries-set}

exact : IsAntisymmetric (slice_cmp nat_cmp)
exact = slice_cmp-IsAntisymmetric nat_cmp-IsAntisymmetric

abbrev pub AreInside : ℕ → List Entry → Type 0
AreInside size entries = All (λ e. IsSpan size e.name × IsSpan size e.bytes) entries

-- what lies in the arena lies there as it grows
pub part-append : (arena more : List ℕ) (s : Span) → IsSpan (length arena) s → part (arena ++ more) s ≡ part arena s
part-append arena more s h =
    let fits : s.end - s.start ≤ length (drop s.start arena) = omega (arith, length-drop s.start arena, h.0, h.1) in
    ap (take (s.end - s.start)) (drop-append-le s.start arena more (omega (arith, h.0, h.1)))
    ∙ take-append-le (s.end - s.start) (drop s.start arena) more fits

-- what was put at its end is the part there
pub part-pushed : (arena bytes : List ℕ) (s : Span) → s.start ≡ length arena → s.end ≡ length arena + length bytes → part (arena ++ bytes) s ≡ bytes
part-pushed arena bytes s from to =
    ap (λ n. take (s.end - n) (drop n (arena ++ bytes))) from
    ∙ ap (λ n. take n (drop (length arena) (arena ++ bytes))) (omega arith)
    ∙ ap (take (length bytes)) (drop-append_seam arena bytes) ∙ take-length bytes

abbrev entry_of : List ℕ → Entry → List ℕ × List ℕ
entry_of arena e = (name_in arena e, bytes_in arena e)

entries-append : (arena more : List ℕ) (es : List Entry) → AreInside (length arena) es → map (entry_of (arena ++ more)) es ≡ map (entry_of arena) es
entries-append arena more [] h = refl
entries-append arena more (e ∷ es) h =
    let here = All-head (λ x. IsSpan (length arena) x.name × IsSpan (length arena) x.bytes) e es h in
    λ i. (part-append arena more e.name here.0 i, part-append arena more e.bytes here.1 i) ∷ entries-append arena more es (All-tail (λ x. IsSpan (length arena) x.name × IsSpan (length arena) x.bytes) e es h) i

-- the files stand as the arena grows
pub files_of-append : (arena more : List ℕ) (es : List Entry) → AreInside (length arena) es → files_of (arena ++ more) es ≡ files_of arena es
files_of-append arena more es h = ap (from_entries {R = slice_cmp nat_cmp}) (entries-append arena more es h)

pub inside-append : (arena more : List ℕ) (es : List Entry) → AreInside (length arena) es → AreInside (length (arena ++ more)) es
inside-append arena more es h =
    All-weaker (λ x. IsSpan (length arena) x.name × IsSpan (length arena) x.bytes) (λ x. IsSpan (length (arena ++ more)) x.name × IsSpan (length (arena ++ more)) x.bytes)
    (λ x p. ((p.0.0, omega (arith, length-append arena more, p.0.1)), (p.1.0, omega (arith, length-append arena more, p.1.1)))) es h

-- no entry has the name
pub get-none : (arena name : List ℕ) (es : List Entry) → All (λ e. name_in arena e ≢ name) es → get (files_of arena es) name ≡ None
get-none arena name es h =
    get-from_entries nat_list_cmp_total (map (entry_of arena) es) name ∙ find_none nat_list_cmp_total exact (name_in arena) (bytes_in arena) name es h

-- the first entry with the name is at i
pub get-at : (arena name : List ℕ) (es : List Entry) (i : ℕ) (d : Entry) → i < length es → All (λ e. name_in arena e ≢ name) (take i es) → name_in arena (get_or es i d) ≡ name → get (files_of arena es) name ≡ Some (bytes_in arena (get_or es i d))
get-at arena name es i d lt before here =
    get-from_entries nat_list_cmp_total (map (entry_of arena) es) name ∙ find_at nat_list_cmp_total exact (name_in arena) (bytes_in arena) name es i d lt before here

-- an entry with a new name came
pub files_of-push : (arena more name bytes : List ℕ) (es : List Entry) (e : Entry) → AreInside (length arena) es → All (λ x. name_in arena x ≢ name) es → part (arena ++ more) e.name ≡ name → part (arena ++ more) e.bytes ≡ bytes → files_of (arena ++ more) (es ++ e ∷ []) ≡ insert (files_of arena es) name bytes
files_of-push arena more name bytes es e inside none named filled =
    ap (from_entries {R = slice_cmp nat_cmp}) (map-append (entry_of (arena ++ more)) es (e ∷ []) ∙ (λ i. entries-append arena more es inside i ++ (named i, filled i) ∷ []))
    ∙ from_entries_push nat_list_cmp_total exact (map (entry_of arena) es) name bytes (find_none nat_list_cmp_total exact (name_in arena) (bytes_in arena) name es none)

-- the entry of a name changed
pub files_of-set : (arena more name bytes : List ℕ) (es : List Entry) (i : ℕ) (d e : Entry) → AreInside (length arena) es → i < length es → All (λ x. name_in arena x ≢ name) (take i es) → name_in arena (get_or es i d) ≡ name → part (arena ++ more) e.name ≡ name → part (arena ++ more) e.bytes ≡ bytes → files_of (arena ++ more) (set es i e) ≡ insert (files_of arena es) name bytes
files_of-set arena more name bytes es i d e inside lt before here named filled =
    let P : Entry → Type 0 = λ x. IsSpan (length arena) x.name × IsSpan (length arena) x.bytes in
    let first : All (λ x. name_in (arena ++ more) x ≢ name_in (arena ++ more) e) (take i es) =
    λ k x below same. before k x below (sym (part-append arena more (get_or (take i es) k x).name (All-take P i es inside k x below).0) ∙ same ∙ named) in
    let at : name_in (arena ++ more) (get_or es i d) ≡ name_in (arena ++ more) e =
    part-append arena more (get_or es i d).name (inside i d lt).0 ∙ here ∙ sym named in
    from_entries-set nat_list_cmp_total exact (name_in (arena ++ more)) (bytes_in (arena ++ more)) es i d e lt first at
    ∙ (λ j. insert (files_of-append arena more es inside j) (named j) (filled j))

-- how many names there are behind an insertion
len-new : (m : Files) (name bytes : List ℕ) → get m name ≡ None → len (insert m name bytes) ≡ len m + 1
len-new m name bytes none = len-insert nat_list_cmp_total m name bytes ∙ ap (λ o. cond (is_some o) (len m) (len m + 1)) none

len-old : (m : Files) (name bytes before : List ℕ) → get m name ≡ Some before → len (insert m name bytes) ≡ len m
len-old m name bytes before some = len-insert nat_list_cmp_total m name bytes ∙ ap (λ o. cond (is_some o) (len m) (len m + 1)) some

-- it stays a table
pub IsTable-push : (arena more name bytes : List ℕ) (es : List Entry) (e : Entry) → IsTable arena es → length es < 8 → All (λ x. name_in arena x ≢ name) es → IsSpan (length (arena ++ more)) e.name → IsSpan (length (arena ++ more)) e.bytes → part (arena ++ more) e.name ≡ name → part (arena ++ more) e.bytes ≡ bytes → IsTable (arena ++ more) (es ++ e ∷ [])
IsTable-push arena more name bytes es e table few none name_inside bytes_inside named filled = record {
  inside = All-push (λ x. IsSpan (length (arena ++ more)) x.name × IsSpan (length (arena ++ more)) x.bytes) es e (inside-append arena more es table.inside) (name_inside, bytes_inside);
  distinct = ap len (files_of-push arena more name bytes es e table.inside none named filled) ∙ len-new (files_of arena es) name bytes (get-none arena name es none) ∙ ap (λ n. n + 1) table.distinct ∙ sym (length-append es (e ∷ []));
  few = omega (arith, length-append es (e ∷ []));
}

pub IsTable-set : (arena more name bytes : List ℕ) (es : List Entry) (i : ℕ) (d e : Entry) → IsTable arena es → i < length es → All (λ x. name_in arena x ≢ name) (take i es) → name_in arena (get_or es i d) ≡ name → IsSpan (length (arena ++ more)) e.name → IsSpan (length (arena ++ more)) e.bytes → part (arena ++ more) e.name ≡ name → part (arena ++ more) e.bytes ≡ bytes → IsTable (arena ++ more) (set es i e)
IsTable-set arena more name bytes es i d e table lt before here name_inside bytes_inside named filled = record {
  inside = All-set (λ x. IsSpan (length (arena ++ more)) x.name × IsSpan (length (arena ++ more)) x.bytes) es i e (name_inside, bytes_inside) (inside-append arena more es table.inside);
  distinct = ap len (files_of-set arena more name bytes es i d e table.inside lt before here named filled) ∙ len-old (files_of arena es) name bytes (bytes_in arena (get_or es i d)) (get-at arena name es i d lt before here) ∙ table.distinct ∙ sym (length-set es i e);
  few = omega (arith, length-set es i e, table.few);
}

-- what a table owes behind a store of bytes under a name
abbrev pub Stores : List ℕ → List Entry → List ℕ → List ℕ → List ℕ → List Entry → Type 0
Stores arena es name bytes arena' es' = (files_of arena' es' ≡ insert (files_of arena es) name bytes) × IsTable arena' es'

added_once : (arena name bytes : List ℕ) (es : List Entry) (e : Entry) → IsTable arena es → length es < 8 → All (λ x. name_in arena x ≢ name) es → e.name.start ≡ length arena → e.name.end ≡ length arena + length name → e.bytes.start ≡ length (arena ++ name) → e.bytes.end ≡ length (arena ++ name) + length bytes → Stores arena es name bytes (arena ++ (name ++ bytes)) (es ++ e ∷ [])
added_once arena name bytes es e table few none name_from name_to from to =
    let whole : length (arena ++ (name ++ bytes)) ≡ length arena + (length name + length bytes) = length-append arena (name ++ bytes) ∙ ap (λ n. length arena + n) (length-append name bytes) in
    let first : length (arena ++ name) ≡ length arena + length name = length-append arena name in
    let named : part (arena ++ (name ++ bytes)) e.name ≡ name =
    ap (λ a. part a e.name) (sym (append_assoc arena name bytes))
    ∙ part-append (arena ++ name) bytes e.name (omega arith, omega arith)
    ∙ part-pushed arena name e.name name_from name_to in
    let filled : part (arena ++ (name ++ bytes)) e.bytes ≡ bytes =
    ap (λ a. part a e.bytes) (sym (append_assoc arena name bytes)) ∙ part-pushed (arena ++ name) bytes e.bytes from to in (
      files_of-push arena (name ++ bytes) name bytes es e table.inside none named filled,
      IsTable-push arena (name ++ bytes) name bytes es e table few none (omega arith, omega arith) (omega arith, omega arith) named filled,
    )

-- a new name and its bytes were put at the arena's end, and an entry for them
pub added : (arena arena₁ arena₂ name bytes : List ℕ) (es es' : List Entry) (e : Entry) → arena₁ ≡ arena ++ name → arena₂ ≡ arena₁ ++ bytes → es' ≡ es ++ e ∷ [] → IsTable arena es → length es < 8 → All (λ x. name_in arena x ≢ name) es → e.name.start ≡ length arena → e.name.end ≡ length arena + length name → e.bytes.start ≡ length arena₁ → e.bytes.end ≡ length arena₁ + length bytes → Stores arena es name bytes arena₂ es'
added arena arena₁ arena₂ name bytes es es' e p q r table few none name_from name_to from to =
    let s : arena₂ ≡ arena ++ (name ++ bytes) = q ∙ ap (λ a. a ++ bytes) p ∙ append_assoc arena name bytes in
    let there = added_once arena name bytes es e table few none name_from name_to (from ∙ ap length p) (to ∙ ap (λ a. length a + length bytes) p) in
    subst (λ a. Stores arena es name bytes a es') (sym s) (subst (λ x. Stores arena es name bytes (arena ++ (name ++ bytes)) x) (sym r) there)

-- new bytes of a name that is there were put at the arena's end, and its entry changed
pub replaced : (arena arena' name bytes : List ℕ) (es : List Entry) (i : ℕ) (d e : Entry) → arena' ≡ arena ++ bytes → IsTable arena es → i < length es → All (λ x. name_in arena x ≢ name) (take i es) → name_in arena (get_or es i d) ≡ name → e.name ≡ (get_or es i d).name → e.bytes.start ≡ length arena → e.bytes.end ≡ length arena + length bytes → Stores arena es name bytes arena' (set es i e)
replaced arena arena' name bytes es i d e p table lt before here same from to =
    let whole : length (arena ++ bytes) ≡ length arena + length bytes = length-append arena bytes in
    let old : IsSpan (length arena) e.name = subst (IsSpan (length arena)) (sym same) (table.inside i d lt).0 in
    let named : part (arena ++ bytes) e.name ≡ name = part-append arena bytes e.name old ∙ ap (part arena) same ∙ here in
    let filled : part (arena ++ bytes) e.bytes ≡ bytes = part-pushed arena bytes e.bytes from to in
    subst (λ a. Stores arena es name bytes a (set es i e)) (sym p) (
      files_of-set arena bytes name bytes es i d e table.inside lt before here named filled,
      IsTable-set arena bytes name bytes es i d e table lt before here (old.0, omega (arith, old.1)) (omega arith, omega arith) named filled,
    )

-- nothing is a table
pub IsTable-nil : (arena : List ℕ) (es : List Entry) → arena ≡ [] → es ≡ [] → IsTable arena es
IsTable-nil arena es p q =
    let nothing : IsTable [] [] = record {
      inside = All-nil (λ e. IsSpan 0 e.name × IsSpan 0 e.bytes);
      distinct = len-empty (slice_cmp nat_cmp) (List ℕ);
      few = omega arith;
    } in
    subst (λ a. IsTable a es) (sym p) (subst (IsTable []) (sym q) nothing)

-- and has no files
pub files_of-nil : (arena : List ℕ) (es : List Entry) → es ≡ [] → files_of arena es ≡ empty
files_of-nil arena es q = ap (files_of arena) q
