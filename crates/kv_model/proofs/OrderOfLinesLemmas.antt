-- How the entries of a history stand to the lines of a script.
use Rattle.std.proofs.Common.{◌≡◌, ℕ, suc, Bool, true, false, cond, ◌==◌, List, [], ◌∷◌, ◌++◌, map, filter, drop, length, refl, sym, ◌∙◌, ap, subst, true≢false}
use Rattle.std.specs.Prelude.{if◌then◌else◌}
use Rattle.std.proofs.lemmas.Bool.Decides.{Decides-eqb}
use Rattle.std.proofs.lemmas.List.{map-append, length-map}
use Rattle.std.proofs.lemmas.List.Elements.{filter-append}
use Rattle.kv_model.specs.declared.call.Call.{Call}
use Rattle.kv_model.specs.declared.call.Entry.{Entry}
use Rattle.kv_model.specs.Orders.{Line, line_of, lines_of, calls_by, InOrder, Interleaves}

pub InOrder-Interleaves : (entries : List Entry) (lines : List Line) → InOrder entries lines → Interleaves entries lines
InOrder-Interleaves entries lines is who = ap (calls_by who) is

pub InOrder-push : (entries : List Entry) (lines : List Line) (entry : Entry) → InOrder entries lines → InOrder (entries ++ entry ∷ []) (lines ++ line_of entry ∷ [])
InOrder-push entries lines entry is = map-append line_of entries (entry ∷ []) ∙ ap (λ (l : List Line). l ++ line_of entry ∷ []) is

pub calls_by-append : (who : ℕ) (xs ys : List Line) → calls_by who (xs ++ ys) ≡ calls_by who xs ++ calls_by who ys
calls_by-append who xs ys =
    ap (map (λ (line : Line). line.1)) (filter-append (λ (line : Line). line.0 == who) xs ys)
    ∙ map-append (λ (line : Line). line.1) (filter (λ (line : Line). line.0 == who) xs) (filter (λ (line : Line). line.0 == who) ys)

pub Interleaves-push : (entries : List Entry) (lines : List Line) (entry : Entry) → Interleaves entries lines → Interleaves (entries ++ entry ∷ []) (lines ++ line_of entry ∷ [])
Interleaves-push entries lines entry is who =
    ap (calls_by who) (map-append line_of entries (entry ∷ []))
    ∙ calls_by-append who (lines_of entries) (line_of entry ∷ [])
    ∙ ap (λ (calls : List Call). calls ++ calls_by who (line_of entry ∷ [])) (is who)
    ∙ sym (calls_by-append who lines (line_of entry ∷ []))

-- ---- the calls of each client make up all lines

taken_out : (t : Bool) (l : Line) (ls : List Line) → map (λ (line : Line). line.1) (cond t (l ∷ ls) ls) ≡ cond t (l.1 ∷ map (λ (line : Line). line.1) ls) (map (λ (line : Line). line.1) ls)
taken_out true l ls = refl
taken_out false l ls = refl

calls_by-cons : (who : ℕ) (l : Line) (ls : List Line) (t : Bool) → (l.0 == who) ≡ t → calls_by who (l ∷ ls) ≡ cond t (l.1 ∷ calls_by who ls) (calls_by who ls)
calls_by-cons who l ls t is =
    ap (λ (b : Bool). map (λ (line : Line). line.1) (cond b (l ∷ filter (λ (line : Line). line.0 == who) ls) (filter (λ (line : Line). line.0 == who) ls))) is
    ∙ taken_out t l (filter (λ (line : Line). line.0 == who) ls)

-- without the first line of a client
abbrev without : ℕ → List Line → List Line
without who [] = []
without who (l ∷ ls) = if l.0 == who then ls else l ∷ without who ls

abbrev without_or : Bool → ℕ → Line → List Line → List Line
without_or t who l ls = if t then ls else l ∷ without who ls

own_calls_at : (who : ℕ) (l : Line) (ls : List Line) (t : Bool) → (l.0 == who) ≡ t → calls_by who (without who ls) ≡ drop 1 (calls_by who ls) → calls_by who (without who (l ∷ ls)) ≡ drop 1 (calls_by who (l ∷ ls))
own_calls_at who l ls true is rest =
    ap (λ (b : Bool). calls_by who (without_or b who l ls)) is ∙ sym (ap (drop 1) (calls_by-cons who l ls true is))
own_calls_at who l ls false is rest =
    ap (λ (b : Bool). calls_by who (without_or b who l ls)) is ∙ calls_by-cons who l (without who ls) false is ∙ rest ∙ sym (ap (drop 1) (calls_by-cons who l ls false is))

own_calls : (who : ℕ) (ls : List Line) → calls_by who (without who ls) ≡ drop 1 (calls_by who ls)
own_calls who [] = refl
own_calls who (l ∷ ls) = own_calls_at who l ls (l.0 == who) refl (own_calls who ls)

not_both : (a b c : ℕ) → (a == b) ≡ true → (c == b) ≡ false → (a == c) ≡ false
not_both a b c is isnt = subst (λ (x : ℕ). (x == c) ≡ false) (sym ((Decides-eqb a b).0 is)) (turned (b == c) refl)
  where
    turned : (t : Bool) → (b == c) ≡ t → (b == c) ≡ false
    turned true e = absurd (true≢false (sym ((Decides-eqb c b).1 (sym ((Decides-eqb b c).0 e))) ∙ isnt))
    turned false e = e

other_calls_at : (who other : ℕ) (l : Line) (ls : List Line) (t : Bool) → (other == who) ≡ false → (l.0 == who) ≡ t → calls_by other (without who ls) ≡ calls_by other ls
    → calls_by other (without who (l ∷ ls)) ≡ calls_by other (l ∷ ls)
other_calls_at who other l ls true apart is rest =
    ap (λ (b : Bool). calls_by other (without_or b who l ls)) is ∙ sym (calls_by-cons other l ls false (not_both l.0 who other is apart))
other_calls_at who other l ls false apart is rest =
    ap (λ (b : Bool). calls_by other (without_or b who l ls)) is
    ∙ calls_by-cons other l (without who ls) (l.0 == other) refl
    ∙ ap (λ (calls : List Call). cond (l.0 == other) (l.1 ∷ calls) calls) rest
    ∙ sym (calls_by-cons other l ls (l.0 == other) refl)

other_calls : (who other : ℕ) (ls : List Line) → (other == who) ≡ false → calls_by other (without who ls) ≡ calls_by other ls
other_calls who other [] apart = refl
other_calls who other (l ∷ ls) apart = other_calls_at who other l ls (l.0 == who) apart refl (other_calls who other ls apart)

no_call : (call : Call) (calls : List Call) → [] ≡ call ∷ calls → ⊥
no_call call calls is = cc is

one_fewer_at : (who : ℕ) (l : Line) (ls : List Line) (call : Call) (calls : List Call) (t : Bool) → (l.0 == who) ≡ t → calls_by who (l ∷ ls) ≡ call ∷ calls
    → (calls_by who ls ≡ call ∷ calls → length ls ≡ suc (length (without who ls))) → length (l ∷ ls) ≡ suc (length (without who (l ∷ ls)))
one_fewer_at who l ls call calls true is has rest = sym (ap (λ (b : Bool). suc (length (without_or b who l ls))) is)
one_fewer_at who l ls call calls false is has rest =
    ap suc (rest (sym (calls_by-cons who l ls false is) ∙ has)) ∙ sym (ap (λ (b : Bool). suc (length (without_or b who l ls))) is)

one_fewer : (who : ℕ) (ls : List Line) (call : Call) (calls : List Call) → calls_by who ls ≡ call ∷ calls → length ls ≡ suc (length (without who ls))
one_fewer who [] call calls has = absurd (no_call call calls has)
one_fewer who (l ∷ ls) call calls has = one_fewer_at who l ls call calls (l.0 == who) refl has (one_fewer who ls call calls)

itself : (n : ℕ) → (n == n) ≡ true
itself n = (Decides-eqb n n).1 refl

abbrev Same : List Line → List Line → Type 0
Same xs ys = (who : ℕ) → calls_by who xs ≡ calls_by who ys

rest_same : (x : Line) (xs ys : List Line) → Same (x ∷ xs) ys → (who : ℕ) (t : Bool) → (who == x.0) ≡ t → calls_by who xs ≡ calls_by who (without x.0 ys)
rest_same x xs ys same who true is =
    subst (λ (k : ℕ). calls_by k xs ≡ calls_by k (without x.0 ys)) (sym ((Decides-eqb who x.0).0 is))
    (ap (drop 1) (sym (calls_by-cons x.0 x xs true (itself x.0)) ∙ same x.0) ∙ sym (own_calls x.0 ys))
rest_same x xs ys same who false is =
    sym (calls_by-cons who x xs false (not_both x.0 x.0 who (itself x.0) is)) ∙ same who ∙ sym (other_calls x.0 who ys is)

same_length : (xs ys : List Line) → Same xs ys → length xs ≡ length ys
same_length [] [] same = refl
same_length [] (y ∷ ys) same = absurd (no_call y.1 (calls_by y.0 ys) (same y.0 ∙ calls_by-cons y.0 y ys true (itself y.0)))
same_length (x ∷ xs) ys same =
    ap suc (same_length xs (without x.0 ys) (λ who. rest_same x xs ys same who (who == x.0) refl))
    ∙ sym (one_fewer x.0 ys x.1 (calls_by x.0 xs) (sym (same x.0) ∙ calls_by-cons x.0 x xs true (itself x.0)))

pub Interleaves-length : (entries : List Entry) (lines : List Line) → Interleaves entries lines → length entries ≡ length lines
Interleaves-length entries lines is = sym (length-map entries line_of) ∙ same_length (lines_of entries) lines is

-- ---- lines of two clients change places

swapped : (who : ℕ) (a b : Line) (ls : List Line) (s t : Bool) → (a.0 == who) ≡ s → (b.0 == who) ≡ t → (a.0 == b.0) ≡ false → calls_by who (a ∷ b ∷ ls) ≡ calls_by who (b ∷ a ∷ ls)
swapped who a b ls true true first second apart =
    absurd (true≢false (sym ((Decides-eqb a.0 b.0).1 ((Decides-eqb a.0 who).0 first ∙ sym ((Decides-eqb b.0 who).0 second))) ∙ apart))
swapped who a b ls true false first second apart =
    calls_by-cons who a (b ∷ ls) true first ∙ ap (λ (calls : List Call). a.1 ∷ calls) (calls_by-cons who b ls false second)
    ∙ sym (calls_by-cons who b (a ∷ ls) false second ∙ calls_by-cons who a ls true first)
swapped who a b ls false t first second apart =
    calls_by-cons who a (b ∷ ls) false first ∙ calls_by-cons who b ls t second
    ∙ sym (calls_by-cons who b (a ∷ ls) t second ∙ ap (λ (calls : List Call). cond t (b.1 ∷ calls) calls) (calls_by-cons who a ls false first))

pub Interleaves-swap : (entries : List Entry) (earlier : List Line) (a b : Line) (later : List Line) → (a.0 == b.0) ≡ false → Interleaves entries (earlier ++ (a ∷ b ∷ later)) → Interleaves entries (earlier ++ (b ∷ a ∷ later))
Interleaves-swap entries earlier a b later apart is who =
    is who
    ∙ calls_by-append who earlier (a ∷ b ∷ later)
    ∙ ap (λ (calls : List Call). calls_by who earlier ++ calls) (swapped who a b later (a.0 == who) (b.0 == who) refl refl apart)
    ∙ sym (calls_by-append who earlier (b ∷ a ∷ later))
