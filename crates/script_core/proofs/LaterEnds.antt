-- The last line that ends a client's incremental set tells whether a later line does.
use Rattle.std.proofs.Common.{◌≡◌, ℕ, ◌+◌, ◌<◌, ◌≤◌, max, ltb, Bool, true, false, cond, List, [], ◌∷◌, length, get_or, set, eqb, ◌≢◌, Option, Some, None, get_or-set_same, get_or-set_other, refl, sym, ap, ◌∙◌, arith}
use Rattle.std.specs.Prelude.{◌||◌, MatchBool}
use Rattle.std.specs.List.{list_any}
use Rattle.std.proofs.lemmas.Bool.{lt-ltb, le-ltb, eqb-true}
use Rattle.std.specs.Option.{option_map_or}
use Rattle.script_core.specs.declared.script.ScriptMode.{ScriptMode}
use Rattle.script_core.specs.Reading.{ended_by, ends_set, last_end, TellsEnds}

-- on threads, the numbers of last ends, behind the line of this number
abbrev pub KnowsEnds : ScriptMode → List ℕ → ℕ → List (List ℕ) → Type 0
KnowsEnds mode ends number left = mode.threads ≡ true → (who : ℕ) → who ≤ 16 → max number (last_end who (number + 1) left) ≡ max number (get_or ends who 0)

-- a last end is among the lines, or there is none
cases_of : (b any : Bool) (first last : ℕ) → MatchBool any (first + 1 ≤ last) (last ≡ 0) → MatchBool (b || any) (first ≤ max (cond b first 0) last) (max (cond b first 0) last ≡ 0)
cases_of true any first last h = omega arith
cases_of false true first last h = omega arith
cases_of false false first last h = omega arith

last_end-cases : (who first : ℕ) (texts : List (List ℕ)) → MatchBool (list_any (ends_set who) texts) (first ≤ last_end who first texts) (last_end who first texts ≡ 0)
unfolding last_end
last_end-cases who first [] = refl
last_end-cases who first (text ∷ texts) = cases_of (ends_set who text) (list_any (ends_set who) texts) first (last_end who (first + 1) texts) (last_end-cases who (first + 1) texts)

next_of : (b : Bool) (number last end : ℕ) → max number (max (cond b (number + 1) 0) last) ≡ max number end → max (number + 1) last ≡ max (number + 1) end
next_of true number last end h = omega arith
next_of false number last end h = omega arith

pub KnowsEnds-next : (mode : ScriptMode) (ends : List ℕ) (number : ℕ) (text : List ℕ) (left later : List (List ℕ)) → left ≡ text ∷ later → KnowsEnds mode ends number left → KnowsEnds mode ends (number + 1) later
unfolding last_end
KnowsEnds-next mode ends number text left later next h threads who low =
    let here : max number (last_end who (number + 1) (text ∷ later)) ≡ max number (get_or ends who 0) = ap (λ (t : List (List ℕ)). max number (last_end who (number + 1) t)) (sym next) ∙ h threads who low in
    next_of (ends_set who text) number (last_end who (number + 1 + 1) later) (get_or ends who 0) here

told_of : (any : Bool) (number last end : ℕ) → MatchBool any (number + 1 ≤ last) (last ≡ 0) → max number last ≡ max number end → ltb number end ≡ any
told_of true number last end h e = lt-ltb _ _ (omega arith)
told_of false number last end h e = le-ltb _ _ (omega arith)

pub TellsEnds-known : (mode : ScriptMode) (ends : List ℕ) (number : ℕ) (later : List (List ℕ)) → KnowsEnds mode ends number later → TellsEnds mode ends number later
TellsEnds-known mode ends number later h threads who low =
    told_of (list_any (ends_set who) later) number (last_end who (number + 1) later) (get_or ends who 0) (last_end-cases who (number + 1) later) (h threads who low)

-- before the first line
pub KnowsEnds-all : (mode : ScriptMode) (ends : List ℕ) (texts : List (List ℕ)) → (mode.threads ≡ true → (who : ℕ) → who ≤ 16 → get_or ends who 0 ≡ last_end who 1 texts) → KnowsEnds mode ends 0 texts
KnowsEnds-all mode ends texts h threads who low = ap (λ (n : ℕ). max 0 n) (sym (h threads who low))

-- ---- the walk that finds them

pub last_end-next : (who number : ℕ) (text : List ℕ) (left later : List (List ℕ)) → left ≡ text ∷ later → last_end who (number + 1) left ≡ max (cond (ends_set who text) (number + 1) 0) (last_end who (number + 1 + 1) later)
unfolding last_end
last_end-next who number text left later next = ap (last_end who (number + 1)) next

-- one client's last end, when one more line was looked at
ends_step : (b : Bool) (number before new last total : ℕ) → before ≤ number → new ≡ cond b (number + 1) before → max before (max (cond b (number + 1) 0) last) ≡ total → (new ≤ number + 1) × (max new last ≡ total)
ends_step true number before new last total low e h = (omega arith, omega arith)
ends_step false number before new last total low e h = (omega arith, omega arith)

pub ends_next : (b : Bool) (who number before new : ℕ) (text : List ℕ) (left later : List (List ℕ)) (total : ℕ) → ends_set who text ≡ b → left ≡ text ∷ later → before ≤ number → new ≡ cond b (number + 1) before
    → max before (last_end who (number + 1) left) ≡ total → (new ≤ number + 1) × (max new (last_end who (number + 1 + 1) later) ≡ total)
ends_next b who number before new text left later total ended next low e h =
    let here : last_end who (number + 1) left ≡ max (cond b (number + 1) 0) (last_end who (number + 1 + 1) later) = last_end-next who number text left later next ∙ ap (λ (x : Bool). max (cond x (number + 1) 0) (last_end who (number + 1 + 1) later)) ended in
    ends_step b number before new (last_end who (number + 1 + 1) later) total low e (ap (λ (x : ℕ). max before x) (sym here) ∙ h)

set_or_kept : (same : Bool) (last : List ℕ) (w who value : ℕ) → eqb w who ≡ same → w < length last → get_or (set last w value) who 0 ≡ cond same value (get_or last who 0)
set_or_kept true last w who value e low = let is : w ≡ who = eqb-true w who e in rw (← is) (get_or-set_same last w value 0 low)
set_or_kept false last w who value e low = let other : who ≢ w = grind arith in get_or-set_other last w who value 0 other

pub set_end : (last : List ℕ) (w who value : ℕ) → w < length last → get_or (set last w value) who 0 ≡ cond (eqb w who) value (get_or last who 0)
set_end last w who value low = set_or_kept (eqb w who) last w who value refl low

pub ends_set-is_some : (who w : ℕ) (text : List ℕ) → ended_by text ≡ Some w → ends_set who text ≡ eqb w who
ends_set-is_some who w text h = ap (λ (o : Option ℕ). option_map_or (λ ended. eqb ended who) o false) h

pub ends_set-is_none : (who : ℕ) (text : List ℕ) → ended_by text ≡ None → ends_set who text ≡ false
ends_set-is_none who text h = ap (λ (o : Option ℕ). option_map_or (λ ended. eqb ended who) o false) h

pub no_more : (who number last : ℕ) (left : List (List ℕ)) (total : ℕ) → left ≡ [] → max last (last_end who (number + 1) left) ≡ total → last ≡ total
unfolding last_end
no_more who number last left total none h =
    let zero_left : last_end who (number + 1) left ≡ 0 = ap (last_end who (number + 1)) none in
    omega (arith, zero_left, h)
