-- Lists that begin one list.
use Rattle.std.proofs.Common.{◌≡◌, ◌≤◌, ◌<◌, ltb, Bool, true, false, cond, List, [], ◌++◌, length, take, drop, take-append-drop, refl, sym, ap, subst, ◌∙◌, arith, append-nil, append_assoc, length-append}
use Rattle.std.proofs.lemmas.List.{nil_from_length, take-append-le}
use Rattle.std.proofs.lemmas.Bool.{ltb-true, ltb-false}
use Rattle.std.proofs.Math.Seq.{take-append_seam}
use mathlib.Core.List.{IsPrefix}
use Rattle.kv_model.specs.declared.call.Entry.{Entry}

abbrev Log : Type 0
Log = List Entry

pub whole_begins : (xs : Log) → IsPrefix xs xs
whole_begins xs = ([], append-nil xs)

pub nothing_begins : (xs : Log) → IsPrefix [] xs
nothing_begins xs = (xs, refl)

pub begins_longer : (xs ys zs : Log) → IsPrefix xs ys → IsPrefix xs (ys ++ zs)
begins_longer xs ys zs p = (p.0 ++ zs, sym (append_assoc xs p.0 zs) ∙ ap (λ (l : Log). l ++ zs) p.1)

pub begins_within : (xs ys zs : Log) → IsPrefix xs ys → IsPrefix ys zs → IsPrefix xs zs
begins_within xs ys zs p q = subst (IsPrefix xs) q.1 (begins_longer xs ys q.0 p)

pub begins_length : (xs ys : Log) → IsPrefix xs ys → length xs ≤ length ys
begins_length xs ys p = omega (arith, sym (length-append xs p.0), ap length p.1)

-- what is as long as the whole is the whole
pub all_of_it : (xs ys : Log) → IsPrefix xs ys → length ys ≤ length xs → xs ≡ ys
all_of_it xs ys p le =
    let none : length p.0 ≡ 0 = omega (arith, sym (length-append xs p.0), ap length p.1) in
    sym (append-nil xs) ∙ (ap (λ (l : Log). xs ++ l) (sym (nil_from_length p.0 none)) ∙ p.1)

starts : (xs zs : Log) → IsPrefix xs zs → take (length xs) zs ≡ xs
starts xs zs p = ap (take (length xs)) (sym p.1) ∙ take-append_seam xs p.0

-- of two lists that begin one list the shorter begins the other
pub shorter_begins : (xs ys zs : Log) → IsPrefix xs zs → IsPrefix ys zs → length xs ≤ length ys → IsPrefix xs ys
shorter_begins xs ys zs p q le =
    let short : take (length xs) ys ≡ xs = sym (take-append-le (length xs) ys q.0 le) ∙ (ap (take (length xs)) q.1 ∙ starts xs zs p) in
    subst (λ (l : Log). IsPrefix l ys) short (drop (length xs) ys, take-append-drop (length xs) ys)

-- by cases on which is longer
pub longer_is : (P : Log → Type 0) (xs ys : Log) → (length xs < length ys → P ys) → (length ys ≤ length xs → P xs) → (b : Bool) → ltb (length xs) (length ys) ≡ b → P (cond b ys xs)
longer_is P xs ys less more true is = less (ltb-true (length xs) (length ys) is)
longer_is P xs ys less more false is = more (ltb-false (length xs) (length ys) is)
