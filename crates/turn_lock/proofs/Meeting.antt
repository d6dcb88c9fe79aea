-- Passes that bring their lists together.
use Rattle.std.proofs.Common.{◌≡◌, ℕ, ◌+◌, ◌-◌, ◌≤◌, max, Bool, true, false, cond, ltb, List, length, refl, sym, ap, ◌∙◌, subst, arith, append-nil}
use Rattle.std.proofs.lemmas.Bool.{ltb-true, ltb-false}
use mathlib.Core.List.{IsPrefix}
use Rattle.kv_model.specs.declared.call.Entry.{Entry}
use Rattle.kv_model.specs.Opening.{Opening}
use Rattle.turn_lock.specs.Views.{newcomer, less_parts, with_seen, longer, shorter_of, joined}
use Rattle.turn_lock.specs.Passes.{BothBegin, HasHeard, HaveMetAs}
use Rattle.turn_lock.specs.declared.view.View.{View}
use Rattle.turn_lock.proofs.Prefixes.{whole_begins, all_of_it, longer_is}

abbrev Log : Type 0
Log = List Entry

pub longer-length : (xs ys : Log) → length (longer xs ys) ≡ max (length xs) (length ys)
longer-length xs ys = longer_is (λ l. length l ≡ max (length xs) (length ys)) xs ys (λ less. omega arith) (λ more. omega arith) (ltb (length xs) (length ys)) refl

no_longer-at : (xs ys : Log) (b : Bool) → ltb (length xs) (length ys) ≡ b → length (cond b xs ys) ≤ length (cond b ys xs)
no_longer-at xs ys true is = omega (arith, ltb-true (length xs) (length ys) is)
no_longer-at xs ys false is = ltb-false (length xs) (length ys) is

pub no_longer : (xs ys : Log) → length (shorter_of xs ys) ≤ length (longer xs ys)
no_longer xs ys = no_longer-at xs ys (ltb (length xs) (length ys)) refl

both_begin-at : (xs ys : Log) (b : Bool) → IsPrefix (cond b xs ys) (cond b ys xs) → BothBegin xs ys (cond b ys xs)
both_begin-at xs ys true p = (p, whole_begins ys)
both_begin-at xs ys false p = (whole_begins xs, p)

-- where the shorter begins the longer, both do
pub both_begin : (xs ys : Log) → IsPrefix (shorter_of xs ys) (longer xs ys) → BothBegin xs ys (longer xs ys)
both_begin xs ys p = both_begin-at xs ys (ltb (length xs) (length ys)) p

-- a pass that owns nothing brings what it has seen
pub joined-newcomer : (v : View) (who : ℕ) (opening : Opening) (seen : Log) → joined v (newcomer who opening seen 0) ≡ with_seen (longer v.seen seen) v
joined-newcomer v who opening seen =
    let own = append-nil v.own in
    let marks = append-nil v.marks in
    let parts : v.parts + 0 ≡ v.parts = omega arith in
    λ i. record (with_seen (longer v.seen seen) v) { own = own i; marks = marks i; parts = parts i }

pub no_parts : (v : View) → less_parts 0 v ≡ v
no_parts v = let parts : v.parts - 0 ≡ v.parts = omega arith in λ i. record v { parts = parts i }

-- which of two lists is tried first makes no difference where both begin the longer
pub longer-swap : (xs ys : Log) → BothBegin ys xs (longer ys xs) → longer ys xs ≡ longer xs ys
longer-swap xs ys begin =
    longer_is (λ l. l ≡ longer xs ys) ys xs
    (λ less. longer_is (λ m. xs ≡ m) xs ys (λ more. absurd (omega arith)) (λ _. refl) (ltb (length xs) (length ys)) refl)
    (λ more. longer_is (λ m. ys ≡ m) xs ys (λ _. refl) (λ no_more. sym (all_of_it xs ys (begins_first more) no_more)) (ltb (length xs) (length ys)) refl)
    (ltb (length ys) (length xs)) refl
  where
    begins_first : length xs ≤ length ys → IsPrefix xs ys
    begins_first le = subst (IsPrefix xs) (longer_is (λ l. l ≡ ys) ys xs (λ less. absurd (omega arith)) (λ _. refl) (ltb (length ys) (length xs)) refl) begin.1

pub longer-whole : (xs ys : Log) → IsPrefix xs ys → longer xs ys ≡ ys
longer-whole xs ys p = longer_is (λ l. l ≡ ys) xs ys (λ _. refl) (λ more. all_of_it xs ys p more) (ltb (length xs) (length ys)) refl

pub have_met : (v w v' w' : View) → HasHeard w v.seen w' → HasHeard v w'.seen v' → HaveMetAs v w v' w'
have_met v w v' w' to back =
    let swap : longer w.seen v.seen ≡ longer v.seen w.seen = longer-swap v.seen w.seen to.1 in
    let told : w'.seen ≡ longer v.seen w.seen = ap (λ (u : View). u.seen) to.0 ∙ swap in
    let begins : BothBegin v.seen w.seen (longer v.seen w.seen) = subst (BothBegin v.seen w.seen) swap (to.1.1, to.1.0) in record {
      begins = begins;
      one = back.0 ∙ ap (λ l. with_seen l v) (ap (longer v.seen) told ∙ longer-whole v.seen (longer v.seen w.seen) begins.0);
      other = to.0 ∙ ap (λ l. with_seen l w) swap;
    }
