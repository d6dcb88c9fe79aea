-- What a pass owns, call by call, and what two passes own together.
use Rattle.std.proofs.Common.{◌≡◌, ◌≢◌, ℕ, zero, suc, ◌+◌, ◌<◌, ◌≤◌, ◌==◌, leb, Bool, true, false, ◌&&◌, cond, List, [], ◌∷◌, ◌++◌, map, length, refl, sym, ◌∙◌, ap, subst, inl, inr, arith, append_assoc}
use Rattle.std.proofs.lemmas.Bool.{cases_lt, eqb-true, eqb-false, leb-false, leb-true, le-leb, lt-leb, ne_eqb}
use Rattle.std.proofs.lemmas.List.{append-nil, length-append}
use mathlib.Core.Bool.{false≢true, true≢false}
use mathlib.Core.List.{IsPrefix}
use Rattle.journal_core.specs.JournalState.{next_entry}
use Rattle.kv_model.specs.declared.call.Call.{Call}
use Rattle.kv_model.specs.declared.call.Entry.{Entry}
use Rattle.kv_model.specs.Opening.{Opening}
use Rattle.kv_model.specs.Orders.{Line, calls_by, lines_of}
use Rattle.kv_model.proofs.OrderOfLinesLemmas.{calls_by-append}
use Rattle.shared_kv.specs.declared.fault.Answer.{Answer}
use Rattle.shared_kv.specs.Turns.{Completes, GoesOn, Quits, Waits}
use Rattle.turn_lock.specs.Totals.{once, times}
use Rattle.turn_lock.specs.Views.{ALL}
use Rattle.turn_lock.specs.declared.view.View.{View}
use Rattle.turn_lock.proofs.Prefixes.{begins_length, begins_within}
use Rattle.turn_lock.proofs.Totals.{times-append}
use Rattle.serve_core.specs.Clients.{is_client, is_from}
use Rattle.serve_core.specs.Owning.{IsSamePass, MakesNone, Owns, made_by, made_in}
use Rattle.serve_core.proofs.MadeLemmas.{made-all, made-grown, made-more, made-nothing, made-one, made-other}

-- ---- lists of calls that begin others

abbrev Calls : Type 0
Calls = List Call

pub nothing_first : (calls : Calls) → IsPrefix [] calls
nothing_first calls = (calls, refl)

pub whole_first : (calls : Calls) → IsPrefix calls calls
whole_first calls = (([], append-nil calls))

pub longer_first : (xs ys zs : Calls) → IsPrefix xs ys → IsPrefix xs (ys ++ zs)
longer_first xs ys zs begins = (begins.0 ++ zs, sym (append_assoc xs begins.0 zs) ∙ ap (λ (l : Calls). l ++ zs) begins.1)

pub by_test : {P : Type 0} (b : Bool) → (b ≡ true → P) → (b ≡ false → P) → P
by_test true yes_p no_p = yes_p refl
by_test false yes_p no_p = no_p refl

-- ---- one pass

-- all calls of lines are the first ones of them
pub all_owned : (mine : ℕ → Bool) (lines : List Line) (v : View) → ((p : ℕ) → 0 < times p v.own → p ≤ length v.seen) → ((who : ℕ) → mine who ≡ false → made_in v who ≡ [])
    → ((who : ℕ) → mine who ≡ true → made_in v who ≡ calls_by who lines) → Owns mine lines true v
all_owned mine lines v within others all = record {
  within = within;
  others = others;
  part = λ who. by_test (mine who)
      (λ is. subst (λ (l : Calls). IsPrefix l (calls_by who lines)) (sym (all who is)) (whole_first (calls_by who lines)))
      (λ other. subst (λ (l : Calls). IsPrefix l (calls_by who lines)) (sym (others who other)) (nothing_first (calls_by who lines)));
  all = λ whole who is. all who is;
  lacks = λ never. absurd (true≢false never);
}

none_in : (P : Type 0) → 0 < 0 → P
none_in P less = absurd (omega (arith, less))

-- a pass that owns nothing, of clients that have no lines
pub owns_nothing : (mine : ℕ → Bool) (lines : List Line) (v : View) → v.own ≡ [] → ((who : ℕ) → mine who ≡ true → calls_by who lines ≡ []) → Owns mine lines true v
owns_nothing mine lines v nothing no_lines =
    let none : (who : ℕ) → made_in v who ≡ [] = λ who. ap (λ (own : List ℕ). made_by who own 1 v.seen) nothing ∙ made-nothing who 1 v.seen in
    all_owned mine lines v
    (λ p some. none_in (p ≤ length v.seen) (subst (λ (own : List ℕ). 0 < times p own) nothing some))
    (λ who other. none who)
    (λ who is. none who ∙ sym (no_lines who is))

-- some lines behind, of which the calls were not made
pub owns_part : (mine : ℕ → Bool) (lines more : List Line) (v : View) → Owns mine lines true v → (client : ℕ) → mine client ≡ true → 0 < length (calls_by client more)
    → Owns mine (lines ++ more) false v
owns_part mine lines more v owns client is some = record {
  within = owns.within;
  others = owns.others;
  part = λ who. subst (IsPrefix (made_in v who)) (sym (calls_by-append who lines more)) (longer_first (made_in v who) (calls_by who lines) (calls_by who more) (owns.part who));
  all = λ never. absurd (false≢true never);
  lacks = λ stops. (
    client,
    is,
    omega (arith, some, ap length (owns.all refl client is), ap length (calls_by-append client lines more), length-append (calls_by client lines) (calls_by client more)),
  );
}

-- lines behind that are none of its clients
pub owns_others : (mine : ℕ → Bool) (lines more : List Line) (v : View) → Owns mine lines true v → ((who : ℕ) → mine who ≡ true → calls_by who more ≡ []) → Owns mine (lines ++ more) true v
owns_others mine lines more v owns none = all_owned mine (lines ++ more) v owns.within owns.others
    (λ who is.
    owns.all refl who is ∙ sym (append-nil (calls_by who lines)) ∙ ap (λ (l : Calls). calls_by who lines ++ l) (sym (none who is))
    ∙ sym (calls_by-append who lines more))

-- no call was made, and more may have been seen
pub owns_still : (mine : ℕ → Bool) (lines : List Line) (whole : Bool) (old new : View) → MakesNone old new → Owns mine lines whole old → Owns mine lines whole new
owns_still mine lines whole old new makes owns =
    let same : (who : ℕ) → made_in new who ≡ made_in old who =
    λ who. ap (λ (own : List ℕ). made_by who own 1 new.seen) makes.own ∙ made-grown who old.own old.seen new.seen owns.within makes.goes.seen in
    record {
      within = λ p some. omega (arith, owns.within p (subst (λ (own : List ℕ). 0 < times p own) makes.own some), begins_length old.seen new.seen makes.goes.seen);
      others = λ who other. same who ∙ owns.others who other;
      part = λ who. subst (λ (l : Calls). IsPrefix l (calls_by who lines)) (sym (same who)) (owns.part who);
      all = λ is who own. same who ∙ owns.all is who own;
      lacks = λ stops. let some = owns.lacks stops in (some.0, some.1, subst (λ (l : Calls). length l < length (calls_by some.0 lines)) (sym (same some.0)) some.2);
    }

-- a call was waited for, and then the client quit
pub waited_then : (old mid new : View) → Waits old mid → MakesNone mid new → MakesNone old new
waited_then old mid new waits none = record {
  goes = record {
    who = none.goes.who ∙ waits.goes.who;
    opening = none.goes.opening ∙ waits.goes.opening;
    parts = none.goes.parts ∙ waits.goes.parts;
    seen = begins_within old.seen mid.seen new.seen waits.goes.seen none.goes.seen;
  };
  own = none.own ∙ waits.own;
  quit = none.quit;
}

pub one_call : (who client : ℕ) (call : Call) (t : Bool) → (client == who) ≡ t → calls_by who ((client, call) ∷ []) ≡ cond t (call ∷ []) []
one_call who client call t is = ap (λ (b : Bool). map (λ (line : Line). line.1) (cond b ((client, call) ∷ []) [])) is ∙ taken_one t
  where
    taken_one : (b : Bool) → map (λ (line : Line). line.1) (cond b ((client, call) ∷ []) []) ≡ cond b (call ∷ []) []
    taken_one true = refl
    taken_one false = refl

-- a call was made
module _ (client : ℕ) (lines : List Line) (old new : View) (call : Call) (answer : Answer) (is : old.who ≡ client) (done : Completes old new call answer) (owns : Owns (is_client client) lines true old) where
  abbrev entry : Entry
  entry = next_entry done.earlier old.who call answer.reply

  position : answer.seq ≡ 1 + length done.earlier
  position = omega (arith, done.seq, ap length done.last, length-append done.earlier (entry ∷ []))

  more_made : (who : ℕ) → made_in new who ≡ made_in old who ++ cond (client == who) (call ∷ []) []
  more_made who =
      ap (λ (own : List ℕ). made_by who own 1 new.seen) done.own
      ∙ ap (made_by who (old.own ++ answer.seq ∷ []) 1) done.last
      ∙ made-more who old.own old.seen done.earlier entry answer.seq owns.within done.begins position
      ∙ ap (λ (k : ℕ). made_in old who ++ cond (k == who) (call ∷ []) []) is

  last_seen : length new.seen ≡ length done.earlier + 1
  last_seen = ap length done.last ∙ length-append done.earlier (entry ∷ [])

  within_new : (p : ℕ) → 0 < times p new.own → p ≤ length new.seen
  within_new p some =
      let sum : times p new.own ≡ times p old.own + times p (answer.seq ∷ []) = ap (times p) done.own ∙ times-append p old.own (answer.seq ∷ []) in
      elim (cases_lt 0 (times p old.own)) [
        | inl own ↦ omega (arith, owns.within p own, begins_length old.seen done.earlier done.begins, last_seen)
        | inr none ↦ in_last p (answer.seq) (omega (arith, sum, none, some)) (omega (arith, done.seq))
      ]
    where
      in_last : (p q : ℕ) → 0 < times p (q ∷ []) → q ≤ length new.seen → p ≤ length new.seen
      in_last p q some le = by_test (p == q)
          (λ same. omega (arith, eqb-true p q same, le))
          (λ other. none_in (p ≤ length new.seen) (subst (λ (n : ℕ). 0 < n) (ap (λ (b : Bool). cond b 1 0 + 0) other) some))

  pub owns_more : Owns (is_client client) (lines ++ (client, call) ∷ []) true new
  owns_more = all_owned (is_client client) (lines ++ (client, call) ∷ []) new within_new
      (λ who other.
      more_made who ∙ (λ i. owns.others who other i ++ cond (other i) (call ∷ []) []))
      (λ who mine.
      more_made who
      ∙ (λ i. owns.all refl who mine i ++ sym (one_call who client call (client == who) refl) i)
      ∙ sym (calls_by-append who lines ((client, call) ∷ [])))

-- ---- two passes

both_test : (a b : Bool) → (a && b) ≡ true → (a ≡ true) × (b ≡ true)
both_test true b is = (refl, is)
both_test false b is = absurd (false≢true is)

one_fails : {P : Type 0} (a b : Bool) → (a ≡ false → P) → (b ≡ false → P) → (a && b) ≡ false → P
one_fails true b first second is = second is
one_fails false b first second is = first refl

-- the pass of a client, and that of the clients behind it
module _ (client : ℕ) (lines : List Line) (rest mine : Bool) (v w u : View) (others : Owns (is_from (client + 1)) lines rest v) (one : Owns (is_client client) lines mine w)
    (own : u.own ≡ v.own ++ w.own) (first : IsPrefix v.seen u.seen) (second : IsPrefix w.seen u.seen) where
  of_first : (who : ℕ) → made_by who v.own 1 u.seen ≡ made_in v who
  of_first who = made-grown who v.own v.seen u.seen others.within first

  of_second : (who : ℕ) → made_by who w.own 1 u.seen ≡ made_in w who
  of_second who = made-grown who w.own w.seen u.seen one.within second

  together : (who : ℕ) → made_in u who ≡ made_by who (v.own ++ w.own) 1 u.seen
  together who = ap (λ (l : List ℕ). made_by who l 1 u.seen) own

  -- the client's own calls
  its : (who : ℕ) → (client == who) ≡ true → made_in u who ≡ made_in w who
  its who is =
      let not_behind : is_from (client + 1) who ≡ false = lt-leb (client + 1) who (omega (arith, eqb-true client who is)) in
      together who ∙ made-other who v.own w.own 1 u.seen (of_first who ∙ others.others who not_behind) ∙ of_second who

  -- those of the others
  theirs : (who : ℕ) → (client == who) ≡ false → made_in u who ≡ made_in v who
  theirs who other = together who ∙ made-one who v.own w.own 1 u.seen (of_second who ∙ one.others who other) ∙ of_first who

  not_from : (who : ℕ) → (client == who) ≡ false → is_from client who ≡ false → is_from (client + 1) who ≡ false
  not_from who other is = lt-leb (client + 1) who (omega (arith, leb-false client who is))

  is_behind : (who : ℕ) → (client == who) ≡ false → is_from client who ≡ true → is_from (client + 1) who ≡ true
  is_behind who other is = le-leb (client + 1) who (after (leb-true client who is) (eqb-false client who other))
    where
      after : client ≤ who → (client ≡ who → ⊥) → client + 1 ≤ who
      after le apart = elim (cases_lt client who) [ inl less ↦ omega (arith, less) | inr ge ↦ absurd (apart (omega (arith, le, ge))) ]

  its_from : (who : ℕ) → (client == who) ≡ true → is_from client who ≡ true
  its_from who is = le-leb client who (omega (arith, eqb-true client who is))

  within_both : (p : ℕ) → 0 < times p u.own → p ≤ length u.seen
  within_both p some =
      let sum : times p u.own ≡ times p v.own + times p w.own = ap (times p) own ∙ times-append p v.own w.own in
      elim (cases_lt 0 (times p v.own)) [
        | inl there ↦ omega (arith, others.within p there, begins_length v.seen u.seen first)
        | inr none ↦ omega (arith, one.within p (omega (arith, sum, none, some)), begins_length w.seen u.seen second)
      ]

  abbrev Lacks : Type 0
  Lacks = (who : ℕ) × (is_from client who ≡ true) × (length (made_in u who) < length (calls_by who lines))

  its_lack : mine ≡ false → Lacks
  its_lack stops =
      let some = one.lacks stops in
      (some.0, its_from some.0 some.1, subst (λ (l : Calls). length l < length (calls_by some.0 lines)) (sym (its some.0 some.1)) some.2)

  -- a client behind is another
  not_it : (who : ℕ) → is_from (client + 1) who ≡ true → (client == who) ≡ false
  not_it who behind = ne_eqb client who (λ same. omega (arith, same, leb-true (client + 1) who behind))

  their_lack : rest ≡ false → Lacks
  their_lack stops =
      let some = others.lacks stops in (
        some.0,
        le-leb client some.0 (omega (arith, leb-true (client + 1) some.0 some.1)),
        subst (λ (l : Calls). length l < length (calls_by some.0 lines)) (sym (theirs some.0 (not_it some.0 some.1))) some.2,
      )

  pub owns_both : Owns (is_from client) lines (mine && rest) u
  owns_both = record {
    within = within_both;
    others = λ who not_its. by_test (client == who)
        (λ is. absurd (true≢false (sym (its_from who is) ∙ not_its)))
        (λ other. theirs who other ∙ others.others who (not_from who other not_its));
    part = λ who. by_test (client == who)
        (λ is. subst (λ (l : Calls). IsPrefix l (calls_by who lines)) (sym (its who is)) (one.part who))
        (λ other. subst (λ (l : Calls). IsPrefix l (calls_by who lines)) (sym (theirs who other)) (others.part who));
    all = λ whole who from. by_test (client == who)
        (λ is. its who is ∙ one.all (both_test mine rest whole).0 who is)
        (λ other. theirs who other ∙ others.all (both_test mine rest whole).1 who (is_behind who other from));
    lacks = one_fails mine rest its_lack their_lack;
  }

-- ---- the whole history

stands_once : (p n : ℕ) → 1 ≤ p → p ≤ n → 0 < once p n
stands_once zero n from to = absurd (omega (arith, from))
stands_once (suc k) n from to = omega (arith, to)

-- a pass that owns each position of a history
module _ (mine : ℕ → Bool) (lines : List Line) (whole : Bool) (v : View) (entries : List Entry) (owns : Owns mine lines whole v) (begins : IsPrefix v.seen entries)
    (owned : (p : ℕ) → times p v.own ≡ once p (length entries)) where
  pub all_made : (who : ℕ) → made_in v who ≡ calls_by who (lines_of entries)
  all_made who =
      sym (made-grown who v.own v.seen entries owns.within begins)
      ∙ made-all who v.own 1 entries (λ p from to. subst (λ (n : ℕ). 0 < n) (sym (owned p)) (stands_once p (length entries) from (omega (arith, to))))
