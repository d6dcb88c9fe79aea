-- The lines of a script by their clients.
use Rattle.std.proofs.Common.{◌≡◌, ◌≢◌, ◌⊎◌, ℕ, ◌+◌, ◌<◌, ◌≤◌, ◌==◌, leb, Bool, true, false, cond, List, [], ◌∷◌, ◌++◌, length, take, drop, get_or, refl, sym, ◌∙◌, ap, subst, inl, inr, ⊎_elim, arith}
use Rattle.std.specs.Prelude.{All, count_by}
use Rattle.std.proofs.lemmas.Bool.{cases_order, eq-eqb, eqb-true, leb-false, leb-true, ne_eqb, le-leb, lt-leb}
use Rattle.std.proofs.lemmas.Grind.{flat_map-append}
use Rattle.std.proofs.lemmas.List.{append-nil, drop_more, length-append, take-append-drop, take_more}
use Rattle.std.proofs.lemmas.List.Elements.{All-head, All-tail}
use Rattle.std.proofs.lemmas.List.Sums.{count_by-le-length, sum_by-append, sum_by-cons}
use mathlib.Core.Bool.{true≢false}
use mathlib.Core.List.{IsPrefix}
use Rattle.kv_model.specs.declared.call.Call.{Call}
use Rattle.kv_model.specs.declared.call.Entry.{Entry}
use Rattle.kv_model.specs.Orders.{Line, calls_by, lines_of}
use Rattle.kv_model.proofs.OrderOfLinesLemmas.{calls_by-append}
use Rattle.script_core.specs.declared.line.Act.{Act}
use Rattle.script_core.specs.declared.line.Act.TheVariants.{Do, Cut}
use Rattle.script_core.specs.declared.line.Line.{Line as ScriptLine}
use Rattle.script_core.specs.LineOrder.{Interleaves, call_of, calls_of}
use Rattle.turn_lock.specs.Totals.{once, times}
use Rattle.turn_lock.specs.declared.view.View.{View}
use Rattle.serve_core.specs.Clients.{IsClientCall, IsClientLine, is_client, is_from, lines_by, lines_from}
use Rattle.serve_core.specs.Owning.{Owns}
use Rattle.serve_core.proofs.OwnsLemmas.{all_made, by_test, one_call, owns_nothing, owns_others, owns_part}

-- ---- counts

counted : (p : ScriptLine → Bool) (x : ScriptLine) (xs : List ScriptLine) → count_by p (x ∷ xs) ≡ cond (p x) 1 0 + count_by p xs
counted p x xs = sum_by-cons (λ (line : ScriptLine). cond (p line) 1 0) x xs

abbrev one_if : Bool → ℕ
one_if b = cond b 1 0

-- a client with the clients behind it
this_or_behind : (k w : ℕ) → one_if (leb k w) ≡ one_if (w == k) + one_if (leb (k + 1) w)
this_or_behind k w = ⊎_elim
    (λ same.
    let a : one_if (leb k w) ≡ 1 = ap one_if (le-leb k w (omega (arith, same))) in
    let b : one_if (w == k) ≡ 1 = ap one_if (eq-eqb w k same) in
    let c : one_if (leb (k + 1) w) ≡ 0 = ap one_if (lt-leb (k + 1) w (omega (arith, same))) in
    omega (arith, a, b, c))
    (λ other. ⊎_elim
    (λ below.
    let a : one_if (leb k w) ≡ 0 = ap one_if (lt-leb k w below) in
    let b : one_if (w == k) ≡ 0 = ap one_if (ne_eqb w k (λ is. omega (arith, is, below))) in
    let c : one_if (leb (k + 1) w) ≡ 0 = ap one_if (lt-leb (k + 1) w (omega (arith, below))) in
    omega (arith, a, b, c))
    (λ above.
    let a : one_if (leb k w) ≡ 1 = ap one_if (le-leb k w (omega (arith, above))) in
    let b : one_if (w == k) ≡ 0 = ap one_if (ne_eqb w k (λ is. omega (arith, is, above))) in
    let c : one_if (leb (k + 1) w) ≡ 1 = ap one_if (le-leb (k + 1) w (omega (arith, above))) in
    omega (arith, a, b, c))
    other)
    (cases_order w k)

pub lines_split : (k : ℕ) (lines : List ScriptLine) → lines_from k lines ≡ lines_by k lines + lines_from (k + 1) lines
lines_split k [] = refl
lines_split k (x ∷ xs) =
    omega (
      arith,
      counted (λ (line : ScriptLine). leb k line.who) x xs,
      counted (λ (line : ScriptLine). line.who == k) x xs,
      counted (λ (line : ScriptLine). leb (k + 1) line.who) x xs,
      this_or_behind k x.who,
      lines_split k xs,
    )

pub lines_few : (k : ℕ) (lines : List ScriptLine) → lines_from k lines ≤ length lines
lines_few k lines = count_by-le-length (λ (line : ScriptLine). leb k line.who) lines

-- ---- clients that have no lines

not_counted : (who : ℕ) (x : ScriptLine) (xs : List ScriptLine) → lines_by who (x ∷ xs) ≡ 0 → ((x.who == who) ≡ false) × (lines_by who xs ≡ 0)
not_counted who x xs none =
    let sum : lines_by who (x ∷ xs) ≡ one_if (x.who == who) + lines_by who xs = counted (λ (line : ScriptLine). line.who == who) x xs in (
      by_test (x.who == who) (λ is. let one : one_if (x.who == who) ≡ 1 = ap one_if is in absurd (omega (arith, sum, one, none))) (λ other. other),
      omega (arith, sum, none),
    )

pub not_its : (who client : ℕ) (act : Act) → (client == who) ≡ false → calls_by who (call_of client act) ≡ []
not_its who client (Do call) other = one_call who client call false other
not_its who client (Cut side n pattern) other = refl

pub no_lines : (who : ℕ) (lines : List ScriptLine) → lines_by who lines ≡ 0 → calls_by who (calls_of lines) ≡ []
no_lines who [] none = refl
no_lines who (x ∷ xs) none =
    let both = not_counted who x xs none in
    calls_by-append who (call_of x.who x.act) (calls_of xs) ∙ (λ i. not_its who x.who x.act both.0 i ++ no_lines who xs both.1 i)

-- a number that is no client's
pub no_client : (who : ℕ) (lines : List ScriptLine) → All IsClientLine lines → (who < 1) ⊎ (16 < who) → calls_by who (calls_of lines) ≡ []
no_client who lines clients none = no_lines who lines (none_by lines clients)
  where
    none_by : (ls : List ScriptLine) → All IsClientLine ls → lines_by who ls ≡ 0
    none_by [] are = refl
    none_by (x ∷ xs) are =
        let first : IsClientLine x = All-head IsClientLine x xs are in
        let other : one_if (x.who == who) ≡ 0 =
        ap one_if (ne_eqb x.who who (λ is. ⊎_elim (λ low. omega (arith, is, low, first.first)) (λ high. omega (arith, is, high, first.last)) none)) in
        omega (arith, counted (λ (line : ScriptLine). line.who == who) x xs, other, none_by xs (All-tail IsClientLine x xs are))

-- ---- line by line

pub calls_more : (lines : List ScriptLine) (i : ℕ) (x : ScriptLine) → i < length lines → x ≡ get_or lines i x
    → calls_of (take (i + 1) lines) ≡ calls_of (take i lines) ++ call_of x.who x.act
calls_more lines i x less is =
    ap calls_of (take_more lines i x less ∙ ap (λ (y : ScriptLine). take i lines ++ y ∷ []) (sym is))
    ∙ flat_map-append (λ (l : ScriptLine). call_of l.who l.act) (take i lines) (x ∷ [])
    ∙ ap (λ (l : List Line). calls_of (take i lines) ++ l) (append-nil (call_of x.who x.act))

pub calls_rest : (lines : List ScriptLine) (i : ℕ) → calls_of (take i lines) ++ calls_of (drop i lines) ≡ calls_of lines
calls_rest lines i =
    sym (flat_map-append (λ (l : ScriptLine). call_of l.who l.act) (take i lines) (drop i lines)) ∙ ap calls_of (take-append-drop i lines)

same_client : (client who : ℕ) → is_client client who ≡ true → client ≡ who
same_client client who is = eqb-true client who is

-- a line of a client is one call of it
its_call : (who client : ℕ) (act : Act) → IsClientCall act → client ≡ who → length (calls_by who (call_of client act)) ≡ 1
its_call who client (Do call) is same = ap length (one_call who client call true (eq-eqb client who same))
its_call who client (Cut side n pattern) is same = absurd is

-- the line at which the client stops, and those behind it, are not made
pub stops_at : (client : ℕ) (lines : List ScriptLine) (i : ℕ) (x : ScriptLine) (v : View) → i < length lines → x ≡ get_or lines i x → x.who ≡ client → IsClientCall x.act
    → Owns (is_client client) (calls_of (take i lines)) true v → Owns (is_client client) (calls_of lines) false v
stops_at client lines i x v less is its asks owns =
    let rest : drop i lines ≡ x ∷ drop (i + 1) lines = drop_more lines i x less ∙ ap (λ (y : ScriptLine). y ∷ drop (i + 1) lines) (sym is) in
    let some : 0 < length (calls_by client (calls_of (drop i lines))) =
    omega (
      arith,
      ap (λ (l : List ScriptLine). length (calls_by client (calls_of l))) rest,
      ap length (calls_by-append client (call_of x.who x.act) (calls_of (drop (i + 1) lines))),
      length-append (calls_by client (call_of x.who x.act)) (calls_by client (calls_of (drop (i + 1) lines))),
      its_call client x.who x.act asks its,
    ) in
    subst (λ (l : List Line). Owns (is_client client) l false v) (calls_rest lines i)
    (owns_part (is_client client) (calls_of (take i lines)) (calls_of (drop i lines)) v owns client (eq-eqb client client refl) some)

-- a line of another client
pub passes_by : (client : ℕ) (lines : List ScriptLine) (i : ℕ) (x : ScriptLine) (v : View) → i < length lines → x ≡ get_or lines i x → (x.who ≡ client → ⊥)
    → Owns (is_client client) (calls_of (take i lines)) true v → Owns (is_client client) (calls_of (take (i + 1) lines)) true v
passes_by client lines i x v less is other owns =
    subst (λ (l : List Line). Owns (is_client client) l true v) (sym (calls_more lines i x less is))
    (owns_others (is_client client) (calls_of (take i lines)) (call_of x.who x.act) v owns
    (λ who mine. not_its who x.who x.act (ne_eqb x.who who (λ same. other (same ∙ sym (same_client client who mine))))))

-- ---- all clients

-- a pass that owns nothing has served the clients that there are not
pub serves_none : (who : ℕ) (lines : List ScriptLine) (v : View) → 16 < who → All IsClientLine lines → v.own ≡ [] → Owns (is_from who) (calls_of lines) true v
serves_none who lines v past clients nothing =
    owns_nothing (is_from who) (calls_of lines) v nothing (λ other from. no_client other lines clients (inr (omega (arith, past, leb-true who other from))))

-- a client with no lines
pub serves_idle : (client : ℕ) (lines : List ScriptLine) (whole : Bool) (v : View) → lines_by client lines ≡ 0 → Owns (is_from (client + 1)) (calls_of lines) whole v
    → Owns (is_from client) (calls_of lines) whole v
serves_idle client lines whole v none owns = record {
  within = owns.within;
  others = λ who other. owns.others who (lt-leb (client + 1) who (omega (arith, leb-false client who other)));
  part = owns.part;
  lacks = λ stops. let some = owns.lacks stops in (some.0, le-leb client some.0 (omega (arith, leb-true (client + 1) some.0 some.1)), some.2);
  all = λ is who from. by_test (leb (client + 1) who)
      (λ behind. owns.all is who behind)
      (λ not_behind.
      let same : who ≡ client = omega (arith, leb-true client who from, leb-false (client + 1) who not_behind) in
      owns.others who not_behind ∙ sym (ap (λ (w : ℕ). calls_by w (calls_of lines)) same ∙ no_lines client lines none));
}

-- all positions of a history are those of all clients
module _ (lines : List ScriptLine) (clients : All IsClientLine lines) (whole : Bool) (v : View) (entries : List Entry) (owns : Owns (is_from 1) (calls_of lines) whole v)
    (begins : IsPrefix v.seen entries) (owned : (p : ℕ) → times p v.own ≡ once p (length entries)) where
  pub interleaves_part : (who : ℕ) → IsPrefix (calls_by who (lines_of entries)) (calls_by who (calls_of lines))
  interleaves_part who = subst (λ (l : List Call). IsPrefix l (calls_by who (calls_of lines)))
      (all_made (is_from 1) (calls_of lines) whole v entries owns begins owned who) (owns.part who)

  pub lacks_some : whole ≡ false → (who : ℕ) × (length (calls_by who (lines_of entries)) < length (calls_by who (calls_of lines)))
  lacks_some stops =
      let some = owns.lacks stops in (
        some.0,
        subst (λ (l : List Call). length l < length (calls_by some.0 (calls_of lines))) (all_made (is_from 1) (calls_of lines) whole v entries owns begins owned some.0) some.2,
      )

  pub interleaves : whole ≡ true → Interleaves entries lines
  interleaves is who =
      sym (all_made (is_from 1) (calls_of lines) whole v entries owns begins owned who)
      ∙ by_test (leb 1 who)
      (λ client. owns.all is who client)
      (λ none. owns.others who none ∙ sym (no_client who lines clients (inl (leb-false 1 who none))))
