-- A new table keeps the rule.
use Rattle.std.proofs.Common.{◌≡◌, ℕ, zero, suc, ◌+◌, [], ◌∷◌, Some, None, refl, sym, subst, arith}
use mathlib.Core.Option.{some, some-injective, some-ne-none}
use lib.ListN.{get_elem?}
use Rattle.atomic_table.specs.Table.{opening}
use Rattle.kv_model.specs.Opening.{Opening}
use Rattle.turn_lock.specs.Books.{Book}
use Rattle.turn_lock.specs.Totals.{once}
use Rattle.turn_lock.specs.Views.{first_view}
use Rattle.turn_lock.specs.Rule.{Knows, Kept}
use Rattle.turn_lock.specs.declared.view.View.{View}
use Rattle.turn_lock.proofs.Prefixes.{nothing_begins}

nothing-own : (p : ℕ) → 0 ≡ once p 0
nothing-own zero = refl
nothing-own (suc k) = omega arith

first_knows : (first : Opening) → Knows first [] None (first_view first)
first_knows first = record {
  opened = λ _. refl;
  seen = nothing_begins [];
  shorter = nothing_begins [];
  loaded = λ e. absurd (cc e);
  noted = λ some_out. absurd (omega arith);
  room = omega arith;
  own = λ p some_own. absurd (omega arith);
  marks = λ who some_mark. absurd (omega arith);
}

first_each : (first : Opening) (k : ℕ) (v : View) → get_elem? (first_view first ∷ []) k ≡ some v → Knows first [] None v
first_each first zero v at = subst (Knows first [] None) (some-injective (first_view first) v at) (first_knows first)
first_each first (suc k) v at = absurd (some-ne-none v (sym at))

pub starts : {S : Type 0} (stands_for : S → Opening → Type 0) (book : S → Book) (x : S) (first : Opening) → (book x).entries ≡ [] → (book x).quitter ≡ None → stands_for x first
    → Kept stands_for book (opening (0 ∷ 0 ∷ []) (Some x ∷ []) (first_view first))
starts stands_for book x first entries none stands = record {
  opening = first;
  log = [];
  quitter = None;
  words = refl;
  one = omega arith;
  single = refl;
  home = λ _. (x, refl, record { stands = stands; entries = entries; first = none });
  each = first_each first;
  whole = omega arith;
  owned = λ p. subst (λ n. n ≡ once p 0) (let z : 0 ≡ 0 + 0 = omega arith in z) (nothing-own p);
  made = refl;
  parts = refl;
  marked = tt;
}
