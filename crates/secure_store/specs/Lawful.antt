-- What the images of a secure store mount to, where it tells its state.
use Rattle.std.proofs.Common.{◌≡◌, ◌⊎◌, inl, inr, ℕ, zero, suc, List, [], ◌∷◌, Option, Some, None, refl, sym, ap, ap₂, subst, arith}
use Rattle.std.specs.Prelude.{◌&&◌, false, true, is_none, is_some, Contains, MatchOption}
use Rattle.std.specs.Coded.{Coded, code_by, coded_list, coded_ℕ, coded×}
use Rattle.std.specs.FinMap as map
use base.Stored.{Gv, gnil, gnum, gcons, num}
use mathlib.Core.Bool.{false≢true}
use Rattle.std.proofs.Math.Logic.{∥∥₁_elim, ∥∥₁_map}
use Rattle.std.proofs.lemmas.Bool.{cases_eq}
use Rattle.kv_model.specs.FlaggedMap.{FlaggedMap}
use Rattle.kv_model.specs.StoreState.{Doubt, Maps, StoreState, maps_of}
use Rattle.kv_model.specs.Constants.{Constants}
use Rattle.kv_model.specs.Rules.{Rules, cuts}
use Rattle.kv_model.specs.Kv.{IsLawful, KvState}
use Rattle.sealed_pair.specs.Pair.{Joining, PairStands, pair, pair_constants}
use Rattle.sealed_pair.specs.SecureStep.{secure_rules}
use Rattle.sealed_pair.specs.Shares.{Share}
use Rattle.sealed_pair.specs.Store.{IsPlainWhile, Own, joined, joined_by}
use Rattle.sealed_pair.proofs.PairLemmas.{both_of, first_of, second_of, told_both}
use Rattle.secure_store.specs.declared.stop.Stop.{Stop}
use Rattle.secure_store.specs.declared.stop.Stop.TheVariants.{InCall, InRecover}
use Rattle.secure_store.specs.Doubts.{IsCutIn, IsStopped, WhereStopped, noted_in, told_by, untold}
use Rattle.secure_store.specs.Facts.{stored_code}

-- ---- what has a code is told apart

abbrev IsKnown : Type 0 → Type 0
IsKnown P = P ⊎ (P → ⊥)

abbrev kind : Gv → ℕ
kind gnil = 0
kind (gnum n) = 1
kind (gcons a b) = 2

abbrev first : Gv → Gv
first (gcons a b) = a
first other = other

abbrev second : Gv → Gv
second (gcons a b) = b
second other = other

other_kind : (x y : Gv) → (kind x ≡ kind y → ⊥) → IsKnown (x ≡ y)
other_kind x y other = inr (λ same. other (ap kind same))

known_number : (m n : ℕ) → (m ≡ n) ⊎ (m ≡ n → ⊥) → IsKnown (gnum m ≡ gnum n)
known_number m n (inl is) = inl (ap gnum is)
known_number m n (inr not) = inr (λ same. not (ap num same))

known_two : (a b c d : Gv) → IsKnown (a ≡ c) → IsKnown (b ≡ d) → IsKnown (gcons a b ≡ gcons c d)
known_two a b c d (inl one) (inl two) = inl (ap₂ gcons one two)
known_two a b c d (inr not) two = inr (λ same. not (ap first same))
known_two a b c d (inl one) (inr not) = inr (λ same. not (ap second same))

known_code : (x y : Gv) → IsKnown (x ≡ y)
known_code gnil gnil = inl refl
known_code (gnum m) (gnum n) = known_number m n (cases_eq m n)
known_code (gcons a b) (gcons c d) = known_two a b c d (known_code a c) (known_code b d)
known_code gnil (gnum n) = other_kind gnil (gnum n) (λ is. absurd (omega (arith, is)))
known_code gnil (gcons c d) = other_kind gnil (gcons c d) (λ is. absurd (omega (arith, is)))
known_code (gnum m) gnil = other_kind (gnum m) gnil (λ is. absurd (omega (arith, is)))
known_code (gnum m) (gcons c d) = other_kind (gnum m) (gcons c d) (λ is. absurd (omega (arith, is)))
known_code (gcons a b) gnil = other_kind (gcons a b) gnil (λ is. absurd (omega (arith, is)))
known_code (gcons a b) (gnum n) = other_kind (gcons a b) (gnum n) (λ is. absurd (omega (arith, is)))

map_code : Coded FlaggedMap
map_code = map.code (coded_list coded_ℕ) stored_code

maps_code : Coded Maps
maps_code = code_by (FlaggedMap × FlaggedMap) (coded× map_code map_code)
    (λ (m : Maps). (m.primary, m.rollback)) (λ t. record { primary = t.0; rollback = t.1 }) (λ _. refl)

known_maps : (m n : Maps) → IsKnown (m ≡ n)
known_maps m n = of_code (known_code (maps_code.code m) (maps_code.code n)) where
  of_code : IsKnown (maps_code.code m ≡ maps_code.code n) → IsKnown (m ≡ n)
  of_code (inl is) = inl (maps_code.inj m n is)
  of_code (inr not) = inr (λ same. not (ap maps_code.code same))

-- ---- one of three maps

no_proof : IsProp ⊥
no_proof = hlevel

abbrev three : Maps → Maps → Maps → List Maps
three a b c = a ∷ b ∷ c ∷ []

in_none : (a b c maps : Maps) → (a ≡ maps → ⊥) → (b ≡ maps → ⊥) → (c ≡ maps → ⊥) → Contains (three a b c) maps → ⊥
in_none a b c maps not_a not_b not_c (zero, below, is) = not_a is
in_none a b c maps not_a not_b not_c (suc zero, below, is) = not_b is
in_none a b c maps not_a not_b not_c (suc (suc zero), below, is) = not_c is
in_none a b c maps not_a not_b not_c (suc (suc (suc k)), below, is) = absurd (omega (arith, below))

one_of_three : (a b c maps : Maps) → IsKnown (a ≡ maps) → IsKnown (b ≡ maps) → IsKnown (c ≡ maps)
    → ∥ Contains (three a b c) maps ∥₁ → Contains (three a b c) maps
one_of_three a b c maps (inl is) known_b known_c some = (0, omega arith, is)
one_of_three a b c maps (inr not_a) (inl is) known_c some = (1, omega arith, is)
one_of_three a b c maps (inr not_a) (inr not_b) (inl is) some = (2, omega arith, is)
one_of_three a b c maps (inr not_a) (inr not_b) (inr not_c) some = absurd (∥∥₁_elim some no_proof (in_none a b c maps not_a not_b not_c))

is_one : (a b c maps : Maps) → ∥ Contains (three a b c) maps ∥₁ → Contains (three a b c) maps
is_one a b c maps = one_of_three a b c maps (known_maps a maps) (known_maps b maps) (known_maps c maps)

by_doubt : (o : Option Doubt) (A : Type 0) (P : Doubt → Type 0) → ((d : Doubt) → ∥ P d ∥₁ → P d) → ∥ MatchOption o ⊥ P ∥₁ → MatchOption o A P
by_doubt None A P back some = absurd (∥∥₁_elim some no_proof (λ p. p))
by_doubt (Some d) A P back some = back d some

-- what a cut may leave is one of the pairs, where it is known to be
cut_back : (constants : Constants) (noted : StoreState) (maps : Maps) → ∥ IsCutIn constants noted maps ∥₁
    → MatchOption noted.doubt (maps ≡ maps_of noted) (λ (d : Doubt). Contains (cuts (secure_rules constants) noted d.who d.operation) maps)
cut_back constants noted maps some =
    by_doubt noted.doubt (maps ≡ maps_of noted) (λ (d : Doubt). Contains (cuts (secure_rules constants) noted d.who d.operation) maps) (λ d. is_one _ _ _ maps) some

-- ---- what the two stores mount to

-- a plain store that runs mounts to its map
runs_to : (by : Constants → Rules) (s : KvState) → IsLawful by s → (state : StoreState) (maps : Maps) → s.known.state ≡ Some state → is_some state.doubt ≡ false
    → s.crash.stands maps → maps.primary ≡ state.primary
runs_to by s lawful state maps told running stands =
    at_none state.doubt running (λ (d : Doubt). Contains (cuts (by s.known.constants) state d.who d.operation) maps) (lawful.stands state told maps stands) where
      at_none : (o : Option Doubt) → is_some o ≡ false → (P : Doubt → Type 0) → MatchOption o (maps ≡ maps_of state) P → maps.primary ≡ state.primary
      at_none None none P is = ap (λ (m : Maps). m.primary) is
      at_none (Some d) none P is = absurd (false≢true (sym none))

module _ (root : List ℕ) (by below : Constants → Rules) (u r : KvState) (lawful : IsLawful by u) (lawful_too : IsLawful below r) where
  -- which joining is asked is nothing to what the two stores mount to
  as_joined : (one two : Joining) (maps : Maps) → PairStands root one u r maps → PairStands root two u r maps
  as_joined one two maps stands = record {
    beside = stands.beside;
    beside_rollback = stands.beside_rollback;
    primary_stands = stands.primary_stands;
    rollback_stands = stands.rollback_stands;
  }

  both_steady : (u.known.sound && r.known.sound) ≡ true → (u.known.steady && r.known.steady) ≡ true
  both_steady sound =
      both_of u.known.steady r.known.steady (lawful.sound_is_steady (first_of u.known.sound r.known.sound sound))
      (lawful_too.sound_is_steady (second_of u.known.sound r.known.sound sound))

  -- a store that runs
  runs_lawful : (own : Own) → ((state : StoreState) → u.known.state ≡ Some state → is_some state.doubt ≡ false)
      → ((state : StoreState) → r.known.state ≡ Some state → is_some state.doubt ≡ false) → IsLawful secure_rules (pair root (joined_by own) u r)
  runs_lawful own runs runs_too = record {
    sound_is_steady = both_steady;
    stands = λ state is maps stands.
        let told = told_both (joined_by own) u.known.state r.known.state state is in
        subst (λ (s : StoreState). MatchOption s.doubt (maps ≡ maps_of s)
        (λ (d : Doubt). Contains (cuts (secure_rules (pair_constants root u.known.constants r.known.constants)) s d.who d.operation) maps)) (sym told.joined)
        (λ i. record {
          primary = runs_to by u lawful told.above (record { primary = maps.primary; rollback = stands.beside }) told.above_told (runs told.above told.above_told) stands.primary_stands i;
          rollback = runs_to below r lawful_too told.below (record { primary = maps.rollback; rollback = stands.beside_rollback }) told.below_told (runs_too told.below told.below_told)
              stands.rollback_stands i;
        });
  }

  -- one that was stopped in a call
  stopped_lawful : (noted : StoreState) → ∥ IsStopped root u r noted ∥₁ → IsLawful secure_rules (pair root (λ a b. noted) u r)
  stopped_lawful noted stopped = record {
    sound_is_steady = both_steady;
    stands = λ state is maps stands.
        let told = told_both (λ a b. noted) u.known.state r.known.state state is in
        let constants = pair_constants root u.known.constants r.known.constants in
        subst (λ (s : StoreState). MatchOption s.doubt (maps ≡ maps_of s) (λ (d : Doubt). Contains (cuts (secure_rules constants) s d.who d.operation) maps)) (sym told.joined)
        (cut_back constants noted maps (∥∥₁_map stopped (λ (s : IsStopped root u r noted).
        s.cut told.above told.above_told told.below told.below_told maps (as_joined (λ a b. noted) (joined 0) maps stands))));
  }

  -- one that was stopped in a recover
  untold_lawful : (own : Own) → IsLawful secure_rules (untold (pair root (joined_by own) u r))
  untold_lawful own = record { sound_is_steady = both_steady; stands = λ state is. absurd (false≢true (ap is_some is)) }

  pub secure_is_lawful : {share share_too : Share} (own : Own) (stopped : Option Stop) → IsPlainWhile (is_none stopped) share by u → IsPlainWhile (is_none stopped) share_too below r
      → ∥ WhereStopped root (noted_in stopped) u r ∥₁ → IsLawful secure_rules (told_by root own stopped u r)
  secure_is_lawful own None plain plain_too doubt = runs_lawful own (plain.running refl) (plain_too.running refl)
  secure_is_lawful own (Some (InCall noted)) plain plain_too doubt = stopped_lawful noted.state doubt
  secure_is_lawful own (Some InRecover) plain plain_too doubt = untold_lawful own
