-- Every step of a secure store keeps what is kept of a key's numbers.
use Rattle.std.proofs.Common.{◌≡◌, inr, ℕ, ◌+◌, ◌-◌, ◌<◌, ◌≤◌, ◌^◌, Bool, true, false, ◌==◌, List, ◌++◌, length, Option, Some, None, IfSome, MatchBool, refl, sym, ◌∙◌, ap, ap₂, subst, arith, true≢false}
use Rattle.std.specs.Prelude.{if◌then◌else◌, is_some}
use Rattle.std.specs.Option.{option_map_or}
use Rattle.std.specs.Ordering.{nat_cmp}
use Rattle.std.specs.Cmp.Lexicographic.{slice_cmp}
use Rattle.std.specs.FinMap.{empty, get, get-empty}
use Rattle.kv_model.specs.declared.error.KvError.{KvError}
use Rattle.kv_model.specs.declared.error.KvError.TheVariants as error
use Rattle.kv_model.specs.Checks.{first_refusal}
use Rattle.kv_model.specs.Constants.{Constants}
use Rattle.kv_model.specs.FlaggedMap.{Stored}
use Rattle.kv_model.specs.Flags.{is_mirrored}
use Rattle.kv_model.specs.Limits.{IsActive, IsSet}
use Rattle.kv_model.specs.Operations.{Operation, Get, Part, Info, Set, Remove, RemoveStart, Start, Add, Finish, Abort, OpenIterator, Next, CloseIterator, Reset}
use Rattle.kv_model.specs.Rows.{advanced}
use Rattle.kv_model.specs.Rules.{after_refusal, number_taken, refused_or}
use Rattle.kv_model.specs.StoreState.{Maps, OpenSet, StoreState, maps_of, prior_in, tag_in}
use Rattle.secure_record.specs.Sealed.{seal}
use Rattle.sealed_pair.specs.Limits.{secure_starts}
use Rattle.sealed_pair.specs.Sealing.{is_numbered, secure_of, with_record, without_key}
use Rattle.sealed_pair.specs.SecureStep.{finished, finished_record, secure_checks, secure_effect, secure_rules, set_record, takes_number}
use Rattle.sealed_pair.proofs.LimitLemmas.{finish_seals, set_seals}
use Rattle.sealed_pair.proofs.SetLemmas.{MaySet, may_set}
use Rattle.fresh_numbers.proofs.NumberLemmas.{HasBeen, HasTaken, IsNumbered, IsTagBelow, Keeps, KeepsIn, floor, floor_at_none, floor_by, floor_most, is_numbered_too, keeps_later, record_kept, removed_kept, some_same}

-- ---- numbers

number_by : (numbered : Bool) (x : ℕ) → numbered ≡ true → (if numbered then x else 0) ≡ x
number_by true x is = refl
number_by false x is = absurd (true≢false (sym is))

taken_by : (numbered : Bool) (x : ℕ) → numbered ≡ true → number_taken numbered x ≡ x + 1
taken_by true x is = refl
taken_by false x is = absurd (true≢false (sym is))

-- a start takes its number, and the set that is active then has it
floor_begun : (numbered : Bool) (next : ℕ) → floor_by false numbered (number_taken numbered next) ≡ next
floor_begun true next = omega arith
floor_begun false next = refl

pub not_less : (takes : Bool) (n : ℕ) → n ≤ number_taken takes n
not_less true n = omega arith
not_less false n = omega arith

-- ---- what a step leaves of the doubt and of the number

pub record KeepsRest (state : StoreState) (takes : Bool) (new : StoreState) : Type 0 where
  pub doubt : new.doubt ≡ state.doubt
  pub number : new.next_vector ≤ number_taken takes state.next_vector
  pub rises : state.next_vector ≤ new.next_vector

module _ (constants : Constants) (state : StoreState) (who : ℕ) where
  stays : (takes : Bool) → KeepsRest state takes state
  stays takes = record { doubt = refl; number = not_less takes state.next_vector; rises = omega arith }

  taken : (takes : Bool) → number_taken takes state.next_vector ≤ number_taken takes state.next_vector
  taken takes = omega arith

  added_rest : (value : List ℕ) (found : Option OpenSet)
      → KeepsRest state false (option_map_or (λ (s : OpenSet). record state { open_set = Some (record s { bytes = s.bytes ++ value }) }) found state)
  added_rest value None = stays false
  added_rest value (Some set) = record { doubt = refl; number = taken false; rises = not_less false state.next_vector }

  finished_rest : (found : Option OpenSet)
      → KeepsRest state false (option_map_or (λ (s : OpenSet). record state { primary = (finished constants state s).primary; rollback = (finished constants state s).rollback; open_set = None }) found state)
  finished_rest None = stays false
  finished_rest (Some set) = record { doubt = refl; number = taken false; rises = not_less false state.next_vector }

  moved_rest : (n : ℕ) (found : Option (List ℕ)) → KeepsRest state false (advanced state who n found).state
  moved_rest n None = stays false
  moved_rest n (Some key) = record { doubt = refl; number = taken false; rises = not_less false state.next_vector }

  granted_rest : (operation : Operation) → KeepsRest state (takes_number operation) (secure_effect constants state who operation).state
  granted_rest (Get key) = stays false
  granted_rest (Part key offset count) = stays false
  granted_rest (Info key) = stays false
  granted_rest (Set key value flags) = record { doubt = refl; number = taken (is_numbered flags); rises = not_less (is_numbered flags) state.next_vector }
  granted_rest (Remove key) = record { doubt = refl; number = taken false; rises = not_less false state.next_vector }
  granted_rest (RemoveStart key) = record { doubt = refl; number = taken false; rises = not_less false state.next_vector }
  granted_rest (Start key size flags) = record { doubt = refl; number = taken (is_numbered flags); rises = not_less (is_numbered flags) state.next_vector }
  granted_rest (Add value) = added_rest value state.open_set
  granted_rest Finish = finished_rest state.open_set
  granted_rest Abort = record { doubt = refl; number = taken false; rises = not_less false state.next_vector }
  granted_rest Reset = record { doubt = refl; number = taken false; rises = not_less false state.next_vector }
  granted_rest (OpenIterator n prefix) = record { doubt = refl; number = taken false; rises = not_less false state.next_vector }
  granted_rest (Next n) = moved_rest n _
  granted_rest (CloseIterator n) = record { doubt = refl; number = taken false; rises = not_less false state.next_vector }

  finish_refused_rest : (e : KvError) → KeepsRest state false (after_refusal state Finish e)
  finish_refused_rest error.InvalidSize = record { doubt = refl; number = taken false; rises = not_less false state.next_vector }
  finish_refused_rest e = stays false

  refused_rest : (operation : Operation) (e : KvError) → KeepsRest state (takes_number operation) (after_refusal state operation e)
  refused_rest Finish e = finish_refused_rest e
  refused_rest operation e = stays (takes_number operation)

  pub step_rest : (operation : Operation) (found : Option KvError) → KeepsRest state (takes_number operation) (refused_or (secure_rules constants) state who operation found).state
  step_rest operation None = granted_rest operation
  step_rest operation (Some e) = refused_rest operation e

-- ---- what a step leaves of the key

module _ (Was : List ℕ → Type 0) (key past : List ℕ) (constants : Constants) (state : StoreState) (who low n : ℕ) (small : state.next_vector < 2 ^ 64)
    (active : IfSome state.open_set (IsActive secure_starts state.rollback n))
    (old : KeepsIn Was (secure_of constants).root key past low state.next_vector (maps_of state) state.open_set) where
  abbrev root : List ℕ
  root = (secure_of constants).root

  abbrev next : ℕ
  next = state.next_vector

  -- a number that the next record has at least
  abbrev least : ℕ
  least = floor state.open_set next

  abbrev In : StoreState → Type 0
  In new = KeepsIn Was root key past low new.next_vector (maps_of new) new.open_set

  abbrev Has : StoreState → Type 0
  Has new = HasBeen Was key new.primary

  -- ---- priors

  sixteen : (t : Stored) (p : List ℕ) (limit : ℕ) (b : Bool) → IsTagBelow Was root key limit t.bytes → (if b then Some t.bytes else None) ≡ Some p → IsTagBelow Was root key limit p
  sixteen t p limit true tag is = subst (IsTagBelow Was root key limit) (some_same t.bytes p is) tag
  sixteen t p limit false tag is = absurd (cc is)

  prior_tag : (mirrored : Bool) (found : Option Stored) (p : List ℕ) → IfSome found (λ (t : Stored). IsTagBelow Was root key least t.bytes)
      → (if mirrored then tag_in found else None) ≡ Some p → (mirrored ≡ true) × IsTagBelow Was root key least p
  prior_tag true None p tag is = absurd (cc is)
  prior_tag true (Some t) p tag is = (refl, sixteen t p least (length t.bytes == 16) tag is)
  prior_tag false found p tag is = absurd (cc is)

  tag_of_other : (other : List ℕ) → other ≡ key → IfSome (get state.rollback other) (λ (t : Stored). IsTagBelow Was root key least t.bytes)
  tag_of_other other same = subst (λ (q : List ℕ). IfSome (get state.rollback q) (λ (t : Stored). IsTagBelow Was root key least t.bytes)) (sym same) old.both.tag

  -- the prior of a record with this number
  origin : (flags number : ℕ) (other p : List ℕ) → other ≡ key → (is_numbered flags ≡ true → number ≡ least) → prior_in state.rollback flags other ≡ Some p
      → (is_mirrored flags ≡ true) × IsTagBelow Was root key number p
  origin flags number other p same is prior =
      let there = prior_tag (is_mirrored flags) (get state.rollback other) p (tag_of_other other same) prior in
      (there.0, subst (λ (x : ℕ). IsTagBelow Was root key x p) (sym (is (is_numbered_too flags there.0))) there.1)

  -- ---- sets

  none_active : (P : OpenSet → Type 0) (found : Option OpenSet) → is_some found ≡ false → IfSome found P
  none_active P None none = tt
  none_active P (Some set) none = absurd (true≢false none)

  set_numbered : (other value : List ℕ) (flags : ℕ) → MaySet constants state other (length value) flags → other ≡ key
      → (x : IsNumbered Was root key past low (number_taken (is_numbered flags) next) (set_record constants state other value flags)) × (x.sealed.flags ≡ flags)
  set_numbered other value flags may same =
      let number : ℕ = if is_numbered flags then next else 0 in
      let prior : Option (List ℕ) = prior_in state.rollback flags other in
      let whole = floor_at_none state.open_set next may.none_open in (
        record {
          sealed = record {
            flags = flags;
            iv = number;
            prior = prior;
            value = value;
            may = set_seals constants state small other value flags may;
            is = ap (λ (q : List ℕ). seal root q flags number prior value) same;
          };
          between = λ is.
              let here = number_by (is_numbered flags) next is in
              let later = taken_by (is_numbered flags) next is in
              let early = old.both.early in (inr (omega (arith, early, here, whole)), omega (arith, here, later));
          replaced = λ p is. origin flags number other p same (λ numbered. number_by (is_numbered flags) next numbered ∙ sym whole) is;
        },
        refl,
      )

  set_keeps : (other value : List ℕ) (flags : ℕ) → MaySet constants state other (length value) flags
      → Has (secure_effect constants state who (Set other value flags)).state → In (secure_effect constants state who (Set other value flags)).state
  set_keeps other value flags may been =
      let later : ℕ = number_taken (is_numbered flags) next in
      let most : least ≤ later = let below = floor_most state.open_set next in let more = not_less (is_numbered flags) next in omega (arith, below, more) in
      let kept = record_kept Was root key past low least later most (maps_of state) old.both other flags (set_record constants state other value flags) (set_numbered other value flags may) been in
      record {
        both =
            subst (λ (x : ℕ). Keeps Was root key past low x (with_record (maps_of state) other flags (set_record constants state other value flags)))
            (sym (floor_at_none state.open_set later may.none_open)) kept;
        taken = none_active _ state.open_set may.none_open;
      }

  -- ---- starts

  start_keeps : (other : List ℕ) (size flags : ℕ) → In (secure_effect constants state who (Start other size flags)).state
  start_keeps other size flags =
      let most = floor_most state.open_set next in
      let begun = floor_begun (is_numbered flags) next in
      record {
        both = keeps_later Was root key past low least (floor_by false (is_numbered flags) (number_taken (is_numbered flags) next)) (maps_of state) (omega (arith, most, begun)) old.both;
        taken = λ kind is. let one = taken_by (is_numbered flags) next is in omega (arith, one);
      }

  -- ---- sets that are active

  abbrev with_set : Option OpenSet → StoreState
  with_set set = record state { open_set = set }

  added : (value : List ℕ) (found : Option OpenSet) → Keeps Was root key past low (floor found next) (maps_of state) → IfSome found (HasTaken next) → state.open_set ≡ found
      → In (option_map_or (λ (s : OpenSet). record state { open_set = Some (record s { bytes = s.bytes ++ value }) }) found state)
  added value None kept is none = old
  added value (Some set) kept is some = record { both = kept; taken = is }

  floor_finished : (set : OpenSet) → set.is_remove ≡ false → is_numbered set.flags ≡ true → state.open_set ≡ Some set → least ≡ next - 1
  floor_finished set kind numbered is =
      ap (λ (o : Option OpenSet). floor o next) is ∙ ap₂ (λ (r b : Bool). floor_by r b next) kind numbered

  finish_numbered : (set : OpenSet) → IsSet secure_starts state.rollback n set → set.is_remove ≡ false → HasTaken next set → state.open_set ≡ Some set → set.key ≡ key
      → (x : IsNumbered Was root key past low next (finished_record constants state set)) × (x.sealed.flags ≡ set.flags)
  finish_numbered set valid kind taken is_set same =
      let number : ℕ = if is_numbered set.flags then next - 1 else 0 in (
        record {
          sealed = record {
            flags = set.flags;
            iv = number;
            prior = set.prior;
            value = set.bytes;
            may = finish_seals constants state small n set valid;
            is = ap (λ (q : List ℕ). seal root q set.flags number set.prior set.bytes) same;
          };
          between = λ is.
              let here = number_by (is_numbered set.flags) (next - 1) is in
              let least_is = floor_finished set kind is is_set in
              let some = taken kind is in
              let early = old.both.early in (inr (omega (arith, early, here, least_is)), omega (arith, here, some));
          replaced = λ p is.
              origin set.flags number set.key p same
              (λ numbered. number_by (is_numbered set.flags) (next - 1) numbered ∙ sym (floor_finished set kind numbered is_set)) (sym valid.prior ∙ is);
        },
        refl,
      )

  abbrev HasIn : Maps → Type 0
  HasIn maps = HasBeen Was key maps.primary

  finish_kept : (set : OpenSet) (is_remove : Bool) → set.is_remove ≡ is_remove → MatchBool is_remove (set.prior ≡ None) (IsSet secure_starts state.rollback n set) → HasTaken next set → state.open_set ≡ Some set
      → HasIn (if is_remove then without_key (maps_of state) set.key else with_record (maps_of state) set.key set.flags (finished_record constants state set))
      → Keeps Was root key past low next (if is_remove then without_key (maps_of state) set.key else with_record (maps_of state) set.key set.flags (finished_record constants state set))
  finish_kept set true is valid taken is_set been = removed_kept Was root key past low next (maps_of state) set.key (keeps_later Was root key past low least next (maps_of state) (floor_most state.open_set next) old.both)
  finish_kept set false is valid taken is_set been =
      record_kept Was root key past low least next (floor_most state.open_set next) (maps_of state) old.both set.key set.flags (finished_record constants state set)
      (finish_numbered set valid is taken is_set) been

  abbrev finishes : Option OpenSet → StoreState
  finishes found = option_map_or (λ (s : OpenSet). record state { primary = (finished constants state s).primary; rollback = (finished constants state s).rollback; open_set = None }) found state

  finish_keeps : (found : Option OpenSet) → state.open_set ≡ found → IfSome found (IsActive secure_starts state.rollback n) → IfSome found (HasTaken next) → Has (finishes found) → In (finishes found)
  finish_keeps None is_set valid taken been = old
  finish_keeps (Some set) is_set valid taken been = record { both = finish_kept set set.is_remove refl valid taken is_set been; taken = tt }

  -- ---- all calls

  moved : (m : ℕ) (found : Option (List ℕ)) → In (advanced state who m found).state
  moved m None = old
  moved m (Some q) = record { both = old.both; taken = old.taken }

  ended : (set : Option OpenSet) → floor set next ≡ next → IfSome set (HasTaken next) → In (with_set set)
  ended set is taken = record {
    both = subst (λ (x : ℕ). Keeps Was root key past low x (maps_of state)) (sym is) (keeps_later Was root key past low least next (maps_of state) (floor_most state.open_set next) old.both);
    taken = taken;
  }

  removes : (other : List ℕ) → In (secure_effect constants state who (Remove other)).state
  removes other = record { both = removed_kept Was root key past low least (maps_of state) other old.both; taken = old.taken }

  empty_has : (P : Stored → Type 0) → IfSome (get (empty {X = Stored} {R = slice_cmp nat_cmp}) key) P
  empty_has P = subst (λ (o : Option Stored). IfSome o P) (sym (get-empty (slice_cmp nat_cmp) key)) tt

  granted : (operation : Operation) → first_refusal (secure_checks constants state who operation) ≡ None
      → Has (secure_effect constants state who operation).state → In (secure_effect constants state who operation).state
  granted (Get q) none been = old
  granted (Part q offset count) none been = old
  granted (Info q) none been = old
  granted (Set q value flags) none been = set_keeps q value flags (may_set constants state who q (length value) flags none) been
  granted (Remove q) none been = removes q
  granted (RemoveStart q) none been = ended _ refl (λ kind. absurd (true≢false kind))
  granted (Start q size flags) none been = start_keeps q size flags
  granted (Add value) none been = added value state.open_set old.both old.taken refl
  granted Finish none been = finish_keeps state.open_set refl active old.taken been
  granted Abort none been = ended None refl tt
  granted Reset none been = record { both = record { early = old.both.early; primary = empty_has _; tag = empty_has _ }; taken = old.taken }
  granted (OpenIterator m prefix) none been = record { both = old.both; taken = old.taken }
  granted (Next m) none been = moved m _
  granted (CloseIterator m) none been = record { both = old.both; taken = old.taken }

  finish_refused : (e : KvError) → In (after_refusal state Finish e)
  finish_refused error.InvalidSize = ended None refl tt
  finish_refused e = old

  refused : (operation : Operation) (e : KvError) → In (after_refusal state operation e)
  refused Finish e = finish_refused e
  refused operation e = old

  pub step_keeps : (operation : Operation) (found : Option KvError) → first_refusal (secure_checks constants state who operation) ≡ found
      → Has (refused_or (secure_rules constants) state who operation found).state → In (refused_or (secure_rules constants) state who operation found).state
  step_keeps operation None none been = granted operation none been
  step_keeps operation (Some e) refuses been = refused operation e
