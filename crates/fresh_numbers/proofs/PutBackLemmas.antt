-- What is kept along a history under attack, and what an old primary map shows of it.
use Rattle.std.proofs.Common.{◌≡◌, inl, inr, ℕ, zero, suc, ◌-◌, ◌<◌, ◌≤◌, true, List, [], ◌∷◌, length, Option, Some, None, IfSome, slice_index_or, refl, sym, subst, arith}
use Rattle.std.specs.FinMap.{get}
use Rattle.std.specs.List.{Contains}
use Rattle.std.proofs.lemmas.List.{length-drop}
use Rattle.kv_model.specs.declared.limits.TheConstants.{MAX_VALUE}
use Rattle.kv_model.specs.Constants.{Constants, Secure}
use Rattle.kv_model.specs.FlaggedMap.{FlaggedMap, Stored}
use Rattle.kv_model.specs.Flags.{is_mirrored}
use Rattle.kv_model.specs.Limits.{AreShort}
use Rattle.kv_model.specs.StoreState.{Maps, StoreState, maps_of}
use Rattle.sealed_pair.specs.declared.limits.TheConstants.{TAG_SIZE}
use Rattle.sealed_pair.specs.Heal.{heal}
use Rattle.sealed_pair.specs.Laws.{HealsKey}
use Rattle.sealed_pair.specs.Sealing.{secure_of, tag_of}
use Rattle.sealed_pair.specs.SecureStep.{view}
use Rattle.sealed_pair.specs.View.{Held}
use Rattle.sealed_pair.proofs.SealLemmas.{HaveForm}
use Rattle.sealed_pair.proofs.SetLemmas.{SealsOpen}
use Rattle.fresh_numbers.specs.Histories.{Event, Called, Began, Finds, History, IsHistory, PassesThrough, all_states, first_state, present, root_of}
use Rattle.fresh_numbers.specs.PutBacks.{BeginsWithOld, FollowsUnderAttack, IsHistoryUnderAttack, PassesUnderAttack}
use Rattle.fresh_numbers.specs.Replays.{MayHaveHad, ShowsNothingOlder}
use Rattle.fresh_numbers.proofs.NumberLemmas.{HasBeen, IsNumbered, IsTagBelow, Keeps, heal_keeps, keeps_later, primary_later}
use Rattle.fresh_numbers.proofs.HistoryLemmas.{Heals, KeepsAll, called, first_kept, found_kept, found_short, remounted_within, rises}
use Rattle.fresh_numbers.proofs.ReplayLemmas.{OneReading, its_own, last_in, shows_nothing_older, whole}

-- ---- a history is one under attack

passes_so : (constants : Constants) (past : List StoreState) (old : StoreState) (events : List Event) (states : List StoreState)
    → PassesThrough constants old events states → PassesUnderAttack constants past old events states
passes_so constants past old [] [] passes = tt
passes_so constants past old [] (new ∷ states) passes = absurd passes
passes_so constants past old (event ∷ events) [] passes = absurd passes
passes_so constants past old ((Called who operation reply) ∷ events) (new ∷ states) passes =
    (passes.0, passes_so constants (old ∷ past) new events states passes.1)
passes_so constants past old ((Began maps number) ∷ events) (new ∷ states) passes =
    let b = passes.0 in (
      record {
        found = maps;
        finds = b.finds;
        beside = refl;
        put = record { state = old; passed = (zero, omega arith, refl); maps = maps; left = b.finds; its = refl };
        fresh = b.fresh;
        fits = b.fits;
        begun_so = b.begun_so;
      },
      passes_so constants (old ∷ past) new events states passes.1,
    )

pub is_under_attack : (h : History) → IsHistory h → IsHistoryUnderAttack h
is_under_attack h is = record { fits = is.fits; passes = passes_so h.constants [] (first_state h) h.events h.states is.passes }

-- ---- short tags

abbrev IsShort : Stored → Type 0
IsShort s = length s.bytes ≤ MAX_VALUE

short_tag : (bytes : List ℕ) → length (tag_of bytes) ≤ MAX_VALUE
short_tag bytes = omega (arith, length-drop (length bytes - TAG_SIZE) bytes)

healed_short : (secure : Secure) (maps : Maps) (key : List ℕ) (before after : Option Stored) → HealsKey secure maps key before after → IfSome before IsShort → IfSome after IsShort
healed_short secure maps key None after heals short = subst (λ (o : Option Stored). IfSome o IsShort) (sym heals) tt
healed_short secure maps key (Some before) None heals short = absurd heals
healed_short secure maps key (Some before) (Some after) (inl same) short = subst IsShort (sym same) short
healed_short secure maps key (Some before) (Some after) (inr h) short = subst IsShort (sym h.completed) (short_tag h.stored.bytes)

-- ---- along a history

module _ (Was : List ℕ → Type 0) (key : List ℕ) (form : HaveForm) (heals : Heals) (constants : Constants) where
  abbrev root : List ℕ
  root = (secure_of constants).root

  abbrev All : StoreState → Type 0
  All = KeepsAll Was key [] constants 0

  abbrev May : StoreState → Type 0
  May state = (maps : Maps) → Finds constants state maps → HasBeen Was key maps.primary

  -- a state of the past
  pub record IsPast (next : ℕ) (state : StoreState) : Type 0 where
    pub kept : All state
    pub may : May state
    pub most : state.next_vector ≤ next

  abbrev ArePast : ℕ → List StoreState → Type 0
  ArePast next past = (state : StoreState) → Contains past state → IsPast next state

  later_past : (next later : ℕ) (state : StoreState) → next ≤ later → IsPast next state → IsPast later state
  later_past next later state more p = record { kept = p.kept; may = p.may; most = let most = p.most in omega (arith, most, more) }

  more_past : (next later : ℕ) (old : StoreState) (past : List StoreState) → next ≤ later → IsPast next old → ArePast next past → ArePast later (old ∷ past)
  more_past next later old past more is are state (zero, below, same) = subst (IsPast later) same (later_past next later old more is)
  more_past next later old past more is are state (suc k, below, same) = later_past next later state more (are state (k, omega (arith, below), same))

  module _ (old : StoreState) (past : List StoreState) (is : IsPast old.next_vector old) (are : ArePast old.next_vector (old ∷ past)) where
    began : (maps : Maps) (number : ℕ) (new : StoreState) → BeginsWithOld constants (old ∷ past) old (maps, number) new → HasBeen Was key new.primary → All new
    began maps number new b been =
        let source : StoreState = b.put.state in
        let p = are source b.put.passed in
        let above = found_kept Was key [] form heals constants 0 source p.kept source.doubt refl b.put.maps b.put.left (p.may b.put.maps b.put.left) in
        let below = found_kept Was key [] form heals constants 0 old is.kept old.doubt refl b.found b.finds (is.may b.found b.finds) in
        let both : Keeps Was root key [] 0 old.next_vector maps = record {
          early = omega arith;
          primary = subst (λ (m : FlaggedMap). IfSome (get m key) (λ (s : Stored). IsNumbered Was root key [] 0 old.next_vector s.bytes)) (sym b.put.its)
              (primary_later Was root key [] 0 source.next_vector old.next_vector (get b.put.maps.primary key) p.most above.primary);
          tag = subst (λ (m : FlaggedMap). IfSome (get m key) (λ (t : Stored). IsTagBelow Was root key old.next_vector t.bytes)) (sym b.beside) below.tag;
        } in
        let has : HasBeen Was key maps.primary = subst (λ (s : StoreState). HasBeen Was key s.primary) b.begun_so been in
        let healed = heal_keeps Was root key [] form (secure_of constants) refl 0 old.next_vector maps both has (heals (secure_of constants) maps key) in
        let short_above = found_short Was key [] form heals constants 0 source p.kept source.doubt b.put.maps b.put.left in
        let short_below = found_short Was key [] form heals constants 0 old is.kept old.doubt b.found b.finds in
        let rollback : AreShort maps.rollback = subst AreShort (sym b.beside) short_below.rollback in
        let there = remounted_within Was key [] form heals constants 0 old is.kept b.found b.finds in
        subst All (sym b.begun_so) (record {
          within = record {
            primary = subst AreShort (sym b.put.its) short_above.primary;
            rollback = λ q. healed_short (secure_of constants) maps q (get maps.rollback q) (get (heal (secure_of constants) maps).rollback q) (heals (secure_of constants) maps q) (rollback q);
            open_set = tt;
            iterators = there.iterators;
            next_vector = b.fits;
          };
          keeps = record { both = keeps_later Was root key [] 0 old.next_vector number (heal (secure_of constants) maps) b.fresh healed; taken = tt };
          counted = tt;
        })

    follows : (event : Event) (new : StoreState) → FollowsUnderAttack constants (old ∷ past) old event new → HasBeen Was key new.primary → All new
    follows (Called who operation reply) new steps been = called Was key [] form heals constants 0 old is.kept who operation (record { state = new; reply = reply }) steps been
    follows (Began maps number) new b been = began maps number new b been

    rises_so : (event : Event) (new : StoreState) → FollowsUnderAttack constants (old ∷ past) old event new → old.next_vector ≤ new.next_vector
    rises_so (Called who operation reply) new steps = rises Was key [] form heals constants 0 old is.kept who operation (record { state = new; reply = reply }) steps
    rises_so (Began maps number) new b = subst (λ (s : StoreState). old.next_vector ≤ s.next_vector) (sym b.begun_so) b.fresh

  pub along_attacks : (events : List Event) (states past : List StoreState) (old : StoreState) → PassesUnderAttack constants past old events states
      → ((state : StoreState) → Contains (old ∷ states) state → May state) → ArePast old.next_vector past → All old
      → (later : StoreState) (k : ℕ) → k < length (old ∷ states) → slice_index_or (old ∷ states) k later ≡ later → All later
  along_attacks events states past old passes may are kept later zero below same = subst All same kept
  along_attacks [] [] past old passes may are kept later (suc k) below same = absurd (omega (arith, below))
  along_attacks [] (new ∷ states) past old passes may are kept later (suc k) below same = absurd passes
  along_attacks (event ∷ events) [] past old passes may are kept later (suc k) below same = absurd passes
  along_attacks (event ∷ events) (new ∷ states) past old passes may are kept later (suc k) below same =
      let fewer : (state : StoreState) → Contains (new ∷ states) state → May state = λ state within. may state (suc within.0, let inside = within.1 in omega (arith, inside), within.2) in
      let is : IsPast old.next_vector old = record { kept = kept; may = may old (zero, omega arith, refl); most = omega arith } in
      let now = more_past old.next_vector old.next_vector old past (omega arith) is are in
      let been : HasBeen Was key new.primary = fewer new (zero, omega arith, refl) (maps_of new) (its_own constants new new.doubt) in
      let more = rises_so old past is now event new passes.0 in
      along_attacks events states (old ∷ past) new passes.1 fewer (more_past old.next_vector new.next_vector old past more is are) (follows old past is now event new passes.0 been) later k (omega (arith, below)) same

-- ---- what an old map shows

module _ (opens : SealsOpen) (form : HaveForm) (one : OneReading) (heals : Heals) (h : History) (is : IsHistoryUnderAttack h) (state : StoreState) (passed : Contains (all_states h) state) (maps : Maps)
    (finds : Finds h.constants state maps) (key : List ℕ) where
  abbrev Possible : List ℕ → Type 0
  Possible bytes = MayHaveHad h key bytes

  may : (other : StoreState) → Contains (all_states h) other → (left_maps : Maps) → Finds h.constants other left_maps → HasBeen Possible key left_maps.primary
  may other within left_maps left s there = record { state = other; passed = within; maps = left_maps; finds = left; flags = s.flags; stored = there }

  left : HasBeen Possible key maps.primary
  left = may state passed maps finds

  none_past : (next : ℕ) (other : StoreState) → Contains [] other → IsPast Possible key form heals h.constants next other
  none_past next other within = absurd (let inside = within.1 in omega (arith, inside))

  kept_at : KeepsAll Possible key [] h.constants 0 state
  kept_at =
      along_attacks Possible key form heals h.constants h.events h.states [] (first_state h) is.passes may (none_past h.number)
      (first_kept Possible key [] h.constants h.number is.fits) state passed.0 passed.1 passed.2

  pub left_kept : IfSome (get maps.primary key) (λ (s : Stored). IsNumbered Possible (root_of h) key [] 0 state.next_vector s.bytes)
  left_kept = (found_kept Possible key [] form heals h.constants 0 state kept_at state.doubt refl maps finds left).primary

  pub nothing_older : (flags : ℕ) (value : List ℕ) → view h.constants (present h) key ≡ Held flags value → is_mirrored flags ≡ true → ShowsNothingOlder h maps.primary key
  nothing_older flags value held mirrored =
      shows_nothing_older opens form one heals h key Possible maps.primary state.next_vector left (may (present h) (last_in (first_state h) h.states) (maps_of (present h)) (its_own h.constants (present h) (present h).doubt))
      (whole (root_of h) key flags value mirrored (get (present h).primary key) (get (present h).rollback key) held) left_kept
