-- A set of both stores, up to the moment when all bytes are there.
use Rattle.std.proofs.Common.{◌≡◌, ◌⊎◌, ℕ, ◌≤◌, Bool, true, false, not, ◌||◌, nat_lt, List, length, Option, Some, None, Ok, Err, refl, sym, ◌∙◌, ap, ap₂, subst, inl, inr, arith}
use Rattle.std.specs.Prelude.{if◌then◌else◌, IsTrue}
use Rattle.std.proofs.lemmas.Bool.Decides.{nat_tests}
use mathlib.Core.Bool.{false≢true, true≢false}
use Rattle.kv_model.specs.declared.error.KvError.{KvError}
use Rattle.kv_model.specs.declared.error.KvError.TheVariants as error
use Rattle.kv_model.specs.declared.call.Reply.TheVariants.{Refused}
use Rattle.kv_model.specs.Checks.{Check, first_refusal, may_fail_reading, may_fail_writing}
use Rattle.kv_model.specs.Constants.{Constants}
use Rattle.kv_model.specs.Flags.{is_secure_flags, is_write_once}
use Rattle.kv_model.specs.Keys.{is_key}
use Rattle.kv_model.specs.StoreState.{StoreState}
use Rattle.kv_model.specs.Operations.{Operation, Set, Start}
use Rattle.kv_model.specs.PlainStep.{flags_in}
use Rattle.kv_model.specs.Rules.{Rules, after_refusal, refused_or, refuses, step}
use Rattle.kv_model.proofs.LimitLemmas.{unrefused}
use Rattle.kv_model.specs.Kv.{IsLawful, Kind, KvState, LeadsTo, UnlessFailedWrite, answered, kind_of, may_end, Ruled, FailedRead, FailedWrite, Mismatched, Wanted}
use Rattle.sealed_pair.specs.declared.limits.TheConstants.{MAX_SECURE_VALUE}
use Rattle.sealed_pair.specs.Pair.{pair_constants}
use Rattle.sealed_pair.specs.Running.{HasEnded, HasRun, HasStopped, IsIdle, Parts, StaysIdle, WhereRun, parts, rules_of}
use Rattle.sealed_pair.specs.SecureStep.{is_protected, is_spent, needed, secure_rules, set_checks, unmirrors}
use Rattle.sealed_pair.specs.Setting.{Failure, FailsSet, HasFailedSet, HasGivenUp, HasMoved, IsAdmitted, StartsBy, StartsSet, room_checks}
use Rattle.sealed_pair.specs.Store.{joined}
use Rattle.sealed_pair.proofs.BehindLemmas.{tells_either}
use Rattle.sealed_pair.proofs.GoingLemmas.{running_mounts}
use Rattle.sealed_pair.proofs.PairLemmas.{carries_above, carries_below, cause_all}
use Rattle.sealed_pair.proofs.RunningLemmas.{cut_is_one, open_by, runs_of, unless_after, unless_two}
use Rattle.sealed_pair.proofs.SettingLemmas.{at_idle, past, running_step}

-- ---- the checks of a set

neither : (a b : Bool) → a ≡ false → b ≡ false → (a || b) ≡ false
neither a b one two = ap₂ (λ (x y : Bool). x || y) one two

pub past_false : (applies rest : Bool) → applies ≡ false → (if applies then false else rest) ≡ rest
past_false true rest is = absurd (true≢false is)
past_false false rest is = refl

pub small_size : (size : ℕ) → size ≤ MAX_SECURE_VALUE → nat_lt MAX_SECURE_VALUE size ≡ false
small_size size most = grind (arith, nat_tests)

module _ (c : Constants) (number : ℕ) (above below : StoreState) (who : ℕ) (key : List ℕ) (size flags : ℕ) (named : is_key key ≡ true) (secure : is_secure_flags flags ≡ true)
    (most : size ≤ MAX_SECURE_VALUE) where
  abbrev state : StoreState
  state = joined number above below

  -- the stores are read
  pub set_may_read : IsTrue (may_fail_reading (set_checks c state who key size flags))
  set_may_read = past_false (not (is_key key)) _ (ap not named) ∙ past_false (not (is_secure_flags flags)) _ (ap not secure) ∙ past_false (nat_lt MAX_SECURE_VALUE size) true (small_size size most)

  module _ (free : is_protected c state key ≡ false) (mirrors : unmirrors c state key flags ≡ false) (unspent : is_spent c state flags ≡ false) where
    -- only want of room refuses it
    pub set_first : first_refusal (set_checks c state who key size flags) ≡ first_refusal (room_checks c state key size flags)
    set_first =
        past (not (is_key key)) error.InvalidKey _ (ap not named) ∙ past (not (is_secure_flags flags)) error.InvalidFlags _ (ap not secure)
        ∙ past (nat_lt MAX_SECURE_VALUE size) error.InvalidSize _ (small_size size most) ∙ past (is_protected c state key) error.WriteProtected _ free
        ∙ past (unmirrors c state key flags) error.InvalidFlags _ mirrors ∙ past (is_spent c state flags) error.IvSpent (first_refusal (room_checks c state key size flags)) unspent

    -- the primary store is written where it has room
    pub set_may_write : nat_lt c.room (needed c state key size) ≡ false → IsTrue (may_fail_writing (set_checks c state who key size flags))
    set_may_write fits =
        past_false (not (is_key key)) _ (ap not named) ∙ past_false (not (is_secure_flags flags)) _ (ap not secure)
        ∙ past_false (nat_lt MAX_SECURE_VALUE size) _ (small_size size most) ∙ past_false (is_protected c state key) _ free
        ∙ past_false (unmirrors c state key flags) _ mirrors ∙ past_false (is_spent c state flags) _ unspent ∙ past_false (nat_lt c.room (needed c state key size)) true fits

-- the facts of an admitted set, where both stores are idle
module _ (p : Parts) (key : List ℕ) (size flags : ℕ) (prior : Option (List ℕ)) (admitted : IsAdmitted p key size flags prior)
    (above below : StoreState) (idle : IsIdle p.above p.primary above) (idle_too : IsIdle p.below p.rollback below) where
  abbrev constants : Constants
  constants = pair_constants p.root p.primary.known.constants p.rollback.known.constants

  abbrev at : StoreState
  at = joined p.own.number above below

  is_free : is_protected constants at key ≡ false
  is_free = neither (is_write_once (flags_in above.primary key)) (is_write_once (flags_in below.primary key)) (admitted.above above idle) (admitted.below below idle_too).free

  mirrors_it : unmirrors constants at key flags ≡ false
  mirrors_it = (admitted.below below idle_too).mirrors

  pub admitted_first : (who : ℕ) → first_refusal (set_checks constants at who key size flags) ≡ first_refusal (room_checks constants at key size flags)
  admitted_first who = set_first constants p.own.number above below who key size flags admitted.named admitted.secure admitted.most is_free mirrors_it admitted.unspent

  pub admitted_reads : (who : ℕ) → IsTrue (may_fail_reading (set_checks constants at who key size flags))
  admitted_reads who = set_may_read constants p.own.number above below who key size flags admitted.named admitted.secure admitted.most

  pub admitted_writes : (who : ℕ) → nat_lt constants.room (needed constants at key size) ≡ false → IsTrue (may_fail_writing (set_checks constants at who key size flags))
  admitted_writes who fits = set_may_write constants p.own.number above below who key size flags admitted.named admitted.secure admitted.most is_free mirrors_it admitted.unspent fits

-- ---- one of the two stores failed, and the maps are as they were

no_set : {by : Constants → Rules} {s : KvState} {state : StoreState} → IsIdle by s state → record state { open_set = None } ≡ state
no_set {state = state} idle = λ i. record state { open_set = sym idle.holds i }

idle_again : {by : Constants → Rules} {s s' : KvState} {state : StoreState} → IsIdle by s state → s'.known.state ≡ Some (record state { open_set = None }) → IsIdle by s' state
idle_again idle told = open_by idle (told ∙ ap (λ (x : StoreState). Some x) (no_set idle)) (runs_of idle)

moved_idle : {by : Constants → Rules} {s s' : KvState} → HasMoved by s s' None None → StaysIdle by s s'
moved_idle moved state idle = (state, idle_again idle (moved.told state (at_idle idle)))

failed_idle : (by : Constants → Rules) (s s' : KvState) (f : Failure) (kind : Kind) → ((state : StoreState) → IsIdle by s state → FailsSet s' f state kind) → UnlessFailedWrite kind (StaysIdle by s s')
failed_idle by s s' f Ruled fails = λ state idle. (state, idle_again idle (fails state idle).1)
failed_idle by s s' f FailedRead fails = λ state idle. (state, idle_again idle (fails state idle).2)
failed_idle by s s' f FailedWrite fails = tt
failed_idle by s s' f Mismatched fails = λ state idle. absurd (fails state idle)
failed_idle by s s' f Wanted fails = λ state idle. (state, idle_again idle (fails state idle).1)

module _ (root : List ℕ) (number : ℕ) (by_above by_below : Constants → Rules) (u r u' r' : KvState) (who : ℕ) (operation : Operation) (f : Failure)
    (ends : (kind : Kind) → IsTrue (may_end operation kind)) where
  abbrev old : Parts
  old = parts root number by_above u by_below r

  abbrev new : Parts
  new = parts root number by_above u' by_below r'

  abbrev Ruling : Type 0
  Ruling = kind_of (Refused f.error) ≡ Ruled → WhereRun old (λ above below. step (rules_of old) (joined number above below) who operation ≡ refuses (joined number above below) f.error)

  abbrev Reading : Type 0
  Reading = WhereRun old (λ above below. IsTrue (may_fail_reading ((rules_of old).checks (joined number above below) who operation)))

  abbrev Writing : Type 0
  Writing = kind_of (Refused f.error) ≡ FailedWrite → WhereRun old (λ above below. IsTrue (may_fail_writing ((rules_of old).checks (joined number above below) who operation)))

  module _ (ruled : Ruling) (reads : Reading) (writes : Writing) where
    abbrev HasEither : StoreState → StoreState → Type 0
    HasEither above below = HasStopped old new (joined number above below) (answered who operation (Refused f.error)) ⊎ HasEnded old new (joined number above below) (answered who operation (Refused f.error))

    -- both are idle again
    ended : (above below : StoreState) → IsIdle by_above u' above → IsIdle by_below r' below
        → LeadsTo (rules_of old) (joined number above below) (answered who operation (Refused f.error)) (joined number above below) (kind_of (Refused f.error)) → HasEither above below
    ended above below idle idle_too leads = inr (record {
      after = joined number above below;
      both = record { above = above; below = below; primary = idle; rollback = idle_too; one = refl };
      leads = leads;
    })

    abbrev Leads : StoreState → StoreState → Kind → Type 0
    Leads above below kind = LeadsTo (rules_of old) (joined number above below) (answered who operation (Refused f.error)) (joined number above below) kind

    leads_by : (above below : StoreState) (kind : Kind) → kind_of (Refused f.error) ≡ kind → Leads above below kind → Leads above below (kind_of (Refused f.error))
    leads_by above below kind is leads = subst (Leads above below) (sym is) leads

    module _ (above below : StoreState) (idle : IsIdle by_above u above) (idle_too : IsIdle by_below r below) where
      failed_leads : f.error ≡ error.ReadFault → Leads above below FailedRead
      failed_leads is = (refl, reads above below idle idle_too, ap (λ (e : KvError). record { state = joined number above below; reply = Refused e }) is)

      ends_above : (kind : Kind) → kind_of (Refused f.error) ≡ kind → FailsSet u' f above kind → IsIdle by_below r' below → IsLawful by_below r' → HasEither above below
      ends_above Ruled is fails other lawful = ended above below (idle_again idle fails.1) other (leads_by above below Ruled is (ruled is above below idle idle_too))
      ends_above FailedRead is fails other lawful = ended above below (idle_again idle fails.2) other (leads_by above below FailedRead is (failed_leads fails.1))
      ends_above FailedWrite is fails other lawful = inl (record {
        error = ap (λ (e : KvError). Refused e) fails.0;
        fails = writes is above below idle idle_too;
        cut = λ maps stands. cut_is_one (rules_of old) (joined number above below) who operation maps refl (inl (
          fails.1 (record { primary = maps.primary; rollback = stands.beside }) stands.primary_stands,
          running_mounts by_below r' lawful other.rules below (record { primary = maps.rollback; rollback = stands.beside_rollback }) other.told other.running stands.rollback_stands,
        ));
      })
      ends_above Mismatched is fails other lawful = absurd fails
      ends_above Wanted is fails other lawful = ended above below (idle_again idle fails.1) other (leads_by above below Wanted is refl)

      ends_below : (kind : Kind) → kind_of (Refused f.error) ≡ kind → FailsSet r' f below kind → IsIdle by_above u' above → IsLawful by_above u' → HasEither above below
      ends_below Ruled is fails other lawful = ended above below other (idle_again idle_too fails.1) (leads_by above below Ruled is (ruled is above below idle idle_too))
      ends_below FailedRead is fails other lawful = ended above below other (idle_again idle_too fails.2) (leads_by above below FailedRead is (failed_leads fails.1))
      ends_below FailedWrite is fails other lawful = inl (record {
        error = ap (λ (e : KvError). Refused e) fails.0;
        fails = writes is above below idle idle_too;
        cut = λ maps stands. cut_is_one (rules_of old) (joined number above below) who operation maps refl (inl (
          running_mounts by_above u' lawful other.rules above (record { primary = maps.primary; rollback = stands.beside }) other.told other.running stands.primary_stands,
          fails.1 (record { primary = maps.rollback; rollback = stands.beside_rollback }) stands.rollback_stands,
        ));
      })
      ends_below Mismatched is fails other lawful = absurd fails
      ends_below Wanted is fails other lawful = ended above below other (idle_again idle_too fails.1) (leads_by above below Wanted is refl)

    given_up_above : HasFailedSet by_above u u' None f → HasMoved by_below r r' None None → IsLawful by_below r' → HasRun old new (answered who operation (Refused f.error))
    given_up_above one two lawful =
        let kind = kind_of (Refused f.error) in
        record {
          above = one.keeps;
          below = two.keeps;
          cause = λ before after. cause_all (carries_above root u u' r r' before after two.keeps) (Refused f.error) one.cause;
          may_end = ends kind;
          steady = λ steady steady_too. unless_two (u'.known.steady ≡ true) (r'.known.steady ≡ true) kind (one.steady steady) (two.steady steady_too);
          stays = unless_two (StaysIdle by_above u u') (StaysIdle by_below r r') kind
              (failed_idle by_above u u' f kind (λ state idle. one.told state (at_idle idle))) (moved_idle two);
          ends = λ above below idle idle_too.
              ends_above above below idle idle_too kind refl (one.told above (at_idle idle)) (idle_again idle_too (two.told below (at_idle idle_too))) lawful;
          cuts = λ tells tells_too above below idle idle_too. (
            tells_either above.primary (step (rules_of old) (joined number above below) who operation).state.primary (one.moments tells above (at_idle idle)),
            tells_either below.primary (step (rules_of old) (joined number above below) who operation).state.rollback (two.moments tells_too below (at_idle idle_too)),
          );
        }

    given_up_below : HasMoved by_above u u' None None → HasFailedSet by_below r r' None f → IsLawful by_above u' → HasRun old new (answered who operation (Refused f.error))
    given_up_below one two lawful =
        let kind = kind_of (Refused f.error) in
        record {
          above = one.keeps;
          below = two.keeps;
          cause = λ before after. cause_all (carries_below root u u' r r' before after one.keeps) (Refused f.error) two.cause;
          may_end = ends kind;
          steady = λ steady steady_too. unless_after (u'.known.steady ≡ true) (r'.known.steady ≡ true) kind (one.steady steady) (two.steady steady_too);
          stays = unless_after (StaysIdle by_above u u') (StaysIdle by_below r r') kind (moved_idle one)
              (failed_idle by_below r r' f kind (λ state idle. two.told state (at_idle idle)));
          ends = λ above below idle idle_too.
              ends_below above below idle idle_too kind refl (two.told below (at_idle idle_too)) (idle_again idle (one.told above (at_idle idle))) lawful;
          cuts = λ tells tells_too above below idle idle_too. (
            tells_either above.primary (step (rules_of old) (joined number above below) who operation).state.primary (one.moments tells above (at_idle idle)),
            tells_either below.primary (step (rules_of old) (joined number above below) who operation).state.rollback (two.moments tells_too below (at_idle idle_too)),
          );
        }

    pub run_given_up : HasGivenUp old new None None f → IsLawful by_above u' → IsLawful by_below r' → HasRun old new (answered who operation (Refused f.error))
    run_given_up (inl failed) lawful lawful_too = given_up_above failed.0 failed.1 lawful_too
    run_given_up (inr failed) lawful lawful_too = given_up_below failed.0 failed.1 lawful

pub set_ends : (key value : List ℕ) (flags : ℕ) (kind : Kind) → IsTrue (may_end (Set key value flags) kind)
set_ends key value flags Ruled = refl
set_ends key value flags FailedRead = refl
set_ends key value flags FailedWrite = refl
set_ends key value flags Mismatched = refl
set_ends key value flags Wanted = refl

start_ends : (key : List ℕ) (size flags : ℕ) (kind : Kind) → IsTrue (may_end (Start key size flags) kind)
start_ends key size flags Ruled = refl
start_ends key size flags FailedRead = refl
start_ends key size flags FailedWrite = refl
start_ends key size flags Mismatched = refl
start_ends key size flags Wanted = refl

-- what a set of so many bytes and the start of one have in common: they differ in what they do alone
pub record AsksSet (operation : Operation) (key : List ℕ) (size flags : ℕ) : Type 0 where
  pub checks : (c : Constants) (state : StoreState) (who : ℕ) → (secure_rules c).checks state who operation ≡ set_checks c state who key size flags
  pub stays : (state : StoreState) (e : KvError) → after_refusal state operation e ≡ state
  pub ends : (kind : Kind) → IsTrue (may_end operation kind)

pub asks_set : (key value : List ℕ) (flags : ℕ) → AsksSet (Set key value flags) key (length value) flags
asks_set key value flags = record { checks = λ c state who. refl; stays = λ state e. refl; ends = set_ends key value flags }

pub asks_start : (key : List ℕ) (size flags : ℕ) → AsksSet (Start key size flags) key size flags
asks_start key size flags = record { checks = λ c state who. refl; stays = λ state e. refl; ends = start_ends key size flags }

-- ---- a set that is admitted, and of which nothing came

module _ (root : List ℕ) (number : ℕ) (by_above by_below : Constants → Rules) (u r u' r' : KvState) (who : ℕ) (key : List ℕ) (size flags : ℕ) (prior : Option (List ℕ))
    (operation : Operation) (asks : AsksSet operation key size flags)
    (admitted : IsAdmitted (parts root number by_above u by_below r) key size flags prior) (lawful : IsLawful by_above u') (lawful_too : IsLawful by_below r') (e : KvError) where
  abbrev before : Parts
  before = parts root number by_above u by_below r

  abbrev after : Parts
  after = parts root number by_above u' by_below r'

  abbrev at_both : StoreState → StoreState → StoreState
  at_both above below = joined number above below

  abbrev both_constants : Constants
  both_constants = pair_constants root u.known.constants r.known.constants

  checks_are : (above below : StoreState) → set_checks both_constants (at_both above below) who key size flags ≡ (rules_of before).checks (at_both above below) who operation
  checks_are above below = sym (asks.checks both_constants (at_both above below) who)

  -- how its start ended
  abbrev By : StoreState → StoreState → Kind → Type 0
  By above below kind = StartsBy (room_checks both_constants (at_both above below) key size flags) (nat_lt both_constants.room (needed both_constants (at_both above below) key size)) e kind

  -- its start failed
  pub start_given_up : HasGivenUp before after None None (record { begins = true; error = e }) → StartsSet before key size flags (Err e)
      → HasRun before after (answered who operation (Refused e))
  start_given_up given_up starts =
      run_given_up root number by_above by_below u r u' r' who operation (record { begins = true; error = e }) asks.ends ruled reads writes given_up lawful lawful_too where
        ruled : kind_of (Refused e) ≡ Ruled → WhereRun before (λ above below. step (rules_of before) (at_both above below) who operation ≡ refuses (at_both above below) e)
        ruled is above below idle idle_too =
            running_step (rules_of before) (at_both above below) who operation refl
            ∙ ap (λ (o : Option KvError). refused_or (rules_of before) (at_both above below) who operation o)
            (ap first_refusal (sym (checks_are above below)) ∙ admitted_first before key size flags prior admitted above below idle idle_too who ∙ subst (By above below) is (starts above below idle idle_too))
            ∙ ap (λ (s : StoreState). refuses s e) (asks.stays (at_both above below) e)

        reads : WhereRun before (λ above below. IsTrue (may_fail_reading ((rules_of before).checks (at_both above below) who operation)))
        reads above below idle idle_too =
            subst (λ (l : List Check). IsTrue (may_fail_reading l)) (checks_are above below) (admitted_reads before key size flags prior admitted above below idle idle_too who)

        writes : kind_of (Refused e) ≡ FailedWrite → WhereRun before (λ above below. IsTrue (may_fail_writing ((rules_of before).checks (at_both above below) who operation)))
        writes is above below idle idle_too =
            subst (λ (l : List Check). IsTrue (may_fail_writing l)) (checks_are above below)
            (admitted_writes before key size flags prior admitted above below idle idle_too who (subst (By above below) is (starts above below idle idle_too)))

  -- its bytes could not be added
  pub fill_given_up : HasGivenUp before after None None (record { begins = false; error = e }) → StartsSet before key size flags (Ok tt)
      → HasRun before after (answered who operation (Refused e))
  fill_given_up given_up starts =
      run_given_up root number by_above by_below u r u' r' who operation (record { begins = false; error = e }) asks.ends ruled reads writes given_up lawful lawful_too where
        never : (above below : StoreState) → IsIdle by_above u above → IsIdle by_below r below → kind_of (Refused e) ≡ Ruled → HasGivenUp before after None None (record { begins = false; error = e }) → ⊥
        never above below idle idle_too is (inl failed) =
            false≢true (subst (λ (kind : Kind). FailsSet u' (record { begins = false; error = e }) above kind) is (failed.0.told above (at_idle idle))).0
        never above below idle idle_too is (inr failed) =
            false≢true (subst (λ (kind : Kind). FailsSet r' (record { begins = false; error = e }) below kind) is (failed.1.told below (at_idle idle_too))).0

        ruled : kind_of (Refused e) ≡ Ruled → WhereRun before (λ above below. step (rules_of before) (at_both above below) who operation ≡ refuses (at_both above below) e)
        ruled is above below idle idle_too = absurd (never above below idle idle_too is given_up)

        reads : WhereRun before (λ above below. IsTrue (may_fail_reading ((rules_of before).checks (at_both above below) who operation)))
        reads above below idle idle_too =
            subst (λ (l : List Check). IsTrue (may_fail_reading l)) (checks_are above below) (admitted_reads before key size flags prior admitted above below idle idle_too who)

        writes : kind_of (Refused e) ≡ FailedWrite → WhereRun before (λ above below. IsTrue (may_fail_writing ((rules_of before).checks (at_both above below) who operation)))
        writes is above below idle idle_too =
            subst (λ (l : List Check). IsTrue (may_fail_writing l)) (checks_are above below)
            (admitted_writes before key size flags prior admitted above below idle idle_too who
            (unrefused (nat_lt both_constants.room (needed both_constants (at_both above below) key size))
            (error.MediaFull (needed both_constants (at_both above below) key size) both_constants.room) _ (starts above below idle idle_too)).0)
