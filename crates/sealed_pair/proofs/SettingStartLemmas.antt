-- Whether there is room for a set where it starts.
use Rattle.std.proofs.Common.{◌≡◌, ℕ, ◌+◌, ◌≤◌, Bool, true, false, not, ◌&&◌, nat_lt, List, [], ◌∷◌, length, Option, Some, None, Err, Ok, refl, sym, ◌∙◌, ap, subst, arith}
use Rattle.std.specs.Prelude.{if◌then◌else◌, is_some}
use Rattle.std.proofs.lemmas.Bool.Decides.{nat_tests}
use mathlib.Core.Bool.{false≢true}
use Rattle.base_core.specs.Sizes.{record_size}
use Rattle.kv_model.specs.declared.limits.TheConstants.{MAX_VALUE}
use Rattle.kv_model.specs.declared.error.KvError.{KvError}
use Rattle.kv_model.specs.declared.error.KvError.TheVariants as error
use Rattle.kv_model.specs.declared.call.Reply.{Reply}
use Rattle.kv_model.specs.declared.call.Reply.TheVariants.{Done, Refused}
use Rattle.kv_model.specs.Checks.{Refuses, first_refusal, may_fail_writing}
use Rattle.kv_model.specs.Constants.{Constants}
use Rattle.kv_model.specs.Flags.{is_mirrored, is_plain_flags, is_write_once}
use Rattle.kv_model.specs.Keys.{is_key}
use Rattle.kv_model.specs.Sizes.{used}
use Rattle.kv_model.specs.StoreState.{StoreState}
use Rattle.kv_model.specs.Operations.{Start}
use Rattle.kv_model.specs.PlainStep.{flags_in, plain_checks, plain_rules}
use Rattle.kv_model.specs.Rules.{Rules}
use Rattle.kv_model.specs.Kv.{Answers, Kind, KvState, LeadsTo, answered, kind_of, Ruled, FailedRead, FailedWrite, Mismatched, Wanted}
use Rattle.sealed_pair.specs.Pair.{pair_constants}
use Rattle.sealed_pair.specs.Running.{IsIdle, Parts, parts}
use Rattle.sealed_pair.specs.SecureStep.{needed, needed_beside}
use Rattle.sealed_pair.specs.Sealing.{kept_flags, secure_of}
use Rattle.sealed_pair.specs.Setting.{IsAdmitted, IsFree, StartsBy, StartsSet}
use Rattle.sealed_pair.specs.Store.{joined}
use Rattle.sealed_pair.proofs.ReadingLemmas.{some_of}
use Rattle.sealed_pair.proofs.SettingLemmas.{past, step_done, step_refused}
use Rattle.sealed_pair.proofs.SettingRunLemmas.{past_false}

kept_plain : (flags : ℕ) → is_plain_flags (kept_flags flags) ≡ true
kept_plain flags = grind (arith, nat_tests)

within : (size : ℕ) → size ≤ MAX_VALUE → nat_lt MAX_VALUE size ≡ false
within size most = grind (arith, nat_tests)

fits_by : (full : Bool) (e : KvError) → (if full then Some e else None) ≡ None → full ≡ false
fits_by true e none = absurd (cc none)
fits_by false e none = refl

writes_by : (full : Bool) → (if full then false else true) ≡ true → full ≡ false
writes_by true may = absurd (false≢true may)
writes_by false may = refl

-- how a start ends that only want of room refuses
abbrev StartsAlone : Bool → KvError → KvError → Kind → Type 0
StartsAlone full refusal e Ruled = (if full then Some refusal else None) ≡ Some e
StartsAlone full refusal e FailedRead = Unit {0}
StartsAlone full refusal e FailedWrite = full ≡ false
StartsAlone full refusal e Mismatched = Unit {0}
StartsAlone full refusal e Wanted = Unit {0}

module _ (by : Constants → Rules) (s s' : KvState) (who : ℕ) (key : List ℕ) (size flags : ℕ) (named : is_key key ≡ true) (plain : is_plain_flags flags ≡ true) (most : size ≤ MAX_VALUE) where
  abbrev takes : Constants → StoreState → ℕ
  takes c state = used c.prog state.primary + record_size c.prog (length key) size

  abbrev full : Constants → StoreState → Bool
  full c state = nat_lt c.room (takes c state)

  abbrev full_error : Constants → StoreState → KvError
  full_error c state = error.MediaFull (takes c state) c.room

  cleared : (state : StoreState) → state.open_set ≡ None → record state { open_set = None } ≡ state
  cleared state none = λ i. record state { open_set = sym none i }

  start_first : (c : Constants) (state : StoreState) → state.open_set ≡ None → IsFree key state
      → first_refusal (plain_checks c state who (Start key size flags)) ≡ (if full c state then Some (full_error c state) else None)
  start_first c state none free =
      subst (λ (x : StoreState). first_refusal (plain_checks c x who (Start key size flags)) ≡ (if full c state then Some (full_error c state) else None)) (cleared state none)
      (past (not (is_key key)) error.InvalidKey _ (ap not named) ∙ past (not (is_plain_flags flags)) error.InvalidFlags _ (ap not plain)
      ∙ past (nat_lt MAX_VALUE size) error.InvalidSize _ (within size most)
      ∙ past (is_write_once (flags_in state.primary key)) error.WriteProtected (if full c state then Some (full_error c state) else None) free)

  start_writes : (c : Constants) (state : StoreState) → state.open_set ≡ None → IsFree key state
      → may_fail_writing (plain_checks c state who (Start key size flags)) ≡ (if full c state then false else true)
  start_writes c state none free =
      subst (λ (x : StoreState). may_fail_writing (plain_checks c x who (Start key size flags)) ≡ (if full c state then false else true)) (cleared state none)
      (past_false (not (is_key key)) _ (ap not named) ∙ past_false (not (is_plain_flags flags)) _ (ap not plain)
      ∙ past_false (nat_lt MAX_VALUE size) _ (within size most) ∙ past_false (is_write_once (flags_in state.primary key)) (if full c state then false else true) free)

  leads_at : (reply : Reply) → Answers by s s' (answered who (Start key size flags) reply) → (state : StoreState) → IsIdle by s state
      → (after : StoreState) × LeadsTo (plain_rules s.known.constants) state (answered who (Start key size flags) reply) after (kind_of reply)
  leads_at reply answers state idle =
      let there = some_of s'.known.state (answers.does.keeps.tells_state ∙ ap is_some idle.told) in (
        there.0,
        subst (λ (b : Constants → Rules). LeadsTo (b s.known.constants) state (answered who (Start key size flags) reply) there.0 (kind_of reply)) idle.rules
            (answers.does.leads state idle.told there.0 there.1),
      )

  pub room_done : Answers by s s' (answered who (Start key size flags) Done) → (state : StoreState) → IsIdle by s state → IsFree key state → full s.known.constants state ≡ false
  room_done answers state idle free =
      let leads = leads_at Done answers state idle in
      fits_by (full s.known.constants state) (full_error s.known.constants state)
      (sym (start_first s.known.constants state idle.holds free) ∙ (step_done (plain_rules s.known.constants) state leads.0 who (Start key size flags) idle.running leads.1).0)

  room_by : (e : KvError) (state after : StoreState) (kind : Kind) → IsIdle by s state → IsFree key state
      → LeadsTo (plain_rules s.known.constants) state (answered who (Start key size flags) (Refused e)) after kind
      → StartsAlone (full s.known.constants state) (full_error s.known.constants state) e kind
  room_by e state after Ruled idle free leads =
      sym (start_first s.known.constants state idle.holds free)
      ∙ (step_refused (plain_rules s.known.constants) state after who (Start key size flags) e idle.running refl leads).0
  room_by e state after FailedRead idle free leads = tt
  room_by e state after FailedWrite idle free leads =
      writes_by (full s.known.constants state) (sym (start_writes s.known.constants state idle.holds free) ∙ leads.1)
  room_by e state after Mismatched idle free leads = tt
  room_by e state after Wanted idle free leads = tt

  pub room_refused : (e : KvError) → Answers by s s' (answered who (Start key size flags) (Refused e)) → (state : StoreState) → IsIdle by s state → IsFree key state
      → StartsAlone (full s.known.constants state) (full_error s.known.constants state) e (kind_of (Refused e))
  room_refused e answers state idle free =
      let leads = leads_at (Refused e) answers state idle in room_by e state leads.0 (kind_of (Refused e)) idle free leads.1

-- ---- both stores

kept_first : (full : Bool) (x e : KvError) (rest : Option KvError) → (if full then Some x else None) ≡ Some e → (if full then Some x else rest) ≡ Some e
kept_first true x e rest is = is
kept_first false x e rest is = absurd (cc is)

first_starts : (full beside : Bool) (x y e : KvError) (kind : Kind) → StartsAlone full x e kind
    → StartsBy (Refuses full x ∷ Refuses beside y ∷ []) full e kind
first_starts full beside x y e Ruled starts = kept_first full x e (if beside then Some y else None) starts
first_starts full beside x y e FailedRead starts = tt
first_starts full beside x y e FailedWrite starts = starts
first_starts full beside x y e Mismatched starts = tt
first_starts full beside x y e Wanted starts = tt

second_starts : (full mirrored beside : Bool) (x y e : KvError) (kind : Kind) → full ≡ false → mirrored ≡ true → StartsAlone beside y e kind
    → StartsBy (Refuses full x ∷ Refuses (mirrored && beside) y ∷ []) full e kind
second_starts full mirrored beside x y e Ruled fits is starts =
    past full x (if mirrored && beside then Some y else None) fits ∙ ap (λ (b : Bool). if b && beside then Some y else None) is ∙ starts
second_starts full mirrored beside x y e FailedRead fits is starts = tt
second_starts full mirrored beside x y e FailedWrite fits is starts = fits
second_starts full mirrored beside x y e Mismatched fits is starts = tt
second_starts full mirrored beside x y e Wanted fits is starts = tt

both_start : (full mirrored beside : Bool) (x y : KvError) → full ≡ false → (mirrored && beside) ≡ false
    → first_refusal (Refuses full x ∷ Refuses (mirrored && beside) y ∷ []) ≡ None
both_start full mirrored beside x y fits fits_too = past full x (if mirrored && beside then Some y else None) fits ∙ past (mirrored && beside) y None fits_too

module _ (root : List ℕ) (number : ℕ) (by_above by_below : Constants → Rules) (u r u' r' : KvState) (who : ℕ) (key : List ℕ) (size flags : ℕ) (prior : Option (List ℕ))
    (admitted : IsAdmitted (parts root number by_above u by_below r) key size flags prior) where
  abbrev before : Parts
  before = parts root number by_above u by_below r

  abbrev constants : Constants
  constants = pair_constants root u.known.constants r.known.constants

  large : size + 56 ≤ MAX_VALUE
  large = omega (arith, admitted.most)

  small : 16 ≤ MAX_VALUE
  small = omega arith

  abbrev Lacks : StoreState → StoreState → Bool
  Lacks above below = nat_lt constants.room (needed constants (joined number above below) key size)

  -- the primary store refuses its start
  pub first_refuses : (e : KvError) → Answers by_above u u' (answered who (Start key (size + 56) (kept_flags flags)) (Refused e)) → StartsSet before key size flags (Err e)
  first_refuses e answers above below idle idle_too =
      first_starts (Lacks above below) (is_mirrored flags && nat_lt (secure_of constants).room (needed_beside constants (joined number above below) key))
      (error.MediaFull (needed constants (joined number above below) key size) constants.room)
      (error.MediaFull (needed_beside constants (joined number above below) key) (secure_of constants).room) e (kind_of (Refused e))
      (room_refused by_above u u' who key (size + 56) (kept_flags flags) admitted.named (kept_plain flags) large e answers above idle (admitted.above above idle))

  module _ (begun : Answers by_above u u' (answered who (Start key (size + 56) (kept_flags flags)) Done)) where
    fits : (above below : StoreState) → IsIdle by_above u above → Lacks above below ≡ false
    fits above below idle = room_done by_above u u' who key (size + 56) (kept_flags flags) admitted.named (kept_plain flags) large begun above idle (admitted.above above idle)

    -- the rollback store refuses its start
    pub second_refuses : (e : KvError) → is_mirrored flags ≡ true → Answers by_below r r' (answered who (Start key 16 (kept_flags flags)) (Refused e)) → StartsSet before key size flags (Err e)
    second_refuses e is answers above below idle idle_too =
        second_starts (Lacks above below) (is_mirrored flags) (nat_lt (secure_of constants).room (needed_beside constants (joined number above below) key))
        (error.MediaFull (needed constants (joined number above below) key size) constants.room)
        (error.MediaFull (needed_beside constants (joined number above below) key) (secure_of constants).room) e (kind_of (Refused e)) (fits above below idle) is
        (room_refused by_below r r' who key 16 (kept_flags flags) admitted.named (kept_plain flags) small e answers below idle_too (admitted.below below idle_too).free)

    -- both have begun
    pub both_begun : Answers by_below r r' (answered who (Start key 16 (kept_flags flags)) Done) → StartsSet before key size flags (Ok tt)
    both_begun answers above below idle idle_too =
        let room = room_done by_below r r' who key 16 (kept_flags flags) admitted.named (kept_plain flags) small answers below idle_too (admitted.below below idle_too).free in
        both_start (Lacks above below) (is_mirrored flags) (nat_lt (secure_of constants).room (needed_beside constants (joined number above below) key))
        (error.MediaFull (needed constants (joined number above below) key size) constants.room)
        (error.MediaFull (needed_beside constants (joined number above below) key) (secure_of constants).room) (fits above below idle)
        (ap (λ (b : Bool). is_mirrored flags && b) room ∙ never (is_mirrored flags)) where
          never : (b : Bool) → (b && false) ≡ false
          never true = refl
          never false = refl

    -- one alone has begun, and the key is not mirrored
    pub one_begun : is_mirrored flags ≡ false → StartsSet before key size flags (Ok tt)
    one_begun is above below idle idle_too =
        both_start (Lacks above below) (is_mirrored flags) (nat_lt (secure_of constants).room (needed_beside constants (joined number above below) key))
        (error.MediaFull (needed constants (joined number above below) key size) constants.room)
        (error.MediaFull (needed_beside constants (joined number above below) key) (secure_of constants).room) (fits above below idle)
        (ap (λ (b : Bool). b && nat_lt (secure_of constants).room (needed_beside constants (joined number above below) key)) is)
