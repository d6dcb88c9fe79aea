-- Whether a set may be made, by what was read of both stores.
use Rattle.std.proofs.Common.{◌≡◌, ℕ, ◌+◌, ◌≤◌, ◌<◌, ◌^◌, Bool, true, false, not, ◌||◌, ◌&&◌, ◌==◌, nat_lt, List, [], length, Option, Some, None, Result, Ok, Err, refl, sym, ◌∙◌, ap, ap₂, subst, arith}
use Rattle.std.specs.Prelude.{if◌then◌else◌, is_some, IsTrue}
use Rattle.std.specs.Option.{option_map_or}
use Rattle.std.specs.FinMap.{get}
use Rattle.std.proofs.lemmas.Bool.Decides.{nat_tests}
use mathlib.Core.Bool.{false≢true, true≢false}
use Rattle.kv_model.specs.declared.error.KvError.{KvError}
use Rattle.kv_model.specs.declared.error.KvError.TheVariants as error
use Rattle.kv_model.specs.declared.flags.Flags.{Flags}
use Rattle.kv_model.specs.declared.call.Reply.TheVariants.{Refused}
use Rattle.kv_model.specs.Checks.{Check, first_refusal, may_fail_reading}
use Rattle.kv_model.specs.Constants.{Constants}
use Rattle.kv_model.specs.FlaggedMap.{FlaggedMap, Stored}
use Rattle.kv_model.specs.Flags.{is_mirrored, is_secure_flags, is_write_once}
use Rattle.kv_model.specs.Keys.{is_key}
use Rattle.kv_model.specs.Opening.{Opening}
use Rattle.kv_model.specs.PlainStep.{flags_in}
use Rattle.kv_model.specs.StoreState.{StoreState, prior_in, tag_in}
use Rattle.kv_model.specs.Rules.{Rules, refused_or, refuses}
use Rattle.kv_model.specs.Operations.{Info, Operation}
use Rattle.kv_model.specs.Kv.{IsCause, Kind, KvState, LeadsTo, answered, kind_of, may_end, Ruled, FailedRead, FailedWrite, Mismatched, Wanted}
use Rattle.sealed_pair.specs.declared.limits.TheConstants.{MAX_SECURE_VALUE}
use Rattle.sealed_pair.specs.declared.setting.Tagged.{Tagged}
use Rattle.sealed_pair.specs.Pair.{pair, pair_constants}
use Rattle.sealed_pair.specs.Reading.{HasRead, IsUnread, TellsPlain, WhereTold}
use Rattle.sealed_pair.specs.Removing.{FlagsOr, is_once}
use Rattle.sealed_pair.specs.Running.{HasRun, IsIdle, parts}
use Rattle.sealed_pair.specs.Sealing.{is_numbered}
use Rattle.sealed_pair.specs.SecureStep.{is_protected, last_number, secure_rules, set_checks, unmirrors}
use Rattle.sealed_pair.specs.Setting.{IsAdmitted, IsRefusedSet, RefusesBy, TagOr, admitted, flags_with, request_of, room_checks, tag_with}
use Rattle.sealed_pair.specs.Store.{joined}
use Rattle.sealed_pair.proofs.BehindLemmas.{run_refused}
use Rattle.sealed_pair.proofs.PairLemmas.{carries_above, carries_below, cause_carried, read_none}
use Rattle.sealed_pair.proofs.SettingLemmas.{past, running_step}
use Rattle.sealed_pair.proofs.SettingRunLemmas.{AsksSet, set_may_read, small_size}

tells_idle : {by : Constants → Rules} {s : KvState} {state : StoreState} → IsIdle by s state → TellsPlain by s state
tells_idle idle = record { rules = idle.rules; told = idle.told; running = idle.running }

-- what held when the store was read
tells_before : {by : Constants → Rules} {s s' : KvState} {state : StoreState} → HasRead s s' → IsIdle by s' state → TellsPlain by s state
tells_before read idle = record { rules = idle.rules; told = sym read.state ∙ idle.told; running = idle.running }

-- ---- what the stores hold

once_is : (m : FlaggedMap) (key : List ℕ) (f : Option Flags) → FlagsOr (get m key) (Ok f) → is_once f ≡ is_write_once (flags_in m key)
once_is m key None holds = ap (λ (o : Option Stored). is_write_once (option_map_or (λ (s : Stored). s.flags) o 0)) (sym holds)
once_is m key (Some flags) holds =
    ap is_write_once holds.bits ∙ ap (λ (o : Option Stored). is_write_once (option_map_or (λ (s : Stored). s.flags) o 0)) (sym holds.there)

tag_once : (m : FlaggedMap) (key : List ℕ) (t : Option Tagged) → TagOr (get m key) (Ok t) → is_once (flags_with t) ≡ is_write_once (flags_in m key)
tag_once m key None holds = ap (λ (o : Option Stored). is_write_once (option_map_or (λ (s : Stored). s.flags) o 0)) (sym holds)
tag_once m key (Some tagged) holds =
    ap is_write_once holds.bits ∙ ap (λ (o : Option Stored). is_write_once (option_map_or (λ (s : Stored). s.flags) o 0)) (sym holds.there)

tag_there : (m : FlaggedMap) (key : List ℕ) (t : Option Tagged) → TagOr (get m key) (Ok t) → is_some t ≡ is_some (get m key)
tag_there m key None holds = ap is_some (sym holds)
tag_there m key (Some tagged) holds = ap is_some (sym holds.there)

no_prior : (mirrored : Bool) → None ≡ (if mirrored then tag_in None else None)
no_prior true = refl
no_prior false = refl

one_prior : (mirrored : Bool) (stored : Stored) → not mirrored ≡ false → tag_in (Some stored) ≡ (if mirrored then tag_in (Some stored) else None)
one_prior true stored is = refl
one_prior false stored is = absurd (true≢false is)

tag_prior : (m : FlaggedMap) (key : List ℕ) (flags : ℕ) (t : Option Tagged) → TagOr (get m key) (Ok t) → (is_some t && not (is_mirrored flags)) ≡ false → tag_with t ≡ prior_in m flags key
tag_prior m key flags None holds mirrors = no_prior (is_mirrored flags) ∙ ap (λ (o : Option Stored). if is_mirrored flags then tag_in o else None) (sym holds)
tag_prior m key flags (Some tagged) holds mirrors =
    holds.tag ∙ one_prior (is_mirrored flags) holds.stored mirrors ∙ ap (λ (o : Option Stored). if is_mirrored flags then tag_in o else None) (sym holds.there)

first_false : (a b : Bool) → (a || b) ≡ false → a ≡ false
first_false true b is = absurd (true≢false is)
first_false false b is = refl

second_false : (a b : Bool) → (a || b) ≡ false → b ≡ false
second_false true b is = absurd (true≢false is)
second_false false b is = is

-- ---- the answer by three tests

abbrev answer : Bool → Bool → Bool → Option (List ℕ) → Result (Option (List ℕ)) KvError
answer p m s t = if p then Err error.WriteProtected else if m then Err error.InvalidFlags else if s then Err error.IvSpent else Ok t

abbrev refusal : Bool → Bool → Bool → Option KvError → Option KvError
refusal p m s rest = if p then Some error.WriteProtected else if m then Some error.InvalidFlags else if s then Some error.IvSpent else rest

abbrev error_of : Result (Option (List ℕ)) KvError → KvError
error_of (Ok x) = error.NotFound
error_of (Err e) = e

record Passed (p m s : Bool) (t prior : Option (List ℕ)) : Type 0 where
  pub free : p ≡ false
  pub mirrors : m ≡ false
  pub unspent : s ≡ false
  pub prior_is : t ≡ prior

passed : (p m s : Bool) (t prior : Option (List ℕ)) → answer p m s t ≡ Ok prior → Passed p m s t prior
passed true m s t prior is = absurd (cc is)
passed false true s t prior is = absurd (cc is)
passed false false true t prior is = absurd (cc is)
passed false false false t prior is = record { free = refl; mirrors = refl; unspent = refl; prior_is = cc is }

answer_cause : (p m s : Bool) (t : Option (List ℕ)) (e : KvError) (a b : Opening) → answer p m s t ≡ Err e → IsCause a b (Refused e)
answer_cause true m s t e a b is = subst (λ (f : KvError). IsCause a b (Refused f)) (ap error_of is) tt
answer_cause false true s t e a b is = subst (λ (f : KvError). IsCause a b (Refused f)) (ap error_of is) tt
answer_cause false false true t e a b is = subst (λ (f : KvError). IsCause a b (Refused f)) (ap error_of is) tt
answer_cause false false false t e a b is = absurd (cc is)

answer_unwritten : (p m s : Bool) (t : Option (List ℕ)) (e : KvError) → answer p m s t ≡ Err e → e ≡ error.WriteFault → ⊥
answer_unwritten true m s t e is fault = let same : error.WriteProtected ≡ e = ap error_of is in cc (same, fault)
answer_unwritten false true s t e is fault = let same : error.InvalidFlags ≡ e = ap error_of is in cc (same, fault)
answer_unwritten false false true t e is fault = let same : error.IvSpent ≡ e = ap error_of is in cc (same, fault)
answer_unwritten false false false t e is fault = cc is

answer_refuses : (p m s : Bool) (t : Option (List ℕ)) (e : KvError) (rest : Option KvError) (checks : List Check) → first_refusal checks ≡ refusal p m s rest → answer p m s t ≡ Err e
    → RefusesBy checks e (kind_of (Refused e))
answer_refuses true m s t e rest checks first is = subst (λ (f : KvError). RefusesBy checks f (kind_of (Refused f))) (ap error_of is) first
answer_refuses false true s t e rest checks first is = subst (λ (f : KvError). RefusesBy checks f (kind_of (Refused f))) (ap error_of is) first
answer_refuses false false true t e rest checks first is = subst (λ (f : KvError). RefusesBy checks f (kind_of (Refused f))) (ap error_of is) first
answer_refuses false false false t e rest checks first is = absurd (cc is)

-- ---- both stores

unread_unwritten : (s s' : KvState) (e : KvError) → IsUnread s s' e → e ≡ error.WriteFault → ⊥
unread_unwritten s s' e unread fault =
    false≢true (subst (λ (f : KvError). IsTrue (may_end (Info []) (kind_of (Refused f)))) fault unread.may_end)

module _ (root : List ℕ) (number : ℕ) (by_above by_below : Constants → Rules) (u u' r r' : KvState) (key : List ℕ) (size flags : ℕ)
    (named : is_key key ≡ true) (secure : is_secure_flags flags ≡ true) (most : size ≤ MAX_SECURE_VALUE) (one : HasRead u u') where
  abbrev constants : Constants
  constants = pair_constants root u.known.constants r.known.constants

  failed_read : (above below : StoreState) (who : ℕ) (e : KvError) → e ≡ error.ReadFault → RefusesBy (set_checks constants (joined number above below) who key size flags) e (kind_of (Refused e))
  failed_read above below who e is =
      subst (λ (f : KvError). RefusesBy (set_checks constants (joined number above below) who key size flags) f (kind_of (Refused f))) (sym is)
      (refl, set_may_read constants number above below who key size flags named secure most)

  pub unread_above : (e : KvError) → IsUnread u u' e → WhereTold by_above u (λ state. FlagsOr (get state.primary key) (Err e))
      → IsRefusedSet (parts root number by_above u by_below r) (parts root number by_above u' by_below r) (request_of key size flags) e
  unread_above e unread fails = record {
    cause = λ before after. cause_carried (carries_above root u u' r r before after (read_none r).keeps) e unread.cause;
    unwritten = unread_unwritten u u' e unread;
    leads = λ above below idle idle_too who. failed_read above below who e (fails above (tells_idle idle));
  }

  module _ (two : HasRead r r') where
    pub unread_below : (e : KvError) → IsUnread r r' e → WhereTold by_below r (λ state. TagOr (get state.primary key) (Err e))
        → IsRefusedSet (parts root number by_above u by_below r) (parts root number by_above u' by_below r') (request_of key size flags) e
    unread_below e unread fails = record {
      cause = λ before after. cause_carried (carries_below root u u' r r' before after one.keeps) e unread.cause;
      unwritten = unread_unwritten r r' e unread;
      leads = λ above below idle idle_too who. failed_read above below who e (fails below (tells_idle idle_too));
    }

    module _ (f : Option Flags) (t : Option Tagged) (holds : WhereTold by_above u (λ state. FlagsOr (get state.primary key) (Ok f)))
        (holds_too : WhereTold by_below r (λ state. TagOr (get state.primary key) (Ok t))) where
      abbrev p : Bool
      p = is_once f || is_once (flags_with t)

      abbrev m : Bool
      m = is_some t && not (is_mirrored flags)

      abbrev s : Bool
      s = is_numbered flags && number == last_number

      pub is_admitted : (prior : Option (List ℕ)) → admitted f t flags number ≡ Ok prior → IsAdmitted (parts root number by_above u' by_below r') key size flags prior
      is_admitted prior is =
          let through = passed p m s (tag_with t) prior is in
          record {
            named = named;
            secure = secure;
            most = most;
            unspent = through.unspent;
            above = λ state idle. sym (once_is state.primary key f (holds state (tells_before one idle))) ∙ first_false (is_once f) (is_once (flags_with t)) through.free;
            below = λ state idle.
                let there = holds_too state (tells_before two idle) in
                record {
                  free = sym (tag_once state.primary key t there) ∙ second_false (is_once f) (is_once (flags_with t)) through.free;
                  mirrors = ap (λ (b : Bool). b && not (is_mirrored flags)) (sym (tag_there state.primary key t there)) ∙ through.mirrors;
                  replaces = sym through.prior_is ∙ tag_prior state.primary key flags t there through.mirrors;
                };
          }

      pub is_refused : (e : KvError) → admitted f t flags number ≡ Err e
          → IsRefusedSet (parts root number by_above u by_below r) (parts root number by_above u' by_below r') (request_of key size flags) e
      is_refused e is = record {
        cause = λ before after. answer_cause p m s (tag_with t) e (pair root before u r).known (pair root after u' r').known is;
        unwritten = answer_unwritten p m s (tag_with t) e is;
        leads = λ above below idle idle_too who.
            let state : StoreState = joined number above below in
            let there = holds_too below (tells_idle idle_too) in
            let rest : Option KvError = first_refusal (room_checks constants state key size flags) in
            answer_refuses p m s (tag_with t) e rest (set_checks constants state who key size flags)
            (past (not (is_key key)) error.InvalidKey _ (ap not named) ∙ past (not (is_secure_flags flags)) error.InvalidFlags _ (ap not secure)
            ∙ past (nat_lt MAX_SECURE_VALUE size) error.InvalidSize (refusal (is_protected constants state key) (unmirrors constants state key flags) s rest) (small_size size most)
            ∙ ap₂ (λ (x y : Bool). refusal x y s rest)
            (ap₂ (λ (x y : Bool). x || y) (sym (once_is above.primary key f (holds above (tells_idle idle)))) (sym (tag_once below.primary key t there)))
            (ap (λ (b : Bool). b && not (is_mirrored flags)) (sym (tag_there below.primary key t there)))) is;
      }

-- ---- a set that was refused

stops_here : (applies : Bool) (e : KvError) (rest : Option KvError) → applies ≡ true → (if applies then Some e else rest) ≡ Some e
stops_here true e rest is = refl
stops_here false e rest is = absurd (false≢true is)

-- the number of an admitted set isn't the last one
pub unspent_number : (number flags : ℕ) → number < 2 ^ 64 → (is_numbered flags && number == last_number) ≡ false → is_numbered flags ≡ true → number + 1 ≤ last_number
unspent_number number flags small unspent numbered =
    let other : (number == last_number) ≡ false = ap (λ (b : Bool). b && number == last_number) (sym numbered) ∙ unspent in
    let apart : number ≡ last_number → ⊥ = λ is. true≢false (sym (same_number number last_number is) ∙ other) in
    omega (arith, apart, small) where
      same_number : (a b : ℕ) → a ≡ b → (a == b) ≡ true
      same_number a b is = grind (arith, nat_tests)

module _ (root : List ℕ) (number : ℕ) (by_above by_below : Constants → Rules) (u u' r r' : KvState) (who : ℕ) (key : List ℕ) (size flags : ℕ) (operation : Operation)
    (asks : AsksSet operation key size flags) where
  abbrev rules_here : Rules
  rules_here = secure_rules (pair_constants root u.known.constants r.known.constants)

  leads_by : (state : StoreState) (e : KvError) (kind : Kind) → state.doubt ≡ None → RefusesBy (set_checks (pair_constants root u.known.constants r.known.constants) state who key size flags) e kind
      → LeadsTo rules_here state (answered who operation (Refused e)) state kind
  leads_by state e Ruled running refuses_it =
      running_step rules_here state who operation running
      ∙ ap (λ (o : Option KvError). refused_or rules_here state who operation o) (ap first_refusal (asks.checks (pair_constants root u.known.constants r.known.constants) state who) ∙ refuses_it)
      ∙ ap (λ (s : StoreState). refuses s e) (asks.stays state e)
  leads_by state e FailedRead running refuses_it = (
    running,
    subst (λ (l : List Check). IsTrue (may_fail_reading l)) (sym (asks.checks (pair_constants root u.known.constants r.known.constants) state who)) refuses_it.1,
    ap (λ (f : KvError). record { state = state; reply = Refused f }) refuses_it.0,
  )
  leads_by state e FailedWrite running refuses_it = absurd refuses_it
  leads_by state e Mismatched running refuses_it = absurd refuses_it
  leads_by state e Wanted running refuses_it = absurd refuses_it

  pub set_refused : HasRead u u' → HasRead r r' → (e : KvError) → IsRefusedSet (parts root number by_above u by_below r) (parts root number by_above u' by_below r') (request_of key size flags) e
      → HasRun (parts root number by_above u by_below r) (parts root number by_above u' by_below r') (answered who operation (Refused e))
  set_refused one two e refused =
      run_refused root number by_above by_below u u' r r' one two who operation e refused.cause (asks.ends (kind_of (Refused e)))
      (λ above below idle idle_too. leads_by (joined number above below) e (kind_of (Refused e)) refl (refused.leads above below idle idle_too who))

  -- its key is none
  pub set_unnamed : (e : KvError) → e ≡ error.InvalidKey → is_key key ≡ false
      → HasRun (parts root number by_above u by_below r) (parts root number by_above u by_below r) (answered who operation (Refused e))
  set_unnamed e is bad =
      subst (λ (f : KvError). HasRun (parts root number by_above u by_below r) (parts root number by_above u by_below r) (answered who operation (Refused f))) (sym is)
      (run_refused root number by_above by_below u u r r (read_none u) (read_none r) who operation error.InvalidKey (λ before after. tt) (asks.ends Ruled)
      (λ above below idle idle_too. leads_by (joined number above below) error.InvalidKey Ruled refl (unnamed (joined number above below)))) where
        unnamed : (state : StoreState) → first_refusal (set_checks (pair_constants root u.known.constants r.known.constants) state who key size flags) ≡ Some error.InvalidKey
        unnamed state = stops_here (not (is_key key)) error.InvalidKey _ (ap not bad)
