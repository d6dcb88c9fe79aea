-- What a read of one of the two stores gives, and what it leaves.
use Rattle.std.proofs.Common.{◌≡◌, ◌⊎◌, ℕ, ◌+◌, ◌≤◌, Bool, true, false, nat_lt, List, [], length, length-take, length-drop, take, drop, Option, Some, None, refl, sym, ◌∙◌, ap, subst, inl, inr, arith}
use Rattle.std.specs.Prelude.{if◌then◌else◌, is_some, IsTrue}
use mathlib.Core.Bool.{false≢true, true≢false}
use Rattle.std.specs.FinMap.{get}
use Rattle.kv_model.specs.declared.error.KvError.{KvError}
use Rattle.kv_model.specs.declared.error.KvError.TheVariants as error
use Rattle.kv_model.specs.declared.call.Reply.{Reply}
use Rattle.std.proofs.lemmas.Bool.Decides.{nat_tests}
use Rattle.kv_model.specs.declared.call.Got.{Got}
use Rattle.kv_model.specs.declared.call.Reply.TheVariants.{Value, Facts, Refused}
use Rattle.kv_model.specs.Given.{IsGot}
use Rattle.kv_model.specs.Constants.{Constants}
use Rattle.kv_model.specs.FlaggedMap.{Stored}
use Rattle.kv_model.specs.Keys.{is_key}
use Rattle.kv_model.specs.StoreState.{StoreState}
use Rattle.kv_model.specs.Operations.{Info, Part}
use Rattle.kv_model.specs.PlainStep.{plain_rules}
use Rattle.kv_model.specs.Rules.{AreRules, Outcome, Rules, refused_or, refuses, step}
use Rattle.kv_model.specs.Kv.{Answers, Kind, KvState, LeadsTo, TellsOnly, UnlessFailedWrite, answered, kind_of, may_end, Ruled, FailedRead, FailedWrite, Mismatched, Wanted}
use Rattle.kv_model.proofs.PerformLemmas.{part_reading, step_stays}
use Rattle.sealed_pair.specs.Reading.{Begins, HasRead, IsUnread, TellsPlain, part_at}

pub some_of : {X : Type 0} (o : Option X) → is_some o ≡ true → (x : X) × (o ≡ Some x)
some_of None is = absurd (true≢false (sym is))
some_of (Some x) is = (x, refl)

-- two options of which one is told where the other is, and that agree
pub same_options : {X : Type 0} (old new : Option X) → is_some new ≡ is_some old → ((x y : X) → old ≡ Some x → new ≡ Some y → y ≡ x) → new ≡ old
same_options None None same agree = refl
same_options None (Some y) same agree = absurd (true≢false same)
same_options (Some x) None same agree = absurd (false≢true same)
same_options (Some x) (Some y) same agree = ap (λ (s : _). Some s) (agree x y refl refl)

abbrev error_in : Reply → KvError
error_in (Refused e) = e
error_in reply = error.NotFound

module _ (rules_by : Constants → Rules) (are_by : (constants : Constants) → AreRules (rules_by constants)) (who : ℕ) (key : List ℕ) (place n : ℕ) where
  leaves : (rules : Rules) → AreRules rules → (old after : StoreState) (reply : Reply) (kind : Kind) → IsTrue (may_end (Part key place n) kind)
      → LeadsTo rules old (answered who (Part key place n) reply) after kind → after ≡ old
  leaves rules are old after reply Ruled may leads =
      ap (λ (o : Outcome). o.state) (sym leads) ∙ step_stays rules are old who key (part_reading rules are old who key place n)
  leaves rules are old after reply FailedRead may leads = ap (λ (o : Outcome). o.state) leads.2
  leaves rules are old after reply FailedWrite may leads = absurd (false≢true may)
  leaves rules are old after reply Mismatched may leads = absurd leads
  leaves rules are old after reply Wanted may leads = leads

  unless_writes : {P : Type 0} (kind : Kind) → IsTrue (may_end (Part key place n) kind) → UnlessFailedWrite kind P → P
  unless_writes Ruled may p = p
  unless_writes FailedRead may p = p
  unless_writes FailedWrite may p = absurd (false≢true may)
  unless_writes Mismatched may p = p
  unless_writes Wanted may p = p

  -- a read leaves the store
  pub has_read : (old new : KvState) (reply : Reply) → Answers rules_by old new (answered who (Part key place n) reply) → HasRead old new
  has_read old new reply answers = record {
    keeps = answers.does.keeps;
    state = same_options old.known.state new.known.state answers.does.keeps.tells_state
        (λ before after is later. leaves (rules_by old.known.constants) (are_by old.known.constants) before after reply (kind_of reply) answers.may_end (answers.does.leads before is after later));
    steady = λ steady. unless_writes (kind_of reply) answers.may_end (answers.does.steady steady);
    moments = λ tells before is.
        subst (λ (after : StoreState). TellsOnly old.crash.primary new.crash.primary before.primary after.primary)
        (step_stays (rules_by old.known.constants) (are_by old.known.constants) before who key (part_reading (rules_by old.known.constants) (are_by old.known.constants) before who key place n))
        (answers.does.cuts tells before is).0;
  }

  abbrev pub outcome_by : StoreState → Stored → Bool → Outcome
  outcome_by state stored large = if large then refuses state error.InvalidSize else record { state = state; reply = Value (take n (drop place stored.bytes)) }

  -- what a plain store answers
  abbrev pub part_outcome : StoreState → Option Stored → Outcome
  part_outcome state None = refuses state error.NotFound
  part_outcome state (Some stored) = outcome_by state stored (nat_lt (length stored.bytes) place)

  lifted : (constants : Constants) (state : StoreState) (stored : Stored) (large : Bool) → get state.primary key ≡ Some stored
      → refused_or (plain_rules constants) state who (Part key place n) (if large then Some error.InvalidSize else None) ≡ outcome_by state stored large
  lifted constants state stored true there = refl
  lifted constants state stored false there = simp there refl

  part_step : (constants : Constants) (state : StoreState) (found : Option Stored) → state.doubt ≡ None → is_key key ≡ true → get state.primary key ≡ found
      → step (plain_rules constants) state who (Part key place n) ≡ part_outcome state found
  part_step constants state None running good there = simp (running, good, there) refl
  part_step constants state (Some stored) running good there = simp (running, good, there) (lifted constants state stored (nat_lt (length stored.bytes) place) there)

  -- the state that a plain store tells after a call, and how it came to it
  pub record Went (state : StoreState) (reply : Reply) : Type 0 where
    pub constants : Constants
    pub after : StoreState
    pub leads : LeadsTo (plain_rules constants) state (answered who (Part key place n) reply) after (kind_of reply)

  went : (old new : KvState) (reply : Reply) (state : StoreState) → TellsPlain rules_by old state → Answers rules_by old new (answered who (Part key place n) reply)
      → Went state reply
  went old new reply state tells answers =
      let there = some_of new.known.state (answers.does.keeps.tells_state ∙ ap is_some tells.told) in
      record {
        constants = old.known.constants;
        after = there.0;
        leads = subst (λ (by : Constants → Rules). LeadsTo (by old.known.constants) state (answered who (Part key place n) reply) there.0 (kind_of reply))
            tells.rules (answers.does.leads state tells.told there.0 there.1);
      }

  ended : (rules : Rules) (old after : StoreState) (e : KvError) (kind : Kind) → IsTrue (may_end (Part key place n) kind)
      → LeadsTo rules old (answered who (Part key place n) (Refused e)) after kind
      → (e ≡ error.ReadFault) ⊎ (step rules old who (Part key place n) ≡ record { state = after; reply = Refused e })
  ended rules old after e Ruled may leads = inr leads
  ended rules old after e FailedRead may leads = inl (ap error_in (ap (λ (o : Outcome). o.reply) leads.2))
  ended rules old after e FailedWrite may leads = absurd (false≢true may)
  ended rules old after e Mismatched may leads = absurd leads
  ended rules old after e Wanted may leads = absurd (false≢true may)

  -- a plain store that refuses a read either failed to read, or answers so by its step
  pub refused_by : (old new : KvState) (e : KvError) (state : StoreState) (found : Option Stored) → TellsPlain rules_by old state → is_key key ≡ true
      → get state.primary key ≡ found → Answers rules_by old new (answered who (Part key place n) (Refused e))
      → (e ≡ error.ReadFault) ⊎ ((part_outcome state found).reply ≡ Refused e)
  refused_by old new e state found tells good there answers =
      let w = went old new (Refused e) state tells answers in
      elim (ended (plain_rules w.constants) state w.after e (kind_of (Refused e)) answers.may_end w.leads) [
        | inl failed ↦ inl failed
        | inr stepped ↦ inr (ap (λ (o : Outcome). o.reply) (sym (part_step w.constants state found tells.running good there) ∙ stepped))
      ]

  -- a plain store that gives a part answers so by its step
  pub given_by : (old new : KvState) (bytes : List ℕ) (state : StoreState) (found : Option Stored) → TellsPlain rules_by old state → is_key key ≡ true
      → get state.primary key ≡ found → Answers rules_by old new (answered who (Part key place n) (Value bytes))
      → (part_outcome state found).reply ≡ Value bytes
  given_by old new bytes state found tells good there answers =
      let w = went old new (Value bytes) state tells answers in
      ap (λ (o : Outcome). o.reply) (sym (part_step w.constants state found tells.running good there) ∙ w.leads)

-- ---- whole reads

may_read : (key : List ℕ) (place n : ℕ) (kind : Kind) → IsTrue (may_end (Part key place n) kind) → IsTrue (may_end (Info []) kind)
may_read key place n Ruled may = may
may_read key place n FailedRead may = may
may_read key place n FailedWrite may = may
may_read key place n Mismatched may = may
may_read key place n Wanted may = may

pub is_unread : (rules_by : Constants → Rules) (old new : KvState) (key : List ℕ) (place n : ℕ) (e : KvError)
    → Answers rules_by old new (answered 0 (Part key place n) (Refused e)) → IsUnread old new e
is_unread rules_by old new key place n e answers = record { cause = answers.does.cause; may_end = may_read key place n (kind_of (Refused e)) answers.may_end }

abbrev value_in : Reply → List ℕ
value_in (Value bytes) = bytes
value_in reply = []

abbrev size_in : Reply → ℕ
size_in (Facts n flags) = n
size_in reply = 0

abbrev flags_given : Reply → ℕ
flags_given (Facts n flags) = flags.bits
flags_given reply = 0

abbrev as_reply : Reply → Reply
as_reply reply = reply

never_below_none : (n : ℕ) → nat_lt n 0 ≡ false
never_below_none n = grind (arith, nat_tests)

info_size : (constants : Constants) (state : StoreState) (key : List ℕ) (stored : Stored) → state.doubt ≡ None → is_key key ≡ true
    → get state.primary key ≡ Some stored → size_in (step (plain_rules constants) state 0 (Info key)).reply ≡ length stored.bytes
info_size constants state key stored running good there = simp (running, good, there) refl

info_flags : (constants : Constants) (state : StoreState) (key : List ℕ) (stored : Stored) → state.doubt ≡ None → is_key key ≡ true
    → get state.primary key ≡ Some stored → flags_given (step (plain_rules constants) state 0 (Info key)).reply ≡ stored.flags
info_flags constants state key stored running good there = simp (running, good, there) refl

module _ (rules_by : Constants → Rules) (are_by : (constants : Constants) → AreRules (rules_by constants)) (key : List ℕ) (old new : KvState) (state : StoreState)
    (tells : TellsPlain rules_by old state) (good : is_key key ≡ true) where
  begins_by : (n : ℕ) (got : Got) (buf : List ℕ) (found : Option Stored) → get state.primary key ≡ found → length buf ≡ n
      → Answers rules_by old new (answered 0 (Part key 0 n) (Value (take got.read buf))) → IsGot rules_by old key n got → Begins found n got buf
  begins_by n got buf None there long answers is_got =
      let same : as_reply (Refused error.NotFound) ≡ as_reply (Value (take got.read buf)) = given_by rules_by are_by 0 key 0 n old new (take got.read buf) state None tells good there answers in
      absurd (cc)
  begins_by n got buf (Some stored) there long answers is_got =
      let given = given_by rules_by are_by 0 key 0 n old new (take got.read buf) state (Some stored) tells good there answers in
      let bytes : take n stored.bytes ≡ take got.read buf =
      ap (λ (b : Bool). value_in (if b then refuses state error.InvalidSize else record { state = state; reply = Value (take n stored.bytes) }).reply) (sym (never_below_none (length stored.bytes)))
      ∙ ap value_in given in
      let facts = subst (λ (by : Constants → Rules). (step (by old.known.constants) state 0 (Info key)).reply ≡ Facts got.size got.flags) tells.rules (is_got.facts state tells.told) in
      let long_as : size_in (step (plain_rules old.known.constants) state 0 (Info key)).reply ≡ got.size = ap size_in facts in
      let flagged : flags_given (step (plain_rules old.known.constants) state 0 (Info key)).reply ≡ got.flags.bits = ap flags_given facts in
      record {
        stored = stored;
        there = refl;
        size = sym long_as ∙ info_size old.known.constants state key stored tells.running good there;
        flags = sym flagged ∙ info_flags old.known.constants state key stored tells.running good there;
        read = omega (arith, ap length bytes, length-take n stored.bytes, length-take got.read buf, is_got.fits, long);
        bytes = sym bytes;
      }

  pub front_begins : (n : ℕ) (got : Got) (buf : List ℕ) → length buf ≡ n
      → Answers rules_by old new (answered 0 (Part key 0 n) (Value (take got.read buf))) → IsGot rules_by old key n got → Begins (get state.primary key) n got buf
  front_begins n got buf long answers is_got = begins_by n got buf (get state.primary key) refl long answers is_got

  unlike : (e : KvError) (f : KvError) → (Refused e ≡ Refused f) → e ≡ f
  unlike e f is = ap error_in is

  absent_by : (n : ℕ) (found : Option Stored) → get state.primary key ≡ found
      → Answers rules_by old new (answered 0 (Part key 0 n) (Refused error.NotFound)) → found ≡ None
  absent_by n None there answers = refl
  absent_by n (Some stored) there answers =
      elim (refused_by rules_by are_by 0 key 0 n old new error.NotFound state (Some stored) tells good there answers) [
        | inl failed ↦ absurd (cc)
        | inr refused ↦
            let same : as_reply (Value (take n stored.bytes)) ≡ as_reply (Refused error.NotFound) =
            ap (λ (b : Bool). (if b then refuses state error.InvalidSize else record { state = state; reply = Value (take n stored.bytes) }).reply) (sym (never_below_none (length stored.bytes)))
            ∙ refused in absurd (cc)
      ]

  pub front_absent : (n : ℕ) (e : KvError) → e ≡ error.NotFound → Answers rules_by old new (answered 0 (Part key 0 n) (Refused e)) → get state.primary key ≡ None
  front_absent n e is answers =
      absent_by n (get state.primary key) refl (subst (λ (f : KvError). Answers rules_by old new (answered 0 (Part key 0 n) (Refused f))) is answers)

  beyond_or : (large : Bool) (e : KvError) (n place : ℕ) (stored : Stored)
      → (if large then refuses state error.InvalidSize else record { state = state; reply = Value (take n (drop place stored.bytes)) }).reply ≡ Refused e
      → (e ≡ error.InvalidSize → ⊥) → ⊥
  beyond_or true e n place stored refused not_beyond = not_beyond (sym (ap error_in refused))
  beyond_or false e n place stored refused not_beyond =
      let same : as_reply (Value (take n (drop place stored.bytes))) ≡ as_reply (Refused e) = refused in absurd (cc)

  fails_by : (place n : ℕ) (e : KvError) (found : Option Stored) → get state.primary key ≡ found → (e ≡ error.NotFound → ⊥)
      → (e ≡ error.InvalidSize → ⊥) → Answers rules_by old new (answered 0 (Part key place n) (Refused e)) → e ≡ error.ReadFault
  fails_by place n e None there not_absent not_beyond answers =
      elim (refused_by rules_by are_by 0 key place n old new e state None tells good there answers) [
        | inl failed ↦ failed
        | inr refused ↦ absurd (not_absent (sym (ap error_in refused)))
      ]
  fails_by place n e (Some stored) there not_absent not_beyond answers =
      elim (refused_by rules_by are_by 0 key place n old new e state (Some stored) tells good there answers) [
        | inl failed ↦ failed
        | inr refused ↦ absurd (beyond_or (nat_lt (length stored.bytes) place) e n place stored refused not_beyond)
      ]

  never_beyond : (n : ℕ) (found : Option Stored) → get state.primary key ≡ found
      → Answers rules_by old new (answered 0 (Part key 0 n) (Refused error.InvalidSize)) → ⊥
  never_beyond n None there answers =
      elim (refused_by rules_by are_by 0 key 0 n old new error.InvalidSize state None tells good there answers) [
        | inl failed ↦ absurd (cc)
        | inr refused ↦ let same : error.NotFound ≡ error.InvalidSize = ap error_in refused in absurd (cc)
      ]
  never_beyond n (Some stored) there answers =
      elim (refused_by rules_by are_by 0 key 0 n old new error.InvalidSize state (Some stored) tells good there answers) [
        | inl failed ↦ absurd (cc)
        | inr refused ↦
            let same : as_reply (Value (take n stored.bytes)) ≡ as_reply (Refused error.InvalidSize) =
            ap (λ (b : Bool). (if b then refuses state error.InvalidSize else record { state = state; reply = Value (take n stored.bytes) }).reply) (sym (never_below_none (length stored.bytes)))
            ∙ refused in absurd (cc)
      ]

  pub front_fails : (n : ℕ) (e : KvError) → (e ≡ error.NotFound → ⊥) → Answers rules_by old new (answered 0 (Part key 0 n) (Refused e)) → e ≡ error.ReadFault
  front_fails n e not_absent answers =
      fails_by 0 n e (get state.primary key) refl not_absent
      (λ is. never_beyond n (get state.primary key) refl (subst (λ (f : KvError). Answers rules_by old new (answered 0 (Part key 0 n) (Refused f))) is answers)) answers

  -- ---- a part that lies in the value

  module _ (place n : ℕ) (stored : Stored) (there : get state.primary key ≡ Some stored) (within : place + n ≤ length stored.bytes) where
    fits : nat_lt (length stored.bytes) place ≡ false
    fits = grind (arith, nat_tests)

    reply_is : (part_outcome rules_by are_by 0 key place n state (Some stored)).reply ≡ Value (part_at stored.bytes place n)
    reply_is = ap (λ (b : Bool). (if b then refuses state error.InvalidSize else record { state = state; reply = Value (take n (drop place stored.bytes)) }).reply) fits

    pub part_given : (bytes : List ℕ) → Answers rules_by old new (answered 0 (Part key place n) (Value bytes)) → bytes ≡ part_at stored.bytes place n
    part_given bytes answers =
        sym (ap value_in (sym reply_is ∙ given_by rules_by are_by 0 key place n old new bytes state (Some stored) tells good there answers))

    pub part_whole : (read : ℕ) (buf : List ℕ) → read ≤ n → length buf ≡ n → Answers rules_by old new (answered 0 (Part key place n) (Value (take read buf))) → read ≡ n
    part_whole read buf most long answers =
        omega (arith, ap length (part_given (take read buf) answers), length-take read buf, length-take n (drop place stored.bytes), length-drop place stored.bytes, within, long, most)

    pub part_fails : (e : KvError) → Answers rules_by old new (answered 0 (Part key place n) (Refused e)) → e ≡ error.ReadFault
    part_fails e answers =
        elim (refused_by rules_by are_by 0 key place n old new e state (Some stored) tells good there answers) [
          | inl failed ↦ failed
          | inr refused ↦ let same : as_reply (Value (part_at stored.bytes place n)) ≡ as_reply (Refused e) = sym reply_is ∙ refused in absurd (cc)
        ]
