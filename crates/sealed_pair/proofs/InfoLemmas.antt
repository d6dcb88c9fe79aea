-- What an info of one of the two stores gives, and what it leaves.
use Rattle.std.proofs.Common.{◌≡◌, ◌⊎◌, ℕ, true, List, length, Option, Some, None, refl, sym, ◌∙◌, ap, subst, inl, inr}
use Rattle.std.specs.Prelude.{[], is_some, IsTrue}
use mathlib.Core.Bool.{false≢true}
use Rattle.std.specs.FinMap.{get}
use Rattle.kv_model.specs.declared.error.KvError.{KvError}
use Rattle.kv_model.specs.declared.error.KvError.TheVariants as error
use Rattle.kv_model.specs.declared.flags.Flags.{Flags}
use Rattle.kv_model.specs.declared.call.Reply.{Reply}
use Rattle.kv_model.specs.declared.call.Reply.TheVariants.{Facts, Refused}
use Rattle.kv_model.specs.Constants.{Constants}
use Rattle.kv_model.specs.FlaggedMap.{Stored}
use Rattle.kv_model.specs.Keys.{is_key}
use Rattle.kv_model.specs.StoreState.{StoreState}
use Rattle.kv_model.specs.Operations.{Info}
use Rattle.kv_model.specs.PlainStep.{plain_rules}
use Rattle.kv_model.specs.Rules.{AreRules, Outcome, Rules, refuses, step}
use Rattle.kv_model.specs.Kv.{Answers, Kind, KvState, LeadsTo, TellsOnly, UnlessFailedWrite, answered, kind_of, may_end, Ruled, FailedRead, FailedWrite, Mismatched, Wanted}
use Rattle.kv_model.proofs.PerformLemmas.{info_reading, step_stays}
use Rattle.sealed_pair.specs.Reading.{HasRead, IsUnread, TellsPlain}
use Rattle.sealed_pair.specs.Removing.{HasFlags}
use Rattle.sealed_pair.proofs.ReadingLemmas.{same_options, some_of}

abbrev reply_error : Reply → KvError
reply_error (Refused e) = e
reply_error reply = error.NotFound

abbrev reply_flags : Reply → ℕ
reply_flags (Facts n flags) = flags.bits
reply_flags reply = 0

abbrev as_reply : Reply → Reply
as_reply reply = reply

module _ (rules_by : Constants → Rules) (are_by : (constants : Constants) → AreRules (rules_by constants)) (who : ℕ) (key : List ℕ) where
  leaves : (rules : Rules) → AreRules rules → (old after : StoreState) (reply : Reply) (kind : Kind) → IsTrue (may_end (Info key) kind)
      → LeadsTo rules old (answered who (Info key) reply) after kind → after ≡ old
  leaves rules are old after reply Ruled may leads =
      ap (λ (o : Outcome). o.state) (sym leads) ∙ step_stays rules are old who key (info_reading rules are old who key)
  leaves rules are old after reply FailedRead may leads = ap (λ (o : Outcome). o.state) leads.2
  leaves rules are old after reply FailedWrite may leads = absurd (false≢true may)
  leaves rules are old after reply Mismatched may leads = absurd leads
  leaves rules are old after reply Wanted may leads = leads

  unless_writes : (P : Type 0) (kind : Kind) → IsTrue (may_end (Info key) kind) → UnlessFailedWrite kind P → P
  unless_writes P Ruled may p = p
  unless_writes P FailedRead may p = p
  unless_writes P FailedWrite may p = absurd (false≢true may)
  unless_writes P Mismatched may p = p
  unless_writes P Wanted may p = p

  -- an info leaves the store
  pub info_reads : (old new : KvState) (reply : Reply) → Answers rules_by old new (answered who (Info key) reply) → HasRead old new
  info_reads old new reply answers = record {
    keeps = answers.does.keeps;
    state = same_options old.known.state new.known.state answers.does.keeps.tells_state
        (λ before after is later. leaves (rules_by old.known.constants) (are_by old.known.constants) before after reply (kind_of reply) answers.may_end (answers.does.leads before is after later));
    steady = λ steady. unless_writes (new.known.steady ≡ true) (kind_of reply) answers.may_end (answers.does.steady steady);
    moments = λ tells before is.
        subst (λ (after : StoreState). TellsOnly old.crash.primary new.crash.primary before.primary after.primary)
        (step_stays (rules_by old.known.constants) (are_by old.known.constants) before who key (info_reading (rules_by old.known.constants) (are_by old.known.constants) before who key))
        (answers.does.cuts tells before is).0;
  }

  may_read : (kind : Kind) → IsTrue (may_end (Info key) kind) → IsTrue (may_end (Info []) kind)
  may_read Ruled may = may
  may_read FailedRead may = may
  may_read FailedWrite may = may
  may_read Mismatched may = may
  may_read Wanted may = may

  pub info_unread : (old new : KvState) (e : KvError) → Answers rules_by old new (answered who (Info key) (Refused e)) → IsUnread old new e
  info_unread old new e answers = record { cause = answers.does.cause; may_end = may_read (kind_of (Refused e)) answers.may_end }

  -- what a plain store answers
  abbrev info_outcome : StoreState → Option Stored → Outcome
  info_outcome state None = refuses state error.NotFound
  info_outcome state (Some stored) = record { state = state; reply = Facts (length stored.bytes) (record { bits = stored.flags }) }

  info_step : (constants : Constants) (state : StoreState) (found : Option Stored) → state.doubt ≡ None → is_key key ≡ true → get state.primary key ≡ found
      → step (plain_rules constants) state who (Info key) ≡ info_outcome state found
  info_step constants state None running good there = simp (running, good, there) refl
  info_step constants state (Some stored) running good there = simp (running, good, there) refl

  module _ (old new : KvState) (state : StoreState) (tells : TellsPlain rules_by old state) (good : is_key key ≡ true) where
    -- the state that a plain store tells after a call, and how it came to it
    record Went (reply : Reply) : Type 0 where
      pub after : StoreState
      pub leads : LeadsTo (plain_rules old.known.constants) state (answered who (Info key) reply) after (kind_of reply)

    went : (reply : Reply) → Answers rules_by old new (answered who (Info key) reply) → Went reply
    went reply answers =
        let there = some_of new.known.state (answers.does.keeps.tells_state ∙ ap is_some tells.told) in
        record {
          after = there.0;
          leads = subst (λ (by : Constants → Rules). LeadsTo (by old.known.constants) state (answered who (Info key) reply) there.0 (kind_of reply))
              tells.rules (answers.does.leads state tells.told there.0 there.1);
        }

    flags_at : (n : ℕ) (flags : Flags) (found : Option Stored) → get state.primary key ≡ found → (info_outcome state found).reply ≡ Facts n flags → HasFlags found flags
    flags_at n flags None there is = let same : as_reply (Refused error.NotFound) ≡ as_reply (Facts n flags) = is in absurd (cc)
    flags_at n flags (Some stored) there is = record { stored = stored; there = refl; bits = sym (ap reply_flags is) }

    pub info_given : (n : ℕ) (flags : Flags) → Answers rules_by old new (answered who (Info key) (Facts n flags)) → HasFlags (get state.primary key) flags
    info_given n flags answers =
        let w = went (Facts n flags) answers in
        flags_at n flags (get state.primary key) refl (ap (λ (o : Outcome). o.reply) (sym (info_step old.known.constants state (get state.primary key) tells.running good refl) ∙ w.leads))

    ended : (after : StoreState) (e : KvError) (kind : Kind) → IsTrue (may_end (Info key) kind)
        → LeadsTo (plain_rules old.known.constants) state (answered who (Info key) (Refused e)) after kind
        → (e ≡ error.ReadFault) ⊎ (step (plain_rules old.known.constants) state who (Info key) ≡ record { state = after; reply = Refused e })
    ended after e Ruled may leads = inr leads
    ended after e FailedRead may leads = inl (ap reply_error (ap (λ (o : Outcome). o.reply) leads.2))
    ended after e FailedWrite may leads = absurd (false≢true may)
    ended after e Mismatched may leads = absurd leads
    ended after e Wanted may leads = absurd (false≢true may)

    refused_by : (e : KvError) → Answers rules_by old new (answered who (Info key) (Refused e))
        → (e ≡ error.ReadFault) ⊎ ((info_outcome state (get state.primary key)).reply ≡ Refused e)
    refused_by e answers =
        let w = went (Refused e) answers in
        elim (ended w.after e (kind_of (Refused e)) answers.may_end w.leads) [
          | inl failed ↦ inl failed
          | inr stepped ↦ inr (ap (λ (o : Outcome). o.reply) (sym (info_step old.known.constants state (get state.primary key) tells.running good refl) ∙ stepped))
        ]

    absent_at : (found : Option Stored) (e : KvError) → e ≡ error.NotFound → (e ≡ error.ReadFault) ⊎ ((info_outcome state found).reply ≡ Refused e) → found ≡ None
    absent_at found e is (inl failed) = absurd (cc)
    absent_at None e is (inr refused) = refl
    absent_at (Some stored) e is (inr refused) =
        let same : as_reply (Facts (length stored.bytes) (record { bits = stored.flags })) ≡ as_reply (Refused e) = refused in absurd (cc)

    pub info_absent : (e : KvError) → e ≡ error.NotFound → Answers rules_by old new (answered who (Info key) (Refused e)) → get state.primary key ≡ None
    info_absent e is answers = absent_at (get state.primary key) e is (refused_by e answers)

    fails_at : (found : Option Stored) (e : KvError) → (e ≡ error.NotFound → ⊥) → (e ≡ error.ReadFault) ⊎ ((info_outcome state found).reply ≡ Refused e) → e ≡ error.ReadFault
    fails_at found e other (inl failed) = failed
    fails_at None e other (inr refused) = absurd (other (sym (ap reply_error refused)))
    fails_at (Some stored) e other (inr refused) =
        let same : as_reply (Facts (length stored.bytes) (record { bits = stored.flags })) ≡ as_reply (Refused e) = refused in absurd (cc)

    pub info_fails : (e : KvError) → (e ≡ error.NotFound → ⊥) → Answers rules_by old new (answered who (Info key) (Refused e)) → e ≡ error.ReadFault
    info_fails e other answers = fails_at (get state.primary key) e other (refused_by e answers)
