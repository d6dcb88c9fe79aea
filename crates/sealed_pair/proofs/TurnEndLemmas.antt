-- The two ends of a recover: a walk is begun, and it is ended.
use Rattle.std.proofs.Common.{◌≡◌, ℕ, true, List, [], Option, Some, None, Result, Err, refl, sym, ◌∙◌, subst}
use Rattle.std.specs.Prelude.{IsTrue, is_some}
use Rattle.std.specs.FinMap.{empty}
use Rattle.kv_model.specs.declared.error.KvError.{KvError}
use Rattle.kv_model.specs.declared.call.Reply.{Reply}
use Rattle.kv_model.specs.declared.call.Reply.TheVariants.{Done, Refused}
use Rattle.kv_model.specs.Constants.{Constants, Secure}
use Rattle.kv_model.specs.FlaggedMap.{FlaggedMap}
use Rattle.kv_model.specs.Kv.{Answers, IsCause, Keeps, KvState, answered}
use Rattle.kv_model.specs.Operations.{CloseIterator, OpenIterator}
use Rattle.kv_model.specs.Rules.{Rules}
use Rattle.kv_model.specs.StoreState.{StoreState}
use Rattle.sealed_pair.specs.Pair.{Joining, pair}
use Rattle.sealed_pair.specs.Reading.{HasRead, TellsPlain}
use Rattle.sealed_pair.specs.Store.{IsFreshStore}
use Rattle.sealed_pair.specs.Walking.{HasStayed, IsAt, RewritesEach, Walk, all_healed}
use Rattle.sealed_pair.proofs.PairLemmas.{carries_until, cause_all, keeps_both, same_told}
use Rattle.sealed_pair.proofs.ReadingLemmas.{same_options}
use Rattle.sealed_pair.proofs.StayingLemmas.{Closes, Opens, stayed_then, turn_stayed}
use Rattle.sealed_pair.proofs.StoreReadLemmas.{tells_plain}
use Rattle.sealed_pair.proofs.TurnLemmas.{cause_since}
use Rattle.sealed_pair.proofs.WalkedLemmas.{come_none, come_to_refusal}
use Rattle.sealed_pair.proofs.WalkingLemmas.{begins, closes_by_owner}

module _ (by : Constants → Rules) (old : KvState) (fresh : IsFreshStore by old) where
  tells_of : (state : StoreState) → old.known.state ≡ Some state → TellsPlain by old state
  tells_of state told = tells_plain state fresh.plain told

  -- a store that stays, and tells what it told
  same_read : (new : KvState) → HasStayed by old new → ((state : StoreState) → old.known.state ≡ Some state → new.known.state ≡ Some state) → HasRead old new
  same_read new stayed same = record {
    keeps = stayed.keeps;
    state = same_options old.known.state new.known.state stayed.keeps.tells_state
        (λ before after told later. same_told new.known.state before after (same before told) later);
    steady = stayed.steady;
    moments = λ tells state told. stayed.moments tells state (tells_of state told);
  }

  module _ (who : ℕ) where
    pub not_begun : (new : KvState) (e : KvError) → Answers by old new (answered who (OpenIterator 0 []) (Refused e)) → HasRead old new
    not_begun new e answers =
        same_read new (turn_stayed by who Opens old new (Refused e) answers)
        (λ state told. (begins by who old new state (tells_of state told) (fresh.no_iterators state told) (Refused e) answers).1)

    pub not_healed : (below : Constants → Rules) (secure : Secure) (r new : KvState) (state : StoreState) → TellsPlain by old state → (e : KvError)
        → Answers by old new (answered who (OpenIterator 0 []) (Refused e)) → RewritesEach below r r (all_healed secure state.primary) (Err e)
    not_healed below secure r new state tells e answers =
        come_to_refusal below secure state.primary 0 r r None 0 (come_none below secure state.primary 0 r) e
        (begins by who old new state tells (fresh.no_iterators state tells.told) (Refused e) answers).0

    module _ (first second last : KvState) (opening : Answers by old first (answered who (OpenIterator 0 []) Done)) (stayed : HasStayed by first second)
        (walks : (walk : Walk) → walk.who ≡ who → IsAt by walk None first → (given : Option (List ℕ)) × IsAt by walk given second)
        (reply : Reply) (close : Answers by second last (answered who (CloseIterator 0) reply)) where
      abbrev walk_from : StoreState → Walk
      walk_from state = record { who = who; before = state }

      pub begun : (state : StoreState) → TellsPlain by old state → IsAt by (walk_from state) None first
      begun state tells = begins by who old first state tells (fresh.no_iterators state tells.told) Done opening

      ended : (state : StoreState) → old.known.state ≡ Some state → last.known.state ≡ Some state
      ended state told =
          let there = walks (walk_from state) refl (begun state (tells_of state told)) in
          closes_by_owner by (walk_from state) there.0 second last there.1 (fresh.no_iterators state told) who refl reply close

      pub walked_read : HasRead old last
      walked_read =
          same_read last (stayed_then (stayed_then (turn_stayed by who Opens old first Done opening) stayed) (turn_stayed by who Closes second last reply close)) ended

      pub walked_cause : (root : List ℕ) (joining : Joining) (r r' : KvState) (given : Reply) → Keeps r r → Keeps r r' → Keeps r' r'
          → IsCause (pair root joining first r).known (pair root joining second r').known given → IsCause (pair root joining old r).known (pair root joining last r').known given
      walked_cause root joining r r' given same keeps after cause =
          let opened = turn_stayed by who Opens old first Done opening in
          let closed = turn_stayed by who Closes second last reply close in
          cause_all (carries_until (pair root joining old r) (pair root joining second r') (pair root joining last r') (keeps_both root second last r' r' joining joining closed.keeps after)) given
          (cause_since root joining old first second r r r' opened.keeps opened.steady same (λ steady. steady) given cause)
