-- What a recover on the two stores is to a secure store.
use Rattle.std.proofs.Common.{◌≡◌, inl, inr, ℕ, Bool, true, List, Option, Some, None, Result, Ok, Err, refl, sym, ◌∙◌, ap, ap₂, subst, arith}
use Rattle.std.specs.Prelude.{◌&&◌, is_none, is_some, IsTrue, MatchOption}
use Rattle.std.specs.Option.{ForSome}
use mathlib.Core.Bool.{false≢true}
use Rattle.std.proofs.Math.Bool.{Bool-set}
use Rattle.std.proofs.Math.Logic.{∥∥₁_elim}
use Rattle.kv_model.specs.declared.error.KvError.{KvError}
use Rattle.kv_model.specs.declared.error.KvError.TheVariants as error
use Rattle.kv_model.specs.declared.call.Reply.TheVariants.{Refused}
use Rattle.kv_model.specs.Constants.{Constants}
use Rattle.kv_model.specs.FlaggedMap.{FlaggedMap}
use Rattle.kv_model.specs.Given.{done_or}
use Rattle.kv_model.specs.Kv.{IsCause, IsLawful, Keeps, Kind, KvState, TellsOnly, UnlessFailedWrite, kind_of, Ruled, FailedRead, FailedWrite, Mismatched, Wanted}
use Rattle.kv_model.specs.Rules.{Rules}
use Rattle.kv_model.specs.StoreState.{Doubt, Maps, StoreState, maps_of}
use Rattle.sealed_pair.specs.Pair.{both, pair}
use Rattle.sealed_pair.specs.Reading.{HasRead, WhereTold}
use Rattle.sealed_pair.specs.Recovering.{HasWritten, StillRuns, TellsAmong, secure_by}
use Rattle.sealed_pair.specs.declared.active.Active.{Active}
use Rattle.sealed_pair.specs.Active.{share_above, share_below}
use Rattle.sealed_pair.specs.Shares.{Share}
use Rattle.sealed_pair.specs.Running.{IsIdle, StaysIdle}
use Rattle.sealed_pair.specs.Store.{IsFreshStore, IsPlainStore, IsPlainWhile, Own, joined_by}
use Rattle.sealed_pair.specs.Walking.{Completes, IsBetween, IsReadOrWant, RewritesEach, all_healed}
use Rattle.sealed_pair.proofs.PairLemmas.{ToldBoth, both_of, first_of, keeps_both, read_none, second_of, told_both}
use Rattle.sealed_pair.proofs.StoreReadLemmas.{tells_plain}
use Rattle.secure_store.specs.declared.stop.Stop.{Stop}
use Rattle.secure_store.specs.declared.stop.Stop.TheVariants.{InCall, InRecover}
use Rattle.secure_store.specs.Doubts.{IsStopped, WhereStopped, noted_in, told_by, untold}
use Rattle.secure_store.specs.Recover.{HasNoIterators, HasRecovered, Recovers, StopsAfter, healed_in}
use Rattle.secure_store.proofs.SettleLemmas.{keeps_untold, open_told, runs_plain, unless_given, unlike_done, unlike_refusal, while_open, while_stopped}

-- ---- a store that was stopped

in_doubt : (o : Option Doubt) (A B : Type 0) → is_some o ≡ true → B → MatchOption o A (λ d. B)
in_doubt None A B is b = absurd (false≢true is)
in_doubt (Some d) A B is b = b

refused_still : (s : KvState) → ForSome s.known.state (λ (before : StoreState). is_some before.doubt ≡ true) → HasRecovered s s (Err error.Stopped)
refused_still s stopped = record {
  keeps = keeps_untold (read_none s).keeps;
  tells = refl;
  cause = tt;
  steady = λ steady. steady;
  told = λ before is. in_doubt before.doubt _ _ (stopped before is) (refl, is);
  moments = λ tells before is. (
    record { moment = omega arith; told = λ t map early told. inl told },
    record { moment = omega arith; told = λ t map early told. inl told },
  );
}

pub stopped_recovers : (root : List ℕ) (u r : KvState) (own : Own) (stopped : Option Stop) → is_some stopped ≡ true → ∥ WhereStopped root (noted_in stopped) u r ∥₁
    → HasRecovered (told_by root own stopped u r) (told_by root own stopped u r) (Err error.Stopped)
stopped_recovers root u r own None is fact = absurd (false≢true is)
stopped_recovers root u r own (Some InRecover) is fact = refused_still (untold (pair root (joined_by own) u r)) (λ before told. absurd (false≢true (ap is_some told)))
stopped_recovers root u r own (Some (InCall noted)) is fact =
    refused_still (pair root (λ a b. noted.state) u r) (λ before told.
    ap (λ (s : StoreState). is_some s.doubt) (told_both (λ a b. noted.state) u.known.state r.known.state before told).joined
    ∙ ∥∥₁_elim fact (Bool-set (is_some noted.state.doubt) true) (λ (s : IsStopped root u r noted.state). s.in_doubt))

-- ---- a store that runs

unless : (P : Type 0) (kind : Kind) → P → UnlessFailedWrite kind P
unless P Ruled p = p
unless P FailedRead p = p
unless P FailedWrite p = tt
unless P Mismatched p = p
unless P Wanted p = p

unless_and : (a b : Bool) (kind : Kind) → a ≡ true → UnlessFailedWrite kind (b ≡ true) → UnlessFailedWrite kind ((a && b) ≡ true)
unless_and a b Ruled one two = both_of a b one two
unless_and a b FailedRead one two = both_of a b one two
unless_and a b FailedWrite one two = tt
unless_and a b Mismatched one two = both_of a b one two
unless_and a b Wanted one two = both_of a b one two

no_write : IsReadOrWant error.WriteFault → ⊥
no_write (inl is) = absurd (cc is)
no_write (inr is) = absurd (cc is)

running_maps : (state : StoreState) (maps : Maps) (P : Doubt → Type 0) → state.doubt ≡ None → MatchOption state.doubt (maps ≡ maps_of state) P → maps.primary ≡ state.primary
running_maps state maps P running stands =
    ap (λ (m : Maps). m.primary) (subst (λ (o : Option Doubt). MatchOption o (maps ≡ maps_of state) P) running stands)

module _ (root : List ℕ) (own : Own) (by below : Constants → Rules) (u u' r r' : KvState) (plain : IsPlainStore by u)
    (idle : (state : StoreState) → r.known.state ≡ Some state → IsIdle below r state) (read : HasRead u u') where
  abbrev old : KvState
  old = pair root (joined_by own) u r

  abbrev new : KvState
  new = pair root (joined_by own) u' r'

  abbrev Told : StoreState → Type 0
  Told before = ToldBoth (joined_by own) u.known.state r.known.state before

  told_of : (before : StoreState) → old.known.state ≡ Some before → Told before
  told_of before is = told_both (joined_by own) u.known.state r.known.state before is

  module _ (result : Result ℕ KvError) (written : HasWritten r r' result) (cause : IsCause old.known new.known (done_or result))
      (heals : WhereTold by u (λ (above : StoreState). RewritesEach below r r' (all_healed (secure_by root r.known.constants) above.primary) result)) where
    each : (above : StoreState) → u.known.state ≡ Some above → RewritesEach below r r' (all_healed (secure_by root r.known.constants) above.primary) result
    each above is = heals above (tells_plain above plain is)

    completes : (before : StoreState) (t : Told before) → Completes r' t.below (all_healed (secure_by root r.known.constants) t.above.primary t.below) result
    completes before t = (each t.above t.above_told).told t.below (idle t.below t.below_told)

    moments_both : IsTrue old.crash.tells_moments → ForSome old.known.state (λ (before : StoreState).
        TellsOnly old.crash.primary new.crash.primary before.primary before.primary
        × TellsAmong old.crash.rollback new.crash.rollback (IsBetween before.rollback (healed_in old.known.constants before)))
    moments_both tells before is =
        let t = told_of before is in
        subst (λ (s : StoreState). TellsOnly old.crash.primary new.crash.primary s.primary s.primary
        × TellsAmong old.crash.rollback new.crash.rollback (IsBetween s.rollback (healed_in old.known.constants s))) (sym t.joined) (
          read.moments (first_of u.crash.tells_moments r.crash.tells_moments tells) t.above t.above_told,
          (each t.above t.above_told).moments (second_of u.crash.tells_moments r.crash.tells_moments tells) t.below (idle t.below t.below_told),
        )

    kept : Keeps old new
    kept = keeps_both root u u' r r' (joined_by own) (joined_by own) read.keeps written.keeps

    still_told : (before : StoreState) (t : Told before) (map : FlaggedMap) → r'.known.state ≡ Some (record t.below { primary = map })
        → new.known.state ≡ Some (record (joined_by own t.above t.below) { rollback = map })
    still_told before t map is = ap₂ (both (joined_by own)) (read.state ∙ t.above_told) is

    by_told : (s : KvState) (before : StoreState) (t : Told before) → Recovers old.known.constants s (joined_by own t.above t.below) result → Recovers old.known.constants s before result
    by_told s before t is = subst (λ (b : StoreState). Recovers old.known.constants s b result) (sym t.joined) is

    ends : (ended : Result ℕ KvError) → result ≡ ended → (done_or result ≡ Refused error.WriteFault → ⊥) → (before : StoreState) (t : Told before)
        → Completes r' t.below (all_healed (secure_by root r.known.constants) t.above.primary t.below) ended → Recovers old.known.constants new (joined_by own t.above t.below) ended
    ends (Ok count) is other before t done = (still_told before t _ done.0, done.1)
    ends (Err e) is other before t (inl broken) = absurd (other (ap done_or is ∙ ap Refused broken.0))
    ends (Err e) is other before t (inr stays) = inr (stays.0, (stays.1.0, stays.1.1, still_told before t stays.1.0 stays.1.2))

    pub recovered : (done_or result ≡ Refused error.WriteFault → ⊥) → HasRecovered old new result
    recovered other = record {
      keeps = keeps_untold kept;
      tells = unless (is_some new.known.state ≡ is_some old.known.state) (kind_of (done_or result)) kept.tells_state;
      cause = cause;
      steady = λ steady. unless_and u'.known.steady r'.known.steady (kind_of (done_or result)) (read.steady (first_of u.known.steady r.known.steady steady))
          (written.steady (second_of u.known.steady r.known.steady steady));
      told = λ before is. let t = told_of before is in by_told new before t (ends result refl other before t (completes before t));
      moments = moments_both;
    }

  -- a write failed
  pub recover_stopped : IsLawful by u' → (e : KvError) → e ≡ error.WriteFault → HasWritten {T = ℕ} r r' (Err e) → IsCause old.known new.known (Refused e)
      → WhereTold by u (λ (above : StoreState). RewritesEach below r r' (all_healed (secure_by root r.known.constants) above.primary) (Err e))
      → HasRecovered old (untold new) (Err e)
  recover_stopped lawful e is written cause heals =
      subst (λ (f : KvError). HasRecovered old (untold new) (Err f)) (sym is)
      (at_fault (subst (λ (f : KvError). HasWritten {T = ℕ} r r' (Err f)) is written) (subst (λ (f : KvError). IsCause old.known new.known (Refused f)) is cause)
      (λ above tells. subst (λ (f : KvError). RewritesEach below r r' (all_healed (secure_by root r.known.constants) above.primary) (Err f)) is (heals above tells))) where
        at_fault : HasWritten {T = ℕ} r r' (Err error.WriteFault) → IsCause old.known new.known (Refused error.WriteFault)
            → WhereTold by u (λ (above : StoreState). RewritesEach below r r' (all_healed (secure_by root r.known.constants) above.primary) (Err error.WriteFault))
            → HasRecovered old (untold new) (Err error.WriteFault)
        at_fault wrote why rewrites = record {
          keeps = keeps_untold (kept (Err error.WriteFault) wrote why rewrites);
          tells = tt;
          cause = why;
          steady = λ steady. tt;
          told = λ before told.
              let t = told_of before told in
              subst (λ (b : StoreState). Recovers old.known.constants (untold new) b (Err error.WriteFault)) (sym t.joined)
              (elim (completes (Err error.WriteFault) wrote why rewrites before t) [
                | inl broken ↦ inl (
                  refl,
                  refl,
                  λ maps stands. (
                    running_maps t.above (record { primary = maps.primary; rollback = stands.beside }) _ (tells_plain t.above plain t.above_told).running
                        (lawful.stands t.above (read.state ∙ t.above_told) (record { primary = maps.primary; rollback = stands.beside }) stands.primary_stands),
                    broken.1 (record { primary = maps.rollback; rollback = stands.beside_rollback }) stands.rollback_stands,
                  ),
                )
                | inr stays ↦ absurd (no_write stays.0)
              ]);
          moments = moments_both (Err error.WriteFault) wrote why rewrites;
        }

-- ---- by what stops the store

abbrev NoFault : Result ℕ KvError → Type 0
NoFault result = done_or result ≡ Refused error.WriteFault → ⊥

at_stop : (result : Result ℕ KvError) (stop : Option Stop) → StopsAfter result stop → (P : Option Stop → Type 0) → (NoFault result → P None) → P (Some InRecover) → P stop
at_stop (Ok count) stop stops P still stopped = subst P (sym stops) (still unlike_done)
at_stop (Err e) stop (inl stops) P still stopped = subst P (sym stops.1) stopped
at_stop (Err e) stop (inr stops) P still stopped = subst P (sym stops.1) (still (unlike_refusal e stops.0))

unless_fault : (P : Type 0) (result : Result ℕ KvError) → NoFault result → UnlessFailedWrite (kind_of (done_or result)) P → P
unless_fault P (Ok count) other p = p
unless_fault P (Err e) other p = unless_given P e (λ is. other (ap Refused is)) p

module _ (root : List ℕ) (own : Own) (by below : Constants → Rules) (u u' r r' : KvState) (plain : IsPlainStore by u)
    (idle : (state : StoreState) → r.known.state ≡ Some state → IsIdle below r state) (read : HasRead u u') (lawful : IsLawful by u') where
  abbrev Heals : Result ℕ KvError → Type 0
  Heals result = WhereTold by u (λ (above : StoreState). RewritesEach below r r' (all_healed (secure_by root r.known.constants) above.primary) result)

  pub recovered_by : (result : Result ℕ KvError) (stop : Option Stop) → StopsAfter result stop → HasWritten r r' result
      → IsCause (pair root (joined_by own) u r).known (pair root (joined_by own) u' r').known (done_or result) → Heals result
      → HasRecovered (pair root (joined_by own) u r) (told_by root own stop u' r') result
  recovered_by (Ok count) stop stops written cause heals =
      subst (λ (s : Option Stop). HasRecovered (pair root (joined_by own) u r) (told_by root own s u' r') (Ok count)) (sym stops)
      (recovered root own by below u u' r r' plain idle read (Ok count) written cause heals unlike_done)
  recovered_by (Err e) stop (inl stops) written cause heals =
      subst (λ (s : Option Stop). HasRecovered (pair root (joined_by own) u r) (told_by root own s u' r') (Err e)) (sym stops.1)
      (recover_stopped root own by below u u' r r' plain idle read lawful e stops.0 written cause heals)
  recovered_by (Err e) stop (inr stops) written cause heals =
      subst (λ (s : Option Stop). HasRecovered (pair root (joined_by own) u r) (told_by root own s u' r') (Err e)) (sym stops.1)
      (recovered root own by below u u' r r' plain idle read (Err e) written cause heals (unlike_refusal e stops.0))

-- ---- what is known of the two stores

-- a store that was read
pub read_while : {share : Share} {by : Constants → Rules} {s s' : KvState} (runs : Bool) → IsPlainWhile runs share by s → HasRead s s' → IsPlainWhile runs share by s'
read_while runs plain read = record {
  rules = λ told. plain.rules (sym (ap is_some read.state) ∙ told);
  running = λ again state told. plain.running again state (sym read.state ∙ told);
  holds = λ again state told. plain.holds again state (sym read.state ∙ told);
}

module _ (root : List ℕ) (next : ℕ) (active : Option Active) (free : active ≡ None) (runs : Bool) (running : runs ≡ true) (by : Constants → Rules) where
  pub fresh_while : (s : KvState) → IsPlainWhile runs (share_above root next active) by s → HasNoIterators s → IsFreshStore by s
  fresh_while s plain none = record {
    plain = runs_plain runs plain running;
    no_set = λ state told. (subst (λ (o : Option Active). IsPlainWhile runs (share_above root next o) by s) free plain).holds running state told;
    no_iterators = none;
  }

  pub idle_told : (s : KvState) → IsPlainWhile runs (share_below active) by s → (state : StoreState) → s.known.state ≡ Some state → IsIdle by s state
  idle_told s plain state told = open_told runs (subst (λ (o : Option Active). IsPlainWhile runs (share_below o) by s) free plain) running state told

  pub idle_while : (s s' : KvState) → IsPlainWhile runs (share_below active) by s → is_some s'.known.state ≡ is_some s.known.state → StaysIdle by s s' → IsPlainWhile runs (share_below active) by s'
  idle_while s s' plain same stays =
      subst (λ (o : Option Active). IsPlainWhile runs (share_below o) by s') (sym free)
      (while_open runs (subst (λ (o : Option Active). IsPlainWhile runs (share_below o) by s) free plain) running same stays)

  -- once it ended
  module _ (result : Result ℕ KvError) (stop : Option Stop) (stops : StopsAfter result stop) where
    pub settled_above : (s s' : KvState) → IsPlainWhile runs (share_above root next active) by s → HasRead s s' → IsPlainWhile (is_none stop) (share_above root next active) by s'
    settled_above s s' plain read =
        at_stop result stop stops (λ (o : Option Stop). IsPlainWhile (is_none o) (share_above root next active) by s')
        (λ other. subst (λ (b : Bool). IsPlainWhile b (share_above root next active) by s') running (read_while runs plain read))
        (while_stopped runs plain read.keeps.tells_state)

    pub settled_below : (s s' : KvState) → IsPlainWhile runs (share_below active) by s → HasWritten s s' result → StillRuns by s s' result → IsPlainWhile (is_none stop) (share_below active) by s'
    settled_below s s' plain written stays =
        at_stop result stop stops (λ (o : Option Stop). IsPlainWhile (is_none o) (share_below active) by s')
        (λ other. subst (λ (b : Bool). IsPlainWhile b (share_below active) by s') running
        (idle_while s s' plain written.keeps.tells_state (unless_fault (StaysIdle by s s') result other stays)))
        (while_stopped runs plain written.keeps.tells_state)

pub settled_doubt : (result : Result ℕ KvError) (stop : Option Stop) → StopsAfter result stop → (root : List ℕ) (u r : KvState) → ∥ WhereStopped root (noted_in stop) u r ∥₁
settled_doubt result stop stops root u r = at_stop result stop stops (λ (o : Option Stop). ∥ WhereStopped root (noted_in o) u r ∥₁) (λ other. ∣ tt ∣₁) ∣ tt ∣₁
