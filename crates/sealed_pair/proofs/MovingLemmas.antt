-- Calls that leave the maps while a set in pieces is active, as one call of the secure store.
use Rattle.std.proofs.Common.{◌≡◌, ℕ, Bool, true, false, List, Option, Some, None, refl, sym, ◌∙◌, ap, subst, inl, inr}
use Rattle.std.specs.Prelude.{IsTrue, if◌then◌else◌}
use mathlib.Core.Bool.{false≢true}
use Rattle.kv_model.specs.declared.error.KvError.{KvError}
use Rattle.kv_model.specs.declared.call.Reply.{Reply}
use Rattle.kv_model.specs.declared.call.Reply.TheVariants.{Refused}
use Rattle.kv_model.specs.Checks.{may_fail_writing}
use Rattle.kv_model.specs.Constants.{Constants}
use Rattle.kv_model.specs.FlaggedMap.{FlaggedMap}
use Rattle.kv_model.specs.StoreState.{Maps, OpenSet, StoreState}
use Rattle.kv_model.specs.Operations.{Operation}
use Rattle.kv_model.specs.Rules.{Rules, step}
use Rattle.kv_model.specs.Kv.{IsCause, IsLawful, Kind, KvState, LeadsTo, UnlessFailedWrite, answered, kind_of, may_end, Ruled, FailedRead, FailedWrite, Mismatched, Wanted}
use Rattle.sealed_pair.specs.Going.{HasGone}
use Rattle.sealed_pair.specs.Pair.{Joining}
use Rattle.sealed_pair.specs.Running.{HasEnded, HasRun, HasStopped, IsOpen, Parts, StaysOpen, WhereRun, as_one, one_of, rules_of}
use Rattle.sealed_pair.specs.Setting.{FailsSet, Failure, HasFailedSet, HasMoved, IsAt}
use Rattle.sealed_pair.specs.Shares.{NoShare, HasSet, share_of}
use Rattle.sealed_pair.specs.Store.{Own, joined_by}
use Rattle.sealed_pair.proofs.BehindLemmas.{tells_either}
use Rattle.sealed_pair.proofs.GoingLemmas.{running_mounts}
use Rattle.sealed_pair.proofs.PairLemmas.{carries_above, cause_all}
use Rattle.sealed_pair.proofs.RunningLemmas.{Runs, cut_is_one, left, open_by, unless_two}

-- ---- one store, with this set active or none

pub at_open : (set : Option OpenSet) {by : Constants → Rules} {s : KvState} {state : StoreState} → IsOpen (share_of set) by s state → IsAt by s set state
at_open None open_at = record { rules = open_at.rules; told = open_at.told; running = open_at.running; active = open_at.holds }
at_open (Some x) open_at = record { rules = open_at.rules; told = open_at.told; running = open_at.running; active = open_at.holds }

pub runs_with : (set : Option OpenSet) (state : StoreState) → state.doubt ≡ None → Runs (share_of set) (record state { open_set = set })
runs_with None state running = record { running = running; holds = refl }
runs_with (Some x) state running = record { running = running; holds = refl }

pub moved_with : (set : Option OpenSet) {by : Constants → Rules} {s s' : KvState} {later : Option OpenSet} (goal : StoreState → FlaggedMap) → HasMoved by s s' set later
    → HasGone (share_of set) by s s' (λ state. record state { open_set = later }) goal
moved_with set goal moved = record {
  keeps = moved.keeps;
  steady = moved.steady;
  told = λ state open_at. moved.told state (at_open set open_at);
  moments = λ tells state open_at. tells_either state.primary (goal state) (moved.moments tells state (at_open set open_at));
}

moved_open : (set later : Option OpenSet) {by : Constants → Rules} {s s' : KvState} → HasMoved by s s' set later → StaysOpen (share_of set) (share_of later) by s s'
moved_open set later moved state open_at =
    (record state { open_set = later }, open_by open_at (moved.told state (at_open set open_at)) (runs_with later state open_at.running))

fails_open : (set : Option OpenSet) (by : Constants → Rules) (s s' : KvState) (e : KvError) (kind : Kind)
    → ((state : StoreState) → IsOpen (share_of set) by s state → FailsSet s' (record { begins = false; error = e }) state kind) → UnlessFailedWrite kind (StaysOpen (share_of set) NoShare by s s')
fails_open set by s s' e Ruled fails = λ state open_at. absurd (false≢true (fails state open_at).0)
fails_open set by s s' e FailedRead fails = λ state open_at. absurd (false≢true (fails state open_at).0)
fails_open set by s s' e FailedWrite fails = tt
fails_open set by s s' e Mismatched fails = λ state open_at. absurd (fails state open_at)
fails_open set by s s' e Wanted fails = λ state open_at. absurd (false≢true (fails state open_at).0)

-- ---- both stores

module _ (root : List ℕ) (own : Own) (by_above by_below : Constants → Rules) (u r : KvState) (who : ℕ) (operation : Operation) (one two : Option OpenSet) where
  abbrev pub set_parts : Parts
  set_parts = record {
    root = root;
    own = own;
    above = by_above;
    primary = u;
    share_above = share_of one;
    below = by_below;
    rollback = r;
    share_below = share_of two;
  }

  module _ (later : Own) (u' r' : KvState) (three four : Option OpenSet) where
    abbrev then_parts : Parts
    then_parts = left set_parts later u' (share_of three) r' (share_of four)

    -- a call by the rules, which leaves the maps
    pub moved_ends : (reply : Reply) → kind_of reply ≡ Ruled → ((before after : Joining) → IsCause (as_one before set_parts).known (as_one after then_parts).known reply)
        → HasMoved by_above u u' one three → HasMoved by_below r r' two four
        → WhereRun set_parts (λ above below. step (rules_of set_parts) (joined_by own above below) who operation ≡ record { state = joined_by later above below; reply = reply })
        → HasRun set_parts then_parts (answered who operation reply)
    moved_ends reply ruled cause first second steps = record {
      above = first.keeps;
      below = second.keeps;
      cause = cause;
      may_end = subst (λ (kind : Kind). IsTrue (may_end operation kind)) (sym ruled) refl;
      steady = λ steady steady_too. subst (λ (kind : Kind). UnlessFailedWrite kind ((u'.known.steady ≡ true) × (r'.known.steady ≡ true))) (sym ruled) (first.steady steady, second.steady steady_too);
      stays = subst (λ (kind : Kind). UnlessFailedWrite kind (StaysOpen (share_of one) (share_of three) by_above u u' × StaysOpen (share_of two) (share_of four) by_below r r')) (sym ruled)
          (moved_open one three first, moved_open two four second);
      ends = λ above below at at_too. inr (record {
        after = joined_by later above below;
        both = record {
          above = record above { open_set = three };
          below = record below { open_set = four };
          primary = open_by at (first.told above (at_open one at)) (runs_with three above at.running);
          rollback = open_by at_too (second.told below (at_open two at_too)) (runs_with four below at_too.running);
          one = refl;
        };
        leads = subst (λ (kind : Kind). LeadsTo (rules_of set_parts) (joined_by own above below) (answered who operation reply) (joined_by later above below) kind) (sym ruled) (steps above below at at_too);
      });
      cuts = λ tells tells_too above below at at_too. (
        tells_either above.primary (step (rules_of set_parts) (joined_by own above below) who operation).state.primary (first.moments tells above (at_open one at)),
        tells_either below.primary (step (rules_of set_parts) (joined_by own above below) who operation).state.rollback (second.moments tells_too below (at_open two at_too)),
      );
    }

  -- bytes that the primary store could not take, and the rollback store has given up
  module _ (later : Own) (u' r' : KvState) (e : KvError) (may : IsTrue (may_end operation (kind_of (Refused e)))) (lawful : IsLawful by_below r')
      (writes : WhereRun set_parts (λ above below. IsTrue (may_fail_writing ((rules_of set_parts).checks (joined_by own above below) who operation)))) where
    abbrev stopped_parts : Parts
    stopped_parts = left set_parts later u' NoShare r' NoShare

    fails_at : (above below : StoreState) → IsOpen (share_of one) by_above u above → IsOpen (share_of two) by_below r below → HasMoved by_below r r' two None → (kind : Kind)
        → FailsSet u' (record { begins = false; error = e }) above kind
        → HasStopped set_parts stopped_parts (joined_by own above below) (answered who operation (Refused e))
    fails_at above below at at_too second Ruled fails = absurd (false≢true fails.0)
    fails_at above below at at_too second FailedRead fails = absurd (false≢true fails.0)
    fails_at above below at at_too second FailedWrite fails = record {
      error = ap (λ (f : KvError). Refused f) fails.0;
      fails = writes above below at at_too;
      cut = λ maps stands. cut_is_one (rules_of set_parts) (joined_by own above below) who operation maps refl (inl (
        fails.1 (record { primary = maps.primary; rollback = stands.beside }) stands.primary_stands,
        running_mounts by_below r' lawful at_too.rules (record below { open_set = None }) (record { primary = maps.rollback; rollback = stands.beside_rollback })
            (second.told below (at_open two at_too)) at_too.running stands.rollback_stands,
      ));
    }
    fails_at above below at at_too second Mismatched fails = absurd fails
    fails_at above below at at_too second Wanted fails = absurd (false≢true fails.0)

    pub add_stopped : HasFailedSet by_above u u' one (record { begins = false; error = e }) → HasMoved by_below r r' two None
        → HasRun set_parts stopped_parts (answered who operation (Refused e))
    add_stopped first second =
        let kind = kind_of (Refused e) in
        record {
          above = first.keeps;
          below = second.keeps;
          cause = λ before after. cause_all (carries_above root u u' r r' before after second.keeps) (Refused e) first.cause;
          may_end = may;
          steady = λ steady steady_too. unless_two (u'.known.steady ≡ true) (r'.known.steady ≡ true) kind (first.steady steady) (second.steady steady_too);
          stays = unless_two (StaysOpen (share_of one) NoShare by_above u u') (StaysOpen (share_of two) NoShare by_below r r') kind
              (fails_open one by_above u u' e kind (λ state at. first.told state (at_open one at))) (moved_open two None second);
          ends = λ above below at at_too. inl (fails_at above below at at_too second kind (first.told above (at_open one at)));
          cuts = λ tells tells_too above below at at_too. (
            tells_either above.primary (step (rules_of set_parts) (joined_by own above below) who operation).state.primary (first.moments tells above (at_open one at)),
            tells_either below.primary (step (rules_of set_parts) (joined_by own above below) who operation).state.rollback (second.moments tells_too below (at_open two at_too)),
          );
        }
