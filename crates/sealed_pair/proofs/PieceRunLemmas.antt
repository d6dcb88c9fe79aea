-- The start of a set in pieces, and bytes that are added to it, as calls of the secure store.
use Rattle.std.proofs.Common.{◌≡◌, ℕ, ◌+◌, ◌≤◌, Bool, true, false, not, ◌==◌, nat_lt, List, [], ◌∷◌, ◌++◌, length, Option, Some, None, Ok, refl, sym, ◌∙◌, ap, subst, arith}
use Rattle.std.specs.Prelude.{IsTrue, if◌then◌else◌}
use Rattle.std.proofs.lemmas.Bool.Decides.{nat_tests}
use Rattle.std.proofs.lemmas.List.{append-nil}
use Rattle.kv_model.specs.declared.error.KvError.{KvError}
use Rattle.kv_model.specs.declared.error.KvError.TheVariants as error
use Rattle.kv_model.specs.declared.call.Reply.{Reply}
use Rattle.kv_model.specs.declared.call.Reply.TheVariants.{Done, Refused}
use Rattle.kv_model.specs.Checks.{first_refusal, may_fail_writing}
use Rattle.kv_model.specs.Constants.{Constants}
use Rattle.kv_model.specs.FlaggedMap.{FlaggedMap}
use Rattle.kv_model.specs.StoreState.{OpenSet, StoreState, begun_set}
use Rattle.kv_model.specs.Operations.{Operation, Add, Start}
use Rattle.kv_model.specs.Rules.{Outcome, Rules, number_taken, refused_or, step}
use Rattle.kv_model.specs.Kv.{IsLawful, Kind, KvState, answered, kind_of, may_end, Ruled, FailedRead, FailedWrite, Mismatched, Wanted}
use Rattle.secure_record.specs.States.{SealState}
use Rattle.sealed_pair.specs.declared.active.Active.{Active}
use Rattle.sealed_pair.specs.declared.partial.PartialSet.{PartialSet}
use Rattle.sealed_pair.specs.declared.partial.SetStart.{SetStart}
use Rattle.sealed_pair.specs.Begun.{active_remove, active_set, parts_in}
use Rattle.sealed_pair.specs.Pair.{pair_constants}
use Rattle.sealed_pair.specs.Pieces.{FailsToFeed, HasFedMore, IsSealing, fed_set, fresh_set, front_of, set_more, set_with}
use Rattle.sealed_pair.specs.Running.{HasRun, Parts, WhereRun, one_of, parts, rules_of}
use Rattle.sealed_pair.specs.Sealing.{is_numbered}
use Rattle.sealed_pair.specs.SecureStep.{secure_rules}
use Rattle.sealed_pair.specs.Setting.{HasMoved, IsAdmitted, MayRefuse, StartsSet, calls, record_set, tag_set}
use Rattle.sealed_pair.specs.Store.{Own, idle_own, joined, joined_by}
use Rattle.sealed_pair.proofs.GoingLemmas.{gone_none}
use Rattle.sealed_pair.proofs.MovingLemmas.{add_stopped, moved_ends}
use Rattle.sealed_pair.proofs.PieceLemmas.{body_left, may_add}
use Rattle.sealed_pair.proofs.RunningLemmas.{run_done, runs_of}
use Rattle.sealed_pair.proofs.SettingLemmas.{moved_none, past, running_step}
use Rattle.sealed_pair.proofs.SettingRunLemmas.{admitted_first, past_false}

pub same_owner : (n : ℕ) → not (n == n) ≡ false
same_owner n = grind (arith, nat_tests)

pub not_more : (a b : ℕ) → a ≤ b → nat_lt b a ≡ false
not_more a b most = grind (arith, nat_tests)

pub no_bytes : (l : List ℕ) → length l ≡ 0 → l ≡ []
no_bytes [] is = refl
no_bytes (x ∷ l) is = absurd (omega (arith, is))

pub no_count : (n : ℕ) → (n == 0) ≡ true → n ≡ 0
no_count n is = grind (arith, nat_tests)

-- a remove takes no bytes
module _ (root : List ℕ) (next : ℕ) (by_above by_below : Constants → Rules) (u r : KvState) (who : ℕ) (key : List ℕ) (a b : Bool) where
  abbrev removing : Parts
  removing = parts_in root next (active_remove who key a b) by_above u by_below r

  abbrev stays : StoreState → FlaggedMap
  stays s = s.primary

  nothing : WhereRun removing (λ above below. step (rules_of removing) (one_of removing above below) who (Add []) ≡ record { state = one_of removing above below; reply = Done })
  nothing above below at at_too =
      ap (λ (o : Option KvError). refused_or (rules_of removing) (one_of removing above below) who (Add []) o) (past (not (who == who)) error.NoSet None (same_owner who))

  pub none_to_remove : HasRun removing removing (answered who (Add []) Done)
  none_to_remove =
      run_done removing who (Add []) stays stays
      (λ above below at at_too. (ap (λ (o : Outcome). o.state.primary) (nothing above below at at_too), ap (λ (o : Outcome). o.state.rollback) (nothing above below at at_too)))
      (removing.own) u removing.share_above r removing.share_below (λ s. s) (λ s. s) (gone_none by_above u stays) (gone_none by_below r stays)
      (λ above at. runs_of at) (λ below at. runs_of at) nothing

-- ---- the start

module _ (root : List ℕ) (number : ℕ) (by_above by_below : Constants → Rules) (u r u' r' : KvState) (start : SetStart) (prior : Option (List ℕ))
    (admitted : IsAdmitted (parts root number by_above u by_below r) start.key start.size start.flags.bits prior)
    (above : HasMoved by_above u u' None (Some (record_set start.who start.key start.size start.flags.bits [])))
    (below : HasMoved by_below r r' None (tag_set start.who start.key start.flags.bits []))
    (room : StartsSet (parts root number by_above u by_below r) start.key start.size start.flags.bits (Ok tt)) where
  abbrev before : Parts
  before = parts root number by_above u by_below r

  abbrev flags : ℕ
  flags = start.flags.bits

  abbrev taken : ℕ
  taken = number_taken (is_numbered flags) number

  abbrev begun : Option (List ℕ) → Own
  begun p = record { number = taken; set = Some (begun_set start.who start.key flags start.size p) }

  starts : WhereRun before (λ one two. step (rules_of before) (joined number one two) start.who (Start start.key start.size flags)
      ≡ record { state = joined_by (begun prior) one two; reply = Done })
  starts one two idle idle_too =
      running_step (rules_of before) (joined number one two) start.who (Start start.key start.size flags) refl
      ∙ ap (λ (o : Option KvError). refused_or (rules_of before) (joined number one two) start.who (Start start.key start.size flags) o)
      (admitted_first before start.key start.size flags prior admitted one two idle idle_too start.who ∙ room one two idle idle_too)
      ∙ ap (λ (p : Option (List ℕ)). record { state = joined_by (begun p) one two; reply = Done }) (sym (admitted.below two idle_too).replaces)

  pub set_started : (head : List ℕ) (stream : SealState) (a b : Bool)
      → HasRun before (parts_in root taken (active_set start.who (fresh_set start prior head stream) a b) by_above u' by_below r')
      (answered start.who (Start start.key start.size flags) Done)
  set_started head stream a b =
      moved_ends root (idle_own number) by_above by_below u r start.who (Start start.key start.size flags) None None (begun prior) u' r'
      (Some (record_set start.who start.key start.size flags [])) (tag_set start.who start.key flags []) Done refl (λ before after. tt) above below starts

-- ---- bytes that are added

module _ (root : List ℕ) (next : ℕ) (by_above by_below : Constants → Rules) (u r : KvState) (who : ℕ) (set : PartialSet) (sealing : IsSealing root next set) (a b : Bool) where
  abbrev old : Parts
  old = parts_in root next (active_set who set a b) by_above u by_below r

  abbrev with_set : List ℕ → Own
  with_set bytes = record { number = next; set = Some (record (begun_set who set.key set.flags.bits set.size set.prior) { bytes = bytes }) }

  abbrev tags : Option OpenSet
  tags = tag_set who set.key set.flags.bits []

  module _ (value : List ℕ) (fits : length value ≤ set.left) where
    fits_all : nat_lt set.size (length set.value.bytes + length value) ≡ false
    fits_all = not_more (length set.value.bytes + length value) set.size (omega (arith, fits, body_left root next set sealing))

    add_step : WhereRun old (λ above below. step (rules_of old) (joined_by (with_set set.value.bytes) above below) who (Add value)
        ≡ record { state = joined_by (with_set (set.value.bytes ++ value)) above below; reply = Done })
    add_step above below at at_too =
        running_step (rules_of old) (joined_by (with_set set.value.bytes) above below) who (Add value) refl
        ∙ ap (λ (o : Option KvError). refused_or (rules_of old) (joined_by (with_set set.value.bytes) above below) who (Add value) o)
        (past (not (who == who)) error.NoSet _ (same_owner who) ∙ past (nat_lt set.size (length set.value.bytes + length value)) error.InvalidSize None fits_all)

    add_writes : WhereRun old (λ above below. IsTrue (may_fail_writing ((rules_of old).checks (joined_by (with_set set.value.bytes) above below) who (Add value))))
    add_writes above below at at_too =
        past_false (not (who == who)) _ (same_owner who) ∙ past_false (nat_lt set.size (length set.value.bytes + length value)) true fits_all

    pub add_done : (u' : KvState) (later : PartialSet) → HasFedMore (calls by_above u u' who) value set later
        → HasRun old (parts_in root next (active_set who later a b) by_above u' by_below r) (answered who (Add value) Done)
    add_done u' later fed =
        subst (λ (s : PartialSet). HasRun old (parts_in root next (active_set who s a b) by_above u' by_below r) (answered who (Add value) Done)) (sym fed.more)
        (moved_ends root (with_set set.value.bytes) by_above by_below u r who (Add value) (Some (fed_set root next who set)) tags (with_set (set.value.bytes ++ value)) u' r
        (Some (set_with who set (front_of root next (set_more set value later.stream later.left)))) tags Done refl (λ before after. tt)
        (subst (λ (s : PartialSet). HasMoved by_above u u' (Some (fed_set root next who set)) (Some (set_with who set (front_of root next s)))) fed.more (fed.fed root next sealing))
        (moved_none by_below r tags) add_step)

    pub add_fails : (u' r' : KvState) (e : KvError) → FailsToFeed (calls by_above u u' who) set e → HasMoved by_below r r' tags None → IsLawful by_below r'
        → HasRun old (parts root next by_above u' by_below r') (answered who (Add value) (Refused e))
    add_fails u' r' e fails gave_up lawful =
        add_stopped root (with_set set.value.bytes) by_above by_below u r who (Add value) (Some (fed_set root next who set)) tags (idle_own next) u' r' e
        (may_add value (kind_of (Refused e)) fails.may) lawful add_writes (fails.failed root next sealing) gave_up

  pub nothing_added : HasRun old old (answered who (Add []) Done)
  nothing_added =
      moved_ends root (with_set set.value.bytes) by_above by_below u r who (Add []) (Some (fed_set root next who set)) tags (with_set set.value.bytes) u r
      (Some (fed_set root next who set)) tags Done refl (λ before after. tt) (moved_none by_above u (Some (fed_set root next who set))) (moved_none by_below r tags)
      (λ above below at at_too.
      add_step [] (omega arith) above below at at_too
      ∙ ap (λ (l : List ℕ). record { state = joined_by (with_set l) above below; reply = Done }) (append-nil set.value.bytes))
