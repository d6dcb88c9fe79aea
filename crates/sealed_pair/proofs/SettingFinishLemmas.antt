-- The end of a set of both stores.
use Rattle.std.proofs.Common.{◌≡◌, ℕ, ◌+◌, ◌-◌, ◌==◌, Bool, true, false, not, nat_lt, List, length, length-drop, Option, Some, None, refl, sym, ◌∙◌, ap, subst, inl, inr, arith}
use Rattle.std.specs.Prelude.{if◌then◌else◌, IsTrue}
use Rattle.std.specs.FinMap.{insert}
use Rattle.std.proofs.lemmas.Bool.Decides.{nat_tests}
use mathlib.Core.Bool.{false≢true}
use Rattle.kv_model.specs.declared.error.KvError.{KvError}
use Rattle.kv_model.specs.declared.error.KvError.TheVariants as error
use Rattle.kv_model.specs.declared.call.Reply.TheVariants.{Done, Refused}
use Rattle.kv_model.specs.Checks.{may_fail_writing}
use Rattle.kv_model.specs.Constants.{Constants}
use Rattle.kv_model.specs.FlaggedMap.{FlaggedMap}
use Rattle.kv_model.specs.Flags.{is_mirrored}
use Rattle.kv_model.specs.StoreState.{StoreState, begun_set}
use Rattle.kv_model.specs.Operations.{Finish, Set}
use Rattle.kv_model.specs.PlainStep.{plain_rules}
use Rattle.kv_model.specs.Rules.{Outcome, Rules, number_taken, refused_or, step}
use Rattle.kv_model.proofs.LimitLemmas.{unrefused}
use Rattle.kv_model.specs.Kv.{Answers, IsLawful, KvState, answered}
use Rattle.secure_record.specs.Sealed.{seal}
use Rattle.sealed_pair.specs.declared.limits.TheConstants.{SEAL_SIZE}
use Rattle.sealed_pair.specs.Going.{HasGone}
use Rattle.sealed_pair.specs.Pair.{pair_constants}
use Rattle.sealed_pair.specs.Running.{HasRun, Parts, WhereRun, parts, rules_of}
use Rattle.sealed_pair.specs.Sealing.{is_numbered, kept_flags, record_entry, tag_entry, tag_of}
use Rattle.sealed_pair.specs.SecureStep.{needed}
use Rattle.sealed_pair.specs.Setting.{HasMoved, IsAdmitted, IsFilled, asked_of, bytes_of, record_set, tag_set, vector_of}
use Rattle.sealed_pair.specs.Shares.{NoShare}
use Rattle.sealed_pair.specs.Store.{idle_own, joined}
use Rattle.sealed_pair.proofs.GoingLemmas.{IsEither, gone_fails, gone_more}
use Rattle.sealed_pair.proofs.RunningLemmas.{AreGoals, IsStill, Prepares, run_above_fails, run_below_fails, run_done, runs_of}
use Rattle.sealed_pair.proofs.SettingLemmas.{moved_gone, moved_then, past, running_step}
use Rattle.sealed_pair.proofs.SettingFillLemmas.{mirrored_whole, unmirrored_whole}
use Rattle.sealed_pair.proofs.SettingRunLemmas.{admitted_first, admitted_writes, set_ends}

pub no_finish_prepares : Prepares Finish → ⊥
no_finish_prepares (inl may) = false≢true may
no_finish_prepares (inr may) = false≢true may

pub same_who : (n : ℕ) → not (n == n) ≡ false
same_who n = grind (arith, nat_tests)

pub enough : (a b : ℕ) → a ≡ b → nat_lt a b ≡ false
enough a b same = grind (arith, nat_tests)

module _ (who : ℕ) (key : List ℕ) (flags : ℕ) (bytes : List ℕ) (size : ℕ) (long : length bytes ≡ size + SEAL_SIZE) where
  -- the maps of the two stores with the record and its tag
  abbrev pub recorded : FlaggedMap → FlaggedMap
  recorded m = insert m key (record_entry flags bytes)

  abbrev pub tagged : FlaggedMap → FlaggedMap
  tagged m = if is_mirrored flags then insert m key (tag_entry flags bytes) else m

  abbrev pub filled_above : StoreState → StoreState
  filled_above s = record s { open_set = Some (record_set who key size flags bytes) }

  abbrev pub filled_below : StoreState → StoreState
  filled_below s = record s { open_set = Some (record (begun_set who key (kept_flags flags) 16 None) { bytes = tag_of bytes }) }

  abbrev pub finished_above : StoreState → StoreState
  finished_above s = record s { primary = recorded s.primary; open_set = None }

  abbrev pub finished_below : StoreState → StoreState
  finished_below s = record s { primary = tagged s.primary; open_set = None }

  pub finishes_above : (c : Constants) (s : StoreState) → IsStill s → step (plain_rules c) (filled_above s) who Finish ≡ record { state = finished_above s; reply = Done }
  finishes_above c s still =
      running_step (plain_rules c) (filled_above s) who Finish still.running
      ∙ ap (λ (o : Option KvError). refused_or (plain_rules c) (filled_above s) who Finish o)
      (past (not (who == who)) error.NoSet _ (same_who who) ∙ past (nat_lt (length bytes) (size + SEAL_SIZE)) error.InvalidSize None (enough (length bytes) (size + SEAL_SIZE) long))

  pub long_tag : length (tag_of bytes) ≡ 16
  long_tag = omega (arith, length-drop (length bytes - 16) bytes, long)

  pub finishes_below : (c : Constants) (s : StoreState) → is_mirrored flags ≡ true → IsStill s → step (plain_rules c) (filled_below s) who Finish ≡ record { state = finished_below s; reply = Done }
  finishes_below c s mirrored still =
      subst (λ (b : Bool). step (plain_rules c) (filled_below s) who Finish ≡ record { state = record s { primary = if b then insert s.primary key (tag_entry flags bytes) else s.primary; open_set = None }; reply = Done })
      (sym mirrored)
      (running_step (plain_rules c) (filled_below s) who Finish still.running
      ∙ ap (λ (o : Option KvError). refused_or (plain_rules c) (filled_below s) who Finish o)
      (past (not (who == who)) error.NoSet _ (same_who who) ∙ past (nat_lt (length (tag_of bytes)) 16) error.InvalidSize None (enough (length (tag_of bytes)) 16 long_tag)))

  pub above_still : (s : StoreState) → IsStill s → IsStill (finished_above s)
  above_still s still = record { running = still.running; holds = refl }

  pub below_still : (s : StoreState) → IsStill s → IsStill (finished_below s)
  below_still s still = record { running = still.running; holds = refl }

  cleared_still : (s : StoreState) → IsStill s → IsStill (record s { open_set = None })
  cleared_still s still = record { running = still.running; holds = refl }

  -- where the key isn't mirrored the rollback store stands
  unmirrored_gone : (by : Constants → Rules) (s s' : KvState) → is_mirrored flags ≡ false → HasMoved by s s' None (tag_set who key flags (tag_of bytes))
      → HasGone NoShare by s s' finished_below (λ x. tagged x.primary)
  unmirrored_gone by s s' is moved =
      subst (λ (b : Bool). HasGone NoShare by s s' (λ x. record x { primary = if b then insert x.primary key (tag_entry flags bytes) else x.primary; open_set = None })
      (λ x. if b then insert x.primary key (tag_entry flags bytes) else x.primary)) (sym is)
      (moved_gone (λ x. x.primary) (unmirrored_whole by s s' who key flags None (tag_of bytes) is moved))

module _ (root : List ℕ) (number : ℕ) (by_above by_below : Constants → Rules) (u r u₁ r₁ : KvState) (who : ℕ) (key value : List ℕ) (flags : ℕ) (prior : Option (List ℕ))
    (admitted : IsAdmitted (parts root number by_above u by_below r) key (length value) flags prior)
    (filled : IsFilled (parts root number by_above u by_below r) (parts root number by_above u₁ by_below r₁) (asked_of who key flags value)
    (bytes_of (parts root number by_above u by_below r) (asked_of who key flags value) prior)) where
  abbrev before : Parts
  before = parts root number by_above u by_below r

  abbrev bytes : List ℕ
  bytes = bytes_of before (asked_of who key flags value) prior

  abbrev size : ℕ
  size = length value

  abbrev constants : Constants
  constants = pair_constants root u.known.constants r.known.constants

  abbrev goal_above : StoreState → FlaggedMap
  goal_above s = recorded who key flags bytes size filled.long s.primary

  abbrev goal_below : StoreState → FlaggedMap
  goal_below s = tagged who key flags bytes size filled.long s.primary

  abbrev above_then : StoreState → StoreState
  above_then s = finished_above who key flags bytes size filled.long s

  abbrev below_then : StoreState → StoreState
  below_then s = finished_below who key flags bytes size filled.long s

  -- what the secure step makes of a set of which these are the bytes
  abbrev set_to : StoreState → StoreState → List ℕ → Outcome
  set_to above below b = record {
    state = joined (number_taken (is_numbered flags) number) (record above { primary = insert above.primary key (record_entry flags b); open_set = None })
        (record below { primary = if is_mirrored flags then insert below.primary key (tag_entry flags b) else below.primary; open_set = None });
    reply = Done;
  }

  sets : WhereRun before (λ above below. step (rules_of before) (joined number above below) who (Set key value flags)
      ≡ record { state = joined (number_taken (is_numbered flags) number) (above_then above) (below_then below); reply = Done })
  sets above below idle idle_too =
      running_step (rules_of before) (joined number above below) who (Set key value flags) refl
      ∙ ap (λ (o : Option KvError). refused_or (rules_of before) (joined number above below) who (Set key value flags) o)
      (admitted_first before key size flags prior admitted above below idle idle_too who ∙ filled.room above below idle idle_too)
      ∙ ap (λ (p : Option (List ℕ)). set_to above below (seal root key flags (vector_of number flags) p value)) (sym (admitted.below below idle_too).replaces)

  goals : WhereRun before (AreGoals (parts root number by_above u by_below r) who (Set key value flags) goal_above goal_below)
  goals above below idle idle_too = (
    ap (λ (o : Outcome). o.state.primary) (sets above below idle idle_too),
    ap (λ (o : Outcome). o.state.rollback) (sets above below idle idle_too),
  )

  writes : WhereRun before (λ above below. IsTrue (may_fail_writing ((rules_of before).checks (joined number above below) who (Set key value flags))))
  writes above below idle idle_too =
      admitted_writes before key size flags prior admitted above below idle idle_too who
      (unrefused (nat_lt constants.room (needed constants (joined number above below) key size))
      (error.MediaFull (needed constants (joined number above below) key size) constants.room) _ (filled.room above below idle idle_too)).0

  -- the primary store fails to finish, and the rollback store has given up
  pub not_finished : (u₂ r₂ : KvState) → HasMoved by_below r₁ r₂ (tag_set who key flags (tag_of bytes)) None → IsLawful by_above u₂ → IsLawful by_below r₂ → (e : KvError)
      → Answers by_above u₁ u₂ (answered who Finish (Refused e)) → HasRun before (parts root number by_above u₂ by_below r₂) (answered who (Set key value flags) (Refused e))
  not_finished u₂ r₂ gave_up lawful lawful_too e answers =
      run_above_fails (parts root number by_above u by_below r) who (Set key value flags) goal_above goal_below goals (idle_own number) u₂ NoShare r₂ NoShare (record { who = who; operation = Finish; error = e })
      (λ kind may. set_ends key value flags kind) (λ may. absurd (false≢true may)) writes lawful lawful_too
      (filled_above who key flags bytes size filled.long) (λ s. record s { open_set = None }) (λ prepares. absurd (no_finish_prepares prepares))
      (gone_fails by_above u u₁ u₂ (filled_above who key flags bytes size filled.long) above_then goal_above who Finish (moved_gone goal_above filled.above)
      (λ s idle. finishes_above who key flags bytes size filled.long u₁.known.constants s (runs_of idle)) (λ s idle. inl refl) (λ s idle. inr refl) e answers)
      (moved_gone goal_below (moved_then filled.below gave_up))
      (λ s idle. idle.running) (λ prepares. absurd (no_finish_prepares prepares)) (λ s idle. cleared_still who key flags bytes size filled.long s (runs_of idle))
      (λ above below idle idle_too x either.
      elim (subst (λ (o : Outcome). IsEither x above.primary o.state.primary) (finishes_above who key flags bytes size filled.long u.known.constants above (runs_of idle)) either) [
        | inl same ↦ inl (same, refl)
        | inr gone ↦ inr (inl (gone ∙ sym (goals above below idle idle_too).0, refl))
      ])

  module _ (u₂ : KvState) (finished : Answers by_above u₁ u₂ (answered who Finish Done)) where
    gone_above : HasGone NoShare by_above u u₂ above_then goal_above
    gone_above = gone_more by_above u u₁ u₂ (filled_above who key flags bytes size filled.long) above_then goal_above who Finish (moved_gone goal_above filled.above)
        (λ s idle. finishes_above who key flags bytes size filled.long u₁.known.constants s (runs_of idle)) (λ s idle. inl refl) (λ s idle. inr refl) finished

    set_done : (r₂ : KvState) → HasGone NoShare by_below r r₂ below_then goal_below
        → HasRun before (parts root (number_taken (is_numbered flags) number) by_above u₂ by_below r₂) (answered who (Set key value flags) Done)
    set_done r₂ gone =
        run_done (parts root number by_above u by_below r) who (Set key value flags) goal_above goal_below goals (idle_own (number_taken (is_numbered flags) number)) u₂ NoShare r₂ NoShare above_then below_then gone_above gone
        (λ s idle. above_still who key flags bytes size filled.long s (runs_of idle)) (λ s idle. below_still who key flags bytes size filled.long s (runs_of idle)) sets

    -- only the primary store is set
    pub finished_alone : is_mirrored flags ≡ false
        → HasRun before (parts root (number_taken (is_numbered flags) number) by_above u₂ by_below r₁) (answered who (Set key value flags) Done)
    finished_alone is = set_done r₁ (unmirrored_gone who key flags bytes size filled.long by_below r r₁ is filled.below)

    module _ (is : is_mirrored flags ≡ true) where
      begun_below : HasGone NoShare by_below r r₁ (filled_below who key flags bytes size filled.long) goal_below
      begun_below = moved_gone goal_below (mirrored_whole by_below r r₁ who key flags None (tag_of bytes) is filled.below)

      -- both are set
      pub finished_both : (r₂ : KvState) → Answers by_below r₁ r₂ (answered who Finish Done)
          → HasRun before (parts root (number_taken (is_numbered flags) number) by_above u₂ by_below r₂) (answered who (Set key value flags) Done)
      finished_both r₂ answers =
          set_done r₂ (gone_more by_below r r₁ r₂ (filled_below who key flags bytes size filled.long) below_then goal_below who Finish begun_below
          (λ s idle. finishes_below who key flags bytes size filled.long r₁.known.constants s is (runs_of idle)) (λ s idle. inl refl) (λ s idle. inr refl) answers)

      -- the rollback store fails to finish
      pub half_finished : (r₂ : KvState) → IsLawful by_above u₂ → IsLawful by_below r₂ → (e : KvError) → Answers by_below r₁ r₂ (answered who Finish (Refused e))
          → HasRun before (parts root number by_above u₂ by_below r₂) (answered who (Set key value flags) (Refused e))
      half_finished r₂ lawful lawful_too e answers =
          run_below_fails (parts root number by_above u by_below r) who (Set key value flags) goal_above goal_below goals (idle_own number) u₂ NoShare r₂ NoShare (record { who = who; operation = Finish; error = e })
          (λ kind may. set_ends key value flags kind) (λ may. absurd (false≢true may)) writes lawful lawful_too
          above_then (filled_below who key flags bytes size filled.long) (λ prepares. absurd (no_finish_prepares prepares))
          gone_above
          (gone_fails by_below r r₁ r₂ (filled_below who key flags bytes size filled.long) below_then goal_below who Finish begun_below
          (λ s idle. finishes_below who key flags bytes size filled.long r₁.known.constants s is (runs_of idle)) (λ s idle. inl refl) (λ s idle. inr refl) e answers)
          (λ s idle. idle.running) (λ s idle. above_still who key flags bytes size filled.long s (runs_of idle)) (λ prepares. absurd (no_finish_prepares prepares))
          (λ above below idle idle_too y either.
          elim (subst (λ (o : Outcome). IsEither y below.primary o.state.primary) (finishes_below who key flags bytes size filled.long r.known.constants below is (runs_of idle_too)) either) [
            | inl same ↦ inr (inl (sym (goals above below idle idle_too).0, same))
            | inr gone ↦ inr (inr (sym (goals above below idle idle_too).0, gone ∙ sym (goals above below idle idle_too).1))
          ])
