-- The finish of a set in pieces, as a call of the secure store.
use Rattle.std.proofs.Common.{◌≡◌, ℕ, ◌+◌, ◌<◌, ◌≤◌, Bool, true, false, not, ◌==◌, nat_lt, List, [], ◌++◌, length, Option, Some, None, refl, sym, ◌∙◌, ap, subst, inl, inr, arith}
use Rattle.std.specs.Prelude.{IsTrue, if◌then◌else◌}
use Rattle.std.specs.FinMap.{insert}
use Rattle.std.proofs.lemmas.Bool.Decides.{nat_tests}
use mathlib.Core.Bool.{false≢true, true≢false}
use Rattle.kv_model.specs.declared.error.KvError.{KvError}
use Rattle.kv_model.specs.declared.error.KvError.TheVariants as error
use Rattle.kv_model.specs.declared.call.Reply.{Reply}
use Rattle.kv_model.specs.declared.call.Reply.TheVariants.{Done, Refused}
use Rattle.kv_model.specs.Checks.{may_fail_writing}
use Rattle.kv_model.specs.Constants.{Constants}
use Rattle.kv_model.specs.FlaggedMap.{FlaggedMap}
use Rattle.kv_model.specs.Flags.{is_mirrored}
use Rattle.kv_model.specs.StoreState.{OpenSet, StoreState, begun_set}
use Rattle.kv_model.specs.Operations.{Abort, Add, Finish}
use Rattle.kv_model.specs.PlainStep.{plain_rules}
use Rattle.kv_model.specs.Rules.{Outcome, Rules, refused_or, step}
use Rattle.kv_model.specs.Kv.{Answers, IsLawful, Kind, KvState, answered, kind_of, may_end, Ruled, FailedRead, FailedWrite, Mismatched, Wanted}
use Rattle.sealed_pair.specs.declared.limits.TheConstants.{SEAL_SIZE}
use Rattle.sealed_pair.specs.declared.partial.PartialSet.{PartialSet}
use Rattle.sealed_pair.specs.Begun.{active_set, parts_in}
use Rattle.sealed_pair.specs.Going.{HasGone}
use Rattle.sealed_pair.specs.Pieces.{FailsToFeed, HasEndedRecord, IsSealing, fed_set, set_with, vector_before, whole_of}
use Rattle.sealed_pair.specs.Running.{HasRun, IsOpen, Parts, WhereRun, one_of, parts, rules_of}
use Rattle.sealed_pair.specs.Sealing.{kept_flags, record_entry, tag_entry, tag_of}
use Rattle.sealed_pair.specs.Setting.{HasMoved, HasRoomFor, IsAt, MayRefuse, calls, tag_set}
use Rattle.sealed_pair.specs.Shares.{HasSet, NoShare, share_of}
use Rattle.sealed_pair.specs.Store.{Own, idle_own, joined, joined_by}
use Rattle.sealed_pair.proofs.GoingLemmas.{IsEither, gone_fails, gone_more, gone_none}
use Rattle.sealed_pair.proofs.MovingLemmas.{add_stopped, at_open, moved_ends, moved_with}
use Rattle.sealed_pair.proofs.PieceLemmas.{body_left, may_add}
use Rattle.sealed_pair.proofs.PieceRunLemmas.{not_more, same_owner}
use Rattle.sealed_pair.proofs.RunningLemmas.{AreGoals, IsStill, run_above_fails, run_below_fails, run_done}
use Rattle.sealed_pair.proofs.SettingFinishLemmas.{finished_above, finished_below, finishes_above, finishes_below, filled_above, filled_below, long_tag, no_finish_prepares, recorded, tagged}
use Rattle.sealed_pair.proofs.SettingLemmas.{aborted, added, moved_none, past, running_step}
use Rattle.sealed_pair.proofs.SettingRunLemmas.{past_false}

abbrev tag_with : ℕ → PartialSet → List ℕ → OpenSet
tag_with who set bytes = record (begun_set who set.key (kept_flags set.flags.bits) 16 None) { bytes = bytes }

-- where the key is mirrored, the set of its tag, and where it is not, none
module _ (who : ℕ) (set : PartialSet) (by : Constants → Rules) (s s' : KvState) (later : Option OpenSet) where
  pub from_tag : is_mirrored set.flags.bits ≡ true → HasMoved by s s' (Some (tag_with who set [])) later → HasMoved by s s' (tag_set who set.key set.flags.bits []) later
  from_tag is moved = subst (λ (b : Bool). HasMoved by s s' (if b then Some (tag_with who set []) else None) later) (sym is) moved

cleared_still : (state : StoreState) → state.doubt ≡ None → IsStill (record state { open_set = None })
cleared_still state running = record { running = running; holds = refl }

more_left : (n a size : ℕ) → 0 < n → n + a ≡ size → nat_lt a size ≡ true
more_left n a size some all = grind (arith, nat_tests)

pub value_whole : (root : List ℕ) (next : ℕ) (set : PartialSet) → IsSealing root next set → set.left ≡ 0 → length set.value.bytes ≡ set.size
value_whole root next set sealing none = omega (arith, none, body_left root next set sealing)

module _ (root : List ℕ) (next : ℕ) (by_above by_below : Constants → Rules) (u r : KvState) (who : ℕ) (set : PartialSet) (sealing : IsSealing root next set) (a b : Bool) where
  abbrev old : Parts
  old = parts_in root next (active_set who set a b) by_above u by_below r

  abbrev its_own : Own
  its_own = record { number = next; set = Some (record (begun_set who set.key set.flags.bits set.size set.prior) { bytes = set.value.bytes }) }

  abbrev tags : Option OpenSet
  tags = tag_set who set.key set.flags.bits []

  abbrev fed : OpenSet
  fed = fed_set root next who set

  -- ---- bytes are missing

  module _ (u' r' : KvState) (some : 0 < set.left) where
    missing : nat_lt (length set.value.bytes) set.size ≡ true
    missing = more_left set.left (length set.value.bytes) set.size some (body_left root next set sealing)

    missing_step : WhereRun old (λ above below. step (rules_of old) (joined_by its_own above below) who Finish ≡ record { state = joined next above below; reply = Refused error.InvalidSize })
    missing_step above below at at_too =
        running_step (rules_of old) (joined_by its_own above below) who Finish refl
        ∙ ap (λ (o : Option KvError). refused_or (rules_of old) (joined_by its_own above below) who Finish o)
        (past (not (who == who)) error.NoSet _ (same_owner who) ∙ ap (λ (b : Bool). if b then Some error.InvalidSize else None) missing)

    pub given_up : (reply : Reply) → Answers by_above u u' (answered who Abort reply) → HasMoved by_below r r' tags None
        → HasRun old (parts root next by_above u' by_below r') (answered who Finish (Refused error.InvalidSize))
    given_up reply answers gave_up =
        moved_ends root its_own by_above by_below u r who Finish (Some fed) tags (idle_own next) u' r' None None (Refused error.InvalidSize) refl (λ before after. tt)
        (aborted by_above u u' who fed refl reply answers) gave_up missing_step

  -- ---- the whole value is there

  module _ (whole : length set.value.bytes ≡ set.size) where
    not_missing : nat_lt (length set.value.bytes) set.size ≡ false
    not_missing = not_more set.size (length set.value.bytes) (omega (arith, whole))

    finish_writes : WhereRun old (λ above below. IsTrue (may_fail_writing ((rules_of old).checks (joined_by its_own above below) who Finish)))
    finish_writes above below at at_too =
        past_false (not (who == who)) _ (same_owner who) ∙ past_false (nat_lt (length set.value.bytes) set.size) true not_missing

    -- its record could not be added
    pub record_stopped : (u' r' : KvState) (e : KvError) → FailsToFeed (calls by_above u u' who) set e → HasMoved by_below r r' tags None → IsLawful by_below r'
        → HasRun old (parts root next by_above u' by_below r') (answered who Finish (Refused e))
    record_stopped u' r' e fails gave_up lawful =
        add_stopped root its_own by_above by_below u r who Finish (Some fed) tags (idle_own next) u' r' e (ends_as (kind_of (Refused e)) fails.may) lawful finish_writes
        (fails.failed root next sealing) gave_up where
          ends_as : (kind : Kind) → IsTrue (may_end (Add []) kind) → IsTrue (may_end Finish kind)
          ends_as Ruled may = may
          ends_as FailedRead may = may
          ends_as FailedWrite may = may
          ends_as Mismatched may = may
          ends_as Wanted may = may

    module _ (u₁ : KvState) (tag : List ℕ) (ended : HasEndedRecord (calls by_above u u₁ who) set tag) where
      abbrev bytes : List ℕ
      bytes = whole_of root next set

      abbrev flags : ℕ
      flags = set.flags.bits

      long : length bytes ≡ set.size + SEAL_SIZE
      long = ended.long root next sealing

      ends : tag_of bytes ≡ tag
      ends = ended.ends root next sealing

      abbrev goal_above : StoreState → FlaggedMap
      goal_above s = recorded who set.key flags bytes set.size long s.primary

      abbrev goal_below : StoreState → FlaggedMap
      goal_below s = tagged who set.key flags bytes set.size long s.primary

      abbrev filled_one : StoreState → StoreState
      filled_one s = filled_above who set.key flags bytes set.size long s

      abbrev filled_two : StoreState → StoreState
      filled_two s = filled_below who set.key flags bytes set.size long s

      abbrev above_then : StoreState → StoreState
      above_then s = finished_above who set.key flags bytes set.size long s

      abbrev below_then : StoreState → StoreState
      below_then s = finished_below who set.key flags bytes set.size long s

      sets : WhereRun old (λ above below. step (rules_of old) (joined_by its_own above below) who Finish ≡ record { state = joined next (above_then above) (below_then below); reply = Done })
      sets above below at at_too =
          running_step (rules_of old) (joined_by its_own above below) who Finish refl
          ∙ ap (λ (o : Option KvError). refused_or (rules_of old) (joined_by its_own above below) who Finish o)
          (past (not (who == who)) error.NoSet _ (same_owner who) ∙ past (nat_lt (length set.value.bytes) set.size) error.InvalidSize None not_missing)

      goals : WhereRun old (AreGoals old who Finish goal_above goal_below)
      goals above below at at_too = (ap (λ (o : Outcome). o.state.primary) (sets above below at at_too), ap (λ (o : Outcome). o.state.rollback) (sets above below at at_too))

      filled : HasGone (HasSet fed) by_above u u₁ filled_one goal_above
      filled = moved_with (Some fed) goal_above (ended.fed root next sealing)

      finish_one : (c : Constants) (s : StoreState) → s.doubt ≡ None → step (plain_rules c) (filled_one s) who Finish ≡ record { state = above_then s; reply = Done }
      finish_one c s running = finishes_above who set.key flags bytes set.size long c (record s { open_set = None }) (cleared_still s running)

      -- the primary store fails to finish, and the rollback store has given up
      pub not_finished : (u₂ r₂ : KvState) → HasMoved by_below r r₂ tags None → IsLawful by_above u₂ → IsLawful by_below r₂ → (e : KvError) → Answers by_above u₁ u₂ (answered who Finish (Refused e))
          → HasRun old (parts root next by_above u₂ by_below r₂) (answered who Finish (Refused e))
      not_finished u₂ r₂ gave_up lawful lawful_too e answers =
          run_above_fails old who Finish goal_above goal_below goals (idle_own next) u₂ NoShare r₂ NoShare (record { who = who; operation = Finish; error = e })
          (λ kind may. may) (λ may. absurd (false≢true may)) finish_writes lawful lawful_too
          filled_one (λ s. record s { open_set = None }) (λ prepares. absurd (no_finish_prepares prepares))
          (gone_fails by_above u u₁ u₂ filled_one above_then goal_above who Finish filled
          (λ s at. finish_one u₁.known.constants s at.running) (λ s at. inl refl) (λ s at. inr refl) e answers)
          (moved_with tags goal_below gave_up)
          (λ s at. at.running) (λ prepares. absurd (no_finish_prepares prepares)) (λ s at. cleared_still s at.running)
          (λ above below at at_too x either.
          elim (subst (λ (o : Outcome). IsEither x above.primary o.state.primary) (finish_one u.known.constants above at.running) either) [
            | inl same ↦ inl (same, refl)
            | inr gone ↦ inr (inl (gone ∙ sym (goals above below at at_too).0, refl))
          ])

      module _ (u₂ : KvState) (finished : Answers by_above u₁ u₂ (answered who Finish Done)) where
        gone_above : HasGone (HasSet fed) by_above u u₂ above_then goal_above
        gone_above = gone_more by_above u u₁ u₂ filled_one above_then goal_above who Finish filled
            (λ s at. finish_one u₁.known.constants s at.running) (λ s at. inl refl) (λ s at. inr refl) finished

        set_done : (r₂ : KvState) → HasGone (share_of tags) by_below r r₂ below_then goal_below → HasRun old (parts root next by_above u₂ by_below r₂) (answered who Finish Done)
        set_done r₂ gone =
            run_done old who Finish goal_above goal_below goals (idle_own next) u₂ NoShare r₂ NoShare above_then below_then gone_above gone
            (λ s at. record { running = at.running; holds = refl }) (λ s at. record { running = at.running; holds = refl }) sets

        -- the key is not mirrored
        pub finished_alone : is_mirrored flags ≡ false → HasRun old (parts root next by_above u₂ by_below r) (answered who Finish Done)
        finished_alone is =
            set_done r (subst (λ (b : Bool). HasGone (share_of (if b then Some (tag_with who set []) else None)) by_below r r
            (λ x. record x { primary = if b then insert x.primary set.key (tag_entry flags bytes) else x.primary; open_set = None })
            (λ x. if b then insert x.primary set.key (tag_entry flags bytes) else x.primary)) (sym is)
            (moved_with None (λ x. x.primary) (moved_none by_below r None)))

        module _ (is : is_mirrored flags ≡ true) (r₁ : KvState) where
          tag_room : HasRoomFor who (tag_with who set []) (length tag)
          tag_room = record { owner = refl; fits = omega (arith, ap length (sym ends), long_tag who set.key flags bytes set.size long) }

          module _ (tag_added : Answers by_below r r₁ (answered who (Add tag) Done)) where
            tag_filled : HasGone (share_of tags) by_below r r₁ filled_two goal_below
            tag_filled =
                moved_with tags goal_below (from_tag who set by_below r r₁ (Some (tag_with who set (tag_of bytes))) is
                (subst (λ (l : List ℕ). HasMoved by_below r r₁ (Some (tag_with who set [])) (Some (tag_with who set l))) (sym ends)
                (added by_below r r₁ who tag (tag_with who set []) tag_room tag_added)))

            finish_two : (c : Constants) (s : StoreState) → s.doubt ≡ None → step (plain_rules c) (filled_two s) who Finish ≡ record { state = below_then s; reply = Done }
            finish_two c s running = finishes_below who set.key flags bytes set.size long c (record s { open_set = None }) is (cleared_still s running)

            -- both are set
            pub finished_both : (r₂ : KvState) → Answers by_below r₁ r₂ (answered who Finish Done) → HasRun old (parts root next by_above u₂ by_below r₂) (answered who Finish Done)
            finished_both r₂ answers =
                set_done r₂ (gone_more by_below r r₁ r₂ filled_two below_then goal_below who Finish tag_filled
                (λ s at. finish_two r₁.known.constants s at.running) (λ s at. inl refl) (λ s at. inr refl) answers)

            -- the rollback store fails to finish
            pub half_finished : (r₂ : KvState) → IsLawful by_above u₂ → IsLawful by_below r₂ → (e : KvError) → Answers by_below r₁ r₂ (answered who Finish (Refused e))
                → HasRun old (parts root next by_above u₂ by_below r₂) (answered who Finish (Refused e))
            half_finished r₂ lawful lawful_too e answers =
                run_below_fails old who Finish goal_above goal_below goals (idle_own next) u₂ NoShare r₂ NoShare (record { who = who; operation = Finish; error = e })
                (λ kind may. may) (λ may. absurd (false≢true may)) finish_writes lawful lawful_too
                above_then filled_two (λ prepares. absurd (no_finish_prepares prepares)) gone_above
                (gone_fails by_below r r₁ r₂ filled_two below_then goal_below who Finish tag_filled
                (λ s at. finish_two r₁.known.constants s at.running) (λ s at. inl refl) (λ s at. inr refl) e answers)
                (λ s at. at.running) (λ s at. record { running = at.running; holds = refl }) (λ prepares. absurd (no_finish_prepares prepares))
                (λ above below at at_too y either.
                elim (subst (λ (o : Outcome). IsEither y below.primary o.state.primary) (finish_two r.known.constants below at_too.running) either) [
                  | inl same ↦ inr (inl (sym (goals above below at at_too).0, same))
                  | inr gone ↦ inr (inr (sym (goals above below at at_too).0, gone ∙ sym (goals above below at at_too).1))
                ])

          -- the rollback store can't take the tag
          adds_tag : (c : Constants) (s : StoreState) → IsOpen (share_of tags) by_below r s → step (plain_rules c) s who (Add tag) ≡ record { state = record s { open_set = Some (tag_with who set tag) }; reply = Done }
          adds_tag c s at =
              let here = at_open tags at in
              subst (λ (o : Option OpenSet). step (plain_rules c) (record s { open_set = o }) who (Add tag) ≡ record { state = record s { open_set = Some (tag_with who set tag) }; reply = Done })
              (sym (here.active ∙ ap (λ (b : Bool). if b then Some (tag_with who set []) else None) is))
              (running_step (plain_rules c) (record s { open_set = Some (tag_with who set []) }) who (Add tag) at.running
              ∙ ap (λ (o : Option KvError). refused_or (plain_rules c) (record s { open_set = Some (tag_with who set []) }) who (Add tag) o)
              (past (not (who == who)) error.NoSet _ (same_owner who) ∙ past (nat_lt 16 (0 + length tag)) error.InvalidSize None (not_more (0 + length tag) 16 tag_room.fits)))

          pub tag_refused : IsLawful by_above u₂ → IsLawful by_below r₁ → (e : KvError) → Answers by_below r r₁ (answered who (Add tag) (Refused e))
              → HasRun old (parts root next by_above u₂ by_below r₁) (answered who Finish (Refused e))
          tag_refused lawful lawful_too e answers =
              run_below_fails old who Finish goal_above goal_below goals (idle_own next) u₂ NoShare r₁ NoShare (record { who = who; operation = Add tag; error = e })
              ends_as (λ may. absurd (false≢true may)) finish_writes lawful lawful_too
              above_then (λ s. s) (λ prepares. absurd (no_finish_prepares prepares)) gone_above
              (gone_fails by_below r r r₁ (λ s. s) (λ s. record s { open_set = Some (tag_with who set tag) }) goal_below who (Add tag) (gone_none by_below r goal_below)
              (λ s at. adds_tag r.known.constants s at) (λ s at. inl refl) (λ s at. inl refl) e answers)
              (λ s at. at.running) (λ s at. record { running = at.running; holds = refl }) (λ prepares. absurd (no_finish_prepares prepares))
              (λ above below at at_too y either.
              elim (subst (λ (o : Outcome). IsEither y below.primary o.state.primary) (adds_tag r.known.constants below at_too) either) [
                | inl same ↦ inr (inl (sym (goals above below at at_too).0, same))
                | inr same ↦ inr (inl (sym (goals above below at at_too).0, same))
              ]) where
                ends_as : (kind : Kind) → IsTrue (may_end (Add tag) kind) → IsTrue (may_end Finish kind)
                ends_as Ruled may = may
                ends_as FailedRead may = may
                ends_as FailedWrite may = may
                ends_as Mismatched may = may
                ends_as Wanted may = may
