-- The healing of one key.
use Rattle.std.proofs.Common.{◌≡◌, ◌⊎◌, inl, inr, ℕ, ◌+◌, Bool, true, false, List, length, Option, Some, None, Ok, Err, nat_le, cond, refl, sym, ◌∙◌, ap, ap₂, subst, arith, true≢false}
use Rattle.std.specs.Prelude.{if◌then◌else◌, is_some, IsTrue, nat_lt, not, take, ◌%◌}
use Rattle.std.specs.Option.{option_map_or}
use Rattle.std.specs.Cmp.Lexicographic.{nat_list_cmp_total}
use Rattle.std.specs.Cmp.{eq_by_cmp_equiv}
use Rattle.std.specs.FinMap.{get, get-insert, insert}
use Rattle.base_core.specs.Sizes.{record_size}
use Rattle.kv_model.specs.declared.error.KvError.{KvError}
use Rattle.kv_model.specs.declared.error.KvError.TheVariants as error
use Rattle.kv_model.specs.declared.call.Reply.{Reply}
use Rattle.kv_model.specs.declared.call.Reply.TheVariants.{Done, Refused}
use Rattle.kv_model.specs.Constants.{Constants}
use Rattle.kv_model.specs.FlaggedMap.{FlaggedMap, Stored}
use Rattle.kv_model.specs.Flags.{is_plain_flags, is_write_once}
use Rattle.kv_model.specs.Keys.{is_key}
use Rattle.kv_model.specs.Operations.{Set}
use Rattle.kv_model.specs.PlainStep.{flags_in, plain_rules}
use Rattle.kv_model.specs.Rules.{Outcome, Rules, failed_write, step}
use Rattle.kv_model.specs.Sizes.{used}
use Rattle.kv_model.specs.StoreState.{StoreState}
use Rattle.kv_model.specs.Kv.{Answers, IsLawful, Kind, KvState, LeadsTo, TellsOnly, answered, kind_of, Ruled, FailedRead, FailedWrite, Mismatched, Wanted}
use Rattle.secure_record.specs.declared.metadata.Metadata.{Metadata}
use Rattle.secure_record.specs.Metadata.{metadata_of}
use Rattle.secure_record.specs.Unseal.{Opened, unseal}
use Rattle.sealed_pair.specs.declared.opening.Found.{Found}
use Rattle.sealed_pair.specs.Absorbing.{HasHead, OpensTo, Shows}
use Rattle.sealed_pair.specs.Going.{WhereStill}
use Rattle.sealed_pair.specs.Heal.{metadata_in}
use Rattle.sealed_pair.specs.Recovering.{HasBroken, IsSuccessor, MayReplace, Rewrites, is_full, with_tag}
use Rattle.sealed_pair.specs.Running.{IsIdle}
use Rattle.sealed_pair.specs.Sealing.{tag_of}
use Rattle.sealed_pair.proofs.GoingLemmas.{failed_mounts}
use Rattle.sealed_pair.proofs.ReadingLemmas.{some_of}
use Rattle.sealed_pair.proofs.RunningLemmas.{IsStill, runs_of}

pub wanted_memory : (e : KvError) → kind_of (Refused e) ≡ Wanted → e ≡ error.Memory
wanted_memory error.NotFound is = absurd (cc is)
wanted_memory error.InvalidKey is = absurd (cc is)
wanted_memory error.InvalidFlags is = absurd (cc is)
wanted_memory error.InvalidSize is = absurd (cc is)
wanted_memory error.WriteProtected is = absurd (cc is)
wanted_memory (error.MediaFull need room) is = absurd (cc is)
wanted_memory error.TooManyIterators is = absurd (cc is)
wanted_memory error.NoIterator is = absurd (cc is)
wanted_memory error.SetOpen is = absurd (cc is)
wanted_memory error.NoSet is = absurd (cc is)
wanted_memory (error.Busy owner) is = absurd (cc is)
wanted_memory error.Stopped is = absurd (cc is)
wanted_memory error.ReadFault is = absurd (cc is)
wanted_memory error.WriteFault is = absurd (cc is)
wanted_memory (error.Corrupt stored computed) is = absurd (cc is)
wanted_memory error.AuthFailed is = absurd (cc is)
wanted_memory error.RollbackFailed is = absurd (cc is)
wanted_memory error.IvSpent is = absurd (cc is)
wanted_memory error.Memory is = refl

pub same_stored : (a b : Stored) → Some a ≡ Some b → a ≡ b
same_stored a b is = cc

abbrev error_in : Reply → KvError
error_in (Refused e) = e
error_in reply = error.NotFound

abbrev full_in : Reply → Bool
full_in (Refused e) = is_full e
full_in reply = false

-- a value that was put in is there
inserted : (m : FlaggedMap) (key : List ℕ) (v : Stored) → get (insert m key v) key ≡ Some v
inserted m key v = get-insert nat_list_cmp_total m key v key ∙ ap (λ (b : Bool). cond b (Some v) (get m key)) ((eq_by_cmp_equiv nat_list_cmp_total).refl key)

-- ---- the record that replaces a tag

module _ (root key : List ℕ) (found : Option Stored) where
  sealed_in : (bytes : List ℕ) (m : Metadata) (opened : Opened) → unseal root key bytes ≡ Some opened → metadata_of (take 40 bytes) (length bytes) ≡ Some m → metadata_in root key bytes ≡ Some m
  sealed_in bytes m opened is head =
      ap (λ (o : Option Opened). if is_some o then metadata_of (take 40 bytes) (length bytes) else None) is ∙ head

  pub succeeds : (m : Metadata) (f : Found) (offset flags : ℕ) (buf prior : List ℕ) → HasHead found m → Shows root key found offset f buf → flags ≡ m.flags % 2 → m.prior ≡ Some prior
      → IsSuccessor root key found (record { flags = record { bits = flags }; tag = f.tag; prior = prior })
  succeeds m f offset flags buf prior head shows kept prior_is =
      let same = same_stored shows.stored head.stored (sym shows.is_there ∙ head.there) in
      record {
        stored = head.stored;
        there = head.there;
        metadata = m;
        sealed = sealed_in head.stored.bytes m shows.opened (ap (λ (x : Stored). unseal root key x.bytes) (sym same) ∙ shows.unsealed) head.head;
        prior = prior_is;
        completed = ap₂ (λ (n : ℕ) (bytes : List ℕ). record { flags = n; bytes = bytes }) kept (shows.tag ∙ ap (λ (x : Stored). tag_of x.bytes) same);
      }

  pub only_read : (e : KvError) (offset : ℕ) (buf : List ℕ) → (e ≡ error.AuthFailed → ⊥) → OpensTo root key found (Err e) offset buf → e ≡ error.ReadFault
  only_read e offset buf apart opens = elim opens [ inl is ↦ is | inr none ↦ absurd (apart none.refused) ]

-- ---- a set of a tag, by the plain rules

not_less : (need room : ℕ) (fits : Bool) → nat_le need room ≡ fits → nat_lt room need ≡ not fits
not_less need room fits is = grind (arith)

module _ (key : List ℕ) (good : is_key key ≡ true) (who flags : ℕ) (bytes : List ℕ) (plain : is_plain_flags flags ≡ true) (short : length bytes ≡ 16) where
  abbrev tag : Stored
  tag = record { flags = flags; bytes = bytes }

  abbrev needs : Constants → StoreState → ℕ
  needs c s = used c.prog s.primary + record_size c.prog (length key) 16

  abbrev outcome_by : Constants → StoreState → Bool → Outcome
  outcome_by c s fits =
      if fits then record { state = record s { primary = insert s.primary key tag }; reply = Done }
      else record { state = s; reply = Refused (error.MediaFull (needs c s) c.room) }

  set_by : (c : Constants) (s : StoreState) → IsStill s → is_write_once (flags_in s.primary key) ≡ false → (fits : Bool) → nat_le (needs c s) c.room ≡ fits
      → step (plain_rules c) s who (Set key bytes flags) ≡ outcome_by c s fits
  set_by c s still free true fits = simp (still.running, still.holds, good, plain, short, free, not_less (needs c s) c.room true fits) refl
  set_by c s still free false fits = simp (still.running, still.holds, good, plain, short, free, not_less (needs c s) c.room false fits) refl

  changes : (s : StoreState) → MayReplace key tag s → insert s.primary key tag ≡ s.primary → ⊥
  changes s may same =
      may.other (same_stored may.stored tag (sym may.there ∙ sym (ap (λ (m : FlaggedMap). get m key) same) ∙ inserted s.primary key tag))

  full_reply : (c : Constants) (s : StoreState) (fits : Bool) (e : KvError) → (outcome_by c s fits).reply ≡ Refused e → (fits ≡ false) × (is_full e ≡ true)
  full_reply c s true e is = absurd (cc is)
  full_reply c s false e is = (refl, ap full_in (sym is))

  done_fits : (c : Constants) (s : StoreState) (fits : Bool) → (outcome_by c s fits).reply ≡ Done → fits ≡ true
  done_fits c s true is = refl
  done_fits c s false is = absurd (cc is)

  module _ (by : Constants → Rules) (old new : KvState) (held : WhereStill by old (MayReplace key tag)) where
    abbrev goal : StoreState → FlaggedMap
    goal s = with_tag old.known.constants key tag s.primary

    abbrev Call : Reply → Type 0
    Call reply = Answers by old new (answered who (Set key bytes flags) reply)

    abbrev fits_in : StoreState → Bool
    fits_in s = nat_le (needs old.known.constants s) old.known.constants.room

    free_of : (s : StoreState) → IsIdle by old s → is_write_once (flags_in s.primary key) ≡ false
    free_of s idle =
        let h = held s idle in
        ap (λ (o : Option Stored). is_write_once (option_map_or (λ (x : Stored). x.flags) o 0)) h.there ∙ h.free

    plain_outcome : (s : StoreState) → IsIdle by old s → step (plain_rules old.known.constants) s who (Set key bytes flags) ≡ outcome_by old.known.constants s (fits_in s)
    plain_outcome s idle = set_by old.known.constants s (runs_of idle) (free_of s idle) (fits_in s) refl

    outcome : (s : StoreState) → IsIdle by old s → step (by old.known.constants) s who (Set key bytes flags) ≡ outcome_by old.known.constants s (fits_in s)
    outcome s idle =
        subst (λ (b : Constants → Rules). step (b old.known.constants) s who (Set key bytes flags) ≡ outcome_by old.known.constants s (fits_in s)) (sym idle.rules)
        (plain_outcome s idle)

    state_by : (s : StoreState) (fits : Bool) → fits_in s ≡ fits → (outcome_by old.known.constants s fits).state ≡ record s { primary = if fits then insert s.primary key tag else s.primary }
    state_by s true is = refl
    state_by s false is = refl

    goal_of_step : (o : Outcome) (s : StoreState) → o ≡ outcome_by old.known.constants s (fits_in s) → o.state ≡ record s { primary = goal s }
    goal_of_step o s is = ap (λ (x : Outcome). x.state) is ∙ state_by s (fits_in s) refl

    ruled : (reply : Reply) → kind_of reply ≡ Ruled → Call reply → (s : StoreState) → IsIdle by old s
        → (new.known.state ≡ Some (record s { primary = goal s })) × ((outcome_by old.known.constants s (fits_in s)).reply ≡ reply)
    ruled reply kind answers s idle =
        let there = some_of new.known.state (answers.does.keeps.tells_state ∙ ap is_some idle.told) in
        let leads = subst (λ (k : Kind). LeadsTo (by old.known.constants) s (answered who (Set key bytes flags) reply) there.0 k) kind
        (answers.does.leads s idle.told there.0 there.1) in
        let same = sym leads ∙ outcome s idle in
        (there.1 ∙ ap (λ (t : StoreState). Some t) (goal_of_step (record { state = there.0; reply = reply }) s same), sym (ap (λ (o : Outcome). o.reply) same))

    moments_of : (reply : Reply) → Call reply → IsTrue old.crash.tells_moments
        → WhereStill by old (λ s. TellsOnly old.crash.primary new.crash.primary s.primary (goal s))
    moments_of reply answers tells s idle =
        subst (λ (t : StoreState). TellsOnly old.crash.primary new.crash.primary s.primary t.primary) (goal_of_step (step (by old.known.constants) s who (Set key bytes flags)) s (outcome s idle))
        (answers.does.cuts tells s idle.told).0

    goal_fits : (s : StoreState) → fits_in s ≡ true → goal s ≡ insert s.primary key tag
    goal_fits s is = ap (λ (b : Bool). if b then insert s.primary key tag else s.primary) is

    goal_full : (s : StoreState) → fits_in s ≡ false → goal s ≡ s.primary
    goal_full s is = ap (λ (b : Bool). if b then insert s.primary key tag else s.primary) is

    pub replaced : Call Done → Rewrites by old new goal (Ok true)
    replaced answers = record {
      told = λ s idle.
          let by_rules = ruled Done refl answers s idle in
          record {
            told = by_rules.0;
            counted = λ holds same. changes s (held s idle) (sym (goal_fits s (done_fits old.known.constants s (fits_in s) by_rules.1)) ∙ same);
            uncounted = λ lacks. absurd (true≢false lacks);
          };
      moments = moments_of Done answers;
    }

    broken : (e : KvError) (kind : Kind) → is_full e ≡ false → kind_of (Refused e) ≡ kind → Answers by old new (answered who (Set key bytes flags) (Refused e)) → IsLawful by new
        → (s after : StoreState) → IsIdle by old s → new.known.state ≡ Some after
        → LeadsTo (by old.known.constants) s (answered who (Set key bytes flags) (Refused e)) after kind → HasBroken new s (goal s) e
    broken e Ruled not_full kind answers lawful s after idle told leads =
        absurd (true≢false (sym (full_reply old.known.constants s (fits_in s) e (ap (λ (o : Outcome). o.reply) (sym (outcome s idle) ∙ leads))).1 ∙ not_full))
    broken e FailedRead not_full kind answers lawful s after idle told leads =
        inr (told ∙ ap (λ (o : Outcome). Some o.state) leads.2, inl (ap (λ (o : Outcome). error_in o.reply) leads.2))
    broken e FailedWrite not_full kind answers lawful s after idle told leads =
        let stopped : new.known.state ≡ Some (failed_write (by old.known.constants) s who (Set key bytes flags)) = told ∙ ap (λ (o : Outcome). Some o.state) leads.2 in
        let plainly : new.known.state ≡ Some (failed_write (plain_rules new.known.constants) s who (Set key bytes flags)) =
        subst (λ (b : Constants → Rules). new.known.state ≡ Some (failed_write (b new.known.constants) s who (Set key bytes flags))) idle.rules
        (subst (λ (c : Constants). new.known.state ≡ Some (failed_write (by c) s who (Set key bytes flags))) (sym answers.does.keeps.constants) stopped) in
        inl (
          ap (λ (o : Outcome). error_in o.reply) leads.2,
          λ maps stands.
              subst (λ (t : StoreState). (maps.primary ≡ s.primary) ⊎ (maps.primary ≡ t.primary)) (goal_of_step (step (plain_rules old.known.constants) s who (Set key bytes flags)) s (plain_outcome s idle))
              (subst (λ (c : Constants). (maps.primary ≡ s.primary) ⊎ (maps.primary ≡ (step (plain_rules c) s who (Set key bytes flags)).state.primary)) answers.does.keeps.constants
              (failed_mounts by new lawful idle.rules s maps who (Set key bytes flags) idle.running plainly stands)),
        )
    broken e Mismatched not_full kind answers lawful s after idle told leads = absurd leads
    broken e Wanted not_full kind answers lawful s after idle told leads =
        inr (told ∙ ap (λ (t : StoreState). Some t) leads, inr (wanted_memory e kind))

    pub not_replaced : IsLawful by new → (e : KvError) → is_full e ≡ false → Call (Refused e) → Rewrites by old new goal (Err e)
    not_replaced lawful e not_full answers = record {
      told = λ s idle.
          let there = some_of new.known.state (answers.does.keeps.tells_state ∙ ap is_some idle.told) in
          broken e (kind_of (Refused e)) not_full refl answers lawful s there.0 idle there.1 (answers.does.leads s idle.told there.0 there.1);
      moments = moments_of (Refused e) answers;
    }
