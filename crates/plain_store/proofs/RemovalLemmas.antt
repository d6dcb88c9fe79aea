-- A remove, begun or done at once, as a call of a plain store.
use Rattle.std.proofs.Common.{◌≡◌, ◌⊎◌, ℕ, Bool, true, false, if◌then◌else◌, List, [], inl, inr, refl, sym, ◌∙◌, ap, subst}
use Rattle.std.specs.Prelude.{IsTrue, Option, Some, None, is_some, unwrap_or, Result, Ok, Err}
use Rattle.std.specs.Result.{IsErrAnd}
use Rattle.std.specs.FinMap as map
use Rattle.flash_core.specs.declared.geometry.Geometry.{Geometry}
use Rattle.flash_core.specs.Runs.{Done, Ending, WriteFailed}
use Rattle.kv_model.specs.declared.call.Reply.{Reply}
use Rattle.kv_model.specs.declared.call.Reply.TheVariants as reply
use Rattle.kv_model.specs.declared.error.KvError.{KvError}
use Rattle.kv_model.specs.declared.error.KvError.TheVariants.{NotFound, Stopped, WriteFault, WriteProtected}
use Rattle.kv_model.specs.Checks.{first_refusal, may_fail_reading, may_fail_writing}
use Rattle.kv_model.specs.Constants.{Constants}
use Rattle.kv_model.specs.FlaggedMap.{FlaggedMap}
use Rattle.kv_model.specs.Given.{done_or}
use Rattle.kv_model.specs.Keys.{is_key}
use Rattle.kv_model.specs.Kv.{Answers, Ruled, answered, kind_of, reads, writes}
use Rattle.kv_model.specs.LogStep.{LogSteps}
use Rattle.kv_model.specs.Opening.{Log}
use Rattle.kv_model.specs.Operations.{Operation, Remove, RemoveStart}
use Rattle.kv_model.specs.PlainStep.{plain_checks, plain_effect, plain_rules, plain_step, remove_checks}
use Rattle.kv_model.specs.Rules.{Outcome, after_refusal, refused_or, refuses}
use Rattle.kv_model.specs.StoreState.{OpenSet, StoreState}
use Rattle.kv_model.proofs.PerformLemmas.{refused_follows}
use Rattle.record_core.specs.Endings.{kv_ending}
use Rattle.tdb_read.specs.Reads.{IsReadRefusal, map_in}
use Rattle.tdb_read.specs.States.{constants_of, kv_state, log_in, state_in}
use Rattle.tdb_read.specs.Views.{HasOnlyRead, IsReady, LogPart, LogView}
use Rattle.tdb_read.proofs.AnswerLemmas.{refused, ruled}
use Rattle.tdb_read.proofs.GetLemmas.{only_read}
use Rattle.tdb_write.specs.Changes.{Changes, IsCopyRefusal}
use Rattle.plain_store.specs.Moments.{CutsStrictly}
use Rattle.plain_store.specs.Removing.{HasKeyOnce, IsRemoveRefusal, IsThere}
use Rattle.plain_store.specs.Sets.{set_in}
use Rattle.plain_store.specs.Stores.{IsStopped, IsStore, in_doubt, state_by}
use Rattle.plain_store.specs.declared.active.ActiveSet.{ActiveSet}
use Rattle.plain_store.proofs.MomentLemmas.{written}
use Rattle.plain_store.proofs.StoreLemmas.{running_of, view_at}
use Rattle.plain_store.proofs.WriteLemmas.{done, failed, read_failed, stopped}

-- ---- which calls are removes

-- A call with the checks of a remove, which reads and writes, and leaves the state where it is refused.
pub record IsRemoval (key : List ℕ) (operation : Operation) : Type 0 where
  pub checks : (constants : Constants) (s : StoreState) (who : ℕ) → plain_checks constants s who operation ≡ remove_checks constants s who key
  pub stays : (s : StoreState) (e : KvError) → after_refusal s operation e ≡ s
  pub may_read : IsTrue (reads operation)
  pub may_write : IsTrue (writes operation)

pub begins : (key : List ℕ) → IsRemoval key (RemoveStart key)
begins key = record { checks = λ constants s who. refl; stays = λ s e. refl; may_read = refl; may_write = refl }

pub removes : (key : List ℕ) → IsRemoval key (Remove key)
removes key = record { checks = λ constants s who. refl; stays = λ s e. refl; may_read = refl; may_write = refl }

-- ---- the checks of a remove

module _ (constants : Constants) (state : StoreState) (who : ℕ) (key : List ℕ) (valid : is_key key ≡ true) (free : state.open_set ≡ None) where
  remove_reads : IsTrue (may_fail_reading (remove_checks constants state who key))
  remove_reads = simp (valid, free)

  missing_refuses : map.get state.primary key ≡ None → first_refusal (remove_checks constants state who key) ≡ Some NotFound
  missing_refuses none = simp (valid, free, none)

  there_refuses : (once : Bool) → HasKeyOnce state.primary key once → first_refusal (remove_checks constants state who key) ≡ (if once then Some WriteProtected else None)
  there_refuses once there = simp (valid, free, there.0, there.1)

  there_writes : HasKeyOnce state.primary key false → IsTrue (may_fail_writing (remove_checks constants state who key))
  there_writes there = simp (valid, free, there.0, there.1)

-- the step of a remove that is refused
refusal_step : (constants : Constants) (s : StoreState) (who : ℕ) (key : List ℕ) (operation : Operation) → IsRemoval key operation → s.doubt ≡ None → (e : KvError)
    → first_refusal (remove_checks constants s who key) ≡ Some e → plain_step constants s who operation ≡ refuses s e
refusal_step constants s who key operation removal runs e first =
    (λ i. if is_some (runs i) then refuses s Stopped else refused_or (plain_rules constants) s who operation (first_refusal (plain_checks constants s who operation)))
    ∙ (λ i. refused_or (plain_rules constants) s who operation ((ap first_refusal (removal.checks constants s who) ∙ first) i))
    ∙ (λ i. refuses (removal.stays s e i) e)

-- ---- the refusals of a look-up

module _ (old new : LogView) (read : HasOnlyRead old new) (who : ℕ) (key : List ℕ) (valid : is_key key ≡ true) (operation : Operation) (removal : IsRemoval key operation) where
  abbrev before : List ℕ → StoreState
  before image = state_in old.device.geometry old.log None image

  abbrev Looks : KvError → Type 0
  Looks e = Answers plain_rules (kv_state old None) (kv_state new None) (answered who operation (reply.Refused e))

  looked_by : (e : KvError) → kind_of (reply.Refused e) ≡ Ruled
      → ((image : List ℕ) → old.device.image ≡ Some image → first_refusal (remove_checks (constants_of old.device.geometry old.log) (before image) who key) ≡ Some e) → Looks e
  looked_by e kind first = ruled old new (only_read read) None (answered who operation (reply.Refused e)) kind
      (λ image told.
      refusal_step (constants_of old.device.geometry old.log) (before image) who key operation removal refl e (first image told)
      ∙ (λ i. refuses (state_in old.device.geometry (record old.log { iterators = sym (ap (λ (l : LogPart). l.iterators) read.log) i }) None image) e))
      (λ s l. refused_follows (constants_of old.device.geometry old.log) s l operation e)

  look_refused : (e : KvError) → IsRemoveRefusal old new key e → Looks e
  look_refused e (inl is) = subst Looks (sym is.0)
      (looked_by NotFound refl (λ image told. missing_refuses (constants_of old.device.geometry old.log) (before image) who key valid refl (is.1 image told)))
  look_refused e (inr (inl is)) = subst Looks (sym is.0)
      (looked_by WriteProtected refl (λ image told. there_refuses (constants_of old.device.geometry old.log) (before image) who key valid refl true (is.1 image told)))
  look_refused e (inr (inr is)) = refused old new (only_read read) None who operation e (ap (λ (l : LogPart). l.iterators) read.log) removal.may_read is
      (λ image told. ap may_fail_reading (removal.checks (constants_of old.device.geometry old.log) (before image) who)
      ∙ remove_reads (constants_of old.device.geometry old.log) (before image) who key valid refl)

-- ---- over a whole store

module _ (old new : LogView) (active : Option ActiveSet) (note : Option StoreState) (runs : note ≡ None) (free : active ≡ None) (who : ℕ) (key bytes : List ℕ) (key_is : key ≡ bytes)
    (of : List ℕ → Operation) where
  -- a call of the store
  abbrev Is : Option OpenSet → Option StoreState → Reply → Type 0
  Is next later given = Answers plain_rules (state_by old (set_in active) note) (state_by new next later) (answered who (of bytes) given)

  from_parts : (next : Option OpenSet) (later : Option StoreState) (given : Reply)
      → Answers plain_rules (kv_state old None) (state_by new next later) (answered who (of key) given) → Is next later given
  from_parts next later given is =
      subst (λ (n : Option StoreState). Answers plain_rules (state_by old (set_in active) n) (state_by new next later) (answered who (of bytes) given)) (sym runs)
      (subst (λ (a : Option ActiveSet). Answers plain_rules (kv_state old (set_in a)) (state_by new next later) (answered who (of bytes) given)) (sym free)
      (subst (λ (k : List ℕ). Answers plain_rules (kv_state old None) (state_by new next later) (answered who (of k) given)) key_is is))

  -- the set and the note stand
  from_running : (given : Reply) → Answers plain_rules (kv_state old None) (kv_state new None) (answered who (of key) given) → Is (set_in active) note given
  from_running given is =
      subst (λ (n : Option StoreState). Is (set_in active) n given) (sym runs)
      (subst (λ (a : Option ActiveSet). Is (set_in a) None given) (sym free) (from_parts None None given is))

  pub look_up_refused : is_key bytes ≡ true → ((k : List ℕ) → IsRemoval k (of k)) → HasOnlyRead old new → (result : Result (Unit {0}) KvError) (e : KvError) → IsErrAnd result (λ x. x ≡ e)
      → IsRemoveRefusal old new key e → Is (set_in active) note (done_or result)
  look_up_refused valid removal read (Ok done) e is refusal = absurd is
  look_up_refused valid removal read (Err x) e is refusal = subst (λ (y : KvError). Is (set_in active) note (reply.Refused y)) (sym is)
      (from_running (reply.Refused e) (look_refused old new read who key (ap is_key key_is ∙ valid) (of key) (removal key) e refusal))

module _ (old mid new : LogView) (active : Option ActiveSet) (note : Option StoreState) (runs : note ≡ None) (store : IsStore (view_at old active note)) (free : active ≡ None)
    (who : ℕ) (key bytes : List ℕ) (key_is : key ≡ bytes) (valid : is_key bytes ≡ true) (of : List ℕ → Operation) (removal : (k : List ℕ) → IsRemoval k (of k))
    (read : HasOnlyRead old mid) (there : IsThere mid key false) (next : Option OpenSet) (after : FlaggedMap → FlaggedMap) (Step : Log → Log → Type 0)
    (effect : (image : List ℕ) → plain_effect (constants_of old.device.geometry old.log) (state_in old.device.geometry old.log None image) who (of key)
    ≡ record { state = record (state_in old.device.geometry old.log None image) { primary = after (map_in old.device.geometry old.log image); open_set = next }; reply = reply.Done })
    (ending : Ending) (changes : Changes mid new after Step ending) where
  ready : IsReady old
  ready = (running_of old active note runs store).ready

  abbrev consts : Constants
  consts = constants_of old.device.geometry old.log

  abbrev first_state : List ℕ → StoreState
  first_state image = state_in old.device.geometry old.log None image

  valid_key : is_key key ≡ true
  valid_key = ap is_key key_is ∙ valid

  there_first : (image : List ℕ) → old.device.image ≡ Some image → HasKeyOnce (first_state image).primary key false
  there_first image told = subst (λ (l : LogPart). HasKeyOnce (map_in old.device.geometry l image) key false) read.log
      (subst (λ (g : Geometry). HasKeyOnce (map_in g mid.log image) key false) read.device.geometry (there image (read.device.image ∙ told)))

  steps : (image : List ℕ) → old.device.image ≡ Some image → plain_step consts (first_state image) who (of key)
      ≡ record { state = record (first_state image) { primary = after (map_in old.device.geometry old.log image); open_set = next }; reply = reply.Done }
  steps image told =
      (λ i. refused_or (plain_rules consts) (first_state image) who (of key)
      ((ap first_refusal ((removal key).checks consts (first_state image) who) ∙ there_refuses consts (first_state image) who key valid_key refl false (there_first image told)) i))
      ∙ effect image

  comes : (image : List ℕ) → old.device.image ≡ Some image → IsTrue (may_fail_writing (plain_checks consts (first_state image) who (of key)))
  comes image told = ap may_fail_writing ((removal key).checks consts (first_state image) who)
      ∙ there_writes consts (first_state image) who key valid_key refl (there_first image told)

  pub removal_done : ending ≡ Done
      → ((image : List ℕ) → old.device.image ≡ Some image → (l : Log) → Step (log_in old.device.geometry old.log image) l → LogSteps consts (first_state image) (log_in old.device.geometry old.log image) l (of key))
      → Is old new active note runs free who key bytes key_is of next note reply.Done
  removal_done is follows = subst (λ (n : Option StoreState). Is old new active note runs free who key bytes key_is of next n reply.Done) (sym runs)
      (from_parts old new active note runs free who key bytes key_is of next None reply.Done
      (done old mid new ready read after Step ending changes is None next who (of key)
      (λ image left told now. steps image told)
      (λ image left told now. follows image told (log_in new.device.geometry new.log left))))

  -- a remove that is done begins nothing
  pub removed : ending ≡ Done → next ≡ None
      → ((image : List ℕ) → old.device.image ≡ Some image → (l : Log) → Step (log_in old.device.geometry old.log image) l → LogSteps consts (first_state image) (log_in old.device.geometry old.log image) l (of key))
      → Is old new active note runs free who key bytes key_is of (set_in active) note reply.Done
  removed is none follows = subst (λ (s : Option OpenSet). Is old new active note runs free who key bytes key_is of s note reply.Done) (none ∙ ap set_in (sym free)) (removal_done is follows)

  -- its own step is one of two that a cut may leave
  either : (image : List ℕ) → old.device.image ≡ Some image
      → (after (map_in old.device.geometry old.log image) ≡ map_in old.device.geometry old.log image) ⊎ (after (map_in old.device.geometry old.log image) ≡ (plain_step consts (first_state image) who (of key)).state.primary)
  either image told = inr (sym (ap (λ (o : Outcome). o.state.primary) (steps image told)))

  -- each moment of it
  pub removal_cuts : (to : Option ActiveSet) (later : Option StoreState) → (is_some later ≡ true → ending ≡ WriteFailed) → CutsStrictly (view_at old active note) (view_at new to later) who (of bytes)
  removal_cuts to later fails =
      subst (λ (k : List ℕ). CutsStrictly (view_at old active note) (view_at new to later) who (of k)) key_is
      (subst (λ (a : Option ActiveSet). CutsStrictly (view_at old a note) (view_at new to later) who (of key)) (sym free)
      (written old mid new read after Step ending changes None note who (of key) either to later fails))

  module _ (is : ending ≡ WriteFailed) (state : StoreState)
      (noted : state ≡ in_doubt (state_in old.device.geometry old.log (set_in active) (unwrap_or old.device.image [])) who (of key)) where
    note_is : (image : List ℕ) → old.device.image ≡ Some image → state ≡ record (first_state image) { doubt = Some (record { who = who; operation = of key }) }
    note_is image told = noted ∙ ap (λ (o : Option (List ℕ)). in_doubt (state_in old.device.geometry old.log (set_in active) (unwrap_or o [])) who (of key)) told
        ∙ ap (λ (a : Option ActiveSet). in_doubt (state_in old.device.geometry old.log (set_in a) image) who (of key)) free

    pub removal_doubted : (left : Option OpenSet) (e : KvError) → e ≡ WriteFault → Is old new active note runs free who key bytes key_is of left (Some state) (reply.Refused e)
    removal_doubted left e fault = subst (λ (x : KvError). Is old new active note runs free who key bytes key_is of left (Some state) (reply.Refused x)) (sym fault)
        (from_parts old new active note runs free who key bytes key_is of left (Some state) (reply.Refused WriteFault)
        (failed old mid new ready read after Step ending changes is None who (of key) either state note_is left (removal key).may_write comes))

    pub removal_stop : IsStopped new state
    removal_stop = stopped old mid new ready read after Step ending changes is None who (of key) either state note_is ready.safe.hash_bits (ap (λ (s : StoreState). s.doubt) noted)

  module _ (e : KvError) (ends : ending ≡ kv_ending e) (no_fault : e ≡ WriteFault → ⊥) (refusal : IsCopyRefusal mid.device new.device e) where
    is_read : IsCopyRefusal mid.device new.device e → IsReadRefusal mid.device new.device e
    is_read (inl fault) = absurd (no_fault fault)
    is_read (inr its) = its

    pub removal_unread : Is old new active note runs free who key bytes key_is of (set_in active) note (reply.Refused e)
    removal_unread = from_running old new active note runs free who key bytes key_is of (reply.Refused e)
        (read_failed old mid new ready read after Step ending changes None who (of key) e ends (is_read refusal) (removal key).may_read
        (λ image told. ap may_fail_reading ((removal key).checks consts (first_state image) who) ∙ remove_reads consts (first_state image) who key valid_key refl)
        either)
