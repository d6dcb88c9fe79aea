-- A set that is written at once.
use Rattle.std.proofs.Common.{◌≡◌, ◌⊎◌, ℕ, ◌+◌, ◌-◌, ◌%◌, ◌^◌, Bool, true, false, List, [], ◌∷◌, ◌++◌, length, inl, inr, refl, sym, ◌∙◌, ap, subst, append-nil}
use Rattle.std.specs.Prelude.{MatchBool, Option, Some, None, unwrap_or, IsTrue, Result, Ok, Err, IfErr, is_some}
use Rattle.flash_core.specs.declared.geometry.Geometry.{Geometry}
use Rattle.flash_core.specs.Runs.{Done, Ending, WriteFailed}
use Rattle.flash_core.proofs.KeptLaws.{told_after}
use Rattle.inc_set.specs.declared.open_set.OpenSet.{OpenSet as Writer}
use Rattle.inc_set.specs.Sets.{opened, record_of, with_bytes}
use Rattle.kv_model.specs.declared.call.Reply.{Reply}
use Rattle.kv_model.specs.declared.call.Reply.TheVariants as reply
use Rattle.kv_model.specs.declared.error.KvError.{KvError}
use Rattle.kv_model.specs.declared.error.KvError.TheVariants.{WriteFault}
use Rattle.kv_model.specs.Checks.{may_fail_writing}
use Rattle.kv_model.specs.Constants.{Constants}
use Rattle.kv_model.specs.FlaggedMap.{FlaggedMap}
use Rattle.kv_model.specs.Kv.{Answers, answered}
use Rattle.kv_model.specs.LogStep.{IsCollected, LogSteps, SameButOther, appended, collects}
use Rattle.kv_model.specs.Opening.{Log}
use Rattle.kv_model.specs.Operations.{Set}
use Rattle.kv_model.specs.PlainStep.{plain_checks, plain_rules, plain_step}
use Rattle.kv_model.specs.Rules.{Outcome, refused_or}
use Rattle.kv_model.specs.StoreState.{OpenSet, StoreState}
use Rattle.kv_model.specs.Write.{Write, applied, map_of}
use Rattle.ram_table.specs.declared.table.Place.{Place}
use Rattle.record_core.specs.Endings.{kv_ended, kv_ending}
use Rattle.tdb_read.specs.Reads.{IsReadRefusal, map_in}
use Rattle.tdb_read.specs.States.{constants_of, kv_state, log_in, state_in}
use Rattle.tdb_read.specs.Views.{IsReady, LogPart, LogView}
use Rattle.tdb_write.specs.Changes.{ByEnding, Changes, MakesRoom, unchanged}
use Rattle.tdb_write.specs.Writing.{IsAppended, IsFed}
use Rattle.tdb_write.proofs.JoinLemmas.{callers_then, changes_then}
use Rattle.plain_store.specs.Moments.{CutsStrictly}
use Rattle.plain_store.specs.Setting.{CanSet, HasLookedUp, IsAllowed, size_at, write_of}
use Rattle.plain_store.specs.Sets.{set_in}
use Rattle.plain_store.specs.Steps.{SetsRecord}
use Rattle.plain_store.specs.Stores.{Calls, IsStopped, IsStore, in_doubt, state_by}
use Rattle.plain_store.specs.declared.active.ActiveSet.{ActiveSet}
use Rattle.plain_store.proofs.MomentLemmas.{written}
use Rattle.plain_store.proofs.PartLemmas.{applied_set}
use Rattle.plain_store.proofs.SetLemmas.{mid, none_refuses, only_looked, start_reads, start_writes}
use Rattle.plain_store.proofs.StartLemmas.{fits, moved, over_failed, over_free, unprotected}
use Rattle.plain_store.proofs.StoreLemmas.{running_of, view_at}
use Rattle.plain_store.proofs.WriteLemmas.{done, failed, read_failed, stopped}

-- ---- a call that leaves the map, and then one that is refused only where a write failed

pub two_ends : {T : Type 0} (result : Result T KvError) → IfErr result (λ e. e ≡ WriteFault) → (kv_ended result ≡ Done) ⊎ (kv_ended result ≡ WriteFailed)
two_ends (Ok x) fault = inl refl
two_ends (Err e) fault = inr (ap kv_ending fault)

by_two : (ending : Ending) (P Q P2 Q2 : Type 0) → (ending ≡ Done) ⊎ (ending ≡ WriteFailed) → (P → P2) → ByEnding ending P Q → ByEnding ending P2 Q2
by_two ending P Q P2 Q2 (inl is) f x = subst (λ (e : Ending). ByEnding e P2 Q2) (sym is) (f (subst (λ (e : Ending). ByEnding e P Q) is x))
by_two ending P Q P2 Q2 (inr is) f x = subst (λ (e : Ending). ByEnding e P2 Q2) (sym is) tt

module _ (a b c : LogView) (after : FlaggedMap → FlaggedMap) (First Second Third : Log → Log → Type 0) (ending : Ending) (ends : (ending ≡ Done) ⊎ (ending ≡ WriteFailed)) where
  pub joined : ((x y z : Log) → First x y → Second y z → Third x z) → Changes a b unchanged First Done → Changes b c after Second ending → Changes a c after Third ending
  joined steps first second = record {
    runs = changes_then a b c after First Second ending first second;
    callers = callers_then a b c first.callers second.callers;
    ready = second.ready;
    map_is = λ image told left told_left.
        let between = told_after first.runs.kept told in
        let same : map_in a.device.geometry b.log between.0 ≡ map_in a.device.geometry a.log image = first.map_is image told between.0 between.1 in
        by_two ending (map_in b.device.geometry c.log left ≡ after (map_in b.device.geometry b.log between.0)) (Unit {0})
        (map_in a.device.geometry c.log left ≡ after (map_in a.device.geometry a.log image)) (Unit {0}) ends
        (λ is. subst (λ (g : Geometry). map_in g c.log left ≡ after (map_in g b.log between.0)) first.runs.kept.geometry is ∙ ap after same)
        (second.map_is between.0 between.1 left told_left);
    log_is = λ image told left told_left.
        let between = told_after first.runs.kept told in
        by_two ending (Second (log_in b.device.geometry b.log between.0) (log_in b.device.geometry c.log left)) (SameButOther (log_in b.device.geometry b.log between.0) (log_in b.device.geometry c.log left))
        (Third (log_in a.device.geometry a.log image) (log_in a.device.geometry c.log left)) (SameButOther (log_in a.device.geometry a.log image) (log_in a.device.geometry c.log left)) ends
        (λ is. steps (log_in a.device.geometry a.log image) (log_in a.device.geometry b.log between.0) (log_in a.device.geometry c.log left) (first.log_is image told between.0 between.1)
        (subst (λ (g : Geometry). Second (log_in g b.log between.0) (log_in g c.log left)) first.runs.kept.geometry is))
        (second.log_is between.0 between.1 left told_left);
  }

module _ (v w x : LogView) (ending : Ending) (ends : (ending ≡ Done) ⊎ (ending ≡ WriteFailed)) (set : Writer) (value : List ℕ) where
  -- a value that is fed, and the record of it
  pub value_written : (next : Writer) → next ≡ with_bytes set value → Changes v w unchanged (IsFed v set (length value)) Done
      → Changes w x (applied (record_of next value)) (IsAppended (record_of next value)) ending → Changes v x (applied (record_of set value)) (IsAppended (record_of set value)) ending
  value_written next next_is first second =
      joined v w x (applied (record_of set value)) (IsFed v set (length value)) (IsAppended (record_of set value)) (IsAppended (record_of set value)) ending ends
      (λ a b c fed is. is ∙ ap (λ (l : Log). appended l (record_of set value)) fed) first
      (subst (λ (s : Writer). Changes w x (applied (record_of s value)) (IsAppended (record_of s value)) ending) next_is second)

  -- a record behind a log with room makes of it what the set does
  sets_record : (r : Write) (a b c : Log) → MakesRoom v (size_at v r.key (length r.value)) a b → c ≡ appended b r → SetsRecord v r a c
  sets_record r a b c room is = by_test (collects (constants_of v.device.geometry v.log) a r.key (length r.value)) room
    where
      by_test : (t : Bool) → MatchBool t (IsCollected v.log.hash_bits (map_of a.records) [] a b) (b ≡ a) → MatchBool t (IsCollected v.log.hash_bits (map_of a.records) (r ∷ []) a c) (c ≡ appended a r)
      by_test true made = (
        made.0,
        made.1,
        is ∙ ap (λ (l : Log). appended l r) made.2
            ∙ λ i. record { active = 1 - a.active; version = (a.version + 1) % 2 ^ 16; records = append-nil made.0 i ++ r ∷ []; is_clean = true; other = (sym is i).other },
      )
      by_test false made = is ∙ ap (λ (l : Log). appended l r) made

  pub set_written : (key : List ℕ) (flags at : ℕ) → set ≡ opened key flags (length value) at → Changes v w unchanged (MakesRoom v (size_at v key (length value))) Done
      → Changes w x (applied (record_of set value)) (IsAppended (record_of set value)) ending → Changes v x (applied (write_of key value flags)) (SetsRecord v (write_of key value flags)) ending
  set_written key flags at set_is first second =
      joined v w x (applied (write_of key value flags)) (MakesRoom v (size_at v key (length value))) (IsAppended (write_of key value flags)) (SetsRecord v (write_of key value flags)) ending ends
      (sets_record (write_of key value flags)) first
      (subst (λ (s : Writer). Changes w x (applied (record_of s value)) (IsAppended (record_of s value)) ending) set_is second)

-- ---- a set

module _ (v w x : LogView) (ready : IsReady v) (looked : HasLookedUp v w) (who : ℕ) (key value : List ℕ) (flags : ℕ) (a : Option ActiveSet) (allowed : IsAllowed a key (length value) flags)
    (place : Place) (can : CanSet w key (length value) place) (ending : Ending) (changes : Changes w x (applied (write_of key value flags)) (SetsRecord w (write_of key value flags)) ending) where
  abbrev constants : Constants
  constants = constants_of v.device.geometry v.log

  abbrev before : List ℕ → StoreState
  before image = state_in v.device.geometry v.log None image

  abbrev r : Write
  r = write_of key value flags

  since_look : Changes (mid v w looked) x (applied r) (SetsRecord (mid v w looked) r) ending
  since_look = moved v w looked x (applied r) (λ (l : LogPart). SetsRecord (record { device = w.device; log = l }) r) ending changes

  steps : (image : List ℕ) → v.device.image ≡ Some image → plain_step constants (before image) who (Set key value flags)
      ≡ record { state = record (before image) { primary = applied r (before image).primary }; reply = reply.Done }
  steps image told =
      (λ i. refused_or (plain_rules constants) (before image) who (Set key value flags)
      (none_refuses v image who (Set key value flags) key (length value) flags a allowed (unprotected v w looked who key (length value) place can image told) (fits v w looked who key (length value) place can image told) i))
      ∙ λ i. record { state = record (before image) { primary = sym (applied_set flags key value allowed.plain) i (before image).primary }; reply = reply.Done }

  to_step : (image : List ℕ) → v.device.image ≡ Some image
      → (applied r (before image).primary ≡ (before image).primary) ⊎ (applied r (before image).primary ≡ (plain_step constants (before image) who (Set key value flags)).state.primary)
  to_step image told = inr (sym (ap (λ (o : Outcome). o.state.primary) (steps image told)))

  follows : (image : List ℕ) (l : Log) → SetsRecord (mid v w looked) r (log_in v.device.geometry v.log image) l
      → LogSteps constants (before image) (log_in v.device.geometry v.log image) l (Set key value flags)
  follows image l step = subst (λ (g : Geometry). MatchBool (collects (constants_of g v.log) (log_in v.device.geometry v.log image) key (length value))
      (IsCollected v.log.hash_bits (map_of (log_in v.device.geometry v.log image).records) (r ∷ []) (log_in v.device.geometry v.log image) l)
      (l ≡ appended (log_in v.device.geometry v.log image) r)) looked.device.geometry step

  at_once : ending ≡ Done → Answers plain_rules (kv_state v None) (kv_state x None) (answered who (Set key value flags) reply.Done)
  at_once is = done v (mid v w looked) x ready (only_looked v w looked) (applied r) (SetsRecord (mid v w looked) r) ending since_look is None None who (Set key value flags)
      (λ image left told now. steps image told)
      (λ image left told now step. follows image (log_in x.device.geometry x.log left) step)

  comes : (image : List ℕ) → v.device.image ≡ Some image → IsTrue (may_fail_writing (plain_checks constants (before image) who (Set key value flags)))
  comes image told = start_writes v image who (Set key value flags) key (length value) flags a allowed (unprotected v w looked who key (length value) place can image told) (fits v w looked who key (length value) place can image told)

  unread : (e : KvError) → ending ≡ kv_ending e → IsReadRefusal w.device x.device e → Answers plain_rules (kv_state v None) (kv_state x None) (answered who (Set key value flags) (reply.Refused e))
  unread e ends refusal = read_failed v (mid v w looked) x ready (only_looked v w looked) (applied r) (SetsRecord (mid v w looked) r) ending since_look None who (Set key value flags)
      e ends refusal refl (λ image told. start_reads v image who (Set key value flags) key (length value) flags a allowed) to_step

  module _ (is : ending ≡ WriteFailed) (note : StoreState) (noted : note ≡ in_doubt (state_in v.device.geometry v.log None (unwrap_or v.device.image [])) who (Set key value flags)) where
    note_is : (image : List ℕ) → v.device.image ≡ Some image → note ≡ record (before image) { doubt = Some (record { who = who; operation = Set key value flags }) }
    note_is image told = noted ∙ ap (λ (o : Option (List ℕ)). in_doubt (before (unwrap_or o [])) who (Set key value flags)) told

    unwritten : (next : Option OpenSet) → Answers plain_rules (kv_state v None) (state_by x next (Some note)) (answered who (Set key value flags) (reply.Refused WriteFault))
    unwritten next = failed v (mid v w looked) x ready (only_looked v w looked) (applied r) (SetsRecord (mid v w looked) r) ending since_look is None who (Set key value flags)
        to_step note note_is next refl comes

    has_stopped : IsStopped x note
    has_stopped = stopped v (mid v w looked) x ready (only_looked v w looked) (applied r) (SetsRecord (mid v w looked) r) ending since_look is None who (Set key value flags)
        to_step note note_is ready.safe.hash_bits (ap (λ (s : StoreState). s.doubt) noted)

-- ---- over a whole store

module _ (v w x : LogView) (active : Option ActiveSet) (note : Option StoreState) (runs : note ≡ None) (store : IsStore (view_at v active note)) (who : ℕ) (key bytes : List ℕ) (key_is : key ≡ bytes)
    (value : List ℕ) (flags : ℕ) (allowed : IsAllowed active bytes (length value) flags) (looked : HasLookedUp v w) (place : Place) (can : CanSet w key (length value) place)
    (ending : Ending) (changes : Changes w x (applied (write_of key value flags)) (SetsRecord w (write_of key value flags)) ending) where
  ready : IsReady v
  ready = (running_of v active note runs store).ready

  its_allowed : IsAllowed active key (length value) flags
  its_allowed = subst (λ (k : List ℕ). IsAllowed active k (length value) flags) (sym key_is) allowed

  abbrev Is : Option ActiveSet → Option StoreState → Reply → Type 0
  Is next later given = Calls (view_at v active note) (view_at x next later) (answered who (Set bytes value flags) given)

  by_bytes : (next : Option ActiveSet) (later : Option StoreState) (given : Reply) → Calls (view_at v active note) (view_at x next later) (answered who (Set key value flags) given) → Is next later given
  by_bytes next later given is = subst (λ (k : List ℕ). Calls (view_at v active note) (view_at x next later) (answered who (Set k value flags) given)) key_is is

  pub set_done : ending ≡ Done → Is active note reply.Done
  set_done is = by_bytes active note reply.Done
      (over_free v x active note runs allowed.free who (Set key value flags) reply.Done (at_once v w x ready looked who key value flags active its_allowed place can ending changes is))

  pub set_refused : (e : KvError) → ending ≡ kv_ending e → IsReadRefusal w.device x.device e → Is active note (reply.Refused e)
  set_refused e ends refusal = by_bytes active note (reply.Refused e)
      (over_free v x active note runs allowed.free who (Set key value flags) (reply.Refused e) (unread v w x ready looked who key value flags active its_allowed place can ending changes e ends refusal))

  module _ (is_failed : ending ≡ WriteFailed) (state : StoreState)
      (noted : state ≡ in_doubt (state_in v.device.geometry v.log (set_in active) (unwrap_or v.device.image [])) who (Set key value flags)) where
    its_note : state ≡ in_doubt (state_in v.device.geometry v.log None (unwrap_or v.device.image [])) who (Set key value flags)
    its_note = noted ∙ ap (λ (a : Option ActiveSet). in_doubt (state_in v.device.geometry v.log (set_in a) (unwrap_or v.device.image [])) who (Set key value flags)) allowed.free

    pub set_doubted : (next : Option ActiveSet) (e : KvError) → e ≡ WriteFault → Is next (Some state) (reply.Refused e)
    set_doubted next e fault = subst (λ (y : KvError). Is next (Some state) (reply.Refused y)) (sym fault)
        (by_bytes next (Some state) (reply.Refused WriteFault)
        (over_failed v x active note runs allowed.free who (Set key value flags) next state (reply.Refused WriteFault)
        (unwritten v w x ready looked who key value flags active its_allowed place can ending changes is_failed state its_note (set_in next))))

    pub set_stop : IsStopped x state
    set_stop = has_stopped v w x ready looked who key value flags active its_allowed place can ending changes is_failed state its_note

  -- each moment of it
  pub set_cuts : (next : Option ActiveSet) (later : Option StoreState) → (is_some later ≡ true → ending ≡ WriteFailed) → CutsStrictly (view_at v active note) (view_at x next later) who (Set bytes value flags)
  set_cuts next later fails =
      subst (λ (k : List ℕ). CutsStrictly (view_at v active note) (view_at x next later) who (Set k value flags)) key_is
      (subst (λ (a : Option ActiveSet). CutsStrictly (view_at v a note) (view_at x next later) who (Set key value flags)) (sym allowed.free)
      (written v (mid v w looked) x (only_looked v w looked) (applied (write_of key value flags)) (SetsRecord (mid v w looked) (write_of key value flags)) ending
      (since_look v w x ready looked who key value flags active its_allowed place can ending changes) None note who (Set key value flags)
      (to_step v w x ready looked who key value flags active its_allowed place can ending changes) next later fails))
