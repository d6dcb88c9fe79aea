-- A set that is begun.
use Rattle.std.proofs.Common.{◌≡◌, ℕ, ◌+◌, ◌<◌, ◌≤◌, ◌||◌, true, false, not, nat_lt, List, [], length, inl, inr, refl, sym, ◌∙◌, ap, subst, arith}
use Rattle.std.specs.Prelude.{IsTrue, MatchBool, Option, Some, None, unwrap_or, is_some}
use Rattle.std.proofs.lemmas.Bool.{cases_eq}
use Rattle.std.proofs.lemmas.Bool.Decides.{nat_tests}
use Rattle.base_core.specs.Sizes.{record_size}
use Rattle.flash_core.specs.declared.geometry.Geometry.{Geometry}
use Rattle.flash_core.specs.Runs.{Done, Ending, UnlessFailed, WriteFailed}
use Rattle.flash_core.specs.Sizes.{area_size}
use Rattle.flash_core.specs.State.{FlashState}
use Rattle.inc_set.specs.declared.open_set.OpenSet.{OpenSet as Writer}
use Rattle.inc_set.specs.Sets.{opened}
use Rattle.kv_model.specs.declared.call.Reply.{Reply}
use Rattle.kv_model.specs.declared.call.Reply.TheVariants as reply
use Rattle.kv_model.specs.declared.error.KvError.{KvError}
use Rattle.kv_model.specs.declared.error.KvError.TheVariants.{WriteFault}
use Rattle.kv_model.specs.declared.limits.TheConstants.{MAX_VALUE}
use Rattle.kv_model.specs.Constants.{Constants}
use Rattle.kv_model.specs.FlaggedMap.{FlaggedMap}
use Rattle.kv_model.specs.Flags.{is_plain_flags, is_write_once}
use Rattle.kv_model.specs.Kv.{Answers, answered}
use Rattle.kv_model.specs.Checks.{may_fail_writing}
use Rattle.kv_model.specs.Keys.{is_key}
use Rattle.kv_model.specs.LogStep.{IsCollected, LogSteps, spent}
use Rattle.kv_model.specs.Opening.{Log}
use Rattle.kv_model.specs.Operations.{Operation, Start}
use Rattle.kv_model.specs.PlainStep.{flags_in, needed, plain_checks, plain_rules, plain_step}
use Rattle.kv_model.specs.Rules.{refused_or}
use Rattle.kv_model.specs.Sizes.{room_of}
use Rattle.kv_model.specs.StoreState.{OpenSet, StoreState, begun_set}
use Rattle.kv_model.specs.Write.{map_of}
use Rattle.ram_table.specs.declared.table.Place.{Place}
use Rattle.record_core.specs.Endings.{kv_ending}
use Rattle.record_core.specs.Header.{IsHeader}
use Rattle.store_note.specs.declared.noted.NotedBytes.{NotedBytes}
use Rattle.tdb_read.specs.Reads.{IsFound, IsReadRefusal, map_in}
use Rattle.tdb_read.specs.States.{constants_of, kv_state, log_in, state_in}
use Rattle.tdb_read.specs.Views.{IsReady, LogPart, LogView}
use Rattle.tdb_write.specs.Changes.{Changes, IsCopyRefusal, IsReserved, KeepsPlaces, MakesRoom, unchanged}
use Rattle.tdb_write.specs.Writing.{IsWriting, SameButUnit}
use Rattle.plain_store.specs.Moments.{CutsStrictly}
use Rattle.plain_store.specs.Begun.{IsBegun, IsSetBegun}
use Rattle.plain_store.specs.Setting.{CanSet, HasLookedUp, IsAllowed, size_at}
use Rattle.plain_store.specs.Sets.{open_of, set_in}
use Rattle.plain_store.specs.Stores.{Calls, IsStopped, IsStore, in_doubt, state_by}
use Rattle.plain_store.specs.declared.active.ActiveSet.{ActiveSet}
use Rattle.plain_store.specs.declared.active.Begun.TheVariants.{Set}
use Rattle.plain_store.proofs.MomentLemmas.{written}
use Rattle.plain_store.proofs.CallLemmas.{some_is}
use Rattle.plain_store.proofs.PartLemmas.{key_sizes}
use Rattle.plain_store.proofs.SetLemmas.{mid, none_refuses, only_looked, open_before, space_before, start_reads, start_writes}
use Rattle.plain_store.proofs.StoreLemmas.{is_running, running_of, view_at}
use Rattle.plain_store.proofs.WriteLemmas.{done, failed, read_failed, stopped}

-- ---- a set of which no byte came yet

pub plain_header : (flags size : ℕ) (key : List ℕ) → is_plain_flags flags ≡ true → IsTrue (is_key key) → size ≤ MAX_VALUE → IsHeader flags (length key) size
plain_header flags size key plain valid small = record {
  kind = elim (cases_eq flags 0) [ inl is ↦ inl is | inr other ↦ inr (inl (omega (arith, below flags plain, other))) ];
  key_least = (key_sizes key valid).0;
  key_most = (key_sizes key valid).1;
  value_most = small;
  remove_is_empty = λ removed. absurd (omega (arith, below flags plain, removed));
}
  where
    below : (n : ℕ) → is_plain_flags n ≡ true → n < 2
    below n is = grind (arith, nat_tests)

pub set_begun : (v w : LogView) (set : Writer) (place : Place) (key : List ℕ) (flags size at : ℕ) → set ≡ opened key flags size at → is_plain_flags flags ≡ true → IsWriting w set []
    → IsFound v key place → KeepsPlaces v w → IsReserved v.log → SameButUnit v.log w.log → IsSetBegun w set place []
set_begun v w set place key flags size at is plain writing found places reserved same = record {
  writing = writing;
  flags = subst (λ (s : Writer). is_plain_flags s.flags ≡ true) (sym is) plain;
  found = subst (λ (s : Writer). IsFound w s.key place) (sym is) (places key place found);
  reserved = record {
    table = subst (λ (l : LogPart). 1 ≤ l.table.spare) (sym same) reserved.table;
    spare = subst (λ (l : LogPart). length l.table.entries + 1 ≤ length l.spare.entries + l.spare.spare) (sym same) reserved.spare;
  };
}

module _ {F : Type 0} (state : F → FlashState) (f h : F) (log new : LogPart) (same_flash : h ≡ f) (same : SameButUnit log new) (ready : IsReady (record { device = state h; log = new }))
    (v : LogView) (after : FlaggedMap → FlaggedMap) (Step : Log → Log → Type 0) where
  with_unit : IsReady (record { device = state f; log = record log { unit = new.unit } }) → Changes v (record { device = state f; log = log }) after Step Done
      → Changes v (record { device = state f; log = record log { unit = new.unit } }) after Step Done
  with_unit now is = record { runs = is.runs; callers = record { hash_bits = is.callers.hash_bits; iterators = is.callers.iterators }; ready = now; map_is = is.map_is; log_is = is.log_is }

  -- a record that is begun behind a call changes nothing but a buffer
  pub then_begun : Changes v (record { device = state f; log = log }) after Step Done → Changes v (record { device = state h; log = new }) after Step Done
  then_begun is =
      subst (λ (x : F). Changes v (record { device = state x; log = new }) after Step Done) (sym same_flash)
      (subst (λ (l : LogPart). Changes v (record { device = state f; log = l }) after Step Done) (sym same)
      (with_unit (subst (λ (l : LogPart). IsReady (record { device = state f; log = l })) same (subst (λ (x : F). IsReady (record { device = state x; log = new })) same_flash ready)) is))

-- ---- what was looked up, before it

module _ (v w : LogView) (looked : HasLookedUp v w) where
  abbrev looked_log : LogPart
  looked_log = record v.log { table = record { entries = v.log.table.entries; spare = w.log.table.spare }; spare = record { entries = v.log.spare.entries; spare = w.log.spare.spare } }

  -- the room of the tables is nothing that a run speaks of
  pub moved : (x : LogView) (after : FlaggedMap → FlaggedMap) (Step : LogPart → Log → Log → Type 0) (ending : Ending) → Changes w x after (Step w.log) ending → Changes (mid v w looked) x after (Step looked_log) ending
  moved x after Step ending changes =
      let is : Changes (record { device = w.device; log = looked_log }) x after (Step looked_log) ending =
      subst (λ (l : LogPart). Changes (record { device = w.device; log = l }) x after (Step l) ending) looked.log changes in
      record { runs = is.runs; callers = record { hash_bits = is.callers.hash_bits; iterators = is.callers.iterators }; ready = is.ready; map_is = is.map_is; log_is = is.log_is }

  module _ (who : ℕ) (key : List ℕ) (size : ℕ) (place : Place) (can : CanSet w key size place) (image : List ℕ) (told : v.device.image ≡ Some image) where
    pub unprotected : is_write_once (flags_in (map_in v.device.geometry v.log image) key) ≡ false
    unprotected = open_before v w looked key false can.unprotected image told

    pub fits : nat_lt (constants_of v.device.geometry v.log).room (needed (constants_of v.device.geometry v.log) (state_in v.device.geometry v.log None image) who key size) ≡ false
    fits = not_over _ _ (space_before v w looked key size can.space image told)
      where
        not_over : (most n : ℕ) → n ≤ most → nat_lt most n ≡ false
        not_over most n is = grind (arith, nat_tests)

-- ---- a start

module _ (v w x : LogView) (ready : IsReady v) (looked : HasLookedUp v w) (who : ℕ) (key : List ℕ) (size flags : ℕ) (a : Option ActiveSet) (allowed : IsAllowed a key size flags)
    (place : Place) (can : CanSet w key size place) (ending : Ending) (changes : Changes w x unchanged (MakesRoom w (size_at w key size)) ending) where
  abbrev constants : Constants
  constants = constants_of v.device.geometry v.log

  abbrev before : List ℕ → StoreState
  before image = state_in v.device.geometry v.log None image

  since_look : Changes (mid v w looked) x unchanged (MakesRoom (mid v w looked) (size_at w key size)) ending
  since_look = moved v w looked x unchanged (λ (l : LogPart). MakesRoom (record { device = w.device; log = l }) (size_at w key size)) ending changes

  begins : (image : List ℕ) → v.device.image ≡ Some image → plain_step constants (before image) who (Start key size flags)
      ≡ record { state = record (before image) { open_set = Some (begun_set who key flags size None) }; reply = reply.Done }
  begins image told = λ i. refused_or (plain_rules constants) (before image) who (Start key size flags)
      (none_refuses v image who (Start key size flags) key size flags a allowed (unprotected v w looked who key size place can image told) (fits v w looked who key size place can image told) i)

  follows : (image : List ℕ) (l : Log) → MakesRoom (mid v w looked) (size_at w key size) (log_in v.device.geometry v.log image) l
      → LogSteps constants (before image) (log_in v.device.geometry v.log image) l (Start key size flags)
  follows image l step = subst (λ (g : Geometry). MatchBool
      (not v.log.is_clean || nat_lt (room_of g.prog (area_size g)) (spent g.prog (log_in v.device.geometry v.log image).records + record_size g.prog (length key) size))
      (IsCollected v.log.hash_bits (map_of (log_in v.device.geometry v.log image).records) [] (log_in v.device.geometry v.log image) l)
      (l ≡ log_in v.device.geometry v.log image)) looked.device.geometry step

  pub started : ending ≡ Done → (next : OpenSet) → next ≡ begun_set who key flags size None
      → Answers plain_rules (kv_state v None) (kv_state x (Some next)) (answered who (Start key size flags) reply.Done)
  started is next next_is = done v (mid v w looked) x ready (only_looked v w looked) unchanged (MakesRoom (mid v w looked) (size_at w key size)) ending since_look is None (Some next) who (Start key size flags)
      (λ image left told now. begins image told ∙ λ i. record { state = record (before image) { open_set = Some (sym next_is i) }; reply = reply.Done })
      (λ image left told now step. follows image (log_in x.device.geometry x.log left) step)

  comes : (image : List ℕ) → v.device.image ≡ Some image → IsTrue (may_fail_writing (plain_checks constants (before image) who (Start key size flags)))
  comes image told = start_writes v image who (Start key size flags) key size flags a allowed (unprotected v w looked who key size place can image told) (fits v w looked who key size place can image told)

  pub start_unread : (e : KvError) → ending ≡ kv_ending e → IsReadRefusal w.device x.device e
      → Answers plain_rules (kv_state v None) (kv_state x None) (answered who (Start key size flags) (reply.Refused e))
  start_unread e ends refusal = read_failed v (mid v w looked) x ready (only_looked v w looked) unchanged (MakesRoom (mid v w looked) (size_at w key size)) ending since_look None who (Start key size flags)
      e ends refusal refl (λ image told. start_reads v image who (Start key size flags) key size flags a allowed) (λ image told. inl refl)

  module _ (is : ending ≡ WriteFailed) (note : StoreState) (noted : note ≡ in_doubt (state_in v.device.geometry v.log None (unwrap_or v.device.image [])) who (Start key size flags)) where
    note_is : (image : List ℕ) → v.device.image ≡ Some image → note ≡ record (before image) { doubt = Some (record { who = who; operation = Start key size flags }) }
    note_is image told = noted ∙ ap (λ (o : Option (List ℕ)). in_doubt (before (unwrap_or o [])) who (Start key size flags)) told

    pub start_failed : (next : Option OpenSet) → Answers plain_rules (kv_state v None) (state_by x next (Some note)) (answered who (Start key size flags) (reply.Refused WriteFault))
    start_failed next = failed v (mid v w looked) x ready (only_looked v w looked) unchanged (MakesRoom (mid v w looked) (size_at w key size)) ending since_look is None who (Start key size flags)
        (λ image told. inl refl) note note_is next refl comes

    pub start_stopped : IsStopped x note
    start_stopped = stopped v (mid v w looked) x ready (only_looked v w looked) unchanged (MakesRoom (mid v w looked) (size_at w key size)) ending since_look is None who (Start key size flags)
        (λ image told. inl refl) note note_is ready.safe.hash_bits (ap (λ (s : StoreState). s.doubt) noted)

-- ---- over a whole store

-- a store without an active set runs
pub free_store : (v : LogView) (active : Option ActiveSet) (note : Option StoreState) → note ≡ None → active ≡ None → IsReady v → IsStore (view_at v active note)
free_store v active note runs free ready = is_running v active note runs (record { ready = ready; begun = λ a is. absurd (none_some a (sym free ∙ is)) })
  where
    none_some : (a : ActiveSet) → None ≡ Some a → ⊥
    none_some a same = cc

module _ (v w : LogView) (active : Option ActiveSet) (note : Option StoreState) (runs : note ≡ None) (free : active ≡ None) (who : ℕ) (operation : Operation) where
  -- a call that leaves no set
  pub over_free : (reply : Reply) → Answers plain_rules (kv_state v None) (kv_state w None) (answered who operation reply) → Calls (view_at v active note) (view_at w active note) (answered who operation reply)
  over_free reply is = subst (λ (n : Option StoreState). Answers plain_rules (state_by v (set_in active) n) (state_by w (set_in active) n) (answered who operation reply)) (sym runs)
      (subst (λ (a : Option ActiveSet). Answers plain_rules (kv_state v (set_in a)) (kv_state w (set_in a)) (answered who operation reply)) (sym free) is)

  -- a call that leaves this set
  pub over_opened : (next : Option ActiveSet) (reply : Reply) → Answers plain_rules (kv_state v None) (kv_state w (set_in next)) (answered who operation reply)
      → Calls (view_at v active note) (view_at w next note) (answered who operation reply)
  over_opened next reply is = subst (λ (n : Option StoreState). Answers plain_rules (state_by v (set_in active) n) (state_by w (set_in next) n) (answered who operation reply)) (sym runs)
      (subst (λ (a : Option ActiveSet). Answers plain_rules (kv_state v (set_in a)) (kv_state w (set_in next)) (answered who operation reply)) (sym free) is)

  -- a call whose write failed
  pub over_failed : (next : Option ActiveSet) (state : StoreState) (reply : Reply) → Answers plain_rules (kv_state v None) (state_by w (set_in next) (Some state)) (answered who operation reply)
      → Calls (view_at v active note) (view_at w next (Some state)) (answered who operation reply)
  over_failed next state reply is = subst (λ (n : Option StoreState). Answers plain_rules (state_by v (set_in active) n) (state_by w (set_in next) (Some state)) (answered who operation reply)) (sym runs)
      (subst (λ (a : Option ActiveSet). Answers plain_rules (kv_state v (set_in a)) (state_by w (set_in next) (Some state)) (answered who operation reply)) (sym free) is)

module _ (x : LogView) (note : Option StoreState) (runs : note ≡ None) (ready : IsReady x) (who : ℕ) (set : Writer) (place : Place) (fed : NotedBytes) (none : fed.bytes ≡ []) where
  abbrev its : ActiveSet
  its = record { owner = who; begun = Set set place fed }

  pub opened_is : (key : List ℕ) (flags size at : ℕ) → set ≡ opened key flags size at → open_of (record { owner = who; begun = Set set place fed }) ≡ begun_set who key flags size None
  opened_is key flags size at is = λ i. record { owner = who; key = (is i).key; flags = (is i).flags; size = (is i).size; bytes = none i; prior = None; is_remove = false }

  pub opened_store : IsSetBegun x set place [] → IsStore (view_at x (Some (record { owner = who; begun = Set set place fed })) note)
  opened_store begun = is_running x (Some its) note runs (record {
    ready = ready;
    begun = λ a is. subst (IsBegun x) (some_is is) (subst (IsSetBegun x set place) (sym none) begun);
  })

-- why a call that collects was refused where no write failed
pub not_fault : (old new : FlashState) (e : KvError) → IsCopyRefusal old new e → (e ≡ WriteFault → ⊥) → IsReadRefusal old new e
not_fault old new e (inl is) other = absurd (other is)
not_fault old new e (inr is) other = is

module _ (v w x : LogView) (active : Option ActiveSet) (note : Option StoreState) (runs : note ≡ None) (store : IsStore (view_at v active note)) (who : ℕ) (key bytes : List ℕ) (key_is : key ≡ bytes)
    (size flags : ℕ) (allowed : IsAllowed active bytes size flags) (looked : HasLookedUp v w) (place : Place) (can : CanSet w key size place)
    (ending : Ending) (changes : Changes w x unchanged (MakesRoom w (size_at w key size)) ending) where
  ready : IsReady v
  ready = (running_of v active note runs store).ready

  its_allowed : IsAllowed active key size flags
  its_allowed = subst (λ (k : List ℕ). IsAllowed active k size flags) (sym key_is) allowed

  abbrev Is : Option ActiveSet → Option StoreState → Reply → Type 0
  Is next later given = Calls (view_at v active note) (view_at x next later) (answered who (Start bytes size flags) given)

  by_bytes : (next : Option ActiveSet) (later : Option StoreState) (given : Reply) → Calls (view_at v active note) (view_at x next later) (answered who (Start key size flags) given) → Is next later given
  by_bytes next later given is = subst (λ (k : List ℕ). Calls (view_at v active note) (view_at x next later) (answered who (Start k size flags) given)) key_is is

  pub start_done : ending ≡ Done → (set : Writer) (at : ℕ) → set ≡ opened key flags size at → (fed : NotedBytes) → fed.bytes ≡ []
      → Is (Some (record { owner = who; begun = Set set place fed })) note reply.Done
  start_done is set at set_is fed none =
      let its : ActiveSet = record { owner = who; begun = Set set place fed } in
      by_bytes (Some its) note reply.Done
      (over_opened v x active note runs allowed.free who (Start key size flags) (Some its) reply.Done
      (started v w x ready looked who key size flags active its_allowed place can ending changes is (open_of its) (opened_is x note runs (done_ready is) who set place fed none key flags size at set_is)))
    where
      done_ready : ending ≡ Done → IsReady x
      done_ready is = subst (λ (e : Ending). UnlessFailed e (IsReady x)) is changes.ready

  pub start_refused : (e : KvError) → ending ≡ kv_ending e → IsReadRefusal w.device x.device e → Is active note (reply.Refused e)
  start_refused e ends refusal = by_bytes active note (reply.Refused e)
      (over_free v x active note runs allowed.free who (Start key size flags) (reply.Refused e)
      (start_unread v w x ready looked who key size flags active its_allowed place can ending changes e ends refusal))

  module _ (is_failed : ending ≡ WriteFailed) (state : StoreState)
      (noted : state ≡ in_doubt (state_in v.device.geometry v.log (set_in active) (unwrap_or v.device.image [])) who (Start key size flags)) where
    its_note : state ≡ in_doubt (state_in v.device.geometry v.log None (unwrap_or v.device.image [])) who (Start key size flags)
    its_note = noted ∙ ap (λ (a : Option ActiveSet). in_doubt (state_in v.device.geometry v.log (set_in a) (unwrap_or v.device.image [])) who (Start key size flags)) allowed.free

    pub start_doubted : (next : Option ActiveSet) (e : KvError) → e ≡ WriteFault → Is next (Some state) (reply.Refused e)
    start_doubted next e fault = subst (λ (y : KvError). Is next (Some state) (reply.Refused y)) (sym fault)
        (by_bytes next (Some state) (reply.Refused WriteFault)
        (over_failed v x active note runs allowed.free who (Start key size flags) next state (reply.Refused WriteFault)
        (start_failed v w x ready looked who key size flags active its_allowed place can ending changes is_failed state its_note (set_in next))))

    pub start_stop : IsStopped x state
    start_stop = start_stopped v w x ready looked who key size flags active its_allowed place can ending changes is_failed state its_note

  -- each moment of it
  pub start_cuts : (next : Option ActiveSet) (later : Option StoreState) → (is_some later ≡ true → ending ≡ WriteFailed) → CutsStrictly (view_at v active note) (view_at x next later) who (Start bytes size flags)
  start_cuts = written v (mid v w looked) x (only_looked v w looked) unchanged (MakesRoom (mid v w looked) (size_at w key size)) ending
      (since_look v w x ready looked who key size flags active its_allowed place can ending changes) active note who (Start bytes size flags) (λ image told. inl refl)
