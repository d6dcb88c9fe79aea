-- An add to what is active.
use Rattle.std.proofs.Common.{◌≡◌, ℕ, zero, suc, ◌+◌, ◌≤◌, ◌==◌, ◌||◌, ◌&&◌, Bool, true, false, nat_le, nat_lt, List, [], ◌∷◌, ◌++◌, length, length-append, inl, refl, sym, ◌∙◌, ap, subst, arith}
use Rattle.std.specs.Prelude.{IsTrue, Option, Some, None, IfSome, unwrap_or, is_some}
use Rattle.std.specs.Option.{ForSome}
use Rattle.std.proofs.lemmas.Bool.Decides.{nat_tests}
use mathlib.Core.Bool.{false≢true}
use Rattle.flash_core.specs.declared.geometry.Geometry.{Geometry}
use Rattle.flash_core.specs.Runs.{Done, Ending, WriteFailed}
use Rattle.kv_model.specs.declared.call.Reply.TheVariants as reply
use Rattle.kv_model.specs.declared.call.Reply.{Reply}
use Rattle.kv_model.specs.declared.error.KvError.{KvError}
use Rattle.kv_model.specs.declared.error.KvError.TheVariants.{WriteFault}
use Rattle.kv_model.specs.Checks.{may_fail_writing}
use Rattle.kv_model.specs.Constants.{Constants}
use Rattle.kv_model.specs.Kv.{Answers, answered}
use Rattle.kv_model.specs.LogStep.{LogSteps}
use Rattle.kv_model.specs.Opening.{Log}
use Rattle.kv_model.specs.Operations.{Add}
use Rattle.kv_model.specs.PlainStep.{plain_checks, plain_rules, plain_step}
use Rattle.kv_model.specs.StoreState.{OpenSet, StoreState}
use Rattle.tdb_read.specs.States.{constants_of, kv_state, log_in, state_in}
use Rattle.tdb_read.specs.Views.{IsReady, LogView}
use Rattle.tdb_write.specs.Changes.{Changes, unchanged}
use Rattle.tdb_write.specs.Writing.{is_unprogrammed}
use Rattle.flash_core.specs.Images.{part}
use Rattle.base_core.specs.Units.{up}
use Rattle.inc_set.specs.Units.{programmed, whole_units}
use Rattle.plain_store.specs.Fed.{HasWholeUnits}
use Rattle.plain_store.specs.Moments.{CutsStrictly}
use Rattle.plain_store.specs.Begun.{IsBegun, IsBegunBy}
use Rattle.plain_store.specs.Sets.{open_of, opened_by, owns, set_in, with_more}
use Rattle.plain_store.specs.Steps.{AddsTo}
use Rattle.plain_store.specs.Stores.{IsRunning, IsStopped, IsStore, in_doubt, state_by}
use Rattle.plain_store.specs.declared.active.ActiveSet.{ActiveSet}
use Rattle.plain_store.specs.declared.active.Begun.{Begun}
use Rattle.plain_store.specs.declared.active.Begun.TheVariants.{Remove, Set}
use Rattle.plain_store.proofs.MomentLemmas.{written}
use Rattle.plain_store.proofs.StoreLemmas.{owner_is, running_of, view_at}
use Rattle.plain_store.proofs.WriteLemmas.{done, failed, only_refl, stopped}

-- ---- steps

module _ (constants : Constants) (state : StoreState) (who : ℕ) (running : state.doubt ≡ None) (set : OpenSet) (open_is : state.open_set ≡ Some set)
    (mine : (set.owner == who) ≡ true) (value : List ℕ) where
  module _ (fits : nat_lt set.size (length set.bytes + length value) ≡ false) where
    pub add_step : plain_step constants state who (Add value) ≡ record { state = record state { open_set = Some (with_more value set) }; reply = reply.Done }
    add_step = simp (running, open_is, mine, fits)

    pub add_writes : IsTrue (may_fail_writing (plain_checks constants state who (Add value)))
    add_writes = simp (open_is, mine, fits)

-- ---- what is fed

not_over : (most n : ℕ) → n ≤ most → nat_lt most n ≡ false
not_over most n is = grind (arith, nat_tests)

some_unit : (prog k f : ℕ) → is_unprogrammed prog k f ≡ false → (1 ≤ f) × (prog ≤ k + f)
some_unit prog k zero is = absurd (false≢true (sym is))
some_unit prog k (suc f) is = (omega arith, grind (arith, nat_tests))

none_left : (prog k f : ℕ) → 1 ≤ f → prog ≤ k + f → is_unprogrammed prog k f ≡ false
none_left prog k f some whole = grind (arith, nat_tests)

unprogrammed_so : (prog k f n : ℕ) → is_unprogrammed prog k f ≡ false → is_unprogrammed prog k (f + n) ≡ false
unprogrammed_so prog k f n some =
    let both = some_unit prog k f some in
    none_left prog k (f + n) (omega (arith, both.0)) (omega (arith, both.1))

-- a tail that was dirty stays so
stays_dirty : (prog k f n : ℕ) (b : Bool) → is_unprogrammed prog k f ≡ b → is_unprogrammed prog k (f + n) ≡ (b && is_unprogrammed prog k (f + n))
stays_dirty prog k f n true was = refl
stays_dirty prog k f n false was = unprogrammed_so prog k f n was

none_fed : (value : List ℕ) → length value ≤ 0 → value ≡ []
none_fed [] none = refl
none_fed (x ∷ value) none = absurd (omega (arith, none))

and_true : (b : Bool) → b ≡ (b && true)
and_true true = refl
and_true false = refl

module _ (v : LogView) (value : List ℕ) where
  abbrev g : Geometry
  g = v.device.geometry

  -- the log follows as the rules say
  pub add_follows : (owner : ℕ) (begun : Begun) → IsBegunBy v begun → length (opened_by owner begun).bytes + length value ≤ (opened_by owner begun).size
      → (state : StoreState) → state.open_set ≡ Some (opened_by owner begun) → (image : List ℕ) (l : Log) → AddsTo v begun (length value) (log_in g v.log image) l
      → LogSteps (constants_of g v.log) state (log_in g v.log image) l (Add value)
  add_follows owner (Set set place fed) is fits state open_is image l adds =
      subst (λ (o : Option OpenSet). IfSome o (λ (s : OpenSet). l ≡ record (log_in g v.log image) {
        is_clean = v.log.is_clean
            && (nat_le (length s.bytes + length value) 0 || nat_lt (length s.key + (length s.bytes + length value)) g.prog);
      })) (sym open_is)
      (adds ∙ λ i. record (log_in g v.log image) { is_clean = (tail ∙ (λ j. v.log.is_clean && is_unprogrammed g.prog (length set.key) (is.writing.holds.has.count j + length value))) i })
    where
      tail : is_unprogrammed g.prog (length set.key) (set.fed + length value) ≡ (v.log.is_clean && is_unprogrammed g.prog (length set.key) (set.fed + length value))
      tail = stays_dirty g.prog (length set.key) set.fed (length value) v.log.is_clean (sym is.writing.at_end.clean)
  add_follows owner (Remove key place copied) is fits state open_is image l adds =
      subst (λ (o : Option OpenSet). IfSome o (λ (s : OpenSet). l ≡ record (log_in g v.log image) {
        is_clean = v.log.is_clean
            && (nat_le (length s.bytes + length value) 0 || nat_lt (length s.key + (length s.bytes + length value)) g.prog);
      })) (sym open_is)
      (subst (λ (xs : List ℕ). l ≡ record (log_in g v.log image) {
        is_clean = v.log.is_clean
            && (nat_le (0 + length xs) 0 || nat_lt (length key + (0 + length xs)) g.prog);
      }) (sym (none_fed value (omega (arith, fits))))
      (adds ∙ λ i. record (log_in g v.log image) { is_clean = and_true v.log.is_clean i }))

-- ---- an add

module _ (v : LogView) (ready : IsReady v) (active : ActiveSet) (who : ℕ) (mine : (active.owner == who) ≡ true) (value : List ℕ) where
  abbrev set : OpenSet
  set = open_of active

  abbrev constants : Constants
  constants = constants_of v.device.geometry v.log

  abbrev before : List ℕ → StoreState
  before image = state_in v.device.geometry v.log (Some set) image

  its_owner : (set.owner == who) ≡ true
  its_owner = ap (λ (o : ℕ). o == who) (owner_is active.owner active.begun) ∙ mine

  module _ (w : LogView) (begun : IsBegun v active) (fits : length set.bytes + length value ≤ set.size) (ending : Ending)
      (changes : Changes v w unchanged (AddsTo v active.begun (length value)) ending) where
    small : nat_lt set.size (length set.bytes + length value) ≡ false
    small = not_over set.size (length set.bytes + length value) fits

    steps : (image : List ℕ) → plain_step constants (before image) who (Add value) ≡ record { state = record (before image) { open_set = Some (with_more value set) }; reply = reply.Done }
    steps image = add_step constants (before image) who refl set refl its_owner value small

    pub added : ending ≡ Done → (next : ActiveSet) → open_of next ≡ with_more value set
        → Answers plain_rules (kv_state v (Some set)) (kv_state w (Some (open_of next))) (answered who (Add value) reply.Done)
    added is next next_is = done v v w ready (only_refl v) unchanged (AddsTo v active.begun (length value)) ending changes is (Some set) (Some (open_of next)) who (Add value)
        (λ image left told now. steps image ∙ λ i. record { state = record (before image) { open_set = Some (sym next_is i) }; reply = reply.Done })
        (λ image left told now adds. add_follows v value active.owner active.begun begun fits (before image) refl image (log_in w.device.geometry w.log left) adds)

    module _ (is : ending ≡ WriteFailed) (note : StoreState) (noted : note ≡ in_doubt (state_in v.device.geometry v.log (Some set) (unwrap_or v.device.image [])) who (Add value)) where
      note_is : (image : List ℕ) → v.device.image ≡ Some image → note ≡ record (before image) { doubt = Some (record { who = who; operation = Add value }) }
      note_is image told = noted ∙ ap (λ (o : Option (List ℕ)). in_doubt (before (unwrap_or o [])) who (Add value)) told

      pub add_failed : (next : Option OpenSet) → Answers plain_rules (kv_state v (Some set)) (state_by w next (Some note)) (answered who (Add value) (reply.Refused WriteFault))
      add_failed next = failed v v w ready (only_refl v) unchanged (AddsTo v active.begun (length value)) ending changes is (Some set) who (Add value)
          (λ image told. inl refl) note note_is next refl
          (λ image told. add_writes constants (before image) who refl set refl its_owner value small)

      pub add_stopped : IsStopped w note
      add_stopped = stopped v v w ready (only_refl v) unchanged (AddsTo v active.begun (length value)) ending changes is (Some set) who (Add value)
          (λ image told. inl refl) note note_is ready.safe.hash_bits (ap (λ (s : StoreState). s.doubt) noted)

-- ---- over a whole store

module _ (v w : LogView) (active : Option ActiveSet) (note : Option StoreState) (runs : note ≡ None) (store : IsStore (view_at v active note))
    (its : ActiveSet) (its_is : active ≡ Some its) (who : ℕ) (mine : owns active who ≡ true) (value : List ℕ)
    (left : ℕ) (left_is : ForSome (set_in active) (λ (s : OpenSet). length s.bytes + left ≡ s.size)) (small : length value ≤ left)
    (ending : Ending) (changes : Changes v w unchanged (AddsTo v its.begun (length value)) ending) where
  running : IsRunning v active
  running = running_of v active note runs store

  its_mine : (its.owner == who) ≡ true
  its_mine = sym (ap (λ (a : Option ActiveSet). owns a who) its_is) ∙ mine

  it_fits : length (open_of its).bytes + length value ≤ (open_of its).size
  it_fits = omega (arith, left_is (open_of its) (ap set_in its_is), small)

  abbrev Is : Option OpenSet → Option StoreState → Reply → Type 0
  Is next later given = Answers plain_rules (state_by v (set_in active) note) (state_by w next later) (answered who (Add value) given)

  from_parts : (next : Option OpenSet) (later : Option StoreState) (given : Reply)
      → Answers plain_rules (kv_state v (Some (open_of its))) (state_by w next later) (answered who (Add value) given) → Is next later given
  from_parts next later given is = subst (λ (n : Option StoreState). Answers plain_rules (state_by v (set_in active) n) (state_by w next later) (answered who (Add value) given)) (sym runs)
      (subst (λ (a : Option ActiveSet). Answers plain_rules (kv_state v (set_in a)) (state_by w next later) (answered who (Add value) given)) (sym its_is) is)

  pub add_done : ending ≡ Done → (next : ActiveSet) → open_of next ≡ with_more value (open_of its) → Is (Some (open_of next)) note reply.Done
  add_done is next next_is = subst (λ (n : Option StoreState). Is (Some (open_of next)) n reply.Done) (sym runs)
      (from_parts (Some (open_of next)) None reply.Done
      (added v running.ready its who its_mine value w (running.begun its its_is) it_fits ending changes is next next_is))

  module _ (failed : ending ≡ WriteFailed) (state : StoreState)
      (noted : state ≡ in_doubt (state_in v.device.geometry v.log (set_in active) (unwrap_or v.device.image [])) who (Add value)) where
    its_note : state ≡ in_doubt (state_in v.device.geometry v.log (Some (open_of its)) (unwrap_or v.device.image [])) who (Add value)
    its_note = noted ∙ ap (λ (a : Option ActiveSet). in_doubt (state_in v.device.geometry v.log (set_in a) (unwrap_or v.device.image [])) who (Add value)) its_is

    pub add_doubted : (next : Option OpenSet) (e : KvError) → e ≡ WriteFault → Is next (Some state) (reply.Refused e)
    add_doubted next e fault = subst (λ (x : KvError). Is next (Some state) (reply.Refused x)) (sym fault)
        (from_parts next (Some state) (reply.Refused WriteFault)
        (add_failed v running.ready its who its_mine value w (running.begun its its_is) it_fits ending changes failed state its_note next))

    pub add_stop : IsStopped w state
    add_stop = add_stopped v running.ready its who its_mine value w (running.begun its its_is) it_fits ending changes failed state its_note

  -- each moment of it
  pub add_cuts : (next : Option ActiveSet) (later : Option StoreState) → (is_some later ≡ true → ending ≡ WriteFailed) → CutsStrictly (view_at v active note) (view_at w next later) who (Add value)
  add_cuts = written v v w (only_refl v) unchanged (AddsTo v its.begun (length value)) ending changes active note who (Add value) (λ image told. inl refl)

-- ---- what stands of it

all_units : (prog : ℕ) (key bytes : List ℕ) → 1 ≤ length bytes → programmed prog key bytes ≡ whole_units prog (key ++ bytes)
all_units prog key [] some = absurd (omega (arith, some))
all_units prog key (x ∷ bytes) some = refl

module _ (v : LogView) (value : List ℕ) (some : 1 ≤ length value) where
  longer : (before bytes : List ℕ) → bytes ≡ before ++ value → 1 ≤ length bytes
  longer before bytes is = let long : length bytes ≡ length before + length value = ap length is ∙ length-append before value in omega (arith, long, some)

  has_units : (owner : ℕ) (begun : Begun) → IsBegunBy v begun → (before : List ℕ) → (opened_by owner begun).bytes ≡ before ++ value → HasWholeUnits v (opened_by owner begun)
  has_units owner (Set set place fed) is before more image told =
      subst (λ (at : ℕ). part image (at + up v.device.geometry.prog 24) (length (whole_units v.device.geometry.prog (set.key ++ fed.bytes))) ≡ whole_units v.device.geometry.prog (set.key ++ fed.bytes))
      is.writing.at_end.at_end
      (subst (λ (units : List ℕ). part image (set.at + up v.device.geometry.prog 24) (length units) ≡ units)
      (all_units v.device.geometry.prog set.key fed.bytes (longer before fed.bytes more)) (is.writing.holds.has.stands image told))
  has_units owner (Remove key place copied) is before more image told = absurd (omega (arith, longer before [] more))

  pub add_holds : (next : ActiveSet) → IsBegun v next → (before : List ℕ) → (open_of next).bytes ≡ before ++ value → ForSome (set_in (Some next)) (HasWholeUnits v)
  add_holds next is before more set set_is = subst (HasWholeUnits v) (ap (λ (o : Option OpenSet). unwrap_or o (open_of next)) set_is) (has_units next.owner next.begun is before more)
