-- A set that is looked up.
use Rattle.std.proofs.Common.{◌≡◌, ℕ, ◌+◌, ◌<◌, ◌≤◌, ◌==◌, if◌then◌else◌, Bool, true, false, not, nat_lt, List, [], ◌∷◌, length, inl, inr, refl, sym, ◌∙◌, ap, subst, arith}
use Rattle.std.specs.Prelude.{IsTrue, Option, Some, None, is_some, Result, Ok, Err, IsErrAnd}
use Rattle.std.specs.Option.{ForSome}
use Rattle.std.proofs.lemmas.Bool.Decides.{nat_tests}
use Rattle.base_core.specs.Sizes.{record_size}
use Rattle.flash_core.specs.declared.geometry.Geometry.{Geometry}
use Rattle.flash_core.specs.Sizes.{area_size}
use Rattle.kv_model.specs.declared.call.Reply.{Reply}
use Rattle.kv_model.specs.declared.call.Reply.TheVariants as reply
use Rattle.kv_model.specs.declared.error.KvError.{KvError}
use Rattle.kv_model.specs.declared.error.KvError.TheVariants.{Busy, InvalidFlags, InvalidKey, InvalidSize, MediaFull, Memory, SetOpen, WriteProtected}
use Rattle.kv_model.specs.declared.limits.TheConstants.{MAX_VALUE}
use Rattle.kv_model.specs.Checks.{Check, Reads, Writes, first_refusal, may_fail_reading, may_fail_writing}
use Rattle.kv_model.specs.Constants.{Constants}
use Rattle.kv_model.specs.Flags.{is_plain_flags, is_write_once}
use Rattle.kv_model.specs.Given.{done_or}
use Rattle.kv_model.specs.Keys.{is_key}
use Rattle.kv_model.specs.Kv.{Answers, Ruled, answered, kind_of, reads, takes_memory}
use Rattle.kv_model.specs.Operations.{Operation}
use Rattle.kv_model.specs.PlainStep.{flags_in, needed, no_room, plain_checks, plain_rules, plain_step, protected, set_checks}
use Rattle.kv_model.specs.Rows.{owns_set, set_owner}
use Rattle.kv_model.specs.Rules.{after_refusal, refused_or, refuses}
use Rattle.kv_model.specs.Sizes.{room_of, used}
use Rattle.kv_model.specs.StoreState.{OpenSet, StoreState}
use Rattle.kv_model.proofs.PerformLemmas.{refused_follows}
use Rattle.tdb_read.specs.Reads.{map_in}
use Rattle.tdb_read.specs.States.{constants_of, kv_state, state_in}
use Rattle.tdb_read.specs.Views.{HasOnlyRead, HasRead, LogPart, LogView}
use Rattle.tdb_write.specs.Changes.{HasSpaceFor}
use Rattle.tdb_read.proofs.AnswerLemmas.{refused, ruled, wanted}
use Rattle.plain_store.specs.Setting.{HasLookedUp, IsAllowed, IsProtected, IsSetRefusal, early_refusal, size_at}
use Rattle.plain_store.specs.Sets.{set_in, taken}
use Rattle.plain_store.specs.declared.active.ActiveSet.{ActiveSet}
use Rattle.plain_store.specs.Stores.{Calls}
use Rattle.plain_store.proofs.CallLemmas.{some_is}
use Rattle.plain_store.proofs.StoreLemmas.{owner_is, refused_so, view_at}

-- a refusal that is handed on
pub handed : {T : Type 0} (P : Reply → Type 0) (result : Result T KvError) (e : KvError) → IsErrAnd result (λ x. x ≡ e) → P (reply.Refused e) → P (done_or result)
handed P (Ok x) e same is = absurd same
handed P (Err x) e same is = subst (λ (y : KvError). P (reply.Refused y)) (sym same) is

-- ---- the refusals in their order

-- those of key, flags and size, and then others
abbrev chain : Bool → Bool → Bool → Option KvError → Option KvError
chain key flags size rest = if not key then Some InvalidKey else if not flags then Some InvalidFlags else if size then Some InvalidSize else rest

ruled_as : (x e : KvError) → kind_of (reply.Refused x) ≡ Ruled → Some x ≡ Some e → kind_of (reply.Refused e) ≡ Ruled
ruled_as x e kind same = subst (λ (y : KvError). kind_of (reply.Refused y) ≡ Ruled) (some_is same) kind

chain_some : (key flags size : Bool) (one other : Option KvError) (e : KvError) → (one ≡ Some e → other ≡ Some e) → chain key flags size one ≡ Some e → chain key flags size other ≡ Some e
chain_some false flags size one other e to is = is
chain_some true false size one other e to is = is
chain_some true true true one other e to is = is
chain_some true true false one other e to is = to is

by_owner : (b : Bool) (n : ℕ) (e : KvError) → Some (if b then SetOpen else Busy n) ≡ Some e → (if b then Some SetOpen else Some (Busy n)) ≡ Some e
by_owner true n e is = is
by_owner false n e is = is

all_ruled : (key flags size : Bool) (a : Option ActiveSet) (who : ℕ) (e : KvError) → chain key flags size (taken a who) ≡ Some e → kind_of (reply.Refused e) ≡ Ruled
all_ruled false flags size a who e is = ruled_as InvalidKey e refl is
all_ruled true false size a who e is = ruled_as InvalidFlags e refl is
all_ruled true true true a who e is = ruled_as InvalidSize e refl is
all_ruled true true false None who e is = absurd (cc (is))
all_ruled true true false (Some a) who e is = by_test (a.owner == who) is
  where
    by_test : (b : Bool) → Some (if b then SetOpen else Busy a.owner) ≡ Some e → kind_of (reply.Refused e) ≡ Ruled
    by_test true same = ruled_as SetOpen e refl same
    by_test false same = ruled_as (Busy a.owner) e refl same

module _ (v : LogView) (image : List ℕ) (who : ℕ) (operation : Operation) (key : List ℕ) (size flags : ℕ) where
  abbrev constants : Constants
  constants = constants_of v.device.geometry v.log

  abbrev state : Option OpenSet → StoreState
  state set = state_in v.device.geometry v.log set image

  abbrev pub checks : Option OpenSet → List Check
  checks set = set_checks constants (state set) who (no_room constants (state set) who key size) key size flags

  -- what remains behind the refusals that need no read
  abbrev pub late : Option OpenSet → List Check
  late set = Reads ∷ protected constants (state set) who key ∷ no_room constants (state set) who key size ∷ Writes ∷ []

  by_active : (a : Option ActiveSet) (e : KvError) → taken a who ≡ Some e
      → (if owns_set (state (set_in a)) who then Some SetOpen else if is_some (set_in a) then Some (Busy (set_owner (state (set_in a)) who)) else first_refusal (late (set_in a))) ≡ Some e
  by_active None e is = absurd (cc (is))
  by_active (Some a) e is = subst (λ (n : ℕ). (if n == who then Some SetOpen else Some (Busy n)) ≡ Some e) (sym (owner_is a.owner a.begun)) (by_owner (a.owner == who) a.owner e is)

  pub early : (a : Option ActiveSet) (e : KvError) → early_refusal a who key size flags ≡ Some e → first_refusal (checks (set_in a)) ≡ Some e
  early a e is = chain_some (is_key key) (is_plain_flags flags) (nat_lt MAX_VALUE size) (taken a who) _ e (by_active a e) is

  module _ (checks_are : (set : Option OpenSet) → plain_checks constants (state set) who operation ≡ checks set) (set : Option OpenSet) where
    pub steps_so : (o : Option KvError) → first_refusal (checks set) ≡ o → plain_step constants (state set) who operation ≡ refused_or (plain_rules constants) (state set) who operation o
    steps_so o is = λ i. refused_or (plain_rules constants) (state set) who operation ((ap first_refusal (checks_are set) ∙ is) i)

  module _ (a : Option ActiveSet) (allowed : IsAllowed a key size flags) where
    pub passed : first_refusal (checks None) ≡ first_refusal (late None)
    passed = λ i. chain (allowed.valid i) (allowed.plain i) (allowed.small i) (first_refusal (late None))

    pub start_reads : IsTrue (may_fail_reading (checks None))
    start_reads = λ i. if not (allowed.valid i) then false else if not (allowed.plain i) then false else if allowed.small i then false else true

    module _ (unprotected : is_write_once (flags_in (state None).primary key) ≡ false) (fits : nat_lt constants.room (needed constants (state None) who key size) ≡ false) where
      pub none_refuses : first_refusal (checks None) ≡ None
      none_refuses = passed ∙ λ i. if unprotected i then Some WriteProtected else if fits i then Some (MediaFull (needed constants (state None) who key size) constants.room) else None

      pub start_writes : IsTrue (may_fail_writing (checks None))
      start_writes = λ i. if not (allowed.valid i) then false else if not (allowed.plain i) then false else if allowed.small i then false else if unprotected i then false else if fits i then false else true

-- ---- what a look-up keeps

module _ (v w : LogView) (looked : HasLookedUp v w) where
  abbrev pub mid : LogView
  mid = record { device = w.device; log = v.log }

  pub only_looked : HasOnlyRead v mid
  only_looked = record { device = looked.device; log = refl }

  read : HasRead v mid
  read = record { device = looked.device; log = refl }

  -- what is said of the map and the log
  before_look : (P : Geometry → Option (List ℕ) → LogPart → Type 0) → P w.device.geometry w.device.image w.log
      → P v.device.geometry v.device.image (record v.log { table = record { entries = v.log.table.entries; spare = w.log.table.spare }; spare = record { entries = v.log.spare.entries; spare = w.log.spare.spare } })
  before_look P is =
      let log : LogPart = record v.log { table = record { entries = v.log.table.entries; spare = w.log.table.spare }; spare = record { entries = v.log.spare.entries; spare = w.log.spare.spare } } in
      subst (λ (g : Geometry). P g v.device.image log) looked.device.geometry
      (subst (λ (o : Option (List ℕ)). P w.device.geometry o log) looked.device.image
      (subst (λ (l : LogPart). P w.device.geometry w.device.image l) looked.log is))

  pub open_before : (key : List ℕ) (b : Bool) → IsProtected w key b → IsProtected v key b
  open_before key b is = before_look (λ g o l. ForSome o (λ image. is_write_once (flags_in (map_in g l image) key) ≡ b)) is

  pub space_before : (key : List ℕ) (size : ℕ) → HasSpaceFor w (size_at w key size) → HasSpaceFor v (size_at v key size)
  space_before key size is = before_look (λ g o l. ForSome o (λ image. used g.prog (map_in g l image) + record_size g.prog (length key) size ≤ room_of g.prog (area_size g))) is

  -- ---- the refusals of a look-up

  module _ (who : ℕ) (operation : Operation) (key : List ℕ) (size flags : ℕ) (may : IsTrue (reads operation)) (takes : IsTrue (takes_memory operation))
      (checks_are : (image : List ℕ) → plain_checks (constants_of v.device.geometry v.log) (state_in v.device.geometry v.log None image) who operation ≡ checks v image who operation key size flags None)
      (stays : (s : StoreState) (e : KvError) → after_refusal s operation e ≡ s) (a : Option ActiveSet) (allowed : IsAllowed a key size flags) where
    abbrev Is : KvError → Type 0
    Is e = Answers plain_rules (kv_state v None) (kv_state w None) (answered who operation (reply.Refused e))

    back : (e : KvError) → Answers plain_rules (kv_state v None) (kv_state mid None) (answered who operation (reply.Refused e)) → Is e
    back e is = subst (λ (l : LogPart). Answers plain_rules (kv_state v None) (kv_state (record { device = w.device; log = l }) None) (answered who operation (reply.Refused e))) (sym looked.log) is

    by_rules : (e : KvError) → kind_of (reply.Refused e) ≡ Ruled
        → ((image : List ℕ) → v.device.image ≡ Some image → first_refusal (checks v image who operation key size flags None) ≡ Some e) → Is e
    by_rules e kind refuses_so = back e (ruled v mid read None (answered who operation (reply.Refused e)) kind
        (λ image told.
        let s : StoreState = state_in v.device.geometry v.log None image in
        (λ i. refused_or (plain_rules (constants_of v.device.geometry v.log)) s who operation ((ap first_refusal (checks_are image) ∙ refuses_so image told) i)) ∙ (λ i. refuses (stays s e i) e))
        (λ s l. refused_follows (constants_of v.device.geometry v.log) s l operation e))

    pub look_refused : (e : KvError) → IsSetRefusal v w key size e → Is e
    look_refused e (inl (inl is)) = subst Is (sym is.0) (by_rules WriteProtected refl
        (λ image told. passed v image who operation key size flags a allowed
        ∙ λ i. if is.1 image told i then Some WriteProtected else first_refusal (no_room (constants_of v.device.geometry v.log) (state_in v.device.geometry v.log None image) who key size ∷ Writes ∷ [])))
    look_refused e (inl (inr is)) = back e (refused v mid read None who operation e refl may is
        (λ image told. ap may_fail_reading (checks_are image) ∙ start_reads v image who operation key size flags a allowed))
    look_refused e (inr (inl is)) = subst Is (sym is.1.is) (by_rules (MediaFull is.1.need (room_of v.device.geometry.prog (area_size v.device.geometry))) refl
        (λ image told.
        let needs : is.1.need ≡ used v.device.geometry.prog (map_in v.device.geometry v.log image) + size_at v key size = is.1.told image told in
        let room : ℕ = room_of v.device.geometry.prog (area_size v.device.geometry) in
        let over : nat_lt room (used v.device.geometry.prog (map_in v.device.geometry v.log image) + size_at v key size) ≡ true = is_over room _ (omega (arith, is.1.over, needs)) in
        passed v image who operation key size flags a allowed
        ∙ (λ i. if is.0 image told i then Some WriteProtected else if over i then Some (MediaFull (used v.device.geometry.prog (map_in v.device.geometry v.log image) + size_at v key size) room) else None)
        ∙ λ i. Some (MediaFull (sym needs i) room)))
      where
        is_over : (most n : ℕ) → most < n → nat_lt most n ≡ true
        is_over most n is = grind (arith, nat_tests)
    look_refused e (inr (inr is)) = subst Is (sym is) (back Memory (wanted v mid read None who operation refl takes))

-- ---- the refusals that need no look-up

module _ (v : LogView) (a : Option ActiveSet) (note : Option StoreState) (runs : note ≡ None) (who : ℕ) (operation : Operation) (key : List ℕ) (size flags : ℕ)
    (checks_are : (image : List ℕ) (set : Option OpenSet) → plain_checks (constants_of v.device.geometry v.log) (state_in v.device.geometry v.log set image) who operation ≡ checks v image who operation key size flags set)
    (stays : (s : StoreState) (e : KvError) → after_refusal s operation e ≡ s) where
  pub early_refused : (e : KvError) → early_refusal a who key size flags ≡ Some e → Calls (view_at v a note) (view_at v a note) (answered who operation (reply.Refused e))
  early_refused e is = refused_so v a who note runs (answered who operation (reply.Refused e)) (all_ruled (is_key key) (is_plain_flags flags) (nat_lt MAX_VALUE size) a who e is)
      (λ image told.
      let s : StoreState = state_in v.device.geometry v.log (set_in a) image in
      (λ i. refused_or (plain_rules (constants_of v.device.geometry v.log)) s who operation ((ap first_refusal (checks_are image (set_in a)) ∙ early v image who operation key size flags a e is) i)) ∙ (λ i. refuses (stays s e i) e))
      (λ b l. refused_follows (constants_of v.device.geometry v.log) b l operation e)
