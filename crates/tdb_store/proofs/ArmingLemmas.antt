-- What arming the chip of a store, and naming its faults, does to what the store tells.
use Rattle.std.proofs.Common.{◌≡◌, ◌⊎◌, ℕ, Bool, true, false, not, ◌&&◌, if◌then◌else◌, List, [], ◌∷◌, inl, inr, refl, sym, ap, subst}
use Rattle.std.proofs.Math.Logic.{∥∥₁_map}
use Rattle.std.specs.Prelude.{Option, Some, None, Result, Ok, Err, IfOk, OnErr, is_some}
use Rattle.base_core.specs.declared.no_memory.NoMemory.{NoMemory}
use Rattle.flash_sim.specs.ChipState.{ChipState, after_arm, after_naming, device_of, is_steady}
use Rattle.flash_sim.specs.Patterns.{spelling as spelling_of}
use Rattle.flash_sim.specs.Plan.{is_to_come}
use Rattle.kv_model.specs.declared.pattern.Pattern.{Pattern}
use Rattle.kv_model.specs.declared.pattern.Pattern.TheVariants as pattern
use Rattle.kv_model.specs.Arming.{Arms, IsLabelled}
use Rattle.kv_model.specs.Kv.{KvState}
use Rattle.kv_model.specs.Opening.{Opening}
use Rattle.kv_model.specs.Patterns.{spelling}
use Rattle.kv_model.specs.StoreState.{OpenSet, StoreState}
use Rattle.flash_sim.specs.declared.chip.Chip.{Chip}
use Rattle.flash_sim.specs.Views as chips
use Rattle.tdb_read.specs.declared.log.MountedLog.{MountedLog}
use Rattle.tdb_read.specs.Views.{LogPart, LogView, view_of}
use Rattle.plain_store.specs.Faults.{IsSameButFaults}
use Rattle.plain_store.specs.Sets.{set_in}
use Rattle.plain_store.specs.Stores.{IsStore, state_by}
use Rattle.plain_store.specs.declared.active.ActiveSet.{ActiveSet}
use Rattle.plain_store.proofs.DeviceLemmas.{same_but_faults, still_store}
use Rattle.plain_store.proofs.StoreLemmas.{view_at}

same_spelling : (pattern : Pattern) → spelling_of pattern ≡ spelling pattern
same_spelling pattern.None = refl
same_spelling pattern.Half = refl
same_spelling pattern.Zero = refl
same_spelling pattern.All = refl
same_spelling (pattern.Mix seed) = refl

arms_of : (s s' : KvState) (pattern : Pattern) (result : Result Unit NoMemory) → IsSameButFaults s s' → (s.known.steady ≡ true → s'.known.steady ≡ true)
    → IsLabelled s s' pattern result → Arms s s' pattern result
arms_of s s' pattern result same steady label = record {
  constants = ap (λ (o : Opening). o.constants) same.known;
  state = ap (λ (o : Opening). o.state) same.known;
  log = ap (λ (o : Opening). o.log) same.known;
  read_faults = ap (λ (o : Opening). o.read_faults) same.known;
  write_faults = ap (λ (o : Opening). o.write_faults) same.known;
  steady = steady;
  label = label;
  tells_moments = same.tells_moments;
  primary = same.primary;
  rollback = same.rollback;
  stands = same.stands;
}

module _ (chip : ChipState) (log : LogPart) (set : Option OpenSet) where
  abbrev at : ChipState → LogView
  at c = record { device = device_of c; log = log }

  label_by : (pattern : Pattern) (torn : Bool) → is_some chip.torn ≡ torn
      → ((if is_some chip.torn then chip.label else spelling_of pattern) ∷ [] ≡ spelling pattern ∷ [])
      ⊎ ((is_steady chip ≡ false) × ((if is_some chip.torn then chip.label else spelling_of pattern) ∷ [] ≡ chip.label ∷ []))
  label_by pattern true is = inr ((λ i. not (is i) && (not (is_to_come chip.reads) && not (is_to_come chip.writes))), ap (λ b. (if b then chip.label else spelling_of pattern) ∷ []) is)
  label_by pattern false is = inl (λ i. (if is i then chip.label else same_spelling pattern i) ∷ [])

  pub armed : (note : Option StoreState) (n : ℕ) (pattern : Pattern) (done : Unit)
      → Arms (state_by (at chip) set note) (state_by (at (after_arm chip n pattern)) set note) pattern (Ok done)
  armed None n pattern done = arms_of (state_by (at chip) set None) (state_by (at (after_arm chip n pattern)) set None) pattern (Ok done)
      (same_but_faults (device_of chip) log (after_arm chip n pattern).label (is_steady chip) (device_of (after_arm chip n pattern)).sound set None) (λ is. is)
      (label_by pattern (is_some chip.torn) refl)
  armed (Some noted) n pattern done = arms_of (state_by (at chip) set (Some noted)) (state_by (at (after_arm chip n pattern)) set (Some noted)) pattern (Ok done)
      (same_but_faults (device_of chip) log (after_arm chip n pattern).label (is_steady chip) (device_of (after_arm chip n pattern)).sound set (Some noted)) (λ is. is)
      (label_by pattern (is_some chip.torn) refl)

  pub not_armed : (note : Option StoreState) (pattern : Pattern) (none : NoMemory) → Arms (state_by (at chip) set note) (state_by (at chip) set note) pattern (Err none)
  not_armed None pattern none = arms_of (state_by (at chip) set None) (state_by (at chip) set None) pattern (Err none)
      (same_but_faults (device_of chip) log chip.label (device_of chip).steady (device_of chip).sound set None) (λ is. is) refl
  not_armed (Some noted) pattern none = arms_of (state_by (at chip) set (Some noted)) (state_by (at chip) set (Some noted)) pattern (Err none)
      (same_but_faults (device_of chip) log chip.label (device_of chip).steady (device_of chip).sound set (Some noted)) (λ is. is) refl

  pub named : (note : Option StoreState) (reads writes : List ℕ) → IsSameButFaults (state_by (at chip) set note) (state_by (at (after_naming chip reads writes)) set note)
  named note reads writes =
      let d = device_of (after_naming chip reads writes) in
      same_but_faults (device_of chip) log chip.label d.steady d.sound set note

-- what a log over a chip keeps in memory
abbrev pub log_part : MountedLog Chip → LogPart
log_part m = (view_of (λ chip. device_of (chips.view_of chip)) m).log

module _ (chip chip' : ChipState) (log : LogPart) (active : Option ActiveSet) (note : Option StoreState) where
  abbrev IsAt : ChipState → Type 0
  IsAt c = IsStore (view_at (record { device = device_of c; log = log }) active note)

  abbrev state_at : ChipState → KvState
  state_at c = state_by (record { device = device_of c; log = log }) (set_in active) note

  pub named_store : (reads writes : List ℕ) → chip' ≡ after_naming chip reads writes → ∥ IsAt chip ∥₁ → ∥ IsAt chip' ∥₁
  named_store reads writes is some =
      let d = device_of (after_naming chip reads writes) in
      ∥∥₁_map some (λ kept. subst IsAt (sym is) (still_store (device_of chip) log chip.label d.steady d.sound active note kept))

  pub named_seen : (reads writes : List ℕ) → chip' ≡ after_naming chip reads writes → IsSameButFaults (state_at chip) (state_at chip')
  named_seen reads writes is = subst (λ c. IsSameButFaults (state_at chip) (state_at c)) (sym is) (named chip log (set_in active) note reads writes)

  module _ (n : ℕ) (pattern : Pattern) where
    pub armed_store : (result : Result Unit NoMemory) → IfOk result (λ _. chip' ≡ after_arm chip n pattern) → OnErr result (chip' ≡ chip) → ∥ IsAt chip ∥₁ → ∥ IsAt chip' ∥₁
    armed_store (Ok done) is same some =
        let d = device_of (after_arm chip n pattern) in
        ∥∥₁_map some (λ kept. subst IsAt (sym is) (still_store (device_of chip) log d.label d.steady d.sound active note kept))
    armed_store (Err none) is same some = subst (λ c. ∥ IsAt c ∥₁) (sym same) some

    pub arms_chip : (result : Result Unit NoMemory) → IfOk result (λ _. chip' ≡ after_arm chip n pattern) → OnErr result (chip' ≡ chip) → Arms (state_at chip) (state_at chip') pattern result
    arms_chip (Ok done) is same = subst (λ c. Arms (state_at chip) (state_at c) pattern (Ok done)) (sym is) (armed chip log (set_in active) note n pattern done)
    arms_chip (Err none) is same = subst (λ c. Arms (state_at chip) (state_at c) pattern (Err none)) (sym same) (not_armed chip log (set_in active) note pattern none)
