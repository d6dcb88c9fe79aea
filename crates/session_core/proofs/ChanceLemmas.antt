-- A record that is there by chance shows a write that failed.
use Rattle.std.proofs.Common.{◌≡◌, ℕ, ◌≤◌, Bool, true, false, List, refl, sym, ◌∙◌, ap}
use Rattle.std.specs.Prelude.{Option, Some, None, not, ◌&&◌, is_some}
use mathlib.Core.Bool.{false≢true}
use Rattle.flash_core.specs.declared.geometry.Geometry.{Geometry}
use Rattle.flash_core.specs.State.{DeviceCall}
use Rattle.flash_sim.specs.ChipState.{ChipState, is_steady}
use Rattle.flash_sim.specs.Plan.{is_to_come}
use Rattle.kv_model.specs.declared.call.Entry.{Entry}
use Rattle.kv_model.specs.Kv.{KvState}
use Rattle.kv_model.specs.StoreState.{StoreState}
use Rattle.plain_store.proofs.CallLemmas.{some_is}
use Rattle.session_core.specs.declared.session.Session.{Session}
use Rattle.session_core.specs.Power.{HasDevice, LeavesPower, Power, Steady, Armed, Lost, is_lost, write_faults_in}
use Rattle.session_core.specs.Search.{IsChanceBy, IsChanceOf}
use Rattle.session_core.specs.Views.{primary_in, state_in}
use Rattle.session_core.proofs.MountLemmas.{tells_steady}

was_torn : (g : Geometry) (image : List ℕ) (torn : Option DeviceCall) (place : ℕ) → IsChanceBy g image torn (Some place) → is_some torn ≡ true
was_torn g image None place is = absurd (false≢true (sym (ap is_some is)))
was_torn g image (Some call) place is = refl

-- a chip that was torn fails each call
torn_unsteady : (chip : ChipState) → is_some chip.torn ≡ true → is_steady chip ≡ false
torn_unsteady chip torn = ap (λ (b : Bool). not b && (not (is_to_come chip.reads) && not (is_to_come chip.writes))) torn

no_power : (s : KvState) (power : Power) → s.known.steady ≡ false → HasDevice s power → is_lost power ≡ true
no_power s Steady unsteady device = absurd (false≢true (sym unsteady ∙ device.1))
no_power s Armed unsteady device = absurd (false≢true (sym unsteady ∙ device))
no_power s Lost unsteady device = refl

module _ (session : Session) (power : Power) (entries : List Entry) (place : ℕ) (last : StoreState) (runs : is_lost power ≡ false) (left : LeavesPower (state_in session) power entries)
    (chance : IsChanceOf (primary_in session) (Some place)) (told : (state_in session).known.state ≡ Some last) where
  unsteady : (state_in session).known.steady ≡ false
  unsteady = tells_steady session.hash_bits session.store session.chips
      ∙ torn_unsteady (primary_in session) (was_torn (primary_in session).geometry (primary_in session).image (primary_in session).torn place chance)

  lost : is_lost left.after ≡ true
  lost = no_power (state_in session) left.after unsteady left.has.device

  -- its call is in doubt
  pub chance_in_doubt : is_some last.doubt ≡ true
  chance_in_doubt = ap (λ (s : StoreState). is_some s.doubt) (some_is (sym told ∙ left.has.told)) ∙ left.has.stopped ∙ lost

  -- the write was one of the history
  pub chance_failed : 1 ≤ write_faults_in entries
  chance_failed = left.failed runs lost
