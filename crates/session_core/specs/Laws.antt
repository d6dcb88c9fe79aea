-- That what a session tells is lawful.
use Rattle.std.specs.Prelude.{◌≡◌, ℕ, Bool, true, false, not, ◌&&◌, Option, Some, None, is_some}
use Rattle.std.proofs.Common.{ap, refl}
use mathlib.Core.Bool.{false≢true}
use Rattle.flash_sim.specs.ChipState.{ChipState, is_steady}
use Rattle.flash_sim.specs.Laws.{chip_is_lawful}
use Rattle.flash_sim.specs.Views.{view_of}
use Rattle.kv_model.specs.Kv.{IsLawful}
use Rattle.plain_store.proofs.KeptLemmas.{kept_is_lawful}
use Rattle.session_core.specs.declared.backing.Chips.{Chips}
use Rattle.session_core.specs.declared.backing.Store.{Store}
use Rattle.session_core.specs.declared.backing.Store.TheVariants.{Plain}
use Rattle.session_core.specs.Backing.{primary_by, session_rules, state_by, told_by, unmounted}
use Rattle.session_core.specs.Chips.{device_in}

both : (a b : Bool) → (a && b) ≡ true → a ≡ true
both true b is = refl
both false b is = is

none_told : {X P : Type 0} (x : X) → None ≡ Some x → P
none_told x is = absurd (false≢true (ap is_some is))

pub store_is_lawful : (store : Store) → IsLawful session_rules (told_by store)
store_is_lawful (Plain store) = kept_is_lawful device_in (λ chip. chip_is_lawful (view_of chip) chip.sized) store.store store.kept

unmounted_is_lawful : (hash_bits : ℕ) (chip : ChipState) → IsLawful session_rules (unmounted hash_bits chip)
unmounted_is_lawful hash_bits chip = record {
  sound_is_steady = λ sound. both (is_steady chip) (not (is_some chip.armed)) sound;
  stands = λ state told. none_told state told;
}

pub session_is_lawful : (hash_bits : ℕ) (store : Option Store) (chips : Option Chips) → IsLawful session_rules (state_by hash_bits store chips)
session_is_lawful hash_bits (Some store) chips = store_is_lawful store
session_is_lawful hash_bits None chips = unmounted_is_lawful hash_bits (primary_by None chips)
