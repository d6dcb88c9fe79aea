-- A session that was not mounted again.
use Rattle.std.proofs.Common.{◌≡◌, ℕ, sym, ◌∙◌, ap, subst}
use Rattle.std.specs.Prelude.{Some, None, is_some}
use Rattle.flash_core.specs.declared.geometry.Geometry.{Geometry}
use Rattle.flash_core.specs.Sizes.{area_size}
use Rattle.kv_model.specs.Constants.{Constants}
use Rattle.kv_model.specs.Sizes.{room_of}
use Rattle.session_core.specs.declared.backing.Chips.{Chips}
use Rattle.session_core.specs.declared.session.Session.{Session}
use Rattle.session_core.specs.Backing.{chip_in, primary_by, state_by}
use Rattle.session_core.specs.Mounting.{HasKept}
use Rattle.session_core.specs.Settling.{IsSessionChance, IsUnmounted}
use Rattle.session_core.specs.Views.{primary_in}
use Rattle.session_core.proofs.MountLemmas.{constants_kept}

abbrev constants_over : ℕ → Geometry → Constants
constants_over hash_bits g = record { hash_bits = hash_bits; prog = g.prog; room = room_of g.prog (area_size g); secure = None }

pub unmounted_by : (old new : Session) (chips : Chips) → new.store ≡ None → new.chips ≡ Some chips → new.hash_bits ≡ old.hash_bits
    → HasKept (primary_in old) (chip_in chips) → IsSessionChance old None → IsUnmounted old new
unmounted_by old new chips gone kept bits holds none = record {
  unlikely = none;
  not_mounted = ap is_some gone;
  constants =
      (λ i. (state_by (bits i) (gone i) (kept i)).known.constants)
      ∙ ap (constants_over old.hash_bits) holds.geometry
      ∙ sym (constants_kept old.hash_bits old.store old.chips old.same_bits);
  kept = subst (HasKept (primary_in old)) (λ i. primary_by (sym gone i) (sym kept i)) holds;
}
