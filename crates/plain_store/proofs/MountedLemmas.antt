-- A store that was mounted, and that what a store tells is lawful.
use Rattle.std.proofs.Common.{◌≡◌, ℕ, List, sym, ◌∙◌, ap, subst}
use Rattle.std.specs.Prelude.{Option, Some, None, MatchOption, Contains}
use Rattle.std.specs.FinMap as map
use Rattle.std.specs.Option.{option_map}
use Rattle.flash_core.specs.Sizes.{area_size}
use Rattle.flash_core.specs.State.{FlashState, IsLawful as IsLawfulDevice}
use Rattle.flash_core.proofs.KeptLaws.{told_after}
use Rattle.kv_model.specs.Kv.{IsLawful}
use Rattle.kv_model.specs.PlainStep.{plain_rules}
use Rattle.kv_model.specs.Rules.{cuts}
use Rattle.kv_model.specs.Sizes.{room_of}
use Rattle.kv_model.specs.StoreState.{Doubt, StoreState, maps_of}
use Rattle.tdb_mount.proofs.ReaderLemmas.{mapped_from}
use Rattle.tdb_read.specs.Mounting.{IsMounted}
use Rattle.tdb_read.specs.States.{constants_of, kv_state, state_in}
use Rattle.tdb_read.specs.Views.{LogView}
use Rattle.tdb_read.proofs.LawLemmas.{log_is_lawful}
use Rattle.plain_store.specs.Mounting.{IsFresh}
use Rattle.plain_store.specs.Sets.{set_in}
use Rattle.plain_store.specs.Stores.{IsStore, state_by}
use Rattle.plain_store.specs.declared.active.ActiveSet.{ActiveSet}
use Rattle.plain_store.proofs.StoreLemmas.{view_at}

pub mounted_fresh : (old : FlashState) (hash_bits : ℕ) (v : LogView) → IsMounted old hash_bits v → IsFresh old hash_bits (kv_state v None)
mounted_fresh old hash_bits v is = record {
  constants = λ i. record {
    hash_bits = is.bits i;
    prog = (is.runs.kept.geometry i).prog;
    room = room_of (is.runs.kept.geometry i).prog (area_size (is.runs.kept.geometry i));
    secure = None;
  };
  state = λ image told m mounts.
      let left = told_after is.runs.kept told in
      ap (option_map (state_in v.device.geometry v.log None)) left.1
      ∙ (λ i. Some (record (state_in (is.runs.kept.geometry i) v.log None left.0) { iterators = is.no_iterators i }))
      ∙ (λ i. Some (record { primary = is.same_map image told left.0 left.1 m mounts i; rollback = map.empty; open_set = None; iterators = map.empty; next_vector = 1; doubt = None }));
}

-- the same where the fields are known by equations
pub fresh_store : (old : FlashState) (hash_bits : ℕ) (v : LogView) (active : Option ActiveSet) (note : Option StoreState) → active ≡ None → note ≡ None
    → IsMounted old hash_bits v → IsFresh old hash_bits (state_by v (set_in active) note)
fresh_store old hash_bits v active noted free runs is =
    subst (λ (n : Option StoreState). IsFresh old hash_bits (state_by v (set_in active) n)) (sym runs)
    (subst (λ (a : Option ActiveSet). IsFresh old hash_bits (kv_state v (set_in a))) (sym free) (mounted_fresh old hash_bits v is))

pub store_is_lawful : (v : LogView) (active : Option ActiveSet) (note : Option StoreState) → IsLawfulDevice v.device → IsStore (view_at v active note)
    → IsLawful plain_rules (state_by v (set_in active) note)
store_is_lawful v active None lawful is = log_is_lawful v lawful is.ready (set_in active)
store_is_lawful v active (Some noted) lawful is = record {
  sound_is_steady = lawful.sound_is_steady;
  stands = λ state told maps stand.
      let from = mapped_from (λ (image : List ℕ). noted) v.device.image state told in
      subst (λ (s : StoreState). MatchOption s.doubt (maps ≡ maps_of s)
      (λ (d : Doubt). Contains (cuts (plain_rules (constants_of v.device.geometry v.log)) s d.who d.operation) maps)) from.2
      (subst (λ (o : Option Doubt). MatchOption o (maps ≡ maps_of noted)
      (λ (d : Doubt). Contains (cuts (plain_rules (constants_of v.device.geometry v.log)) noted d.who d.operation) maps)) (sym is.is) (is.stands from.0 from.1 maps stand));
}
