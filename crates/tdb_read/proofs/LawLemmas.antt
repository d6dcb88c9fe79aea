-- What a log stands for, and what it is as a store.
use Rattle.std.proofs.Common.{◌≡◌, ℕ, List, refl, subst}
use Rattle.std.specs.Prelude.{Option, MatchOption, Contains}
use Rattle.flash_core.specs.declared.geometry.Geometry.{Geometry}
use Rattle.flash_core.specs.State.{IsLawful as IsLawfulDevice}
use Rattle.flash_core.proofs.GeometryLaws.{prog_positive}
use Rattle.kv_model.specs.Kv.{IsLawful}
use Rattle.kv_model.specs.PlainStep.{plain_rules}
use Rattle.kv_model.specs.Rules.{cuts}
use Rattle.kv_model.specs.StoreState.{Doubt, OpenSet, StoreState, maps_of}
use Rattle.record_core.specs.Mounts.{Mounts}
use Rattle.record_core.proofs.MountLemmas.{mounts_once}
use Rattle.tdb_mount.proofs.ReaderLemmas.{mapped_from}
use Rattle.tdb_read.specs.Reads.{map_in}
use Rattle.tdb_read.specs.States.{constants_of, kv_state, state_in}
use Rattle.tdb_read.specs.Views.{IsLogOf, IsReady, LogPart, LogView, records_in}

pub log_mounts : (g : Geometry) (image : List ℕ) (log : LogPart) → IsLogOf g image log → Mounts g image (map_in g log image)
log_mounts g image log is = (record { first = is.first; second = is.second; records = records_in g log image; end = log.end }, is.holds, refl)

pub log_is_lawful : (v : LogView) → IsLawfulDevice v.device → IsReady v → (set : Option OpenSet) → IsLawful plain_rules (kv_state v set)
log_is_lawful v lawful ready set =
    let g : Geometry = v.device.geometry in
    record {
      sound_is_steady = lawful.sound_is_steady;
      stands = λ state told maps stand.
          let from = mapped_from (state_in g v.log set) v.device.image state told in
          let same : maps.primary ≡ map_in g v.log from.0 = mounts_once g from.0 (prog_positive g ready.safe.valid) maps.primary (map_in g v.log from.0)
          (stand.primary from.0 from.1) (log_mounts g from.0 v.log (ready.stands from.0 from.1)) in
          subst (λ (s : StoreState). MatchOption s.doubt (maps ≡ maps_of s) (λ (d : Doubt). Contains (cuts (plain_rules (constants_of g v.log)) s d.who d.operation) maps)) from.2
          (λ i. record { primary = same i; rollback = stand.rollback i });
    }
