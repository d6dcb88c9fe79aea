-- What is told of the records of an area.
use Rattle.std.specs.Prelude.{◌≡◌, ℕ, List, length, is_some, Option}
use Rattle.std.specs.BTreeMap.{BTreeMap, btree_map_len}
use Rattle.std.specs.BTreeMap as tree
use Rattle.std.specs.FinMap as map
use Rattle.std.specs.Option.{unwrap_or}
use Rattle.std.specs.Ordering.{nat_cmp}
use Rattle.std.specs.Cmp.Lexicographic.{slice_cmp}
use Rattle.flash_core.specs.declared.geometry.Geometry.{Geometry}
use Rattle.kv_model.specs.FlaggedMap.{FlaggedMap}
use Rattle.kv_model.specs.KeySizes.{key_size}
use Rattle.kv_model.specs.Sizes.{used}
use Rattle.kv_model.specs.Write.{Write, map_of}
use Rattle.record_core.specs.Log.{AreAllRecords}
use Rattle.area_log.specs.declared.area.Area.{Area}
use Rattle.area_log.specs.Areas.{end_of, first_place}
use Rattle.kv_tools.specs.declared.live.Live.{Live}
use Rattle.kv_tools.specs.declared.survey.Survey.{Survey}

-- the value of a key in a tree
abbrev pub size_in : BTreeMap (List ℕ) ℕ → List ℕ → Option ℕ
size_in sizes key = tree.get (slice_cmp nat_cmp) sizes key

-- These are the keys of a map, each with the size of its record, and the sum of these sizes.
pub record StandsFor (prog : ℕ) (live : Live) (m : FlaggedMap) : Type 0 where
  pub same : (key : List ℕ) → is_some (size_in live.sizes key) ≡ map.contains_key m key
  pub each : (key : List ℕ) → unwrap_or (size_in live.sizes key) 0 ≡ key_size prog m key
  pub count : btree_map_len live.sizes ≡ map.len m
  pub used_is : live.used ≡ used prog m

-- These are what the records of an area are: how many, the place behind them, and of the map that they stand for how many
-- keys it has and what it uses.
pub record IsSurveyOf (g : Geometry) (image : List ℕ) (area : Area) (survey : Survey) : Type 0 where
  pub records : List Write
  pub all : AreAllRecords g.prog image (first_place g area) (end_of area) survey.end records
  pub count : survey.records ≡ length records
  pub live : survey.live ≡ map.len (map_of records)
  pub used : survey.used ≡ used g.prog (map_of records)
