-- What a replay of a script over an image is.
use Rattle.std.specs.Prelude.{◌≡◌, ◌≤◌, ◌⊎◌, ◌+◌, ℕ, Bool, true, false, List, ◌++◌, None, length, codes, is_some, MatchOption, Contains}
use Rattle.std.specs.Fmt.{decimal}
use Rattle.std.specs.FinMap as map
use Rattle.flash_core.specs.Runs.{Done}
use Rattle.flash_core.specs.Sizes.{size_of}
use Rattle.flash_core.specs.State.{DeviceCall, after_of, before_of}
use Rattle.journal_core.specs.Clients.{text_by_client}
use Rattle.journal_core.specs.Texts.{text_of}
use Rattle.kv_model.specs.declared.call.Entry.{Entry}
use Rattle.kv_model.specs.Constants.{Constants}
use Rattle.kv_model.specs.FlaggedMap.{FlaggedMap}
use Rattle.kv_model.specs.History.{IsLegal}
use Rattle.kv_model.specs.Opening.{Log}
use Rattle.kv_model.specs.PlainStep.{plain_rules}
use Rattle.kv_model.specs.Rules.{cuts}
use Rattle.kv_model.specs.StoreState.{StoreState, fresh_state, maps_of}
use Rattle.kv_model.specs.Writes.{writes}
use Rattle.record_core.specs.Chance.{FirstBreak}
use Rattle.record_core.specs.Mounts.{Mounts}
use Rattle.script_core.specs.declared.line.Line.{Line}
use Rattle.script_core.specs.LineOrder.{InOrder}
use Rattle.session_core.specs.Growing.{WantsNoCollection, grown}
use Rattle.session_core.specs.Power.{ShowsCuts, acts_of, armed_cuts, cuts_in, write_faults_in}
use Rattle.session_core.specs.Replaying.{IsMountBehind}
use Rattle.session_core.specs.Telling.{HasNoStray, IsLogIn, over_one}
use Rattle.tdb_mount.specs.Format.{Leaves}
use Rattle.kv_cli.specs.Asked.{Asked, constants_of, power_by}

-- running, with this map, no set, no iterator and the first vector
abbrev pub first_state : FlaggedMap → StoreState
first_state m = fresh_state m map.empty 1

-- The entries are one legal history of the map to which the image mounts, and power cuts show where they may.
pub record IsHistory (asked : Asked) (image : List ℕ) (lines : List Line) (entries : List Entry) (last : StoreState) : Type 0 where
  pub map : FlaggedMap
  pub mounts : Mounts asked.geometry image map
  pub legal : IsLegal (plain_rules (constants_of asked)) (first_state map) entries last
  pub shows : ShowsCuts (power_by asked.cut) lines entries

-- the map of a store that runs; of a stopped one such as a power cut in the call in doubt may leave
abbrev pub IsLeftBy : Constants → StoreState → FlaggedMap → Type 0
IsLeftBy constants last m = MatchOption last.doubt
    (over_one m ≡ maps_of last)
    (λ doubt. Contains (cuts (plain_rules constants) last doubt.who doubt.operation) (over_one m))

-- an image that mounts to what a history leaves
pub record IsImageOf (asked : Asked) (last : StoreState) (written : List ℕ) : Type 0 where
  pub sized : length written ≡ size_of asked.geometry
  pub map : FlaggedMap
  pub mounts : Mounts asked.geometry written map
  pub left : IsLeftBy (constants_of asked) last map

-- The opened image is the one that was read, formatted where no area of it is valid. Where the log in it wants no
-- collection, the written image holds that log with the records of the history behind it, in the same area and with the
-- same version, and no byte beside it is a stray one: behind the records each is 0xFF, and outside of that area each is
-- as in the opened image.
pub record Grows (asked : Asked) (image : List ℕ) (entries : List Entry) (written : List ℕ) : Type 0 where
  pub opened : List ℕ
  pub leaves : Leaves asked.geometry image opened Done
  pub log : Log
  pub holds : IsLogIn asked.geometry opened log
  pub grows : WantsNoCollection (constants_of asked) log entries
      → HasNoStray asked.geometry opened written (grown log (writes None entries))

-- All lines were run, each once and in order, and this is the image that they leave. Where no power was cut, its log grew
-- by the records of the history.
pub record IsReplayOf (asked : Asked) (image : List ℕ) (lines : List Line) (entries : List Entry) (written : List ℕ) : Type 0 where
  pub last : StoreState
  pub history : IsHistory asked image lines entries last
  pub in_order : InOrder entries lines
  pub image_of : IsImageOf asked last written
  pub grows : asked.cut ≡ None → cuts_in (acts_of lines) ≡ 0 → Grows asked image entries written

-- all lines were run, or those before a mount
abbrev pub StopsInOrder : List Entry → List Line → Type 0
StopsInOrder entries lines = InOrder entries lines ⊎ ((before : List Line) × IsMountBehind lines before × InOrder entries before)

-- A write was torn, and in the image that it left the record at this place, the first, stands in neither whole image.
pub record IsByChance (asked : Asked) (place : ℕ) : Type 0 where
  pub image : List ℕ
  pub sized : length image ≡ size_of asked.geometry
  pub call : DeviceCall
  pub first : FirstBreak asked.geometry (before_of call image) (after_of call image) image place

-- how many cuts the words and the lines ask for
abbrev pub cuts_of : Asked → List Line → ℕ
cuts_of asked lines = cuts_in (acts_of lines) + armed_cuts (power_by asked.cut)

-- Lines were run in order, up to a mount that found a record by chance: a write had failed behind a cut, and the call that
-- made it is in doubt.
pub record IsStoppedReplay (asked : Asked) (image : List ℕ) (lines : List Line) (entries : List Entry) (place : ℕ) : Type 0 where
  pub last : StoreState
  pub history : IsHistory asked image lines entries last
  pub in_order : StopsInOrder entries lines
  pub in_doubt : is_some last.doubt ≡ true
  pub failed : 1 ≤ write_faults_in entries
  pub cut : 1 ≤ cuts_of asked lines
  pub chance : IsByChance asked place

-- ---- what is printed

abbrev pub text_by : Bool → List Entry → List ℕ
text_by true entries = text_by_client entries
text_by false entries = text_of entries

unfoldable pub chance_line : ℕ → List ℕ
chance_line place = codes "refused: chance at p " ++ decimal place ++ codes "\n"
