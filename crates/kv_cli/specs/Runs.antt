-- How a session is opened for a replay, and how it is closed behind it.
use Rattle.std.specs.Prelude.{◌≡◌, ◌≤◌, ℕ, Bool, List, [], ◌++◌, length, Option, Some}
use Rattle.std.specs.Option.{ForSome}
use Rattle.flash_core.specs.Runs.{Done}
use Rattle.flash_core.specs.Sizes.{IsValid, size_of}
use Rattle.kv_host.specs.Contents.{HostContents}
use Rattle.kv_model.specs.declared.call.Entry.{Entry}
use Rattle.kv_model.specs.FlaggedMap.{FlaggedMap}
use Rattle.kv_model.specs.Opening.{Log}
use Rattle.record_core.specs.Mounts.{Mounts}
use Rattle.script_core.specs.declared.line.Line.{Line}
use Rattle.script_core.specs.declared.line.Side.TheVariants.{Primary}
use Rattle.session_core.specs.declared.session.Session.{Session}
use Rattle.session_core.specs.Power.{HasPower}
use Rattle.session_core.specs.Settling.{IsSessionChance}
use Rattle.session_core.specs.Telling.{HasLog, IsLogIn}
use Rattle.session_core.specs.Views.{primary_in, state_in}
use Rattle.tdb_mount.specs.Format.{Leaves}
use Rattle.kv_cli.specs.declared.run.RunEnd.{RunEnd}
use Rattle.kv_cli.specs.declared.run.RunEnd.TheVariants as end
use Rattle.kv_cli.specs.Asked.{Asked, constants_of, power_by}
use Rattle.kv_cli.specs.Outcomes.{Around, AreRead, IsFinished, IsPrinted, Left}
use Rattle.kv_cli.specs.Replays.{IsLeftBy, IsReplayOf, IsStoppedReplay, chance_line, first_state, text_by}

-- what the words ask for can be done: the geometry is valid, and a cut is one of the primary chip
pub record CanRun (asked : Asked) : Type 0 where
  pub valid : IsValid asked.geometry
  pub bits : asked.hash_bits ≤ 32
  pub cut : ForSome asked.cut (λ cut. (1 ≤ cut.n) × (cut.side ≡ Primary))

-- A session over this image, with the cut of the words armed.
pub record IsOpened (asked : Asked) (image : List ℕ) (session : Session) : Type 0 where
  pub geometry : (primary_in session).geometry ≡ asked.geometry
  pub constants : (state_in session).known.constants ≡ constants_of asked
  pub map : FlaggedMap
  pub mounts : Mounts asked.geometry image map
  pub told : (state_in session).known.state ≡ Some (first_state map)
  pub power : HasPower (state_in session) (power_by asked.cut)
  pub leaves : Leaves asked.geometry image (primary_in session).image Done
  pub log : Log
  pub holds : HasLog (primary_in session) (state_in session) log

-- an image that the session left, whose map is that of its state; where an area of the session's image is valid, that
-- image
pub record IsImageOf (session : Session) (image : List ℕ) : Type 0 where
  pub sized : length image ≡ size_of (primary_in session).geometry
  pub map : FlaggedMap
  pub mounts : Mounts (primary_in session).geometry image map
  pub left : ForSome (state_in session).known.state (λ last. IsLeftBy (state_in session).known.constants last map)
  pub stays : (log : Log) → IsLogIn (primary_in session).geometry (primary_in session).image log → image ≡ (primary_in session).image

-- how a session was closed
abbrev pub Closes : Session → RunEnd → Type 0
Closes session (end.Image image) = IsImageOf session image.items
Closes session (end.Chance place) = IsSessionChance session (Some (Primary, place))

-- how a replay of these lines over this image ended
abbrev pub IsRunOf : Asked → List ℕ → List Line → List Entry → RunEnd → Type 0
IsRunOf asked image lines entries (end.Image written) = IsReplayOf asked image lines entries written.items
IsRunOf asked image lines entries (end.Chance place) = IsStoppedReplay asked image lines entries place

-- how a replay of what was read ended
pub record IsMade (asked : Asked) (told : Option HostContents) (entries : List Entry) (end : RunEnd) : Type 0 where
  pub lines : List Line
  pub image : List ℕ
  pub read : AreRead asked told lines image
  pub run : IsRunOf asked image lines entries end

-- what is printed of a replay
abbrev pub printed_by : Bool → List Entry → RunEnd → List ℕ
printed_by by_client entries (end.Image image) = text_by by_client entries
printed_by by_client entries (end.Chance place) = text_by by_client entries ++ chance_line place

-- how many bytes are written
abbrev pub size_in : RunEnd → ℕ
size_in (end.Image image) = length image.items
size_in (end.Chance place) = 0

-- how the work ended, once the calls were made
abbrev pub EndsRun : Asked → RunEnd → List ℕ → Around → Left → Type 0
EndsRun asked (end.Image image) text a left = IsFinished asked image.items text a left
EndsRun asked (end.Chance place) text a left = (left.written ≡ []) × IsPrinted text 5 a left.status
