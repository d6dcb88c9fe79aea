-- What the program answers, status by status.
use Rattle.std.specs.Prelude.{◌≡◌, ◌≢◌, ◌≤◌, ◌⊎◌, ◌+◌, ℕ, List, [], ◌++◌, length, take, Option, Some, IfSome, MatchOption}
use Rattle.std.specs.Option.{option_map}
use Rattle.base_core.specs.Counts.{Rose}
use Rattle.flash_core.specs.declared.geometry.Geometry.{Geometry}
use Rattle.flash_core.specs.Sizes.{size_of}
use Rattle.kv_host.specs.Contents.{HostContents, with_file, with_printed}
use Rattle.kv_host.specs.Refusal.{ReadRefusal}
use Rattle.kv_host.specs.declared.interface.HostFault.{HostFault}
use Rattle.kv_host.specs.declared.interface.HostFault.TheVariants as fault
use Rattle.kv_model.specs.declared.call.Entry.{Entry}
use Rattle.script_core.specs.declared.line.Line.{Line}
use Rattle.script_core.specs.Grammar.{IsScript}
use Rattle.kv_cli.specs.declared.refusal.File.{File}
use Rattle.kv_cli.specs.declared.refusal.Refusal.{Refusal}
use Rattle.kv_cli.specs.declared.refusal.Refusal.TheVariants as refusal
use Rattle.kv_cli.specs.declared.stop.Stop.{Stop}
use Rattle.kv_cli.specs.declared.stop.Stop.TheVariants as stop
use Rattle.kv_cli.specs.Asked.{Asked, Asks, AsksNothing}
use Rattle.kv_cli.specs.Inputs.{GivesReplay, HasInputs, IsBadLine, plain_replay}
use Rattle.kv_cli.specs.Refusals.{words_line, Gives, LacksScript, LacksImage, LacksFile, HasSomeScript, limit_of, status_of, line_of, IsCause}
use Rattle.kv_cli.specs.Replays.{IsReplayOf, IsStoppedReplay, chance_line, cuts_of, text_by}

-- a host before and behind a call: what it tells, and its count of faults
pub record Around : Type 0 where
  pub told : Option HostContents
  pub left : Option HostContents
  pub faults : ℕ
  pub later : ℕ

abbrev pub around : {H : Type 0} → (H → Option HostContents) → (H → ℕ) → H → H → Around
around contents faults old new = record { told = contents old; left = contents new; faults = faults old; later = faults new }

-- what the work leaves: a status, the history, and the bytes that were written
pub record Left : Type 0 where
  pub status : ℕ
  pub entries : List Entry
  pub written : List ℕ

abbrev pub ends_with : ℕ → List Entry → List ℕ → Left
ends_with status entries written = record { status = status; entries = entries; written = written }

-- ---- what tool answers

-- the history and the image are a replay of what the words and files give
pub record Replays (words : List (List ℕ)) (contents : HostContents) (entries : List Entry) (written : List ℕ) : Type 0 where
  pub gives : GivesReplay words contents
  pub replay : IsReplayOf gives.asked gives.image gives.lines entries written

-- the history is that of a replay of them which a record by chance stopped
pub record StopsByChance (words : List (List ℕ)) (contents : HostContents) (entries : List Entry) : Type 0 where
  pub gives : GivesReplay words contents
  pub place : ℕ
  pub replay : IsStoppedReplay gives.asked gives.image gives.lines entries place

-- the text of a history, and behind it the line of a record by chance
abbrev pub chance_text : Asked → List Entry → ℕ → List ℕ
chance_text asked entries place = text_by asked.by_client entries ++ chance_line place

-- the image was written, and the text printed
abbrev pub IsDone : List (List ℕ) → HostContents → Option HostContents → Left → Type 0
IsDone words contents left end = (replays : Replays words contents end.entries end.written)
    × (left ≡ Some (with_printed (text_by replays.gives.asked.by_client end.entries) (with_file replays.gives.asked.names.primary end.written contents)))

-- no file was written, and the text and the line were printed
abbrev pub IsByChance : List (List ℕ) → HostContents → Option HostContents → Left → Type 0
IsByChance words contents left end = (stops : StopsByChance words contents end.entries)
    × (end.written ≡ []) × (left ≡ Some (with_printed (chance_text stops.gives.asked end.entries stops.place) contents))

-- this cause came, and its line was printed behind what was there
abbrev pub PrintsLine : (Asked → HostContents → List ℕ → Type 0) → List (List ℕ) → HostContents → Option HostContents → Type 0
PrintsLine Cause words contents left = (line : List ℕ) × Gives Cause words contents line × (left ≡ Some (with_printed line contents))

-- the words and the files give this line of a refusal
abbrev pub GivesLine : List (List ℕ) → HostContents → List ℕ → Type 0
GivesLine words contents line =
    (AsksNothing words × (line ≡ words_line))
    ⊎ Gives LacksScript words contents line
    ⊎ Gives LacksImage words contents line
    ⊎ Gives LacksFile words contents line

-- what is told now is what was there, and a prefix of these bytes printed behind it
abbrev pub IsPartlyPrinted : List ℕ → HostContents → Option HostContents → Type 0
IsPartlyPrinted bytes contents left = (n : ℕ) × (left ≡ Some (with_printed (take n bytes) contents))

-- no history stands, and no image
abbrev pub IsNothing : Left → Type 0
IsNothing end = (end.entries ≡ []) × (end.written ≡ [])

-- A call of the host failed: before a history stood, when nothing was printed or a prefix of a refusal; when the image of
-- a history was to be written, and nothing changed; or when a history was printed, of which a prefix stands.
abbrev pub IsCutShort : List (List ℕ) → HostContents → Option HostContents → Left → Type 0
IsCutShort words contents left end =
    (IsNothing end × (left ≡ Some contents))
    ⊎ (IsNothing end × ((line : List ℕ) × GivesLine words contents line × IsPartlyPrinted line contents left))
    ⊎ ((end.written ≡ []) × (left ≡ Some contents) × ((unwritten : List ℕ) × Replays words contents end.entries unwritten))
    ⊎ ((replays : Replays words contents end.entries end.written)
    × IsPartlyPrinted (text_by replays.gives.asked.by_client end.entries) (with_file replays.gives.asked.names.primary end.written contents) left)
    ⊎ ((end.written ≡ []) × ((stops : StopsByChance words contents end.entries)
    × IsPartlyPrinted (chance_text stops.gives.asked end.entries stops.place) contents left))

-- the status is this one, unless a fault or want of memory came
abbrev pub IsUnlessHindered : ℕ → ℕ → Type 0
IsUnlessHindered expected status = status ≢ 4 → status ≢ 9 → status ≡ expected

-- the same of a replay of these lines, which a record by chance may stop where a cut is asked for
abbrev pub IsReplayedUnlessHindered : Asked → List Line → ℕ → Type 0
IsReplayedUnlessHindered asked lines status = status ≢ 4 → status ≢ 9 → (status ≡ 0) ⊎ ((status ≡ 5) × (1 ≤ cuts_of asked lines))

-- a host in memory takes the name
abbrev pub IsShort : List ℕ → Type 0
IsShort word = length word ≤ 64

-- A host in memory has room for what may be written and printed.
pub record IsRoomFor (words : List (List ℕ)) (entries : List Entry) (room : ℕ) : Type 0 where
  pub line : 160 ≤ room
  pub replay : (asked : Asked) → Asks words asked → IsShort asked.names.primary × IsShort asked.names.script
      × (size_of asked.geometry + length (text_by asked.by_client entries) + 160 ≤ room)

-- ---- what the parts of tool answer

-- the script and the image that were read
abbrev pub AreRead : Asked → Option HostContents → List Line → List ℕ → Type 0
AreRead asked told lines image = IfSome told (λ contents. HasInputs asked contents lines image)

-- the entries and the image are a replay of what was read
pub record IsReplayed (asked : Asked) (told : Option HostContents) (entries : List Entry) (written : List ℕ) : Type 0 where
  pub lines : List Line
  pub image : List ℕ
  pub read : AreRead asked told lines image
  pub replay : IsReplayOf asked image lines entries written

-- the entries are a replay of what was read that a record by chance stopped
pub record IsStopped (asked : Asked) (told : Option HostContents) (entries : List Entry) (place : ℕ) : Type 0 where
  pub lines : List Line
  pub image : List ℕ
  pub read : AreRead asked told lines image
  pub replay : IsStoppedReplay asked image lines entries place

-- why a part stopped, where this is why a refusal comes
abbrev pub Stops : (Refusal → Type 0) → ℕ → ℕ → Stop → Type 0
Stops Cause before after (stop.Refused refusal) = Cause refusal
Stops Cause before after stop.Fault = Rose before after
Stops Cause before after stop.Memory = Unit {0}

-- over a host that tells nothing a file is refused only where its count rose
abbrev pub IsCounted : ℕ → ℕ → Refusal → Type 0
IsCounted before after (refusal.Absent file) = Rose before after
IsCounted before after (refusal.TooLong file) = Rose before after
IsCounted before after refusal = Unit {0}

-- why the files are to blame: the cause where the host tells, else what its count says
abbrev pub Blames : (HostContents → Refusal → Type 0) → Around → Refusal → Type 0
Blames Cause a refusal = MatchOption a.told (IsCounted a.faults a.later refusal) (λ contents. Cause contents refusal)

-- what a refusal of the host stops with
abbrev pub stop_of : File → HostFault → Stop
stop_of file fault.Fault = stop.Fault
stop_of file (fault.TooLong length) = stop.Refused (refusal.TooLong file)
stop_of file fault.Absent = stop.Refused (refusal.Absent file)
stop_of file fault.Memory = stop.Memory

-- why reading a file stopped
abbrev pub StopsAtFile : File → List ℕ → Around → Stop → Type 0
StopsAtFile file name a stop = (fault : HostFault) × ReadRefusal a.told name (limit_of file) a.faults a.later fault × (stop ≡ stop_of file fault)

-- why reading a text as a script stopped: where there was no memory it is a script
abbrev pub StopsAtText : List ℕ → Stop → Type 0
StopsAtText text (stop.Refused (refusal.BadLine line)) = IsBadLine text line
StopsAtText text stop.Memory = (lines : List Line) × IsScript plain_replay text lines
StopsAtText text _ = ⊥

-- why reading bytes as the image of a geometry stopped
abbrev pub StopsAtSize : Geometry → List ℕ → Stop → Type 0
StopsAtSize g image why = (why ≡ stop.Refused (refusal.WrongSize (length image))) × (length image ≢ size_of g)

-- why reading the script stopped
abbrev pub StopsAtScript : List ℕ → Around → Stop → Type 0
StopsAtScript name a stop =
    Stops (Blames (λ contents refusal. (asked : Asked) → asked.names.script ≡ name → IsCause asked contents refusal) a) a.faults a.later stop

-- why reading the image stopped
abbrev pub StopsAtImage : Asked → Around → Stop → Type 0
StopsAtImage asked a stop =
    Stops (Blames (λ contents refusal. HasSomeScript asked contents → IsCause asked contents refusal) a) a.faults a.later stop

-- why a replay stopped
abbrev pub StopsFor : Asked → Around → Stop → Type 0
StopsFor asked a stop = Stops (Blames (IsCause asked) a) a.faults a.later stop

-- the bytes were printed, and the status is the one for that; or printing them failed, and it is 4
abbrev pub IsPrinted : List ℕ → ℕ → Around → ℕ → Type 0
IsPrinted bytes done a status =
    ((status ≡ done) × (a.left ≡ option_map (with_printed bytes) a.told))
    ⊎ ((status ≡ 4) × Rose a.faults a.later × ((n : ℕ) × (a.left ≡ option_map (with_printed (take n bytes)) a.told)))

-- what a stop is answered with
abbrev pub IsRefused : Asked → Stop → Around → ℕ → Type 0
IsRefused asked (stop.Refused refusal) a status =
    IsPrinted (line_of asked refusal) (status_of refusal) a status ⊎ ((status ≡ 9) × (a.left ≡ a.told))
IsRefused asked stop.Fault a status = (status ≡ 4) × (a.left ≡ a.told)
IsRefused asked stop.Memory a status = (status ≡ 9) × (a.left ≡ a.told)

-- the host with a file written to it before the call
abbrev pub behind_file : List ℕ → List ℕ → Around → Around
behind_file name bytes a = record a { told = option_map (with_file name bytes) a.told }

-- The image was written, and then the text printed; or writing failed, and nothing was.
abbrev pub IsFinished : Asked → List ℕ → List ℕ → Around → Left → Type 0
IsFinished asked image text a end =
    ((end.status ≡ 4) × (end.written ≡ []) × Rose a.faults a.later × (a.left ≡ a.told))
    ⊎ ((end.written ≡ image) × IsPrinted text 0 (behind_file asked.names.primary image a) end.status)

-- how the work on these files ended
abbrev pub HasEndedFor : Asked → Around → Left → Type 0
HasEndedFor asked a end =
    ((image : List ℕ) × IsReplayed asked a.told end.entries image × IsFinished asked image (text_by asked.by_client end.entries) a end)
    ⊎ ((place : ℕ) × IsStopped asked a.told end.entries place × (end.written ≡ []) × IsPrinted (chance_text asked end.entries place) 5 a end.status)
    ⊎ (IsNothing end × ((stop : Stop) × StopsFor asked a stop × IsRefused asked stop a end.status))

-- how the work ended
abbrev pub HasEnded : List (List ℕ) → Around → Left → Type 0
HasEnded words a end =
    (AsksNothing words × IsNothing end × IsPrinted words_line 1 a end.status)
    ⊎ ((asked : Asked) × Asks words asked × HasEndedFor asked a end)
