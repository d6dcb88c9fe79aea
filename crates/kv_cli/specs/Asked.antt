-- What the words of a command line ask of the program.
use Rattle.std.specs.Prelude.{◌≡◌, ℕ, false, List, Option, Some, None}
use Rattle.flash_core.specs.Sizes.{area_size}
use Rattle.kv_model.specs.Constants.{Constants}
use Rattle.kv_model.specs.Sizes.{room_of}
use Rattle.command_words.specs.Commands.{Session, Means, Replay}
use Rattle.command_words.specs.Shown.{session_in}
use Rattle.command_words.specs.declared.session.Session as declared
use Rattle.script_core.specs.declared.line.PowerCut.{PowerCut}
use Rattle.session_core.specs.Power.{Power, Steady, Armed}

abbrev pub Asked : Type 0
Asked = Session

-- A replay over one image. A replay over two, `run` and the tools are not built.
abbrev pub Asks : List (List ℕ) → Asked → Type 0
Asks words asked = Means words (Replay asked) × (asked.secure ≡ false)

abbrev pub AsksNothing : List (List ℕ) → Type 0
AsksNothing words = (asked : Asked) → Asks words asked → ⊥

-- as contracts see it
abbrev pub asked_in : declared.Session → Asked
asked_in = session_in

-- the constants of the store
abbrev pub constants_of : Asked → Constants
constants_of asked = record {
  hash_bits = asked.hash_bits;
  prog = asked.geometry.prog;
  room = room_of asked.geometry.prog (area_size asked.geometry);
  secure = None;
}

-- a cut of the words is armed before the first line
abbrev pub power_by : Option PowerCut → Power
power_by None = Steady
power_by (Some cut) = Armed
