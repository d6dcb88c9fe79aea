-- The commands of the program, as the words of a command line say them.
use Rattle.std.specs.Prelude.{◌≡◌, ℕ, ◌<◌, ◌≤◌, ◌^◌, Bool, true, false, not, ◌&&◌, if◌then◌else◌, IsTrue, List, [], ◌∷◌, codes, Option, Some, None}
use Rattle.std.specs.Fmt.{decimal}
use Rattle.std.specs.Str.{bytes_eq}
use Rattle.flash_core.specs.declared.geometry.Geometry.{Geometry}
use Rattle.script_core.specs.declared.line.PowerCut.{PowerCut}
use Rattle.script_core.specs.declared.line.Side.{Side}
use Rattle.script_core.specs.declared.line.Side.TheVariants.{Primary, Rollback}
use Rattle.command_words.specs.declared.option_name.OptionName.{OptionName}
use Rattle.command_words.specs.declared.option_name.OptionName.TheVariants as option
use Rattle.command_words.specs.declared.tools.Tool.{Tool}
use Rattle.command_words.specs.declared.tools.Tool.TheVariants as tool
use Rattle.command_words.specs.Items.{Item, session_options, image_options, listing_options, items_of, all_known, words_of, values_of}
use Rattle.command_words.specs.Values.{default_geometry, default_root_key, SaysGeometry, SaysRootKey, SaysVector, SaysHashBits, SaysCut, IsFlag}

-- the files
pub record Names : Type 0 where
  pub primary : List ℕ
  pub rollback : List ℕ
  pub script : List ℕ

-- what `run` and `replay` are asked for
pub record Session : Type 0 where
  pub names : Names
  pub geometry : Geometry
  pub rollback_geometry : Geometry
  pub root_key : List ℕ
  pub first_vector : ℕ
  pub hash_bits : ℕ
  pub cut : Option PowerCut
  pub secure : Bool
  pub by_client : Bool

abbrev pub is_primary : Side → Bool
is_primary Primary = true
is_primary Rollback = false

abbrev pub cuts_primary : Option PowerCut → Bool
cuts_primary None = true
cuts_primary (Some cut) = is_primary cut.side

-- without a rollback store its image is a dash, and none cuts it; with one its image is another file than the primary one
abbrev pub fits_mode : Session → Bool
fits_mode s =
    if s.secure then not (bytes_eq s.names.rollback (codes "-")) && not (bytes_eq s.names.rollback s.names.primary)
    else bytes_eq s.names.rollback (codes "-") && cuts_primary s.cut

abbrev pub AreNames : List (List ℕ) → Names → Type 0
AreNames words names = words ≡ names.primary ∷ names.rollback ∷ names.script ∷ []

-- these items say the session
pub record AreOf (items : List Item) (s : Session) : Type 0 where
  pub known : IsTrue (all_known items)
  pub names : AreNames (words_of items) s.names
  pub geometry : SaysGeometry (values_of option.PrimaryGeometry items) s.geometry
  pub rollback_geometry : SaysGeometry (values_of option.RollbackGeometry items) s.rollback_geometry
  pub root_key : SaysRootKey (values_of option.RootKey items) s.root_key
  pub first_vector : SaysVector (values_of option.FirstVector items) s.first_vector
  pub hash_bits : SaysHashBits (values_of option.HashBits items) s.hash_bits
  pub cut : SaysCut (values_of option.Cut items) s.cut
  pub secure : IsFlag (values_of option.Secure items) s.secure
  pub by_client : IsFlag (values_of option.ByClient items) s.by_client
  pub mode : IsTrue (fits_mode s)

-- how a tool is called
abbrev pub tool_word : Tool → List ℕ
tool_word tool.Format = codes "format"
tool_word tool.List = codes "list"
tool_word tool.Check = codes "check"
tool_word tool.Dump = codes "dump"

-- the tool of this name
abbrev pub tool_named : List ℕ → Option Tool
tool_named word =
    if bytes_eq word (tool_word tool.Format) then Some tool.Format
    else if bytes_eq word (tool_word tool.List) then Some tool.List
    else if bytes_eq word (tool_word tool.Check) then Some tool.Check
    else if bytes_eq word (tool_word tool.Dump) then Some tool.Dump
    else None

-- the image that a tool works on; the bits of a hash are 32 for a tool that shows no keys
pub record OneImage : Type 0 where
  pub file : List ℕ
  pub geometry : Geometry
  pub hash_bits : ℕ

-- these items say the image
pub record AreOfImage (items : List Item) (i : OneImage) : Type 0 where
  pub known : IsTrue (all_known items)
  pub file : words_of items ≡ i.file ∷ []
  pub geometry : SaysGeometry (values_of option.PrimaryGeometry items) i.geometry
  pub hash_bits : SaysHashBits (values_of option.HashBits items) i.hash_bits

-- a script that is drawn from a number
pub record Drawing : Type 0 where
  pub seed : ℕ
  pub clients : ℕ
  pub calls : ℕ

-- these items say the script
pub record AreOfDrawing (items : List Item) (d : Drawing) : Type 0 where
  pub known : IsTrue (all_known items)
  pub words : words_of items ≡ decimal d.seed ∷ decimal d.clients ∷ decimal d.calls ∷ []
  pub seed : d.seed < 2 ^ 32
  pub clients : (1 ≤ d.clients) × (d.clients ≤ 16)
  pub calls : (1 ≤ d.calls) × (d.calls ≤ 8192)

pub data Command : Type 0 where
  -- each client on a thread of its own
  Run : Session → Command
  -- in the order of the script
  Replay : Session → Command
  -- a tool over one image
  Use : Tool → OneImage → Command
  -- a script is drawn and replayed
  Generate : Drawing → Command

-- what a command is called, which options it has, and what its items say
abbrev pub word_for : Command → List ℕ
word_for (Run s) = codes "run"
word_for (Replay s) = codes "replay"
word_for (Use t image) = tool_word t
word_for (Generate drawing) = codes "gen"

abbrev pub tool_options : Tool → List OptionName
tool_options tool.Format = image_options
tool_options tool.List = listing_options
tool_options tool.Check = image_options
tool_options tool.Dump = listing_options

abbrev pub options_for : Command → List OptionName
options_for (Run s) = session_options
options_for (Replay s) = session_options
options_for (Use t image) = tool_options t
options_for (Generate drawing) = []

abbrev pub SaysCommand : List Item → Command → Type 0
SaysCommand items (Run s) = AreOf items s
SaysCommand items (Replay s) = AreOf items s
SaysCommand items (Use t image) = AreOfImage items image
SaysCommand items (Generate drawing) = AreOfDrawing items drawing

-- what the words of a command line mean; at most one command, and none where the words are wrong
abbrev pub Means : List (List ℕ) → Command → Type 0
Means [] command = ⊥
Means (word ∷ words) command = (word ≡ word_for command) × SaysCommand (items_of (options_for command) words) command

-- ---- for the laws

-- plain, with the default of each option
abbrev pub plain_session : List ℕ → List ℕ → Session
plain_session primary script = record {
  names = record { primary = primary; rollback = codes "-"; script = script };
  geometry = default_geometry;
  rollback_geometry = default_geometry;
  root_key = default_root_key;
  first_vector = 1;
  hash_bits = 32;
  cut = None;
  secure = false;
  by_client = false;
}
