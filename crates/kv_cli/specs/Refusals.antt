-- Why a replay is refused where the words or the files are to blame, and the line that is printed then.
use Rattle.std.specs.Prelude.{◌≡◌, ◌≢◌, ◌<◌, ◌⊎◌, ℕ, List, ◌++◌, length, codes, None, Some}
use Rattle.std.specs.Fmt.{decimal}
use Rattle.flash_core.specs.Sizes.{size_of}
use Rattle.kv_host.specs.Contents.{HostContents, file_at}
use Rattle.script_core.specs.declared.line.Line.{Line}
use Rattle.kv_cli.specs.declared.refusal.File.{File}
use Rattle.kv_cli.specs.declared.refusal.File.TheVariants as file
use Rattle.kv_cli.specs.declared.refusal.Refusal.{Refusal}
use Rattle.kv_cli.specs.declared.refusal.Refusal.TheVariants as refusal
use Rattle.kv_cli.specs.Asked.{Asked, Asks}
use Rattle.kv_cli.specs.Inputs.{script_limit, image_limit, IsReadable, IsBadLine, HasScript}

-- ---- the lines

abbrev pub words_line : List ℕ
words_line = codes "refused: words\n"

unfoldable pub bad_line : ℕ → List ℕ
bad_line number = codes "refused: line " ++ decimal number ++ codes "\n"

unfoldable pub absent_line : List ℕ → List ℕ
absent_line name = codes "refused: file " ++ name ++ codes " absent\n"

unfoldable pub over_line : List ℕ → ℕ → List ℕ
over_line name limit = codes "refused: file " ++ name ++ codes " over " ++ decimal limit ++ codes " bytes\n"

unfoldable pub size_line : List ℕ → ℕ → ℕ → List ℕ
size_line name size wanted =
    codes "refused: image " ++ name ++ codes " has " ++ decimal size ++ codes " bytes, not " ++ decimal wanted ++ codes "\n"

-- ---- the causes

-- there is a script
abbrev pub HasSomeScript : Asked → HostContents → Type 0
HasSomeScript asked contents = (lines : List Line) × HasScript asked.names.script contents lines

-- a file of this name is read, up to this limit: the script, and where there is one, the image
abbrev pub IsRead : Asked → HostContents → List ℕ → ℕ → Type 0
IsRead asked contents name limit =
    ((name ≡ asked.names.script) × (limit ≡ script_limit))
    ⊎ (HasSomeScript asked contents × (name ≡ asked.names.primary) × (limit ≡ image_limit))

-- a file that is read is absent
pub record IsAbsent (asked : Asked) (contents : HostContents) (name : List ℕ) : Type 0 where
  pub limit : ℕ
  pub is_read : IsRead asked contents name limit
  pub absent : file_at name contents ≡ None

-- a file that is read is longer than its limit
pub record IsOver (asked : Asked) (contents : HostContents) (name : List ℕ) (limit : ℕ) : Type 0 where
  pub is_read : IsRead asked contents name limit
  pub bytes : List ℕ
  pub there : file_at name contents ≡ Some bytes
  pub over : limit < length bytes

-- the line of this number is to blame that the text is no script
pub record HasBadLine (asked : Asked) (contents : HostContents) (number : ℕ) : Type 0 where
  pub text : List ℕ
  pub readable : IsReadable script_limit asked.names.script contents text
  pub bad : IsBadLine text number

-- there is a script, and the image has this many bytes, which is not the size of the geometry
pub record HasWrongSize (asked : Asked) (contents : HostContents) (size : ℕ) : Type 0 where
  pub script : HasSomeScript asked contents
  pub image : List ℕ
  pub readable : IsReadable image_limit asked.names.primary contents image
  pub size_is : length image ≡ size
  pub wrong : size ≢ size_of asked.geometry

-- ---- by status, each with its line

-- 2
abbrev pub LacksScript : Asked → HostContents → List ℕ → Type 0
LacksScript asked contents line = (number : ℕ) × HasBadLine asked contents number × (line ≡ bad_line number)

-- 3
abbrev pub LacksImage : Asked → HostContents → List ℕ → Type 0
LacksImage asked contents line =
    (size : ℕ) × HasWrongSize asked contents size × (line ≡ size_line asked.names.primary size (size_of asked.geometry))

-- 6
abbrev pub LacksFile : Asked → HostContents → List ℕ → Type 0
LacksFile asked contents line =
    ((name : List ℕ) × IsAbsent asked contents name × (line ≡ absent_line name))
    ⊎ ((name : List ℕ) × (limit : ℕ) × IsOver asked contents name limit × (line ≡ over_line name limit))

-- the words ask for files that give this cause for this line
pub record Gives (Cause : Asked → HostContents → List ℕ → Type 0) (words : List (List ℕ)) (contents : HostContents) (line : List ℕ) : Type 0 where
  pub asked : Asked
  pub asks : Asks words asked
  pub cause : Cause asked contents line

-- ---- of a refusal that the program answers

abbrev pub name_of : Asked → File → List ℕ
name_of asked file.Script = asked.names.script
name_of asked file.Primary = asked.names.primary

abbrev pub limit_of : File → ℕ
limit_of file.Script = script_limit
limit_of file.Primary = image_limit

abbrev pub status_of : Refusal → ℕ
status_of (refusal.BadLine line) = 2
status_of (refusal.WrongSize size) = 3
status_of (refusal.Absent file) = 6
status_of (refusal.TooLong file) = 6

abbrev pub line_of : Asked → Refusal → List ℕ
line_of asked (refusal.BadLine line) = bad_line line
line_of asked (refusal.WrongSize size) = size_line asked.names.primary size (size_of asked.geometry)
line_of asked (refusal.Absent file) = absent_line (name_of asked file)
line_of asked (refusal.TooLong file) = over_line (name_of asked file) (limit_of file)

abbrev pub IsCause : Asked → HostContents → Refusal → Type 0
IsCause asked contents (refusal.BadLine line) = HasBadLine asked contents line
IsCause asked contents (refusal.WrongSize size) = HasWrongSize asked contents size
IsCause asked contents (refusal.Absent file) = IsAbsent asked contents (name_of asked file)
IsCause asked contents (refusal.TooLong file) = IsOver asked contents (name_of asked file) (limit_of file)
