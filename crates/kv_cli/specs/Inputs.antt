-- What the words and the files give.
use Rattle.std.specs.Prelude.{◌≡◌, ◌≤◌, ◌⊎◌, ℕ, false, List, length, Some}
use Rattle.flash_core.specs.Sizes.{size_of}
use Rattle.kv_host.specs.Contents.{HostContents, file_at}
use Rattle.script_core.specs.declared.line.Line.{Line}
use Rattle.script_core.specs.declared.script.ScriptMode.{ScriptMode}
use Rattle.script_core.specs.Grammar.{IsScript, IsFirstBad, IsOneTooMany}
use Rattle.kv_cli.specs.Asked.{Asked, Asks}

-- the most bytes of a script, and of an image
abbrev pub script_limit : ℕ
script_limit = 2097152

abbrev pub image_limit : ℕ
image_limit = 16777216

-- a file of this name has these bytes, and no more than the limit
pub record IsReadable (limit : ℕ) (name : List ℕ) (contents : HostContents) (bytes : List ℕ) : Type 0 where
  pub there : file_at name contents ≡ Some bytes
  pub fits : length bytes ≤ limit

-- ---- the script

-- in file order, over a plain store
abbrev pub plain_replay : ScriptMode
plain_replay = record { threads = false; secure = false }

-- the file of this name is the text of these lines
pub record HasScript (name : List ℕ) (contents : HostContents) (lines : List Line) : Type 0 where
  pub text : List ℕ
  pub readable : IsReadable script_limit name contents text
  pub script : IsScript plain_replay text lines

-- the line of this number is to blame that the text is no script: the first that is not of the grammar, or one too many
abbrev pub IsBadLine : List ℕ → ℕ → Type 0
IsBadLine text number = IsFirstBad plain_replay text number ⊎ IsOneTooMany plain_replay text number

-- ---- the image

-- the file that the words name has these bytes, as many as their geometry says
pub record HasImage (asked : Asked) (contents : HostContents) (image : List ℕ) : Type 0 where
  pub readable : IsReadable image_limit asked.names.primary contents image
  pub sized : length image ≡ size_of asked.geometry

-- ---- both

-- the files that the words name are a script of these lines, and this image
pub record HasInputs (asked : Asked) (contents : HostContents) (lines : List Line) (image : List ℕ) : Type 0 where
  pub has_script : HasScript asked.names.script contents lines
  pub has_image : HasImage asked contents image

-- the words and the files give a replay
pub record GivesReplay (words : List (List ℕ)) (contents : HostContents) : Type 0 where
  pub asked : Asked
  pub asks : Asks words asked
  pub lines : List Line
  pub image : List ℕ
  pub inputs : HasInputs asked contents lines image
