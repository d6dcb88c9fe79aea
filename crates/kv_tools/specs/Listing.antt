-- Texts with a line for each key of the map to which an image mounts.
use Rattle.std.specs.Prelude.{◌≡◌, ℕ, ◌≤◌, if◌then◌else◌, List, ◌++◌, length, map, All, codes}
use Rattle.std.specs.Fmt.{decimal}
use Rattle.std.specs.List.{flat_map}
use Rattle.flash_core.specs.declared.geometry.Geometry.{Geometry}
use Rattle.flash_core.specs.Sizes.{area_size}
use Rattle.kv_model.specs.declared.call.Call.TheVariants.{Set}
use Rattle.kv_model.specs.Flags.{is_write_once}
use Rattle.kv_model.specs.FlaggedMap.{FlaggedMap}
use Rattle.kv_model.specs.LogStep.{AreLive}
use Rattle.kv_model.specs.Sizes.{room_of, used}
use Rattle.kv_model.specs.Write.{Write}
use Rattle.record_core.specs.Mounts.{Mounts}
use Rattle.script_core.specs.declared.line.Act.TheVariants.{Do}
use Rattle.script_core.specs.declared.line.Line.{Line}
use Rattle.script_core.specs.declared.script.ScriptMode.{ScriptMode}
use Rattle.script_core.specs.Grammar.{IsScript, Spells, canonical, most_lines}
use Rattle.kv_tools.specs.Replaying.{CanSet}

-- a letter where the key is write-once, else a dash
abbrev pub flags_end : ℕ → List ℕ
flags_end flags = if is_write_once flags then codes " w\n" else codes " -\n"

abbrev pub key_text : List ℕ → ℕ → ℕ → List ℕ
key_text key size flags = key ++ (codes " " ++ decimal size) ++ flags_end flags

-- the key of a record, the size of its value, and its flags
abbrev pub key_line : Write → List ℕ
key_line r = key_text r.key (length r.value) r.flags

-- the line of a script by which client 1 sets a record's key to its value
abbrev pub set_of : Write → Line
set_of r = record { who = 1; act = Do (Set r.key r.value (record { bits = r.flags })) }

-- its canonical spelling
abbrev pub set_line : Write → List ℕ
set_line r = canonical (set_of r) ++ codes "\n"

-- that spells the set
unfoldable pub IsSpelled : Write → Type 0
IsSpelled r = Spells (canonical (set_of r)) (set_of r)

-- The text has a line for each key of the map to which an image mounts, in the order of keys: that of the record by which
-- the key has its value.
pub record HasLines (line : Write → List ℕ) (g : Geometry) (hash_bits : ℕ) (image text : List ℕ) : Type 0 where
  pub of : FlaggedMap
  pub mounts : Mounts g image of
  pub live : List Write
  pub are : AreLive hash_bits of live
  pub text_is : text ≡ flat_map line live

-- The text has the line of a set for each key, and where these are no more than a script may have, it is the script of
-- these sets. A plain store of the same areas has the room for all of them.
pub record IsDumpOf (g : Geometry) (hash_bits : ℕ) (image text : List ℕ) : Type 0 where
  pub sets : HasLines set_line g hash_bits image text
  pub can : All CanSet sets.live
  pub fits : used g.prog sets.of ≤ room_of g.prog (area_size g)
  pub parses : (mode : ScriptMode) → length sets.live ≤ most_lines → IsScript mode text (map set_of sets.live)
