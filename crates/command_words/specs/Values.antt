-- What the value of an option says.
use Rattle.std.specs.Prelude.{◌≡◌, ℕ, ◌<◌, ◌≤◌, ◌^◌, Bool, true, false, List, [], ◌∷◌, length, Option, Some, None, Result, Ok, Err}
use Rattle.std.specs.Fmt.{decimal}
use Rattle.std.specs.List.{join_with_byte}
use Rattle.hex.specs.Hex.{decode_of}
use Rattle.flash_core.specs.Sizes.{IsValid}
use Rattle.flash_core.specs.declared.geometry.Geometry.{Geometry}
use Rattle.script_core.specs.Grammar.{SpellsCut}
use Rattle.script_core.specs.declared.line.PowerCut.{PowerCut}
use Rattle.command_words.specs.declared.error.WrongWords.{WrongWords}

-- a number of 64 bits, in decimal digits without a leading zero
abbrev pub SpellsNumber : List ℕ → ℕ → Type 0
SpellsNumber word n = (n < 2 ^ 64) × (word ≡ decimal n)

-- the same of 32 bits
abbrev pub SpellsShort : List ℕ → ℕ → Type 0
SpellsShort word n = (n < 2 ^ 32) × (word ≡ decimal n)

-- the program unit, the erase unit and the units of an area, with a colon between each two
abbrev pub SpellsGeometry : List ℕ → Geometry → Type 0
SpellsGeometry word g = IsValid g × (word ≡ join_with_byte 58 (decimal g.prog ∷ decimal g.erase ∷ decimal g.units_per_area ∷ []))

-- 32 hexadecimal digits of either case
abbrev pub SpellsRootKey : List ℕ → List ℕ → Type 0
SpellsRootKey word key = (length word ≡ 32) × (decode_of word ≡ Ok key)

abbrev pub SpellsHashBits : List ℕ → ℕ → Type 0
SpellsHashBits word n = (n ≤ 32) × (word ≡ decimal n)

-- a cut is given
abbrev pub SpellsSomeCut : List ℕ → Option PowerCut → Type 0
SpellsSomeCut word None = ⊥
SpellsSomeCut word (Some cut) = SpellsCut word cut

-- what an option says by the values that it is given: the default where there is none, what the only one says, and
-- nothing where it is given twice
abbrev pub Says : {A : Type 0} → (List ℕ → A → Type 0) → A → List (List ℕ) → A → Type 0
Says Spells default [] value = value ≡ default
Says Spells default (word ∷ []) value = Spells word value
Says Spells default (word ∷ again ∷ words) value = ⊥

-- what each option says, with its default
abbrev pub default_geometry : Geometry
default_geometry = record { prog = 8; erase = 4096; units_per_area = 16 }

abbrev pub default_root_key : List ℕ
default_root_key = 0 ∷ 1 ∷ 2 ∷ 3 ∷ 4 ∷ 5 ∷ 6 ∷ 7 ∷ 8 ∷ 9 ∷ 10 ∷ 11 ∷ 12 ∷ 13 ∷ 14 ∷ 15 ∷ []

abbrev pub SaysGeometry : List (List ℕ) → Geometry → Type 0
SaysGeometry values g = Says SpellsGeometry default_geometry values g

abbrev pub SaysRootKey : List (List ℕ) → List ℕ → Type 0
SaysRootKey values key = Says SpellsRootKey default_root_key values key

abbrev pub SaysVector : List (List ℕ) → ℕ → Type 0
SaysVector values n = Says SpellsNumber 1 values n

abbrev pub SaysHashBits : List (List ℕ) → ℕ → Type 0
SaysHashBits values n = Says SpellsHashBits 32 values n

abbrev pub SaysCut : List (List ℕ) → Option PowerCut → Type 0
SaysCut values cut = Says SpellsSomeCut None values cut

-- whether a flag is given
abbrev pub IsFlag : List (List ℕ) → Bool → Type 0
IsFlag values given = Says (λ word given. given ≡ true) false values given

-- ---- for the readers of the code

-- what a reader returned, seen by view, has the property; where it refused nothing has
abbrev pub Reads : {X Y : Type 0} → (X → Y) → (Y → Type 0) → Result X WrongWords → Type 0
Reads view P (Ok x) = P (view x)
Reads {Y = Y} view P (Err e) = (y : Y) → P y → ⊥

abbrev pub ReadsIt : {X : Type 0} → (X → Type 0) → Result X WrongWords → Type 0
ReadsIt P result = Reads (λ x. x) P result
