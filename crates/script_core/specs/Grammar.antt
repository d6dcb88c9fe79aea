-- The texts that are scripts.
use Rattle.std.specs.Prelude.{◌≡◌, ℕ, ◌+◌, ◌^◌, ◌<◌, ◌≤◌, ◌⊎◌, Bool, true, false, not, ◌&&◌, ◌==◌, nat_le, if◌then◌else◌, IsTrue, MatchBool, List, [], ◌∷◌, ◌++◌, length, All, codes, Ok}
use Rattle.std.specs.List.{list_all, slice_split, join_with_byte}
use Rattle.std.specs.Fmt.{decimal}
use Rattle.hex.specs.Hex.{decode_of, encode_lower}
use Rattle.kv_model.specs.declared.call.Call.TheVariants as call
use Rattle.kv_model.specs.declared.pattern.Pattern.{Pattern}
use Rattle.kv_model.specs.declared.pattern.Pattern.TheVariants as pattern
use Rattle.kv_model.specs.Flags.{is_write_once, is_confidential, is_replay_protected}
use Rattle.script_core.specs.declared.line.Act.{Act}
use Rattle.script_core.specs.declared.line.Act.TheVariants.{Do, Cut}
use Rattle.script_core.specs.declared.line.Side.{Side}
use Rattle.script_core.specs.declared.line.Side.TheVariants.{Primary, Rollback}
use Rattle.script_core.specs.declared.line.Line.{Line}
use Rattle.script_core.specs.declared.line.PowerCut.{PowerCut}
use Rattle.script_core.specs.declared.script.ScriptMode.{ScriptMode}

-- ---- the words of a line

abbrev pub is_printing : ℕ → Bool
is_printing b = nat_le 0x21 b && nat_le b 0x7E

-- a word that may stand for a key; whether it is a key is for the store to say
unfoldable pub is_key_word : List ℕ → Bool
is_key_word word = nat_le 1 (length word) && nat_le (length word) 255 && list_all is_printing word

-- a word for bytes: a dash for none, or two hexadecimal digits of either case for each
unfoldable pub IsHexWord : List ℕ → List ℕ → Type 0
IsHexWord word value = ((word ≡ codes "-") × (value ≡ [])) ⊎ ((2 ≤ length word) × (decode_of word ≡ Ok value))

-- the bits of some of the three flags
abbrev pub flag_bits : Bool → Bool → Bool → ℕ
flag_bits write_once confidential replay_protected = (if write_once then 1 else 0) + (if confidential then 2 else 0) + (if replay_protected then 8 else 0)

abbrev pub IsFlagBits : ℕ → Type 0
IsFlagBits bits = (write_once confidential replay_protected : Bool) × (bits ≡ flag_bits write_once confidential replay_protected)

-- a dash for no flags, or a letter for each, in this order
unfoldable pub flags_word : ℕ → List ℕ
flags_word bits =
    if bits == 0 then codes "-"
    else (if is_write_once bits then codes "w" else []) ++ (if is_confidential bits then codes "c" else []) ++ (if is_replay_protected bits then codes "r" else [])

-- a word that ends with a star, and the prefix of keys that it stands for: what stands before this last star
abbrev pub prefix_word : List ℕ → List ℕ
prefix_word prefix = prefix ++ codes "*"

unfoldable pub is_prefix : List ℕ → Bool
is_prefix prefix = nat_le (length prefix) 255 && list_all is_printing prefix

-- numbers of a script
abbrev pub IsNumber : ℕ → Type 0
IsNumber n = n < 2 ^ 32

abbrev pub side_letter : Side → List ℕ
side_letter Primary = codes "p"
side_letter Rollback = codes "r"

-- the words of a pattern
abbrev pub pattern_words : Pattern → List (List ℕ)
pattern_words pattern.None = codes "none" ∷ []
pattern_words pattern.Half = codes "half" ∷ []
pattern_words pattern.Zero = codes "zero" ∷ []
pattern_words pattern.All = codes "all" ∷ []
pattern_words (pattern.Mix seed) = codes "mix" ∷ decimal seed ∷ []

abbrev pub IsPattern : Pattern → Type 0
IsPattern (pattern.Mix seed) = IsNumber seed
IsPattern _ = Unit {0}

-- side, number and pattern of a cut, with one colon between each two
unfoldable pub cut_word : Side → ℕ → Pattern → List ℕ
cut_word side n torn = join_with_byte 58 (side_letter side ∷ decimal n ∷ pattern_words torn)

-- ---- one line

-- what a line may ask for
abbrev pub IsAct : Act → Type 0
IsAct (Do (call.Get key)) = IsTrue (is_key_word key)
IsAct (Do (call.Part key offset count)) = IsTrue (is_key_word key) × IsNumber offset × IsNumber count
IsAct (Do (call.Info key)) = IsTrue (is_key_word key)
IsAct (Do (call.Set key value flags)) = IsTrue (is_key_word key) × IsFlagBits flags.bits
IsAct (Do (call.Remove key)) = IsTrue (is_key_word key)
IsAct (Do (call.Start key size flags)) = IsTrue (is_key_word key) × IsNumber size × IsFlagBits flags.bits
IsAct (Do (call.Add value)) = Unit {0}
IsAct (Do call.Finish) = Unit {0}
IsAct (Do call.Abort) = Unit {0}
IsAct (Do (call.IterOpen n prefix)) = (n ≤ 255) × IsTrue (is_prefix prefix)
IsAct (Do (call.Next n)) = n ≤ 255
IsAct (Do (call.IterClose n)) = n ≤ 255
IsAct (Do call.Reset) = Unit {0}
IsAct (Do call.Mount) = Unit {0}
IsAct (Cut side n torn) = (1 ≤ n) × IsNumber n × IsPattern torn

-- one word is the cut
abbrev pub SpellsCut : List ℕ → PowerCut → Type 0
SpellsCut word cut = IsAct (Cut cut.side cut.n cut.pattern) × (word ≡ cut_word cut.side cut.n cut.pattern)

-- who may ask for it: a client, but caller 0 for a mount and a cut
abbrev pub IsCaller : ℕ → Act → Type 0
IsCaller who (Do call.Mount) = who ≡ 0
IsCaller who (Cut side n torn) = who ≡ 0
IsCaller who _ = (1 ≤ who) × (who ≤ 16)

abbrev pub IsLine : Line → Type 0
IsLine line = IsCaller line.who line.act × IsAct line.act

-- the words for an act, behind the caller's number
abbrev pub AreWords : List (List ℕ) → Act → Type 0
AreWords words (Do (call.Get key)) = words ≡ codes "get" ∷ key ∷ []
AreWords words (Do (call.Part key offset count)) = words ≡ codes "part" ∷ key ∷ decimal offset ∷ decimal count ∷ []
AreWords words (Do (call.Info key)) = words ≡ codes "info" ∷ key ∷ []
AreWords words (Do (call.Set key value flags)) = (digits : List ℕ) × IsHexWord digits value × (words ≡ codes "set" ∷ key ∷ digits ∷ flags_word flags.bits ∷ [])
AreWords words (Do (call.Remove key)) = words ≡ codes "remove" ∷ key ∷ []
AreWords words (Do (call.Start key size flags)) = words ≡ codes "start" ∷ key ∷ decimal size ∷ flags_word flags.bits ∷ []
AreWords words (Do (call.Add value)) = (digits : List ℕ) × IsHexWord digits value × (words ≡ codes "add" ∷ digits ∷ [])
AreWords words (Do call.Finish) = words ≡ codes "finish" ∷ []
AreWords words (Do call.Abort) = words ≡ codes "abort" ∷ []
AreWords words (Do (call.IterOpen n prefix)) = words ≡ codes "open" ∷ decimal n ∷ prefix_word prefix ∷ []
AreWords words (Do (call.Next n)) = words ≡ codes "next" ∷ decimal n ∷ []
AreWords words (Do (call.IterClose n)) = words ≡ codes "close" ∷ decimal n ∷ []
AreWords words (Do call.Reset) = words ≡ codes "reset" ∷ []
AreWords words (Do call.Mount) = words ≡ codes "mount" ∷ []
AreWords words (Cut side n torn) = words ≡ codes "cut" ∷ cut_word side n torn ∷ []

-- the one word for bytes with lower-case digits
abbrev pub hex_word : List ℕ → List ℕ
hex_word [] = codes "-"
hex_word (b ∷ bytes) = encode_lower (b ∷ bytes)

-- the words for an act where bytes have lower-case digits
abbrev pub canonical_words : Act → List (List ℕ)
canonical_words (Do (call.Get key)) = codes "get" ∷ key ∷ []
canonical_words (Do (call.Part key offset count)) = codes "part" ∷ key ∷ decimal offset ∷ decimal count ∷ []
canonical_words (Do (call.Info key)) = codes "info" ∷ key ∷ []
canonical_words (Do (call.Set key value flags)) = codes "set" ∷ key ∷ hex_word value ∷ flags_word flags.bits ∷ []
canonical_words (Do (call.Remove key)) = codes "remove" ∷ key ∷ []
canonical_words (Do (call.Start key size flags)) = codes "start" ∷ key ∷ decimal size ∷ flags_word flags.bits ∷ []
canonical_words (Do (call.Add value)) = codes "add" ∷ hex_word value ∷ []
canonical_words (Do call.Finish) = codes "finish" ∷ []
canonical_words (Do call.Abort) = codes "abort" ∷ []
canonical_words (Do (call.IterOpen n prefix)) = codes "open" ∷ decimal n ∷ prefix_word prefix ∷ []
canonical_words (Do (call.Next n)) = codes "next" ∷ decimal n ∷ []
canonical_words (Do (call.IterClose n)) = codes "close" ∷ decimal n ∷ []
canonical_words (Do call.Reset) = codes "reset" ∷ []
canonical_words (Do call.Mount) = codes "mount" ∷ []
canonical_words (Cut side n torn) = codes "cut" ∷ cut_word side n torn ∷ []

-- the one canonical spelling of a line
abbrev pub canonical : Line → List ℕ
canonical line = join_with_byte 32 (decimal line.who ∷ canonical_words line.act)

-- the bytes of a line spell it: words with one space between each two
abbrev pub Spells : List ℕ → Line → Type 0
Spells text line = IsLine line × ((words : List (List ℕ)) × AreWords words line.act × (text ≡ join_with_byte 32 (decimal line.who ∷ words)))

-- ---- the whole text

-- the lines of a text are the parts between line feeds; the part behind the last one is empty where the text ends in a line feed
abbrev pub lines_of : List ℕ → List (List ℕ)
lines_of text = slice_split (λ b. b == 10) text

abbrev pub HasNoLineFeed : List ℕ → Type 0
HasNoLineFeed line = IsTrue (list_all (λ b. not (b == 10)) line)

-- an empty line, and one that begins with `#`
abbrev pub is_skipped : List ℕ → Bool
is_skipped [] = true
is_skipped (b ∷ bs) = b == 35

-- a line that ends the client's incremental set
abbrev pub EndsSet : ℕ → List ℕ → Type 0
EndsSet who text = Spells text (record { who = who; act = Do call.Finish }) ⊎ Spells text (record { who = who; act = Do call.Abort })

abbrev pub SomeEndsSet : ℕ → List (List ℕ) → Type 0
SomeEndsSet who [] = ⊥
SomeEndsSet who (text ∷ texts) = EndsSet who text ⊎ SomeEndsSet who texts

-- what the clients of threads may ask for: a set that is begun is ended by a later line of the client, be the lines between them good or not
abbrev pub IsServed : List (List ℕ) → ℕ → Act → Type 0
IsServed later who (Do (call.Start key size flags)) = (1 ≤ who) × SomeEndsSet who later
IsServed later who _ = 1 ≤ who

abbrev pub CutsNoRollback : Act → Type 0
CutsNoRollback (Cut Rollback n torn) = ⊥
CutsNoRollback _ = Unit {0}

-- what the mode allows, with the lines that come later: on threads caller 0 has no line, and without a rollback store none cuts it
abbrev pub IsAllowed : ScriptMode → List (List ℕ) → Line → Type 0
IsAllowed mode later line = MatchBool mode.threads (IsServed later line.who line.act) (Unit {0}) × MatchBool mode.secure (Unit {0}) (CutsNoRollback line.act)

abbrev pub IsGood : ScriptMode → List (List ℕ) → List ℕ → Line → Type 0
IsGood mode later text line = Spells text line × IsAllowed mode later line

-- these lines, of which others come later, are skipped or spell these lines of a script
abbrev pub Read : ScriptMode → List (List ℕ) → List (List ℕ) → List Line → Type 0
Read mode [] later lines = lines ≡ []
Read mode (text ∷ texts) later lines = MatchBool (is_skipped text)
    (Read mode texts later lines)
    ((first : Line) × (others : List Line) × (lines ≡ first ∷ others) × IsGood mode (texts ++ later) text first × Read mode texts later others)

abbrev pub most_lines : ℕ
most_lines = 8192

-- the lines of a script
pub record AreLines (lines : List Line) : Type 0 where
  pub count : length lines ≤ most_lines
  pub each : All IsLine lines

-- the text is this script
pub record IsScript (mode : ScriptMode) (text : List ℕ) (lines : List Line) : Type 0 where
  pub reads : Read mode (lines_of text) [] lines
  pub count : length lines ≤ most_lines

-- among these lines, which count from a number, the one of this number, and what the lines before it are
pub record ReadsUpTo (mode : ScriptMode) (first : ℕ) (texts : List (List ℕ)) (number : ℕ) (line : List ℕ) (later : List (List ℕ)) (lines : List Line) : Type 0 where
  pub before : List (List ℕ)
  pub whole : texts ≡ before ++ line ∷ later
  pub place : number ≡ length before + first
  pub reads : Read mode before (line ∷ later) lines

-- the line of this number is the first that is neither skipped nor good, and there are not too many call lines before it
pub record IsFirstBad (mode : ScriptMode) (text : List ℕ) (number : ℕ) : Type 0 where
  pub line : List ℕ
  pub later : List (List ℕ)
  pub lines : List Line
  pub before : ReadsUpTo mode 1 (lines_of text) number line later lines
  pub count : length lines ≤ most_lines
  pub not_skipped : is_skipped line ≡ false
  pub not_good : (read : Line) → IsGood mode later line read → ⊥

-- every line before the line of this number is good, with as many call lines as may be, and it is one more
pub record IsOneTooMany (mode : ScriptMode) (text : List ℕ) (number : ℕ) : Type 0 where
  pub line : List ℕ
  pub later : List (List ℕ)
  pub lines : List Line
  pub before : ReadsUpTo mode 1 (lines_of text) number line later lines
  pub count : length lines ≡ most_lines
  pub not_skipped : is_skipped line ≡ false
  pub read : Line
  pub good : IsGood mode later line read
