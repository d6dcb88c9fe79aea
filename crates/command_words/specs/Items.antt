-- What the words behind a command are: options with their values, flags, and other words.
use Rattle.std.specs.Prelude.{ℕ, Bool, true, false, not, ◌&&◌, ◌||◌, ◌==◌, if◌then◌else◌, List, [], ◌∷◌, codes, Option, Some, None}
use Rattle.std.specs.Str.{bytes_eq}
use Rattle.command_words.specs.declared.option_name.OptionName.{OptionName}
use Rattle.command_words.specs.declared.option_name.OptionName.TheVariants as option
use Rattle.command_words.specs.Splits.{before, behind}

-- ---- the options, as data

-- how an option is written
abbrev pub option_word : OptionName → List ℕ
option_word option.PrimaryGeometry = codes "--geom"
option_word option.RollbackGeometry = codes "--rgeom"
option_word option.RootKey = codes "--root"
option_word option.FirstVector = codes "--iv"
option_word option.HashBits = codes "--hash-bits"
option_word option.Cut = codes "--cut"
option_word option.Secure = codes "--secure"
option_word option.ByClient = codes "--by-client"

-- whether a value belongs to it; the others are flags
abbrev pub takes_value : OptionName → Bool
takes_value option.Secure = false
takes_value option.ByClient = false
takes_value other = true

-- the options of `run` and of `replay`
abbrev pub session_options : List OptionName
session_options =
    option.PrimaryGeometry ∷ option.RollbackGeometry ∷ option.RootKey ∷ option.FirstVector
    ∷ option.HashBits ∷ option.Cut ∷ option.Secure ∷ option.ByClient ∷ []

-- of the tools that make or test an image, and of those that show its keys
abbrev pub image_options : List OptionName
image_options = option.PrimaryGeometry ∷ []

abbrev pub listing_options : List OptionName
listing_options = option.PrimaryGeometry ∷ option.HashBits ∷ []

-- the option of these that is written so
abbrev pub named : List OptionName → List ℕ → Option OptionName
named [] word = None
named (option ∷ options) word = if bytes_eq (option_word option) word then Some option else named options word

-- ---- one word by itself

-- it does not begin with a dash, or is a dash alone
abbrev pub is_plain : List ℕ → Bool
is_plain (first ∷ second ∷ word) = not (first == 45)
is_plain word = true

pub data Form : Type 0 where
  -- no option
  Plain : Form
  -- a flag, with an empty value, or an option with its value behind `=`
  Stated : OptionName → List ℕ → Form
  -- an option whose value is the next word
  Awaiting : OptionName → Form
  -- a word with a dash that is no option of the command
  Unknown : Form

abbrev pub form_if : OptionName → Bool → Option (List ℕ) → Form
form_if option true (Some value) = Stated option value
form_if option true None = Awaiting option
form_if option false (Some value) = Unknown
form_if option false None = Stated option []

abbrev pub form_with : Option OptionName → Option (List ℕ) → Form
form_with None value = Unknown
form_with (Some option) value = form_if option (takes_value option) value

-- a word that is not plain is the name of an option, with its value behind `=` where it has that in the same word
unfoldable pub form_of : List OptionName → List ℕ → Form
form_of options word = if is_plain word then Plain else form_with (named options (before 61 word)) (behind 61 word)

-- ---- all words

pub data Item : Type 0 where
  -- a word that is no option
  Word : List ℕ → Item
  -- an option with its value, or a flag with an empty one
  Given : OptionName → List ℕ → Item
  -- what can't stand behind the command
  Wrong : Item

-- the value of an option that is the next word
abbrev pub value_item : OptionName → List ℕ → Item
value_item option word = if is_plain word then Given option word else Wrong

-- a word of this form, and the items behind it: those of the words behind it, of which the first may be its value
abbrev pub item_then : Form → List ℕ → List Item → (OptionName → List Item) → List Item
item_then Plain word others after = Word word ∷ others
item_then (Stated option value) word others after = Given option value ∷ others
item_then (Awaiting option) word others after = after option
item_then Unknown word others after = Wrong ∷ others

-- the items of some words, where an option may await its value
abbrev pub items_from : List OptionName → Option OptionName → List (List ℕ) → List Item
items_from options None [] = []
items_from options (Some option) [] = Wrong ∷ []
items_from options None (word ∷ words) = item_then (form_of options word) word (items_from options None words) (λ option. items_from options (Some option) words)
items_from options (Some option) (word ∷ words) = value_item option word ∷ items_from options None words

abbrev pub items_of : List OptionName → List (List ℕ) → List Item
items_of options words = items_from options None words

abbrev pub is_known : Item → Bool
is_known Wrong = false
is_known item = true

-- ---- what the items have

abbrev pub all_known : List Item → Bool
all_known [] = true
all_known (item ∷ items) = is_known item && all_known items

-- the words that are no options, in order
abbrev pub words_of : List Item → List (List ℕ)
words_of [] = []
words_of (Word word ∷ items) = word ∷ words_of items
words_of (item ∷ items) = words_of items

abbrev pub is_option : OptionName → OptionName → Bool
is_option a b = bytes_eq (option_word a) (option_word b)

-- whether it is one of these
abbrev pub is_among : List OptionName → OptionName → Bool
is_among [] wanted = false
is_among (option ∷ options) wanted = is_option option wanted || is_among options wanted

-- the values that an option is given, in order
abbrev pub values_of : OptionName → List Item → List (List ℕ)
values_of wanted [] = []
values_of wanted (Given option value ∷ items) = if is_option option wanted then value ∷ values_of wanted items else values_of wanted items
values_of wanted (item ∷ items) = values_of wanted items
