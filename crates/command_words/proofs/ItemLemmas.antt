-- How words spell items, and in which order they stand.
use Rattle.std.proofs.Common.{◌≡◌, ℕ, ◌≤◌, Bool, true, false, cond, List, [], ◌∷◌, ◌++◌, length, Option, Some, None, refl, sym, ap, subst, ◌∙◌, append_assoc, arith}
use Rattle.std.specs.Prelude.{◌&&◌, ◌||◌, codes}
use mathlib.Core.Bool.{false≢true}
use Rattle.script_core.proofs.Options.{both}
use Rattle.command_words.specs.declared.option_name.OptionName.{OptionName}
use Rattle.command_words.specs.declared.option_name.OptionName.TheVariants as option
use Rattle.command_words.specs.declared.tools.Tool.{Tool}
use Rattle.command_words.specs.declared.tools.Tool.TheVariants as tool
use Rattle.command_words.specs.Commands.{Session, OneImage, Drawing, Command, Run, Replay, Use, Generate, AreOf, AreOfImage, AreOfDrawing, SaysCommand, Means, options_for, tool_options, plain_session}
use Rattle.command_words.specs.Items.{Form, Plain, Stated, Awaiting, Unknown, Item, Word, Given, Wrong, option_word, takes_value, session_options, listing_options, is_among, is_plain, is_option, form_of, value_item, item_then, items_from, items_of, is_known, all_known, words_of, values_of}
use Rattle.command_words.specs.Values.{default_geometry, default_root_key, SpellsNumber, SpellsGeometry, SpellsRootKey, SpellsHashBits, SpellsSomeCut, Says, IsFlag}

-- ---- the forms of a word

form_word : (o : OptionName) → form_of session_options (option_word o) ≡ cond (takes_value o) (Awaiting o) (Stated o [])
unfolding form_of
form_word option.PrimaryGeometry = refl
form_word option.RollbackGeometry = refl
form_word option.RootKey = refl
form_word option.FirstVector = refl
form_word option.HashBits = refl
form_word option.Cut = refl
form_word option.Secure = refl
form_word option.ByClient = refl

form_joined : (o : OptionName) (value : List ℕ) → form_of session_options (option_word o ++ codes "=" ++ value) ≡ cond (takes_value o) (Stated o value) Unknown
unfolding form_of
form_joined option.PrimaryGeometry value = refl
form_joined option.RollbackGeometry value = refl
form_joined option.RootKey value = refl
form_joined option.FirstVector value = refl
form_joined option.HashBits value = refl
form_joined option.Cut value = refl
form_joined option.Secure value = refl
form_joined option.ByClient value = refl

form_plain : (options : List OptionName) (word : List ℕ) → is_plain word ≡ true → form_of options word ≡ Plain
unfolding form_of
form_plain options word h = rw h refl

dashes_for : (command : Command) → form_of (options_for command) (codes "--") ≡ Unknown
unfolding form_of
dashes_for (Run s) = refl
dashes_for (Replay s) = refl
dashes_for (Use tool.Format image) = refl
dashes_for (Use tool.List image) = refl
dashes_for (Use tool.Check image) = refl
dashes_for (Use tool.Dump image) = refl
dashes_for (Generate drawing) = refl

pub plain_first : (options : List OptionName) (word : List ℕ) (words : List (List ℕ)) → is_plain word ≡ true → items_of options (word ∷ words) ≡ Word word ∷ items_of options words
plain_first options word words h = rw (form_plain options word h) refl

pub option_apart : (o : OptionName) (value : List ℕ) (words : List (List ℕ)) → takes_value o ≡ true → is_plain value ≡ true
    → items_of session_options (option_word o ∷ value ∷ words) ≡ Given o value ∷ items_of session_options words
option_apart o value words takes plain = rw (form_word o, takes, plain) refl

pub option_together : (o : OptionName) (value : List ℕ) (words : List (List ℕ)) → takes_value o ≡ true
    → items_of session_options ((option_word o ++ codes "=" ++ value) ∷ words) ≡ Given o value ∷ items_of session_options words
option_together o value words takes = rw (form_joined o value, takes) refl

pub flag_alone : (o : OptionName) (words : List (List ℕ)) → takes_value o ≡ false → items_of session_options (option_word o ∷ words) ≡ Given o [] ∷ items_of session_options words
flag_alone o words takes = rw (form_word o, takes) refl

-- ---- words in front of others

append_then : (options : List OptionName) (form : Form) (word : List ℕ) (front back : List (List ℕ))
    → (all_known (items_from options None front) ≡ true → items_from options None (front ++ back) ≡ items_from options None front ++ items_from options None back)
    → ((o : OptionName) → all_known (items_from options (Some o) front) ≡ true → items_from options (Some o) (front ++ back) ≡ items_from options (Some o) front ++ items_from options None back)
    → all_known (item_then form word (items_from options None front) (λ o. items_from options (Some o) front)) ≡ true
    → item_then form word (items_from options None (front ++ back)) (λ o. items_from options (Some o) (front ++ back))
    ≡ item_then form word (items_from options None front) (λ o. items_from options (Some o) front) ++ items_from options None back
append_then options Plain word front back others after h = ap (λ (is : List Item). Word word ∷ is) (others h)
append_then options (Stated o value) word front back others after h = ap (λ (is : List Item). Given o value ∷ is) (others h)
append_then options (Awaiting o) word front back others after h = after o h
append_then options Unknown word front back others after h = absurd cc

pub items_from-append : (options : List OptionName) (awaiting : Option OptionName) (front back : List (List ℕ)) → all_known (items_from options awaiting front) ≡ true
    → items_from options awaiting (front ++ back) ≡ items_from options awaiting front ++ items_from options None back
items_from-append options None [] back h = refl
items_from-append options (Some o) [] back h = absurd cc
items_from-append options None (word ∷ front) back h =
    append_then options (form_of options word) word front back (items_from-append options None front back) (λ o. items_from-append options (Some o) front back) h
items_from-append options (Some o) (word ∷ front) back h =
    ap (λ (is : List Item). value_item o word ∷ is) (items_from-append options None front back (both (is_known (value_item o word)) (all_known (items_from options None front)) h).1)

-- ---- two items that change places

module _ (o : OptionName) (value word : List ℕ) (back : List Item) where
  abbrev Before : List Item → List Item
  Before front = front ++ Given o value ∷ Word word ∷ back

  abbrev After : List Item → List Item
  After front = front ++ Word word ∷ Given o value ∷ back

  known_moved : (front : List Item) → all_known (Before front) ≡ all_known (After front)
  known_moved [] = refl
  known_moved (item ∷ front) = ap (λ (b : Bool). is_known item && b) (known_moved front)

  words_moved : (front : List Item) → words_of (Before front) ≡ words_of (After front)
  words_moved [] = refl
  words_moved (Word w ∷ front) = ap (λ (ws : List (List ℕ)). w ∷ ws) (words_moved front)
  words_moved (Given p v ∷ front) = words_moved front
  words_moved (Wrong ∷ front) = words_moved front

  values_moved : (wanted : OptionName) (front : List Item) → values_of wanted (Before front) ≡ values_of wanted (After front)
  values_moved wanted [] = refl
  values_moved wanted (Word w ∷ front) = values_moved wanted front
  values_moved wanted (Given p v ∷ front) = ap (λ (vs : List (List ℕ)). cond (is_option p wanted) (v ∷ vs) vs) (values_moved wanted front)
  values_moved wanted (Wrong ∷ front) = values_moved wanted front

-- the same words, and the same values of each option
record AreAlike (a b : List Item) : Type 0 where
  pub known : all_known a ≡ all_known b
  pub words : words_of a ≡ words_of b
  pub values : (wanted : OptionName) → values_of wanted a ≡ values_of wanted b

are_moved : (o : OptionName) (value word : List ℕ) (back front : List Item) → AreAlike (Before o value word back front) (After o value word back front)
are_moved o value word back front = record {
  known = known_moved o value word back front;
  words = words_moved o value word back front;
  values = λ wanted. values_moved o value word back wanted front;
}

are_moved_back : (o : OptionName) (value word : List ℕ) (back front : List Item) → AreAlike (After o value word back front) (Before o value word back front)
are_moved_back o value word back front = record {
  known = sym (known_moved o value word back front);
  words = sym (words_moved o value word back front);
  values = λ wanted. sym (values_moved o value word back wanted front);
}

module _ (a b : List Item) (alike : AreAlike a b) where
  carried : (s : Session) → AreOf a s → AreOf b s
  carried s h = record {
    known = sym alike.known ∙ h.known;
    names = sym alike.words ∙ h.names;
    geometry = subst (λ (vs : List (List ℕ)). Says SpellsGeometry default_geometry vs s.geometry) (alike.values option.PrimaryGeometry) h.geometry;
    rollback_geometry = subst (λ (vs : List (List ℕ)). Says SpellsGeometry default_geometry vs s.rollback_geometry) (alike.values option.RollbackGeometry) h.rollback_geometry;
    root_key = subst (λ (vs : List (List ℕ)). Says SpellsRootKey default_root_key vs s.root_key) (alike.values option.RootKey) h.root_key;
    first_vector = subst (λ (vs : List (List ℕ)). Says SpellsNumber 1 vs s.first_vector) (alike.values option.FirstVector) h.first_vector;
    hash_bits = subst (λ (vs : List (List ℕ)). Says SpellsHashBits 32 vs s.hash_bits) (alike.values option.HashBits) h.hash_bits;
    cut = subst (λ (vs : List (List ℕ)). Says SpellsSomeCut None vs s.cut) (alike.values option.Cut) h.cut;
    secure = subst (λ (vs : List (List ℕ)). IsFlag vs s.secure) (alike.values option.Secure) h.secure;
    by_client = subst (λ (vs : List (List ℕ)). IsFlag vs s.by_client) (alike.values option.ByClient) h.by_client;
    mode = h.mode;
  }

  image_carried : (i : OneImage) → AreOfImage a i → AreOfImage b i
  image_carried i h = record {
    known = sym alike.known ∙ h.known;
    file = sym alike.words ∙ h.file;
    geometry = subst (λ (vs : List (List ℕ)). Says SpellsGeometry default_geometry vs i.geometry) (alike.values option.PrimaryGeometry) h.geometry;
    hash_bits = subst (λ (vs : List (List ℕ)). Says SpellsHashBits 32 vs i.hash_bits) (alike.values option.HashBits) h.hash_bits;
  }

  drawing_carried : (d : Drawing) → AreOfDrawing a d → AreOfDrawing b d
  drawing_carried d h = record {
    known = sym alike.known ∙ h.known;
    words = sym alike.words ∙ h.words;
    seed = h.seed;
    clients = h.clients;
    calls = h.calls;
  }

  command_carried : (command : Command) → SaysCommand a command → SaysCommand b command
  command_carried (Run s) h = carried s h
  command_carried (Replay s) h = carried s h
  command_carried (Use t i) h = image_carried i h
  command_carried (Generate d) h = drawing_carried d h

-- the items of the words before and after the move
module _ (command : Command) (other : List ℕ) (front given back : List (List ℕ)) (o : OptionName) (value : List ℕ) (whole : all_known (items_of (options_for command) front) ≡ true)
    (is : items_of (options_for command) given ≡ Given o value ∷ []) (plain : is_plain other ≡ true) where
  abbrev items : List (List ℕ) → List Item
  items words = items_of (options_for command) words

  given_whole : all_known (items given) ≡ true
  given_whole = rw is refl

  given_first : (words : List (List ℕ)) → items (given ++ words) ≡ Given o value ∷ items words
  given_first words = items_from-append (options_for command) None given words given_whole ∙ rw is refl

  items_before : items (front ++ given ++ other ∷ back) ≡ items front ++ Given o value ∷ Word other ∷ items back
  items_before =
      ap (items_of (options_for command)) (append_assoc front given (other ∷ back))
      ∙ items_from-append (options_for command) None front (given ++ other ∷ back) whole
      ∙ ap (λ (is : List Item). items front ++ is) (given_first (other ∷ back) ∙ ap (λ (is : List Item). Given o value ∷ is) (plain_first (options_for command) other back plain))

  items_after : items (front ++ other ∷ given ++ back) ≡ items front ++ Word other ∷ Given o value ∷ items back
  items_after =
      ap (items_of (options_for command)) (append_assoc front (other ∷ given) back)
      ∙ items_from-append (options_for command) None front (other ∷ (given ++ back)) whole
      ∙ ap (λ (is : List Item). items front ++ is) (plain_first (options_for command) other (given ++ back) plain ∙ ap (λ (is : List Item). Word other ∷ is) (given_first back))

  pub moved_behind : (name : List ℕ) → Means (name ∷ (front ++ given ++ other ∷ back)) command → Means (name ∷ (front ++ other ∷ given ++ back)) command
  moved_behind name h = (
    h.0,
    subst (λ (is : List Item). SaysCommand is command) (sym items_after)
        (command_carried _ _ (are_moved o value other (items back) (items front)) command
        (subst (λ (is : List Item). SaysCommand is command) items_before h.1)),
  )

  pub moved_before : (name : List ℕ) → Means (name ∷ (front ++ other ∷ given ++ back)) command → Means (name ∷ (front ++ given ++ other ∷ back)) command
  moved_before name h = (
    h.0,
    subst (λ (is : List Item). SaysCommand is command) (sym items_before)
        (command_carried _ _ (are_moved_back o value other (items back) (items front)) command
        (subst (λ (is : List Item). SaysCommand is command) items_after h.1)),
  )

-- ---- words that mean nothing

at_most_one : {A : Type 0} (Spells : List ℕ → A → Type 0) (default : A) (values : List (List ℕ)) (x : A) → Says Spells default values x → length values ≤ 1
at_most_one Spells default [] x h = omega arith
at_most_one Spells default (word ∷ []) x h = omega arith
at_most_one Spells default (word ∷ again ∷ words) x h = absurd h

once_in : (items : List Item) (o : OptionName) (s : Session) → AreOf items s → length (values_of o items) ≤ 1
once_in items option.PrimaryGeometry s h = at_most_one SpellsGeometry _ _ s.geometry h.geometry
once_in items option.RollbackGeometry s h = at_most_one SpellsGeometry _ _ s.rollback_geometry h.rollback_geometry
once_in items option.RootKey s h = at_most_one SpellsRootKey _ _ s.root_key h.root_key
once_in items option.FirstVector s h = at_most_one SpellsNumber _ _ s.first_vector h.first_vector
once_in items option.HashBits s h = at_most_one SpellsHashBits _ _ s.hash_bits h.hash_bits
once_in items option.Cut s h = at_most_one SpellsSomeCut _ _ s.cut h.cut
once_in items option.Secure s h = at_most_one _ _ _ s.secure h.secure
once_in items option.ByClient s h = at_most_one _ _ _ s.by_client h.by_client

or_more : (a b : Bool) → (a || false) ≡ true → (a || b) ≡ true
or_more true b h = refl
or_more false b h = absurd (false≢true h)

-- an option of a tool is one of those that show keys
among_all : (t : Tool) (o : OptionName) → is_among (tool_options t) o ≡ true → is_among listing_options o ≡ true
among_all tool.Format o h = or_more (is_option option.PrimaryGeometry o) _ h
among_all tool.List o h = h
among_all tool.Check o h = or_more (is_option option.PrimaryGeometry o) _ h
among_all tool.Dump o h = h

once_in_image : (items : List Item) (o : OptionName) (i : OneImage) → is_among listing_options o ≡ true → AreOfImage items i → length (values_of o items) ≤ 1
once_in_image items option.PrimaryGeometry i among h = at_most_one SpellsGeometry _ _ i.geometry h.geometry
once_in_image items option.HashBits i among h = at_most_one SpellsHashBits _ _ i.hash_bits h.hash_bits
once_in_image items option.RollbackGeometry i among h = absurd (false≢true among)
once_in_image items option.RootKey i among h = absurd (false≢true among)
once_in_image items option.FirstVector i among h = absurd (false≢true among)
once_in_image items option.Cut i among h = absurd (false≢true among)
once_in_image items option.Secure i among h = absurd (false≢true among)
once_in_image items option.ByClient i among h = absurd (false≢true among)

pub once : (name : List ℕ) (words : List (List ℕ)) (o : OptionName) (command : Command) → is_among (options_for command) o ≡ true
    → Means (name ∷ words) command → length (values_of o (items_of (options_for command) words)) ≤ 1
once name words o (Run s) among h = once_in _ o s h.1
once name words o (Replay s) among h = once_in _ o s h.1
once name words o (Use t i) among h = once_in_image _ o i (among_all t o among) h.1
once name words o (Generate d) among h = absurd (false≢true among)

unknown_then : (form : Form) (word : List ℕ) (others : List Item) (after : OptionName → List Item) → (all_known others ≡ true → ⊥) → ((o : OptionName) → all_known (after o) ≡ true → ⊥)
    → all_known (item_then form word others after) ≡ true → ⊥
unknown_then Plain word others after lacks after_lacks h = lacks h
unknown_then (Stated o value) word others after lacks after_lacks h = lacks h
unknown_then (Awaiting o) word others after lacks after_lacks h = after_lacks o h
unknown_then Unknown word others after lacks after_lacks h = absurd cc

module _ (options : List OptionName) (unknown : form_of options (codes "--") ≡ Unknown) where
  unknown_dashes : (back : List (List ℕ)) → all_known (items_of options (codes "--" ∷ back)) ≡ false
  unknown_dashes back = rw unknown refl

  dashes_in : (awaiting : Option OptionName) (front back : List (List ℕ)) → all_known (items_from options awaiting (front ++ codes "--" ∷ back)) ≡ true → ⊥
  dashes_in None [] back h = false≢true (sym (unknown_dashes back) ∙ h)
  dashes_in (Some o) [] back h = absurd cc
  dashes_in None (word ∷ front) back h =
      unknown_then (form_of options word) word _ _ (dashes_in None front back) (λ o. dashes_in (Some o) front back) h
  dashes_in (Some o) (word ∷ front) back h =
      dashes_in None front back (both (is_known (value_item o word)) (all_known (items_of options (front ++ codes "--" ∷ back))) h).1

known_by : (items : List Item) (command : Command) → SaysCommand items command → all_known items ≡ true
known_by items (Run s) h = h.known
known_by items (Replay s) h = h.known
known_by items (Use t i) h = h.known
known_by items (Generate d) h = h.known

pub no_dashes : (name : List ℕ) (front back : List (List ℕ)) (command : Command) → Means (name ∷ (front ++ codes "--" ∷ back)) command → ⊥
no_dashes name front back command h = dashes_in (options_for command) (dashes_for command) None front back (known_by _ command h.1)

-- ---- defaults

three_words : (primary script : List ℕ) → is_plain primary ≡ true → is_plain script ≡ true
    → items_of session_options (primary ∷ codes "-" ∷ script ∷ []) ≡ Word primary ∷ Word (codes "-") ∷ Word script ∷ []
three_words primary script p s =
    plain_first session_options primary (codes "-" ∷ script ∷ []) p
    ∙ ap (λ (is : List Item). Word primary ∷ is) (plain_first session_options (codes "-") (script ∷ []) refl
    ∙ ap (λ (is : List Item). Word (codes "-") ∷ is) (plain_first session_options script [] s))

by_default : (primary script : List ℕ) → AreOf (Word primary ∷ Word (codes "-") ∷ Word script ∷ []) (plain_session primary script)
by_default primary script = record {
  known = refl;
  names = refl;
  geometry = refl;
  rollback_geometry = refl;
  root_key = refl;
  first_vector = refl;
  hash_bits = refl;
  cut = refl;
  secure = refl;
  by_client = refl;
  mode = refl;
}

pub plain_replay : (primary script : List ℕ) → is_plain primary ≡ true → is_plain script ≡ true
    → Means (codes "replay" ∷ primary ∷ codes "-" ∷ script ∷ []) (Replay (plain_session primary script))
plain_replay primary script p s =
    (refl, subst (λ (is : List Item). AreOf is (plain_session primary script)) (sym (three_words primary script p s)) (by_default primary script))
