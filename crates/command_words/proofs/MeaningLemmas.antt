-- Words have at most one meaning.
use Rattle.std.proofs.Common.{◌≡◌, ℕ, get_or, Bool, true, false, List, [], ◌∷◌, Some, None, refl, sym, ap, subst, ◌∙◌, arith}
use Rattle.std.specs.Prelude.{codes}
use Rattle.std.proofs.lemmas.Fmt.{decimal_injective}
use Rattle.flash_core.specs.declared.geometry.Geometry.{Geometry}
use Rattle.script_core.specs.declared.line.PowerCut.{PowerCut}
use Rattle.script_core.specs.declared.line.Act.TheVariants.{Cut}
use Rattle.script_core.specs.Grammar.{SpellsCut}
use Rattle.script_core.specs.Reading.{cut_of}
use Rattle.script_core.proofs.Cuts.{cut_of-word}
use Rattle.script_core.proofs.Options.{some_is}
use Rattle.command_words.specs.declared.option_name.OptionName.TheVariants as option
use Rattle.command_words.specs.declared.tools.Tool.{Tool}
use Rattle.command_words.specs.declared.tools.Tool.TheVariants as tool
use Rattle.command_words.specs.Commands.{Session, Names, OneImage, Drawing, Command, Run, Replay, Use, Generate, AreNames, AreOf, AreOfImage, AreOfDrawing, Means, fits_mode, tool_named, tool_options, tool_word}
use Rattle.command_words.specs.Items.{Item, items_of, session_options, words_of, values_of}
use Rattle.command_words.specs.Values.{default_geometry, default_root_key, SpellsNumber, SpellsShort, SpellsGeometry, SpellsRootKey, SpellsHashBits, SpellsSomeCut, Says, SaysGeometry, SaysRootKey, SaysVector, SaysHashBits, SaysCut, IsFlag}
use Rattle.command_words.proofs.GeometryLemmas.{HasParts, geometry_parts}

abbrev pub IsOne : {A : Type 0} → (List ℕ → A → Type 0) → Type 0
IsOne {A = A} Spells = (word : List ℕ) (x y : A) → Spells word x → Spells word y → x ≡ y

says_one : {A : Type 0} (Spells : List ℕ → A → Type 0) → IsOne Spells → (default : A) (values : List (List ℕ)) (x y : A)
    → Says Spells default values x → Says Spells default values y → x ≡ y
says_one Spells one default [] x y a b = a ∙ sym b
says_one Spells one default (word ∷ []) x y a b = one word x y a b
says_one Spells one default (word ∷ again ∷ words) x y a b = absurd a

one_number : IsOne SpellsNumber
one_number word x y a b = decimal_injective x y a.0 b.0 (sym a.1 ∙ b.1)

pub one_short : IsOne SpellsShort
one_short word x y a b = decimal_injective x y (omega arith) (omega arith) (sym a.1 ∙ b.1)

one_hash_bits : IsOne SpellsHashBits
one_hash_bits word x y a b = decimal_injective x y (omega arith) (omega arith) (sym a.1 ∙ b.1)

one_root_key : IsOne SpellsRootKey
one_root_key word x y a b = cc (a.1, b.1)

same_parts : (word : List ℕ) (x y : Geometry) → HasParts word x → HasParts word y → x ≡ y
same_parts word x y a b =
    let rest : a.rest ≡ b.rest = some_is a.rest b.rest (sym a.behind_prog ∙ b.behind_prog) in
    let units : a.units ≡ b.units = cc (a.behind_erase, b.behind_erase) in
    let prog : x.prog ≡ y.prog = one_short _ x.prog y.prog a.prog b.prog in
    let erase : x.erase ≡ y.erase = one_short _ x.erase y.erase a.erase (rw rest b.erase) in
    let last : x.units_per_area ≡ y.units_per_area = one_short _ x.units_per_area y.units_per_area a.units_per_area (rw units b.units_per_area) in
    λ i. record { prog = prog i; erase = erase i; units_per_area = last i }

one_geometry : IsOne SpellsGeometry
one_geometry word x y a b = same_parts word x y (geometry_parts word x a) (geometry_parts word y b)

same_cut : (x y : PowerCut) → Some (Cut x.side x.n x.pattern) ≡ Some (Cut y.side y.n y.pattern) → x ≡ y
same_cut x y e =
    let side : x.side ≡ y.side = cc in
    let n : x.n ≡ y.n = cc in
    let torn : x.pattern ≡ y.pattern = cc in
    λ i. record { side = side i; n = n i; pattern = torn i }

one_cut : IsOne SpellsCut
one_cut word x y a b =
    same_cut x y (sym (cut_of-word x.side x.n x.pattern a.0) ∙ ap cut_of (sym a.1 ∙ b.1) ∙ cut_of-word y.side y.n y.pattern b.0)

one_some_cut : IsOne SpellsSomeCut
one_some_cut word None y a b = absurd a
one_some_cut word (Some x) None a b = absurd b
one_some_cut word (Some x) (Some y) a b = ap (λ (c : PowerCut). Some c) (one_cut word x y a b)

one_flag : (values : List (List ℕ)) (x y : Bool) → IsFlag values x → IsFlag values y → x ≡ y
one_flag values x y a b = says_one _ (λ word p q h k. h ∙ sym k) _ values x y a b

same_names : (words : List (List ℕ)) (x y : Names) → AreNames words x → AreNames words y → x ≡ y
same_names words x y a b =
    let primary : x.primary ≡ y.primary = cc in
    let rollback : x.rollback ≡ y.rollback = cc in
    let script : x.script ≡ y.script = cc in
    λ i. record { primary = primary i; rollback = rollback i; script = script i }

-- a session as its items say it, whatever its mode
pub record IsSaid (items : List Item) (s : Session) : Type 0 where
  pub names : AreNames (words_of items) s.names
  pub geometry : SaysGeometry (values_of option.PrimaryGeometry items) s.geometry
  pub rollback_geometry : SaysGeometry (values_of option.RollbackGeometry items) s.rollback_geometry
  pub root_key : SaysRootKey (values_of option.RootKey items) s.root_key
  pub first_vector : SaysVector (values_of option.FirstVector items) s.first_vector
  pub hash_bits : SaysHashBits (values_of option.HashBits items) s.hash_bits
  pub cut : SaysCut (values_of option.Cut items) s.cut
  pub secure : IsFlag (values_of option.Secure items) s.secure
  pub by_client : IsFlag (values_of option.ByClient items) s.by_client

said : (items : List Item) (s : Session) → AreOf items s → IsSaid items s
said items s h = record {
  names = h.names;
  geometry = h.geometry;
  rollback_geometry = h.rollback_geometry;
  root_key = h.root_key;
  first_vector = h.first_vector;
  hash_bits = h.hash_bits;
  cut = h.cut;
  secure = h.secure;
  by_client = h.by_client;
}

one_session : (items : List Item) (x y : Session) → IsSaid items x → IsSaid items y → x ≡ y
one_session items x y a b =
    let names = same_names _ x.names y.names a.names b.names in
    let geometry = says_one SpellsGeometry one_geometry default_geometry _ x.geometry y.geometry a.geometry b.geometry in
    let rollback_geometry = says_one SpellsGeometry one_geometry default_geometry _ x.rollback_geometry y.rollback_geometry a.rollback_geometry b.rollback_geometry in
    let root_key = says_one SpellsRootKey one_root_key default_root_key _ x.root_key y.root_key a.root_key b.root_key in
    let first_vector = says_one SpellsNumber one_number 1 _ x.first_vector y.first_vector a.first_vector b.first_vector in
    let hash_bits = says_one SpellsHashBits one_hash_bits 32 _ x.hash_bits y.hash_bits a.hash_bits b.hash_bits in
    let cut = says_one SpellsSomeCut one_some_cut None _ x.cut y.cut a.cut b.cut in
    let secure = one_flag _ x.secure y.secure a.secure b.secure in
    let by_client = one_flag _ x.by_client y.by_client a.by_client b.by_client in
    λ i. record {
      names = names i;
      geometry = geometry i;
      rollback_geometry = rollback_geometry i;
      root_key = root_key i;
      first_vector = first_vector i;
      hash_bits = hash_bits i;
      cut = cut i;
      secure = secure i;
      by_client = by_client i;
    }

same_session : (items : List Item) (x y : Session) → AreOf items x → AreOf items y → x ≡ y
same_session items x y a b = one_session items x y (said items x a) (said items y b)

-- where what the items say does not fit its mode, they say no session
pub unfit : (items : List Item) (s : Session) → IsSaid items s → fits_mode s ≡ false → (y : Session) → AreOf items y → ⊥
unfit items s told breaks y h =
    let same : y ≡ s = one_session items y s (said items y h) told in
    let fits : fits_mode s ≡ true = subst (λ (z : Session). fits_mode z ≡ true) same h.mode in
    absurd (let both = sym fits ∙ breaks in cc)

-- ---- tools

by_word : (t : Tool) → tool_named (tool_word t) ≡ Some t
by_word tool.Format = refl
by_word tool.List = refl
by_word tool.Check = refl
by_word tool.Dump = refl

other_name : (name : List ℕ) (t : Tool) → tool_named name ≡ None → name ≡ tool_word t → ⊥
other_name name t none is = absurd (let both = sym (by_word t) ∙ ap tool_named (sym is) ∙ none in cc)

pub tool_is : (word : List ℕ) (t : Tool) (found : Tool) → word ≡ tool_word t → tool_named word ≡ Some found → t ≡ found
tool_is word t found is named = some_is t found (sym (by_word t) ∙ ap tool_named (sym is) ∙ named)

not_gen : codes "run" ≡ codes "gen" → ⊥
not_gen same = let first : 114 ≡ 103 = ap (λ (word : List ℕ). get_or word 0 0) same in absurd (omega (arith, first))

same_image : (items : List Item) (x y : OneImage) → AreOfImage items x → AreOfImage items y → x ≡ y
same_image items x y a b =
    let both = sym a.file ∙ b.file in
    let file : x.file ≡ y.file = cc in
    let geometry = says_one SpellsGeometry one_geometry default_geometry _ x.geometry y.geometry a.geometry b.geometry in
    let hash_bits = says_one SpellsHashBits one_hash_bits 32 _ x.hash_bits y.hash_bits a.hash_bits b.hash_bits in
    λ i. record { file = file i; geometry = geometry i; hash_bits = hash_bits i }

same_drawing : (items : List Item) (x y : Drawing) → AreOfDrawing items x → AreOfDrawing items y → x ≡ y
same_drawing items x y a b =
    let both = sym a.words ∙ b.words in
    let seed : x.seed ≡ y.seed = decimal_injective x.seed y.seed (omega (arith, a.seed)) (omega (arith, b.seed)) cc in
    let clients : x.clients ≡ y.clients = decimal_injective x.clients y.clients (omega (arith, a.clients.1)) (omega (arith, b.clients.1)) cc in
    let calls : x.calls ≡ y.calls = decimal_injective x.calls y.calls (omega (arith, a.calls.1)) (omega (arith, b.calls.1)) cc in
    λ i. record { seed = seed i; clients = clients i; calls = calls i }

same_use : (word : List ℕ) (words : List (List ℕ)) (t u : Tool) (x y : OneImage) → Means (word ∷ words) (Use t x) → Means (word ∷ words) (Use u y) → Use t x ≡ Use u y
same_use word words t u x y h k =
    let same : t ≡ u = tool_is word t u h.0 (ap tool_named k.0 ∙ by_word u) in
    let image = same_image _ x y h.1 (subst (λ (z : Tool). AreOfImage (items_of (tool_options z) words) y) (sym same) k.1) in
    λ i. Use (same i) (image i)

pub one_meaning : (words : List (List ℕ)) (a b : Command) → Means words a → Means words b → a ≡ b
one_meaning [] a b h k = absurd h
one_meaning (word ∷ words) (Run x) (Run y) h k = ap (λ (s : Session). Run s) (same_session _ x y h.1 k.1)
one_meaning (word ∷ words) (Run x) (Replay y) h k = absurd cc
one_meaning (word ∷ words) (Run x) (Use u y) h k = absurd (other_name (codes "run") u refl (sym h.0 ∙ k.0))
one_meaning (word ∷ words) (Run x) (Generate y) h k = absurd (not_gen (sym h.0 ∙ k.0))
one_meaning (word ∷ words) (Replay x) (Run y) h k = absurd cc
one_meaning (word ∷ words) (Replay x) (Replay y) h k = ap (λ (s : Session). Replay s) (same_session _ x y h.1 k.1)
one_meaning (word ∷ words) (Replay x) (Use u y) h k = absurd (other_name (codes "replay") u refl (sym h.0 ∙ k.0))
one_meaning (word ∷ words) (Replay x) (Generate y) h k = absurd cc
one_meaning (word ∷ words) (Use t x) (Run y) h k = absurd (other_name (codes "run") t refl (sym k.0 ∙ h.0))
one_meaning (word ∷ words) (Use t x) (Replay y) h k = absurd (other_name (codes "replay") t refl (sym k.0 ∙ h.0))
one_meaning (word ∷ words) (Use t x) (Use u y) h k = same_use word words t u x y h k
one_meaning (word ∷ words) (Use t x) (Generate y) h k = absurd (other_name (codes "gen") t refl (sym k.0 ∙ h.0))
one_meaning (word ∷ words) (Generate x) (Run y) h k = absurd (not_gen (sym k.0 ∙ h.0))
one_meaning (word ∷ words) (Generate x) (Replay y) h k = absurd cc
one_meaning (word ∷ words) (Generate x) (Use u y) h k = absurd (other_name (codes "gen") u refl (sym h.0 ∙ k.0))
one_meaning (word ∷ words) (Generate x) (Generate y) h k = ap (λ (d : Drawing). Generate d) (same_drawing _ x y h.1 k.1)

-- ---- words that are no command

abbrev IsNoSession : List (List ℕ) → Type 0
IsNoSession words = (s : Session) → AreOf (items_of session_options words) s → ⊥

pub no_run : (words : List (List ℕ)) → IsNoSession words → (command : Command) → Means (codes "run" ∷ words) command → ⊥
no_run words none (Run s) h = none s h.1
no_run words none (Replay s) h = absurd cc
no_run words none (Use t i) h = other_name (codes "run") t refl h.0
no_run words none (Generate d) h = not_gen h.0

pub no_replay : (words : List (List ℕ)) → IsNoSession words → (command : Command) → Means (codes "replay" ∷ words) command → ⊥
no_replay words none (Run s) h = absurd cc
no_replay words none (Replay s) h = none s h.1
no_replay words none (Use t i) h = other_name (codes "replay") t refl h.0
no_replay words none (Generate d) h = absurd cc

pub no_drawing : (words : List (List ℕ)) → ((d : Drawing) → AreOfDrawing (items_of [] words) d → ⊥) → (command : Command) → Means (codes "gen" ∷ words) command → ⊥
no_drawing words none (Run s) h = not_gen (sym h.0)
no_drawing words none (Replay s) h = absurd cc
no_drawing words none (Use t i) h = other_name (codes "gen") t refl h.0
no_drawing words none (Generate d) h = none d h.1

-- a word that is none of these names a tool, if anything
module _ (word : List ℕ) (words : List (List ℕ)) (run : word ≡ codes "run" → ⊥) (replay : word ≡ codes "replay" → ⊥) (gen : word ≡ codes "gen" → ⊥) where
  pub no_tool : tool_named word ≡ None → (command : Command) → Means (word ∷ words) command → ⊥
  no_tool none (Run s) h = run h.0
  no_tool none (Replay s) h = replay h.0
  no_tool none (Use t i) h = other_name word t none h.0
  no_tool none (Generate d) h = gen h.0

  pub no_image : (t : Tool) → tool_named word ≡ Some t → ((i : OneImage) → AreOfImage (items_of (tool_options t) words) i → ⊥)
      → (command : Command) → Means (word ∷ words) command → ⊥
  no_image t named none (Run s) h = run h.0
  no_image t named none (Replay s) h = replay h.0
  no_image t named none (Use u i) h = none i (subst (λ (z : Tool). AreOfImage (items_of (tool_options z) words) i) (tool_is word u t h.0 named) h.1)
  no_image t named none (Generate d) h = gen h.0
