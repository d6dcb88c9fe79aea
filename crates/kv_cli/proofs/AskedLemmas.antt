-- What follows from words that ask for a replay.
use lib.Count
use Rattle.std.proofs.Common.{◌≡◌, ◌≤◌, ℕ, Bool, true, false, IsTrue, List, [], ◌∷◌, refl, sym, ◌∙◌, ap, subst, arith}
use Rattle.std.specs.Prelude.{Option, Some, None, not, ◌&&◌, if◌then◌else◌, codes}
use Rattle.std.specs.Option.{ForSome}
use Rattle.std.specs.Str.{bytes_eq}
use mathlib.Core.Bool.{false≢true}
use Rattle.base_core.specs.Units.{up}
use Rattle.flash_core.specs.declared.geometry.Geometry.{Geometry}
use Rattle.flash_core.specs.Sizes.{IsValid}
use Rattle.script_core.specs.declared.line.PowerCut.{PowerCut}
use Rattle.script_core.specs.declared.line.Side.{Side}
use Rattle.script_core.specs.declared.line.Side.TheVariants.{Primary, Rollback}
use Rattle.command_words.specs.declared.tools.Tool.{Tool}
use Rattle.command_words.specs.Commands.{Command, Drawing, Generate, Means, OneImage, Replay, Run, Use, cuts_primary, fits_mode, is_primary}
use Rattle.command_words.specs.Values.{Says, SaysCut, SaysGeometry, SaysHashBits, SpellsSomeCut, default_geometry}
use Rattle.command_words.proofs.MeaningLemmas.{one_meaning}
use Rattle.kv_cli.specs.Asked.{Asked, Asks, AsksNothing}
use Rattle.kv_cli.specs.Runs.{CanRun}

default_is_valid : IsValid default_geometry
unfolding lib.Count.ones up
default_is_valid = record {
  prog_is_power = refl;
  prog_limit = omega arith;
  erase_positive = omega arith;
  erase_limit = omega arith;
  erase_is_multiple = refl;
  header_fits = omega arith;
  units_positive = omega arith;
  size_limit = omega arith;
  master_fits = omega arith;
}

valid_geometry : (values : List (List ℕ)) (g : Geometry) → SaysGeometry values g → IsValid g
valid_geometry [] g is = subst IsValid (sym is) default_is_valid
valid_geometry (word ∷ []) g spells = spells.0
valid_geometry (word ∷ again ∷ words) g says = absurd says

few_bits : (values : List (List ℕ)) (n : ℕ) → SaysHashBits values n → n ≤ 32
few_bits [] n is = omega (arith, is)
few_bits (word ∷ []) n spells = spells.0
few_bits (word ∷ again ∷ words) n says = absurd says

some_is : {X : Type 0} {x y : X} → Some x ≡ Some y → x ≡ y
some_is same = cc

no_cut : {P : Type 0} (cut : Option PowerCut) (found : PowerCut) → cut ≡ None → cut ≡ Some found → P
no_cut cut found none is = absurd cc

positive_by : (word : List ℕ) (cut : Option PowerCut) (found : PowerCut) → SpellsSomeCut word cut → cut ≡ Some found → 1 ≤ found.n
positive_by word None found spells is = absurd spells
positive_by word (Some cut) found spells is = subst (λ (c : PowerCut). 1 ≤ c.n) (some_is is) (omega (arith, spells.0))

positive : (values : List (List ℕ)) (cut : Option PowerCut) → SaysCut values cut → ForSome cut (λ c. 1 ≤ c.n)
positive [] cut none found is = no_cut cut found none is
positive (word ∷ []) cut spells found is = positive_by word cut found spells is
positive (word ∷ again ∷ words) cut says found is = absurd says

primary_side : (side : Side) → is_primary side ≡ true → side ≡ Primary
primary_side Primary is = refl
primary_side Rollback is = absurd (false≢true is)

cuts_there : (cut : Option PowerCut) → IsTrue (cuts_primary cut) → ForSome cut (λ c. c.side ≡ Primary)
cuts_there None is found there = no_cut None found refl there
cuts_there (Some cut) is found there = subst (λ (c : PowerCut). c.side ≡ Primary) (some_is there) (primary_side cut.side is)

second : (a b : Bool) → (a && b) ≡ true → b ≡ true
second true b is = is
second false b is = absurd (false≢true is)

without : (secure a b : Bool) → secure ≡ false → (if secure then a else b) ≡ true → b ≡ true
without true a b none is = absurd (false≢true (sym none))
without false a b none is = is

plain_side : (asked : Asked) → asked.secure ≡ false → IsTrue (fits_mode asked) → IsTrue (cuts_primary asked.cut)
plain_side asked plain fits = second (bytes_eq asked.names.rollback (codes "-")) (cuts_primary asked.cut) (without asked.secure _ _ plain fits)

pub can_run : (words : List (List ℕ)) (asked : Asked) → Asks words asked → CanRun asked
can_run [] asked asks = absurd asks.0
can_run (word ∷ words) asked asks =
    let is = asks.0.1 in
    record {
      valid = valid_geometry _ asked.geometry is.geometry;
      bits = few_bits _ asked.hash_bits is.hash_bits;
      cut = λ cut there. (positive _ asked.cut is.cut cut there, cuts_there asked.cut (plain_side asked asks.1 is.mode) cut there);
    }

replay_is : {x y : Asked} → Replay x ≡ Replay y → x ≡ y
replay_is same = cc

-- words ask for one replay at most
pub one_asked : (words : List (List ℕ)) (a b : Asked) → Asks words a → Asks words b → a ≡ b
one_asked words a b first other = replay_is (one_meaning words (Replay a) (Replay b) first.0 other.0)

-- ---- words that ask for something else

pub runs_threads : (words : List (List ℕ)) (session : Asked) → Means words (Run session) → AsksNothing words
runs_threads words session means asked asks = let same = one_meaning words (Run session) (Replay asked) means asks.0 in absurd cc

pub uses_tool : (words : List (List ℕ)) (tool : Tool) (image : OneImage) → Means words (Use tool image) → AsksNothing words
uses_tool words tool image means asked asks = let same = one_meaning words (Use tool image) (Replay asked) means asks.0 in absurd cc

pub draws_script : (words : List (List ℕ)) (drawing : Drawing) → Means words (Generate drawing) → AsksNothing words
draws_script words drawing means asked asks = let same = one_meaning words (Generate drawing) (Replay asked) means asks.0 in absurd cc

pub has_two_images : (words : List (List ℕ)) (session : Asked) → Means words (Replay session) → session.secure ≡ true → AsksNothing words
has_two_images words session means secure asked asks =
    let same = replay_is (one_meaning words (Replay session) (Replay asked) means asks.0) in
    false≢true (sym asks.1 ∙ sym (ap (λ (s : Asked). s.secure) same) ∙ secure)

pub means_nothing : (words : List (List ℕ)) → ((command : Command) → Means words command → ⊥) → AsksNothing words
means_nothing words none asked asks = none (Replay asked) asks.0
