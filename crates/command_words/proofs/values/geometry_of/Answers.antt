use Rattle.std.proofs.Common.{rules, ℕ, List}
use Rattle.flash_core.specs.declared.geometry.Geometry.{Geometry}
use Rattle.command_words.specs.Items.{values_of}
use Rattle.command_words.specs.Shown.{items_in}
use Rattle.command_words.specs.Values.{default_geometry, SpellsGeometry, Says}
use Rattle.command_words.proofs.ValueLemmas.{twice_says_nothing}
use Rattle.command_words.proofs.values.geometry_of.Goals as goal

pub returns-in_err-word : goal.returns-in_err-word
returns-in_err-word c =
    let values : List (List ℕ) = values_of c.args.option (items_in c.args.words) in
    let refused : (y : Geometry) → Says SpellsGeometry default_geometry values y → ⊥ = twice_says_nothing SpellsGeometry default_geometry values c.in_err-word.ensures in
    search rules
