use Rattle.std.proofs.Common.{◌≡◌, ℕ, ◌≤◌, [], length, sym, ◌∙◌, subst, rules}
use Rattle.base_core.specs.Sizes.{record_size}
use Rattle.flash_core.specs.declared.geometry.Geometry.{Geometry}
use Rattle.flash_core.specs.Sizes.{IsValid}
use Rattle.inc_set.specs.Sets.{Holds}
use Rattle.inc_set.proofs.FedLemmas.{erased_there, in_first_area}
use Rattle.inc_set.proofs.tests.write_in_pieces.Goals as goal

pub feed_all-requires-clause-holds : goal.feed_all-requires-clause-holds
feed_all-requires-clause-holds g c =
    let state = g.F.Flash.state c.args.flash.now in
    let geometry = c.args.geometry in
    let valid : IsValid geometry = search rules in
    let erase : geometry.erase ≡ 4096 = search rules in
    let units : geometry.units_per_area ≡ 8 = search rules in
    let size : ℕ = record_size geometry.prog (length c.in_ok-key.key) (length c.args.value.now) in
    let small : size ≤ 24576 = search rules in
    let unit : length c.begin-set.new.rest ≡ geometry.prog = search rules in
    subst (λ (at : Geometry). Holds at state.image c.begin-set.new.rest c.begin-set.result []) (sym c.requires.geometry)
    (c.begin-set.ensures.holds geometry state.image 0 valid (sym c.begin-set.ensures.len ∙ unit) (in_first_area geometry size erase units small)
    (λ image told. erased_there geometry image size erase units small (c.requires.erased image told)))
