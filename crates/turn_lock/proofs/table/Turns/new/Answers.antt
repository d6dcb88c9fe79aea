use Rattle.std.proofs.Common.{rules, ◌≡◌, [], ◌∷◌, List, Option, Some, sym, subst}
use Rattle.atomic_table.specs.Table.{opening}
use Rattle.turn_lock.specs.Rule.{Kept}
use Rattle.turn_lock.specs.Views.{first_view}
use Rattle.turn_lock.proofs.Starting.{starts}
use Rattle.turn_lock.proofs.table.Turns.new.Goals as goal

pub new-requires : goal.new-requires
new-requires g c =
    let b = g.S.Booked.book in
    let x = c.args.state in
    let same : c.of-about.result.value ≡ x = search rules in
    let slots : c.push.new.self.items ≡ Some x ∷ [] = search rules in
    subst (λ (z : List (Option g.row.S.Denot)). Kept g.S.Booked.stands_for b (opening (0 ∷ 0 ∷ []) z (first_view (b c.of-about.result.value).opening))) (sym slots)
    (subst (λ y. Kept g.S.Booked.stands_for b (opening (0 ∷ 0 ∷ []) (Some x ∷ []) (first_view (b y).opening))) (sym same)
    (starts g.S.Booked.stands_for b x (b x).opening c.requires.empty c.requires.none (g.met.S.Booked.begins x c.requires.empty)))
