use Rattle.std.proofs.Common.{◌≡◌, ◌<◌, length, true, false, get_or, sym, ap, ◌∙◌, arith, eq-eqb, ne_eqb}
use Rattle.journal_core.specs.Clients.{is_by}
use Rattle.journal_core.proofs.ClientLemmas.{positions_of-own, positions_of-other}
use Rattle.journal_core.proofs.journal.Journal.of_client.Goals as goal
use Rattle.journal_core.proofs.journal.Journal.of_client.Goals.{then-entry-who+in_ok-push, else-entry-who}

pub loop-i-preserved : goal.loop-i-preserved
loop-i-preserved c =
    let entries = c.deref-entry-items.result.now in
    let entry = c.entry-item.result in
    let within : c.loop-i.i < length entries = omega arith in
    elim c.if-entry-who.branch [
      | then-entry-who+in_ok-push w ↦
          let own : is_by c.args.who (get_or entries c.loop-i.i entry) ≡ true = ap (is_by c.args.who) (sym c.entry-item.is) ∙ eq-eqb _ _ w.if-entry-who.true in
          cc (positions_of-own c.args.who entries c.loop-i.i entry within own, w.in_ok-push.ensures.items, c.loop-i.invariant)
      | else-entry-who w ↦
          let other : is_by c.args.who (get_or entries c.loop-i.i entry) ≡ false = ap (is_by c.args.who) (sym c.entry-item.is) ∙ ne_eqb _ _ w.if-entry-who.false in
          cc (positions_of-other c.args.who entries c.loop-i.i entry within other, c.loop-i.invariant)
    ]
