use Rattle.std.proofs.Common.{List, ℕ, ◌∙◌, ap, arith, length}
use Rattle.turn_lock.specs.declared.view.View.{View}
use Rattle.serve_core.proofs.ClientLemmas.{lines_split}
use Rattle.serve_core.proofs.crew.split_for.Goals as goal

pub split-requires-clause-kept : goal.split-requires-clause-kept
split-requires-clause-kept g c = omega (arith, lines_split c.args.who c.args.lines.now, c.requires.can.room, c.requires.parts)

pub split-requires-clause-own : goal.split-requires-clause-own
split-requires-clause-own g c =
    omega (arith, lines_split c.args.who c.args.lines.now, c.requires.can.room, c.requires.parts, ap length c.requires.can.none)

pub returns-clause-views : goal.returns-clause-views
returns-clause-views g c = record {
  kept = c.split.ensures.old;
  given = c.split.ensures.new;
  enough = omega (arith, lines_split c.args.who c.args.lines.now, c.requires.can.room, c.requires.parts);
}

pub returns-clause-theirs : goal.returns-clause-theirs
returns-clause-theirs g c = record {
  none = ap (λ (v : View). v.own) c.split.ensures.old ∙ c.requires.can.none;
  room = omega (
    arith,
    lines_split c.args.who c.args.lines.now,
    c.requires.can.room,
    c.requires.parts,
    ap (λ (v : View). v.parts) c.split.ensures.old,
  );
}
