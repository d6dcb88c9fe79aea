use Rattle.std.proofs.Common.{◌≡◌, ℕ, ◌+◌, ◌≤◌, false, sym, subst, arith}
use Rattle.script_core.specs.LineOrder.{calls_of}
use Rattle.turn_lock.specs.Passes.{IsIdle}
use Rattle.shared_kv.specs.Passes.{known, table_in}
use Rattle.serve_core.specs.Clients.{is_client, lines_by}
use Rattle.serve_core.specs.Owning.{Owns}
use Rattle.serve_core.proofs.WorkLemmas.{HasWorked, gave_up, not_begun, passed_by, room_left, went_on}
use Rattle.serve_core.proofs.worker.work.Goals as goal
use Rattle.serve_core.proofs.worker.work.Goals.{then-line-who+else-not-made, else-line-who}

pub loop-line-init : goal.loop-line-init
loop-line-init g c = record {
  idle = c.requires.idle;
  worked = not_begun c.who-who.result c.args.lines.now (known c.args.pass) (sym c.who-who.ensures) c.requires.can.none;
  index = omega arith;
}

pub make-made-requires-clause-room : goal.make-made-requires-clause-room
make-made-requires-clause-room g c =
    room_left c.who-who.result c.args.lines.now c.loop-line.line-index c.line-item.result c.loop-line-test.true c.line-item.is
    (known c.args.pass) (known c.loop-line.pass) c.loop-line.invariant.worked c.if-line-who.true
    (subst (λ (w : ℕ). lines_by w c.args.lines.now ≤ (known c.args.pass).parts) (sym c.who-who.ensures) c.requires.can.room)

pub returns-then-not-made-clause-owns : goal.returns-then-not-made-clause-owns
returns-then-not-made-clause-owns g c =
    subst (λ (w : ℕ). Owns (is_client w) (calls_of c.args.lines.now) false (known c.make-made.new.pass)) c.who-who.ensures
    (gave_up c.who-who.result c.args.lines.now c.loop-line.line-index c.line-item.result c.loop-line-test.true c.line-item.is
    (known c.args.pass) (known c.loop-line.pass) c.loop-line.invariant.worked c.if-line-who.true (known c.make-made.new.pass) c.requires.lines
    c.if-not-made.ensures.makes)

pub loop-line-preserved : goal.loop-line-preserved
loop-line-preserved g c = elim c.if-line-who.branch [
  | then-line-who+else-not-made w ↦ record {
    idle = subst (λ p. IsIdle (table_in c.args.shared.now) p.pass) (sym w.pass-is) w.make-made.ensures.idle;
    worked = subst (λ p. HasWorked c.who-who.result c.args.lines.now (c.loop-line.line-index + 1) (known c.args.pass) (known p)) (sym w.pass-is)
        (went_on c.who-who.result c.args.lines.now c.loop-line.line-index c.line-item.result c.loop-line-test.true c.line-item.is
        (known c.args.pass) (known c.loop-line.pass) c.loop-line.invariant.worked w.if-line-who.true (known w.make-made.new.pass) w.if-not-made.ensures.makes);
    index = omega (arith, w.index-is, c.loop-line.invariant.index);
  }
  | else-line-who w ↦ record {
    idle = subst (λ p. IsIdle (table_in c.args.shared.now) p.pass) (sym w.pass-is) c.loop-line.invariant.idle;
    worked = subst (λ p. HasWorked c.who-who.result c.args.lines.now (c.loop-line.line-index + 1) (known c.args.pass) (known p)) (sym w.pass-is)
        (passed_by c.who-who.result c.args.lines.now c.loop-line.line-index c.line-item.result c.loop-line-test.true c.line-item.is
        (known c.args.pass) (known c.loop-line.pass) c.loop-line.invariant.worked w.if-line-who.false);
    index = omega (arith, w.index-is, c.loop-line.invariant.index);
  }
]
