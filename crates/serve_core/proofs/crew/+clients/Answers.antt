use Rattle.std.proofs.Common.{◌≡◌, ◌&&◌, Bool, ap, arith, sym, ◌∙◌}
use Rattle.script_core.specs.LineOrder.{calls_of}
use Rattle.shared_kv.specs.Passes.{known}
use Rattle.serve_core.proofs.ClientLemmas.{lines_split, serves_idle, serves_none}
use Rattle.serve_core.proofs.CrewLemmas.{is_whole, own_both}
use Rattle.serve_core.proofs.crew.+clients.Goals as goal
use Rattle.serve_core.proofs.crew.+clients.Goals.{then-made, else-made}

pub returns-then-who-gt-LAST_CLIENT-clause-owns : goal.returns-then-who-gt-LAST_CLIENT-clause-owns
returns-then-who-gt-LAST_CLIENT-clause-owns g t c =
    serves_none c.args.who c.args.lines.now (known c.args.pass) c.if-who-gt-LAST_CLIENT.true c.requires.lines c.requires.can.none

pub serve_from-requires-clause-can : goal.serve_from-requires-clause-can
serve_from-requires-clause-can g t c κs within = record {
  none = c.requires.can.none;
  room = omega (arith, lines_split c.args.who c.args.lines.now, c.requires.can.room);
}

pub returns-then-parts-eq0-clause-owns : goal.returns-then-parts-eq0-clause-owns
returns-then-parts-eq0-clause-owns g t c =
    serves_idle c.args.who c.args.lines.now c.serve_from.result.1 (known c.serve_from.result.0) (sym c.count_of-parts.ensures ∙ c.if-parts-eq0.true)
    c.serve_from.ensures.owns

pub returns-clause-same : goal.returns-clause-same
returns-clause-same g t c =
    is_whole (known c.args.pass) (known c.split_for-own.new.pass) (known c.split_for-own.result) (known c.join-own.result.1.0) (known c.join-own.result.0.0) (known c.join.new.into)
    c.args.who c.count_of-parts.result c.split_for-own.ensures.views c.join.ensures.view c.join-own.ensures.second.1.0 c.join-own.ensures.first.1.0

pub returns-clause-owns : goal.returns-clause-owns
returns-clause-owns g t c =
    let both : c.if-made.result ≡ (c.join-own.result.0.1 && c.join-own.result.1.1) =
    elim c.if-made.branch [
      | then-made w ↦ w.result-is ∙ ap (λ (b : Bool). b && c.join-own.result.1.1) (sym w.if-made.true)
      | else-made w ↦ w.result-is ∙ w.if-made.false ∙ ap (λ (b : Bool). b && c.join-own.result.1.1) (sym w.if-made.false)
    ] in
    own_both (known c.args.pass) (known c.split_for-own.new.pass) (known c.split_for-own.result) (known c.join-own.result.1.0) (known c.join-own.result.0.0) (known c.join.new.into)
    c.args.who c.count_of-parts.result c.split_for-own.ensures.views c.join.ensures.view (calls_of c.args.lines.now) c.join-own.result.1.1 c.join-own.result.0.1
    c.if-made.result c.join.ensures.begins both c.join-own.ensures.second.1.1 c.join-own.ensures.first.1.1
