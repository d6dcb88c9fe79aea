use Rattle.std.proofs.Common.{rules, ◌≡◌, ℕ, List, [], length, sym, subst}
use Rattle.kv_model.specs.declared.call.Reply.TheVariants.{Done}
use Rattle.kv_model.specs.Kv.{answered}
use Rattle.kv_model.specs.Operations.{Add}
use Rattle.sealed_pair.specs.Begun.{active_set, parts_in}
use Rattle.sealed_pair.specs.Running.{HasRun}
use Rattle.sealed_pair.proofs.PieceRunLemmas.{add_done, add_fails, no_bytes, nothing_added}
use Rattle.sealed_pair.proofs.pieces.add_set.Goals as goal

pub returns-then-is_empty-clause-run : goal.returns-then-is_empty-clause-run
returns-then-is_empty-clause-run g c root next above below sealing =
    let zero : length c.args.value.now ≡ 0 = search rules in
    let none : c.args.value.now ≡ [] = no_bytes c.args.value.now zero in
    subst (λ (l : List ℕ). HasRun (parts_in root next (active_set c.args.who c.args.set above below) g.U.Kv.rules_by (g.U.Kv.state c.args.primary.now) g.R.Kv.rules_by (g.R.Kv.state c.args.rollback.now)) (parts_in root next (active_set c.args.who c.args.set above below) g.U.Kv.rules_by (g.U.Kv.state c.args.primary.now) g.R.Kv.rules_by (g.R.Kv.state c.args.rollback.now)) (answered c.args.who (Add l) Done)) (sym none)
    (nothing_added root next g.U.Kv.rules_by g.R.Kv.rules_by (g.U.Kv.state c.args.primary.now) (g.R.Kv.state c.args.rollback.now) c.args.who c.args.set sealing above below)

pub returns-in-Ok-clause-run : goal.returns-in-Ok-clause-run
returns-in-Ok-clause-run g c root next above below sealing =
    add_done root next g.U.Kv.rules_by g.R.Kv.rules_by (g.U.Kv.state c.args.primary.now) (g.R.Kv.state c.args.rollback.now) c.args.who c.args.set sealing above below c.args.value.now c.requires.fits (g.U.Kv.state c.feed_part.new.store) c.in-Ok.set c.in-Ok.ensures.fed

pub returns-in-Ok-clause-sealing : goal.returns-in-Ok-clause-sealing
returns-in-Ok-clause-sealing g c root next sealing = c.in-Ok.ensures.fed.sealing root next sealing

pub returns-in-Err-clause-run : goal.returns-in-Err-clause-run
returns-in-Err-clause-run g c root next above below sealing =
    add_fails root next g.U.Kv.rules_by g.R.Kv.rules_by (g.U.Kv.state c.args.primary.now) (g.R.Kv.state c.args.rollback.now) c.args.who c.args.set sealing above below c.args.value.now c.requires.fits (g.U.Kv.state c.feed_part.new.store) (g.R.Kv.state c.abort_tag.new.rollback)
    c.in-Err.refusal c.in-Err.ensures.fails (c.abort_tag.ensures c.args.set.key []) (g.met.R.Kv.lawful c.abort_tag.new.rollback)
