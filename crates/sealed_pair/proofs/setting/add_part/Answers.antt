use Rattle.std.proofs.Common.{◌+◌, ◌-◌, ℕ, List, length, length-take, length-drop, take, drop, subst, arith}
use Rattle.sealed_pair.specs.Setting.{HasAddedPart, calls}
use Rattle.sealed_pair.proofs.SettingPartLemmas.{fails_more, next_piece, part_more}
use Rattle.sealed_pair.proofs.setting.add_part.Goals as goal

pub returns-in-Err-clause-fails : goal.returns-in-Err-clause-fails
returns-in-Err-clause-fails g c =
    let value = c.args.value.now in
    let done = c.loop-done.done in
    let count : ℕ = c.min-count.result in
    let so_far = c.loop-done.invariant.added in
    fails_more g.K.Kv.rules_by _ (g.K.Kv.state c.loop-done.store) _ c.args.who so_far.bytes (length (take (done + count - done) (drop done value))) (length value) c.in-Err.refusal so_far.added c.in-Err.ensures.fails
    (omega (arith, so_far.long, length-take done value, c.loop-done.invariant.most, length-take (done + count - done) (drop done value), length-drop done value))

pub loop-done-preserved : goal.loop-done-preserved
loop-done-preserved g c =
    let value = c.args.value.now in
    let done = c.loop-done.done in
    let count : ℕ = c.min-count.result in
    record {
      most = omega (arith, c.min-count.ensures, c.loop-done.invariant.most);
      added = subst (λ (l : List ℕ). HasAddedPart (calls g.K.Kv.rules_by (g.K.Kv.state c.args.store.now) (g.K.Kv.state c.add_piece.new.store) c.args.who) c.args.stream.now c.add_piece.new.stream l)
          (next_piece value done count)
          (part_more g.K.Kv.rules_by (g.K.Kv.state c.args.store.now) (g.K.Kv.state c.loop-done.store) (g.K.Kv.state c.add_piece.new.store) c.args.who c.args.stream.now c.loop-done.stream c.add_piece.new.stream
          (take done value) (take (done + count - done) (drop done value)) c.loop-done.invariant.added c.in-Ok.ensures.added);
    }
