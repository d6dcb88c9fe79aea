use Rattle.std.proofs.Common.{ℕ, ◌+◌, ◌≤◌, List, length, take, ◌∙◌, ap, subst, arith}
use Rattle.inc_set.specs.declared.open_set.OpenSet.{OpenSet}
use Rattle.inc_set.specs.Sets.{Holds}
use Rattle.inc_set.proofs.FedLemmas.{one_piece}
use Rattle.inc_set.proofs.tests.feed_all.Goals as goal

pub loop-done-preserved : goal.loop-done-preserved
loop-done-preserved g c =
    let value = c.args.value.now in
    let done = c.loop-done.done in
    let count : ℕ = c.min-count.result in
    let so_far = c.loop-done.invariant in
    let now = g.F.Flash.state c.feed.new.flash in
    let within : done + count ≤ length value = omega (arith, so_far.within, c.min-count.ensures) in
    record {
      holds = subst (λ (l : List ℕ). Holds now.geometry now.image c.feed.new.rest c.feed.new.self l) (one_piece value done count)
          (c.in_ok-feed.ensures.holds (take done value) so_far.holds);
      size = ap (λ (s : OpenSet). s.size) c.in_ok-feed.ensures.set ∙ so_far.size;
      within = within;
    }
