use Rattle.std.proofs.Common.{◌≡◌, ℕ, ◌+◌, ◌<◌, ◌≤◌, length, refl, ◌∙◌, ap, subst, sym, arith}
use Rattle.flash_core.proofs.KeptLaws.{OnlyReads-refl}
use Rattle.tdb_read.specs.Views.{LogPart, view_of}
use Rattle.tdb_write.proofs.SpaceLemmas.{IsSum, reads_more, size_since, sum_all, sum_more, sum_none}
use Rattle.tdb_write.proofs.space.live_size.Goals as goal

pub loop-at-init : goal.loop-at-init
loop-at-init g c =
    let old = view_of g.F.Flash.state c.args.log.now in
    record { ready = c.requires.ready; reads = record { device = OnlyReads-refl old.device; log = refl }; sum = sum_none old c.requires.ready }

pub loop-at-preserved : goal.loop-at-preserved
loop-at-preserved g c =
    let old = view_of g.F.Flash.state c.args.log.now in
    let mid = view_of g.F.Flash.state c.loop-at.log in
    let new = view_of g.F.Flash.state c.size_at.new.log in
    let was = c.loop-at.invariant in
    let is = c.in_ok-size.ensures in
    let long : length c.loop-at.log.table.entries ≡ length old.log.table.entries = ap (λ (l : LogPart). length l.table.entries) was.reads.log in
    record {
      ready = is.ready;
      reads = reads_more old mid new was.reads is.reads;
      sum = subst (IsSum old (c.loop-at.at + 1)) (sym c.saturating_add-sum.ensures)
          (sum_more old c.requires.ready c.loop-at.at c.in_ok-size.size c.loop-at.sum (omega (arith, c.loop-at-test.true, c.len-at-end.ensures)) (size_since old mid was.reads c.loop-at.at c.in_ok-size.size is.size) was.sum);
    }

pub returns-clause-size : goal.returns-clause-size
returns-clause-size g c =
    let old = view_of g.F.Flash.state c.args.log.now in
    sum_all old c.requires.ready c.loop-at.at c.loop-at.sum (omega (arith, c.loop-at-test.false, c.loop-at.auto.at-end, c.len-at-end.ensures)) c.loop-at.invariant.sum
