use Rattle.std.proofs.Common.{◌≡◌, ◌-◌}
use Rattle.std.specs.Option.{ForSome}
use Rattle.flash_core.specs.Calls.{CountsStand, OnlyReads}
use Rattle.area_log.specs.Areas.{end_of, IsEnd}
use Rattle.area_log.proofs.ScanLemmas.{Walked}
use Rattle.area_log.proofs.area.Area.scan.Given as goal

abbrev pub invariant-loop-header : goal.invariant-loop-header
invariant-loop-header g l =
    let old = g.F.Flash.state l.fn.flash in
    record {
      reads : OnlyReads old (g.F.Flash.state l.flash);
      counts : CountsStand old (g.F.Flash.state l.flash);
      refusals : g.V.Visitor.refusals l.visitor ≡ g.V.Visitor.refusals l.fn.visitor;
      same : g.V.Visitor.area l.visitor ≡ l.self;
      end : IsEnd old.geometry l.self l.place;
      walked : ForSome old.image (λ image. Walked old.geometry image l.self l.place (g.V.Visitor.stands_for l.visitor));
    }

abbrev pub decreases-loop-header : goal.decreases-loop-header
decreases-loop-header g l = end_of l.self - l.place
