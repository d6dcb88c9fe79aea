use Rattle.std.proofs.Common.{◌≡◌, ℕ, ◌+◌, [], List, length, take, refl, ◌∙◌, ap, arith}
use Rattle.std.proofs.lemmas.List.{length-take-le}
use Rattle.flash_core.specs.Images.{part}
use Rattle.flash_core.proofs.KeptLaws.{OnlyReads-refl, OnlyReads-trans}
use Rattle.flash_core.proofs.RunLaws.{counts_same}
use Rattle.kv_model.specs.Crc.{crc_from}
use Rattle.record_core.proofs.LookupLemmas.{IsCrcOf-more}
use Rattle.record_core.proofs.range.crc_of_range.Goals as goal

pub loop-done-init : goal.loop-done-init
unfolding crc_from
loop-done-init g c = record {
  reads = OnlyReads-refl (g.F.Flash.state c.args.flash.now);
  counts = record { of_reads = refl; of_writes = refl };
  sum = record { bytes = []; seen = record { long = refl; told = λ image told. refl }; is = refl };
  most = omega arith;
}

pub loop-done-preserved : goal.loop-done-preserved
loop-done-preserved g c =
    let reads = c.loop-done.invariant.reads in
    let count : ℕ = c.min-count.result in
    let piece : List ℕ = c.crc_of_piece.new.piece in
    let long : length (take count c.loop-done.work) ≡ count = length-take-le count c.loop-done.work (omega arith) in
    record {
      reads = OnlyReads-trans reads c.in_ok-sum.ensures.reads.kept;
      counts = counts_same c.loop-done.invariant.counts c.in_ok-sum.ensures.reads.counts;
      sum = IsCrcOf-more reads c.loop-done.invariant.sum
          (record { long = c.crc_of_piece.auto.piece ∙ long; told = λ image told. c.in_ok-sum.ensures.bytes image told ∙ ap (part image (c.args.place + c.loop-done.done)) long })
          c.in_ok-sum.ensures.sum;
      most = omega arith;
    }
