use Rattle.std.proofs.Common.{◌≡◌, ℕ, List, refl, ap, sym, ◌∙◌, arith}
use Rattle.std.specs.Int.{to_be_bytes, w128}
use Rattle.kv_model.specs.Crc.{crc_from, crc_of}
use Rattle.kv_model.proofs.CrcLemmas.{crc_from-append}
use Rattle.kv_bench.specs.Passes.{repeated}
use Rattle.kv_bench.proofs.Rounds.{repeated-more}
use Rattle.kv_bench.proofs.kernels.crc_checksum.Goals as goal

pub loop-round-init : goal.loop-round-init
unfolding repeated crc_from
loop-round-init c = refl

pub loop-round-preserved : goal.loop-round-preserved
loop-round-preserved c =
    let buffer : List ℕ = c.args.buffer.now in
    let so_far : List ℕ = repeated buffer c.loop-round._round in
    c.crc-sum.ensures
    ∙ ap (λ (n : ℕ). crc_from n buffer) c.loop-round.invariant
    ∙ sym (crc_from-append 0xFFFF_FFFF so_far buffer)
    ∙ ap crc_of (sym (repeated-more buffer c.loop-round._round))

pub returns : goal.returns
returns c =
    let end : c.loop-round._round ≡ c.args.rounds = omega arith in
    c.to_be_bytes.ensures
    ∙ ap (to_be_bytes w128) (c.from.ensures ∙ c.loop-round.invariant ∙ ap (λ (n : ℕ). crc_of (repeated c.args.buffer.now n)) end)
