use Rattle.std.proofs.Common.{ℕ, ◌+◌, ◌-◌, ◌^◌, ◌<◌, List, length, sym, ◌∙◌, ap, subst, arith, inr, rules}
use Rattle.flash_core.specs.Images.{part}
use Rattle.flash_core.proofs.KeptLaws.{OnlyReads-trans}
use Rattle.kv_model.specs.declared.error.KvError.{KvError}
use Rattle.kv_model.specs.declared.error.KvError.TheVariants.{Corrupt}
use Rattle.kv_model.specs.Crc.{crc_of}
use Rattle.record_core.specs.Header.{header_front}
use Rattle.record_core.specs.Lookup.{IsCrcOf}
use Rattle.area_log.proofs.RangeLemmas.{InThree, begun_three}
use Rattle.area_log.proofs.read.read_checked.Goals as goal

corrupt : ℕ → ℕ → KvError
corrupt stored computed = Corrupt stored computed

pub returns-then-computed-header-clause-cause : goal.returns-then-computed-header-clause-cause
unfolding corrupt
returns-then-computed-header-clause-cause g c =
    let s = g.F.Flash.state c.args.flash.now in
    let header = c.args.header.now in
    let front : List ℕ = header_front header.flags header.key_size header.value_size in
    let read : ℕ = length c.args.out.now in
    let computed = c.in_ok-computed.computed in
    let reads = c.in_ok-before.ensures.reads.kept in
    let behind : ℕ = header.value_size - c.args.skipped - read in
    let n : ℕ = header.key_size + header.value_size in
    let begun : IsCrcOf s c.args.place c.from.result (crc_of front) c.args.start = subst (λ (k : ℕ). IsCrcOf s c.args.place k (crc_of front) c.args.start) (sym c.from.ensures) c.requires.begun in
    let three : InThree s c.args.place (c.from.result + c.args.skipped) n front c.crc_of_piece.new.piece computed =
    begun_three c.args.place c.from.result c.args.skipped read behind n front c.crc_of_piece.new.piece c.args.start _ _ computed
    reads (OnlyReads-trans reads c.in_ok-through.ensures.reads.kept) begun c.in_ok-before.ensures.sum
    (record { long = c.crc_of_piece.auto.piece; told = c.in_ok-through.ensures.bytes }) c.in_ok-through.ensures.sum c.in_ok-computed.ensures.sum
    (omega (arith, c.from.ensures, c.requires.within)) in
    let fits : computed < 2 ^ 32 = search rules in
    inr (record {
      payload = three.payload;
      seen = three.seen;
      differ = λ same. c.if-computed-header.true (three.is ∙ sym same);
      fits = omega (arith, fits, three.is);
      is = ap (corrupt header.crc) three.is;
    })

pub returns-clause-right : goal.returns-clause-right
returns-clause-right g c =
    let s = g.F.Flash.state c.args.flash.now in
    let header = c.args.header.now in
    let front : List ℕ = header_front header.flags header.key_size header.value_size in
    let read : ℕ = length c.args.out.now in
    let computed = c.in_ok-computed.computed in
    let reads = c.in_ok-before.ensures.reads.kept in
    let behind : ℕ = header.value_size - c.args.skipped - read in
    let n : ℕ = header.key_size + header.value_size in
    let begun : IsCrcOf s c.args.place c.from.result (crc_of front) c.args.start = subst (λ (k : ℕ). IsCrcOf s c.args.place k (crc_of front) c.args.start) (sym c.from.ensures) c.requires.begun in
    let three : InThree s c.args.place (c.from.result + c.args.skipped) n front c.crc_of_piece.new.piece computed =
    begun_three c.args.place c.from.result c.args.skipped read behind n front c.crc_of_piece.new.piece c.args.start _ _ computed
    reads (OnlyReads-trans reads c.in_ok-through.ensures.reads.kept) begun c.in_ok-before.ensures.sum
    (record { long = c.crc_of_piece.auto.piece; told = c.in_ok-through.ensures.bytes }) c.in_ok-through.ensures.sum c.in_ok-computed.ensures.sum
    (omega (arith, c.from.ensures, c.requires.within)) in
    record {
      payload = three.payload;
      seen = three.seen;
      right = sym c.if-computed-header.false ∙ three.is;
      bytes = three.kept ∙ ap (λ (k : ℕ). part three.payload (k + c.args.skipped) (length c.crc_of_piece.new.piece)) c.from.ensures;
    }
