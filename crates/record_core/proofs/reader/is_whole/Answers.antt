use Rattle.std.proofs.Common.{◌≡◌, ◌↔◌, ℕ, ◌+◌, ◌++◌, IsTrue, sym, ◌∙◌, ap, subst, arith}
use Rattle.std.specs.Prelude.{IfOk}
use Rattle.flash_core.specs.declared.geometry.Geometry.{Geometry}
use Rattle.flash_core.specs.Images.{part}
use Rattle.flash_core.proofs.GeometryLaws.{prog_positive}
use Rattle.kv_model.specs.Crc.{crc_of}
use Rattle.base_core.specs.Units.{up}
use Rattle.base_core.proofs.UnitLemmas.{up-ge}
use Rattle.record_core.specs.Header.{header_front}
use Rattle.record_core.specs.Reading.{IsPadded, crc_read}
use Rattle.record_core.proofs.ReaderLemmas.{whole_padded}
use Rattle.record_core.proofs.reader.is_whole.Goals as goal

pub crc_of_record-requires-clause-inside : goal.crc_of_record-requires-clause-inside
crc_of_record-requires-clause-inside g c =
    let s = g.F.Flash.state c.args.flash.now in
    let header = c.args.header.now in
    let size : c.padded_size.result ≡ up s.geometry.prog 24 = c.padded_size.ensures ∙ ap (λ (x : Geometry). up x.prog 24) c.geometry.ensures in
    omega (arith, size, up-ge s.geometry.prog (header.key_size + header.value_size) (prog_positive s.geometry c.requires.valid), c.requires.header.inside)

pub returns-clause-whole : goal.returns-clause-whole
returns-clause-whole g c image told =
    let s = g.F.Flash.state c.args.flash.now in
    let header = c.args.header.now in
    let key = c.args.key.now in
    let prog : ℕ = s.geometry.prog in
    let size : c.padded_size.result ≡ up prog 24 = c.padded_size.ensures ∙ ap (λ (x : Geometry). up x.prog 24) c.geometry.ensures in
    let at : c.args.place + c.padded_size.result + c.from-key_size.result ≡ c.args.place + (up prog 24 + header.key_size) = omega (arith, size, c.from-key_size.ensures) in
    let computed : c.in_ok-computed.computed ≡ crc_read prog image c.args.place key header =
    subst (λ (p : ℕ). c.in_ok-computed.computed ≡ crc_of (header_front header.flags header.key_size header.value_size ++ key ++ part image p header.value_size)) at
    (c.in_ok-computed.ensures.sum image told) in
    let sum : header.crc ≡ crc_read prog image c.args.place key header = sym c.if-not-is_right.false ∙ computed in
    let reads = c.in_ok-computed.ensures.reads.kept in
    let same_prog = ap (λ (x : Geometry). x.prog) reads.geometry in
    whole_padded prog image c.args.place key header sum c.is_padded.result
    (subst (λ (n : ℕ). IfOk c.is_padded.result (λ is_padded. IsTrue is_padded ↔ IsPadded prog image c.args.place (n + header.value_size))) c.from-key_size.ensures
    (subst (λ (p : ℕ). IfOk c.is_padded.result (λ is_padded. IsTrue is_padded ↔ IsPadded p image c.args.place (c.from-key_size.result + header.value_size))) same_prog
    (c.is_padded.ensures.padded image (reads.image ∙ told))))
