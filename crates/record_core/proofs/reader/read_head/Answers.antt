use Rattle.std.proofs.Common.{ℕ, ◌-◌, ◌<◌, ◌≡◌, ap, subst, arith}
use Rattle.std.specs.Prelude.{IsNone}
use Rattle.flash_core.specs.declared.geometry.Geometry.{Geometry}
use Rattle.flash_core.proofs.GeometryLaws.{prog_positive}
use Rattle.base_core.specs.Sizes.{record_size}
use Rattle.record_core.specs.declared.header.Header.{Header}
use Rattle.record_core.specs.Header.{IsHeader, header_bytes}
use Rattle.record_core.proofs.ReaderLemmas.{head_found, no_room}
use Rattle.record_core.proofs.reader.read_head.Goals as goal

pub returns-then-end-place-lt-HEADER_SIZE-clause-found : goal.returns-then-end-place-lt-HEADER_SIZE-clause-found
returns-then-end-place-lt-HEADER_SIZE-clause-found g c image told =
    let s = g.F.Flash.state c.args.flash.now in
    no_room s.geometry.prog (prog_positive s.geometry c.requires.valid) image c.args.place c.args.end c.requires.from (omega arith)

pub returns-clause-found : goal.returns-clause-found
returns-clause-found g c image told =
    let s = g.F.Flash.state c.args.flash.now in
    let prog = ap (λ (x : Geometry). x.prog) c.geometry-prog.ensures in
    let bytes = c.read_part.new.buf in
    head_found s.geometry.prog (prog_positive s.geometry c.requires.valid) image c.args.place c.args.end c.requires.from bytes
    (c.in_ok-read_part.ensures.bytes image told) c.header_within.result c.header_within.ensures.spelled
    (subst (λ (p : ℕ). (header : Header) → IsHeader header.flags header.key_size header.value_size → bytes ≡ header_bytes header → IsNone c.header_within.result → c.args.end - c.args.place < record_size p header.key_size header.value_size)
    prog c.header_within.ensures.none)
