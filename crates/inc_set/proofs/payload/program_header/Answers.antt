use Rattle.std.proofs.Common.{ℕ, ◌≤◌, subst, sym, arith}
use Rattle.base_core.specs.Units.{up}
use Rattle.flash_core.proofs.GeometryLaws.{prog_positive}
use Rattle.record_core.proofs.WriterLemmas.{header_in_work}
use Rattle.inc_set.proofs.payload.program_header.Goals as goal

pub program_padded-requires-clause-room : goal.program_padded-requires-clause-room
program_padded-requires-clause-room g c =
    let old = g.F.Flash.state c.args.flash.now in
    let fits : up old.geometry.prog 24 ≤ 4096 = header_in_work old.geometry.prog 4096 (prog_positive old.geometry c.requires.valid) (omega (arith, c.requires.valid.prog_limit)) (omega arith) in
    subst (λ (n : ℕ). up old.geometry.prog n ≤ 4096) (sym c.write_header.array_long) fits
