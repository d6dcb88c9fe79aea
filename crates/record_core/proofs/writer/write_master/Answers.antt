use Rattle.std.proofs.Common.{◌≡◌, ℕ, length, sym, ap, subst}
use Rattle.base_core.specs.Sizes.{record_size}
use Rattle.record_core.specs.Written.{CanWrite}
use Rattle.record_core.proofs.WriterLemmas.{can_write_master}
use Rattle.record_core.proofs.writer.write_master.Goals as goal

pub program_record-requires-clause-can : goal.program_record-requires-clause-can
program_record-requires-clause-can g c =
    let old = g.F.Flash.state c.args.flash.now in
    let long : length c.value_of_master.result ≡ 8 = ap length c.value_of_master.ensures in
    subst (λ (n : ℕ). CanWrite old c.args.area (record_size old.geometry.prog 4 n)) (sym long)
    (can_write_master old c.args.area c.requires.valid c.requires.area c.requires.erased)
