use Rattle.std.proofs.Common.{◌≡◌, ℕ, ◌+◌, ◌≤◌, length, sym, ◌∙◌, ap, subst, arith}
use Rattle.base_core.specs.Sizes.{record_size}
use Rattle.base_core.specs.Units.{up}
use Rattle.base_core.proofs.UnitLemmas.{up-ge}
use Rattle.flash_core.specs.declared.geometry.Geometry.{Geometry}
use Rattle.flash_core.specs.Calls.{CanProgram}
use Rattle.flash_core.specs.Sizes.{size_of}
use Rattle.flash_core.proofs.GeometryLaws.{prog_positive}
use Rattle.record_core.proofs.EndingLemmas.{handed_error}
use Rattle.record_core.proofs.WriterLemmas.{header_in_work}
use Rattle.area_collect.proofs.CopyLemmas.{can_program_front, can_write_behind, reads_then_within, record_copied}
use Rattle.area_collect.proofs.PayloadLemmas.{within_then, within_wider}
use Rattle.area_collect.proofs.copy.copy_record.Goals as goal

pub copy_checked-requires-clause-inside : goal.copy_checked-requires-clause-inside
copy_checked-requires-clause-inside g c =
    let old = g.F.Flash.state c.args.flash.now in
    let prog : ℕ = old.geometry.prog in
    let positive = prog_positive old.geometry c.requires.valid in
    let header = c.in_ok-head.head.header in
    let reads = c.in_ok-head.ensures.reads.kept in
    let n : ℕ = header.key_size + header.value_size in
    let ahead : c.padded_size-ahead.result ≡ up prog 24 = c.padded_size-ahead.ensures ∙ ap (λ (x : Geometry). up x.prog 24) c.geometry-prog.ensures in
    let behind : up (g.F.Flash.state c.read_head.new.flash).geometry.prog n ≡ up prog n = ap (λ (x : Geometry). up x.prog n) reads.geometry in
    let within : up prog 24 + up prog n ≤ c.args.room = c.in_ok-head.ensures.head.within in
    omega (arith, ahead, within, up-ge prog n positive, c.requires.inside, ap size_of reads.geometry)

pub copy_checked-requires-clause-can : goal.copy_checked-requires-clause-can
copy_checked-requires-clause-can g c =
    let old = g.F.Flash.state c.args.flash.now in
    let prog : ℕ = old.geometry.prog in
    let positive = prog_positive old.geometry c.requires.valid in
    let header = c.in_ok-head.head.header in
    let reads = c.in_ok-head.ensures.reads.kept in
    let n : ℕ = header.key_size + header.value_size in
    let ahead : c.padded_size-ahead.result ≡ up prog 24 = c.padded_size-ahead.ensures ∙ ap (λ (x : Geometry). up x.prog 24) c.geometry-prog.ensures in
    let behind : up (g.F.Flash.state c.read_head.new.flash).geometry.prog n ≡ up prog n = ap (λ (x : Geometry). up x.prog n) reads.geometry in
    let within : up prog 24 + up prog n ≤ c.args.room = c.in_ok-head.ensures.head.within in
    can_write_behind c.requires.can reads c.padded_size-ahead.result (up prog n) _ ahead behind (omega (arith, ahead, within))

pub returns-in_err-copy_checked-clause-runs : goal.returns-in_err-copy_checked-clause-runs
returns-in_err-copy_checked-clause-runs g c =
    let old = g.F.Flash.state c.args.flash.now in
    let prog : ℕ = old.geometry.prog in
    let positive = prog_positive old.geometry c.requires.valid in
    let header = c.in_ok-head.head.header in
    let reads = c.in_ok-head.ensures.reads.kept in
    let n : ℕ = header.key_size + header.value_size in
    let ahead : c.padded_size-ahead.result ≡ up prog 24 = c.padded_size-ahead.ensures ∙ ap (λ (x : Geometry). up x.prog 24) c.geometry-prog.ensures in
    let behind : up (g.F.Flash.state c.read_head.new.flash).geometry.prog n ≡ up prog n = ap (λ (x : Geometry). up x.prog n) reads.geometry in
    let within : up prog 24 + up prog n ≤ c.args.room = c.in_ok-head.ensures.head.within in
    handed_error c.from_residual-in_err-copy_checked.result c.in_err-copy_checked.field-0.0 c.from_residual-in_err-copy_checked.ensures.1
    (reads_then_within c.args.target c.args.room c.in_ok-head.ensures.reads
    (within_wider c.args.target c.args.room (c.args.target + c.padded_size-ahead.result) _ (omega arith) (omega (arith, ahead, behind, within)) c.in_err-copy_checked.ensures.runs))

pub program_header-requires-clause-room : goal.program_header-requires-clause-room
program_header-requires-clause-room g c =
    let old = g.F.Flash.state c.args.flash.now in
    let prog : ℕ = old.geometry.prog in
    let positive = prog_positive old.geometry c.requires.valid in
    let header = c.in_ok-head.head.header in
    let reads = c.in_ok-head.ensures.reads.kept in
    let n : ℕ = header.key_size + header.value_size in
    let ahead : c.padded_size-ahead.result ≡ up prog 24 = c.padded_size-ahead.ensures ∙ ap (λ (x : Geometry). up x.prog 24) c.geometry-prog.ensures in
    let behind : up (g.F.Flash.state c.read_head.new.flash).geometry.prog n ≡ up prog n = ap (λ (x : Geometry). up x.prog n) reads.geometry in
    let within : up prog 24 + up prog n ≤ c.args.room = c.in_ok-head.ensures.head.within in
    let same : up (g.F.Flash.state c.copy_checked.new.flash).geometry.prog 24 ≡ up prog 24 = ap (λ (x : Geometry). up x.prog 24) (c.in_ok-copy_checked.ensures.runs.kept.geometry ∙ reads.geometry) in
    omega (arith, same, c.copy_checked.auto.work, header_in_work prog (length c.args.work.now) positive c.requires.unit c.requires.least)

pub program_header-requires-clause-can : goal.program_header-requires-clause-can
program_header-requires-clause-can g c =
    let old = g.F.Flash.state c.args.flash.now in
    let prog : ℕ = old.geometry.prog in
    let positive = prog_positive old.geometry c.requires.valid in
    let header = c.in_ok-head.head.header in
    let reads = c.in_ok-head.ensures.reads.kept in
    let n : ℕ = header.key_size + header.value_size in
    let ahead : c.padded_size-ahead.result ≡ up prog 24 = c.padded_size-ahead.ensures ∙ ap (λ (x : Geometry). up x.prog 24) c.geometry-prog.ensures in
    let behind : up (g.F.Flash.state c.read_head.new.flash).geometry.prog n ≡ up prog n = ap (λ (x : Geometry). up x.prog n) reads.geometry in
    let within : up prog 24 + up prog n ≤ c.args.room = c.in_ok-head.ensures.head.within in
    let same : up (g.F.Flash.state c.copy_checked.new.flash).geometry.prog 24 ≡ c.padded_size-ahead.result = ap (λ (x : Geometry). up x.prog 24) (c.in_ok-copy_checked.ensures.runs.kept.geometry ∙ reads.geometry) ∙ sym ahead in
    subst (CanProgram (g.F.Flash.state c.copy_checked.new.flash) c.args.target) (sym same)
    (can_program_front c.requires.can c.requires.valid c.padded_size-ahead.result _ ahead (omega (arith, ahead, within))
    (reads_then_within (c.args.target + c.padded_size-ahead.result) _ c.in_ok-head.ensures.reads c.in_ok-copy_checked.ensures.runs))

pub returns-in_err-program_header-clause-runs : goal.returns-in_err-program_header-clause-runs
returns-in_err-program_header-clause-runs g c =
    let old = g.F.Flash.state c.args.flash.now in
    let prog : ℕ = old.geometry.prog in
    let positive = prog_positive old.geometry c.requires.valid in
    let header = c.in_ok-head.head.header in
    let reads = c.in_ok-head.ensures.reads.kept in
    let n : ℕ = header.key_size + header.value_size in
    let ahead : c.padded_size-ahead.result ≡ up prog 24 = c.padded_size-ahead.ensures ∙ ap (λ (x : Geometry). up x.prog 24) c.geometry-prog.ensures in
    let behind : up (g.F.Flash.state c.read_head.new.flash).geometry.prog n ≡ up prog n = ap (λ (x : Geometry). up x.prog n) reads.geometry in
    let within : up prog 24 + up prog n ≤ c.args.room = c.in_ok-head.ensures.head.within in
    let so_far = reads_then_within c.args.target c.args.room c.in_ok-head.ensures.reads
    (within_wider c.args.target c.args.room (c.args.target + c.padded_size-ahead.result) _ (omega arith) (omega (arith, ahead, behind, within)) c.in_ok-copy_checked.ensures.runs) in
    let same : up (g.F.Flash.state c.copy_checked.new.flash).geometry.prog 24 ≡ up prog 24 = ap (λ (x : Geometry). up x.prog 24) (c.in_ok-copy_checked.ensures.runs.kept.geometry ∙ reads.geometry) in
    handed_error c.from_residual-in_err-program_header.result c.in_err-program_header.field-0.0 c.from_residual-in_err-program_header.ensures.1
    (within_then c.args.target c.args.room c.args.target _ (omega arith) (omega (arith, same, within)) so_far c.in_err-program_header.ensures.runs)

pub returns-clause-runs : goal.returns-clause-runs
returns-clause-runs g c =
    let old = g.F.Flash.state c.args.flash.now in
    let prog : ℕ = old.geometry.prog in
    let positive = prog_positive old.geometry c.requires.valid in
    let header = c.in_ok-head.head.header in
    let reads = c.in_ok-head.ensures.reads.kept in
    let n : ℕ = header.key_size + header.value_size in
    let ahead : c.padded_size-ahead.result ≡ up prog 24 = c.padded_size-ahead.ensures ∙ ap (λ (x : Geometry). up x.prog 24) c.geometry-prog.ensures in
    let behind : up (g.F.Flash.state c.read_head.new.flash).geometry.prog n ≡ up prog n = ap (λ (x : Geometry). up x.prog n) reads.geometry in
    let within : up prog 24 + up prog n ≤ c.args.room = c.in_ok-head.ensures.head.within in
    let so_far = reads_then_within c.args.target c.args.room c.in_ok-head.ensures.reads
    (within_wider c.args.target c.args.room (c.args.target + c.padded_size-ahead.result) _ (omega arith) (omega (arith, ahead, behind, within)) c.in_ok-copy_checked.ensures.runs) in
    let same : up (g.F.Flash.state c.copy_checked.new.flash).geometry.prog 24 ≡ up prog 24 = ap (λ (x : Geometry). up x.prog 24) (c.in_ok-copy_checked.ensures.runs.kept.geometry ∙ reads.geometry) in
    within_then c.args.target c.args.room c.args.target _ (omega arith) (omega (arith, same, within)) so_far c.in_ok-program_header.ensures.runs

pub returns-clause-copied : goal.returns-clause-copied
returns-clause-copied g c =
    let old = g.F.Flash.state c.args.flash.now in
    let prog : ℕ = old.geometry.prog in
    let positive = prog_positive old.geometry c.requires.valid in
    let header = c.in_ok-head.head.header in
    let reads = c.in_ok-head.ensures.reads.kept in
    let n : ℕ = header.key_size + header.value_size in
    let ahead : c.padded_size-ahead.result ≡ up prog 24 = c.padded_size-ahead.ensures ∙ ap (λ (x : Geometry). up x.prog 24) c.geometry-prog.ensures in
    let behind : up (g.F.Flash.state c.read_head.new.flash).geometry.prog n ≡ up prog n = ap (λ (x : Geometry). up x.prog n) reads.geometry in
    let within : up prog 24 + up prog n ≤ c.args.room = c.in_ok-head.ensures.head.within in
    let size : c.size_of_record.result ≡ up prog 24 + up prog n =
    c.size_of_record.ensures
    ∙ ap (λ (k : ℕ). record_size c.geometry-prog.result.prog k header.value_size) c.from.ensures
    ∙ ap (λ (x : Geometry). record_size x.prog header.key_size header.value_size) c.geometry-prog.ensures in
    record_copied c.args.place c.args.target c.args.room c.padded_size-ahead.result _ header c.in_ok-head.head.bytes (g.met.F.Flash.lawful c.args.flash.now) c.requires.valid c.requires.can.inside reads ahead
    c.in_ok-head.ensures.seen c.in_ok-head.ensures.head c.in_ok-copy_checked.ensures.copied c.in_ok-program_header.ensures.written c.in_ok-copy_checked.ensures.runs.kept.geometry
    (ap (λ (k : ℕ). c.args.target + k) size)
