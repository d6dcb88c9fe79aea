use Rattle.std.proofs.Common.{◌≡◌, ℕ, ◌+◌, List, length, refl, sym, ◌∙◌, ap, subst, arith, rules}
use Rattle.std.specs.Prelude.{IfErr}
use Rattle.flash_core.specs.declared.flash.FlashFault.{FlashFault}
use Rattle.flash_core.specs.declared.flash.FlashFault.TheVariants.{Write}
use Rattle.flash_core.specs.Runs.{Done, RunsBy, fault_ending}
use Rattle.flash_core.proofs.RunLaws.{handed_on}
use Rattle.flash_core.specs.declared.geometry.Geometry.{Geometry}
use Rattle.flash_core.specs.Calls.{CanProgram, Writes}
use Rattle.flash_core.proofs.GeometryLaws.{prog_positive}
use Rattle.base_core.specs.Units.{up}
use Rattle.record_core.specs.Header.{header_bytes}
use Rattle.record_core.specs.Record.{header_of, padded, record_header, record_payload}
use Rattle.record_core.specs.Written.{AppendsRecord, Ascends, CanWrite}
use Rattle.record_core.proofs.RecordLemmas.{length-header_bytes, length-record_header}
use Rattle.record_core.proofs.WriterLemmas.{HasPayload, can_payload, header_after, header_in_work, payload_long, record_failed, record_put, record_runs}
use Rattle.record_core.proofs.writer.program_record.Goals as goal

padded_header : (prog flags : ℕ) (key value : List ℕ) → padded prog (header_bytes (header_of flags key value)) ≡ record_header prog flags key value
unfolding record_header
padded_header prog flags key value = refl

pub program_payload-requires-clause-can : goal.program_payload-requires-clause-can
program_payload-requires-clause-can g c =
    let old = g.F.Flash.state c.args.flash.now in
    let n : ℕ = up old.geometry.prog (length c.args.payload.now.key.now + length c.args.payload.now.value.now) in
    let ahead : c.padded_size.result ≡ up old.geometry.prog 24 = c.padded_size.ensures ∙ ap (λ (x : Geometry). up x.prog 24) c.geometry.ensures in
    subst (λ (p : ℕ). CanWrite old (c.args.place + p) n) (sym ahead) (can_payload old c.requires.valid c.args.place n c.requires.can)

pub returns-in_err-program_payload-clause-runs : goal.returns-in_err-program_payload-clause-runs
returns-in_err-program_payload-clause-runs g c =
    let old = g.F.Flash.state c.args.flash.now in
    let prog : ℕ = old.geometry.prog in
    let key = c.args.payload.now.key.now in
    let value = c.args.payload.now.value.now in
    let ahead : c.padded_size.result ≡ up prog 24 = c.padded_size.ensures ∙ ap (λ (x : Geometry). up x.prog 24) c.geometry.ensures in
    let long : length (record_header prog c.args.flags key value) ≡ up prog 24 = length-record_header prog (prog_positive old.geometry c.requires.valid) c.args.flags key value in
    let at : c.args.place + c.padded_size.result ≡ c.args.place + length (record_header prog c.args.flags key value) = ap (λ (p : ℕ). c.args.place + p) (ahead ∙ sym long) in
    let fault : IfErr c.from_residual.result (λ f. f ≡ Write) = search rules in
    let failed = c.in_err-program_payload.ensures.fault in
    handed_on c.from_residual.result c.from_residual.ensures.0 fault failed
    (subst (λ (f : FlashFault). RunsBy old (g.F.Flash.state c.program_payload.new.flash) (AppendsRecord prog c.args.place (record { flags = c.args.flags; key = key; value = value })) (fault_ending f)) (sym failed)
    (record_failed prog c.args.place _ (record_header prog c.args.flags key value) (record_payload prog key value) at
    (subst (λ (f : FlashFault). RunsBy old (g.F.Flash.state c.program_payload.new.flash) (Ascends prog (c.args.place + c.padded_size.result) (record_payload prog key value)) (fault_ending f)) failed c.in_err-program_payload.ensures.runs)))

pub program_padded-requires-clause-room : goal.program_padded-requires-clause-room
program_padded-requires-clause-room g c =
    let old = g.F.Flash.state c.args.flash.now in
    let kept = c.in_ok-program_payload.ensures.runs.kept in
    let long : length c.to_bytes-header.result ≡ 24 = ap length c.to_bytes-header.ensures ∙ length-header_bytes _ in
    let size : up (g.F.Flash.state c.program_payload.new.flash).geometry.prog (length c.to_bytes-header.result) ≡ up old.geometry.prog 24 =
    ap (λ (x : Geometry). up x.prog (length c.to_bytes-header.result)) kept.geometry ∙ ap (up old.geometry.prog) long in
    omega (arith, size, header_in_work old.geometry.prog (length c.args.work.now) (prog_positive old.geometry c.requires.valid) c.requires.unit c.requires.least)

pub program_padded-requires-clause-can : goal.program_padded-requires-clause-can
program_padded-requires-clause-can g c =
    let old = g.F.Flash.state c.args.flash.now in
    let mid = g.F.Flash.state c.program_payload.new.flash in
    let prog : ℕ = old.geometry.prog in
    let key = c.args.payload.now.key.now in
    let value = c.args.payload.now.value.now in
    let payload : List ℕ = record_payload prog key value in
    let kept = c.in_ok-program_payload.ensures.runs.kept in
    let ahead : c.padded_size.result ≡ up prog 24 = c.padded_size.ensures ∙ ap (λ (x : Geometry). up x.prog 24) c.geometry.ensures in
    let long : length c.to_bytes-header.result ≡ 24 = ap length c.to_bytes-header.ensures ∙ length-header_bytes _ in
    let size : up mid.geometry.prog (length c.to_bytes-header.result) ≡ up prog 24 =
    ap (λ (x : Geometry). up x.prog (length c.to_bytes-header.result)) kept.geometry ∙ ap (up prog) long in
    let can : CanWrite old c.args.place (up prog 24 + length payload) =
    subst (λ (n : ℕ). CanWrite old c.args.place (up prog 24 + n)) (sym (payload_long old.geometry c.requires.valid key value)) c.requires.can in
    subst (CanProgram mid c.args.place) (sym size)
    (header_after (g.met.F.Flash.lawful c.args.flash.now) kept payload c.requires.valid c.args.place can
    (subst (λ (p : ℕ). HasPayload old mid (c.args.place + p) payload) ahead c.in_ok-program_payload.ensures.written))

pub returns-clause-runs : goal.returns-clause-runs
returns-clause-runs g c =
    let old = g.F.Flash.state c.args.flash.now in
    let mid = g.F.Flash.state c.program_payload.new.flash in
    let prog : ℕ = old.geometry.prog in
    let key = c.args.payload.now.key.now in
    let value = c.args.payload.now.value.now in
    let header : List ℕ = record_header prog c.args.flags key value in
    let payload : List ℕ = record_payload prog key value in
    let first = c.in_ok-program_payload.ensures in
    let ahead : c.padded_size.result ≡ up prog 24 = c.padded_size.ensures ∙ ap (λ (x : Geometry). up x.prog 24) c.geometry.ensures in
    let long : length header ≡ up prog 24 = length-record_header prog (prog_positive old.geometry c.requires.valid) c.args.flags key value in
    let bytes : padded mid.geometry.prog c.to_bytes-header.result ≡ header =
    ap (λ (x : Geometry). padded x.prog c.to_bytes-header.result) first.runs.kept.geometry
    ∙ ap (padded prog) (c.to_bytes-header.ensures ∙ ap header_bytes c.header_for.ensures)
    ∙ padded_header prog c.args.flags key value in
    record_runs prog c.args.place header payload (g.met.F.Flash.lawful c.program_payload.new.flash) (omega (arith, c.requires.can.inside, long, payload_long old.geometry c.requires.valid key value))
    (subst (λ (p : ℕ). RunsBy old mid (Ascends prog (c.args.place + p) payload) Done) (ahead ∙ sym long) first.runs)
    (subst (λ (p : ℕ). HasPayload old mid (c.args.place + p) payload) (ahead ∙ sym long) first.written)
    c.program_padded.result (subst (λ (l : List ℕ). Writes mid (g.F.Flash.state c.program_padded.new.flash) c.args.place l c.program_padded.result) bytes c.program_padded.ensures)

pub returns-clause-written : goal.returns-clause-written
returns-clause-written g c image told =
    let old = g.F.Flash.state c.args.flash.now in
    let mid = g.F.Flash.state c.program_payload.new.flash in
    let prog : ℕ = old.geometry.prog in
    let key = c.args.payload.now.key.now in
    let value = c.args.payload.now.value.now in
    let header : List ℕ = record_header prog c.args.flags key value in
    let payload : List ℕ = record_payload prog key value in
    let first = c.in_ok-program_payload.ensures in
    let ahead : c.padded_size.result ≡ up prog 24 = c.padded_size.ensures ∙ ap (λ (x : Geometry). up x.prog 24) c.geometry.ensures in
    let long : length header ≡ up prog 24 = length-record_header prog (prog_positive old.geometry c.requires.valid) c.args.flags key value in
    let bytes : padded mid.geometry.prog c.to_bytes-header.result ≡ header =
    ap (λ (x : Geometry). padded x.prog c.to_bytes-header.result) first.runs.kept.geometry
    ∙ ap (padded prog) (c.to_bytes-header.ensures ∙ ap header_bytes c.header_for.ensures)
    ∙ padded_header prog c.args.flags key value in
    record_put old mid (g.F.Flash.state c.program_padded.new.flash) prog c.args.place c.args.flags key value (g.met.F.Flash.lawful c.args.flash.now) (omega (arith, c.requires.can.inside, long, payload_long old.geometry c.requires.valid key value))
    (subst (λ (p : ℕ). HasPayload old mid (c.args.place + p) payload) (ahead ∙ sym long) first.written)
    c.program_padded.result (subst (λ (l : List ℕ). Writes mid (g.F.Flash.state c.program_padded.new.flash) c.args.place l c.program_padded.result) bytes c.program_padded.ensures) image told
