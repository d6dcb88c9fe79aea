use Rattle.std.proofs.Common.{sym, ◌∙◌}
use Rattle.std.proofs.lemmas.Result.{err_from_is_err_and}
use Rattle.script_core.proofs.Texts.{read_text-is_ok, read_text-script, read_text-bad, read_text-full, only_answer, bad_answer, full_answer, some_script, AreLines-script}
use Rattle.script_core.specs.Reading.{read_text}
use Rattle.script_core.proofs.parse.parse_script.Goals as goal

pub returns-in_err-lines-clause-only_found : goal.returns-in_err-lines-clause-only_found
returns-in_err-lines-clause-only_found c =
    let p = err_from_is_err_and c.from_residual.result c.from_residual.ensures.1 in
    rw (p.1, p.2) (λ script h. only_answer c.in_err-lines.field-0.0 (read_text c.args.mode c.args.bytes.now) _ c.in_err-lines.ensures.read (read_text-script c.args.mode c.args.bytes.now script h))

pub returns-in_err-lines-clause-only_bad_line : goal.returns-in_err-lines-clause-only_bad_line
returns-in_err-lines-clause-only_bad_line c =
    let p = err_from_is_err_and c.from_residual.result c.from_residual.ensures.1 in
    rw (p.1, p.2) (λ line h. only_answer c.in_err-lines.field-0.0 (read_text c.args.mode c.args.bytes.now) _ c.in_err-lines.ensures.read (read_text-bad c.args.mode c.args.bytes.now line h))

pub returns-in_err-lines-clause-only_too_many : goal.returns-in_err-lines-clause-only_too_many
returns-in_err-lines-clause-only_too_many c =
    let p = err_from_is_err_and c.from_residual.result c.from_residual.ensures.1 in
    rw (p.1, p.2) (λ line h. only_answer c.in_err-lines.field-0.0 (read_text c.args.mode c.args.bytes.now) _ c.in_err-lines.ensures.read (read_text-full c.args.mode c.args.bytes.now line h))

pub returns-in_err-lines-clause-bad_line : goal.returns-in_err-lines-clause-bad_line
returns-in_err-lines-clause-bad_line c =
    let p = err_from_is_err_and c.from_residual.result c.from_residual.ensures.1 in
    rw (p.1, p.2) (bad_answer c.in_err-lines.field-0.0 c.args.mode c.args.bytes.now c.in_err-lines.ensures.read)

pub returns-in_err-lines-clause-too_many : goal.returns-in_err-lines-clause-too_many
returns-in_err-lines-clause-too_many c =
    let p = err_from_is_err_and c.from_residual.result c.from_residual.ensures.1 in
    rw (p.1, p.2) (full_answer c.in_err-lines.field-0.0 c.args.mode c.args.bytes.now c.in_err-lines.ensures.read)

pub new-requires : goal.new-requires
new-requires c = AreLines-script c.args.mode c.args.bytes.now _ (read_text-is_ok c.args.mode c.args.bytes.now _ c.in_ok-lines.ensures.read)

pub returns-clause-found : goal.returns-clause-found
returns-clause-found c = rw c.new.ensures (read_text-is_ok c.args.mode c.args.bytes.now c.in_ok-lines.lines.items c.in_ok-lines.ensures.read)

pub returns-clause-only_found : goal.returns-clause-only_found
returns-clause-only_found c = rw c.new.ensures (λ x h. sym (read_text-script c.args.mode c.args.bytes.now x h) ∙ c.in_ok-lines.ensures.read)

pub returns-clause-only_bad_line : goal.returns-clause-only_bad_line
returns-clause-only_bad_line c = rw c.new.ensures (λ x h. sym (read_text-bad c.args.mode c.args.bytes.now x h) ∙ c.in_ok-lines.ensures.read)

pub returns-clause-only_too_many : goal.returns-clause-only_too_many
returns-clause-only_too_many c = rw c.new.ensures (λ x h. sym (read_text-full c.args.mode c.args.bytes.now x h) ∙ c.in_ok-lines.ensures.read)

pub returns-in_err-lines-clause-memory : goal.returns-in_err-lines-clause-memory
returns-in_err-lines-clause-memory c =
    let p = err_from_is_err_and c.from_residual.result c.from_residual.ensures.1 in
    rw (p.1, p.2) (λ wanted. some_script c.args.mode c.args.bytes.now (c.in_err-lines.ensures.memory cc))
