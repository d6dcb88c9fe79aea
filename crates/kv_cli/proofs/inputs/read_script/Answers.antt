use Rattle.std.specs.Prelude.{IfSome}
use Rattle.std.proofs.Common.{List, ℕ, sym, subst}
use Rattle.std.proofs.lemmas.Result.{err_from_is_err_and}
use Rattle.kv_cli.specs.Inputs.{script_limit, IsReadable}
use Rattle.kv_cli.proofs.Causes.{plain_cuts, parse_stops, script_stops}
use Rattle.kv_cli.proofs.inputs.read_script.Goals as goal

pub returns-in_err-bytes-clause-stops : goal.returns-in_err-bytes-clause-stops
returns-in_err-bytes-clause-stops g c =
    let p = err_from_is_err_and c.from_residual.result c.from_residual.ensures.1 in
    rw (p.1, p.2) (script_stops _ _ _ _ c.in_err-bytes.field-0.0 c.in_err-bytes.ensures.stops)

pub returns-clause-stops : goal.returns-clause-stops
returns-clause-stops g c =
    let told = g.H.Host.contents c.args.host.now in
    let readable = subst (λ (text : List ℕ). IfSome told (λ contents. IsReadable script_limit c.args.name.now contents text)) (sym c.deref.ensures.value) c.in_ok-bytes.ensures.read in
    parse_stops _ told c.args.name.now c.deref.result.now _ _ c.script_of.result c.script_of.ensures readable

pub returns-clause-primary : goal.returns-clause-primary
returns-clause-primary g c = plain_cuts c.deref.result.now c.script_of.result c.script_of.ensures
