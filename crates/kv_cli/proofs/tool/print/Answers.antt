use Rattle.std.proofs.Common.{◌≡◌, false, true, arith}
use Rattle.kv_cli.proofs.tool.print.Goals as goal

pub returns-in-Err-clause-calm : goal.returns-in-Err-clause-calm
returns-in-Err-clause-calm g c = λ names room calm fits.
    let ok : false ≡ true = (c.in-Err.ensures.calm names room 0 calm (omega arith)).0 in cc
