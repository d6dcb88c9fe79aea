use Rattle.std.proofs.Common.{◌≡◌, false, true, arith}
use Rattle.kv_cli.proofs.tool.write.Goals as goal

pub returns-in-Err-clause-calm : goal.returns-in-Err-clause-calm
returns-in-Err-clause-calm g c = λ files room calm places short fits.
    let ok : false ≡ true = (c.in-Err.ensures.calm files room 0 0 calm (omega (arith, places)) (omega (arith, fits, c.deref.ensures.len)) short).0 in absurd cc
