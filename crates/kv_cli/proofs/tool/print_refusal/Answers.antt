use Rattle.std.proofs.Common.{◌∙◌, arith, sym, ap, length}
use Rattle.kv_cli.proofs.Endings.{no_fault}
use Rattle.kv_cli.proofs.tool.print_refusal.Goals as goal

pub returns-in-Ok-clause-calm : goal.returns-in-Ok-clause-calm
returns-in-Ok-clause-calm g c = λ files room calm primary script fits is.
    let printed = c.print.ensures.calm files room calm (omega (arith, ap length c.deref.ensures.value, c.in-Ok.ensures.short primary script, fits)) in
    no_fault c.args.refusal (sym c.status.ensures ∙ sym printed ∙ is)
