use Rattle.flash_sim.specs.Views.{view_of}
use Rattle.std.specs.Prelude.{None, Some}
use Rattle.session_core.specs.Backing.{chip_behind, told_by}
use Rattle.session_core.specs.Laws.{store_is_lawful}
use Rattle.session_core.proofs.MountLemmas.{told_log}
use Rattle.session_core.proofs.PowerLemmas.{mounted_power}
use Rattle.session_core.proofs.session.Session.plain.Goals as goal

pub returns-in-Ok-clause-power : goal.returns-in-Ok-clause-power
returns-in-Ok-clause-power c =
    let store = c.in-Ok.store in
    mounted_power (view_of c.args.chip) (chip_behind store) c.args.hash_bits (told_by store) c.args.chip.valid c.in-Ok.ensures (store_is_lawful store)

pub returns-in-Ok-clause-log : goal.returns-in-Ok-clause-log
returns-in-Ok-clause-log c = told_log c.args.hash_bits (Some c.in-Ok.store) None
