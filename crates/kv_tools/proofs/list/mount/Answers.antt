use Rattle.flash_core.proofs.KeptLaws.{told_after}
use Rattle.kv_tools.proofs.list.mount.Goals as goal

pub returns-in-Ok-clause-mounted : goal.returns-in-Ok-clause-mounted
returns-in-Ok-clause-mounted g c image told =
    let left = told_after c.in-Ok.ensures.runs.kept told in
    (left.0, left.1, c.in-Ok.ensures.mounted image told left.0 left.1)
