use Rattle.std.proofs.Common.{◌+◌, ◌-◌, ◌*◌}
use Rattle.serve_core.proofs.crew.+clients.Given as goal

abbrev pub decreases-serve_from : goal.decreases-serve_from
decreases-serve_from g l = 2 * (17 - l.who) + 1

abbrev pub decreases-theirs : goal.decreases-theirs
decreases-theirs g l = 2 * (17 - l.who)
