-- What an append leaves.
use Rattle.std.proofs.Common.{ℕ, ◌+◌, ◌≤◌, arith}
use Rattle.flash_core.specs.Moments.{Within}
use Rattle.flash_core.specs.Runs.{Ending, RunsBy}
use Rattle.flash_core.specs.Sizes.{IsValid, size_of}
use Rattle.flash_core.specs.State.{FlashState, IsLawful}
use Rattle.flash_core.proofs.GeometryLaws.{prog_positive}
use Rattle.flash_core.proofs.RunLaws.{runs_weakened}
use Rattle.kv_model.specs.Write.{Write}
use Rattle.record_core.specs.Log.{extent}
use Rattle.record_core.specs.Written.{AppendsRecord}
use Rattle.record_core.proofs.WithinLemmas.{Within-appends}

pub append_within : {old new : FlashState} {ending : Ending} (lawful : IsLawful old) (valid : IsValid old.geometry) (at : ℕ) (r : Write) → at + extent old.geometry.prog r ≤ size_of old.geometry → RunsBy old new (AppendsRecord old.geometry.prog at r) ending
    → RunsBy old new (Within at (extent old.geometry.prog r)) ending
append_within {old} {new} {ending} lawful valid at r inside runs =
    let prog : ℕ = old.geometry.prog in
    runs_weakened (Within at (extent prog r))
    (λ image told call c moment. Within-appends prog (prog_positive old.geometry valid) at r image call c (omega (arith, inside, lawful.sized image told)) moment) runs
