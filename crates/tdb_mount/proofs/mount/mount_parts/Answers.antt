use Rattle.std.proofs.Common.{rules}
use Rattle.flash_core.specs.Sizes.{IsValid}
use Rattle.tdb_mount.proofs.LawLemmas.{mounts_as}
use Rattle.tdb_mount.proofs.RunLemmas.{mount_answers, mount_cuts, mount_leaves, mount_refused}
use Rattle.tdb_mount.proofs.mount.mount_parts.Goals as goal

pub returns-in-Ok-clause-cuts : goal.returns-in-Ok-clause-cuts
returns-in-Ok-clause-cuts g c =
    let valid : IsValid (g.F.Flash.state c.args.flash.now).geometry = search rules in
    mount_cuts valid (g.met.F.Flash.lawful c.args.flash.now) c.in-Ok.ensures.runs

pub returns-in-Ok-clause-mounted : goal.returns-in-Ok-clause-mounted
returns-in-Ok-clause-mounted g c image told left stands =
    let s = g.F.Flash.state c.args.flash.now in
    let valid : IsValid (g.F.Flash.state c.args.flash.now).geometry = search rules in
    mounts_as s.geometry valid image ((g.met.F.Flash.lawful c.args.flash.now).sized image told) left c.args.hash_bits c.in-Ok.parts
    (c.in-Ok.ensures.leaves image told left stands) (c.in-Ok.ensures.mounted left stands)

pub returns-in-Err-clause-cuts : goal.returns-in-Err-clause-cuts
returns-in-Err-clause-cuts g c =
    let valid : IsValid (g.F.Flash.state c.args.flash.now).geometry = search rules in
    mount_refused c.in-Err.error c.refused.result c.refused.ensures c.in-Err.ensures.cause (mount_cuts valid (g.met.F.Flash.lawful c.args.flash.now) c.in-Err.ensures.runs)

pub returns-in-Err-clause-faults : goal.returns-in-Err-clause-faults
returns-in-Err-clause-faults g c =
    mount_answers _ (mount_refused c.in-Err.error c.refused.result c.refused.ensures c.in-Err.ensures.cause c.in-Err.ensures.runs)

pub returns-in-Err-clause-leaves : goal.returns-in-Err-clause-leaves
returns-in-Err-clause-leaves g c image told left stands =
    mount_leaves (g.F.Flash.state c.args.flash.now) (g.F.Flash.state c.mount_valid.new.flash) (g.F.Flash.state c.args.flash.now).geometry image left c.in-Err.error c.refused.result c.refused.ensures c.in-Err.ensures.cause
    (c.in-Err.ensures.leaves image told left stands)
