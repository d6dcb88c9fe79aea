use Rattle.std.proofs.Common.{sym, ap, ◌∙◌}
use Rattle.std.specs.Prelude.{Some}
use Rattle.kv_host.proofs.Files.{get-at, get-none}
use Rattle.kv_host.proofs.place.stored.Goals as goal

pub returns-in-Some : goal.returns-in-Some
returns-in-Some c =
    ap Some c.part_of.ensures
    ∙ sym (get-at c.args.arena.now c.args.name.now c.args.entries.now c.in-Some.place _ c.in-Some.ensures.bound c.in-Some.ensures.before (c.in-Some.ensures.here _))

pub returns-in-None : goal.returns-in-None
returns-in-None c = sym (get-none c.args.arena.now c.args.name.now c.args.entries.now c.in-None.ensures.none)
