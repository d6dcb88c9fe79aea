use Rattle.std.proofs.Common.{◌≡◌, ◌+◌, ◌∙◌, ap, length, arith, rules}
use Rattle.base_core.specs.Units.{up}
use Rattle.base_core.proofs.UnitLemmas.{up-ge}
use Rattle.flash_core.specs.declared.geometry.Geometry.{Geometry}
use Rattle.flash_core.proofs.GeometryLaws.{prog_positive}
use Rattle.kv_tools.proofs.list.value_at.Goals as goal

pub read_part-requires : goal.read_part-requires
read_part-requires g c =
    let s = g.F.Flash.state c.args.flash.now in
    let prog = s.geometry.prog in
    let front : c.padded_size.result ≡ up prog 24 = c.padded_size.ensures ∙ ap (λ (x : Geometry). up x.prog 24) c.geometry.ensures in
    let long : length c.deref_mut.result.now ≡ c.args.header.value_size = search rules in
    omega (arith, front, long, c.from.ensures, c.requires.inside, up-ge prog (c.args.header.key_size + c.args.header.value_size) (prog_positive s.geometry c.requires.valid))
