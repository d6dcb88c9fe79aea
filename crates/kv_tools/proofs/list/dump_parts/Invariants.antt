use Rattle.std.proofs.Common.{◌≡◌, take}
use Rattle.std.specs.Prelude.{All}
use Rattle.std.specs.List.{flat_map}
use Rattle.std.specs.Option.{ForSome}
use Rattle.flash_core.specs.Calls.{OnlyReads}
use Rattle.kv_tools.specs.Listing.{IsSpelled, set_line}
use Rattle.kv_tools.specs.Placing.{records_at}
use Rattle.kv_tools.proofs.list.dump_parts.Given as goal

abbrev pub invariant-loop-at : goal.invariant-loop-at
invariant-loop-at g l =
    let old = g.F.Flash.state l.fn.flash in
    record {
      reads : OnlyReads old (g.F.Flash.state l.flash);
      text : ForSome old.image (λ image. l.text.items ≡ flat_map set_line (records_at old.geometry.prog image (take l.at l.parts.table.entries)));
      spells : ForSome old.image (λ image. All IsSpelled (records_at old.geometry.prog image (take l.at l.parts.table.entries)));
    }
