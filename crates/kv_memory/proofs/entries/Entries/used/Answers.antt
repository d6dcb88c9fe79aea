use Rattle.std.proofs.Common.{◌∙◌, ap, map, arith}
use Rattle.kv_model.specs.Sizes.{used, used_by}
use Rattle.kv_memory.specs.EntryOf.{pair_of}
use Rattle.kv_memory.specs.declared.entries.Item.{Item}
use Rattle.kv_memory.specs.EntriesState.{EntriesState}
use Rattle.std.proofs.Common.{List}
use Rattle.kv_memory.proofs.EntryLemmas.{used_listed}
use Rattle.kv_memory.proofs.entries.Entries.used.Goals as goal

pub bytes_used-requires-clause-fits : goal.bytes_used-requires-clause-fits
bytes_used-requires-clause-fits c =
    let same = ap (λ (items : List Item). used_by c.args.prog (map pair_of items)) c.deref.ensures.value in
    let listed = used_listed c.args.prog c.self.inside.items.items c.self.invariant in
    let seen = ap (λ (e : EntriesState). used c.args.prog e.map) c.self.view_is in
    omega (arith, same, listed, seen, c.requires.fits)

pub returns : goal.returns
returns c =
    let same = ap (λ (items : List Item). used_by c.args.prog (map pair_of items)) c.deref.ensures.value in
    let seen = ap (λ (e : EntriesState). used c.args.prog e.map) c.self.view_is in
    c.bytes_used.ensures ∙ same ∙ used_listed c.args.prog c.self.inside.items.items c.self.invariant ∙ seen
