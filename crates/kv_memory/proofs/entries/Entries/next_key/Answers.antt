use Rattle.std.proofs.Common.{◌∙◌, ap, map, filter, sym, List, ℕ}
use Rattle.kv_model.specs.NextKey.{least_key, may_give, next_key}
use Rattle.kv_memory.specs.Cursors.{position_of}
use Rattle.kv_memory.specs.EntryOf.{key_of}
use Rattle.kv_memory.specs.declared.entries.Item.{Item}
use Rattle.kv_memory.specs.EntriesState.{EntriesState}
use Rattle.kv_memory.proofs.EntryLemmas.{keys_listed}
use Rattle.kv_memory.proofs.entries.Entries.next_key.Goals as goal

pub returns : goal.returns
returns c =
    let position = position_of c.args.cursor.now in
    let bits = c.args.hash_bits in
    c.least_of.ensures
    ∙ ap (λ (items : List Item). least_key bits (filter (may_give bits position) (map key_of items))) c.deref.ensures.value
    ∙ ap (λ (ks : List (List ℕ)). least_key bits (filter (may_give bits position) ks)) (sym (keys_listed c.self.inside.items.items c.self.invariant))
    ∙ ap (λ (e : EntriesState). next_key bits e.map position) c.self.view_is
