use Rattle.std.proofs.Common.{◌≡◌, ℕ, List, [], get_or, insert, sym, ◌∙◌, ap, subst}
use Rattle.std.proofs.lemmas.List.{get_or_default}
use Rattle.kv_model.specs.Crc.{key_hash}
use Rattle.ram_table.specs.declared.table.Entry.{Entry}
use Rattle.ram_table.specs.Find.{IsIndexOf}
use Rattle.ram_table.proofs.IndexLemmas.{index_insert}
use Rattle.kv_bench.specs.Lookups.{told}
use Rattle.kv_bench.proofs.LookupLemmas.{told_read}
use Rattle.kv_bench.specs.declared.lookup.ListedKeys.{ListedKeys}
use Rattle.kv_bench.proofs.lookup.add.Goals as goal

pub returns-clause-index : goal.returns-clause-index
returns-clause-index g c =
    let keys : List (List ℕ) = c.args.reader.now.keys.now in
    let place = c.in_ok-place.place in
    let entry : Entry = record { hash = c.hash_of-hash.result; offset = c.args.number } in
    let n : ℕ = c.args.number in
    let found : List ℕ = c.index-keys-number.result in
    let key_is : found ≡ get_or keys n [] =
    c.index-keys-number.is ∙ ap (λ (r : ListedKeys). get_or r.keys.now n found) c.place_of.ensures.keys ∙ get_or_default keys n found [] c.requires.number in
    subst (λ (entries : List Entry). IsIndexOf 32 (told keys) entries)
    (sym (c.insert.ensures.entries ∙ ap (λ (entries : List Entry). insert entries place.at entry) c.reserve_one.ensures.entries))
    (index_insert 32 (told keys) c.args.table.now.entries _ place c.hash_of-hash.result c.args.number c.requires.index c.in_ok-place.ensures.place c.if-place.false
    c.in_ok-place.ensures.inside.most (c.hash_of-hash.ensures ∙ ap (key_hash 32) key_is) (told_read keys c.args.number c.requires.number))
