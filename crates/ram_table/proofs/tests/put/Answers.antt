use Rattle.std.proofs.Common.{◌≡◌, ℕ, List, sym, ◌∙◌, ap, subst, refl, rules}
use Rattle.std.specs.Prelude.{Bool, IsTrue, true, false, not, Some}
use Rattle.std.specs.FinMap.{contains_key, get}
use Rattle.std.specs.List.{insert}
use Rattle.kv_model.specs.Crc.{key_hash}
use Rattle.ram_table.specs.declared.table.Entry.{Entry}
use Rattle.ram_table.specs.Find.{IsIndexOf}
use Rattle.ram_table.specs.Letters.{letters}
use Rattle.ram_table.proofs.IndexLemmas.{index_insert}
use Rattle.ram_table.proofs.LetterLemmas.{key_of_letter, letters_can_find}
use Rattle.ram_table.proofs.tests.put.Goals as goal

turned : (b : Bool) → not b ≡ true → b ≡ false
turned true is = sym is
turned false is = refl

pub find-requires-clause-can : goal.find-requires-clause-can
find-requires-clause-can g c = letters_can_find c.requires.index

pub returns-in_ok-reserve_one-clause-index : goal.returns-in_ok-reserve_one-clause-index
returns-in_ok-reserve_one-clause-index g c =
    let bits = c.args.reader.now.hash_bits in
    let key_is = c.letter_key-key.ensures in
    let at = c.in_ok-place.place.at in
    let new : Entry = record { hash = c.hash_of-hash.result; offset = c.args.letter } in
    let has : IsTrue (contains_key letters c.args.letter) = search rules in
    let read : get letters c.args.letter ≡ Some c.letter_key-key.result =
    key_of_letter c.args.letter has ∙ ap (λ (key : List ℕ). Some key) (sym key_is) in
    let index = index_insert bits letters c.args.table.now.entries c.letter_key-key.result c.in_ok-place.place c.hash_of-hash.result c.args.letter
    c.requires.index (c.in_ok-place.ensures.place letters refl) (turned c.in_ok-place.place.found c.if-not-place.true) c.in_ok-place.ensures.inside.most
    (c.hash_of-hash.ensures ∙ ap (λ (key : List ℕ). key_hash bits key) (sym key_is)) read in
    subst (IsIndexOf bits letters) (sym (c.insert.ensures.entries ∙ ap (λ (entries : List Entry). insert entries at new) c.in_ok-reserve_one.ensures.entries)) index
