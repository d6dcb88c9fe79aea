use Rattle.std.proofs.Common.{◌≡◌, ℕ, ◌<◌, List, [], length, sym, ◌∙◌, ap, subst, refl}
use Rattle.std.specs.Prelude.{Some}
use Rattle.std.specs.FinMap.{get}
use Rattle.std.proofs.lemmas.List.{get_or_default}
use Rattle.std.proofs.lemmas.Option.{same_Some}
use Rattle.ram_table.specs.Reader.{KeyMap}
use Rattle.ram_table.proofs.ReaderLemmas.{CountsStand-refl, Keeps-refl, all_answered}
use Rattle.kv_bench.specs.Lookups.{told, told_state}
use Rattle.kv_bench.proofs.LookupLemmas.{told_read, told_inside}
use Rattle.kv_bench.proofs.lookup.ListedKeysKeyReader.key_at.Goals as goal

pub returns-clause-reads : goal.returns-clause-reads
returns-clause-reads c =
    let keys : List (List ℕ) = c.args.self.now.keys.now in
    let inside : c.args.offset < length keys = told_inside keys c.args.offset (c.requires.has (told keys) refl) in
    let here : get (told keys) c.args.offset ≡ Some c.copied.result =
    told_read keys c.args.offset inside
    ∙ ap (λ (key : List ℕ). Some key) (get_or_default keys c.args.offset [] c.index-self-offset.result inside ∙ sym c.copied.ensures) in
    record {
      read = all_answered tt (Keeps-refl (told_state keys)) (CountsStand-refl (told_state keys));
      bytes = λ map is. subst (λ (m : KeyMap). get m c.args.offset ≡ Some c.copied.result) (same_Some (told keys) map is) here;
    }

pub bounds-self-offset : goal.bounds-self-offset
bounds-self-offset c = told_inside c.args.self.now.keys.now c.args.offset (c.requires.has (told c.args.self.now.keys.now) refl)
