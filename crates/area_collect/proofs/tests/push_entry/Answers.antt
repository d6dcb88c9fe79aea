use Rattle.std.proofs.Common.{◌≡◌, ◌++◌, List, [], ◌∷◌, sym, ◌∙◌, ap, subst}
use Rattle.std.specs.List.{insert}
use Rattle.std.proofs.lemmas.List.Edits.{insert_end}
use Rattle.ram_table.specs.declared.table.Entry.{Entry}
use Rattle.area_collect.specs.Copies.{AreIn}
use Rattle.area_collect.proofs.EntryLemmas.{push_in}
use Rattle.area_collect.proofs.tests.push_entry.Goals as goal

pub returns : goal.returns
returns c =
    let entries : List Entry = c.args.table.now.entries in
    let more : Entry = record { hash = c.args.place; offset = c.args.place } in
    let kept = c.in_ok-reserve_one.ensures.entries in
    let is : c.insert.new.self.entries ≡ entries ++ more ∷ [] =
    c.insert.ensures.entries ∙ ap (λ (k : _). insert c.reserve_one.new.self.entries k more) c.len.ensures ∙ insert_end c.reserve_one.new.self.entries more ∙ ap (λ (l : List Entry). l ++ more ∷ []) kept in
    record { entries = subst (AreIn c.args.area) (sym is) (push_in c.args.area entries more c.requires.entries c.requires.place) }
