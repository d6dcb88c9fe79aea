use Rattle.std.proofs.Common.{◌≡◌, subst, ℕ, List, [], map, Some, None, rules}
use Rattle.std.specs.Fmt.{decimal}
use Rattle.std.specs.Prelude.{slice_get}
use Rattle.std.specs.Rc.{rc_str_bytes}
use Rattle.command_words.specs.Commands.{Drawing, AreOfDrawing}
use Rattle.command_words.specs.Items.{Item, items_of, words_of}
use Rattle.command_words.specs.Shown.{items_in}
use Rattle.command_words.proofs.ValueLemmas.{none_at, three, three_are}
use Rattle.command_words.proofs.tools.read_drawing.Goals as goal

pub returns : goal.returns
returns c =
    let items : List Item = items_in c.new-words.result in
    let words : List (List ℕ) = words_of items in
    let is : items ≡ items_of [] (map rc_str_bytes c.args.words.now) = search rules in
    let last : slice_get words 3 ≡ None = none_at c.nth_word.result words 3 c.nth_word.ensures (search rules) in
    let first : slice_get words 0 ≡ Some c.in_ok-ok_or.field-0.now = search rules in
    let second : slice_get words 1 ≡ Some c.in_ok-ok_or-2.field-0.now = search rules in
    let third : slice_get words 2 ≡ Some c.in_ok-ok_or-3.field-0.now = search rules in
    let seed : c.in_ok-ok_or.field-0.now ≡ decimal c.in_ok-seed.seed = search rules in
    let drawing : Drawing = record { seed = c.in_ok-seed.seed; clients = c.in_ok-clients.clients; calls = c.in_ok-calls.calls } in
    let said : AreOfDrawing items drawing = record {
      known = search rules;
      words = three_are _ _ _ _ _ _ _ (three words _ _ _ first second third last) seed c.in_ok-clients.ensures.2 c.in_ok-calls.ensures.2;
      seed = c.in_ok-seed.ensures.0;
      clients = (c.in_ok-clients.ensures.0, c.in_ok-clients.ensures.1);
      calls = (c.in_ok-calls.ensures.0, c.in_ok-calls.ensures.1);
    } in
    subst (λ (i : List Item). AreOfDrawing i drawing) is said
