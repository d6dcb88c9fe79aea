use Rattle.std.proofs.Common.{◌≡◌, ◌≢◌, ◌+◌, ◌≤◌, List, [], ◌∷◌, ◌++◌, length, refl, sym, ◌∙◌, ap, subst, arith, rules, append_assoc}
use Rattle.std.proofs.lemmas.List.{append-nil, length-append, nil_from_length}
use Rattle.std.specs.Vec.Iter.{into_iter_items}
use Rattle.script_core.specs.declared.line.Line.{Line}
use Rattle.script_core.specs.LineOrder.{calls_of}
use Rattle.session_core.specs.declared.ended.Ended.{Ended}
use Rattle.session_core.specs.declared.ended.Ended.TheVariants as ended
use Rattle.session_core.specs.Replaying.{HasReplayed, Replays, RunsLine, seen_in}
use Rattle.session_core.proofs.ReplayLemmas.{ShowsSoFar, ends_at, ends_whole, more_logged, more_shown, none_logged, none_shown, nothing_yet, one_entry_more, one_line}
use Rattle.session_core.proofs.session.Session.replay_lines.Goals as goal

-- a part of a list has room behind it
shorter : {X : Type 0} (before rest all : List X) (x : X) → before ++ x ∷ rest ≡ all → length before + 1 ≤ length all
shorter before rest all x is = omega (arith, length-append before (x ∷ rest), ap length is)

pub loop-line-init : goal.loop-line-init
loop-line-init c = record {
  all = search rules;
  left = search rules;
  ran = nothing_yet c.args.self.now c.new-journal.result.entries c.new-journal.ensures;
  still = λ told. told;
  shows = none_shown c.args.self.now c.new-journal.result.entries c.new-journal.ensures;
  logs = none_logged c.args.self.now c.new-journal.result.entries c.new-journal.ensures;
  count = omega (arith, ap length c.new-journal.ensures);
}

pub run_line-ended-requires-clause-numbers : goal.run_line-ended-requires-clause-numbers
run_line-ended-requires-clause-numbers c =
    let steps : into_iter_items c.loop-line.line-iterator ≡ c.in-Some.line ∷ into_iter_items c.next.new.self = c.in-Some.ensures.steps.0 in
    let all : c.loop-line.yielded ++ c.in-Some.line ∷ into_iter_items c.next.new.self ≡ c.args.lines.items =
    ap (λ (l : List Line). c.loop-line.yielded ++ l) (sym steps) ∙ c.loop-line.invariant.all in
    let short : length c.loop-line.yielded + 1 ≤ length c.args.lines.items = shorter _ _ _ _ all in
    omega (arith, short, c.loop-line.invariant.count, c.requires.lines.count)

pub returns-then-ne : goal.returns-then-ne
returns-then-ne c =
    let so_far = c.loop-line.invariant in
    let steps : into_iter_items c.loop-line.line-iterator ≡ c.in-Some.line ∷ into_iter_items c.next.new.self = c.in-Some.ensures.steps.0 in
    let all : c.loop-line.yielded ++ c.in-Some.line ∷ into_iter_items c.next.new.self ≡ c.args.lines.items =
    ap (λ (l : List Line). c.loop-line.yielded ++ l) (sym steps) ∙ so_far.all in
    let not_whole : c.run_line-ended.result ≢ ended.Whole = search rules in
    subst (λ (l : List Line). Replays c.args.self.now c.run_line-ended.new.self l (record { journal = c.run_line-ended.new.journal; ended = c.run_line-ended.result })) all
    (ends_at c.args.self.now c.loop-line.self c.run_line-ended.new.self c.loop-line.yielded c.in-Some.line c.loop-line.journal.entries c.run_line-ended.new.journal.entries
    so_far.still so_far.ran (into_iter_items c.next.new.self) c.run_line-ended.new.journal refl so_far.shows c.run_line-ended.result not_whole c.run_line-ended.ensures)

pub loop-line-preserved : goal.loop-line-preserved
loop-line-preserved c =
    let before = c.loop-line.yielded in
    let line : Line = c.in-Some.line in
    let so_far = c.loop-line.invariant in
    let mid = c.loop-line.self in
    let last = c.run_line-ended.new.self in
    let entries = c.loop-line.journal.entries in
    let later = c.run_line-ended.new.journal.entries in
    let steps : into_iter_items c.loop-line.line-iterator ≡ line ∷ into_iter_items c.next.new.self = c.in-Some.ensures.steps.0 in
    let whole : c.run_line-ended.result ≡ ended.Whole = search rules in
    let runs : RunsLine mid last entries later line ended.Whole = subst (λ (e : Ended). RunsLine mid last entries later line e) whole c.run_line-ended.ensures in
    record {
      all = append_assoc before (line ∷ []) (into_iter_items c.next.new.self) ∙ ap (λ (l : List Line). before ++ l) (sym steps) ∙ so_far.all;
      left = omega (arith, so_far.left, c.in-Some.ensures.steps.1, ap length steps);
      ran = one_line c.args.self.now mid last before line entries later so_far.still so_far.ran runs.0;
      still = λ told. runs.1 (so_far.still told);
      shows = more_shown c.args.self.now mid last before line entries later so_far.still so_far.ran runs.2 so_far.shows;
      logs = more_logged c.args.self.now mid last before line entries later so_far.still so_far.ran runs.3 so_far.logs;
      count = omega (arith, so_far.count, length-append before (line ∷ []), one_entry_more mid last entries later line.who line.act runs.0);
    }

pub returns : goal.returns
returns c =
    let so_far = c.loop-line.invariant in
    let empty : into_iter_items c.loop-line.line-iterator ≡ [] = nil_from_length _ (sym so_far.left ∙ c.in-None.ensures.steps.0) in
    let all : c.loop-line.yielded ≡ c.args.lines.items =
    sym (append-nil c.loop-line.yielded) ∙ ap (λ (l : List Line). c.loop-line.yielded ++ l) (sym empty) ∙ so_far.all in
    ends_whole c.args.self.now c.loop-line.self c.args.lines.items c.loop-line.journal
    (subst (λ (l : List Line). HasReplayed (seen_in c.args.self.now []) (seen_in c.loop-line.self c.loop-line.journal.entries) (calls_of l)) all so_far.ran)
    so_far.still
    (subst (λ (l : List Line). ShowsSoFar c.args.self.now c.loop-line.self l c.loop-line.journal.entries) all so_far.shows)
    so_far.logs
