-- What the mode allows is what the grammar says that it allows.
use Rattle.std.proofs.Common.{◌≡◌, ℕ, inl, inr, eqb, leb, Bool, true, false, cond, List, [], ◌∷◌, Option, Some, None, refl, ap, subst, ◌∙◌}
use Rattle.std.specs.Prelude.{not, ◌&&◌, ◌||◌, MatchBool}
use Rattle.std.specs.Cmp.Derive.{both_true}
use Rattle.std.specs.List.{list_any}
use Rattle.std.specs.Option.{option_map_or}
use Rattle.std.proofs.Math.Bool.{or-true}
use Rattle.std.proofs.lemmas.Bool.{eqb-true, eq-eqb, leb-true, le-leb}
use Rattle.kv_model.specs.declared.call.Call.TheVariants as call
use Rattle.script_core.specs.declared.line.Act.{Act}
use Rattle.script_core.specs.declared.line.Act.TheVariants.{Do, Cut}
use Rattle.script_core.specs.declared.line.Line.{Line}
use Rattle.script_core.specs.declared.line.Side.TheVariants.{Primary, Rollback}
use Rattle.script_core.specs.declared.script.ScriptMode.{ScriptMode}
use Rattle.script_core.specs.Grammar.{SomeEndsSet, IsServed, CutsNoRollback, IsAllowed, IsGood}
use Rattle.script_core.specs.Reading.{line_of, ended_by, ends_set, is_start, cuts_rollback, is_allowed, good_line_of}
use Rattle.script_core.proofs.Lines.{line_of-is_some, line_of-spelled, ended_by-is_some, ended_by-ends}
use Rattle.script_core.proofs.Options.{chosen, bind_some, both, either}

end_is : (ended : Option ℕ) (who : ℕ) → option_map_or (λ client. eqb client who) ended false ≡ true → ended ≡ Some who
end_is None who h = absurd cc
end_is (Some client) who h = ap (λ (n : ℕ). Some n) (eqb-true client who h)

some_ends_set : (who : ℕ) (later : List (List ℕ)) → list_any (ends_set who) later ≡ true → SomeEndsSet who later
some_ends_set who [] h = absurd cc
some_ends_set who (text ∷ later) h =
    elim (either (ends_set who text) (list_any (ends_set who) later) h) [
      | inl here ↦ inl (ended_by-is_some text who (end_is (ended_by text) who here))
      | inr there ↦ inr (some_ends_set who later there)
    ]

list_any-ends : (who : ℕ) (later : List (List ℕ)) → SomeEndsSet who later → list_any (ends_set who) later ≡ true
list_any-ends who [] h = absurd h
list_any-ends who (text ∷ later) (inl here) =
    let e : ends_set who text ≡ true = ap (λ (o : Option ℕ). option_map_or (λ client. eqb client who) o false) (ended_by-ends text who here) ∙ eq-eqb who who refl in
    rw e refl
list_any-ends who (text ∷ later) (inr there) = rw (list_any-ends who later there) (or-true (ends_set who text))

served : (later : List (List ℕ)) (who : ℕ) (act : Act) → (leb 1 who && (not (is_start act) || list_any (ends_set who) later)) ≡ true → IsServed later who act
served later who (Do (call.Start key size flags)) h = let b = both (leb 1 who) (list_any (ends_set who) later) h in (leb-true 1 who b.0, some_ends_set who later b.1)
served later who (Do _) h = leb-true 1 who (both (leb 1 who) true h).0
served later who (Cut side n torn) h = leb-true 1 who (both (leb 1 who) true h).0

served-back : (later : List (List ℕ)) (who : ℕ) (act : Act) → IsServed later who act → (leb 1 who && (not (is_start act) || list_any (ends_set who) later)) ≡ true
served-back later who (Do (call.Start key size flags)) h = both_true (le-leb 1 who h.0) (list_any-ends who later h.1)
served-back later who (Do _) h = both_true (le-leb 1 who h) refl
served-back later who (Cut side n torn) h = both_true (le-leb 1 who h) refl

on_threads : (threads : Bool) (later : List (List ℕ)) (who : ℕ) (act : Act) → (not threads || (leb 1 who && (not (is_start act) || list_any (ends_set who) later))) ≡ true → MatchBool threads (IsServed later who act) (Unit {0})
on_threads true later who act h = served later who act h
on_threads false later who act h = tt

on_threads-back : (threads : Bool) (later : List (List ℕ)) (who : ℕ) (act : Act) → MatchBool threads (IsServed later who act) (Unit {0}) → (not threads || (leb 1 who && (not (is_start act) || list_any (ends_set who) later))) ≡ true
on_threads-back true later who act h = served-back later who act h
on_threads-back false later who act h = refl

cut_allowed : (secure : Bool) (act : Act) → (secure || not (cuts_rollback act)) ≡ true → MatchBool secure (Unit {0}) (CutsNoRollback act)
cut_allowed true act h = tt
cut_allowed false (Do asked) h = tt
cut_allowed false (Cut Primary n torn) h = tt
cut_allowed false (Cut Rollback n torn) h = absurd cc

cut_allowed-back : (secure : Bool) (act : Act) → MatchBool secure (Unit {0}) (CutsNoRollback act) → (secure || not (cuts_rollback act)) ≡ true
cut_allowed-back true act h = refl
cut_allowed-back false (Do asked) h = refl
cut_allowed-back false (Cut Primary n torn) h = refl
cut_allowed-back false (Cut Rollback n torn) h = absurd h

allowed : (mode : ScriptMode) (later : List (List ℕ)) (line : Line) → is_allowed mode (list_any (ends_set line.who) later) line ≡ true → IsAllowed mode later line
allowed mode later line h =
    let b = both (not mode.threads || (leb 1 line.who && (not (is_start line.act) || list_any (ends_set line.who) later))) (mode.secure || not (cuts_rollback line.act)) h in
    (on_threads mode.threads later line.who line.act b.0, cut_allowed mode.secure line.act b.1)

is_allowed-allowed : (mode : ScriptMode) (later : List (List ℕ)) (line : Line) → IsAllowed mode later line → is_allowed mode (list_any (ends_set line.who) later) line ≡ true
is_allowed-allowed mode later line h = both_true (on_threads-back mode.threads later line.who line.act h.0) (cut_allowed-back mode.secure line.act h.1)

pub good_line_of-is_some : (mode : ScriptMode) (later : List (List ℕ)) (text : List ℕ) (line : Line) → good_line_of mode later text ≡ Some line → IsGood mode later text line
good_line_of-is_some mode later text line h =
    let b = bind_some (line_of text) (λ read. cond (is_allowed mode (list_any (ends_set read.who) later) read) (Some read) None) line h in
    let c = chosen (is_allowed mode (list_any (ends_set b.0.who) later) b.0) b.0 line b.2 in
    subst (IsGood mode later text) c.1 (line_of-is_some text b.0 b.1, allowed mode later b.0 c.0)

pub good_line_of-good : (mode : ScriptMode) (later : List (List ℕ)) (text : List ℕ) (line : Line) → IsGood mode later text line → good_line_of mode later text ≡ Some line
good_line_of-good mode later text line h = rw (line_of-spelled text line h.0, is_allowed-allowed mode later line h.1) refl
