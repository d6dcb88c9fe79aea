-- Reading a text line by line, as a loop does.
use Rattle.std.proofs.Common.{◌≡◌, ℕ, ◌+◌, ◌<◌, List, [], ◌∷◌, length, Ok, Err, sym, ap, ◌∙◌, arith}
use Rattle.std.proofs.lemmas.List.Splits.{length-slice_split}
use Rattle.std.proofs.lemmas.List.Sums.{count_by-le-length}
use Rattle.std.specs.Prelude.{◌==◌, Some, IsOk, refl}
use Rattle.script_core.proofs.Options.{some_is}
use Rattle.script_core.specs.declared.error.ScriptError.{ScriptError}
use Rattle.script_core.specs.declared.error.ScriptError.TheVariants as faults
use Rattle.script_core.specs.declared.line.Line.{Line}
use Rattle.script_core.specs.declared.script.ScriptMode.{ScriptMode}
use Rattle.script_core.specs.Grammar.{lines_of}
use Rattle.script_core.specs.Reading.{Outcome, Ends, Refuses, HasReadOne, count_of_lines, read_one, read_from, then_read}

pub goes_on : (mode : ScriptMode) (number : ℕ) (lines new : List Line) (text : List ℕ) (left later : List (List ℕ)) (all : Outcome) → left ≡ text ∷ later
    → read_one mode number lines text later ≡ Ok new → read_from mode number lines left ≡ all → read_from mode (number + 1) new later ≡ all
unfolding read_from
goes_on mode number lines new text left later all next one so_far =
    let step : read_from mode number lines (text ∷ later) ≡ read_from mode (number + 1) new later = ap (λ (read : Outcome). then_read read (λ more. read_from mode (number + 1) more later)) one in
    sym step ∙ ap (read_from mode number lines) (sym next) ∙ so_far

-- what stops the reading of one line is what reading gives
pub stopped : (fault : ScriptError) (lines : List Line) (read : Outcome) → HasReadOne (Err fault) lines read → Ends fault read
stopped (faults.BadLine line) lines read h = h
stopped (faults.TooManyCalls line) lines read h = h
stopped faults.Memory lines read h = tt

pub ends_at : (fault : ScriptError) (mode : ScriptMode) (number : ℕ) (lines : List Line) (text : List ℕ) (left later : List (List ℕ)) (all : Outcome) → left ≡ text ∷ later
    → Ends fault (read_one mode number lines text later) → read_from mode number lines left ≡ all → Ends fault all
unfolding read_from
ends_at faults.Memory mode number lines text left later all next one so_far = tt
ends_at (faults.BadLine line) mode number lines text left later all next one so_far =
    let step : read_from mode number lines (text ∷ later) ≡ Err (faults.BadLine line) = ap (λ (read : Outcome). then_read read (λ more. read_from mode (number + 1) more later)) one in
    sym so_far ∙ ap (read_from mode number lines) next ∙ step
ends_at (faults.TooManyCalls line) mode number lines text left later all next one so_far =
    let step : read_from mode number lines (text ∷ later) ≡ Err (faults.TooManyCalls line) = ap (λ (read : Outcome). then_read read (λ more. read_from mode (number + 1) more later)) one in
    sym so_far ∙ ap (read_from mode number lines) next ∙ step

pub is_done : (mode : ScriptMode) (number : ℕ) (lines : List Line) (left : List (List ℕ)) (all : Outcome) → left ≡ [] → read_from mode number lines left ≡ all → all ≡ Ok lines
unfolding read_from
is_done mode number lines left all none so_far = sym so_far ∙ ap (read_from mode number lines) none

pub length-lines_of-le : (text : List ℕ) → length (lines_of text) < length text + 2
length-lines_of-le text = omega (arith, length-slice_split (λ b. b == 10) text, count_by-le-length (λ b. b == 10) text)

-- ---- lines that are counted and not kept

-- from this number on, behind lines of this count, the lines left are read as all
pub record Counted (mode : ScriptMode) (number count : ℕ) (left : List (List ℕ)) (all : Outcome) : Type 0 where
  pub lines : List Line
  pub many : length lines ≡ count
  pub same : read_from mode number lines left ≡ all

counts_on : (mode : ScriptMode) (number count : ℕ) (lines : List Line) (text : List ℕ) (left later : List (List ℕ)) (all read : Outcome) → left ≡ text ∷ later
    → read_one mode number lines text later ≡ read → count_of_lines read ≡ Some count → read_from mode number lines left ≡ all → Counted mode (number + 1) count later all
counts_on mode number count lines text left later all (Ok new) next one many so_far =
    record { lines = new; many = some_is _ _ many; same = goes_on mode number lines new text left later all next one so_far }
counts_on mode number count lines text left later all (Err fault) next one many so_far = absurd cc

-- one line more is counted
pub Counted-next : (mode : ScriptMode) (number before count : ℕ) (text : List ℕ) (left later : List (List ℕ)) (all : Outcome) → left ≡ text ∷ later
    → ((lines : List Line) → length lines ≡ before → count_of_lines (read_one mode number lines text later) ≡ Some count) → Counted mode number before left all → Counted mode (number + 1) count later all
Counted-next mode number before count text left later all next one so_far =
    counts_on mode number count so_far.lines text left later all (read_one mode number so_far.lines text later) next refl (one so_far.lines so_far.many) so_far.same

-- what stops the counting is what reading gives
refuses_at : (fault : ScriptError) (mode : ScriptMode) (number : ℕ) (lines : List Line) (text : List ℕ) (left later : List (List ℕ)) (all : Outcome) → left ≡ text ∷ later
    → Refuses fault (read_one mode number lines text later) → read_from mode number lines left ≡ all → Refuses fault all
refuses_at (faults.BadLine line) mode number lines text left later all next one so_far = ends_at (faults.BadLine line) mode number lines text left later all next one so_far
refuses_at (faults.TooManyCalls line) mode number lines text left later all next one so_far = ends_at (faults.TooManyCalls line) mode number lines text left later all next one so_far
refuses_at faults.Memory mode number lines text left later all next one so_far = absurd one

pub Counted-stops : (fault : ScriptError) (mode : ScriptMode) (number before : ℕ) (text : List ℕ) (left later : List (List ℕ)) (all : Outcome) → left ≡ text ∷ later
    → ((lines : List Line) → length lines ≡ before → Refuses fault (read_one mode number lines text later)) → Counted mode number before left all → Refuses fault all
Counted-stops fault mode number before text left later all next one so_far =
    refuses_at fault mode number so_far.lines text left later all next (one so_far.lines so_far.many) so_far.same

is_good : (read : Outcome) (lines : List Line) → read ≡ Ok lines → IsOk read
is_good read lines is = rw is refl

pub Counted-done : (mode : ScriptMode) (number count : ℕ) (left : List (List ℕ)) (all : Outcome) → left ≡ [] → Counted mode number count left all → IsOk all
Counted-done mode number count left all none so_far = is_good all so_far.lines (is_done mode number so_far.lines left all none so_far.same)
