-- What is read of a text is what the grammar says of it, and what the grammar says of it is read.
use Rattle.std.proofs.Common.{◌≡◌, ℕ, ◌+◌, ◌<◌, ◌≤◌, ltb, Bool, true, false, cond, List, [], ◌∷◌, ◌++◌, length, Option, Some, None, Ok, Err, refl, sym, ap, subst, ◌∙◌, append_assoc, arith}
use Rattle.std.specs.Prelude.{MatchBool, IsOk}
use Rattle.std.specs.List.{All}
use Rattle.std.proofs.lemmas.Bool.{ltb-true, ltb-false, lt-ltb}
use Rattle.std.proofs.lemmas.List.{append-nil, length-append}
use Rattle.std.proofs.lemmas.List.Elements.{All-nil, All-cons}
use Rattle.script_core.specs.declared.error.ScriptError.{ScriptError}
use Rattle.script_core.specs.declared.error.ScriptError.TheVariants as faults
use Rattle.script_core.specs.declared.line.Line.{Line}
use Rattle.script_core.specs.declared.script.ScriptMode.{ScriptMode}
use Rattle.script_core.specs.Grammar.{IsLine, lines_of, is_skipped, IsGood, Read, most_lines, AreLines, IsScript, ReadsUpTo, IsFirstBad, IsOneTooMany}
use Rattle.script_core.specs.Reading.{Outcome, Ends, Refuses, good_line_of, add_line, then_read, read_from, read_text}
use Rattle.script_core.proofs.Modes.{good_line_of-is_some, good_line_of-good}

-- ---- what is read has its meaning

-- the walk stops at the line of this number, of which P holds
abbrev Stops : ScriptMode → ℕ → List Line → List (List ℕ) → ℕ → (List ℕ → List (List ℕ) → List Line → Type 0) → Type 0
Stops mode first lines texts number P =
    (line : List ℕ) × (later : List (List ℕ)) × (new : List Line) × ReadsUpTo mode first texts number line later new × (is_skipped line ≡ false) × P line later (lines ++ new)

abbrev IsBadAt : ScriptMode → List ℕ → List (List ℕ) → List Line → Type 0
IsBadAt mode line later all = (length all ≤ most_lines) × (good_line_of mode later line ≡ None)

abbrev IsFullAt : ScriptMode → List ℕ → List (List ℕ) → List Line → Type 0
IsFullAt mode line later all = (length all ≡ most_lines) × ((read : Line) × (good_line_of mode later line ≡ Some read))

abbrev Means : ScriptMode → ℕ → List Line → List (List ℕ) → Outcome → Type 0
Means mode first lines texts (Ok all) = (new : List Line) × (all ≡ lines ++ new) × Read mode texts [] new × (length all ≤ most_lines)
Means mode first lines texts (Err (faults.BadLine number)) = Stops mode first lines texts number (IsBadAt mode)
Means mode first lines texts (Err (faults.TooManyCalls number)) = Stops mode first lines texts number (IsFullAt mode)
Means mode first lines texts (Err faults.Memory) = Unit {0}

Read-skipped : (mode : ScriptMode) (text : List ℕ) (texts later : List (List ℕ)) (new : List Line) → is_skipped text ≡ true → Read mode texts later new → Read mode (text ∷ texts) later new
Read-skipped mode text texts later new skipped h = rw skipped h

Read-good : (mode : ScriptMode) (text : List ℕ) (texts later : List (List ℕ)) (line : Line) (new : List Line) → is_skipped text ≡ false → IsGood mode (texts ++ later) text line → Read mode texts later new
    → Read mode (text ∷ texts) later (line ∷ new)
Read-good mode text texts later line new kept good h = rw kept (line, new, refl, good, h)

stops_behind_skipped : (mode : ScriptMode) (first : ℕ) (lines : List Line) (text : List ℕ) (texts : List (List ℕ)) (number : ℕ) (P : List ℕ → List (List ℕ) → List Line → Type 0)
    → is_skipped text ≡ true → Stops mode (first + 1) lines texts number P → Stops mode first lines (text ∷ texts) number P
stops_behind_skipped mode first lines text texts number P skipped (line, later, new, up_to, stopped, holds) = (
  line,
  later,
  new,
  record {
    before = text ∷ up_to.before;
    whole = ap (λ (t : List (List ℕ)). text ∷ t) up_to.whole;
    place = omega (arith, up_to.place);
    reads = Read-skipped mode text up_to.before (line ∷ later) new skipped up_to.reads;
  },
  stopped,
  holds,
)

stops_behind_good : (mode : ScriptMode) (first : ℕ) (lines : List Line) (text : List ℕ) (texts : List (List ℕ)) (number : ℕ) (read : Line) (P : List ℕ → List (List ℕ) → List Line → Type 0)
    → is_skipped text ≡ false → IsGood mode texts text read → Stops mode (first + 1) (lines ++ read ∷ []) texts number P → Stops mode first lines (text ∷ texts) number P
stops_behind_good mode first lines text texts number read P kept good (line, later, new, up_to, stopped, holds) = (
  line,
  later,
  read ∷ new,
  record {
    before = text ∷ up_to.before;
    whole = ap (λ (t : List (List ℕ)). text ∷ t) up_to.whole;
    place = omega (arith, up_to.place);
    reads = Read-good mode text up_to.before (line ∷ later) read new kept (subst (λ (t : List (List ℕ)). IsGood mode t text read) up_to.whole good) up_to.reads;
  },
  stopped,
  subst (P line later) (append_assoc lines (read ∷ []) new) holds,
)

means_behind_skipped : (mode : ScriptMode) (first : ℕ) (lines : List Line) (text : List ℕ) (texts : List (List ℕ)) (outcome : Outcome)
    → is_skipped text ≡ true → Means mode (first + 1) lines texts outcome → Means mode first lines (text ∷ texts) outcome
means_behind_skipped mode first lines text texts (Ok all) skipped h = (h.0, h.1, Read-skipped mode text texts [] h.0 skipped h.2, h.3)
means_behind_skipped mode first lines text texts (Err (faults.BadLine number)) skipped h = stops_behind_skipped mode first lines text texts number (IsBadAt mode) skipped h
means_behind_skipped mode first lines text texts (Err (faults.TooManyCalls number)) skipped h = stops_behind_skipped mode first lines text texts number (IsFullAt mode) skipped h
means_behind_skipped mode first lines text texts (Err faults.Memory) skipped h = tt

means_behind_good : (mode : ScriptMode) (first : ℕ) (lines : List Line) (text : List ℕ) (texts : List (List ℕ)) (read : Line) (outcome : Outcome)
    → is_skipped text ≡ false → IsGood mode texts text read → Means mode (first + 1) (lines ++ read ∷ []) texts outcome → Means mode first lines (text ∷ texts) outcome
means_behind_good mode first lines text texts read (Ok all) kept good h = (
  read ∷ h.0,
  h.1 ∙ append_assoc lines (read ∷ []) h.0,
  Read-good mode text texts [] read h.0 kept (subst (λ (t : List (List ℕ)). IsGood mode t text read) (sym (append-nil texts)) good) h.2,
  h.3,
)
means_behind_good mode first lines text texts read (Err (faults.BadLine number)) kept good h = stops_behind_good mode first lines text texts number read (IsBadAt mode) kept good h
means_behind_good mode first lines text texts read (Err (faults.TooManyCalls number)) kept good h = stops_behind_good mode first lines text texts number read (IsFullAt mode) kept good h
means_behind_good mode first lines text texts read (Err faults.Memory) kept good h = tt

-- the walk stops at its first line
stops_here : (mode : ScriptMode) (first : ℕ) (lines : List Line) (text : List ℕ) (texts : List (List ℕ)) (P : List ℕ → List (List ℕ) → List Line → Type 0)
    → is_skipped text ≡ false → P text texts lines → Stops mode first lines (text ∷ texts) first P
stops_here mode first lines text texts P kept h =
    (text, texts, [], record { before = []; whole = refl; place = omega arith; reads = refl }, kept, subst (P text texts) (sym (append-nil lines)) h)

means_one : (mode : ScriptMode) (first : ℕ) (lines : List Line) (text : List ℕ) (texts : List (List ℕ)) (go_on : List Line → Outcome) (read : Line) (room : Bool)
    → length lines ≤ most_lines → is_skipped text ≡ false → good_line_of mode texts text ≡ Some read → ltb (length lines) most_lines ≡ room
    → ((all : List Line) → length all ≤ most_lines → Means mode (first + 1) all texts (go_on all))
    → Means mode first lines (text ∷ texts) (then_read (cond room (Ok (lines ++ read ∷ [])) (Err (faults.TooManyCalls first))) go_on)
means_one mode first lines text texts go_on read true few kept good e rest =
    let lt : length lines < most_lines = ltb-true _ _ e in
    means_behind_good mode first lines text texts read (go_on (lines ++ read ∷ [])) kept (good_line_of-is_some mode texts text read good)
    (rest (lines ++ read ∷ []) (omega (arith, length-append lines (read ∷ []))))
means_one mode first lines text texts go_on read false few kept good e rest =
    let full : length lines ≡ most_lines = omega (arith, ltb-false _ _ e) in
    stops_here mode first lines text texts (IsFullAt mode) kept (full, (read, good))

means_step : (mode : ScriptMode) (first : ℕ) (lines : List Line) (text : List ℕ) (texts : List (List ℕ)) (go_on : List Line → Outcome) (skipped : Bool) (good : Option Line)
    → length lines ≤ most_lines → is_skipped text ≡ skipped → good_line_of mode texts text ≡ good
    → ((all : List Line) → length all ≤ most_lines → Means mode (first + 1) all texts (go_on all))
    → Means mode first lines (text ∷ texts) (then_read (cond skipped (Ok lines) (add_line first lines good)) go_on)
means_step mode first lines text texts go_on true good few s g rest = means_behind_skipped mode first lines text texts (go_on lines) s (rest lines few)
means_step mode first lines text texts go_on false None few s g rest = stops_here mode first lines text texts (IsBadAt mode) s (few, g)
means_step mode first lines text texts go_on false (Some read) few s g rest = means_one mode first lines text texts go_on read _ few s g refl rest

means : (mode : ScriptMode) (first : ℕ) (lines : List Line) (texts : List (List ℕ)) → length lines ≤ most_lines → Means mode first lines texts (read_from mode first lines texts)
unfolding read_from
means mode first lines [] few = ([], sym (append-nil lines), refl, few)
means mode first lines (text ∷ texts) few =
    means_step mode first lines text texts (λ all. read_from mode (first + 1) all texts) _ _ few refl refl (λ all h. means mode (first + 1) all texts h)

pub read_text-is_ok : (mode : ScriptMode) (text : List ℕ) (lines : List Line) → read_text mode text ≡ Ok lines → IsScript mode text lines
read_text-is_ok mode text lines h =
    let m = subst (Means mode 1 [] (lines_of text)) h (means mode 1 [] (lines_of text) (omega arith)) in
    record { reads = subst (Read mode (lines_of text) []) (sym m.1) m.2; count = m.3 }

pub read_text-is_bad : (mode : ScriptMode) (text : List ℕ) (number : ℕ) → read_text mode text ≡ Err (faults.BadLine number) → IsFirstBad mode text number
read_text-is_bad mode text number h =
    let m = subst (Means mode 1 [] (lines_of text)) h (means mode 1 [] (lines_of text) (omega arith)) in
    record {
      line = m.0;
      later = m.1;
      lines = m.2;
      before = m.3;
      count = m.5.0;
      not_skipped = m.4;
      not_good = λ read good. let e = sym m.5.1 ∙ good_line_of-good mode m.1 m.0 read good in cc;
    }

pub read_text-is_full : (mode : ScriptMode) (text : List ℕ) (number : ℕ) → read_text mode text ≡ Err (faults.TooManyCalls number) → IsOneTooMany mode text number
read_text-is_full mode text number h =
    let m = subst (Means mode 1 [] (lines_of text)) h (means mode 1 [] (lines_of text) (omega arith)) in
    record {
      line = m.0;
      later = m.1;
      lines = m.2;
      before = m.3;
      count = m.5.0;
      not_skipped = m.4;
      read = m.5.1.0;
      good = good_line_of-is_some mode m.1 m.0 m.5.1.0 m.5.1.1;
    }

-- ---- what has the meaning is read

reads_skipped : (mode : ScriptMode) (first : ℕ) (lines : List Line) (text : List ℕ) (texts : List (List ℕ)) → is_skipped text ≡ true → read_from mode first lines (text ∷ texts) ≡ read_from mode (first + 1) lines texts
unfolding read_from
reads_skipped mode first lines text texts skipped = rw skipped refl

reads_good : (mode : ScriptMode) (first : ℕ) (lines : List Line) (text : List ℕ) (texts : List (List ℕ)) (read : Line) → is_skipped text ≡ false → IsGood mode texts text read → length lines < most_lines
    → read_from mode first lines (text ∷ texts) ≡ read_from mode (first + 1) (lines ++ read ∷ []) texts
unfolding read_from
reads_good mode first lines text texts read kept good room = rw (kept, good_line_of-good mode texts text read good, lt-ltb _ _ room) refl

reads_one : (mode : ScriptMode) (text : List ℕ) (before rest : List (List ℕ)) (first : ℕ) (lines new : List Line) (skipped : Bool) → is_skipped text ≡ skipped
    → MatchBool skipped (Read mode before rest new) ((read : Line) × (others : List Line) × (new ≡ read ∷ others) × IsGood mode (before ++ rest) text read × Read mode before rest others)
    → length (lines ++ new) ≤ most_lines
    → ((ls ns : List Line) → Read mode before rest ns → length (ls ++ ns) ≤ most_lines → read_from mode (first + 1) ls (before ++ rest) ≡ read_from mode (length before + (first + 1)) (ls ++ ns) rest)
    → read_from mode first lines (text ∷ before ++ rest) ≡ read_from mode (length (text ∷ before) + first) (lines ++ new) rest
reads_one mode text before rest first lines new true e h few on =
    let n : length before + (first + 1) ≡ length (text ∷ before) + first = omega arith in
    reads_skipped mode first lines text (before ++ rest) e ∙ on lines new h few ∙ ap (λ (k : ℕ). read_from mode k (lines ++ new) rest) n
reads_one mode text before rest first lines new false e (read, others, is, good, h) few on =
    let n : length before + (first + 1) ≡ length (text ∷ before) + first = omega arith in
    let all : (lines ++ read ∷ []) ++ others ≡ lines ++ new = append_assoc lines (read ∷ []) others ∙ ap (λ (l : List Line). lines ++ l) (sym is) in
    let fits : length ((lines ++ read ∷ []) ++ others) ≤ most_lines = rw all few in
    let room : length lines < most_lines = omega (arith, fits, length-append (lines ++ read ∷ []) others, length-append lines (read ∷ [])) in
    reads_good mode first lines text (before ++ rest) read e good room ∙ on (lines ++ read ∷ []) others h fits
    ∙ ap (λ (k : ℕ). read_from mode k ((lines ++ read ∷ []) ++ others) rest) n ∙ ap (λ (l : List Line). read_from mode (length (text ∷ before) + first) l rest) all

none_good : (mode : ScriptMode) (later : List (List ℕ)) (line : List ℕ) (good : Option Line) → good_line_of mode later line ≡ good → ((read : Line) → IsGood mode later line read → ⊥) → good_line_of mode later line ≡ None
none_good mode later line None e h = e
none_good mode later line (Some read) e h = absurd (h read (good_line_of-is_some mode later line read e))

-- the walk goes on behind the lines that are read
reads_on : (mode : ScriptMode) (before rest : List (List ℕ)) (first : ℕ) (lines new : List Line) → Read mode before rest new → length (lines ++ new) ≤ most_lines
    → read_from mode first lines (before ++ rest) ≡ read_from mode (length before + first) (lines ++ new) rest
reads_on mode [] rest first lines new h few =
    let n : first ≡ 0 + first = omega arith in
    let all : lines ≡ lines ++ new = sym (append-nil lines) ∙ ap (λ (l : List Line). lines ++ l) (sym h) in
    ap (λ (k : ℕ). read_from mode k lines rest) n ∙ ap (λ (l : List Line). read_from mode (0 + first) l rest) all
reads_on mode (text ∷ before) rest first lines new h few =
    reads_one mode text before rest first lines new (is_skipped text) refl h few (λ ls ns r f. reads_on mode before rest (first + 1) ls ns r f)

-- the whole text is read, if it is a script
pub read_text-script : (mode : ScriptMode) (text : List ℕ) (lines : List Line) → IsScript mode text lines → read_text mode text ≡ Ok lines
unfolding read_from
read_text-script mode text lines h =
    ap (read_from mode 1 []) (sym (append-nil (lines_of text))) ∙ reads_on mode (lines_of text) [] 1 [] lines h.reads h.count

ok_is : (a b : List Line) (read : Outcome) → read ≡ Ok a → read ≡ Ok b → a ≡ b
ok_is a b read h k = cc

pub one_script : (mode : ScriptMode) (text : List ℕ) (a b : List Line) → IsScript mode text a → IsScript mode text b → a ≡ b
one_script mode text a b h k = ok_is a b (read_text mode text) (read_text-script mode text a h) (read_text-script mode text b k)

-- up to a line
reads_up_to : (mode : ScriptMode) (text : List ℕ) (number : ℕ) (line : List ℕ) (later : List (List ℕ)) (lines : List Line) → ReadsUpTo mode 1 (lines_of text) number line later lines → length lines ≤ most_lines
    → read_text mode text ≡ read_from mode number lines (line ∷ later)
reads_up_to mode text number line later lines h few =
    ap (read_from mode 1 []) h.whole ∙ reads_on mode h.before (line ∷ later) 1 [] lines h.reads few ∙ ap (λ (k : ℕ). read_from mode k lines (line ∷ later)) (sym h.place)

pub read_text-bad : (mode : ScriptMode) (text : List ℕ) (number : ℕ) → IsFirstBad mode text number → read_text mode text ≡ Err (faults.BadLine number)
unfolding read_from
read_text-bad mode text number h =
    let none = none_good mode h.later h.line _ refl h.not_good in
    reads_up_to mode text number h.line h.later h.lines h.before h.count ∙ rw (h.not_skipped, none) refl

pub read_text-full : (mode : ScriptMode) (text : List ℕ) (number : ℕ) → IsOneTooMany mode text number → read_text mode text ≡ Err (faults.TooManyCalls number)
unfolding read_from
read_text-full mode text number h =
    let good = good_line_of-good mode h.later h.line h.read h.good in
    reads_up_to mode text number h.line h.later h.lines h.before (omega (arith, h.count)) ∙ rw (h.not_skipped, good, h.count) refl

-- ---- answers

pub only_answer : (fault : ScriptError) (read other : Outcome) → Ends fault read → read ≡ other → Ends fault other
only_answer fault read other h e = subst (Ends fault) e h

abbrev refused : ScriptError → Outcome
refused fault = Err fault

pub bad_answer : (fault : ScriptError) (mode : ScriptMode) (text : List ℕ) → Ends fault (read_text mode text) → (line : ℕ) → refused fault ≡ refused (faults.BadLine line) → IsFirstBad mode text line
bad_answer (faults.BadLine number) mode text h line e = let same : number ≡ line = cc in read_text-is_bad mode text line (subst (λ (n : ℕ). read_text mode text ≡ Err (faults.BadLine n)) same h)
bad_answer (faults.TooManyCalls number) mode text h line e = absurd cc
bad_answer faults.Memory mode text h line e = absurd cc

pub full_answer : (fault : ScriptError) (mode : ScriptMode) (text : List ℕ) → Ends fault (read_text mode text) → (line : ℕ) → refused fault ≡ refused (faults.TooManyCalls line) → IsOneTooMany mode text line
full_answer (faults.TooManyCalls number) mode text h line e = let same : number ≡ line = cc in read_text-is_full mode text line (subst (λ (n : ℕ). read_text mode text ≡ Err (faults.TooManyCalls n)) same h)
full_answer (faults.BadLine number) mode text h line e = absurd cc
full_answer faults.Memory mode text h line e = absurd cc

good_text : (mode : ScriptMode) (text : List ℕ) (read : Outcome) → read_text mode text ≡ read → IsOk read → (lines : List Line) × IsScript mode text lines
good_text mode text (Ok lines) is good = (lines, read_text-is_ok mode text lines is)
good_text mode text (Err fault) is good = absurd cc

-- a text that is read is a script
pub some_script : (mode : ScriptMode) (text : List ℕ) → IsOk (read_text mode text) → (lines : List Line) × IsScript mode text lines
some_script mode text good = good_text mode text (read_text mode text) refl good

-- ---- the lines of a script

each_one : (mode : ScriptMode) (text : List ℕ) (texts later : List (List ℕ)) (lines : List Line) (skipped : Bool)
    → MatchBool skipped (Read mode texts later lines) ((read : Line) × (others : List Line) × (lines ≡ read ∷ others) × IsGood mode (texts ++ later) text read × Read mode texts later others)
    → ((ls : List Line) → Read mode texts later ls → All IsLine ls) → All IsLine lines
each_one mode text texts later lines true h rest = rest lines h
each_one mode text texts later lines false (read, others, is, good, h) rest = subst (All IsLine) (sym is) (All-cons IsLine read others good.0.0 (rest others h))

each_line : (mode : ScriptMode) (texts later : List (List ℕ)) (lines : List Line) → Read mode texts later lines → All IsLine lines
each_line mode [] later lines h = subst (All IsLine) (sym h) (All-nil IsLine)
each_line mode (text ∷ texts) later lines h = each_one mode text texts later lines (is_skipped text) h (λ ls r. each_line mode texts later ls r)

pub AreLines-script : (mode : ScriptMode) (text : List ℕ) (lines : List Line) → IsScript mode text lines → AreLines lines
AreLines-script mode text lines h = record { count = h.count; each = each_line mode (lines_of text) [] lines h.reads }
