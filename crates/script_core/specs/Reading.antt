-- Reading a line word by word, and a text line by line. Contracts of private functions cite this; what it means is the
-- grammar.
use Rattle.std.specs.Prelude.{◌≡◌, ℕ, ◌+◌, ◌-◌, ◌^◌, ◌≤◌, max, Bool, true, false, not, ◌&&◌, ◌||◌, ◌==◌, nat_lt, nat_le, if◌then◌else◌, List, [], ◌∷◌, ◌++◌, length, take, slice_index, codes, Option, Some, None, Result, Ok, Err, IsOk}
use Rattle.std.specs.List.{list_all, list_any, slice_split, flat_map}
use Rattle.std.specs.Option.{option_map_or}
use Rattle.std.specs.Result.{result_ok}
use Rattle.std.specs.Char.{is_ascii_digit}
use Rattle.std.specs.Str.{bytes_eq}
use Rattle.std.specs.Str.Parse.{digits_value}
use Rattle.hex.specs.Hex.{decode_of}
use Rattle.kv_model.specs.declared.call.Call.{Call}
use Rattle.kv_model.specs.declared.call.Call.TheVariants as call
use Rattle.kv_model.specs.declared.flags.Flags.{Flags}
use Rattle.kv_model.specs.declared.pattern.Pattern.{Pattern}
use Rattle.kv_model.specs.declared.pattern.Pattern.TheVariants as pattern
use Rattle.script_core.specs.declared.error.Malformed.{Malformed}
use Rattle.script_core.specs.declared.error.ScriptError.{ScriptError}
use Rattle.script_core.specs.declared.error.ScriptError.TheVariants as faults
use Rattle.script_core.specs.declared.line.Act.{Act}
use Rattle.script_core.specs.declared.line.Act.TheVariants.{Do, Cut}
use Rattle.script_core.specs.declared.line.Line.{Line}
use Rattle.script_core.specs.declared.line.PowerCut.{PowerCut}
use Rattle.script_core.specs.declared.line.Side.{Side}
use Rattle.script_core.specs.declared.line.Side.TheVariants.{Primary, Rollback}
use Rattle.script_core.specs.declared.script.ScriptMode.{ScriptMode}
use Rattle.script_core.specs.declared.digits.Digits.{Digits}
use Rattle.script_core.specs.HexDigits.{decoded}
use Rattle.script_core.specs.declared.spelled.SpelledAct.{SpelledAct}
use Rattle.script_core.specs.declared.spelled.SpelledCall.{SpelledCall}
use Rattle.script_core.specs.declared.spelled.SpelledLine.{SpelledLine}
use Rattle.script_core.specs.Spelled.{spelled_call, spelled_act, spelled_line}
use denote.Ref.{Bor}
use Rattle.script_core.specs.Grammar.{is_key_word, is_prefix, is_skipped, most_lines, lines_of}

infixl 10 ◌>>=◌
abbrev pub ◌>>=◌ : {A B : Type 0} → Option A → (A → Option B) → Option B
None >>= f = None
(Some x) >>= f = f x

-- What a function returned, seen by view, is what reading gives. It takes no memory.
abbrev pub GivesBy : {X Y : Type 0} → (X → Y) → Result X Malformed → Option Y → Type 0
GivesBy view (Ok x) read = read ≡ Some (view x)
GivesBy view (Err e) read = read ≡ None

abbrev pub GivesIt : {X : Type 0} → Result X Malformed → Option X → Type 0
GivesIt result read = GivesBy (λ x. x) result read

-- the same of a word of the line, of digits, and of what a call, an act and a line spell
abbrev pub GivesWord : Result (Bor (List ℕ)) Malformed → Option (List ℕ) → Type 0
GivesWord result read = GivesBy (λ word. word.now) result read

abbrev pub GivesDigits : Result Digits Malformed → Option (List ℕ) → Type 0
GivesDigits result read = GivesBy (λ digits. decoded digits.word.now) result read

abbrev pub GivesCall : Result SpelledCall Malformed → Option Call → Type 0
GivesCall result read = GivesBy spelled_call result read

abbrev pub GivesAct : Result SpelledAct Malformed → Option Act → Type 0
GivesAct result read = GivesBy spelled_act result read

abbrev pub GivesCut : Result PowerCut Malformed → Option Act → Type 0
GivesCut result read = GivesBy (λ (cut : PowerCut). Cut cut.side cut.n cut.pattern) result read

abbrev pub GivesLine : Result SpelledLine Malformed → Option Line → Type 0
GivesLine result read = GivesBy spelled_line result read

-- ---- words

-- the first word, and the words behind it
abbrev pub word_at : List (List ℕ) → Option (List ℕ × List (List ℕ))
word_at [] = None
word_at (word ∷ words) = Some (word, words)

-- no word is left
abbrev pub end_at : List (List ℕ) → Option Unit
end_at [] = Some tt
end_at (word ∷ words) = None

-- a decimal number below a limit, without a leading zero
abbrev pub has_leading_zero : List ℕ → Bool
has_leading_zero word = nat_lt 1 (length word) && (slice_index word 0 == 48)

unfoldable pub number_of : List ℕ → Option ℕ
number_of word =
    if nat_lt 0 (length word) && not (has_leading_zero word) && list_all is_ascii_digit word && nat_lt (digits_value 10 word) (2 ^ 32)
    then Some (digits_value 10 word) else None

unfoldable pub number_up_to : ℕ → List ℕ → Option ℕ
number_up_to most word = do
  number ← number_of word
  if nat_le number most then Some number else None

unfoldable pub key_of : List ℕ → Option (List ℕ)
key_of word = if is_key_word word then Some word else None

unfoldable pub bytes_of : List ℕ → Option (List ℕ)
bytes_of word =
    if bytes_eq word (codes "-") then Some []
    else if nat_lt (length word) 2 then None
    else result_ok (decode_of word)

unfoldable pub flags_of : List ℕ → Option Flags
flags_of word =
    if bytes_eq word (codes "-") then Some (record { bits = 0 })
    else if bytes_eq word (codes "w") then Some (record { bits = 1 })
    else if bytes_eq word (codes "c") then Some (record { bits = 2 })
    else if bytes_eq word (codes "wc") then Some (record { bits = 3 })
    else if bytes_eq word (codes "r") then Some (record { bits = 8 })
    else if bytes_eq word (codes "wr") then Some (record { bits = 9 })
    else if bytes_eq word (codes "cr") then Some (record { bits = 10 })
    else if bytes_eq word (codes "wcr") then Some (record { bits = 11 })
    else None

unfoldable pub prefix_of : List ℕ → Option (List ℕ)
prefix_of word =
    if nat_lt 0 (length word) && (slice_index word (length word - 1) == 42) && is_prefix (take (length word - 1) word)
    then Some (take (length word - 1) word) else None

-- ---- one call

-- the only word is a key, or a number
unfoldable pub lone_key_of : List (List ℕ) → Option (List ℕ)
lone_key_of words = do
  key ← word_at words
  read ← key_of key.0
  _ ← end_at key.1
  Some read

unfoldable pub lone_number_of : List (List ℕ) → Option ℕ
lone_number_of words = do
  n ← word_at words
  read ← number_up_to 255 n.0
  _ ← end_at n.1
  Some read

unfoldable pub part_of : List (List ℕ) → Option Call
part_of words = do
  key ← word_at words
  read ← key_of key.0
  offset ← word_at key.1
  from ← number_of offset.0
  count ← word_at offset.1
  most ← number_of count.0
  _ ← end_at count.1
  Some (call.Part read from most)

unfoldable pub set_of : List (List ℕ) → Option Call
set_of words = do
  key ← word_at words
  read ← key_of key.0
  digits ← word_at key.1
  value ← bytes_of digits.0
  letters ← word_at digits.1
  flags ← flags_of letters.0
  _ ← end_at letters.1
  Some (call.Set read value flags)

unfoldable pub start_of : List (List ℕ) → Option Call
start_of words = do
  key ← word_at words
  read ← key_of key.0
  size ← word_at key.1
  bytes ← number_of size.0
  letters ← word_at size.1
  flags ← flags_of letters.0
  _ ← end_at letters.1
  Some (call.Start read bytes flags)

unfoldable pub add_of : List (List ℕ) → Option Call
add_of words = do
  digits ← word_at words
  value ← bytes_of digits.0
  _ ← end_at digits.1
  Some (call.Add value)

unfoldable pub open_of : List (List ℕ) → Option Call
open_of words = do
  n ← word_at words
  read ← number_up_to 255 n.0
  starred ← word_at n.1
  prefix ← prefix_of starred.0
  _ ← end_at starred.1
  Some (call.IterOpen read prefix)

-- a call of nothing but its verb
abbrev pub bare : Call → List (List ℕ) → Option Call
bare asked words = do
  _ ← end_at words
  Some asked

abbrev pub keyed : (List ℕ → Call) → List (List ℕ) → Option Call
keyed make words = do
  key ← lone_key_of words
  Some (make key)

abbrev pub numbered : (ℕ → Call) → List (List ℕ) → Option Call
numbered make words = do
  n ← lone_number_of words
  Some (make n)

-- the calls on values, and the calls on iterators and on the whole store
unfoldable pub value_call_of : List ℕ → List (List ℕ) → Option Call
value_call_of verb words =
    if bytes_eq verb (codes "get") then keyed call.Get words
    else if bytes_eq verb (codes "part") then part_of words
    else if bytes_eq verb (codes "info") then keyed call.Info words
    else if bytes_eq verb (codes "set") then set_of words
    else if bytes_eq verb (codes "remove") then keyed call.Remove words
    else if bytes_eq verb (codes "start") then start_of words
    else if bytes_eq verb (codes "add") then add_of words
    else None

unfoldable pub call_of : List ℕ → List (List ℕ) → Option Call
call_of verb words =
    if bytes_eq verb (codes "finish") then bare call.Finish words
    else if bytes_eq verb (codes "abort") then bare call.Abort words
    else if bytes_eq verb (codes "open") then open_of words
    else if bytes_eq verb (codes "next") then numbered call.Next words
    else if bytes_eq verb (codes "close") then numbered call.IterClose words
    else if bytes_eq verb (codes "reset") then bare call.Reset words
    else value_call_of verb words

-- ---- one line of caller 0

unfoldable pub side_of : List ℕ → Option Side
side_of word =
    if bytes_eq word (codes "p") then Some Primary
    else if bytes_eq word (codes "r") then Some Rollback
    else None

unfoldable pub mix_of : List (List ℕ) → Option Pattern
mix_of parts = do
  seed ← word_at parts
  read ← number_of seed.0
  _ ← end_at seed.1
  Some (pattern.Mix read)

unfoldable pub plain_pattern_of : List ℕ → Option Pattern
plain_pattern_of name =
    if bytes_eq name (codes "none") then Some pattern.None
    else if bytes_eq name (codes "half") then Some pattern.Half
    else if bytes_eq name (codes "zero") then Some pattern.Zero
    else if bytes_eq name (codes "all") then Some pattern.All
    else None

unfoldable pub lone_pattern_of : List ℕ → List (List ℕ) → Option Pattern
lone_pattern_of name parts = do
  torn ← plain_pattern_of name
  _ ← end_at parts
  Some torn

unfoldable pub pattern_of : List (List ℕ) → Option Pattern
pattern_of parts = do
  name ← word_at parts
  if bytes_eq name.0 (codes "mix") then mix_of name.1 else lone_pattern_of name.0 name.1

-- a number that is not 0
unfoldable pub count_of : List ℕ → Option ℕ
count_of word = do
  n ← number_of word
  if n == 0 then None else Some n

unfoldable pub cut_of : List ℕ → Option Act
cut_of word = do
  letter ← word_at (slice_split (λ b. b == 58) word)
  side ← side_of letter.0
  digits ← word_at letter.1
  n ← count_of digits.0
  torn ← pattern_of digits.1
  Some (Cut side n torn)

unfoldable pub lone_cut_of : List (List ℕ) → Option Act
lone_cut_of words = do
  word ← word_at words
  cut ← cut_of word.0
  _ ← end_at word.1
  Some cut

unfoldable pub operator_act_of : List ℕ → List (List ℕ) → Option Act
operator_act_of verb words =
    if bytes_eq verb (codes "mount") then (bare call.Mount words >>= λ asked. Some (Do asked))
    else if bytes_eq verb (codes "cut") then lone_cut_of words
    else None

unfoldable pub act_of : ℕ → List ℕ → List (List ℕ) → Option Act
act_of who verb words =
    if who == 0 then operator_act_of verb words
    else (call_of verb words >>= λ asked. Some (Do asked))

unfoldable pub line_of : List ℕ → Option Line
line_of text = do
  caller ← word_at (slice_split (λ b. b == 32) text)
  who ← number_up_to 16 caller.0
  verb ← word_at caller.1
  act ← act_of who verb.0 verb.1
  Some (record { who = who; act = act })

-- the client whose set the line ends
unfoldable pub ended_by : List ℕ → Option ℕ
ended_by text = do
  caller ← word_at (slice_split (λ b. b == 32) text)
  who ← number_up_to 16 caller.0
  verb ← word_at caller.1
  _ ← end_at verb.1
  if nat_lt 0 who && (bytes_eq verb.0 (codes "finish") || bytes_eq verb.0 (codes "abort")) then Some who else None

-- ---- the whole text

abbrev pub ends_set : ℕ → List ℕ → Bool
ends_set who text = option_map_or (λ ended. ended == who) (ended_by text) false

-- the number of the last of these lines, which count from a number, that ends the client's set, or 0
unfoldable pub last_end : ℕ → ℕ → List (List ℕ) → ℕ
last_end who first [] = 0
last_end who first (text ∷ texts) = max (if ends_set who text then first else 0) (last_end who (first + 1) texts)

-- on threads, which alone ask for it: for each client, whether one of the later lines ends its set is told by the number of the last one that does
abbrev pub TellsEnds : ScriptMode → List ℕ → ℕ → List (List ℕ) → Type 0
TellsEnds mode ends number later = mode.threads ≡ true → (who : ℕ) → who ≤ 16 → nat_lt number (slice_index ends who) ≡ list_any (ends_set who) later

abbrev pub is_start : Act → Bool
is_start (Do (call.Start key size flags)) = true
is_start _ = false

abbrev pub cuts_rollback : Act → Bool
cuts_rollback (Cut Rollback n torn) = true
cuts_rollback _ = false

-- a line that is allowed, where it is told whether a later one ends the client's set
abbrev pub is_allowed : ScriptMode → Bool → Line → Bool
is_allowed mode ended line =
    (not mode.threads || (nat_le 1 line.who && (not (is_start line.act) || ended))) && (mode.secure || not (cuts_rollback line.act))

abbrev pub good_line_of : ScriptMode → List (List ℕ) → List ℕ → Option Line
good_line_of mode later text = do
  line ← line_of text
  if is_allowed mode (list_any (ends_set line.who) later) line then Some line else None

abbrev pub Outcome : Type 0
Outcome = Result (List Line) ScriptError

-- a good line is one more, unless there are as many as may be
abbrev pub add_line : ℕ → List Line → Option Line → Outcome
add_line number lines None = Err (faults.BadLine number)
add_line number lines (Some line) = if nat_lt (length lines) most_lines then Ok (lines ++ line ∷ []) else Err (faults.TooManyCalls number)

abbrev pub then_read : Outcome → (List Line → Outcome) → Outcome
then_read (Ok lines) go_on = go_on lines
then_read (Err fault) go_on = Err fault

-- one line of the text, which others follow
abbrev pub read_one : ScriptMode → ℕ → List Line → List ℕ → List (List ℕ) → Outcome
read_one mode number lines text later = if is_skipped text then Ok lines else add_line number lines (good_line_of mode later text)

-- the lines from this number on, behind these lines of the script
unfoldable pub read_from : ScriptMode → ℕ → List Line → List (List ℕ) → Outcome
read_from mode number lines [] = Ok lines
read_from mode number lines (text ∷ texts) = then_read (read_one mode number lines text texts) (λ all. read_from mode (number + 1) all texts)

abbrev pub read_text : ScriptMode → List ℕ → Outcome
read_text mode text = read_from mode 1 [] (lines_of text)

-- what a function returned is what reading gives, unless memory ran out
abbrev pub Ends : ScriptError → Outcome → Type 0
Ends faults.Memory read = Unit {0}
Ends (faults.BadLine line) read = read ≡ Err (faults.BadLine line)
Ends (faults.TooManyCalls line) read = read ≡ Err (faults.TooManyCalls line)

abbrev pub IsOutcome : {X : Type 0} → (X → List Line) → Result X ScriptError → Outcome → Type 0
IsOutcome view (Ok lines) read = read ≡ Ok (view lines)
IsOutcome view (Err fault) read = Ends fault read

-- the refusal that reading gives, which is never want of memory
abbrev pub Refuses : ScriptError → Outcome → Type 0
Refuses (faults.BadLine line) read = read ≡ Err (faults.BadLine line)
Refuses (faults.TooManyCalls line) read = read ≡ Err (faults.TooManyCalls line)
Refuses faults.Memory read = ⊥

-- what a function that tests a line behind these lines returned: the line, none where it is skipped, or why it is bad
abbrev pub HasTested : Result (Option SpelledLine) ScriptError → List Line → Outcome → Type 0
HasTested (Ok None) lines read = read ≡ Ok lines
HasTested (Ok (Some line)) lines read = read ≡ Ok (lines ++ spelled_line line ∷ [])
HasTested (Err fault) lines read = Refuses fault read

abbrev pub count_of_lines : Outcome → Option ℕ
count_of_lines (Ok lines) = Some (length lines)
count_of_lines (Err fault) = None

-- what a function that counts the lines up to one returned
abbrev pub HasCounted : Result ℕ ScriptError → Outcome → Type 0
HasCounted (Ok count) read = count_of_lines read ≡ Some count
HasCounted (Err fault) read = Refuses fault read

-- what a function that reads and keeps nothing returned
abbrev pub HasChecked : Result (Unit {0}) ScriptError → Outcome → Type 0
HasChecked (Ok done) read = IsOk read
HasChecked (Err fault) read = Refuses fault read

-- what a function that reads one line returned, and the lines that it left; it wants memory for a good line alone
abbrev pub HasReadOne : Result (Unit {0}) ScriptError → List Line → Outcome → Type 0
HasReadOne (Ok done) lines read = read ≡ Ok lines
HasReadOne (Err (faults.BadLine line)) lines read = read ≡ Err (faults.BadLine line)
HasReadOne (Err (faults.TooManyCalls line)) lines read = read ≡ Err (faults.TooManyCalls line)
HasReadOne (Err faults.Memory) lines read = IsOk read

-- the same of a script, which is seen as its lines
abbrev pub Answers : Result (List Line) ScriptError → Outcome → Type 0
Answers result read = IsOutcome (λ lines. lines) result read

-- ---- writing

-- words with a separator in front of each
abbrev pub behind : ℕ → List (List ℕ) → List ℕ
behind separator words = flat_map (λ word. separator ∷ word) words
