-- What is read of a line is what the line spells, and what it spells is read.
use Rattle.std.proofs.Common.{◌≡◌, ◌++◌, ℕ, zero, suc, ◌^◌, ◌<◌, length, get_or, ◌≤◌, ◌⊎◌, inl, inr, eqb, ltb, Bool, true, false, cond, List, [], ◌∷◌, Some, None, refl, sym, ap, subst, ◌∙◌, arith}
use Rattle.std.specs.Prelude.{codes, ◌&&◌, ◌||◌}
use Rattle.std.specs.Fmt.{decimal}
use Rattle.std.specs.List.{slice_split, join_with_byte}
use Rattle.std.specs.Str.{bytes_eq}
use Rattle.std.proofs.lemmas.Bool.{ltb-true, lt-ltb}
use Rattle.std.proofs.lemmas.Fmt.{decimal_digit, decimal_nonempty, first_decimal}
use Rattle.std.proofs.lemmas.List.{append-nil}
use Rattle.std.proofs.lemmas.List.Splits.{join_with_byte-slice_split}
use Rattle.std.proofs.lemmas.Slice.Eq.{bytes_eq-Decides}
use Rattle.kv_model.specs.declared.call.Call.{Call}
use Rattle.kv_model.specs.declared.call.Call.TheVariants as call
use Rattle.script_core.specs.declared.line.Act.{Act}
use Rattle.script_core.specs.declared.line.Act.TheVariants.{Do, Cut}
use Rattle.script_core.specs.declared.line.Line.{Line}
use Rattle.script_core.specs.Grammar.{flags_word, prefix_word, cut_word, IsAct, IsCaller, AreWords, Spells, EndsSet, is_skipped}
use Rattle.script_core.specs.Reading.{◌>>=◌, word_at, end_at, number_up_to, lone_key_of, lone_number_of, part_of, set_of, start_of, add_of, open_of, bare, value_call_of, call_of, lone_cut_of, operator_act_of, act_of, line_of, ended_by}
use Rattle.script_core.proofs.Calls.{call_of-is_some}
use Rattle.script_core.proofs.Cuts.{lone_cut_of-is_some, lone_cut_of-word, IsClean-cut}
use Rattle.script_core.proofs.Options.{some_is, chosen, bind_some, both, either}
use Rattle.script_core.proofs.Rows.{field_some, end_some, named}
use Rattle.script_core.proofs.Splits.{IsWhole, AreWhole, AreClean, AreWhole-clean, IsWhole-join_with_byte, slice_split-join_with_byte}
use Rattle.script_core.proofs.Words.{number_of-decimal, number_up_to-is_some, number_up_to-decimal, IsWhole-decimal, IsClean-decimal, key_of-key, IsClean-key, prefix_of-prefix, IsClean-prefix, bytes_of-hex, IsClean-hex, flags_of-flags, IsClean-flags}

-- ---- acts

-- what a caller may ask for, and the words for it
abbrev IsAsked : ℕ → List (List ℕ) → Act → Type 0
IsAsked who words act = IsCaller who act × IsAct act × AreWords words act

abbrev IsOperated : List (List ℕ) → List ℕ → Act → Type 0
IsOperated words verb act = IsAsked 0 (verb ∷ words) act

mount_is : (words : List (List ℕ)) (act : Act) → (bare call.Mount words >>= λ asked. Some (Do asked)) ≡ Some act → IsOperated words (codes "mount") act
mount_is words act h =
    let asked = bind_some (bare call.Mount words) (λ asked. Some (Do asked)) act h in
    let end = end_some words call.Mount asked.0 asked.1 in
    let is : Do call.Mount ≡ act = ap (λ (c : Call). Do c) end.1 ∙ some_is (Do asked.0) act asked.2 in
    subst (IsOperated words (codes "mount")) {x = Do call.Mount} is (refl, tt, ap (λ (ws : List (List ℕ)). codes "mount" ∷ ws) end.0)

lone_cut_is : (words : List (List ℕ)) (act : Act) → lone_cut_of words ≡ Some act → IsOperated words (codes "cut") act
lone_cut_is words act h =
    let (word, words-are, (side, n, torn, is, valid, spelled)) = lone_cut_of-is_some words act h in
    subst (IsOperated words (codes "cut")) {x = Cut side n torn} is (refl, valid, cc (words-are, spelled))

operator_act_is : (verb : List ℕ) (words : List (List ℕ)) (act : Act) → operator_act_of verb words ≡ Some act → IsOperated words verb act
unfolding operator_act_of
operator_act_is verb words act =
    named (IsOperated words) _ verb (codes "mount") act _ _ (mount_is words act)
    (named (IsOperated words) _ verb (codes "cut") act _ _ (lone_cut_is words act) (λ h. absurd cc) refl) refl

act_is : (who : ℕ) (operator : Bool) (verb : List ℕ) (words : List (List ℕ)) (act : Act) → who ≤ 16 → eqb who 0 ≡ operator
    → cond operator (operator_act_of verb words) (call_of verb words >>= λ asked. Some (Do asked)) ≡ Some act → IsAsked who (verb ∷ words) act
act_is who true verb words act low e h = let zero : who ≡ 0 = grind arith in subst (λ (n : ℕ). IsAsked n (verb ∷ words) act) (sym zero) (operator_act_is verb words act h)
act_is who false verb words act low e h =
    let some : 1 ≤ who = grind arith in
    let asked = bind_some (call_of verb words) (λ asked. Some (Do asked)) act h in
    let is = call_of-is_some verb words asked.0 asked.1 in
    subst (IsAsked who (verb ∷ words)) {x = Do asked.0} (some_is (Do asked.0) act asked.2) (is.2 who some low, is.0, is.1)

-- the words of an act, taken apart
abbrev IsRead : ℕ → List (List ℕ) → Act → Type 0
IsRead who words act = (verb : List ℕ) × (rest : List (List ℕ)) × (words ≡ verb ∷ rest) × (act_of who verb rest ≡ Some act) × AreClean words

act_of-act : (who : ℕ) (words : List (List ℕ)) (act : Act) → IsAsked who words act → IsRead who words act
unfolding act_of operator_act_of call_of value_call_of lone_key_of lone_number_of part_of set_of start_of add_of open_of
act_of-act who words (Do (call.Get key)) (caller, valid, is) =
    let client : eqb who 0 ≡ false = grind arith in
    (codes "get", key ∷ [], is, rw (client, key_of-key key valid) refl, rw is ((refl, refl), (IsClean-key key valid, tt)))
act_of-act who words (Do (call.Part key offset count)) (caller, valid, is) =
    let client : eqb who 0 ≡ false = grind arith in (
      codes "part",
      key ∷ decimal offset ∷ decimal count ∷ [],
      is,
      rw (client, key_of-key key valid.0, number_of-decimal offset valid.1, number_of-decimal count valid.2) refl,
      rw is ((refl, refl), (IsClean-key key valid.0, (IsClean-decimal offset (omega arith), (IsClean-decimal count (omega arith), tt)))),
    )
act_of-act who words (Do (call.Info key)) (caller, valid, is) =
    let client : eqb who 0 ≡ false = grind arith in
    (codes "info", key ∷ [], is, rw (client, key_of-key key valid) refl, rw is ((refl, refl), (IsClean-key key valid, tt)))
act_of-act who words (Do (call.Set key value flags)) (caller, valid, (digits, hex, is)) =
    let client : eqb who 0 ≡ false = grind arith in (
      codes "set",
      key ∷ digits ∷ flags_word flags.bits ∷ [],
      is,
      rw (client, key_of-key key valid.0, bytes_of-hex digits value hex, flags_of-flags flags.bits valid.1) refl,
      rw is ((refl, refl), (IsClean-key key valid.0, (IsClean-hex digits value hex, (IsClean-flags flags.bits valid.1, tt)))),
    )
act_of-act who words (Do (call.Remove key)) (caller, valid, is) =
    let client : eqb who 0 ≡ false = grind arith in
    (codes "remove", key ∷ [], is, rw (client, key_of-key key valid) refl, rw is ((refl, refl), (IsClean-key key valid, tt)))
act_of-act who words (Do (call.Start key size flags)) (caller, valid, is) =
    let client : eqb who 0 ≡ false = grind arith in (
      codes "start",
      key ∷ decimal size ∷ flags_word flags.bits ∷ [],
      is,
      rw (client, key_of-key key valid.0, number_of-decimal size valid.1, flags_of-flags flags.bits valid.2) refl,
      rw is ((refl, refl), (IsClean-key key valid.0, (IsClean-decimal size (omega arith), (IsClean-flags flags.bits valid.2, tt)))),
    )
act_of-act who words (Do (call.Add value)) (caller, valid, (digits, hex, is)) =
    let client : eqb who 0 ≡ false = grind arith in
    (codes "add", digits ∷ [], is, rw (client, bytes_of-hex digits value hex) refl, rw is ((refl, refl), (IsClean-hex digits value hex, tt)))
act_of-act who words (Do call.Finish) (caller, valid, is) =
    let client : eqb who 0 ≡ false = grind arith in
    (codes "finish", [], is, rw client refl, rw is ((refl, refl), tt))
act_of-act who words (Do call.Abort) (caller, valid, is) =
    let client : eqb who 0 ≡ false = grind arith in
    (codes "abort", [], is, rw client refl, rw is ((refl, refl), tt))
act_of-act who words (Do (call.IterOpen n prefix)) (caller, valid, is) =
    let client : eqb who 0 ≡ false = grind arith in (
      codes "open",
      decimal n ∷ prefix_word prefix ∷ [],
      is,
      rw (client, number_up_to-decimal 255 n valid.0 (omega arith), prefix_of-prefix prefix valid.1) refl,
      rw is ((refl, refl), (IsClean-decimal n (omega arith), (IsClean-prefix prefix valid.1, tt))),
    )
act_of-act who words (Do (call.Next n)) (caller, valid, is) =
    let client : eqb who 0 ≡ false = grind arith in
    (codes "next", decimal n ∷ [], is, rw (client, number_up_to-decimal 255 n valid (omega arith)) refl, rw is ((refl, refl), (IsClean-decimal n (omega arith), tt)))
act_of-act who words (Do (call.IterClose n)) (caller, valid, is) =
    let client : eqb who 0 ≡ false = grind arith in
    (codes "close", decimal n ∷ [], is, rw (client, number_up_to-decimal 255 n valid (omega arith)) refl, rw is ((refl, refl), (IsClean-decimal n (omega arith), tt)))
act_of-act who words (Do call.Reset) (caller, valid, is) =
    let client : eqb who 0 ≡ false = grind arith in
    (codes "reset", [], is, rw client refl, rw is ((refl, refl), tt))
act_of-act who words (Do call.Mount) (caller, valid, is) = (codes "mount", [], is, rw caller refl, rw is ((refl, refl), tt))
act_of-act who words (Cut side n torn) (caller, valid, is) =
    (codes "cut", cut_word side n torn ∷ [], is, rw (caller, lone_cut_of-word side n torn valid) refl, rw is ((refl, refl), (IsClean-cut side n torn valid, tt)))

-- ---- lines

act_some : (who : ℕ) (words : List (List ℕ)) (line : Line) → who ≤ 16
    → (word_at words >>= λ verb. act_of who verb.0 verb.1 >>= λ act. Some (record { who = who; act = act })) ≡ Some line
    → (act : Act) × IsAsked who words act × (record { who = who; act = act } ≡ line)
unfolding act_of
act_some who [] line low h = absurd cc
act_some who (verb ∷ rest) line low h =
    let b = bind_some (act_of who verb rest) (λ act. Some (record { who = who; act = act })) line h in
    (b.0, act_is who _ verb rest b.0 low refl b.1, some_is _ line b.2)

pub line_of-is_some : (text : List ℕ) (line : Line) → line_of text ≡ Some line → Spells text line
unfolding line_of
line_of-is_some text line h =
    let caller = field_some (number_up_to 16) (λ who rest. word_at rest >>= λ verb. act_of who verb.0 verb.1 >>= λ act. Some (record { who = who; act = act })) (slice_split (λ b. eqb b 32) text) line h in
    let who = number_up_to-is_some 16 caller.0 caller.2 caller.4 in
    let asked = act_some caller.2 caller.1 line who.1 caller.5 in
    let words : text ≡ join_with_byte 32 (decimal caller.2 ∷ caller.1) =
    sym (join_with_byte-slice_split 32 text) ∙ ap (join_with_byte 32) (caller.3 ∙ ap (λ (w : List ℕ). w ∷ caller.1) who.0) in
    subst (Spells text) {x = record { who = caller.2; act = asked.0 }} asked.2 ((asked.1.0, asked.1.1), (caller.1, asked.1.2, words))

caller_low : (who : ℕ) (act : Act) → IsCaller who act → who ≤ 16
caller_low who (Do call.Mount) h = omega arith
caller_low who (Cut side n torn) h = omega arith
caller_low who (Do _) h = h.1

-- the words of a line that is spelled
words_of : (text : List ℕ) (who : ℕ) (words : List (List ℕ)) → who ≤ 16 → AreWhole 32 words → text ≡ join_with_byte 32 (decimal who ∷ words) → slice_split (λ b. eqb b 32) text ≡ decimal who ∷ words
words_of text who words low whole is =
    ap (slice_split (λ b. eqb b 32)) is ∙ slice_split-join_with_byte 32 (decimal who) words (IsWhole-decimal 32 who refl (omega arith)) whole

pub line_of-spelled : (text : List ℕ) (line : Line) → Spells text line → line_of text ≡ Some line
unfolding line_of
line_of-spelled text line h =
    let low = caller_low line.who line.act h.0.0 in
    let r = act_of-act line.who h.1.0 line.act (h.0.0, h.0.1, h.1.1) in
    let split = words_of text line.who h.1.0 low (AreWhole-clean h.1.0 r.4).0 h.1.2 in
    rw (split, number_up_to-decimal 16 line.who low (omega arith), r.2, r.3) refl

pub one_line : (text : List ℕ) (a b : Line) → Spells text a → Spells text b → a ≡ b
one_line text a b h k = some_is a b (sym (line_of-spelled text a h) ∙ line_of-spelled text b k)

-- ---- lines that end a set

verb_is : (verb name : List ℕ) → bytes_eq verb name ≡ true → verb ≡ name
verb_is verb name h = (bytes_eq-Decides verb name).0 h

ended_some : (who : ℕ) (words : List (List ℕ)) (client : ℕ)
    → (word_at words >>= λ verb. end_at verb.1 >>= λ _. cond (ltb 0 who && (bytes_eq verb.0 (codes "finish") || bytes_eq verb.0 (codes "abort"))) (Some who) None) ≡ Some client
    → (who ≡ client) × (1 ≤ who) × ((words ≡ codes "finish" ∷ []) ⊎ (words ≡ codes "abort" ∷ []))
ended_some who [] client h = absurd cc
ended_some who (verb ∷ other ∷ rest) client h = absurd cc
ended_some who (verb ∷ []) client h =
    let c = chosen (ltb 0 who && (bytes_eq verb (codes "finish") || bytes_eq verb (codes "abort"))) who client h in
    let parts = both (ltb 0 who) (bytes_eq verb (codes "finish") || bytes_eq verb (codes "abort")) c.0 in (
      c.1,
      ltb-true _ _ parts.0,
      elim (either _ _ parts.1) [
        | inl yes_finish ↦ inl (ap (λ (w : List ℕ). w ∷ []) (verb_is verb (codes "finish") yes_finish))
        | inr yes_abort ↦ inr (ap (λ (w : List ℕ). w ∷ []) (verb_is verb (codes "abort") yes_abort))
      ],
    )

pub ended_by-is_some : (text : List ℕ) (who : ℕ) → ended_by text ≡ Some who → EndsSet who text
unfolding ended_by
ended_by-is_some text client h =
    let caller = field_some (number_up_to 16) (λ who rest. word_at rest >>= λ verb. end_at verb.1 >>= λ _. cond (ltb 0 who && (bytes_eq verb.0 (codes "finish") || bytes_eq verb.0 (codes "abort"))) (Some who) None)
    (slice_split (λ b. eqb b 32) text) client h in
    let who = number_up_to-is_some 16 caller.0 caller.2 caller.4 in
    let end = ended_some caller.2 caller.1 client caller.5 in
    let words : text ≡ join_with_byte 32 (decimal caller.2 ∷ caller.1) =
    sym (join_with_byte-slice_split 32 text) ∙ ap (join_with_byte 32) (caller.3 ∙ ap (λ (w : List ℕ). w ∷ caller.1) who.0) in
    subst (λ (n : ℕ). EndsSet n text) end.0 (elim end.2 [
      | inl finish ↦ inl (((end.1, who.1), tt), (caller.1, finish, words))
      | inr abort ↦ inr (((end.1, who.1), tt), (caller.1, abort, words))
    ])

pub ended_by-ends : (text : List ℕ) (who : ℕ) → EndsSet who text → ended_by text ≡ Some who
unfolding ended_by
ended_by-ends text who (inl h) =
    let r = act_of-act who h.1.0 (Do call.Finish) (h.0.0, h.0.1, h.1.1) in
    let split = words_of text who h.1.0 h.0.0.1 (AreWhole-clean h.1.0 r.4).0 h.1.2 in
    let client : ltb 0 who ≡ true = lt-ltb _ _ h.0.0.0 in
    rw (split, number_up_to-decimal 16 who h.0.0.1 (omega arith), h.1.1, client) refl
ended_by-ends text who (inr h) =
    let r = act_of-act who h.1.0 (Do call.Abort) (h.0.0, h.0.1, h.1.1) in
    let split = words_of text who h.1.0 h.0.0.1 (AreWhole-clean h.1.0 r.4).0 h.1.2 in
    let client : ltb 0 who ≡ true = lt-ltb _ _ h.0.0.0 in
    rw (split, number_up_to-decimal 16 who h.0.0.1 (omega arith), h.1.1, client) refl

-- ---- a line alone

not_skipped_digits : (digits rest : List ℕ) → 0 < length digits → 48 ≤ get_or digits 0 0 → is_skipped (digits ++ rest) ≡ false
not_skipped_digits [] rest long first = absurd (omega arith)
not_skipped_digits (b ∷ bs) rest long first = let other : eqb b 35 ≡ false = grind arith in other

front : (word : List ℕ) (words : List (List ℕ)) → (rest : List ℕ) × (join_with_byte 32 (word ∷ words) ≡ word ++ rest)
front word [] = ([], sym (append-nil word))
front word (next ∷ words) = (32 ∷ join_with_byte 32 (next ∷ words), refl)

first_digit : (n : ℕ) → n < 2 ^ 64 → 48 ≤ get_or (decimal n) 0 0
first_digit zero h = rw (decimal_digit 0 (omega arith)) (omega arith)
first_digit (suc n) h = let first = first_decimal (suc n) (omega arith) h in omega arith

-- a line that is spelled has no line feed and is not skipped
pub Spells-alone : (text : List ℕ) (line : Line) → Spells text line → IsWhole 10 text × (is_skipped text ≡ false)
Spells-alone text line h =
    let low = caller_low line.who line.act h.0.0 in
    let wide : line.who < 2 ^ 64 = omega arith in
    let r = act_of-act line.who h.1.0 line.act (h.0.0, h.0.1, h.1.1) in
    let start = front (decimal line.who) h.1.0 in
    let whole = IsWhole-join_with_byte 10 32 (decimal line.who) h.1.0 refl (IsClean-decimal line.who wide).1 (AreWhole-clean h.1.0 r.4).1 in (
      subst (IsWhole 10) (sym h.1.2) whole,
      ap is_skipped (h.1.2 ∙ start.1) ∙ not_skipped_digits (decimal line.who) start.0 (decimal_nonempty line.who wide) (first_digit line.who wide),
    )
