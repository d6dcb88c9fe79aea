-- What is read of the words of a call is the call that they spell.
use Rattle.std.proofs.Common.{◌≡◌, ℕ, ◌≤◌, List, [], ◌∷◌, Some, refl, sym, ap, subst, ◌∙◌}
use Rattle.std.specs.Prelude.{codes, IsTrue}
use Rattle.std.specs.Fmt.{decimal}
use Rattle.kv_model.specs.declared.call.Call.{Call}
use Rattle.kv_model.specs.declared.call.Call.TheVariants as call
use Rattle.script_core.specs.declared.line.Act.TheVariants.{Do}
use Rattle.script_core.specs.Grammar.{is_key_word, IsAct, IsCaller, AreWords}
use Rattle.script_core.specs.Reading.{◌>>=◌, word_at, end_at, number_of, number_up_to, key_of, prefix_of, bytes_of, flags_of, lone_key_of, lone_number_of, part_of, set_of, start_of, add_of, open_of, bare, keyed, numbered, value_call_of, call_of}
use Rattle.script_core.proofs.Options.{some_is, bind_some}
use Rattle.script_core.proofs.Rows.{field_some, end_some, named}
use Rattle.script_core.proofs.Words.{number_of-is_some, number_up_to-is_some, key_of-is_some, prefix_of-is_some, bytes_of-is_some, flags_of-is_some}

-- a call of a client, and the words for it
abbrev pub IsCall : List (List ℕ) → Call → Type 0
IsCall words asked = IsAct (Do asked) × AreWords words (Do asked) × ((who : ℕ) → 1 ≤ who → who ≤ 16 → IsCaller who (Do asked))

-- the same behind a verb
abbrev IsCallOf : List (List ℕ) → List ℕ → Call → Type 0
IsCallOf words verb asked = IsCall (verb ∷ words) asked

bare_is : (name : List ℕ) (this : Call) (words : List (List ℕ)) (asked : Call) → IsCall (name ∷ []) this → bare this words ≡ Some asked → IsCallOf words name asked
bare_is name this words asked valid h =
    let end = end_some words this asked h in
    subst (IsCallOf words name) end.1 (subst (λ (ws : List (List ℕ)). IsCall (name ∷ ws) this) (sym end.0) valid)

keyed_is : (name : List ℕ) (make : List ℕ → Call) (words : List (List ℕ)) (asked : Call) → ((key : List ℕ) → IsTrue (is_key_word key) → IsCall (name ∷ key ∷ []) (make key))
    → keyed make words ≡ Some asked → IsCallOf words name asked
unfolding lone_key_of
keyed_is name make words asked valid h =
    let lone = bind_some (lone_key_of words) (λ key. Some (make key)) asked h in
    let key = field_some key_of (λ key rest. end_at rest >>= λ _. Some key) words lone.0 lone.1 in
    let end = end_some key.1 key.2 lone.0 key.5 in
    let read = key_of-is_some key.0 key.2 key.4 in
    let words-are : words ≡ key.2 ∷ [] = cc (key.3, end.0, read.0) in
    let asked-is : make key.2 ≡ asked = ap make end.1 ∙ some_is (make lone.0) asked lone.2 in
    subst (IsCallOf words name) asked-is (subst (λ (ws : List (List ℕ)). IsCall (name ∷ ws) (make key.2)) (sym words-are) (valid key.2 read.1))

numbered_is : (name : List ℕ) (make : ℕ → Call) (words : List (List ℕ)) (asked : Call) → ((n : ℕ) → n ≤ 255 → IsCall (name ∷ decimal n ∷ []) (make n))
    → numbered make words ≡ Some asked → IsCallOf words name asked
unfolding lone_number_of
numbered_is name make words asked valid h =
    let lone = bind_some (lone_number_of words) (λ n. Some (make n)) asked h in
    let n = field_some (number_up_to 255) (λ n rest. end_at rest >>= λ _. Some n) words lone.0 lone.1 in
    let end = end_some n.1 n.2 lone.0 n.5 in
    let read = number_up_to-is_some 255 n.0 n.2 n.4 in
    let words-are : words ≡ decimal n.2 ∷ [] = cc (n.3, end.0, read.0) in
    let asked-is : make n.2 ≡ asked = ap make end.1 ∙ some_is (make lone.0) asked lone.2 in
    subst (IsCallOf words name) asked-is (subst (λ (ws : List (List ℕ)). IsCall (name ∷ ws) (make n.2)) (sym words-are) (valid n.2 read.1))

part_is : (words : List (List ℕ)) (asked : Call) → part_of words ≡ Some asked → IsCallOf words (codes "part") asked
unfolding part_of
part_is words asked h =
    let key = field_some key_of (λ key rest. word_at rest >>= λ w. number_of w.0 >>= λ offset. word_at w.1 >>= λ w. number_of w.0 >>= λ count. end_at w.1 >>= λ _. Some (call.Part key offset count)) words asked h in
    let offset = field_some number_of (λ offset rest. word_at rest >>= λ w. number_of w.0 >>= λ count. end_at w.1 >>= λ _. Some (call.Part key.2 offset count)) key.1 asked key.5 in
    let count = field_some number_of (λ count rest. end_at rest >>= λ _. Some (call.Part key.2 offset.2 count)) offset.1 asked offset.5 in
    let end = end_some count.1 (call.Part key.2 offset.2 count.2) asked count.5 in
    let read = key_of-is_some key.0 key.2 key.4 in
    let from = number_of-is_some offset.0 offset.2 offset.4 in
    let most = number_of-is_some count.0 count.2 count.4 in
    subst (IsCallOf words (codes "part")) {x = call.Part key.2 offset.2 count.2} end.1
    ((read.1, from.1, most.1), cc (key.3, offset.3, count.3, end.0, read.0, from.0, most.0), λ who low high. (low, high))

set_is : (words : List (List ℕ)) (asked : Call) → set_of words ≡ Some asked → IsCallOf words (codes "set") asked
unfolding set_of
set_is words asked h =
    let key = field_some key_of (λ key rest. word_at rest >>= λ w. bytes_of w.0 >>= λ value. word_at w.1 >>= λ w. flags_of w.0 >>= λ flags. end_at w.1 >>= λ _. Some (call.Set key value flags)) words asked h in
    let value = field_some bytes_of (λ value rest. word_at rest >>= λ w. flags_of w.0 >>= λ flags. end_at w.1 >>= λ _. Some (call.Set key.2 value flags)) key.1 asked key.5 in
    let flags = field_some flags_of (λ flags rest. end_at rest >>= λ _. Some (call.Set key.2 value.2 flags)) value.1 asked value.5 in
    let end = end_some flags.1 (call.Set key.2 value.2 flags.2) asked flags.5 in
    let read = key_of-is_some key.0 key.2 key.4 in
    let letters = flags_of-is_some flags.0 flags.2 flags.4 in
    subst (IsCallOf words (codes "set")) {x = call.Set key.2 value.2 flags.2} end.1
    ((read.1, letters.0), (value.0, bytes_of-is_some value.0 value.2 value.4, cc (key.3, value.3, flags.3, end.0, read.0, letters.1)), λ who low high. (low, high))

start_is : (words : List (List ℕ)) (asked : Call) → start_of words ≡ Some asked → IsCallOf words (codes "start") asked
unfolding start_of
start_is words asked h =
    let key = field_some key_of (λ key rest. word_at rest >>= λ w. number_of w.0 >>= λ size. word_at w.1 >>= λ w. flags_of w.0 >>= λ flags. end_at w.1 >>= λ _. Some (call.Start key size flags)) words asked h in
    let size = field_some number_of (λ size rest. word_at rest >>= λ w. flags_of w.0 >>= λ flags. end_at w.1 >>= λ _. Some (call.Start key.2 size flags)) key.1 asked key.5 in
    let flags = field_some flags_of (λ flags rest. end_at rest >>= λ _. Some (call.Start key.2 size.2 flags)) size.1 asked size.5 in
    let end = end_some flags.1 (call.Start key.2 size.2 flags.2) asked flags.5 in
    let read = key_of-is_some key.0 key.2 key.4 in
    let bytes = number_of-is_some size.0 size.2 size.4 in
    let letters = flags_of-is_some flags.0 flags.2 flags.4 in
    subst (IsCallOf words (codes "start")) {x = call.Start key.2 size.2 flags.2} end.1
    ((read.1, bytes.1, letters.0), cc (key.3, size.3, flags.3, end.0, read.0, bytes.0, letters.1), λ who low high. (low, high))

add_is : (words : List (List ℕ)) (asked : Call) → add_of words ≡ Some asked → IsCallOf words (codes "add") asked
unfolding add_of
add_is words asked h =
    let value = field_some bytes_of (λ value rest. end_at rest >>= λ _. Some (call.Add value)) words asked h in
    let end = end_some value.1 (call.Add value.2) asked value.5 in
    subst (IsCallOf words (codes "add")) {x = call.Add value.2} end.1
    (tt, (value.0, bytes_of-is_some value.0 value.2 value.4, cc (value.3, end.0)), λ who low high. (low, high))

open_is : (words : List (List ℕ)) (asked : Call) → open_of words ≡ Some asked → IsCallOf words (codes "open") asked
unfolding open_of
open_is words asked h =
    let n = field_some (number_up_to 255) (λ n rest. word_at rest >>= λ w. prefix_of w.0 >>= λ prefix. end_at w.1 >>= λ _. Some (call.IterOpen n prefix)) words asked h in
    let prefix = field_some prefix_of (λ prefix rest. end_at rest >>= λ _. Some (call.IterOpen n.2 prefix)) n.1 asked n.5 in
    let end = end_some prefix.1 (call.IterOpen n.2 prefix.2) asked prefix.5 in
    let number = number_up_to-is_some 255 n.0 n.2 n.4 in
    let starred = prefix_of-is_some prefix.0 prefix.2 prefix.4 in
    subst (IsCallOf words (codes "open")) {x = call.IterOpen n.2 prefix.2} end.1
    ((number.1, starred.1), cc (n.3, prefix.3, end.0, number.0, starred.0), λ who low high. (low, high))

value_call_is : (verb : List ℕ) (words : List (List ℕ)) (asked : Call) → value_call_of verb words ≡ Some asked → IsCallOf words verb asked
unfolding value_call_of
value_call_is verb words asked =
    let P : List ℕ → Call → Type 0 = IsCallOf words in
    named P _ verb (codes "get") asked _ _ (keyed_is (codes "get") (λ key. call.Get key) words asked (λ key valid. (valid, refl, λ who low high. (low, high))))
    (named P _ verb (codes "part") asked _ _ (part_is words asked)
    (named P _ verb (codes "info") asked _ _ (keyed_is (codes "info") (λ key. call.Info key) words asked (λ key valid. (valid, refl, λ who low high. (low, high))))
    (named P _ verb (codes "set") asked _ _ (set_is words asked)
    (named P _ verb (codes "remove") asked _ _ (keyed_is (codes "remove") (λ key. call.Remove key) words asked (λ key valid. (valid, refl, λ who low high. (low, high))))
    (named P _ verb (codes "start") asked _ _ (start_is words asked)
    (named P _ verb (codes "add") asked _ _ (add_is words asked) (λ e. absurd cc) refl) refl) refl) refl) refl) refl) refl

pub call_of-is_some : (verb : List ℕ) (words : List (List ℕ)) (asked : Call) → call_of verb words ≡ Some asked → IsCall (verb ∷ words) asked
unfolding call_of
call_of-is_some verb words asked =
    let P : List ℕ → Call → Type 0 = IsCallOf words in
    named P _ verb (codes "finish") asked _ _ (bare_is (codes "finish") call.Finish words asked (tt, refl, λ who low high. (low, high)))
    (named P _ verb (codes "abort") asked _ _ (bare_is (codes "abort") call.Abort words asked (tt, refl, λ who low high. (low, high)))
    (named P _ verb (codes "open") asked _ _ (open_is words asked)
    (named P _ verb (codes "next") asked _ _ (numbered_is (codes "next") (λ n. call.Next n) words asked (λ n valid. (valid, refl, λ who low high. (low, high))))
    (named P _ verb (codes "close") asked _ _ (numbered_is (codes "close") (λ n. call.IterClose n) words asked (λ n valid. (valid, refl, λ who low high. (low, high))))
    (named P _ verb (codes "reset") asked _ _ (bare_is (codes "reset") call.Reset words asked (tt, refl, λ who low high. (low, high)))
    (value_call_is verb words asked) refl) refl) refl) refl) refl) refl
