-- How the entries of a history stand to the lines of a script with cuts.
use Rattle.std.proofs.Common.{◌≡◌, ℕ, List, [], ◌∷◌, ◌++◌, refl, sym, ◌∙◌, ap, subst}
use Rattle.std.proofs.lemmas.Grind.{flat_map-append}
use Rattle.kv_model.specs.declared.call.Entry.{Entry}
use Rattle.kv_model.specs.Orders as orders
use Rattle.kv_model.proofs.OrderOfLinesLemmas as model
use Rattle.script_core.specs.declared.line.Line.{Line}
use Rattle.script_core.specs.LineOrder.{InOrder, Interleaves, IsCut, call_of, calls_of, line_for}

calls_of_one : (line : Line) → calls_of (line ∷ []) ≡ call_of line.who line.act ++ []
calls_of_one line = refl

calls_of_call : (lines : List Line) (entry : Entry) → calls_of (lines ++ line_for entry ∷ []) ≡ calls_of lines ++ orders.line_of entry ∷ []
calls_of_call lines entry = flat_map-append (λ (line : Line). call_of line.who line.act) lines (line_for entry ∷ [])

append-nil : {X : Type 0} (xs : List X) → xs ++ [] ≡ xs
append-nil [] = refl
append-nil (x ∷ xs) = ap (λ ys. x ∷ ys) (append-nil xs)

calls_of_cut : (lines : List Line) (cut : Line) → IsCut cut → calls_of (lines ++ cut ∷ []) ≡ calls_of lines
calls_of_cut lines cut is =
    flat_map-append (λ (line : Line). call_of line.who line.act) lines (cut ∷ [])
    ∙ ap (λ calls. calls_of lines ++ (calls ++ [])) is
    ∙ append-nil (calls_of lines)

pub InOrder-push : (entries : List Entry) (lines : List Line) (entry : Entry) → InOrder entries lines → InOrder (entries ++ entry ∷ []) (lines ++ line_for entry ∷ [])
InOrder-push entries lines entry is = subst (orders.InOrder (entries ++ entry ∷ [])) (sym (calls_of_call lines entry)) (model.InOrder-push entries (calls_of lines) entry is)

pub Interleaves-push : (entries : List Entry) (lines : List Line) (entry : Entry) → Interleaves entries lines → Interleaves (entries ++ entry ∷ []) (lines ++ line_for entry ∷ [])
Interleaves-push entries lines entry is = subst (orders.Interleaves (entries ++ entry ∷ [])) (sym (calls_of_call lines entry)) (model.Interleaves-push entries (calls_of lines) entry is)

pub InOrder-cut : (entries : List Entry) (lines : List Line) (cut : Line) → IsCut cut → InOrder entries lines → InOrder entries (lines ++ cut ∷ [])
InOrder-cut entries lines cut is held = subst (orders.InOrder entries) (sym (calls_of_cut lines cut is)) held

pub Interleaves-cut : (entries : List Entry) (lines : List Line) (cut : Line) → IsCut cut → Interleaves entries lines → Interleaves entries (lines ++ cut ∷ [])
Interleaves-cut entries lines cut is held = subst (orders.Interleaves entries) (sym (calls_of_cut lines cut is)) held
