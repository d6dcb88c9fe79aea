-- A pass that waits for its turn.
use Rattle.std.proofs.Common.{◌≡◌, ℕ, List, [], ◌∷◌, ◌++◌, sym, ap, ◌∙◌, subst, append-nil, append_assoc}
use Rattle.atomic_table.specs.Seated.{TableId}
use Rattle.kv_model.specs.Opening.{Opening}
use Rattle.turn_lock.specs.Books.{Book}
use Rattle.turn_lock.specs.Views.{missed, with_found}
use Rattle.turn_lock.specs.Passes.{view_of, IsIdle, HasTurn, HasTurnLater}
use Rattle.turn_lock.specs.declared.view.View.{View}
use Rattle.turn_lock.specs.declared.pass.Pass.{Pass}

-- each exchange so far found the turn taken
pub record Waits {S : Type 0} (table : TableId) (old new : Pass S) : Type 0 where
  pub idle : IsIdle table new
  pub found : (more : List ℕ) × (view_of new ≡ with_found more (view_of old))

abbrev finding : View → List ℕ → View
finding v found = record v { found = found }

pub waits_first : {S : Type 0} (table : TableId) (pass : Pass S) → IsIdle table pass → Waits table pass pass
waits_first table pass idle = record { idle = idle; found = ([], sym (ap (finding (view_of pass)) (append-nil (view_of pass).found))) }

pub waits_more : {S : Type 0} (table : TableId) (old pass next : Pass S) (n : ℕ) → Waits table old pass → IsIdle table next → view_of next ≡ missed n (view_of pass) → Waits table old next
waits_more table old pass next n waits idle view =
    let v : View = view_of old in
    let more : List ℕ = waits.found.0 in record {
      idle = idle;
      found = (more ++ n ∷ [], view ∙ (ap (missed n) waits.found.1 ∙ ap (finding v) (append_assoc v.found more (n ∷ []))));
    }

module _ {S : Type 0} (stands_for : S → Opening → Type 0) (book : S → Book) where
  pub has_turn : (table : TableId) (old pass : Pass S) (x : S) (new : Pass S) → Waits table old pass → HasTurn stands_for book (view_of pass) x (view_of new) → HasTurnLater stands_for book old x new
  has_turn table old pass x new waits has = (waits.found.0, subst (λ v. HasTurn stands_for book v x (view_of new)) waits.found.1 has)
