-- What contracts see of a store with its journal.
use Rattle.std.specs.Prelude.{◌≡◌, ℕ, ◌<◌, List, [], Option, Some, refl}
use Rattle.std.proofs.Common.{subst, sym, arith}
use Rattle.kv_model.specs.declared.call.Entry.{Entry}
use Rattle.kv_model.specs.Constants.{Constants}
use Rattle.kv_model.specs.Opening.{Opening}
use Rattle.kv_model.specs.Rules.{Rules}
use Rattle.kv_model.specs.Kv.{KvState}
use Rattle.turn_lock.specs.Books.{Book}
use Rattle.turn_lock.specs.Passes.{IsAsNoted}
use Rattle.turn_lock.specs.Steps.{IsProper}
use Rattle.turn_lock.specs.Totals.{times}
use Rattle.turn_lock.specs.declared.view.View.{View}
use Rattle.shared_kv.specs.declared.desk.Desk.{Desk}
use Rattle.shared_kv.specs.Histories.{StandsFor}

abbrev pub book_in : {K : Type 0} → (K → KvState) → Desk K → Book
book_in state desk = record { opening = (state desk.store).known; entries = desk.journal.entries; quitter = desk.quitter }

abbrev pub stands_in : {K : Type 0} → (Constants → Rules) → (K → KvState) → Desk K → Opening → Type 0
stands_in rules_by state desk opening = StandsFor rules_by (state desk.store).known desk.journal.entries opening

-- the store's state, where it tells it, its journal and the first that quit are as before
pub record IsAsBefore {K : Type 0} (state : K → KvState) (old new : Desk K) : Type 0 where
  pub same_state : (state new.store).known.state ≡ (state old.store).known.state
  pub entries : new.journal.entries ≡ old.journal.entries
  pub quitter : new.quitter ≡ old.quitter

same_told : {X : Type 0} (o : Option X) (x y : X) → o ≡ Some x → o ≡ Some y → y ≡ x
same_told o x y one other = cc

-- with no entries a store stands for what it is
pub stands_now : (rules_by : Constants → Rules) (now : Opening) → StandsFor rules_by now [] now
stands_now rules_by now = record {
  constants = refl;
  labels = refl;
  tells = refl;
  numbered = tt;
  runs = λ before told after told_too. ([], tt, same_told now.state before after told told_too);
  led = λ before told after told_too. same_told now.state before after told told_too;
  faults = record { busy = refl; sound = λ sound. (refl, refl); steady = λ steady told. refl };
  counted = record { reads = omega arith; writes = omega arith; stopped = λ some. absurd (omega arith) };
  sound = λ sound. sound;
  steady = λ steady none. steady;
}

pub begins_in : {K : Type 0} (rules_by : Constants → Rules) (state : K → KvState) (desk : Desk K) → (book_in state desk).entries ≡ []
    → stands_in rules_by state desk (book_in state desk).opening
begins_in rules_by state desk empty =
    subst (λ (l : List Entry). StandsFor rules_by (state desk.store).known l (state desk.store).known) (sym empty) (stands_now rules_by (state desk.store).known)

-- what a pass knows of the desk that is lent to it in its turn: it is as last noted, and names the pass's marks
pub record IsLent {K : Type 0} (rules_by : Constants → Rules) (state : K → KvState) (v : View) (desk : Desk K) : Type 0 where
  pub noted : IsAsNoted (stands_in rules_by state) (book_in state) v desk
  pub seen : v.seen ≡ v.noted
  pub marks : (who : ℕ) → 0 < times who v.marks → v.quitter ≡ Some who
  pub proper : IsProper v
