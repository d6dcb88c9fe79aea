-- What each step on the table tells the seat that makes it. A step tells of the seat before, what it found, and the seat after.
use Rattle.std.specs.Prelude.{◌≡◌, ◌≢◌, ◌⊎◌, ℕ, ◌+◌, ◌<◌, ◌≤◌, [], ◌∷◌, length, Option, Some, None}
use mathlib.Core.List.{IsPrefix}
use Rattle.atomic_table.specs.Table.{Me}
use Rattle.kv_model.specs.Opening.{Opening}
use Rattle.turn_lock.specs.Books.{Book}
use Rattle.turn_lock.specs.Totals.{times, once}
use Rattle.turn_lock.specs.Views.{ALL, missed, taken, loaded, noted, settled, in_phase}
use Rattle.turn_lock.specs.declared.view.View.{View}
use Rattle.turn_lock.specs.declared.view.Phase.{Phase}

-- a pass has at most all parts, and owns at most as many positions; each is its own once, and stands in what it has
-- seen
pub record IsProper (v : View) : Type 0 where
  pub parts : v.parts ≤ ALL
  pub room : length v.own ≤ v.parts
  pub seen : length v.seen ≤ ALL
  pub own : (p : ℕ) → times p v.own ≤ once p (length v.seen)

-- what a view may note: its own history as last noted, or one entry more where it has a part left; the first that
-- quit as last noted, or, where there was none, itself
pub record IsNext (v : View) (book : Book) : Type 0 where
  pub entries : IsPrefix v.noted book.entries
  pub one : length book.entries ≤ length v.noted + 1
  pub room : length v.noted < length book.entries → length v.own < v.parts
  pub quitter : (book.quitter ≡ v.quitter) ⊎ ((v.quitter ≡ None) × (book.quitter ≡ Some v.who))

-- a view, and the slots that its seat holds
abbrev pub Seated : Type 0 → Type 0
Seated S = Me (Option S) View

module _ {S : Type 0} where
  -- with the turn, the lists of a join begin one list
  abbrev pub Loads : Seated S → ℕ → Seated S → Type 0
  Loads me n me' = (me' ≡ (loaded me.0, me.1)) × (n ≡ length me.0.noted) × IsProper (loaded me.0)

  -- without the turn, of the two lists of a join the shorter begins the longer
  abbrev pub Looks : Seated S → ℕ → Seated S → Type 0
  Looks me n me' = (me' ≡ (settled me.0, me.1)) × IsProper me.0
      × (length me.0.shorter ≤ length me.0.seen → IsPrefix me.0.shorter me.0.seen)

  abbrev pub Notes : Book → Seated S → ℕ → Seated S → Type 0
  Notes book me n me' = (me' ≡ (noted book me.0, me.1)) × IsProper (noted book me.0)

  -- the value is in its slot again
  abbrev pub Ends : Phase → Seated S → ℕ → Seated S → Type 0
  Ends phase me n me' = me' ≡ (in_phase phase me.0, [])

module _ {S : Type 0} (stands_for : S → Opening → Type 0) (book : S → Book) where
  -- the turn with the value: it has the pass's opening, its history begins with what the pass has seen, and it names
  -- the pass's marks
  pub record Gets (v : View) (x : S) (w : View) : Type 0 where
    pub view : w ≡ taken (book x) v
    pub stands : stands_for x v.opening
    pub seen : IsPrefix v.seen (book x).entries
    pub marks : (who : ℕ) → 0 < times who v.marks → (book x).quitter ≡ Some who

  -- the exchange found 0, and has the turn; or it found 1, and changed nothing
  abbrev pub Takes : Seated S → ℕ → Seated S → Type 0
  Takes me n me' =
      (n ≡ 0 → (x : S) × (me'.1 ≡ (0, Some x) ∷ []) × Gets me.0 x me'.0)
      × (n ≢ 0 → (n ≡ 1) × (me' ≡ (missed n me.0, me.1)))
