-- What a turn does to the pass that has it.
use Rattle.std.proofs.Common.{◌≡◌, ℕ, ◌+◌, ◌<◌, ◌≤◌, Bool, true, false, List, [], ◌∷◌, ◌++◌, length, Option, Some, None, Ok, Err, refl, sym, ◌∙◌, ap, subst, inl, inr, arith}
use Rattle.std.specs.Prelude.{IfErr, IfOk, OnErr, Result, if◌then◌else◌, ltb}
use Rattle.std.specs.Option.{unwrap_or}
use Rattle.std.proofs.lemmas.Bool.{cases_lt}
use Rattle.std.proofs.lemmas.Bool.Decides.{nat_tests}
use Rattle.std.proofs.lemmas.List.{append-nil, length-append}
use mathlib.Core.Bool.{true≢false}
use mathlib.Core.List.{IsPrefix}
use Rattle.journal_core.specs.JournalState.{next_entry}
use Rattle.kv_model.specs.declared.call.Call.{Call}
use Rattle.kv_model.specs.declared.call.Entry.{Entry}
use Rattle.kv_model.specs.Constants.{Constants}
use Rattle.kv_model.specs.Opening.{Opening}
use Rattle.kv_model.specs.Rules.{Rules}
use Rattle.kv_model.specs.Kv.{KvState}
use Rattle.turn_lock.specs.Books.{Book}
use Rattle.turn_lock.specs.Passes.{HasTurn, MayNote}
use Rattle.turn_lock.specs.Steps.{IsNext}
use Rattle.turn_lock.specs.Totals.{times}
use Rattle.turn_lock.specs.Views.{in_phase, marks_after, noted, own_after, with_found}
use Rattle.turn_lock.specs.declared.view.View.{View}
use Rattle.turn_lock.specs.declared.view.Phase.TheVariants.{Idle}
use Rattle.turn_lock.proofs.Prefixes.{begins_within, whole_begins}
use Rattle.shared_kv.specs.declared.desk.Desk.{Desk}
use Rattle.shared_kv.specs.declared.fault.Answer.{Answer}
use Rattle.shared_kv.specs.declared.fault.Fault.{Fault}
use Rattle.shared_kv.specs.declared.fault.Fault.TheVariants.{Taken, JournalFull, Quit, Busy, Memory}
use Rattle.shared_kv.specs.Attempts.{FaultsInTurn, IsNoted}
use Rattle.shared_kv.specs.Desks.{IsAsBefore, IsLent, book_in, stands_in}
use Rattle.shared_kv.specs.Histories.{IsHistory, StandsFor}
use Rattle.shared_kv.specs.Turns.{Completes, Ends, EndsOne, FaultAfter, GoesOn, HadTurns, IsWaited, QuitsTurn, Waits, is_busy_fault, without_call}
use Rattle.shared_kv.proofs.HistoryLemmas.{BusyAfter, busy_after, history_of}

-- ---- entries and marks

not_longer : (v : View) (entries : List Entry) → entries ≡ v.noted → own_after v entries ≡ v.own
not_longer v entries same =
    let long : length entries ≡ length v.noted = ap length same in
    let test : ltb (length v.noted) (length entries) ≡ false = grind (arith, nat_tests) in
    ap (λ (b : Bool). if b then v.own ++ length entries ∷ [] else v.own) test

one_longer : (v : View) (entries : List Entry) (e : Entry) → entries ≡ v.noted ++ e ∷ [] → own_after v entries ≡ v.own ++ length entries ∷ []
one_longer v entries e next =
    let long : length entries ≡ length v.noted + 1 = ap length next ∙ length-append v.noted (e ∷ []) in
    let test : ltb (length v.noted) (length entries) ≡ true = grind (arith, nat_tests) in
    ap (λ (b : Bool). if b then v.own ++ length entries ∷ [] else v.own) test

marks_stay : (first now : Option ℕ) (marks : List ℕ) → now ≡ first → marks_after first now marks ≡ marks
marks_stay None now marks same = ap (λ (q : Option ℕ). marks_after None q marks) same
marks_stay (Some who) now marks same = refl

none_marked : (marks : List ℕ) (first : Option ℕ) (who : ℕ) → first ≡ None → (0 < times who marks → first ≡ Some who) → times who marks ≡ 0
none_marked marks first who none named = elim (cases_lt 0 (times who marks)) [
  | inl some ↦ (let same : None ≡ Some who = sym none ∙ named some in absurd (cc))
  | inr at_most ↦ omega (arith, at_most)
]

-- ---- the end of a turn

module _ {K : Type 0} (rules_by : Constants → Rules) (state : K → KvState) (v : View) (x x' : Desk K) (lent : IsLent rules_by state v x) where
  history : (opening : Opening) → stands_in rules_by state x' opening → IsHistory rules_by opening x'.journal.entries
  history opening stands = history_of rules_by (state x'.store).known x'.journal.entries opening stands

  lent_entries : x.journal.entries ≡ v.seen
  lent_entries = lent.noted.entries ∙ sym lent.seen

  -- with no call made
  pub full_ends : length v.own ≡ v.parts → EndsOne rules_by v (in_phase Idle v) × (Waits v (in_phase Idle v) × length v.own ≡ v.parts)
  full_ends full = (
    record {
      had = refl;
      found = refl;
      history = subst (IsHistory rules_by v.opening) lent_entries (history_of rules_by (state x.store).known x.journal.entries v.opening lent.noted.stands);
    },
    (record { goes = record { who = refl; opening = refl; parts = refl; seen = whole_begins v.seen }; own = refl; marks = refl }, full),
  )

  next_of : (more : List Entry) → x'.journal.entries ≡ v.noted ++ more → length more ≤ 1 → length v.own < v.parts → x'.quitter ≡ v.quitter → IsNext v (book_in state x')
  next_of more entries short room quitter = record {
    entries = (more, sym entries);
    one = (let long : length x'.journal.entries ≡ length v.noted + length more = ap length entries ∙ length-append v.noted more in omega (arith, long, short));
    room = λ longer. room;
    quitter = inl quitter;
  }

  abbrev after : View
  after = in_phase Idle (noted (book_in state x') v)

  ends_one : stands_in rules_by state x' v.opening → EndsOne rules_by v after
  ends_one stands = record { had = refl; found = refl; history = history v.opening stands }

  module _ (who : ℕ) (who_is : who ≡ v.who) (call : Call) (room : length v.own < v.parts) (stands : (opening : Opening) → stands_in rules_by state x opening → stands_in rules_by state x' opening) (quitter : x'.quitter ≡ x.quitter) where
    quitter_is : x'.quitter ≡ v.quitter
    quitter_is = quitter ∙ lent.noted.first

    next_after : (answer : Answer) → IsNoted (book_in state x) who call answer x'.journal.entries → x'.journal.entries ≡ v.noted ++ next_entry x.journal.entries who call answer.reply ∷ []
    next_after answer is = is.next ∙ ap (λ (l : List Entry). l ++ next_entry x.journal.entries who call answer.reply ∷ []) lent.noted.entries

    same_after : IsAsBefore state x x' → x'.journal.entries ≡ v.noted
    same_after same = same.entries ∙ lent.noted.entries

    pub may_note : (result : Result Answer (Fault × Call)) → IfOk result (λ answer. IsNoted (book_in state x) who call answer x'.journal.entries) → OnErr result (IsAsBefore state x x')
        → MayNote (stands_in rules_by state) (book_in state) v x'
    may_note (Ok answer) is same = record {
      stands = stands v.opening lent.noted.stands;
      next = next_of (next_entry x.journal.entries who call answer.reply ∷ []) (next_after answer is) (omega arith) room quitter_is;
    }
    may_note (Err e) is same = record {
      stands = stands v.opening lent.noted.stands;
      next = next_of [] (same_after same ∙ sym (append-nil v.noted)) (omega arith) room quitter_is;
    }

    completes : (answer : Answer) → IsNoted (book_in state x) who call answer x'.journal.entries → Completes v after call answer
    completes answer is =
        let last : x'.journal.entries ≡ v.seen ++ next_entry v.seen v.who call answer.reply ∷ [] =
        is.next ∙ (λ i. lent_entries i ++ next_entry (lent_entries i) (who_is i) call answer.reply ∷ []) in
        let nobody : v.quitter ≡ None = sym lent.noted.first ∙ is.nobody in
        record {
          goes = record { who = refl; opening = refl; parts = refl; seen = (next_entry v.seen v.who call answer.reply ∷ [], sym last) };
          earlier = v.seen;
          begins = whole_begins v.seen;
          last = last;
          seq = is.seq;
          own = one_longer v x'.journal.entries (next_entry x.journal.entries who call answer.reply) (next_after answer is)
              ∙ ap (λ (n : ℕ). v.own ++ n ∷ []) (sym is.seq);
          room = room;
          nobody = quitter ∙ is.nobody;
          unmarked = λ whose. none_marked v.marks v.quitter whose nobody (lent.marks whose);
          marks = marks_stay v.quitter x'.quitter v.marks quitter_is;
        }

    waits : IsAsBefore state x x' → Waits v after
    waits same =
        let entries : x'.journal.entries ≡ v.seen = same.entries ∙ lent_entries in
        record {
          goes = record { who = refl; opening = refl; parts = refl; seen = subst (IsPrefix v.seen) (sym entries) (whole_begins v.seen) };
          own = not_longer v x'.journal.entries (same_after same);
          marks = marks_stay v.quitter x'.quitter v.marks quitter_is;
        }

    fault_after : IsAsBefore state x x' → (fault : Fault) → FaultsInTurn rules_by (book_in state x) who call fault → FaultAfter rules_by after call fault
    fault_after same (Taken word) is = absurd is
    fault_after same JournalFull is = absurd is
    fault_after same (Quit by) is = (subst (λ (l : List ℕ). length l < v.parts) (sym (waits same).own) room, quitter ∙ is)
    fault_after same (Busy owner position) is = (
      subst (λ (l : List ℕ). length l < v.parts) (sym (waits same).own) room,
      quitter ∙ is.0,
      is.1 ∙ ap length (sym same.entries),
      subst (λ (n : ℕ). BusyAfter rules_by v.opening x'.journal.entries n call owner) who_is
          (subst (λ (l : List Entry). BusyAfter rules_by v.opening l who call owner) (sym same.entries)
          (busy_after rules_by (state x.store).known x.journal.entries v.opening who owner call lent.noted.stands is.2)),
    )
    fault_after same Memory is = (subst (λ (l : List ℕ). length l < v.parts) (sym (waits same).own) room, quitter ∙ is)

    ends_by : (result : Result Answer (Fault × Call)) → IfOk result (λ answer. IsNoted (book_in state x) who call answer x'.journal.entries) → OnErr result (IsAsBefore state x x')
        → IfErr result (λ e. FaultsInTurn rules_by (book_in state x) who call e.0) → Ends rules_by v after call (without_call result)
    ends_by (Ok answer) is same fault = completes answer is
    ends_by (Err e) is same fault = (waits same, fault_after same e.0 fault)

    pub attempt_ends : (result : Result Answer (Fault × Call)) → IfOk result (λ answer. IsNoted (book_in state x) who call answer x'.journal.entries) → OnErr result (IsAsBefore state x x')
        → IfErr result (λ e. FaultsInTurn rules_by (book_in state x) who call e.0) → EndsOne rules_by v after × Ends rules_by v after call (without_call result)
    attempt_ends result is same fault = (ends_one (stands v.opening lent.noted.stands), ends_by result is same fault)

  pub quit_ends : (who by : ℕ) → who ≡ v.who → by ≡ unwrap_or x.quitter who → x'.quitter ≡ Some by → x'.store ≡ x.store → x'.journal.entries ≡ x.journal.entries
      → QuitsTurn rules_by v after by
  quit_ends who by who_is answer first store entries =
      let stands : StandsFor rules_by (state x'.store).known x'.journal.entries v.opening =
      subst (λ (l : List Entry). StandsFor rules_by (state x'.store).known l v.opening) (sym entries)
      (subst (λ (s : K). StandsFor rules_by (state s).known x.journal.entries v.opening) (sym store) lent.noted.stands) in
      record {
        goes = record { who = refl; opening = refl; parts = refl; seen = subst (IsPrefix v.seen) (sym (entries ∙ lent_entries)) (whole_begins v.seen) };
        one = ends_one stands;
        own = not_longer v x'.journal.entries (entries ∙ lent.noted.entries);
        first = first;
        answer = answer ∙ (λ i. unwrap_or (lent.noted.first i) (who_is i));
        marks = ap (λ (q : Option ℕ). marks_after v.quitter q v.marks) first;
      }

-- ---- a turn from its beginning

module _ {S : Type 0} (stands_for : S → Opening → Type 0) (book : S → Book) (old : View) (x : S) (mid : View) (turn : HasTurn stands_for book old x mid) where
  pub turn_waits : Waits old mid
  turn_waits =
      let is = turn.view in
      record {
        goes = record {
          who = ap (λ (w : View). w.who) is;
          opening = ap (λ (w : View). w.opening) is;
          parts = ap (λ (w : View). w.parts) is;
          seen = subst (IsPrefix old.seen) (sym (ap (λ (w : View). w.seen) is)) turn.seen;
        };
        own = ap (λ (w : View). w.own) is;
        marks = ap (λ (w : View). w.marks) is;
      }

  pub turn_had : mid.had ≡ old.had + 1
  turn_had = ap (λ (w : View). w.had) turn.view

  pub turn_found : mid.found ≡ old.found
  turn_found = ap (λ (w : View). w.found) turn.view

-- exchanges that missed change nothing here
pub waits_later : (old : View) (found : List ℕ) {mid : View} → Waits (with_found found old) mid → Waits old mid
waits_later old found waits = record {
  goes = record { who = waits.goes.who; opening = waits.goes.opening; parts = waits.goes.parts; seen = waits.goes.seen };
  own = waits.own;
  marks = waits.marks;
}

goes_since : {old mid new : View} → GoesOn old mid → GoesOn mid new → GoesOn old new
goes_since {old} {mid} {new} first second = record {
  who = second.who ∙ first.who;
  opening = second.opening ∙ first.opening;
  parts = second.parts ∙ first.parts;
  seen = begins_within old.seen mid.seen new.seen first.seen second.seen;
}

pub waits_since : {old mid new : View} → Waits old mid → Waits mid new → Waits old new
waits_since first second = record {
  goes = goes_since first.goes second.goes;
  own = second.own ∙ first.own;
  marks = second.marks ∙ first.marks;
}

room_since : {old mid : View} → Waits old mid → length mid.own < mid.parts → length old.own < old.parts
room_since {old} {mid} first room =
    let own : length mid.own ≡ length old.own = ap length first.own in
    let parts : mid.parts ≡ old.parts = first.goes.parts in
    omega (arith, own, parts, room)

pub completes_since : {old mid new : View} (call : Call) → Waits old mid → (answer : Answer) → Completes mid new call answer → Completes old new call answer
completes_since {old} {mid} {new} call first answer second = record {
  goes = goes_since first.goes second.goes;
  earlier = second.earlier;
  begins = begins_within old.seen mid.seen second.earlier first.goes.seen second.begins;
  last = second.last ∙ ap (λ (n : ℕ). second.earlier ++ next_entry second.earlier n call answer.reply ∷ []) first.goes.who;
  seq = second.seq;
  own = second.own ∙ ap (λ (l : List ℕ). l ++ answer.seq ∷ []) first.own;
  room = room_since first second.room;
  nobody = second.nobody;
  unmarked = λ who. ap (times who) (sym first.marks) ∙ second.unmarked who;
  marks = second.marks ∙ first.marks;
}

pub ends_since : (rules_by : Constants → Rules) (old mid new : View) (call : Call) → Waits old mid → (result : Result Answer Fault) → Ends rules_by mid new call result → Ends rules_by old new call result
ends_since rules_by old mid new call first (Ok answer) second = completes_since call first answer second
ends_since rules_by old mid new call first (Err fault) second = (waits_since first second.0, second.1)

-- ---- the turns that were had

pub had_one : {rules_by : Constants → Rules} {old mid new : View} → EndsOne rules_by mid new → mid.had ≡ old.had + 1 → HadTurns rules_by old new
had_one one had = record { had = (let same = one.had in omega (arith, same, had)); history = one.history }

pub had_later : {rules_by : Constants → Rules} {old mid new : View} → old.had ≤ mid.had → HadTurns rules_by mid new → HadTurns rules_by old new
had_later le turns = record { had = omega (arith, le, turns.had); history = turns.history }

-- a fault that is not that another's set stands in the way, of a call that waits
pub waited : (rules_by : Constants → Rules) (v : View) (call : Call) (fault : Fault) → is_busy_fault fault ≡ false → FaultAfter rules_by v call fault → IsWaited {T = Answer} (Err fault)
waited rules_by v call (Taken word) other is = is
waited rules_by v call JournalFull other is = tt
waited rules_by v call (Quit by) other is = tt
waited rules_by v call (Busy owner position) other is = absurd (true≢false other)
waited rules_by v call Memory other is = tt
