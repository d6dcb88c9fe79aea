-- What the replies of a run say of power cuts, from the power at its beginning.
use Rattle.std.proofs.Common.{◌≡◌, ◌≢◌, ℕ, ◌+◌, ◌≤◌, Bool, true, false, IsTrue, All, List, [], ◌∷◌, ◌++◌, refl, sym, ◌∙◌, ap, subst, arith}
use Rattle.std.specs.Prelude.{Option, Some, None, if◌then◌else◌}
use Rattle.std.specs.Option.{option_map_or}
use Rattle.std.proofs.lemmas.List.Elements.{All-cons, All-nil}
use Rattle.std.proofs.lemmas.List.{map-append}
use mathlib.Core.Bool.{false≢true}
use Rattle.kv_model.specs.declared.call.Entry.{Entry}
use Rattle.kv_model.specs.declared.call.Reply.{Reply}
use Rattle.kv_model.specs.declared.call.Reply.TheVariants.{Refused}
use Rattle.kv_model.specs.declared.error.KvError.TheVariants.{Corrupt, Memory, ReadFault, Stopped, WriteFault}
use Rattle.kv_model.specs.Operations.{Operation, operation_of}
use Rattle.script_core.specs.declared.line.Act.{Act}
use Rattle.script_core.specs.declared.line.Act.TheVariants.{Do, Cut}
use Rattle.script_core.specs.declared.line.Line.{Line}
use Rattle.session_core.specs.Power.{AreBehindCuts, IsOrdinary, Power, Steady, Armed, Lost, Shows, ShowsCuts, TellsNoCut, acts_of, after_call, after_cut, after_reply, armed_cuts, cuts_in, is_armed, is_lost, is_write_fault, may_reply, stays_behind, write_faults_in}

-- ---- one reply

not_so : (power : Power) (reply other : Reply) → IsTrue (may_reply power reply) → may_reply power other ≡ false → reply ≢ other
not_so power reply other may never is = false≢true (sym never ∙ ap (may_reply power) (sym is) ∙ may)

ordinary_reply : (power : Power) (reply : Reply) → IsTrue (may_reply power reply) → IsOrdinary reply
ordinary_reply power reply may = record {
  no_read_fault = not_so power reply (Refused ReadFault) may refl;
  no_mismatch = λ stored computed. not_so power reply (Refused (Corrupt stored computed)) may refl;
  no_want = not_so power reply (Refused Memory) may refl;
}

uncut_reply : (reply : Reply) → IsTrue (may_reply Steady reply) → TellsNoCut reply
uncut_reply reply may = record {
  no_write_fault = not_so Steady reply (Refused WriteFault) may refl;
  not_stopped = not_so Steady reply (Refused Stopped) may refl;
}

-- a write fails where a cut was armed
fault_may : (power : Power) (reply : Reply) → is_write_fault reply ≡ true → may_reply power reply ≡ is_armed power
fault_may power (Refused WriteFault) is = refl
fault_may power reply is = absurd (false≢true is)

armed_is : (power : Power) → is_armed power ≡ true → armed_cuts power ≡ 1
armed_is Steady is = absurd (false≢true is)
armed_is Armed is = refl
armed_is Lost is = absurd (false≢true is)

one_taken : (n : ℕ) → n ≡ 1 → 1 + 0 ≤ n
one_taken n is = omega (arith, is)

none_taken : (n : ℕ) → 0 + n ≤ n
none_taken n = omega arith

fewer : (a b n : ℕ) → a + b ≤ n → a + 0 ≤ n
fewer a b n most = omega (arith, most)

one_armed : (faults cuts after before : ℕ) → faults ≤ cuts + after → after ≤ before + 1 → faults ≤ (1 + cuts) + before
one_armed faults cuts after before most armed = omega (arith, most, armed)

one_called : (fault faults cuts after before : ℕ) → faults ≤ cuts + after → fault + after ≤ before → fault + faults ≤ cuts + before
one_called fault faults cuts after before most takes = omega (arith, most, takes)

one_more : (a b : ℕ) → a ≤ b → 1 + a ≤ 1 + b
one_more a b most = omega (arith, most)

none_of : (a b : ℕ) → a ≤ b → b ≡ 0 → a ≡ 0
none_of a b most none = omega (arith, most, none)

at_most : (n a b c : ℕ) → n ≤ a + c → a ≤ b → n ≤ b + c
at_most n a b c most least = omega (arith, most, least)

none_cut : {P : Type 0} (n : ℕ) → 1 + n ≡ 0 → P
none_cut n is = absurd (omega (arith, is))

abbrev one_if : Bool → ℕ
one_if b = if b then 1 else 0

-- what a reply takes of the cuts that are armed
reply_takes : (power : Power) (reply : Reply) (fault : Bool) → is_write_fault reply ≡ fault → IsTrue (may_reply power reply)
    → one_if fault + armed_cuts (if fault then Lost else power) ≤ armed_cuts power
reply_takes power reply true is may = one_taken (armed_cuts power) (armed_is power (sym (fault_may power reply is) ∙ may))
reply_takes power reply false is may = none_taken (armed_cuts power)

call_takes : (power : Power) (found : Option Operation) (reply : Reply) → IsTrue (may_reply power reply)
    → one_if (is_write_fault reply) + armed_cuts (option_map_or (λ operation. after_reply power reply) found Steady) ≤ armed_cuts power
call_takes power None reply may =
    fewer (one_if (is_write_fault reply)) (armed_cuts (after_reply power reply)) (armed_cuts power) (reply_takes power reply (is_write_fault reply) refl may)
call_takes power (Some operation) reply may = reply_takes power reply (is_write_fault reply) refl may

-- where none was armed none is
unfaulted : (reply : Reply) (fault : Bool) → is_write_fault reply ≡ fault → IsTrue (may_reply Steady reply) → (if fault then Lost else Steady) ≡ Steady
unfaulted reply true is may = absurd (false≢true (sym (fault_may Steady reply is) ∙ may))
unfaulted reply false is may = refl

still_unarmed : (found : Option Operation) (reply : Reply) → IsTrue (may_reply Steady reply) → option_map_or (λ operation. after_reply Steady reply) found Steady ≡ Steady
still_unarmed None reply may = refl
still_unarmed (Some operation) reply may = unfaulted reply (is_write_fault reply) refl may

-- where one is armed behind a call it was before it, and nothing was mounted
stays_armed : (power : Power) (reply : Reply) (fault : Bool) → is_armed (if fault then Lost else power) ≡ true → is_armed power ≡ true
stays_armed power reply true is = absurd (false≢true is)
stays_armed power reply false is = is

still_behind : (power : Power) (behind : Bool) (found : Option Operation) (reply : Reply) → (is_armed power ≡ true → behind ≡ true)
    → is_armed (option_map_or (λ operation. after_reply power reply) found Steady) ≡ true → option_map_or (λ operation. behind) found false ≡ true
still_behind power behind None reply so is = absurd (false≢true is)
still_behind power behind (Some operation) reply so is = so (stays_armed power reply (is_write_fault reply) is)

-- ---- a run

cut_armed : (power : Power) → armed_cuts (after_cut power) ≤ armed_cuts power + 1
cut_armed Steady = omega arith
cut_armed Armed = omega arith
cut_armed Lost = omega arith

pub all_ordinary : (power final : Power) (acts : List Act) (entries : List Entry) → Shows power acts entries final → All (λ (e : Entry). IsOrdinary e.reply) entries
all_ordinary power final [] [] shows = All-nil (λ (e : Entry). IsOrdinary e.reply)
all_ordinary power final [] (e ∷ entries) shows = absurd shows
all_ordinary power final (Cut side n pattern ∷ acts) entries shows = all_ordinary (after_cut power) final acts entries shows
all_ordinary power final (Do asked ∷ acts) [] shows = absurd shows
all_ordinary power final (Do asked ∷ acts) (e ∷ entries) shows = All-cons (λ (e : Entry). IsOrdinary e.reply) e entries (ordinary_reply power e.reply shows.0)
    (all_ordinary (after_call power asked e.reply) final acts entries shows.1)

pub all_uncut : (power final : Power) (acts : List Act) (entries : List Entry) → power ≡ Steady → cuts_in acts ≡ 0 → Shows power acts entries final
    → All (λ (e : Entry). TellsNoCut e.reply) entries
all_uncut power final [] [] steady none shows = All-nil (λ (e : Entry). TellsNoCut e.reply)
all_uncut power final [] (e ∷ entries) steady none shows = absurd shows
all_uncut power final (Cut side n pattern ∷ acts) entries steady none shows = none_cut (cuts_in acts) none
all_uncut power final (Do asked ∷ acts) [] steady none shows = absurd shows
all_uncut power final (Do asked ∷ acts) (e ∷ entries) steady none shows =
    let may : IsTrue (may_reply Steady e.reply) = subst (λ (p : Power). IsTrue (may_reply p e.reply)) steady shows.0 in
    let after : after_call power asked e.reply ≡ Steady =
    ap (λ (p : Power). after_call p asked e.reply) steady ∙ still_unarmed (operation_of asked) e.reply may in
    All-cons (λ (e : Entry). TellsNoCut e.reply) e entries (uncut_reply e.reply may) (all_uncut (after_call power asked e.reply) final acts entries after none shows.1)

pub few_faults : (power final : Power) (acts : List Act) (entries : List Entry) → Shows power acts entries final → write_faults_in entries ≤ cuts_in acts + armed_cuts power
few_faults power final [] [] shows = omega arith
few_faults power final [] (e ∷ entries) shows = absurd shows
few_faults power final (Cut side n pattern ∷ acts) entries shows =
    one_armed (write_faults_in entries) (cuts_in acts) (armed_cuts (after_cut power)) (armed_cuts power) (few_faults (after_cut power) final acts entries shows) (cut_armed power)
few_faults power final (Do asked ∷ acts) [] shows = absurd shows
few_faults power final (Do asked ∷ acts) (e ∷ entries) shows =
    one_called (one_if (is_write_fault e.reply)) (write_faults_in entries) (cuts_in acts) (armed_cuts (after_call power asked e.reply)) (armed_cuts power)
    (few_faults (after_call power asked e.reply) final acts entries shows.1) (call_takes power (operation_of asked) e.reply shows.0)

-- power that is lost was lost in a write that failed
cut_stays : (power : Power) → is_lost (after_cut power) ≡ is_lost power
cut_stays Steady = refl
cut_stays Armed = refl
cut_stays Lost = refl

unfailed_stays : (power : Power) (found : Option Operation) (reply : Reply) → is_write_fault reply ≡ false → is_lost power ≡ false
    → is_lost (option_map_or (λ operation. after_reply power reply) found Steady) ≡ false
unfailed_stays power None reply none runs = refl
unfailed_stays power (Some operation) reply none runs = subst (λ (b : Bool). is_lost (if b then Lost else power) ≡ false) (sym none) runs

counted : (fault : Bool) (faults : ℕ) → (fault ≡ false → 1 ≤ faults) → 1 ≤ one_if fault + faults
counted true faults more = omega arith
counted false faults more = omega (arith, more refl)

pub lost_by_fault : (power final : Power) (acts : List Act) (entries : List Entry) → Shows power acts entries final → is_lost power ≡ false → is_lost final ≡ true
    → 1 ≤ write_faults_in entries
lost_by_fault power final [] [] shows runs lost = absurd (false≢true (sym runs ∙ sym (ap is_lost shows) ∙ lost))
lost_by_fault power final [] (e ∷ entries) shows runs lost = absurd shows
lost_by_fault power final (Cut side n pattern ∷ acts) entries shows runs lost = lost_by_fault (after_cut power) final acts entries shows (cut_stays power ∙ runs) lost
lost_by_fault power final (Do asked ∷ acts) [] shows runs lost = absurd shows
lost_by_fault power final (Do asked ∷ acts) (e ∷ entries) shows runs lost = counted (is_write_fault e.reply) (write_faults_in entries)
    (λ none. lost_by_fault (after_call power asked e.reply) final acts entries shows.1 (unfailed_stays power (operation_of asked) e.reply none runs) lost)

nothing_behind : (behind : Bool) (acts : List Act) → AreBehindCuts behind acts []
nothing_behind behind [] = tt
nothing_behind behind (Cut side n pattern ∷ acts) = nothing_behind true acts
nothing_behind behind (Do asked ∷ acts) = tt

-- the entries may be those of the first acts alone
pub all_behind : (power final : Power) (behind : Bool) (acts more : List Act) (entries : List Entry) → (is_armed power ≡ true → behind ≡ true) → Shows power acts entries final
    → AreBehindCuts behind (acts ++ more) entries
all_behind power final behind [] more [] so shows = nothing_behind behind more
all_behind power final behind [] more (e ∷ entries) so shows = absurd shows
all_behind power final behind (Cut side n pattern ∷ acts) more entries so shows = all_behind (after_cut power) final true acts more entries (λ _. refl) shows
all_behind power final behind (Do asked ∷ acts) more [] so shows = absurd shows
all_behind power final behind (Do asked ∷ acts) more (e ∷ entries) so shows = (
  λ fault. so (sym (fault_may power e.reply (ap is_write_fault fault)) ∙ shows.0),
  all_behind (after_call power asked e.reply) final (stays_behind behind asked) acts more entries (still_behind power behind (operation_of asked) e.reply so) shows.1,
)

-- ---- the first of some lines

more_cuts : (acts more : List Act) → cuts_in acts ≤ cuts_in (acts ++ more)
more_cuts [] more = omega arith
more_cuts (Cut side n pattern ∷ acts) more = one_more (cuts_in acts) (cuts_in (acts ++ more)) (more_cuts acts more)
more_cuts (Do call ∷ acts) more = more_cuts acts more

pub shows_cuts : (power final : Power) (lines more : List Line) (entries : List Entry) → Shows power (acts_of lines) entries final → ShowsCuts power (lines ++ more) entries
shows_cuts power final lines more entries shows =
    let all : acts_of (lines ++ more) ≡ acts_of lines ++ acts_of more = map-append (λ (line : Line). line.act) lines more in
    let least : cuts_in (acts_of lines) ≤ cuts_in (acts_of (lines ++ more)) =
    subst (λ (a : List Act). cuts_in (acts_of lines) ≤ cuts_in a) (sym all) (more_cuts (acts_of lines) (acts_of more)) in
    record {
      ordinary = all_ordinary power final (acts_of lines) entries shows;
      uncut = λ steady none. all_uncut power final (acts_of lines) entries steady (none_of (cuts_in (acts_of lines)) (cuts_in (acts_of (lines ++ more))) least none) shows;
      few = at_most (write_faults_in entries) (cuts_in (acts_of lines)) (cuts_in (acts_of (lines ++ more))) (armed_cuts power) (few_faults power final (acts_of lines) entries shows) least;
      behind = subst (λ (a : List Act). AreBehindCuts (is_armed power) a entries) (sym all)
          (all_behind power final (is_armed power) (acts_of lines) (acts_of more) entries (λ is. is) shows);
    }
