-- The next number of a pair is that of the state that it tells.
use Rattle.std.proofs.Common.{◌≡◌, ◌≢◌, ℕ, Bool, true, false, List, refl, sym, ◌∙◌, ap, subst, inl, inr}
use Rattle.std.specs.Prelude.{Option, Some, None, Result, Ok, Err, is_some}
use mathlib.Core.Bool.{false≢true}
use Rattle.std.specs.Option.{ForSome}
use Rattle.kv_model.specs.declared.error.KvError.{KvError}
use Rattle.kv_model.specs.declared.error.KvError.TheVariants as error
use Rattle.kv_model.specs.Given.{done_or}
use Rattle.kv_model.specs.Kv.{Answers, Keeps, KvState, answered}
use Rattle.kv_model.specs.Operations.{Operation}
use Rattle.kv_model.specs.Rules.{Outcome, number_taken}
use Rattle.kv_model.specs.StoreState.{StoreState}
use Rattle.sealed_pair.specs.Sealing.{is_numbered}
use Rattle.sealed_pair.specs.SecureStep.{secure_rules, takes_number}
use Rattle.sealed_pair.specs.Setting.{NumberLeft}
use Rattle.sealed_pair.specs.Store.{Own, joined_by}
use Rattle.sealed_pair.proofs.PairLemmas.{told_both}
use Rattle.secure_store.specs.declared.stop.Stop.{Stop}
use Rattle.secure_store.specs.declared.stop.Stop.TheVariants.{InCall, InRecover}
use Rattle.secure_store.specs.Doubts.{StaysStopped, StopsOnFault, told_by}
use Rattle.chip_stores.proofs.PairLemmas.{there_is}

abbrev TellsNumber : KvState → ℕ → Type 0
TellsNumber s number = ForSome s.known.state (λ (state : StoreState). state.next_vector ≡ number)

some_same : {X : Type 0} (x y : X) → Some x ≡ Some y → x ≡ y
some_same x y is = cc

-- while it runs
pub running_number : (root : List ℕ) (own : Own) (stop : Option Stop) (u r : KvState) → stop ≡ None → TellsNumber (told_by root own stop u r) own.number
running_number root own None u r runs = λ state told. ap (λ (s : StoreState). s.next_vector) (told_both (joined_by own) u.known.state r.known.state state told).joined
running_number root own (Some stop) u r runs = absurd (false≢true (sym (ap is_some runs)))

-- what an answer leaves of the number of a call that takes one, or takes none
abbrev pub NumberAfter : Operation → ℕ → ℕ → Result Unit KvError → Type 0
NumberAfter operation old new (Ok done) = Unit {0}
NumberAfter operation old new (Err e) = (e ≡ error.WriteFault → new ≡ number_taken (takes_number operation) old) × (e ≢ error.WriteFault → new ≡ old)

module _ (root root' : List ℕ) (own own' : Own) (u r u' r' : KvState) where
  abbrev before : Option Stop → KvState
  before stop = told_by root own stop u r

  abbrev after : Option Stop → KvState
  after stop = told_by root' own' stop u' r'

  -- a call that leaves whether it is stopped
  stays_at : (stop : Option Stop) → is_some (after stop).known.state ≡ is_some (before stop).known.state → own'.number ≡ own.number → TellsNumber (before stop) own.number
      → TellsNumber (after stop) own'.number
  stays_at None tells same number = running_number root' own' None u' r' refl
  stays_at (Some (InCall noted)) tells same number = λ state told.
      let t' = told_both (λ a b. noted.state) u'.known.state r'.known.state state told in
      let old = there_is (before (Some (InCall noted))).known.state (sym tells ∙ ap is_some told) in
      let t = told_both (λ a b. noted.state) u.known.state r.known.state old.0 old.1 in
      ap (λ (s : StoreState). s.next_vector) (t'.joined ∙ sym t.joined) ∙ number old.0 old.1 ∙ sym same
  stays_at (Some InRecover) tells same number = λ state told. absurd (false≢true (ap is_some told))

  pub number_stays : (stop stop' : Option Stop) → Keeps (before stop) (after stop') → stop' ≡ stop → own'.number ≡ own.number → TellsNumber (before stop) own.number
      → TellsNumber (after stop') own'.number
  number_stays stop stop' keeps still same number =
      subst (λ (o : Option Stop). TellsNumber (after o) own'.number) (sym still)
      (stays_at stop (subst (λ (o : Option Stop). is_some (after o).known.state ≡ is_some (before stop).known.state) still keeps.tells_state) same number)

  -- a call in which a write failed
  failed_at : (stop stop' : Option Stop) (who : ℕ) (operation : Operation) (e : KvError) → e ≡ error.WriteFault
      → Answers secure_rules (before stop) (after stop') (answered who operation (done_or {T = Unit} (Err e)))
      → own'.number ≡ number_taken (takes_number operation) own.number → TellsNumber (before stop) own.number → TellsNumber (after stop') own'.number
  failed_at stop stop' who operation e is answers taken number = λ state told.
      let fault = subst (λ (x : KvError). Answers secure_rules (before stop) (after stop') (answered who operation (done_or {T = Unit} (Err x)))) is answers in
      let old = there_is (before stop).known.state (sym fault.does.keeps.tells_state ∙ ap is_some told) in
      let leads = fault.does.leads old.0 old.1 state told in
      ap (λ (o : Outcome). o.state.next_vector) leads.2 ∙ ap (number_taken (takes_number operation)) (number old.0 old.1) ∙ sym taken

  pub number_moves : (stop stop' : Option Stop) (who : ℕ) (operation : Operation) (result : Result Unit KvError)
      → Answers secure_rules (before stop) (after stop') (answered who operation (done_or result)) → StaysStopped stop stop' result → StopsOnFault stop stop' result
      → NumberAfter operation own.number own'.number result → TellsNumber (before stop) own.number → TellsNumber (after stop') own'.number
  number_moves stop None who operation result answers stays stops left number = running_number root' own' None u' r' refl
  number_moves None (Some now) who operation (Ok done) answers stays stops left number = absurd (false≢true (sym (ap is_some stops)))
  number_moves None (Some now) who operation (Err e) answers stays (inl fault) left number = failed_at None (Some now) who operation e fault.0 answers (left.0 fault.0) number
  number_moves None (Some now) who operation (Err e) answers stays (inr same) left number = absurd (false≢true (sym (ap is_some same.1)))
  number_moves (Some was) (Some now) who operation result answers stays stops left number =
      let stopped = stays refl in
      let other : error.Stopped ≢ error.WriteFault = λ is. cc is in
      number_stays (Some was) (Some now) answers.does.keeps stopped.1 ((subst (NumberAfter operation own.number own'.number) stopped.0 left).1 other) number

-- ---- what the calls say of the number

-- of a call that takes none
pub takes_none : (operation : Operation) (old new : ℕ) (result : Result Unit KvError) → takes_number operation ≡ false → new ≡ old → NumberAfter operation old new result
takes_none operation old new (Ok done) none same = tt
takes_none operation old new (Err e) none same = (λ is. same ∙ ap (λ (b : Bool). number_taken b old) (sym none), λ other. same)

-- of a set or a start, which takes one by its flags
pub takes_by : (operation : Operation) (old new flags : ℕ) (result : Result Unit KvError) → takes_number operation ≡ is_numbered flags → NumberLeft old new flags result
    → NumberAfter operation old new result
takes_by operation old new flags (Ok done) by left = tt
takes_by operation old new flags (Err e) by left = (λ is. left.0 is ∙ ap (λ (b : Bool). number_taken b old) (sym by), left.1)
