-- What the calls of a walk answer over a plain store, and where they leave it.
use Rattle.std.proofs.Common.{◌≡◌, ◌⊎◌, ℕ, Bool, true, false, cond, List, [], length, take, Option, Some, None, Result, Ok, Err, Ordering, Less, Equal, Greater, is_eq, nat_cmp, refl, sym, ◌∙◌, ap, ap₂, subst, inl, inr, true≢false}
use Rattle.std.specs.Prelude.{if◌then◌else◌, is_some, not, nat_le, unwrap_or, IsTrue, ◌&&◌}
use mathlib.Core.Bool.{false≢true}
use Rattle.std.specs.Ordering.{eq_by_cmp, ordering_then}
use Rattle.std.specs.Cmp.{eq_by_cmp_equiv}
use Rattle.std.specs.FinMap.{IsAntisymmetric, contains_key, empty, get, get-empty, get-insert, get-remove, insert, len, len-empty, nat_cmp-IsAntisymmetric, remove, same_map}
use Rattle.kv_model.specs.declared.error.KvError.{KvError}
use Rattle.kv_model.specs.declared.error.KvError.TheVariants as error
use Rattle.kv_model.specs.declared.call.Reply.{Reply}
use Rattle.kv_model.specs.declared.call.Reply.TheVariants.{Done, End, Facts, Found, Refused, Value}
use Rattle.kv_model.specs.Constants.{Constants}
use Rattle.kv_model.specs.FlaggedMap.{FlaggedMap}
use Rattle.kv_model.specs.StoreState.{Iterators, Position, StoreState, iterator_cmp}
use Rattle.kv_model.specs.Checks.{first_refusal}
use Rattle.kv_model.specs.Keys.{is_prefix}
use Rattle.kv_model.specs.declared.limits.TheConstants.{MAX_ITERATORS}
use Rattle.kv_model.specs.Operations.{CloseIterator, Next, OpenIterator, Operation}
use Rattle.kv_model.specs.PlainStep.{plain_rules}
use Rattle.kv_model.specs.Rows.{advanced}
use Rattle.kv_model.specs.NextKey.{IsNext, next_key}
use Rattle.kv_model.specs.Given.{found_or}
use Rattle.kv_model.specs.Rules.{Outcome, Rules, refused_or, refuses, step}
use Rattle.kv_model.specs.Kv.{Answers, Kind, KvState, LeadsTo, answered, kind_of, may_end, Ruled, FailedRead, FailedWrite, Mismatched, Wanted}
use Rattle.kv_model.proofs.MapLemmas.{iterator_total}
use Rattle.kv_model.proofs.NextKeyLemmas.{next_key_is_next}
use Rattle.sealed_pair.specs.Reading.{TellsPlain}
use Rattle.sealed_pair.specs.Walking.{GivesNext, IsAt, IsReadOrWant, Walk, place, state_at}
use Rattle.sealed_pair.proofs.RecoveringLemmas.{wanted_memory}
use Rattle.sealed_pair.proofs.StayingLemmas.{Closes, Gives, Opens, Went, leads_alike, went}

-- ---- the iterators of a store in a walk

first_equal : (a b : Ordering) → ordering_then a b ≡ Equal → a ≡ Equal
first_equal Less b is = absurd (true≢false (sym (ap is_eq is)))
first_equal Equal b is = refl
first_equal Greater b is = absurd (true≢false (sym (ap is_eq is)))

second_equal : (a b : Ordering) → ordering_then a b ≡ Equal → b ≡ Equal
second_equal Less b is = absurd (true≢false (sym (ap is_eq is)))
second_equal Equal b is = is
second_equal Greater b is = absurd (true≢false (sym (ap is_eq is)))

iterator_same : IsAntisymmetric iterator_cmp
iterator_same x y is =
    ap₂ (λ (a b : ℕ). (a, b)) (nat_cmp-IsAntisymmetric x.0 y.0 (first_equal (nat_cmp x.0 y.0) (nat_cmp x.1 y.1) is))
    (nat_cmp-IsAntisymmetric x.1 y.1 (second_equal (nat_cmp x.0 y.0) (nat_cmp x.1 y.1) is))

module _ (its : Iterators) (key : ℕ × ℕ) (p : Position) where
  itself : eq_by_cmp iterator_cmp key key ≡ true
  itself = (eq_by_cmp_equiv iterator_total).refl key

  pub get_placed : get (insert its key p) key ≡ Some p
  get_placed = get-insert iterator_total its key p key ∙ ap (λ (b : Bool). cond b (Some p) (get its key)) itself

  cond_twice : (b : Bool) (q : Position) (o : Option Position) → cond b (Some q) (cond b (Some p) o) ≡ cond b (Some q) o
  cond_twice true q o = refl
  cond_twice false q o = refl

  pub placed_again : (q : Position) → insert (insert its key p) key q ≡ insert its key q
  placed_again q = same_map iterator_total iterator_same _ _ (λ x.
      get-insert iterator_total (insert its key p) key q x
      ∙ ap (cond (eq_by_cmp iterator_cmp x key) (Some q)) (get-insert iterator_total its key p x)
      ∙ cond_twice (eq_by_cmp iterator_cmp x key) q (get its x)
      ∙ sym (get-insert iterator_total its key q x))

  cond_none : (b : Bool) → cond b None (cond b (Some p) None) ≡ None
  cond_none true = refl
  cond_none false = refl

  pub placed_and_removed : its ≡ empty → remove (insert its key p) key ≡ its
  placed_and_removed none = same_map iterator_total iterator_same _ _ (λ x.
      get-remove iterator_total (insert its key p) key x
      ∙ ap (cond (eq_by_cmp iterator_cmp x key) None) (get-insert iterator_total its key p x ∙ ap (cond (eq_by_cmp iterator_cmp x key) (Some p)) (lacks x))
      ∙ cond_none (eq_by_cmp iterator_cmp x key) ∙ sym (lacks x)) where
        lacks : (x : ℕ × ℕ) → get its x ≡ None
        lacks x = ap (λ (m : Iterators). get m x) none ∙ get-empty iterator_cmp x

-- ---- the steps of a plain store

module _ (constants : Constants) (walk : Walk) (last : Option (List ℕ)) (running : walk.before.doubt ≡ None) where
  abbrev its : Iterators
  its = walk.before.iterators

  abbrev here : StoreState
  here = state_at walk last

  abbrev none_yet : Position
  none_yet = record { prefix = []; last = None }

  abbrev pub following : Option (List ℕ)
  following = next_key constants.hash_bits walk.before.primary (place last)

  abbrev pub gives : Option (List ℕ) → Outcome
  gives None = record { state = here; reply = End }
  gives (Some key) = record { state = state_at walk (Some key); reply = Found key }

  placed_at : get here.iterators (walk.who, 0) ≡ Some (place last)
  placed_at = get_placed its (walk.who, 0) (place last)

  advanced_is : (found : Option (List ℕ)) → advanced here walk.who 0 found ≡ gives found
  advanced_is None = refl
  advanced_is (Some key) = λ i. record { state = record walk.before { iterators = there i }; reply = Found key } where
    there : insert here.iterators (walk.who, 0) (record (unwrap_or (get here.iterators (walk.who, 0)) none_yet) { last = Some key }) ≡ insert its (walk.who, 0) (place (Some key))
    there = ap (λ (o : Option Position). insert here.iterators (walk.who, 0) (record (unwrap_or o none_yet) { last = Some key })) placed_at
        ∙ placed_again its (walk.who, 0) (place last) (place (Some key))

  runs : (operation : Operation) → step (plain_rules constants) here walk.who operation
      ≡ refused_or (plain_rules constants) here walk.who operation (first_refusal ((plain_rules constants).checks here walk.who operation))
  runs operation =
      ap (λ (b : Bool). if b then refuses here error.Stopped else refused_or (plain_rules constants) here walk.who operation (first_refusal ((plain_rules constants).checks here walk.who operation)))
      (ap is_some running)

  -- the next key
  pub next_step : step (plain_rules constants) here walk.who (Next 0) ≡ gives following
  next_step =
      runs (Next 0)
      ∙ ap (λ (o : Option Position). refused_or (plain_rules constants) here walk.who (Next 0) (if not (is_some o) then Some error.NoIterator else None)) placed_at
      ∙ ap (λ (o : Option Position). advanced here walk.who 0 (next_key constants.hash_bits walk.before.primary (unwrap_or o none_yet))) placed_at
      ∙ advanced_is following

  -- the end of the walk, where it was the only iterator
  pub close_step : its ≡ empty → step (plain_rules constants) here walk.who (CloseIterator 0) ≡ record { state = walk.before; reply = Done }
  close_step none =
      runs (CloseIterator 0)
      ∙ ap (λ (o : Option Position). refused_or (plain_rules constants) here walk.who (CloseIterator 0) (if not (is_some o) then Some error.NoIterator else None)) placed_at
      ∙ (λ i. record { state = record walk.before { iterators = placed_and_removed its (walk.who, 0) (place last) none i }; reply = Done })

few : (all : Iterators) → all ≡ empty → len all ≡ 0
few all none = ap (λ (m : Iterators). len m) none ∙ len-empty iterator_cmp Position

prefix_fits : is_prefix [] ≡ true
unfolding is_prefix
prefix_fits = refl

-- the beginning of a walk
module _ (constants : Constants) (who : ℕ) (state : StoreState) where
  abbrev refused_by : Option KvError → Outcome
  refused_by found = refused_or (plain_rules constants) state who (OpenIterator 0 []) found

  abbrev many : ℕ → Option KvError
  many n = if nat_le MAX_ITERATORS n && not (is_some (get state.iterators (who, 0))) then Some error.TooManyIterators else None

  pub open_step : state.doubt ≡ None → state.iterators ≡ empty
      → step (plain_rules constants) state who (OpenIterator 0 []) ≡ record { state = state_at (record { who = who; before = state }) None; reply = Done }
  open_step running none =
      ap (λ (b : Bool). if b then refuses state error.Stopped else refused_by (first_refusal ((plain_rules constants).checks state who (OpenIterator 0 [])))) (ap is_some running)
      ∙ ap (λ (b : Bool). refused_by (if not b then Some error.InvalidKey else many (len state.iterators))) prefix_fits
      ∙ ap (λ (n : ℕ). refused_by (many n)) (few state.iterators none)

-- ---- what the calls answer

module _ (by : Constants → Rules) (walk : Walk) (last : Option (List ℕ)) (old new : KvState) (at : IsAt by walk last old) where
  at_told : (given : Option (List ℕ)) (after : StoreState) → new.known.state ≡ Some after → after ≡ state_at walk given → IsAt by walk given new
  at_told given after told is = record { rules = at.rules; told = told ∙ ap (λ (s : StoreState). Some s) is; running = at.running }

  abbrev here_now : StoreState
  here_now = state_at walk last

  abbrev hash : ℕ
  hash = old.known.constants.hash_bits

  is_next : (found : Option (List ℕ)) → following old.known.constants walk last at.running ≡ found → IsNext hash walk.before.primary (place last) found
  is_next found is = subst (IsNext hash walk.before.primary (place last)) is (next_key_is_next hash walk.before.primary (place last))

  abbrev found_in : Reply → List ℕ
  found_in (Found key) = key
  found_in reply = []

  abbrev is_end : Reply → Bool
  is_end End = true
  is_end reply = false

  abbrev is_found : Reply → Bool
  is_found (Found key) = true
  is_found reply = false

  abbrev is_refused : Reply → Bool
  is_refused (Refused e) = true
  is_refused reply = false

  abbrev error_in : Reply → KvError
  error_in (Refused e) = e
  error_in reply = error.NotFound

  abbrev given_by : Option (List ℕ) → Outcome
  given_by found = gives old.known.constants walk last at.running found

  -- that it is the next key of the store's constants of now
  abbrev Next_is : Option (List ℕ) → Type 0
  Next_is found = IsNext new.known.constants.hash_bits walk.before.primary (place last) found

  ends : (found : Option (List ℕ)) → following old.known.constants walk last at.running ≡ found → (after : StoreState) → new.known.constants ≡ old.known.constants
      → new.known.state ≡ Some after → given_by found ≡ record { state = after; reply = End } → Next_is None × IsAt by walk last new
  ends None is after constants told leads = (
    subst (λ (c : Constants). IsNext c.hash_bits walk.before.primary (place last) None) (sym constants) (is_next None is),
    at_told last after told (ap (λ (o : Outcome). o.state) (sym leads)),
  )
  ends (Some key) is after constants told leads = absurd (true≢false (ap (λ (o : Outcome). is_found o.reply) leads))

  finds : (found : Option (List ℕ)) → following old.known.constants walk last at.running ≡ found → (key : List ℕ) (after : StoreState) → new.known.constants ≡ old.known.constants
      → new.known.state ≡ Some after → given_by found ≡ record { state = after; reply = Found key } → Next_is (Some key) × IsAt by walk (Some key) new
  finds None is key after constants told leads = absurd (true≢false (ap (λ (o : Outcome). is_end o.reply) leads))
  finds (Some k) is key after constants told leads =
      let same : k ≡ key = ap (λ (o : Outcome). found_in o.reply) leads in (
        subst (λ (c : Constants). IsNext c.hash_bits walk.before.primary (place last) (Some key)) (sym constants) (is_next (Some key) (is ∙ ap Some same)),
        at_told (Some key) after told (ap (λ (o : Outcome). o.state) (sym leads) ∙ ap (λ (x : List ℕ). state_at walk (Some x)) same),
      )

  never_refused : (found : Option (List ℕ)) → (e : KvError) (after : StoreState) → given_by found ≡ record { state = after; reply = Refused e } → ⊥
  never_refused None e after leads = true≢false (ap (λ (o : Outcome). is_end o.reply) leads)
  never_refused (Some key) e after leads = true≢false (ap (λ (o : Outcome). is_found o.reply) leads)

  module _ (reply : Reply) (answers : Answers by old new (answered walk.who (Next 0) reply)) where
    gone : Went by walk.who Gives old new reply answers here_now
    gone = went by walk.who Gives old new reply answers here_now at

    by_kind : (kind : Kind) → kind_of reply ≡ kind → LeadsTo (plain_rules old.known.constants) here_now (answered walk.who (Next 0) reply) gone.after kind
    by_kind kind is = subst (LeadsTo (plain_rules old.known.constants) here_now (answered walk.who (Next 0) reply) gone.after) is gone.leads

    pub ended : reply ≡ End → Next_is None × IsAt by walk last new
    ended is =
        ends (following old.known.constants walk last at.running) refl gone.after answers.does.keeps.constants gone.told
        (sym (next_step old.known.constants walk last at.running) ∙ by_kind Ruled (ap kind_of is) ∙ ap (λ (r : Reply). record { state = gone.after; reply = r }) is)

    pub found_next : (key : List ℕ) → reply ≡ Found key → Next_is (Some key) × IsAt by walk (Some key) new
    found_next key is =
        finds (following old.known.constants walk last at.running) refl key gone.after answers.does.keeps.constants gone.told
        (sym (next_step old.known.constants walk last at.running) ∙ by_kind Ruled (ap kind_of is) ∙ ap (λ (r : Reply). record { state = gone.after; reply = r }) is)

    refused_kind : (e : KvError) (kind : Kind) → reply ≡ Refused e → kind_of reply ≡ kind → IsTrue (may_end (Next 0) kind)
        → LeadsTo (plain_rules old.known.constants) here_now (answered walk.who (Next 0) reply) gone.after kind → IsReadOrWant e × ((given : Option (List ℕ)) × IsAt by walk given new)
    refused_kind e Ruled is kind may leads =
        absurd (never_refused (following old.known.constants walk last at.running) e gone.after
        (sym (next_step old.known.constants walk last at.running) ∙ leads ∙ ap (λ (r : Reply). record { state = gone.after; reply = r }) is))
    refused_kind e FailedRead is kind may leads =
        (inl (ap error_in (sym is) ∙ ap (λ (o : Outcome). error_in o.reply) leads.2), (last, at_told last gone.after gone.told (ap (λ (o : Outcome). o.state) leads.2)))
    refused_kind e FailedWrite is kind may leads = absurd (false≢true may)
    refused_kind e Mismatched is kind may leads = absurd leads
    refused_kind e Wanted is kind may leads = absurd (false≢true may)

    pub refused_next : (e : KvError) → reply ≡ Refused e → IsReadOrWant e × ((given : Option (List ℕ)) × IsAt by walk given new)
    refused_next e is = refused_kind e (kind_of reply) is refl answers.may_end gone.leads

-- ---- where a walk begins and ends

-- how a walk was begun, of a store without iterators
abbrev pub Begins : (Constants → Rules) → ℕ → StoreState → KvState → Reply → Type 0
Begins by who state new Done = IsAt by (record { who = who; before = state }) None new
Begins by who state new (Refused e) = IsReadOrWant e × (new.known.state ≡ Some state)
Begins by who state new reply = Unit {0}

module _ (by : Constants → Rules) (who : ℕ) (old new : KvState) (state : StoreState) (tells : TellsPlain by old state) (none : state.iterators ≡ empty) where
  abbrev walk_of : Walk
  walk_of = record { who = who; before = state }

  begins_by : (reply : Reply) (kind : Kind) → kind_of reply ≡ kind → IsTrue (may_end (OpenIterator 0 []) kind) → (after : StoreState) → new.known.state ≡ Some after
      → LeadsTo (plain_rules old.known.constants) state (answered who (OpenIterator 0 []) reply) after kind → Begins by who state new reply
  begins_by reply Ruled is may after told leads =
      let same : record { state = state_at walk_of None; reply = Done } ≡ record { state = after; reply = reply } = sym (open_step old.known.constants who state tells.running none) ∙ leads in
      subst (Begins by who state new) (ap (λ (o : Outcome). o.reply) same)
      (record { rules = tells.rules; told = told ∙ ap (λ (o : Outcome). Some o.state) (sym same); running = tells.running })
  begins_by reply FailedRead is may after told leads = absurd (false≢true may)
  begins_by reply FailedWrite is may after told leads = absurd (false≢true may)
  begins_by reply Mismatched is may after told leads = absurd leads
  begins_by reply Wanted is may after told leads = wanted reply is where
    wanted : (r : Reply) → kind_of r ≡ Wanted → Begins by who state new r
    wanted (Refused e) memory = (inr (wanted_memory e memory), told ∙ ap (λ (s : StoreState). Some s) leads)
    wanted Done memory = absurd (cc memory)
    wanted (Value value) memory = absurd (cc memory)
    wanted (Facts size flags) memory = absurd (cc memory)
    wanted (Found key) memory = absurd (cc memory)
    wanted End memory = absurd (cc memory)

  pub begins : (reply : Reply) → Answers by old new (answered who (OpenIterator 0 []) reply) → Begins by who state new reply
  begins reply answers =
      let w = went by who Opens old new reply answers state tells in
      begins_by reply (kind_of reply) refl answers.may_end w.after w.told w.leads

module _ (by : Constants → Rules) (walk : Walk) (given : Option (List ℕ)) (old new : KvState) (at : IsAt by walk given old) (none : walk.before.iterators ≡ empty) where
  closes_by : (reply : Reply) (kind : Kind) → IsTrue (may_end (CloseIterator 0) kind) → (after : StoreState) → new.known.state ≡ Some after
      → LeadsTo (plain_rules old.known.constants) (state_at walk given) (answered walk.who (CloseIterator 0) reply) after kind → new.known.state ≡ Some walk.before
  closes_by reply Ruled may after told leads =
      told ∙ ap (λ (o : Outcome). Some o.state) (sym leads ∙ close_step old.known.constants walk given at.running none)
  closes_by reply FailedRead may after told leads = absurd (false≢true may)
  closes_by reply FailedWrite may after told leads = absurd (false≢true may)
  closes_by reply Mismatched may after told leads = absurd leads
  closes_by reply Wanted may after told leads = absurd (false≢true may)

  pub closes : (reply : Reply) → Answers by old new (answered walk.who (CloseIterator 0) reply) → new.known.state ≡ Some walk.before
  closes reply answers =
      let w = went by walk.who Closes old new reply answers (state_at walk given) at in
      closes_by reply (kind_of reply) answers.may_end w.after w.told w.leads

-- ---- the same, by the caller's number

module _ (by : Constants → Rules) (walk : Walk) (last : Option (List ℕ)) (old new : KvState) (at : IsAt by walk last old) (who : ℕ) (same : walk.who ≡ who) (reply : Reply)
    (answers : Answers by old new (answered who (Next 0) reply)) where
  by_owner : Answers by old new (answered walk.who (Next 0) reply)
  by_owner = subst (λ (n : ℕ). Answers by old new (answered n (Next 0) reply)) (sym same) answers

  pub gives_end : reply ≡ End → GivesNext by walk last new (Ok None)
  gives_end is = ended by walk last old new at reply by_owner is

  pub gives_key : (key : List ℕ) → reply ≡ Found key → GivesNext by walk last new (Ok (Some key))
  gives_key key is = found_next by walk last old new at reply by_owner key is

  pub gives_refusal : (e : KvError) → reply ≡ Refused e → GivesNext by walk last new (Err e)
  gives_refusal e is = refused_next by walk last old new at reply by_owner e is

  -- a key that is none
  pub gives_memory : (key : List ℕ) → reply ≡ Found key → GivesNext by walk last new (Err error.Memory)
  gives_memory key is = (inr refl, (Some key, (found_next by walk last old new at reply by_owner key is).1))

pub closes_by_owner : (by : Constants → Rules) (walk : Walk) (given : Option (List ℕ)) (old new : KvState) → IsAt by walk given old → walk.before.iterators ≡ empty → (who : ℕ) → walk.who ≡ who → (reply : Reply)
    → Answers by old new (answered who (CloseIterator 0) reply) → new.known.state ≡ Some walk.before
closes_by_owner by walk given old new at none who same reply answers =
    closes by walk given old new at none reply (subst (λ (n : ℕ). Answers by old new (answered n (CloseIterator 0) reply)) (sym same) answers)
