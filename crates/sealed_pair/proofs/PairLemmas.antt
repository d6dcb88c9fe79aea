-- What calls on two stores are to the two as one.
use Rattle.std.proofs.Common.{◌≡◌, ℕ, ◌+◌, ◌≤◌, Bool, true, false, List, ◌++◌, Option, Some, None, refl, sym, ◌∙◌, ap, ap₂, subst, inl, inr, arith}
use Rattle.std.specs.Prelude.{◌&&◌, is_some, IsTrue}
use mathlib.Core.Bool.{false≢true, true≢false}
use Rattle.base_core.specs.Counts.{Rose}
use Rattle.kv_model.specs.declared.error.KvError.{KvError}
use Rattle.kv_model.specs.declared.error.KvError.TheVariants as error
use Rattle.kv_model.specs.declared.call.Reply.{Reply}
use Rattle.kv_model.specs.declared.call.Reply.TheVariants.{Done, Value, Facts, Found, End, Refused}
use Rattle.kv_model.specs.Constants.{Constants}
use Rattle.kv_model.specs.StoreState.{StoreState}
use Rattle.kv_model.specs.Opening.{Opening}
use Rattle.kv_model.specs.Rules.{Rules, step}
use Rattle.kv_model.specs.Kv.{Answers, Answered, IsCause, Keeps, Kind, KvState, LeadsTo, TellsOnly, UnlessFailedWrite, kind_of, may_end, Ruled, FailedRead, FailedWrite, Mismatched, Wanted}
use Rattle.sealed_pair.specs.Pair.{Joining, both, pair, pair_constants}
use Rattle.sealed_pair.specs.Reading.{HasRead, IsUnread}
use Rattle.kv_model.proofs.PerformLemmas.{Keeps-trans, TellsOnly-trans}

-- ---- causes

-- A cause between two moments of one store is one between two moments of another.
pub record Carries (a b c d : Opening) : Type 0 where
  pub reads : Rose a.read_faults b.read_faults → Rose c.read_faults d.read_faults
  pub writes : Rose a.write_faults b.write_faults → Rose c.write_faults d.write_faults
  pub steady : a.steady ≡ false → c.steady ≡ false
  pub sound : a.sound ≡ false → c.sound ≡ false
  pub state : a.state ≡ None → c.state ≡ None

pub cause_carried : {a b c d : Opening} → Carries a b c d → (e : KvError) → IsCause a b (Refused e) → IsCause c d (Refused e)
cause_carried by error.NotFound cause = tt
cause_carried by error.InvalidKey cause = tt
cause_carried by error.InvalidFlags cause = tt
cause_carried by error.InvalidSize cause = tt
cause_carried by error.WriteProtected cause = tt
cause_carried by (error.MediaFull need room) cause = tt
cause_carried by error.TooManyIterators cause = tt
cause_carried by error.NoIterator cause = tt
cause_carried by error.SetOpen cause = tt
cause_carried by error.NoSet cause = tt
cause_carried by (error.Busy owner) cause = tt
cause_carried by error.Stopped cause = tt
cause_carried by error.ReadFault cause = (by.reads cause.0, by.steady cause.1)
cause_carried by error.WriteFault cause = (by.writes cause.0, by.sound cause.1)
cause_carried by (error.Corrupt stored computed) cause = (cause.0, by.state cause.1)
cause_carried by error.AuthFailed cause = tt
cause_carried by error.RollbackFailed cause = tt
cause_carried by error.IvSpent cause = tt
cause_carried by error.Memory cause = tt

pub cause_all : {a b c d : Opening} → Carries a b c d → (reply : Reply) → IsCause a b reply → IsCause c d reply
cause_all by Done cause = tt
cause_all by (Value l) cause = tt
cause_all by (Facts n flags) cause = tt
cause_all by (Found l) cause = tt
cause_all by End cause = tt
cause_all by (Refused e) cause = cause_carried by e cause

pub unread_carried : {a b c d : KvState} → Carries a.known b.known c.known d.known → (e : KvError) → IsUnread a b e → IsUnread c d e
unread_carried by e unread = record { cause = cause_carried by e unread.cause; may_end = unread.may_end }

false_before : (old mid : Bool) → (old ≡ true → mid ≡ true) → mid ≡ false → old ≡ false
false_before true mid kept not_now = absurd (true≢false (sym (kept refl) ∙ not_now))
false_before false mid kept not_now = refl

rose_since : {a b c : ℕ} → a ≤ b → Rose b c → Rose a c
rose_since earlier (inl rose) = inl (omega (arith, earlier, rose))
rose_since earlier (inr last) = inr last

pub rose_until : {a b c : ℕ} → b ≤ c → Rose a b → Rose a c
rose_until later (inl rose) = inl (omega (arith, later, rose))
rose_until later (inr last) = inr (omega (arith, later, last))

none_before : {X : Type 0} (old mid : Option X) → is_some mid ≡ is_some old → mid ≡ None → old ≡ None
none_before None mid same none = refl
none_before (Some x) mid same none = absurd (true≢false (sym same ∙ ap is_some none))

-- what came later came since an earlier moment
pub carries_since : (old mid new : KvState) → Keeps old mid → (old.known.steady ≡ true → mid.known.steady ≡ true) → Carries mid.known new.known old.known new.known
carries_since old mid new keeps steady = record {
  reads = rose_since keeps.read_faults;
  writes = rose_since keeps.write_faults;
  steady = false_before old.known.steady mid.known.steady steady;
  sound = false_before old.known.sound mid.known.sound keeps.sound;
  state = λ none. none_before old.known.state mid.known.state keeps.tells_state none;
}

-- what came earlier came until a later moment
pub carries_until : (old mid new : KvState) → Keeps mid new → Carries old.known mid.known old.known new.known
carries_until old mid new keeps = record {
  reads = rose_until keeps.read_faults;
  writes = rose_until keeps.write_faults;
  steady = λ is. is;
  sound = λ is. is;
  state = λ is. is;
}

-- ---- two as one

and_left : (a b : Bool) → a ≡ false → (a && b) ≡ false
and_left false b is = refl
and_left true b is = absurd (true≢false is)

and_right : (a b : Bool) → b ≡ false → (a && b) ≡ false
and_right false b is = refl
and_right true b is = is

pub first_of : (a b : Bool) → (a && b) ≡ true → a ≡ true
first_of true b is = refl
first_of false b is = absurd (false≢true is)

pub second_of : (a b : Bool) → (a && b) ≡ true → b ≡ true
second_of true b is = is
second_of false b is = absurd (false≢true is)

pub both_of : (a b : Bool) → a ≡ true → b ≡ true → (a && b) ≡ true
both_of true b one two = two
both_of false b one two = absurd (false≢true one)

is_both : (joining : Joining) (a b : Option StoreState) → is_some (both joining a b) ≡ (is_some a && is_some b)
is_both joining None b = refl
is_both joining (Some x) None = refl
is_both joining (Some x) (Some y) = refl

none_left : (joining : Joining) (a b : Option StoreState) → a ≡ None → both joining a b ≡ None
none_left joining None b is = refl
none_left joining (Some x) b is = absurd (true≢false (ap is_some is))

none_right : (joining : Joining) (a b : Option StoreState) → b ≡ None → both joining a b ≡ None
none_right joining None b is = refl
none_right joining (Some x) None is = refl
none_right joining (Some x) (Some y) is = absurd (true≢false (ap is_some is))

-- where the two tell a state, each tells one
pub record ToldBoth (joining : Joining) (a b : Option StoreState) (state : StoreState) : Type 0 where
  pub above : StoreState
  pub below : StoreState
  pub above_told : a ≡ Some above
  pub below_told : b ≡ Some below
  pub joined : state ≡ joining above below

told_one : {X : Type 0} (x y : X) → Some x ≡ Some y → y ≡ x
told_one x y is = cc

pub told_both : (joining : Joining) (a b : Option StoreState) (state : StoreState) → both joining a b ≡ Some state → ToldBoth joining a b state
told_both joining None b state is = absurd (false≢true (ap is_some is))
told_both joining (Some x) None state is = absurd (false≢true (ap is_some is))
told_both joining (Some x) (Some y) state is = record { above = x; below = y; above_told = refl; below_told = refl; joined = told_one (joining x y) state is }

pub same_told : {X : Type 0} (o : Option X) (x y : X) → o ≡ Some x → o ≡ Some y → y ≡ x
same_told o x y one other = cc

module _ (root : List ℕ) (u u' r r' : KvState) where
  pub keeps_both : (old new : Joining) → Keeps u u' → Keeps r r' → Keeps (pair root old u r) (pair root new u' r')
  keeps_both old new above below = record {
    constants = ap₂ (pair_constants root) above.constants below.constants;
    labels = ap₂ (λ (a b : List (List ℕ)). a ++ b) above.labels below.labels;
    tells_state = is_both new u'.known.state r'.known.state ∙ ap₂ (λ (a b : Bool). a && b) above.tells_state below.tells_state
        ∙ sym (is_both old u.known.state r.known.state);
    tells_log = refl;
    tells_moments = ap₂ (λ (a b : Bool). a && b) above.tells_moments below.tells_moments;
    read_faults = omega (arith, above.read_faults, below.read_faults);
    write_faults = omega (arith, above.write_faults, below.write_faults);
    sound = λ sound. both_of u'.known.sound r'.known.sound (above.sound (first_of u.known.sound r.known.sound sound)) (below.sound (second_of u.known.sound r.known.sound sound));
  }

  rose_above : {a b c d : ℕ} → c ≤ d → Rose a b → Rose (a + c) (b + d)
  rose_above beside (inl rose) = inl (omega (arith, beside, rose))
  rose_above beside (inr last) = inr (omega (arith, last))

  rose_below : {a b c d : ℕ} → c ≤ d → Rose a b → Rose (c + a) (d + b)
  rose_below beside (inl rose) = inl (omega (arith, beside, rose))
  rose_below beside (inr last) = inr (omega (arith, last))

  -- a cause in one of the two is one in both
  pub carries_above : (old new : Joining) → Keeps r r' → Carries u.known u'.known (pair root old u r).known (pair root new u' r').known
  carries_above old new below = record {
    reads = rose_above below.read_faults;
    writes = rose_above below.write_faults;
    steady = and_left u.known.steady r.known.steady;
    sound = and_left u.known.sound r.known.sound;
    state = none_left old u.known.state r.known.state;
  }

  pub carries_below : (old new : Joining) → Keeps u u' → Carries r.known r'.known (pair root old u r).known (pair root new u' r').known
  carries_below old new above = record {
    reads = rose_below above.read_faults;
    writes = rose_below above.write_faults;
    steady = and_right u.known.steady r.known.steady;
    sound = and_right u.known.sound r.known.sound;
    state = none_right old u.known.state r.known.state;
  }

  -- ---- calls that read

  -- what a call does by the rules where both stores tell their states, and that it reads the maps of these
  pub record ReadsBy (rules_by : Constants → Rules) (joining : Joining) (call : Answered) (above below : StoreState) : Type 0 where
    pub primary : (joining above below).primary ≡ above.primary
    pub rollback : (joining above below).rollback ≡ below.primary
    pub stays : (step (rules_by (pair_constants root u.known.constants r.known.constants)) (joining above below) call.who call.operation).state ≡ joining above below
    pub leads : LeadsTo (rules_by (pair_constants root u.known.constants r.known.constants)) (joining above below) call (joining above below) (kind_of call.reply)

  same_join : (joining : Joining) (a b a' b' : Option StoreState) → a' ≡ a → b' ≡ b → both joining a' b' ≡ both joining a b
  same_join joining a b a' b' one two = ap₂ (both joining) one two

  unless_steady : (kind : Kind) → u'.known.steady ≡ true → r'.known.steady ≡ true → UnlessFailedWrite kind ((u'.known.steady && r'.known.steady) ≡ true)
  unless_steady Ruled one two = both_of u'.known.steady r'.known.steady one two
  unless_steady FailedRead one two = both_of u'.known.steady r'.known.steady one two
  unless_steady FailedWrite one two = tt
  unless_steady Mismatched one two = both_of u'.known.steady r'.known.steady one two
  unless_steady Wanted one two = both_of u'.known.steady r'.known.steady one two

  pub unless_both : (kind : Kind) → UnlessFailedWrite kind (u'.known.steady ≡ true) → r'.known.steady ≡ true → UnlessFailedWrite kind ((u'.known.steady && r'.known.steady) ≡ true)
  unless_both Ruled one two = both_of u'.known.steady r'.known.steady one two
  unless_both FailedRead one two = both_of u'.known.steady r'.known.steady one two
  unless_both FailedWrite one two = tt
  unless_both Mismatched one two = both_of u'.known.steady r'.known.steady one two
  unless_both Wanted one two = both_of u'.known.steady r'.known.steady one two

  -- a call that only reads both stores
  pub read_answers : (rules_by : Constants → Rules) (joining : Joining) (call : Answered) → HasRead u u' → HasRead r r'
      → IsCause (pair root joining u r).known (pair root joining u' r').known call.reply → IsTrue (may_end call.operation (kind_of call.reply))
      → ((above below : StoreState) → u.known.state ≡ Some above → r.known.state ≡ Some below → ReadsBy rules_by joining call above below)
      → Answers rules_by (pair root joining u r) (pair root joining u' r') call
  read_answers rules_by joining call above below cause may by = record {
    does = record {
      keeps = keeps_both joining joining above.keeps below.keeps;
      cause = cause;
      steady = λ steady. unless_steady (kind_of call.reply) (above.steady (first_of u.known.steady r.known.steady steady)) (below.steady (second_of u.known.steady r.known.steady steady));
      leads = λ before is after later.
          let told = told_both joining u.known.state r.known.state before is in
          let reads = by told.above told.below told.above_told told.below_told in
          let rules = rules_by (pair_constants root u.known.constants r.known.constants) in
          let still : after ≡ joining told.above told.below =
          same_told (both joining u.known.state r.known.state) (joining told.above told.below) after (is ∙ ap (λ (s : StoreState). Some s) told.joined)
          (sym (same_join joining u.known.state r.known.state u'.known.state r'.known.state above.state below.state) ∙ later) in
          subst (λ (b : StoreState). LeadsTo rules b call after (kind_of call.reply)) (sym told.joined)
          (subst (λ (a : StoreState). LeadsTo rules (joining told.above told.below) call a (kind_of call.reply)) (sym still) reads.leads);
      log = λ before is log log_is. absurd (false≢true (ap is_some log_is));
      cuts = λ tells before is.
          let told = told_both joining u.known.state r.known.state before is in
          let reads = by told.above told.below told.above_told told.below_told in
          let rules = rules_by (pair_constants root u.known.constants r.known.constants) in
          let one = above.moments (first_of u.crash.tells_moments r.crash.tells_moments tells) told.above told.above_told in
          let two = below.moments (second_of u.crash.tells_moments r.crash.tells_moments tells) told.below told.below_told in
          let Cuts : StoreState → StoreState → Type 0 = λ b a.
          TellsOnly u.crash.primary u'.crash.primary b.primary a.primary × TellsOnly r.crash.primary r'.crash.primary b.rollback a.rollback in
          let whole : Cuts (joining told.above told.below) (joining told.above told.below) = (
            subst (λ (m : _). TellsOnly u.crash.primary u'.crash.primary m m) (sym reads.primary) one,
            subst (λ (m : _). TellsOnly r.crash.primary r'.crash.primary m m) (sym reads.rollback) two,
          ) in
          subst (λ (b : StoreState). Cuts b (step rules b call.who call.operation).state) (sym told.joined)
          (subst (Cuts (joining told.above told.below)) (sym reads.stays) whole);
    };
    may_end = may;
  }

-- one read after another
pub read_then : {a b c : KvState} → HasRead a b → HasRead b c → HasRead a c
read_then {a} {b} {c} one two = record {
  keeps = Keeps-trans one.keeps two.keeps;
  state = two.state ∙ one.state;
  steady = λ steady. two.steady (one.steady steady);
  moments = λ tells before is.
      TellsOnly-trans (one.moments tells before is) (two.moments (subst IsTrue (sym one.keeps.tells_moments) tells) before (one.state ∙ is));
}

-- a store that was not called
pub read_none : (a : KvState) → HasRead a a
read_none a = record {
  keeps = record {
    constants = refl;
    labels = refl;
    tells_state = refl;
    tells_log = refl;
    tells_moments = refl;
    read_faults = omega arith;
    write_faults = omega arith;
    sound = λ is. is;
  };
  state = refl;
  steady = λ is. is;
  moments = λ tells before is. record { moment = omega arith; told = λ t map early told. inl told };
}
