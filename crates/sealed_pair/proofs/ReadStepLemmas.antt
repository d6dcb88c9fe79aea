-- What a secure store answers to a read, by the view of the key.
use Rattle.std.proofs.Common.{◌≡◌, ◌⊎◌, ℕ, true, false, nat_lt, List, length, take, drop, Some, None, refl, sym, subst, inl, inr}
use Rattle.kv_model.specs.declared.error.KvError.{KvError}
use Rattle.kv_model.specs.declared.error.KvError.TheVariants as error
use Rattle.kv_model.specs.declared.call.Reply.TheVariants.{Value, Facts, Refused}
use Rattle.kv_model.specs.Constants.{Constants}
use Rattle.kv_model.specs.Keys.{is_key}
use Rattle.kv_model.specs.StoreState.{StoreState}
use Rattle.kv_model.specs.Operations.{Info, Part}
use Rattle.kv_model.specs.Rules.{refuses, step}
use Rattle.kv_model.specs.Kv.{LeadsTo, answered, kind_of}
use Rattle.sealed_pair.specs.SecureStep.{secure_rules, view}
use Rattle.sealed_pair.specs.View.{View, Absent, Held, AuthFailed, RollbackFailed}
use Rattle.sealed_pair.specs.Viewing.{refusal_of}

one_of : (one other : KvError) → Some one ≡ Some other → one ≡ other
one_of one other is = cc

module _ (constants : Constants) (state : StoreState) (who : ℕ) (key : List ℕ) (running : state.doubt ≡ None) where
  pub bad_info : is_key key ≡ false → step (secure_rules constants) state who (Info key) ≡ refuses state error.InvalidKey
  bad_info bad = simp (running, bad) refl

  pub bad_part : (place n : ℕ) → is_key key ≡ false → step (secure_rules constants) state who (Part key place n) ≡ refuses state error.InvalidKey
  bad_part place n bad = simp (running, bad) refl

  module _ (good : is_key key ≡ true) where
    pub info_held : (flags : ℕ) (value : List ℕ) → view constants state key ≡ Held flags value
        → step (secure_rules constants) state who (Info key) ≡ record { state = state; reply = Facts (length value) (record { bits = flags }) }
    info_held flags value seen = simp (running, good, seen) refl

    pub part_held : (place n flags : ℕ) (value : List ℕ) → view constants state key ≡ Held flags value → nat_lt (length value) place ≡ false
        → step (secure_rules constants) state who (Part key place n) ≡ record { state = state; reply = Value (take n (drop place value)) }
    part_held place n flags value seen within = simp (running, good, seen, within) refl

    pub part_beyond : (place n flags : ℕ) (value : List ℕ) → view constants state key ≡ Held flags value → nat_lt (length value) place ≡ true
        → step (secure_rules constants) state who (Part key place n) ≡ refuses state error.InvalidSize
    part_beyond place n flags value seen beyond = simp (running, good, seen, beyond) refl

    info_refused : (seen : View) (e : KvError) → view constants state key ≡ seen → refusal_of seen ≡ Some e
        → LeadsTo (secure_rules constants) state (answered who (Info key) (Refused e)) state (kind_of (Refused e))
    info_refused Absent e is refused = subst (λ (f : KvError). LeadsTo (secure_rules constants) state (answered who (Info key) (Refused f)) state (kind_of (Refused f))) (one_of error.NotFound e refused) (simp (running, good, is) refl)
    info_refused AuthFailed e is refused = subst (λ (f : KvError). LeadsTo (secure_rules constants) state (answered who (Info key) (Refused f)) state (kind_of (Refused f))) (one_of error.AuthFailed e refused) (simp (running, good, is) refl)
    info_refused RollbackFailed e is refused = subst (λ (f : KvError). LeadsTo (secure_rules constants) state (answered who (Info key) (Refused f)) state (kind_of (Refused f))) (one_of error.RollbackFailed e refused) (simp (running, good, is) refl)
    info_refused (Held flags value) e is refused = absurd (cc)

    part_refused : (place n : ℕ) (seen : View) (e : KvError) → view constants state key ≡ seen → refusal_of seen ≡ Some e
        → LeadsTo (secure_rules constants) state (answered who (Part key place n) (Refused e)) state (kind_of (Refused e))
    part_refused place n Absent e is refused = subst (λ (f : KvError). LeadsTo (secure_rules constants) state (answered who (Part key place n) (Refused f)) state (kind_of (Refused f))) (one_of error.NotFound e refused) (simp (running, good, is) refl)
    part_refused place n AuthFailed e is refused = subst (λ (f : KvError). LeadsTo (secure_rules constants) state (answered who (Part key place n) (Refused f)) state (kind_of (Refused f))) (one_of error.AuthFailed e refused) (simp (running, good, is) refl)
    part_refused place n RollbackFailed e is refused = subst (λ (f : KvError). LeadsTo (secure_rules constants) state (answered who (Part key place n) (Refused f)) state (kind_of (Refused f))) (one_of error.RollbackFailed e refused) (simp (running, good, is) refl)
    part_refused place n (Held flags value) e is refused = absurd (cc)

    info_fails : LeadsTo (secure_rules constants) state (answered who (Info key) (Refused error.ReadFault)) state (kind_of (Refused error.ReadFault))
    info_fails = (running, simp good refl, refl)

    part_fails : (place n : ℕ) → LeadsTo (secure_rules constants) state (answered who (Part key place n) (Refused error.ReadFault)) state (kind_of (Refused error.ReadFault))
    part_fails place n = (running, simp good refl, refl)

    -- a read that gave nothing: a device failed, or the key is not held
    pub info_leads : (e : KvError) → (e ≡ error.ReadFault) ⊎ (refusal_of (view constants state key) ≡ Some e)
        → LeadsTo (secure_rules constants) state (answered who (Info key) (Refused e)) state (kind_of (Refused e))
    info_leads e (inl failed) = subst (λ (f : KvError). LeadsTo (secure_rules constants) state (answered who (Info key) (Refused f)) state (kind_of (Refused f))) (sym failed) info_fails
    info_leads e (inr refused) = info_refused (view constants state key) e refl refused

    pub part_leads : (place n : ℕ) (e : KvError) → (e ≡ error.ReadFault) ⊎ (refusal_of (view constants state key) ≡ Some e)
        → LeadsTo (secure_rules constants) state (answered who (Part key place n) (Refused e)) state (kind_of (Refused e))
    part_leads place n e (inl failed) = subst (λ (f : KvError). LeadsTo (secure_rules constants) state (answered who (Part key place n) (Refused f)) state (kind_of (Refused f))) (sym failed) (part_fails place n)
    part_leads place n e (inr refused) = part_refused place n (view constants state key) e refl refused
