-- Which sets are refused since a store holds the key write-once.
use Rattle.std.proofs.Common.{◌≡◌, ℕ, Bool, true, false, nat_lt, List, length, Option, Some, None, refl, sym, ◌∙◌, arith}
use Rattle.std.specs.Prelude.{if◌then◌else◌, ◌&&◌, ◌↔◌}
use mathlib.Core.Bool.{false≢true}
use Rattle.std.proofs.lemmas.Bool.Decides.{nat_tests}
use Rattle.kv_model.specs.declared.error.KvError.{KvError}
use Rattle.kv_model.specs.declared.error.KvError.TheVariants as error
use Rattle.kv_model.specs.declared.call.Reply.{Reply}
use Rattle.kv_model.specs.declared.call.Reply.TheVariants.{Refused}
use Rattle.kv_model.specs.Constants.{Constants}
use Rattle.kv_model.specs.Flags.{is_mirrored}
use Rattle.kv_model.specs.StoreState.{StoreState}
use Rattle.kv_model.specs.Operations.{Set}
use Rattle.kv_model.specs.Rules.{refused_or}
use Rattle.sealed_pair.specs.declared.limits.TheConstants.{MAX_SECURE_VALUE}
use Rattle.sealed_pair.specs.Sealing.{secure_of}
use Rattle.sealed_pair.specs.SecureStep.{is_protected, is_spent, needed, needed_beside, secure_rules, secure_step, unmirrors}
use Rattle.sealed_pair.specs.Laws.{MaySetNow}

abbrev as_reply : Reply → Reply
as_reply reply = reply

module _ (constants : Constants) (state : StoreState) (who : ℕ) (key value : List ℕ) (flags : ℕ) where
  -- the refusals behind that of a key that is write-once
  abbrev behind : Bool → Bool → Bool → Bool → Option KvError
  behind unmirroring spent full full_beside =
      if unmirroring then Some error.InvalidFlags else if spent then Some error.IvSpent
      else if full then Some (error.MediaFull (needed constants state key (length value)) constants.room)
      else if full_beside then Some (error.MediaFull (needed_beside constants state key) (secure_of constants).room) else None

  abbrev reply_of : Option KvError → Reply
  reply_of found = (refused_or (secure_rules constants) state who (Set key value flags) found).reply

  another : (a b c d : Bool) → reply_of (behind a b c d) ≡ Refused error.WriteProtected → ⊥
  another true b c d is = let same : as_reply (Refused error.InvalidFlags) ≡ as_reply (Refused error.WriteProtected) = is in absurd (cc)
  another false true c d is = let same : as_reply (Refused error.IvSpent) ≡ as_reply (Refused error.WriteProtected) = is in absurd (cc)
  another false false true d is =
      let same : as_reply (Refused (error.MediaFull (needed constants state key (length value)) constants.room)) ≡ as_reply (Refused error.WriteProtected) = is in absurd (cc)
  another false false false true is =
      let same : as_reply (Refused (error.MediaFull (needed_beside constants state key) (secure_of constants).room)) ≡ as_reply (Refused error.WriteProtected) = is in absurd (cc)
  another false false false false is = absurd (cc)

  decided : (protected : Bool) (rest : Option KvError) → (reply_of rest ≡ Refused error.WriteProtected → ⊥)
      → reply_of (if protected then Some error.WriteProtected else rest) ≡ Refused error.WriteProtected ↔ protected ≡ true
  decided true rest other = (λ is. refl, λ is. refl)
  decided false rest other = (λ is. absurd (other is), λ is. absurd (false≢true is))

  module _ (may : MaySetNow state key value flags) where
    abbrev rest : Option KvError
    rest = behind (unmirrors constants state key flags) (is_spent constants state flags) (nat_lt constants.room (needed constants state key (length value)))
        (is_mirrored flags && nat_lt (secure_of constants).room (needed_beside constants state key))

    short : nat_lt MAX_SECURE_VALUE (length value) ≡ false
    short = let most = may.most in grind (arith, nat_tests)

    reply_is : (secure_step constants state who (Set key value flags)).reply ≡ reply_of (if is_protected constants state key then Some error.WriteProtected else rest)
    reply_is = simp (may.running, may.valid, may.secure, short, may.no_set) refl

    pub refused_where_protected : ((secure_step constants state who (Set key value flags)).reply ≡ Refused error.WriteProtected) ↔ (is_protected constants state key ≡ true)
    refused_where_protected =
        let both = decided (is_protected constants state key) rest
        (another (unmirrors constants state key flags) (is_spent constants state flags) (nat_lt constants.room (needed constants state key (length value)))
        (is_mirrored flags && nat_lt (secure_of constants).room (needed_beside constants state key))) in
        (λ is. both.0 (sym reply_is ∙ is), λ is. reply_is ∙ both.1 is)
