-- What the calls of a session keep, and what they answer while it is not mounted.
use Rattle.std.proofs.Common.{◌≡◌, ℕ, refl, ◌∙◌, ap, subst, arith}
use Rattle.std.specs.Prelude.{Some, None, is_some}
use Rattle.std.specs.Option.{ForSome}
use mathlib.Core.Bool.{false≢true}
use Rattle.flash_sim.specs.ChipState.{ChipState}
use Rattle.kv_model.specs.declared.call.Reply.TheVariants.{Refused}
use Rattle.kv_model.specs.declared.error.KvError.TheVariants.{Stopped}
use Rattle.kv_model.specs.Constants.{Constants}
use Rattle.kv_model.specs.Kv.{Answered, Answers, answered}
use Rattle.kv_model.specs.Operations.{Operation}
use Rattle.plain_store.proofs.CallLemmas.{some_is}
use Rattle.session_core.specs.declared.backing.Store.{Store}
use Rattle.session_core.specs.Backing.{session_rules, told_by, unmounted}

none_told : {X P : Type 0} (x : X) → None ≡ Some x → P
none_told x is = absurd (false≢true (ap is_some is))

-- a call keeps the number of hash bits
pub kept_bits : (bits : ℕ) (old new : Store) (call : Answered) → Answers session_rules (told_by old) (told_by new) call
    → ForSome (Some old) (λ s. (told_by s).known.constants.hash_bits ≡ bits) → ForSome (Some new) (λ s. (told_by s).known.constants.hash_bits ≡ bits)
kept_bits bits old new call answers same s is =
    subst (λ (x : Store). (told_by x).known.constants.hash_bits ≡ bits) (some_is is)
    (ap (λ (c : Constants). c.hash_bits) answers.does.keeps.constants ∙ same old refl)

-- a session that is not mounted refuses each call, and stands
pub refused : (bits : ℕ) (chip : ChipState) (who : ℕ) (operation : Operation) → Answers session_rules (unmounted bits chip) (unmounted bits chip) (answered who operation (Refused Stopped))
refused bits chip who operation = record {
  does = record {
    keeps = record {
      constants = refl;
      labels = refl;
      tells_state = refl;
      tells_log = refl;
      tells_moments = refl;
      read_faults = omega arith;
      write_faults = omega arith;
      sound = λ is. is;
    };
    cause = tt;
    steady = λ is. is;
    leads = λ before told. none_told before told;
    log = λ before told. none_told before told;
    cuts = λ tells. absurd (false≢true tells);
  };
  may_end = refl;
}
