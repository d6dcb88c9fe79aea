-- What runs of reads keep of a reader.
use Rattle.std.proofs.Common.{◌≡◌, ℕ, refl, sym, ◌∙◌, ap, subst, arith}
use Rattle.std.specs.Prelude.{Result, Ok, Err, IfErr, IsErrAnd, OnErr, OnOk}
use Rattle.base_core.specs.Counts.{Rose, counted}
use Rattle.kv_model.specs.declared.error.KvError.{KvError}
use Rattle.kv_model.specs.declared.error.KvError.TheVariants.{ReadFault, Corrupt}
use Rattle.ram_table.specs.Reader.{CountsStand, HasRead, IsRefusal, Keeps, ReaderState}

pub Keeps-refl : (s : ReaderState) → Keeps s s
Keeps-refl s = record {
  bound = refl;
  hash_bits = refl;
  keys = refl;
  read_faults = omega arith;
  steady = λ steady. steady;
  sound = λ sound. sound;
}

pub Keeps-trans : {a b c : ReaderState} → Keeps a b → Keeps b c → Keeps a c
Keeps-trans first second = record {
  bound = second.bound ∙ first.bound;
  hash_bits = second.hash_bits ∙ first.hash_bits;
  keys = second.keys ∙ first.keys;
  read_faults = omega (arith, first.read_faults, second.read_faults);
  steady = λ steady. second.steady (first.steady steady);
  sound = λ sound. second.sound (first.sound sound);
}

pub CountsStand-refl : (s : ReaderState) → CountsStand s s
CountsStand-refl s = record { of_faults = refl; of_refusals = refl }

pub CountsStand-trans : {a b c : ReaderState} → CountsStand a b → CountsStand b c → CountsStand a c
CountsStand-trans first second = record {
  of_faults = second.of_faults ∙ first.of_faults;
  of_refusals = second.of_refusals ∙ first.of_refusals;
}

rose_later : (x y z : ℕ) → y ≡ x → Rose y z → Rose x z
rose_later x y z same rose = subst (λ (n : ℕ). Rose n z) same rose

-- Some reads that were answered, and then a call.
module _ (a b c : ReaderState) (kept : Keeps a b) (stand : CountsStand a b) where
  refused_later : (e : KvError) → IsRefusal b c e → IsRefusal a c e
  refused_later ReadFault cause = (rose_later a.read_faults b.read_faults c.read_faults stand.of_faults cause.0, λ steady. cause.1 (kept.steady steady))
  refused_later (Corrupt stored computed) cause = (cause.0, sym kept.keys ∙ cause.1, cause.2 ∙ stand.of_faults)
  refused_later _ cause = absurd cause

  cause_later : {T : Type 0} (result : Result T KvError) → IfErr result (IsRefusal b c) → IfErr result (IsRefusal a c)
  cause_later (Ok x) cause = tt
  cause_later (Err e) cause = refused_later e cause

  answered_later : {T : Type 0} (result : Result T KvError) → OnOk result (CountsStand b c) → OnOk result (CountsStand a c)
  answered_later (Ok x) answered = CountsStand-trans stand answered
  answered_later (Err e) answered = tt

  raised_later : {T : Type 0} (result : Result T KvError) → OnErr result (c.refusals ≡ counted b.refusals) → OnErr result (c.refusals ≡ counted a.refusals)
  raised_later (Ok x) raised = tt
  raised_later (Err e) raised = raised ∙ ap counted stand.of_refusals

  pub read_later : {T : Type 0} (result : Result T KvError) → HasRead b c result → HasRead a c result
  read_later result read = record {
    kept = Keeps-trans kept read.kept;
    answered = answered_later result read.answered;
    refused = raised_later result read.refused;
    cause = cause_later result read.cause;
  }

pub all_answered : {T : Type 0} {a b : ReaderState} (x : T) → Keeps a b → CountsStand a b → HasRead {T = T} a b (Ok x)
all_answered x kept stand = record { kept = kept; answered = stand; refused = tt; cause = tt }

-- A refusal that is handed on.
pub refusal_handed : {T U : Type 0} {a b : ReaderState} (result : Result U KvError) (e : KvError) → IsErrAnd result (λ x. x ≡ e) → HasRead {T = T} a b (Err e) → HasRead a b result
refusal_handed (Ok x) e is read = absurd is
refusal_handed {U = U} {a = a} {b = b} (Err x) e is read =
    subst (λ (k : KvError). HasRead {T = U} a b (Err k)) (sym is) (record { kept = read.kept; answered = tt; refused = read.refused; cause = read.cause })
