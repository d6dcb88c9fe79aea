-- Stored bytes that are absorbed one piece after another.
use Rattle.std.proofs.Common.{◌≡◌, ℕ, ◌+◌, ◌-◌, ◌≤◌, List, [], ◌++◌, length, take, drop, refl, sym, ◌∙◌, ap, ap₂, subst, arith, append_assoc}
use Rattle.std.proofs.lemmas.List.{append-nil, drop-drop, drop-take, drop_at, length-append, take-append-drop, take-take, take_at}
use Rattle.kv_model.specs.declared.error.KvError.{KvError}
use Rattle.kv_model.specs.Constants.{Constants}
use Rattle.kv_model.specs.StoreState.{StoreState}
use Rattle.kv_model.specs.Rules.{Rules}
use Rattle.kv_model.specs.Kv.{KvState}
use Rattle.secure_record.specs.declared.metadata.Metadata.{Metadata}
use Rattle.secure_record.specs.Sealed.{opened}
use Rattle.secure_record.specs.States.{OpenState}
use Rattle.secure_record.specs.Streams.{HasOpened}
use Rattle.sealed_pair.specs.Reading.{HasRead, TellsPlain, part_at}
use Rattle.sealed_pair.specs.Absorbing.{Source, source, FailsToRead, HasAbsorbed, HasAbsorbedAll, HasSkipped}
use Rattle.secure_record.specs.Metadata.{metadata_size}
use Rattle.sealed_pair.proofs.PairLemmas.{read_then}

-- a plain store that was read tells the same state
pub still_plain : {rules_by : Constants → Rules} {old new : KvState} {state : StoreState} → HasRead old new → TellsPlain rules_by old state → TellsPlain rules_by new state
still_plain read tells = record { rules = tells.rules; told = read.state ∙ tells.told; running = tells.running }

take_parts : (xs : List ℕ) (n m : ℕ) → take n xs ++ take m (drop n xs) ≡ take (n + m) xs
take_parts xs n m =
    ap₂ (λ (a b : List ℕ). a ++ b) (sym (take-take n (n + m) xs (omega arith))) (sym (drop-take n m xs)) ∙ take-append-drop n (take (n + m) xs)

-- two parts, one behind the other
pub parts_joined : (bytes : List ℕ) (place n m : ℕ) → part_at bytes place n ++ part_at bytes (place + n) m ≡ part_at bytes place (n + m)
parts_joined bytes place n m =
    ap (λ (rest : List ℕ). take n (drop place bytes) ++ take m rest) (sym (drop-drop n place bytes)) ∙ take_parts (drop place bytes) n m

module _ (rules_by : Constants → Rules) (key : List ℕ) (old mid : KvState) where
  from : KvState → Source
  from s = source rules_by s key

  pub absorbed_more : {place : ℕ} {a b c : OpenState} {first second : List ℕ} → HasRead old mid
      → HasAbsorbed (source rules_by old key) place a b first → HasAbsorbed (source rules_by mid key) (place + length first) b c second
      → HasAbsorbed (source rules_by old key) place a c (first ++ second)
  absorbed_more {place} {a} {b} {c} {first} {second} read one two =
      let m : Metadata = a.metadata in
      let assoc : (front : List ℕ) → (front ++ one.bytes) ++ two.bytes ≡ front ++ (one.bytes ++ two.bytes) = λ front. append_assoc front one.bytes two.bytes in
      record {
        bytes = one.bytes ++ two.bytes;
        long = length-append one.bytes two.bytes ∙ ap₂ (λ (n k : ℕ). n + k) one.long two.long ∙ sym (length-append first second);
        left = omega (arith, one.left, two.left, length-append first second);
        metadata = two.metadata ∙ one.metadata;
        opened_on = λ root k front begun. subst (λ (l : List ℕ). HasOpened c root k l) (assoc front) (two.opened_on root k (front ++ one.bytes) (one.opened_on root k front begun));
        gives = λ root k front begun.
            let later = subst (λ (n : Metadata). opened root k n.flags n.vector ((front ++ one.bytes) ++ two.bytes) ≡ opened root k n.flags n.vector (front ++ one.bytes) ++ second)
            one.metadata (two.gives root k (front ++ one.bytes) (one.opened_on root k front begun)) in
            ap (opened root k m.flags m.vector) (sym (assoc front)) ∙ later ∙ ap (λ (l : List ℕ). l ++ second) (one.gives root k front begun)
            ∙ append_assoc (opened root k m.flags m.vector front) first second;
        told = λ value state tells there within.
            let total = length-append one.bytes two.bytes in
            let near = one.told value state tells there (omega (arith, within, total)) in
            let far = two.told value state (still_plain read tells) there (omega (arith, within, total, one.long)) in
            ap₂ (λ (x y : List ℕ). x ++ y) near (far ∙ ap (λ (k : ℕ). part_at value.bytes (place + k) (length two.bytes)) (sym one.long))
            ∙ parts_joined value.bytes place (length one.bytes) (length two.bytes) ∙ ap (part_at value.bytes place) (sym total);
      }

  pub skipped_none : (place : ℕ) (a : OpenState) → HasSkipped (source rules_by old key) place a a 0
  skipped_none place a = record {
    values = [];
    long = refl;
    absorbed = record {
      bytes = [];
      long = refl;
      left = omega arith;
      metadata = refl;
      opened_on = λ root k front begun. subst (λ (l : List ℕ). HasOpened a root k l) (sym (append-nil front)) begun;
      gives = λ root k front begun. ap (opened root k a.metadata.flags a.metadata.vector) (append-nil front) ∙ sym (append-nil (opened root k a.metadata.flags a.metadata.vector front));
      told = λ value state tells there within. refl;
    };
  }

  pub skipped_more : {place n m : ℕ} {a b c : OpenState} → HasRead old mid
      → HasSkipped (source rules_by old key) place a b n → HasSkipped (source rules_by mid key) (place + n) b c m → HasSkipped (source rules_by old key) place a c (n + m)
  skipped_more {place} {n} {m} {a} {b} {c} read one two = record {
    values = one.values ++ two.values;
    long = length-append one.values two.values ∙ ap₂ (λ (x y : ℕ). x + y) one.long two.long;
    absorbed = absorbed_more read one.absorbed (subst (λ (k : ℕ). HasAbsorbed (source rules_by mid key) (place + k) b c two.values) (sym one.long) two.absorbed);
  }

  -- what fails later failed here
  pub fails_later : (near far : ℕ) (e : KvError) → HasRead old mid → near ≤ far → FailsToRead (source rules_by mid key) near e → FailsToRead (source rules_by old key) far e
  fails_later near far e read most fails value state tells there within = fails value state (still_plain read tells) there (omega (arith, most, within))

-- what goes before, the part that is wanted and what comes after are all of a record
pub all_absorbed : (rules_by : Constants → Rules) (key : List ℕ) (old mid late : KvState) {a b c d : OpenState} {buf : List ℕ} (place offset size end : ℕ)
    → place ≡ metadata_size a.metadata.revision → size ≡ a.metadata.size → end ≡ offset + length buf → end ≤ size → HasRead old mid → HasRead mid late
    → HasSkipped (source rules_by old key) place a b offset → HasAbsorbed (source rules_by mid key) (place + offset) b c buf
    → HasSkipped (source rules_by late key) (place + end) c d (size - end) → HasAbsorbedAll (source rules_by old key) a d offset buf
all_absorbed rules_by key old mid late {a} {b} {c} {d} {buf} place offset size end place_is size_is end_is most first second one two three =
    let front = one.values ++ buf in
    let behind = three.values in
    let near = absorbed_more rules_by key old mid first one.absorbed (subst (λ (k : ℕ). HasAbsorbed (source rules_by mid key) (place + k) b c buf) (sym one.long) two) in
    let width : end ≡ length front = end_is ∙ ap (λ (k : ℕ). k + length buf) (sym one.long) ∙ sym (length-append one.values buf) in
    let all = absorbed_more rules_by key old late (read_then first second) near (subst (λ (k : ℕ). HasAbsorbed (source rules_by late key) (place + k) c d behind) width three.absorbed) in
    record {
      values = front ++ behind;
      whole = omega (arith, length-append front behind, three.long, width, size_is, most);
      absorbed = subst (λ (k : ℕ). HasAbsorbed (source rules_by old key) k a d (front ++ behind)) place_is all;
      part = sym (ap (λ (l : List ℕ). take (length buf) (drop offset l)) (append_assoc one.values buf behind)
          ∙ ap (take (length buf)) (drop_at one.values (buf ++ behind) offset one.long) ∙ take_at buf behind (length buf) refl);
    }
