-- The calls on iterators are calls of a plain store.
use Rattle.std.proofs.Common.{◌≡◌, ℕ, Bool, true, false, List, inl, inr, refl, sym, ◌∙◌, ap, subst}
use Rattle.std.specs.Prelude.{if◌then◌else◌, not, Option, Some, None, Result, Ok, Err, IfErr, OnOk, OnErr}
use Rattle.std.specs.Option.{unwrap_or}
use Rattle.std.specs.FinMap as map
use Rattle.flash_core.proofs.KeptLaws.{OnlyReads-refl}
use Rattle.kv_model.specs.declared.call.Reply.TheVariants.{Done, End, Found, Refused}
use Rattle.kv_model.specs.declared.error.KvError.{KvError}
use Rattle.kv_model.specs.declared.error.KvError.TheVariants.{InvalidKey, Memory, NoIterator, TooManyIterators}
use Rattle.kv_model.specs.Constants.{Constants}
use Rattle.kv_model.specs.Given.{done_or}
use Rattle.kv_model.specs.Keys.{is_prefix}
use Rattle.kv_model.specs.Kv.{Answers, Ruled, answered, kind_of}
use Rattle.kv_model.proofs.PerformLemmas.{refused_follows}
use Rattle.kv_model.specs.NextKey.{IsNext, next_key}
use Rattle.kv_model.specs.Operations.{Next, OpenIterator}
use Rattle.kv_model.specs.PlainStep.{plain_rules}
use Rattle.kv_model.specs.Rules.{refused_or}
use Rattle.kv_model.specs.StoreState.{Iterators, OpenSet, StoreState}
use Rattle.kv_model.proofs.NextKeyLemmas.{next_key_is_least}
use Rattle.kv_iters.specs.Calls.{advanced, has_no_place, position_of, start_refusal, started}
use Rattle.tdb_read.specs.Reads.{GivesNext, map_in}
use Rattle.tdb_read.specs.States.{constants_of, kv_state, state_in}
use Rattle.tdb_read.specs.Views.{HasOnlyRead, HasRead, LogPart, LogView}
use Rattle.tdb_read.proofs.AnswerLemmas.{refused, ruled, wanted}
use Rattle.tdb_read.proofs.GetLemmas.{only_read}
use Rattle.tdb_read.proofs.StepLemmas.{next_ends, next_gives, next_reads, next_refused}

abbrev after_iterators : LogView → Iterators → LogView
after_iterators old iterators = record { device = old.device; log = record old.log { iterators = iterators } }

same_error : (x y : KvError) → Some x ≡ Some y → x ≡ y
same_error x y same = cc

no_error : (x : KvError) → None ≡ Some x → ⊥
no_error x same = cc

-- what refuses a start is by the rules
start_kind : (a b : Bool) (x : KvError) → (if a then Some InvalidKey else if b then Some TooManyIterators else None) ≡ Some x → kind_of (Refused x) ≡ Ruled
start_kind true b x is = subst (λ (e : KvError). kind_of (Refused e) ≡ Ruled) (same_error InvalidKey x is) refl
start_kind false true x is = subst (λ (e : KvError). kind_of (Refused e) ≡ Ruled) (same_error TooManyIterators x is) refl
start_kind false false x is = absurd (no_error x is)

-- ---- opening

module _ (old : LogView) (iterators : Iterators) (set : Option OpenSet) (who n : ℕ) (prefix : List ℕ) where
  abbrev new : LogView
  new = after_iterators old iterators

  read : HasRead old new
  read = record { device = OnlyReads-refl old.device; log = refl }

  abbrev refusal : Option KvError
  refusal = start_refusal old.log.iterators who n prefix

  abbrev state : List ℕ → StoreState
  state image = state_in old.device.geometry old.log set image

  abbrev constants : Constants
  constants = constants_of old.device.geometry old.log

  abbrev Is : KvError → Type 0
  Is e = Answers plain_rules (kv_state old set) (kv_state new set) (answered who (OpenIterator n prefix) (Refused e))

  refused_by : (r : Option KvError) → refusal ≡ r → (e : KvError) → e ≡ unwrap_or r Memory → iterators ≡ old.log.iterators → Is e
  refused_by None none e is same = subst Is (sym is) (wanted old new read set who (OpenIterator n prefix) same refl)
  refused_by (Some x) some e is same = subst Is (sym is)
      (ruled old new read set (answered who (OpenIterator n prefix) (Refused x))
      (start_kind (not (is_prefix prefix)) (has_no_place old.log.iterators who n) x some)
      (λ image told. ap (refused_or (plain_rules constants) (state image) who (OpenIterator n prefix)) some
      ∙ λ i. record { state = state_in old.device.geometry (record old.log { iterators = sym same i }) set image; reply = Refused x })
      (λ s l. refused_follows constants s l (OpenIterator n prefix) x))

  pub open_answer : {T : Type 0} (result : Result T KvError) → OnOk result (refusal ≡ None) → OnOk result (iterators ≡ started old.log.iterators who n prefix)
      → IfErr result (λ error. error ≡ unwrap_or refusal Memory) → OnErr result (iterators ≡ old.log.iterators)
      → Answers plain_rules (kv_state old set) (kv_state new set) (answered who (OpenIterator n prefix) (done_or result))
  open_answer (Ok x) granted starts error kept =
      ruled old new read set (answered who (OpenIterator n prefix) Done) refl
      (λ image told. ap (refused_or (plain_rules constants) (state image) who (OpenIterator n prefix)) granted
      ∙ λ i. record { state = state_in old.device.geometry (record old.log { iterators = sym starts i }) set image; reply = Done })
      (λ s l. refl)
  open_answer (Err e) granted starts error kept = refused_by refusal refl e error kept

-- ---- the next key

abbrev use_of : Bool → Option KvError
use_of active = if not active then Some NoIterator else None

active_if : (b : Bool) → use_of b ≡ None → b ≡ true
active_if true is = refl
active_if false is = absurd (no_error NoIterator (sym is))

-- an iterator that is not active
record Inactive (b : Bool) (e : KvError) : Type 0 where
  pub none : b ≡ false
  pub is : e ≡ NoIterator

inactive_if : (b : Bool) (e : KvError) → use_of b ≡ Some e → Inactive b e
inactive_if true e is = absurd (no_error e is)
inactive_if false e is = record { none = refl; is = sym (same_error NoIterator e is) }

module _ (old mid : LogView) (only : HasOnlyRead old mid) (set : Option OpenSet) (who n : ℕ) where
  abbrev now : List ℕ → StoreState
  now image = state_in old.device.geometry old.log set image

  abbrev laws : Constants
  laws = constants_of old.device.geometry old.log

  abbrev active : Bool
  active = map.contains_key old.log.iterators (who, n)

  same : mid.log.iterators ≡ old.log.iterators
  same = ap (λ (l : LogPart). l.iterators) only.log

  stays : (image : List ℕ) → now image ≡ state_in old.device.geometry (record old.log { iterators = mid.log.iterators }) set image
  stays image = λ i. state_in old.device.geometry (record old.log { iterators = sym same i }) set image

  next_of : (found : Option (List ℕ)) (image : List ℕ) → IsNext old.log.hash_bits (map_in old.device.geometry old.log image) (position_of old.log.iterators who n) found
      → next_key old.log.hash_bits (map_in old.device.geometry old.log image) (position_of old.log.iterators who n) ≡ found
  next_of found image is = (next_key_is_least old.log.hash_bits (map_in old.device.geometry old.log image) (position_of old.log.iterators who n) found).0 is

  pub next_end : GivesNext old mid who n (Ok None) → Answers plain_rules (kv_state old set) (kv_state mid set) (answered who (Next n) End)
  next_end gives =
      ruled old mid (only_read only) set (answered who (Next n) End) refl
      (λ image told. next_ends laws (now image) who refl n (active_if active gives.0) (next_of None image (gives.1 image told)) ∙ λ i. record { state = stays image i; reply = End })
      (λ s l. refl)

  pub next_error : (e : KvError) → GivesNext old mid who n (Err e) → Answers plain_rules (kv_state old set) (kv_state mid set) (answered who (Next n) (Refused e))
  next_error e (inl is) =
      let none = inactive_if active e is in
      subst (λ (x : KvError). Answers plain_rules (kv_state old set) (kv_state mid set) (answered who (Next n) (Refused x))) (sym none.is)
      (ruled old mid (only_read only) set (answered who (Next n) (Refused NoIterator)) refl
      (λ image told. next_refused laws (now image) who refl n none.none ∙ λ i. record { state = stays image i; reply = Refused NoIterator })
      (λ s l. refl))
  next_error e (inr refusal) =
      refused old mid (only_read only) set who (Next n) e same refl refusal.1
      (λ image told. next_reads laws (now image) who refl n (active_if active refusal.0))

  module _ (iterators : Iterators) (key bytes : List ℕ) (moved : iterators ≡ advanced mid.log.iterators who n key) (bytes_is : bytes ≡ key) where
    advance : HasRead old (after_iterators mid iterators)
    advance = record { device = only.device; log = ap (λ (l : LogPart). record l { iterators = iterators }) only.log }

    to : advanced old.log.iterators who n key ≡ iterators
    to = (λ i. advanced (sym same i) who n key) ∙ sym moved

    pub next_found : GivesNext old mid who n (Ok (Some key))
        → Answers plain_rules (kv_state old set) (kv_state (after_iterators mid iterators) set) (answered who (Next n) (Found bytes))
    next_found gives =
        ruled old (after_iterators mid iterators) advance set (answered who (Next n) (Found bytes)) refl
        (λ image told.
        next_gives laws (now image) who refl n (active_if active gives.0) key (next_of (Some key) image (gives.1 image told))
        ∙ λ i. record { state = state_in old.device.geometry (record old.log { iterators = to i }) set image; reply = Found (sym bytes_is i) })
        (λ s l. refl)
