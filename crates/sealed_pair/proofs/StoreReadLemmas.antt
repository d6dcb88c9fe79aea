-- What the reading calls of a secure store answer.
use Rattle.std.proofs.Common.{◌≡◌, ℕ, ◌+◌, ◌≤◌, true, false, nat_lt, List, [], length, take, Option, Some, None, Result, Ok, Err, IfOk, refl, sym, ◌∙◌, ap, subst, inl, inr, arith}
use Rattle.std.specs.Prelude.{is_some, IsTrue}
use mathlib.Core.Bool.{true≢false}
use Rattle.std.proofs.lemmas.Bool.Decides.{nat_tests}
use Rattle.std.proofs.lemmas.List.{take_all}
use Rattle.kv_model.specs.declared.error.KvError.{KvError}
use Rattle.kv_model.specs.declared.error.KvError.TheVariants as error
use Rattle.kv_model.specs.declared.call.Got.{Got}
use Rattle.kv_model.specs.declared.call.Reply.{Reply}
use Rattle.kv_model.specs.declared.call.Reply.TheVariants.{Value, Facts, Refused}
use Rattle.kv_model.specs.Constants.{Constants}
use Rattle.kv_model.specs.Flags.{is_mirrored}
use Rattle.kv_model.specs.Given.{IsGot, got_or}
use Rattle.kv_model.specs.Keys.{is_key}
use Rattle.kv_model.specs.StoreState.{StoreState}
use Rattle.kv_model.specs.Operations.{Info, Part}
use Rattle.kv_model.specs.Rules.{Outcome, Rules, step}
use Rattle.kv_model.specs.Kv.{Answers, IsCause, Kind, KvState, LeadsTo, answered, kind_of, may_end, Ruled, FailedRead, FailedWrite, Mismatched, Wanted}
use Rattle.kv_model.proofs.PerformLemmas.{info_reading, part_reading, step_stays}
use Rattle.secure_record.specs.declared.metadata.Metadata.{Metadata}
use Rattle.secure_record.specs.declared.metadata.Revision.{Revision}
use Rattle.secure_record.specs.declared.metadata.Revision.TheVariants.{First, Second}
use Rattle.secure_record.specs.Metadata.{HasPrior}
use Rattle.secure_record.specs.Sealed.{record_tag, stored}
use Rattle.secure_record.proofs.BodyLemmas.{length-stored}
use Rattle.sealed_pair.specs.declared.opening.Found.{Found}
use Rattle.sealed_pair.specs.Pair.{pair, pair_constants}
use Rattle.sealed_pair.specs.Reading.{HasRead, IsUnread, TellsPlain, WhereTold}
use Rattle.sealed_pair.specs.SecureStep.{secure_rules}
use Rattle.sealed_pair.specs.Store.{IsOwnValue, IsPlainStore, IsTagOf, Own, OwnsWhole, WithinOr, joined_by}
use Rattle.sealed_pair.specs.View.{view_of}
use Rattle.sealed_pair.specs.Viewing.{IsHeld, IsNoForeign, ViewsOr}
use Rattle.sealed_pair.proofs.PairLemmas.{read_answers, read_none, told_both}
use Rattle.sealed_pair.proofs.ReadStepLemmas.{bad_info, bad_part, info_held, info_leads, part_beyond, part_held, part_leads}
use Rattle.sealed_pair.proofs.RulesLemmas.{secure_are_rules}

pub none_of : {X : Type 0} (o : Option X) → is_some o ≡ false → o ≡ None
none_of None is = refl
none_of (Some x) is = absurd (true≢false is)

pub tells_plain : {rules_by : Constants → Rules} {s : KvState} (state : StoreState) → IsPlainStore rules_by s → s.known.state ≡ Some state → TellsPlain rules_by s state
tells_plain state plain told = record { rules = plain.rules (ap is_some told); told = told; running = none_of state.doubt (plain.running state told) }

pub plain_kept : {rules_by : Constants → Rules} {old new : KvState} → HasRead old new → IsPlainStore rules_by old → IsPlainStore rules_by new
plain_kept read plain = record {
  rules = λ told. plain.rules (sym (ap is_some read.state) ∙ told);
  running = λ state told. plain.running state (sym read.state ∙ told);
}

module _ (root : List ℕ) (own : Own) (u u' r r' : KvState) where
  abbrev constants : Constants
  constants = pair_constants root u.known.constants r.known.constants

  abbrev old : KvState
  old = pair root (joined_by own) u r

  abbrev new : KvState
  new = pair root (joined_by own) u' r'

  module _ (who : ℕ) (key : List ℕ) where
    pub part_answers : (place n : ℕ) (reply : Reply) → HasRead u u' → HasRead r r' → IsCause old.known new.known reply
        → IsTrue (may_end (Part key place n) (kind_of reply))
        → ((above below : StoreState) → u.known.state ≡ Some above → r.known.state ≡ Some below
        → LeadsTo (secure_rules constants) (joined_by own above below) (answered who (Part key place n) reply) (joined_by own above below) (kind_of reply))
        → Answers secure_rules old new (answered who (Part key place n) reply)
    part_answers place n reply one two cause may leads =
        read_answers root u u' r r' secure_rules (joined_by own) (answered who (Part key place n) reply) one two cause may
        (λ above below above_told below_told. record {
          primary = refl;
          rollback = refl;
          stays = step_stays (secure_rules constants) (secure_are_rules constants) (joined_by own above below) who key
              (part_reading (secure_rules constants) (secure_are_rules constants) (joined_by own above below) who key place n);
          leads = leads above below above_told below_told;
        })

    pub info_answers : (reply : Reply) → HasRead u u' → HasRead r r' → IsCause old.known new.known reply
        → IsTrue (may_end (Info key) (kind_of reply))
        → ((above below : StoreState) → u.known.state ≡ Some above → r.known.state ≡ Some below
        → LeadsTo (secure_rules constants) (joined_by own above below) (answered who (Info key) reply) (joined_by own above below) (kind_of reply))
        → Answers secure_rules old new (answered who (Info key) reply)
    info_answers reply one two cause may leads =
        read_answers root u u' r r' secure_rules (joined_by own) (answered who (Info key) reply) one two cause may
        (λ above below above_told below_told. record {
          primary = refl;
          rollback = refl;
          stays = step_stays (secure_rules constants) (secure_are_rules constants) (joined_by own above below) who key
              (info_reading (secure_rules constants) (secure_are_rules constants) (joined_by own above below) who key);
          leads = leads above below above_told below_told;
        })

    may_part : (place n : ℕ) (kind : Kind) → IsTrue (may_end (Info []) kind) → IsTrue (may_end (Part key place n) kind)
    may_part place n Ruled may = may
    may_part place n FailedRead may = may
    may_part place n FailedWrite may = may
    may_part place n Mismatched may = may
    may_part place n Wanted may = may

    may_info : (kind : Kind) → IsTrue (may_end (Info []) kind) → IsTrue (may_end (Info key) kind)
    may_info Ruled may = may
    may_info FailedRead may = may
    may_info FailedWrite may = may
    may_info Mismatched may = may
    may_info Wanted may = may

  module _ (by_above by_below : Constants → Rules) (plain_above : IsPlainStore by_above u) (plain_below : IsPlainStore by_below r)
      (key : List ℕ) (one : HasRead u u') (two : HasRead r r') where
    -- a read that is refused as the two stores show the key
    pub part_refused : (who place n : ℕ) (e : KvError) (offset : ℕ) (buf : List ℕ) → is_key key ≡ true → IsUnread old new e
        → WhereTold by_above u (λ above. WhereTold by_below r (λ below. ViewsOr (view_of root (record { primary = above.primary; rollback = below.primary }) key) (Err e) offset buf))
        → Answers secure_rules old new (answered who (Part key place n) (Refused e))
    part_refused who place n e offset buf good unread views =
        part_answers who key place n (Refused e) one two unread.cause (may_part who key place n (kind_of (Refused e)) unread.may_end)
        (λ above below above_told below_told.
        part_leads constants (joined_by own above below) who key refl good place n e
        (views above (tells_plain above plain_above above_told) below (tells_plain below plain_below below_told)))

    pub info_refused : (who : ℕ) (e : KvError) (offset : ℕ) (buf : List ℕ) → is_key key ≡ true → IsUnread old new e
        → WhereTold by_above u (λ above. WhereTold by_below r (λ below. ViewsOr (view_of root (record { primary = above.primary; rollback = below.primary }) key) (Err e) offset buf))
        → Answers secure_rules old new (answered who (Info key) (Refused e))
    info_refused who e offset buf good unread views =
        info_answers who key (Refused e) one two unread.cause (may_info who key (kind_of (Refused e)) unread.may_end)
        (λ above below above_told below_told.
        info_leads constants (joined_by own above below) who key refl good e
        (views above (tells_plain above plain_above above_told) below (tells_plain below plain_below below_told)))

    -- a key that is held
    module _ (found : Found) (offset : ℕ) (buf : List ℕ) (good : is_key key ≡ true)
        (views : WhereTold by_above u (λ above. WhereTold by_below r (λ below.
        ViewsOr (view_of root (record { primary = above.primary; rollback = below.primary }) key) (Ok found) offset buf))) where
      held_at : (above below : StoreState) → u.known.state ≡ Some above → r.known.state ≡ Some below
          → IsHeld (view_of root (record { primary = above.primary; rollback = below.primary }) key) offset found buf
      held_at above below above_told below_told = views above (tells_plain above plain_above above_told) below (tells_plain below plain_below below_told)

      within : (size : ℕ) (value : List ℕ) → size ≡ length value → offset ≤ size → nat_lt (length value) offset ≡ false
      within size value is most = grind (arith, nat_tests)

      beyond : (size : ℕ) (value : List ℕ) → size ≡ length value → size + 1 ≤ offset → nat_lt (length value) offset ≡ true
      beyond size value is more = grind (arith, nat_tests)

      pub part_given : (who : ℕ) → offset ≤ found.size → Answers secure_rules old new (answered who (Part key offset (length buf)) (Value (take found.read buf)))
      part_given who most =
          part_answers who key offset (length buf) (Value (take found.read buf)) one two tt refl
          (λ above below above_told below_told.
          let held = held_at above below above_told below_told in
          part_held constants (joined_by own above below) who key refl good offset (length buf) found.flags.bits held.value held.held (within found.size held.value held.gives.size most)
          ∙ ap (λ (l : List ℕ). record { state = joined_by own above below; reply = Value l }) (sym held.gives.bytes))

      pub part_too_far : (who : ℕ) → found.size + 1 ≤ offset → Answers secure_rules old new (answered who (Part key offset (length buf)) (Refused error.InvalidSize))
      part_too_far who more =
          part_answers who key offset (length buf) (Refused error.InvalidSize) one two tt refl
          (λ above below above_told below_told.
          let held = held_at above below above_told below_told in
          part_beyond constants (joined_by own above below) who key refl good offset (length buf) found.flags.bits held.value held.held (beyond found.size held.value held.gives.size more))

      facts_at : (above below : StoreState) → u.known.state ≡ Some above → r.known.state ≡ Some below → (who : ℕ)
          → step (secure_rules constants) (joined_by own above below) who (Info key) ≡ record { state = joined_by own above below; reply = Facts found.size found.flags }
      facts_at above below above_told below_told who =
          let held = held_at above below above_told below_told in
          info_held constants (joined_by own above below) who key refl good found.flags.bits held.value held.held
          ∙ ap (λ (n : ℕ). record { state = joined_by own above below; reply = Facts n found.flags }) (sym held.gives.size)

      pub facts_given : (who : ℕ) → Answers secure_rules old new (answered who (Info key) (Facts found.size found.flags))
      facts_given who =
          info_answers who key (Facts found.size found.flags) one two tt refl (λ above below above_told below_told. facts_at above below above_told below_told who)

      pub is_got : (n : ℕ) → found.read ≤ n → IsGot secure_rules old key n (record { flags = found.flags; size = found.size; read = found.read })
      is_got n fits = record {
        fits = fits;
        facts = λ before is.
            let told = told_both (joined_by own) u.known.state r.known.state before is in
            subst (λ (s : StoreState). (step (secure_rules constants) s 0 (Info key)).reply ≡ Facts found.size found.flags) (sym told.joined)
            (ap (λ (o : Outcome). o.reply) (facts_at told.above told.below told.above_told told.below_told 0));
      }

-- ---- no foreign value

tag_of_metadata : (root key : List ℕ) (m : Metadata) (r : Revision) (prior : Option (List ℕ)) (value held : List ℕ) → m.revision ≡ r → m.prior ≡ prior → HasPrior r prior
    → m.size ≡ length value → record_tag root key m (stored root key m.flags m.vector value) ≡ held → IsTagOf root key m.flags value held
tag_of_metadata root key m Second prior value held is prior_is has size right = (
  m.vector,
  inl (
    m.prior,
    ap (λ (n : Metadata). record_tag root key n (stored root key m.flags m.vector value))
        (λ i. record { revision = sym is i; size = (length-stored root key m.flags m.vector value ∙ sym size) i; flags = m.flags; vector = m.vector; prior = m.prior }) ∙ right,
  ),
)
tag_of_metadata root key m First None value held is prior_is has size right = (
  m.vector,
  inr (ap (λ (n : Metadata). record_tag root key n (stored root key m.flags m.vector value))
      (λ i. record { revision = sym is i; size = (length-stored root key m.flags m.vector value ∙ sym size) i; flags = m.flags; vector = m.vector; prior = sym prior_is i }) ∙ right),
)
tag_of_metadata root key m First (Some prior) value held is prior_is has size right = let same : First ≡ Second = has.0 in absurd (cc)

pub own_value : (rules_by : Constants → Rules) (r : KvState) (root key : List ℕ) (found : Found) (buf : List ℕ) (below : StoreState) → IsPlainStore rules_by r
    → IsNoForeign rules_by r root key 0 found buf → found.read ≡ found.size → is_mirrored found.flags.bits ≡ true → r.known.state ≡ Some below
    → IsOwnValue root key below (record { flags = found.flags; size = found.size; read = found.read }) buf
own_value rules_by r root key found buf below plain foreign whole mirrored told =
    let at = foreign.mirrored below (tells_plain below plain told) mirrored in
    let a = foreign.authentic in
    let m = a.metadata in
    let most : length a.value ≤ length buf = omega (arith, a.gives.size, a.gives.read, whole) in
    let bytes : take found.read buf ≡ a.value = a.gives.bytes ∙ take_all (length buf) a.value most in
    record {
      held = at.stored;
      there = at.there;
      tag_is = subst (λ (f : ℕ). IsTagOf root key f (take found.read buf) at.stored.bytes) (sym a.flags)
          (subst (λ (v : List ℕ). IsTagOf root key m.flags v at.stored.bytes) (sym bytes)
          (tag_of_metadata root key m m.revision m.prior a.value at.stored.bytes refl refl a.valid.prior a.size (sym a.tag ∙ sym at.bytes)));
    }

pub owns_whole : (rules_by : Constants → Rules) (r : KvState) (root key : List ℕ) (offset : ℕ) (found : Found) (buf : List ℕ) → IsPlainStore rules_by r
    → IsNoForeign rules_by r root key offset found buf → OwnsWhole root key r offset (record { flags = found.flags; size = found.size; read = found.read }) buf
owns_whole rules_by r root key offset found buf plain foreign is whole mirrored below told =
    own_value rules_by r root key found buf below plain (subst (λ (o : ℕ). IsNoForeign rules_by r root key o found buf) is foreign) whole mirrored told

-- ---- bytes that are no key

pub part_bad : (root : List ℕ) (own : Own) (u r : KvState) (who : ℕ) (key : List ℕ) (place n : ℕ) (e : KvError) → (e ≡ error.InvalidKey) × (is_key key ≡ false)
    → Answers secure_rules (pair root (joined_by own) u r) (pair root (joined_by own) u r) (answered who (Part key place n) (Refused e))
part_bad root own u r who key place n e bad =
    subst (λ (f : KvError). Answers secure_rules (pair root (joined_by own) u r) (pair root (joined_by own) u r) (answered who (Part key place n) (Refused f))) (sym bad.0)
    (part_answers root own u u r r who key place n (Refused error.InvalidKey) (read_none u) (read_none r) tt refl
    (λ above below above_told below_told. bad_part (constants root own u u r r) (joined_by own above below) who key refl place n bad.1))

pub info_bad : (root : List ℕ) (own : Own) (u r : KvState) (who : ℕ) (key : List ℕ) (e : KvError) → (e ≡ error.InvalidKey) × (is_key key ≡ false)
    → Answers secure_rules (pair root (joined_by own) u r) (pair root (joined_by own) u r) (answered who (Info key) (Refused e))
info_bad root own u r who key e bad =
    subst (λ (f : KvError). Answers secure_rules (pair root (joined_by own) u r) (pair root (joined_by own) u r) (answered who (Info key) (Refused f))) (sym bad.0)
    (info_answers root own u u r r who key (Refused error.InvalidKey) (read_none u) (read_none r) tt refl
    (λ above below above_told below_told. bad_info (constants root own u u r r) (joined_by own above below) who key refl bad.1))

-- ---- what is read of a record that was found

module _ (root : List ℕ) (own : Own) (u u' r r' : KvState) (by_above by_below : Constants → Rules) (plain_above : IsPlainStore by_above u) (plain_below : IsPlainStore by_below r)
    (key : List ℕ) (one : HasRead u u') (two : HasRead r r') (found : Found) (offset n : ℕ) (buf : List ℕ) (long : length buf ≡ n) (good : is_key key ≡ true)
    (views : WhereTold by_above u (λ above. WhereTold by_below r (λ below.
    ViewsOr (view_of root (record { primary = above.primary; rollback = below.primary }) key) (Ok found) offset buf))) where
  pub part_by : (result : Result Got KvError) → WithinOr offset found result → (who : ℕ)
      → Answers secure_rules (pair root (joined_by own) u r) (pair root (joined_by own) u' r') (answered who (Part key offset n) (got_or result buf))
  part_by (Ok got) within who =
      subst (λ (m : ℕ). Answers secure_rules (pair root (joined_by own) u r) (pair root (joined_by own) u' r') (answered who (Part key offset m) (Value (take got.read buf)))) long
      (subst (λ (k : ℕ). Answers secure_rules (pair root (joined_by own) u r) (pair root (joined_by own) u' r') (answered who (Part key offset (length buf)) (Value (take k buf)))) (ap (λ (g : Got). g.read) (sym within.1))
      (part_given root own u u' r r' by_above by_below plain_above plain_below key one two found offset buf good views who within.0))
  part_by (Err e) within who =
      subst (λ (m : ℕ). Answers secure_rules (pair root (joined_by own) u r) (pair root (joined_by own) u' r') (answered who (Part key offset m) (Refused e))) long
      (subst (λ (f : KvError). Answers secure_rules (pair root (joined_by own) u r) (pair root (joined_by own) u' r') (answered who (Part key offset (length buf)) (Refused f))) (sym within.1)
      (part_too_far root own u u' r r' by_above by_below plain_above plain_below key one two found offset buf good views who within.0))

  pub got_by : (result : Result Got KvError) → WithinOr offset found result → found.read ≤ n → IfOk result (IsGot secure_rules (pair root (joined_by own) u r) key n)
  got_by (Ok got) within fits =
      subst (IsGot secure_rules (pair root (joined_by own) u r) key n) (sym within.1)
      (is_got root own u u' r r' by_above by_below plain_above plain_below key one two found offset buf good views n fits)
  got_by (Err e) within fits = tt

  pub owns_by : (result : Result Got KvError) → WithinOr offset found result → IsNoForeign by_below r root key offset found buf
      → IfOk result (λ got. OwnsWhole root key r offset got buf)
  owns_by (Ok got) within foreign = subst (λ (g : Got). OwnsWhole root key r offset g buf) (sym within.1) (owns_whole by_below r root key offset found buf plain_below foreign)
  owns_by (Err e) within foreign = tt

-- what was read stays what it is where only bytes behind it change
pub owns_still : (root key : List ℕ) (r : KvState) (offset : ℕ) (got : Got) (old new : List ℕ) → take got.read new ≡ take got.read old
    → OwnsWhole root key r offset got old → OwnsWhole root key r offset got new
owns_still root key r offset got before after same owns is whole mirrored below told =
    let own = owns is whole mirrored below told in
    record {
      held = own.held;
      there = own.there;
      tag_is = subst (λ (l : List ℕ). IsTagOf root key got.flags.bits l own.held.bytes) (sym same) own.tag_is;
    }
