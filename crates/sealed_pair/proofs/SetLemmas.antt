-- What a set shows, and the finish of a set.
use Rattle.std.proofs.Common.{◌≡◌, ℕ, ◌-◌, ◌<◌, ◌≤◌, ◌^◌, Bool, true, false, not, ◌&&◌, ◌==◌, nat_lt, List, length, Option, Some, None, IfSome, MatchBool, refl, sym, ◌∙◌, ap, subst, arith, true≢false}
use Rattle.std.specs.Prelude.{if◌then◌else◌, is_some, IsTrue}
use Rattle.std.specs.Option.{option_map_or}
use Rattle.std.specs.FinMap.{get}
use Rattle.std.proofs.lemmas.Bool.{eqb-true}
use Rattle.kv_model.specs.declared.error.KvError.{KvError}
use Rattle.kv_model.specs.declared.error.KvError.TheVariants as error
use Rattle.kv_model.specs.declared.call.Reply.TheVariants.{Done, Refused}
use Rattle.kv_model.specs.Checks.{first_refusal}
use Rattle.kv_model.specs.Constants.{Constants}
use Rattle.kv_model.specs.FlaggedMap.{Stored}
use Rattle.kv_model.specs.Flags.{is_mirrored, is_secure_flags}
use Rattle.kv_model.specs.Keys.{is_key}
use Rattle.kv_model.specs.Limits.{IsActive, IsSet}
use Rattle.kv_model.specs.Operations.{Set, Start, Finish}
use Rattle.kv_model.specs.Rows.{owns_set, set_owner}
use Rattle.kv_model.specs.Rules.{refused_or, refuses}
use Rattle.kv_model.specs.StoreState.{Maps, StoreState, OpenSet, maps_of, prior_in, tag_in}
use Rattle.kv_model.proofs.LimitLemmas.{at_most, is_not, unrefused}
use Rattle.secure_record.specs.declared.metadata.Revision.TheVariants.{Second}
use Rattle.secure_record.specs.Metadata.{HasPrior}
use Rattle.secure_record.specs.Sealed.{seal, sealed_vector}
use Rattle.secure_record.specs.Unseal.{unseal}
use Rattle.sealed_pair.specs.declared.limits.TheConstants.{MAX_SECURE_VALUE}
use Rattle.sealed_pair.specs.Sealing.{is_numbered, secure_of}
use Rattle.sealed_pair.specs.SecureStep.{finished, finished_record, is_protected, is_spent, needed, needed_beside, secure_checks, secure_effect, secure_rules, secure_step, set_record, unmirrors}
use Rattle.sealed_pair.specs.Limits.{secure_starts}
use Rattle.sealed_pair.specs.Laws.{ShowsSet}
use Rattle.sealed_pair.proofs.ViewLemmas.{others_stay, stored_held}

-- what is sealed is opened
abbrev pub SealsOpen : Type 0
SealsOpen = (root key : List ℕ) (flags iv : ℕ) (prior : Option (List ℕ)) (value : List ℕ)
    → IsTrue (is_secure_flags flags) → iv < 2 ^ 64 → HasPrior Second prior → length value ≤ 65536
    → unseal root key (seal root key flags iv prior value) ≡ Some (record { flags = flags; vector = sealed_vector flags iv; value = value })

-- ---- what the refusals let through

first_false : (a b : Bool) → a && b ≡ false → a ≡ true → b ≡ false
first_false true b h is = h
first_false false b h is = absurd (true≢false (sym is))

lacks_tag : (found : Option Stored) (mirrored : Bool) → is_some found && not mirrored ≡ false → mirrored ≡ false → found ≡ None
lacks_tag None mirrored h is = refl
lacks_tag (Some tag) true h is = absurd (true≢false is)
lacks_tag (Some tag) false h is = absurd (true≢false h)

-- a set or a start that is not refused
pub record MaySet (constants : Constants) (state : StoreState) (key : List ℕ) (size flags : ℕ) : Type 0 where
  pub secure : IsTrue (is_secure_flags flags)
  pub most : size ≤ MAX_SECURE_VALUE
  pub none_open : is_some state.open_set ≡ false
  pub free : is_protected constants state key ≡ false
  pub lacks : is_mirrored flags ≡ false → get state.rollback key ≡ None
  pub unspent : is_spent constants state flags ≡ false
  pub room : needed constants state key size ≤ constants.room
  pub room_beside : is_mirrored flags ≡ true → needed_beside constants state key ≤ (secure_of constants).room

module _ (constants : Constants) (state : StoreState) (who : ℕ) where
  pub may_set : (key : List ℕ) (size flags : ℕ) → first_refusal (secure_checks constants state who (Start key size flags)) ≡ None → MaySet constants state key size flags
  may_set key size flags none =
      let room : ℕ = (secure_of constants).room in
      let named = unrefused (not (is_key key)) error.InvalidKey _ none in
      let flagged = unrefused (not (is_secure_flags flags)) error.InvalidFlags _ named.1 in
      let sized = unrefused (nat_lt MAX_SECURE_VALUE size) error.InvalidSize _ flagged.1 in
      let not_own = unrefused (owns_set state who) error.SetOpen _ sized.1 in
      let other = unrefused (is_some state.open_set) (error.Busy (set_owner state who)) _ not_own.1 in
      let free = unrefused (is_protected constants state key) error.WriteProtected _ other.1 in
      let mirrors = unrefused (unmirrors constants state key flags) error.InvalidFlags _ free.1 in
      let unspent = unrefused (is_spent constants state flags) error.IvSpent _ mirrors.1 in
      let fits = unrefused (nat_lt constants.room (needed constants state key size)) (error.MediaFull (needed constants state key size) constants.room) _ unspent.1 in
      let beside = unrefused (is_mirrored flags && nat_lt room (needed_beside constants state key)) (error.MediaFull (needed_beside constants state key) room) _ fits.1 in
      record {
        secure = is_not (is_secure_flags flags) flagged.0;
        most = at_most MAX_SECURE_VALUE size sized.0;
        none_open = other.0;
        free = free.0;
        lacks = lacks_tag (get state.rollback key) (is_mirrored flags) mirrors.0;
        unspent = unspent.0;
        room = at_most constants.room (needed constants state key size) fits.0;
        room_beside = λ is. at_most room (needed_beside constants state key) (first_false (is_mirrored flags) _ beside.0 is);
      }

-- ---- the prior and the vector

pub sixteen : (stored : Stored) (b : Bool) → (length stored.bytes == 16) ≡ b → HasPrior Second (if b then Some stored.bytes else None)
sixteen stored true is = (refl, eqb-true (length stored.bytes) 16 is)
sixteen stored false is = tt

tag_prior : (found : Option Stored) → HasPrior Second (tag_in found)
tag_prior None = tt
tag_prior (Some stored) = sixteen stored (length stored.bytes == 16) refl

pub some_prior : (mirrored : Bool) (found : Option Stored) → HasPrior Second (if mirrored then tag_in found else None)
some_prior true found = tag_prior found
some_prior false found = tt

pub small_vector : (numbered : Bool) (n : ℕ) → n < 2 ^ 64 → (if numbered then n else 0) < 2 ^ 64
small_vector true n small = small
small_vector false n small = omega arith

-- ---- the state after them

module _ (opens : SealsOpen) (constants : Constants) (state : StoreState) (small : state.next_vector < 2 ^ 64) where
  abbrev root : List ℕ
  root = (secure_of constants).root

  pub set_opens : (key value : List ℕ) (flags : ℕ) → MaySet constants state key (length value) flags
      → unseal root key (set_record constants state key value flags)
      ≡ Some (record { flags = flags; vector = sealed_vector flags (if is_numbered flags then state.next_vector else 0); value = value })
  set_opens key value flags may =
      opens root key flags (if is_numbered flags then state.next_vector else 0) (prior_in state.rollback flags key) value may.secure
      (small_vector (is_numbered flags) state.next_vector small) (some_prior (is_mirrored flags) (get state.rollback key)) (omega (arith, may.most))

  set_granted : (who : ℕ) (key value : List ℕ) (flags : ℕ) → first_refusal (secure_checks constants state who (Set key value flags)) ≡ None
      → ShowsSet constants state (secure_effect constants state who (Set key value flags)).state key flags value
  set_granted who key value flags none =
      let may = may_set constants state who key (length value) flags none in
      let bytes : List ℕ = set_record constants state key value flags in
      record {
        held = stored_held root (maps_of state) key bytes _ (set_opens key value flags may) may.lacks;
        others = λ other differs. others_stay root (maps_of state) key other flags bytes differs;
      }

  refused_is_not_done : (e : KvError) → Refused e ≡ Done → ⊥
  refused_is_not_done e h = cc h

  set_done : (who : ℕ) (key value : List ℕ) (flags : ℕ) (stopped : Bool) (found : Option KvError) → first_refusal (secure_checks constants state who (Set key value flags)) ≡ found
      → (if stopped then refuses state error.Stopped else refused_or (secure_rules constants) state who (Set key value flags) found).reply ≡ Done
      → ShowsSet constants state (if stopped then refuses state error.Stopped else refused_or (secure_rules constants) state who (Set key value flags) found).state key flags value
  set_done who key value flags true found is done = absurd (refused_is_not_done error.Stopped done)
  set_done who key value flags false None is done = set_granted who key value flags is
  set_done who key value flags false (Some e) is done = absurd (refused_is_not_done e done)

  pub set_shows : (who : ℕ) (key value : List ℕ) (flags : ℕ) → (secure_step constants state who (Set key value flags)).reply ≡ Done
      → ShowsSet constants state (secure_step constants state who (Set key value flags)).state key flags value
  set_shows who key value flags done =
      set_done who key value flags (is_some state.doubt) (first_refusal (secure_checks constants state who (Set key value flags))) refl done

  -- ---- the finish of a set

  pub finish_opens : (n : ℕ) (set : OpenSet) → IsSet secure_starts state.rollback n set
      → unseal root set.key (finished_record constants state set)
      ≡ Some (record { flags = set.flags; vector = sealed_vector set.flags (if is_numbered set.flags then state.next_vector - 1 else 0); value = set.bytes })
  finish_opens n set valid =
      let less : state.next_vector - 1 < 2 ^ 64 = omega (arith, small) in
      let most : length set.bytes ≤ 65536 = omega (arith, valid.fed, valid.began.1) in
      opens root set.key set.flags (if is_numbered set.flags then state.next_vector - 1 else 0) set.prior set.bytes valid.began.0
      (small_vector (is_numbered set.flags) (state.next_vector - 1) less)
      (subst (HasPrior Second) (sym valid.prior) (some_prior (is_mirrored set.flags) (get state.rollback set.key))) most

  abbrev ended : Maps → StoreState
  ended maps = record state { primary = maps.primary; rollback = maps.rollback; open_set = None }

  finish_shown : (n : ℕ) (set : OpenSet) (is_remove : Bool) → set.is_remove ≡ is_remove → is_remove ≡ false
      → MatchBool is_remove (set.prior ≡ None) (IsSet secure_starts state.rollback n set)
      → ShowsSet constants state (ended (finished constants state set)) set.key set.flags set.bytes
  finish_shown n set true is ends valid = absurd (true≢false ends)
  finish_shown n set false is ends valid =
      let bytes : List ℕ = finished_record constants state set in
      subst (λ (b : Bool). ShowsSet constants state (ended (finished constants state (record set { is_remove = b }))) set.key set.flags set.bytes) (sym is)
      (record {
        held = stored_held root (maps_of state) set.key bytes _ (finish_opens n set valid) valid.not_mirrored;
        others = λ other differs. others_stay root (maps_of state) set.key other set.flags bytes differs;
      })

  finish_granted : (n : ℕ) (set : OpenSet) (found : Option OpenSet) → found ≡ Some set → set.is_remove ≡ false → IfSome found (IsActive secure_starts state.rollback n)
      → ShowsSet constants state (option_map_or (λ (s : OpenSet). ended (finished constants state s)) found state) set.key set.flags set.bytes
  finish_granted n set None is ends valid = absurd (cc is)
  finish_granted n set (Some s) is ends valid =
      let same : s ≡ set = cc is in
      subst (λ (x : OpenSet). ShowsSet constants state (ended (finished constants state s)) x.key x.flags x.bytes) same
      (finish_shown n s s.is_remove refl (ap (λ (x : OpenSet). x.is_remove) same ∙ ends) valid)

  finish_done : (n who : ℕ) (set : OpenSet) (stopped : Bool) (found : Option KvError) → IfSome state.open_set (IsActive secure_starts state.rollback n) → state.open_set ≡ Some set → set.is_remove ≡ false
      → (if stopped then refuses state error.Stopped else refused_or (secure_rules constants) state who Finish found).reply ≡ Done
      → ShowsSet constants state (if stopped then refuses state error.Stopped else refused_or (secure_rules constants) state who Finish found).state set.key set.flags set.bytes
  finish_done n who set true found active is ends done = absurd (refused_is_not_done error.Stopped done)
  finish_done n who set false None active is ends done = finish_granted n set state.open_set is ends active
  finish_done n who set false (Some e) active is ends done = absurd (refused_is_not_done e done)

  pub finish_shows : (n who : ℕ) (set : OpenSet) → IfSome state.open_set (IsActive secure_starts state.rollback n) → state.open_set ≡ Some set → set.is_remove ≡ false → (secure_step constants state who Finish).reply ≡ Done
      → ShowsSet constants state (secure_step constants state who Finish).state set.key set.flags set.bytes
  finish_shows n who set active is ends done = finish_done n who set (is_some state.doubt) (first_refusal (secure_checks constants state who Finish)) active is ends done
