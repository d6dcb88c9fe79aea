-- A remove, by which of the two stores hold the key.
use Rattle.std.proofs.Common.{◌≡◌, ◌⊎◌, ℕ, Bool, true, false, List, Option, Some, None, Ok, Err, refl, sym, ◌∙◌, ap, subst, inl, inr}
use Rattle.std.specs.Prelude.{◌&&◌, ◌||◌, [], is_none, IsTrue}
use Rattle.std.specs.Str.{bytes_eq}
use Rattle.std.specs.FinMap.{get, remove, same_map}
use Rattle.std.specs.Cmp.Lexicographic.{nat_list_cmp_total}
use Rattle.std.proofs.lemmas.Slice.Eq.{bytes_eq-Decides}
use mathlib.Core.Bool.{false≢true, true≢false}
use Rattle.kv_model.specs.declared.error.KvError.{KvError}
use Rattle.kv_model.specs.declared.error.KvError.TheVariants as error
use Rattle.kv_model.specs.declared.flags.Flags.{Flags}
use Rattle.kv_model.specs.declared.call.Reply.TheVariants.{Done, Refused}
use Rattle.kv_model.specs.Checks.{first_refusal, may_fail_reading, may_fail_writing}
use Rattle.kv_model.specs.Constants.{Constants}
use Rattle.kv_model.specs.FlaggedMap.{FlaggedMap, Stored}
use Rattle.kv_model.specs.Flags.{is_write_once}
use Rattle.kv_model.specs.Keys.{is_key}
use Rattle.kv_model.specs.StoreState.{StoreState}
use Rattle.kv_model.specs.Operations.{Info, Remove, RemoveStart}
use Rattle.kv_model.specs.PlainStep.{plain_rules}
use Rattle.kv_model.specs.Rules.{Outcome, Rules, refused_or, refuses, step}
use Rattle.kv_model.specs.Kv.{Answers, IsLawful, Kind, KvState, LeadsTo, answered, kind_of, may_end, Ruled, FailedRead, FailedWrite, Mismatched, Wanted}
use Rattle.kv_model.proofs.NextKeyLemmas.{bytes_same}
use Rattle.sealed_pair.specs.Going.{WhereStill}
use Rattle.sealed_pair.specs.Pair.{pair_constants}
use Rattle.sealed_pair.specs.Reading.{HasRead, IsUnread, TellsPlain, WhereTold}
use Rattle.sealed_pair.specs.Removing.{AtOnce, Begins, FlagsOr, HeldAs, Lacks, MayLose, Removal, is_once, removal}
use Rattle.sealed_pair.specs.Running.{HasRun, IsIdle, Parts, WhereRun, parts}
use Rattle.sealed_pair.specs.SecureStep.{secure_rules}
use Rattle.sealed_pair.specs.Shares.{NoShare}
use Rattle.sealed_pair.specs.Store.{idle_own, joined}
use Rattle.sealed_pair.proofs.BehindLemmas.{run_refused}
use Rattle.sealed_pair.proofs.GoingLemmas.{IsEither, as_reply, gone_fails, gone_more, gone_none}
use Rattle.sealed_pair.proofs.PairLemmas.{carries_above, carries_below, cause_carried, read_none}
use Rattle.sealed_pair.proofs.RemovingLemmas.{secure_may_read}
use Rattle.sealed_pair.proofs.RunningLemmas.{AreGoals, IsStill, run_above_fails, run_below_fails, run_done, runs_of}
use Rattle.sealed_pair.proofs.ViewLemmas.{get_gone, get_kept}

-- a map stays where it loses a key that it lacks
loses_at : (m : FlaggedMap) (key other : List ℕ) (same : Bool) → bytes_eq other key ≡ same → get m key ≡ None → get (remove m key) other ≡ get m other
loses_at m key other true is lacks =
    let one : other ≡ key = (bytes_eq-Decides other key).0 is in
    subst (λ (k : List ℕ). get (remove m key) k ≡ get m k) (sym one) (get_gone m key ∙ sym lacks)
loses_at m key other false is lacks = get_kept m key other (λ same. true≢false (sym ((bytes_eq-Decides other key).1 same) ∙ is))

pub remove_lacking : (m : FlaggedMap) (key : List ℕ) → get m key ≡ None → remove m key ≡ m
remove_lacking m key lacks = same_map nat_list_cmp_total bytes_same (remove m key) m (λ other. loses_at m key other (bytes_eq other key) refl lacks)

module _ (key : List ℕ) (good : is_key key ≡ true) (who : ℕ) where
  abbrev taken : StoreState → StoreState
  taken s = record s { primary = remove s.primary key }

  abbrev goal : StoreState → FlaggedMap
  goal s = remove s.primary key

  abbrev stays : StoreState → FlaggedMap
  stays s = s.primary

  takes : (c : Constants) (s : StoreState) → IsStill s → MayLose key s → step (plain_rules c) s who (Remove key) ≡ record { state = taken s; reply = Done }
  takes c s still may = simp (still.running, still.holds, good, may.there, may.free) refl

  taken_still : (s : StoreState) → IsStill s → IsStill (taken s)
  taken_still s still = record { running = still.running; holds = still.holds }

  above_removes : (c : Constants) (n : ℕ) (above below : StoreState) → MayLose key above → Lacks key below
      → step (secure_rules c) (joined n above below) who (Remove key) ≡ record { state = joined n (taken above) (taken below); reply = Done }
  above_removes c n above below one two = simp (good, one.there, two, one.free) refl

  below_removes : (c : Constants) (n : ℕ) (above below : StoreState) → Lacks key above → MayLose key below
      → step (secure_rules c) (joined n above below) who (Remove key) ≡ record { state = joined n (taken above) (taken below); reply = Done }
  below_removes c n above below one two = simp (good, one, two.there, two.free) refl

  above_may_write : (c : Constants) (n : ℕ) (above below : StoreState) → MayLose key above → Lacks key below
      → IsTrue (may_fail_writing ((secure_rules c).checks (joined n above below) who (Remove key)))
  above_may_write c n above below one two = simp (good, one.there, two, one.free) refl

  below_may_write : (c : Constants) (n : ℕ) (above below : StoreState) → Lacks key above → MayLose key below
      → IsTrue (may_fail_writing ((secure_rules c).checks (joined n above below) who (Remove key)))
  below_may_write c n above below one two = simp (good, one, two.there, two.free) refl

  still_joined : (n : ℕ) (above : StoreState) (below : StoreState) → Lacks key below → joined n above (taken below) ≡ joined n above below
  still_joined n above below lacks = ap (λ (m : FlaggedMap). joined n above (record below { primary = m })) (remove_lacking below.primary key lacks)

  still_joined_above : (n : ℕ) (above : StoreState) (below : StoreState) → Lacks key above → joined n (taken above) below ≡ joined n above below
  still_joined_above n above below lacks = ap (λ (m : FlaggedMap). joined n (record above { primary = m }) below) (remove_lacking above.primary key lacks)

  module _ (root : List ℕ) (n : ℕ) (by_above by_below : Constants → Rules) (u r : KvState) where
    abbrev old : Parts
    old = parts root n by_above u by_below r

    abbrev constants : Constants
    constants = pair_constants root u.known.constants r.known.constants

    -- ---- the primary store alone holds the key

    module _ (may : WhereStill by_above u (MayLose key)) (lacks : WhereStill by_below r (Lacks key)) where
      above_goals : WhereRun old (AreGoals (parts root n by_above u by_below r) who (Remove key) goal stays)
      above_goals above below idle idle_too = (
        ap (λ (o : Outcome). o.state.primary) (above_removes constants n above below (may above idle) (lacks below idle_too)),
        ap (λ (o : Outcome). o.state.rollback) (above_removes constants n above below (may above idle) (lacks below idle_too)) ∙ remove_lacking below.primary key (lacks below idle_too),
      )

      pub above_taken : (u' : KvState) → Answers by_above u u' (answered who (Remove key) Done) → HasRun old (parts root n by_above u' by_below r) (answered who (Remove key) Done)
      above_taken u' answers =
          run_done (parts root n by_above u by_below r) who (Remove key) goal stays above_goals (idle_own n) u' NoShare r NoShare taken (λ s. s)
          (gone_more by_above u u u' (λ s. s) taken goal who (Remove key) (gone_none by_above u goal) (λ s idle. takes u.known.constants s (runs_of idle) (may s idle))
          (λ s idle. inl refl) (λ s idle. inr refl) answers)
          (gone_none by_below r stays) (λ s idle. taken_still s (runs_of idle)) (λ s idle. runs_of idle)
          (λ above below idle idle_too. above_removes constants n above below (may above idle) (lacks below idle_too)
          ∙ ap (λ (s : StoreState). record { state = s; reply = Done }) (still_joined n (taken above) below (lacks below idle_too)))

      pub above_fails : (u' : KvState) → IsLawful by_above u' → IsLawful by_below r → (e : KvError) → Answers by_above u u' (answered who (Remove key) (Refused e))
          → HasRun old (parts root n by_above u' by_below r) (answered who (Remove key) (Refused e))
      above_fails u' lawful lawful_too e answers =
          run_above_fails (parts root n by_above u by_below r) who (Remove key) goal stays above_goals (idle_own n) u' NoShare r NoShare (record { who = who; operation = Remove key; error = e }) (λ kind ends. ends)
          (λ reads above below idle idle_too. secure_may_read key good who constants n above below)
          (λ above below idle idle_too. above_may_write constants n above below (may above idle) (lacks below idle_too))
          lawful lawful_too (λ s. s) (λ s. s) (λ prepares above below idle idle_too. refl)
          (gone_fails by_above u u u' (λ s. s) taken goal who (Remove key) (gone_none by_above u goal) (λ s idle. takes u.known.constants s (runs_of idle) (may s idle))
          (λ s idle. inl refl) (λ s idle. inr refl) e answers)
          (gone_none by_below r stays) (λ s idle. idle.running) (λ prepares s idle. runs_of idle) (λ s idle. runs_of idle)
          (λ above below idle idle_too x either.
          elim (subst (λ (o : Outcome). IsEither x above.primary o.state.primary) (takes u.known.constants above (runs_of idle) (may above idle)) either) [
            | inl same ↦ inl (same, refl)
            | inr gone ↦ inr (inl (gone ∙ sym (above_goals above below idle idle_too).0, refl))
          ])

    -- ---- the rollback store alone holds the key

    module _ (lacks : WhereStill by_above u (Lacks key)) (may : WhereStill by_below r (MayLose key)) where
      below_goals : WhereRun old (AreGoals (parts root n by_above u by_below r) who (Remove key) stays goal)
      below_goals above below idle idle_too = (
        ap (λ (o : Outcome). o.state.primary) (below_removes constants n above below (lacks above idle) (may below idle_too)) ∙ remove_lacking above.primary key (lacks above idle),
        ap (λ (o : Outcome). o.state.rollback) (below_removes constants n above below (lacks above idle) (may below idle_too)),
      )

      pub below_taken : (r' : KvState) → Answers by_below r r' (answered who (Remove key) Done) → HasRun old (parts root n by_above u by_below r') (answered who (Remove key) Done)
      below_taken r' answers =
          run_done (parts root n by_above u by_below r) who (Remove key) stays goal below_goals (idle_own n) u NoShare r' NoShare (λ s. s) taken
          (gone_none by_above u stays)
          (gone_more by_below r r r' (λ s. s) taken goal who (Remove key) (gone_none by_below r goal) (λ s idle. takes r.known.constants s (runs_of idle) (may s idle))
          (λ s idle. inl refl) (λ s idle. inr refl) answers)
          (λ s idle. runs_of idle) (λ s idle. taken_still s (runs_of idle))
          (λ above below idle idle_too. below_removes constants n above below (lacks above idle) (may below idle_too)
          ∙ ap (λ (s : StoreState). record { state = s; reply = Done }) (still_joined_above n above (taken below) (lacks above idle)))

      pub below_fails : (r' : KvState) → IsLawful by_above u → IsLawful by_below r' → (e : KvError) → Answers by_below r r' (answered who (Remove key) (Refused e))
          → HasRun old (parts root n by_above u by_below r') (answered who (Remove key) (Refused e))
      below_fails r' lawful lawful_too e answers =
          run_below_fails (parts root n by_above u by_below r) who (Remove key) stays goal below_goals (idle_own n) u NoShare r' NoShare (record { who = who; operation = Remove key; error = e }) (λ kind ends. ends)
          (λ reads above below idle idle_too. secure_may_read key good who constants n above below)
          (λ above below idle idle_too. below_may_write constants n above below (lacks above idle) (may below idle_too))
          lawful lawful_too (λ s. s) (λ s. s) (λ prepares above below idle idle_too. refl)
          (gone_none by_above u stays)
          (gone_fails by_below r r r' (λ s. s) taken goal who (Remove key) (gone_none by_below r goal) (λ s idle. takes r.known.constants s (runs_of idle) (may s idle))
          (λ s idle. inl refl) (λ s idle. inr refl) e answers)
          (λ s idle. idle.running) (λ s idle. runs_of idle) (λ prepares s idle. runs_of idle)
          (λ above below idle idle_too y either.
          elim (subst (λ (o : Outcome). IsEither y below.primary o.state.primary) (takes r.known.constants below (runs_of idle_too) (may below idle_too)) either) [
            | inl same ↦ inl (refl, same)
            | inr gone ↦ inr (inr (sym (below_goals above below idle idle_too).0, gone ∙ sym (below_goals above below idle idle_too).1))
          ])

-- where the primary store lacks the key the rollback store holds it
pub held_below : (key : List ℕ) (by : Constants → Rules) (r : KvState) (below : Option Flags) → is_none below ≡ false → WhereStill by r (HeldAs key below) → WhereStill by r (MayLose key)
held_below key by r None is held = absurd (true≢false is)
held_below key by r (Some flags) is held = held

pub below_held : (key : List ℕ) (by : Constants → Rules) (r : KvState) (above below : Option Flags) → above ≡ None → (is_none above && is_none below) ≡ false → WhereStill by r (HeldAs key below)
    → WhereStill by r (MayLose key)
below_held key by r above below none held =
    held_below key by r below (ap (λ (o : Option Flags). is_none o && is_none below) (sym none) ∙ held)

-- ---- the refusals of a remove

tells_idle : {by : Constants → Rules} {s : KvState} {state : StoreState} → IsIdle by s state → TellsPlain by s state
tells_idle idle = record { rules = idle.rules; told = idle.told; running = idle.running }

either_of : (x y : Bool) → (x || y) ≡ true → (x ≡ true) ⊎ ((x ≡ false) × (y ≡ true))
either_of true y is = inl refl
either_of false y is = inr (refl, is)

none_of_flags : (found : Option Stored) (o : Option Flags) → is_none o ≡ true → FlagsOr found (Ok o) → found ≡ None
none_of_flags found None is holds = holds
none_of_flags found (Some flags) is holds = absurd (false≢true is)

-- a remove that begins is refused as one at once
refused_alike : (c : Constants) (state : StoreState) (who : ℕ) (key : List ℕ) (e : KvError) (found : Option KvError)
    → refused_or (secure_rules c) state who (Remove key) found ≡ refuses state e → refused_or (secure_rules c) state who (RemoveStart key) found ≡ refuses state e
refused_alike c state who key e (Some f) is = is
refused_alike c state who key e None is = let never : as_reply Done ≡ as_reply (Refused e) = ap (λ (o : Outcome). o.reply) is in absurd (cc)

refused_too : (how : Removal) (c : Constants) (n : ℕ) (above below : StoreState) (who : ℕ) (key : List ℕ) (e : KvError)
    → step (secure_rules c) (joined n above below) who (Remove key) ≡ refuses (joined n above below) e
    → step (secure_rules c) (joined n above below) who (removal how key) ≡ refuses (joined n above below) e
refused_too AtOnce c n above below who key e is = is
refused_too Begins c n above below who key e is =
    refused_alike c (joined n above below) who key e (first_refusal ((secure_rules c).checks (joined n above below) who (Remove key))) is

may_read_too : (how : Removal) (c : Constants) (n : ℕ) (above below : StoreState) (who : ℕ) (key : List ℕ) → is_key key ≡ true
    → IsTrue (may_fail_reading ((secure_rules c).checks (joined n above below) who (removal how key)))
may_read_too AtOnce c n above below who key good = secure_may_read key good who c n above below
may_read_too Begins c n above below who key good = secure_may_read key good who c n above below

may_remove : (how : Removal) (key : List ℕ) (kind : Kind) → IsTrue (may_end (Info []) kind) → IsTrue (may_end (removal how key) kind)
may_remove AtOnce key Ruled may = may
may_remove AtOnce key FailedRead may = may
may_remove AtOnce key FailedWrite may = absurd (false≢true may)
may_remove AtOnce key Mismatched may = may
may_remove AtOnce key Wanted may = absurd (false≢true may)
may_remove Begins key Ruled may = may
may_remove Begins key FailedRead may = may
may_remove Begins key FailedWrite may = absurd (false≢true may)
may_remove Begins key Mismatched may = may
may_remove Begins key Wanted may = absurd (false≢true may)

module _ (key : List ℕ) (who : ℕ) where
  bad_step : (c : Constants) (n : ℕ) (above below : StoreState) → is_key key ≡ false
      → step (secure_rules c) (joined n above below) who (Remove key) ≡ refuses (joined n above below) error.InvalidKey
  bad_step c n above below bad = simp bad refl

  absent_step : (c : Constants) (n : ℕ) (above below : StoreState) → is_key key ≡ true → Lacks key above → Lacks key below
      → step (secure_rules c) (joined n above below) who (Remove key) ≡ refuses (joined n above below) error.NotFound
  absent_step c n above below good one two = simp (good, one, two) refl

  -- one of the two has flags that are write-once
  protected_step : (c : Constants) (n : ℕ) (above below : StoreState) (f g : Option Flags) → is_key key ≡ true → FlagsOr (get above.primary key) (Ok f) → FlagsOr (get below.primary key) (Ok g)
      → (is_none f && is_none g) ≡ false → (is_once f || is_once g) ≡ true
      → step (secure_rules c) (joined n above below) who (Remove key) ≡ refuses (joined n above below) error.WriteProtected
  protected_step c n above below None None good one two held once = absurd (true≢false held)
  protected_step c n above below None (Some g) good one two held once =
      let is : is_write_once two.stored.flags ≡ true = ap is_write_once (sym two.bits) ∙ once in simp (good, one, two.there, is) refl
  protected_step c n above below (Some f) None good one two held once =
      elim (either_of (is_write_once f.bits) false once) [
        | inl first ↦ let is : is_write_once one.stored.flags ≡ true = ap is_write_once (sym one.bits) ∙ first in simp (good, one.there, two, is) refl
        | inr never ↦ absurd (false≢true never.1)
      ]
  protected_step c n above below (Some f) (Some g) good one two held once =
      elim (either_of (is_write_once f.bits) (is_write_once g.bits) once) [
        | inl first ↦ let is : is_write_once one.stored.flags ≡ true = ap is_write_once (sym one.bits) ∙ first in simp (good, one.there, two.there, is) refl
        | inr second ↦
            let free : is_write_once one.stored.flags ≡ false = ap is_write_once (sym one.bits) ∙ second.0 in
            let is : is_write_once two.stored.flags ≡ true = ap is_write_once (sym two.bits) ∙ second.1 in
            simp (good, one.there, two.there, free, is) refl
      ]

  unread_leads : (how : Removal) (c : Constants) (n : ℕ) (above below : StoreState) (e : KvError) → is_key key ≡ true → e ≡ error.ReadFault
      → LeadsTo (secure_rules c) (joined n above below) (answered who (removal how key) (Refused e)) (joined n above below) (kind_of (Refused e))
  unread_leads how c n above below e good is =
      subst (λ (f : KvError). LeadsTo (secure_rules c) (joined n above below) (answered who (removal how key) (Refused f)) (joined n above below) (kind_of (Refused f))) (sym is)
      (refl, may_read_too how c n above below who key good, refl)

  -- what a store that was read holds
  held_at : (state : StoreState) (o : Option Flags) → is_once o ≡ false → FlagsOr (get state.primary key) (Ok o) → HeldAs key o state
  held_at state None free holds = holds
  held_at state (Some flags) free holds = record { stored = holds.stored; there = holds.there; free = ap is_write_once (sym holds.bits) ∙ free }

  pub held_as : (by : Constants → Rules) (s s' : KvState) (o : Option Flags) → is_once o ≡ false → HasRead s s' → WhereTold by s (λ state. FlagsOr (get state.primary key) (Ok o))
      → WhereStill by s' (HeldAs key o)
  held_as by s s' o free read holds state idle =
      held_at state o free (holds state (record { rules = idle.rules; told = sym read.state ∙ idle.told; running = idle.running }))

  module _ (how : Removal) (root : List ℕ) (n : ℕ) (by_above by_below : Constants → Rules) (u u' r r' : KvState) where
    pub remove_bad : is_key key ≡ false → HasRun (parts root n by_above u by_below r) (parts root n by_above u by_below r) (answered who (removal how key) (Refused error.InvalidKey))
    remove_bad bad =
        run_refused root n by_above by_below u u r r (read_none u) (read_none r) who (removal how key) error.InvalidKey (λ before after. tt) refl
        (λ above below idle idle_too. let c = pair_constants root u.known.constants r.known.constants in refused_too how c n above below who key error.InvalidKey (bad_step c n above below bad))

    pub remove_unread_above : is_key key ≡ true → HasRead u u' → (e : KvError) → IsUnread u u' e → WhereTold by_above u (λ state. FlagsOr (get state.primary key) (Err e))
        → HasRun (parts root n by_above u by_below r) (parts root n by_above u' by_below r) (answered who (removal how key) (Refused e))
    remove_unread_above good read e unread fails =
        run_refused root n by_above by_below u u' r r read (read_none r) who (removal how key) e
        (λ before after. cause_carried (carries_above root u u' r r before after (read_none r).keeps) e unread.cause) (may_remove how key (kind_of (Refused e)) unread.may_end)
        (λ above below idle idle_too. unread_leads how (pair_constants root u.known.constants r.known.constants) n above below e good (fails above (tells_idle idle)))

    module _ (good : is_key key ≡ true) (read : HasRead u u') (read_too : HasRead r r') where
      pub remove_unread_below : (e : KvError) → IsUnread r r' e → WhereTold by_below r (λ state. FlagsOr (get state.primary key) (Err e))
          → HasRun (parts root n by_above u by_below r) (parts root n by_above u' by_below r') (answered who (removal how key) (Refused e))
      remove_unread_below e unread fails =
          run_refused root n by_above by_below u u' r r' read read_too who (removal how key) e
          (λ before after. cause_carried (carries_below root u u' r r' before after read.keeps) e unread.cause) (may_remove how key (kind_of (Refused e)) unread.may_end)
          (λ above below idle idle_too. unread_leads how (pair_constants root u.known.constants r.known.constants) n above below e good (fails below (tells_idle idle_too)))

      module _ (f g : Option Flags) (holds : WhereTold by_above u (λ state. FlagsOr (get state.primary key) (Ok f))) (holds_too : WhereTold by_below r (λ state. FlagsOr (get state.primary key) (Ok g))) where
        pub remove_absent : is_none f ≡ true → is_none g ≡ true
            → HasRun (parts root n by_above u by_below r) (parts root n by_above u' by_below r') (answered who (removal how key) (Refused error.NotFound))
        remove_absent none none_too =
            run_refused root n by_above by_below u u' r r' read read_too who (removal how key) error.NotFound (λ before after. tt) refl
            (λ above below idle idle_too. let c = pair_constants root u.known.constants r.known.constants in
            refused_too how c n above below who key error.NotFound (absent_step c n above below good
            (none_of_flags _ f none (holds above (tells_idle idle))) (none_of_flags _ g none_too (holds_too below (tells_idle idle_too)))))

        pub remove_protected : (is_none f && is_none g) ≡ false → (is_once f || is_once g) ≡ true
            → HasRun (parts root n by_above u by_below r) (parts root n by_above u' by_below r') (answered who (removal how key) (Refused error.WriteProtected))
        remove_protected held once =
            run_refused root n by_above by_below u u' r r' read read_too who (removal how key) error.WriteProtected (λ before after. tt) refl
            (λ above below idle idle_too. let c = pair_constants root u.known.constants r.known.constants in
            refused_too how c n above below who key error.WriteProtected (protected_step c n above below f g good
            (holds above (tells_idle idle)) (holds_too below (tells_idle idle_too)) held once))
