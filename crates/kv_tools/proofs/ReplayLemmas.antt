-- A replay of sets, one for each key of a map.
use Rattle.std.proofs.Common.{◌≡◌, ◌≢◌, ℕ, zero, suc, ◌+◌, ◌≤◌, Bool, true, false, not, nat_lt, List, [], ◌∷◌, length, inl, inr, refl, sym, ◌∙◌, ap, subst, arith, if◌then◌else◌}
use Rattle.std.specs.Prelude.{All, IsTrue, MatchOption, Option, Some, None, map}
use Rattle.std.specs.FinMap as finite
use Rattle.std.specs.Option.{option_map_or}
use Rattle.std.specs.Ordering.{nat_cmp}
use Rattle.std.specs.Cmp.Lexicographic.{slice_cmp}
use Rattle.std.proofs.lemmas.Bool.{ne_eqb}
use Rattle.std.proofs.lemmas.Bool.Decides.{nat_tests}
use Rattle.base_core.specs.Sizes.{record_size}
use Rattle.kv_model.specs.declared.limits.TheConstants.{MAX_VALUE}
use Rattle.kv_model.specs.declared.call.Call.{Call}
use Rattle.kv_model.specs.declared.call.Call.TheVariants as call
use Rattle.kv_model.specs.declared.call.Entry.{Entry}
use Rattle.kv_model.specs.declared.call.Reply.TheVariants.{Done}
use Rattle.kv_model.specs.declared.error.KvError.{KvError}
use Rattle.kv_model.specs.declared.error.KvError.TheVariants as error
use Rattle.kv_model.specs.Checks.{first_refusal}
use Rattle.kv_model.specs.Constants.{Constants}
use Rattle.kv_model.specs.FlaggedMap.{FlaggedMap, Stored}
use Rattle.kv_model.specs.Flags.{is_plain_flags, is_write_once, remove_flags}
use Rattle.kv_model.specs.History.{Follows, IsLegal, PassesThrough, last_state}
use Rattle.kv_model.specs.Keys.{is_key}
use Rattle.kv_model.specs.KeySizes.{key_size}
use Rattle.kv_model.specs.LogStep.{AreLive, Ascend, spent}
use Rattle.kv_model.specs.Operations.{Set, operation_of}
use Rattle.kv_model.specs.Orders.{lines_of}
use Rattle.kv_model.specs.PlainStep.{flags_in, plain_checks, plain_rules, plain_step}
use Rattle.kv_model.specs.Rules.{Mounts, Outcome, Steps, refused_or}
use Rattle.kv_model.specs.Sizes.{used}
use Rattle.kv_model.specs.StoreState.{StoreState, fresh_state}
use Rattle.kv_model.specs.Write.{Write, applied, map_after}
use Rattle.kv_model.proofs.UsedLemmas.{used-empty, used-insert}
use Rattle.record_core.proofs.LogLemmas.{get-applied_other}
use Rattle.script_core.specs.LineOrder.{InOrder, calls_of}
use Rattle.area_collect.specs.Kept.{HasKey}
use Rattle.tdb_write.proofs.LiveLemmas.{live_spent, none_again}
use Rattle.kv_tools.specs.Listing.{set_of}
use Rattle.kv_tools.specs.Replaying.{CanSet, HasNoFault, IsDone}

-- ---- a step

past : (test : Bool) (e : KvError) (rest : Option KvError) → test ≡ false → (if test then Some e else rest) ≡ rest
past true e rest is = absurd (cc is)
past false e rest is = refl

not_true : (b : Bool) → IsTrue b → not b ≡ false
not_true true is = refl
not_true false is = absurd (cc is)

not_less : (a b : ℕ) → b ≤ a → nat_lt a b ≡ false
not_less a b le = grind (arith, nat_tests)

abbrev empty_map : FlaggedMap
empty_map = finite.empty

-- a store over this map, in which nothing was begun
abbrev over : FlaggedMap → StoreState
over m = fresh_state m empty_map 0

module _ (constants : Constants) (m : FlaggedMap) (r : Write) (can : CanSet r) (absent : finite.get m r.key ≡ None) (fits : used constants.prog m + record_size constants.prog (length r.key) (length r.value) ≤ constants.room) where
  unprotected : is_write_once (flags_in m r.key) ≡ false
  unprotected = ap (λ (o : Option Stored). is_write_once (option_map_or (λ (s : Stored). s.flags) o 0)) absent

  abbrev needs : ℕ
  needs = used constants.prog m + record_size constants.prog (length r.key) (length r.value)

  nothing_refuses : first_refusal (plain_checks constants (over m) 1 (Set r.key r.value r.flags)) ≡ None
  nothing_refuses =
      past (not (is_key r.key)) error.InvalidKey _ (not_true (is_key r.key) can.key)
      ∙ past (not (is_plain_flags r.flags)) error.InvalidFlags _ (not_true (is_plain_flags r.flags) can.flags)
      ∙ past (nat_lt MAX_VALUE (length r.value)) error.InvalidSize _ (not_less MAX_VALUE (length r.value) can.size)
      ∙ past (is_write_once (flags_in m r.key)) error.WriteProtected _ unprotected
      ∙ past (nat_lt constants.room needs) (error.MediaFull needs constants.room) None (not_less constants.room needs fits)

  sets : plain_step constants (over m) 1 (Set r.key r.value r.flags) ≡ record { state = over (finite.insert m r.key (record { flags = r.flags; bytes = r.value })); reply = Done }
  sets = ap (refused_or (plain_rules constants) (over m) 1 (Set r.key r.value r.flags)) nothing_refuses

  -- the entry of its set, where the device failed no call
  set_done : (entry : Entry) (new : StoreState) → entry.who ≡ 1 → entry.call ≡ call.Set r.key r.value (record { bits = r.flags }) → HasNoFault entry
      → Follows (plain_rules constants) (over m) entry new → IsDone entry × (new ≡ over (finite.insert m r.key (record { flags = r.flags; bytes = r.value })))
  set_done entry new who asks none follows =
      by_cases (subst (λ (w : ℕ). Steps (plain_rules constants) (over m) w (Set r.key r.value r.flags) (record { state = new; reply = entry.reply })) who
      (subst (λ (c : Call). MatchOption (operation_of c) ((entry.reply ≡ Done) × Mounts (plain_rules constants) (over m) new)
      (λ operation. Steps (plain_rules constants) (over m) entry.who operation (record { state = new; reply = entry.reply }))) asks follows))
    where
      replies : (a b : Outcome) → a ≡ b → a.reply ≡ b.reply
      replies a b is = ap (λ (o : Outcome). o.reply) is

      by_cases : Steps (plain_rules constants) (over m) 1 (Set r.key r.value r.flags) (record { state = new; reply = entry.reply })
          → IsDone entry × (new ≡ over (finite.insert m r.key (record { flags = r.flags; bytes = r.value })))
      by_cases (inl is) = (ap (λ (o : Outcome). o.reply) (is ∙ sets), ap (λ (o : Outcome). o.state) (is ∙ sets))
      by_cases (inr (inl failed)) = absurd (none.of_read (ap (λ (o : Outcome). o.reply) failed.2))
      by_cases (inr (inr failed)) = absurd (none.of_write (ap (λ (o : Outcome). o.reply) failed.2))

-- ---- all of them

-- each has a set that a plain store takes, and is no remove
abbrev AreSettable : List Write → Type 0
AreSettable [] = Unit {0}
AreSettable (r ∷ rs) = CanSet r × (r.flags ≢ remove_flags) × AreSettable rs

abbrev Sound : List Entry → Type 0
Sound [] = Unit {0}
Sound (e ∷ es) = HasNoFault e × Sound es

abbrev AllDone : List Entry → Type 0
AllDone [] = Unit {0}
AllDone (e ∷ es) = IsDone e × AllDone es

rest_ascends : (bits : ℕ) (r : Write) (rs : List Write) → Ascend bits (r ∷ rs) → Ascend bits rs
rest_ascends bits r [] ascend = tt
rest_ascends bits r (s ∷ rs) ascend = ascend.1

first_of : {X : Type 0} (x y : X) (xs ys : List X) → x ∷ xs ≡ y ∷ ys → x ≡ y
first_of x y xs ys is = cc is

rest_of : {X : Type 0} (x y : X) (xs ys : List X) → x ∷ xs ≡ y ∷ ys → xs ≡ ys
rest_of x y xs ys is = cc is

module _ (constants : Constants) where
  replayed : (m : FlaggedMap) (rs : List Write) (entries : List Entry) (states : List StoreState) → Ascend constants.hash_bits rs → AreSettable rs → ((key : List ℕ) → HasKey key rs → finite.get m key ≡ None)
      → used constants.prog m + spent constants.prog rs ≤ constants.room → PassesThrough (plain_rules constants) (over m) entries states → lines_of entries ≡ calls_of (map set_of rs) → Sound entries
      → AllDone entries × (last_state (over m) states ≡ over (map_after m rs))
  replayed m [] [] [] ascend can absent fits passes order sound = (tt, refl)
  replayed m [] [] (s ∷ states) ascend can absent fits passes order sound = absurd passes
  replayed m [] (e ∷ entries) states ascend can absent fits passes order sound = absurd (cc order)
  replayed m (r ∷ rs) [] states ascend can absent fits passes order sound = absurd (cc order)
  replayed m (r ∷ rs) (e ∷ entries) [] ascend can absent fits passes order sound = absurd passes
  replayed m (r ∷ rs) (e ∷ entries) (s ∷ states) ascend can absent fits passes order sound =
      let x : Stored = record { flags = r.flags; bytes = r.value } in
      let line : (e.who, e.call) ≡ (1, call.Set r.key r.value (record { bits = r.flags })) = first_of _ _ (lines_of entries) (calls_of (map set_of rs)) order in
      let none : finite.get m r.key ≡ None = absent r.key (inl refl) in
      let unused : key_size constants.prog m r.key ≡ 0 = ap (λ (o : Option Stored). option_map_or (λ (stored : Stored). record_size constants.prog (length r.key) (length stored.bytes)) o 0) none in
      let is : applied r m ≡ finite.insert m r.key x = ap (λ (b : Bool). if b then finite.remove m r.key else finite.insert m r.key x) (ne_eqb r.flags remove_flags can.1) in
      let done = set_done constants m r can.0 none (omega (arith, fits)) e s (ap (λ (l : ℕ × Call). l.0) line) (ap (λ (l : ℕ × Call). l.1) line) sound.0 passes.0 in
      let now : s ≡ over (applied r m) = done.1 ∙ ap over (sym is) in
      let more : used constants.prog (applied r m) ≡ used constants.prog m + record_size constants.prog (length r.key) (length r.value) =
      ap (used constants.prog) is ∙ omega (arith, used-insert constants.prog m r.key x, unused) in
      let rest = replayed (applied r m) rs entries states (rest_ascends constants.hash_bits r rs ascend) can.2
      (λ key has. get-applied_other m r key (none_again constants.hash_bits r rs key ascend has) ∙ absent key (inr has))
      (omega (arith, more, fits))
      (subst (λ (t : StoreState). PassesThrough (plain_rules constants) t entries states) now passes.1)
      (rest_of _ _ (lines_of entries) (calls_of (map set_of rs)) order) sound.1 in
      ((done.0, rest.0), ap (λ (t : StoreState). last_state t states) now ∙ rest.1)

  settable : (rs : List Write) → All CanSet rs → All (λ (r : Write). r.flags ≢ remove_flags) rs → AreSettable rs
  settable [] can kept = tt
  settable (r ∷ rs) can kept = (can 0 r (omega arith), kept 0 r (omega arith), settable rs (λ i d lt. can (suc i) d (omega (arith, lt))) (λ i d lt. kept (suc i) d (omega (arith, lt))))

  all_sound : (entries : List Entry) → All HasNoFault entries → Sound entries
  all_sound [] all = tt
  all_sound (e ∷ entries) all = (all 0 e (omega arith), all_sound entries (λ i d lt. all (suc i) d (omega (arith, lt))))

  all_done : (entries : List Entry) → AllDone entries → All IsDone entries
  all_done [] done i d lt = absurd (omega (arith, lt))
  all_done (e ∷ entries) done zero d lt = done.0
  all_done (e ∷ entries) done (suc i) d lt = all_done entries done.1 i d (omega (arith, lt))

  pub makes_the_map : (m : FlaggedMap) (live : List Write) (entries : List Entry) (after : StoreState) → AreLive constants.hash_bits m live → All CanSet live → used constants.prog m ≤ constants.room
      → IsLegal (plain_rules constants) (over empty_map) entries after → InOrder entries (map set_of live) → All HasNoFault entries → All IsDone entries × (after.primary ≡ m)
  makes_the_map m live entries after are can fits legal order sound =
      let takes : spent constants.prog live ≡ used constants.prog m = live_spent constants.prog constants.hash_bits m live are in
      let run = replayed empty_map live entries legal.runs.0 are.ascend (settable live can are.no_removes) (λ key has. finite.get-empty {X = Stored} (slice_cmp nat_cmp) key)
      (omega (arith, takes, fits, used-empty constants.prog)) legal.runs.1 order (all_sound entries sound) in
      (all_done entries run.0, ap (λ (s : StoreState). s.primary) (legal.runs.2 ∙ run.1) ∙ are.map_is)
