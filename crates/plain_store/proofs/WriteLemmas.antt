-- A run of writes, some reads before it, is a call of a plain store.
use Rattle.std.proofs.Common.{◌≡◌, ◌⊎◌, ℕ, ◌≤◌, Bool, true, false, List, [], ◌∷◌, inl, inr, refl, sym, ◌∙◌, ap, subst, arith}
use Rattle.std.specs.Prelude.{IsTrue, Option, Some, None, is_some, Contains}
use Rattle.std.specs.Option.{ForSome, option_map}
use Rattle.std.specs.FinMap as map
use Rattle.base_core.specs.Counts.{Rose}
use Rattle.flash_core.specs.declared.geometry.Geometry.{Geometry}
use Rattle.flash_core.specs.Moments.{FailedInside}
use Rattle.flash_core.specs.Runs.{Done, Ending, IfFailed, IsCause as IsCauseOf, ReadFailed, Refused, UnlessShort, WriteFailed}
use Rattle.record_core.specs.Endings.{kv_ending}
use Rattle.tdb_read.proofs.GetLemmas.{refusal_since}
use Rattle.flash_core.specs.State.{DeviceCall}
use Rattle.flash_core.proofs.GeometryLaws.{prog_positive}
use Rattle.flash_core.proofs.KeptLaws.{OnlyReads-refl, told_after, told_before}
use Rattle.kv_model.specs.declared.call.Reply.TheVariants as reply
use Rattle.kv_model.specs.declared.error.KvError.{KvError}
use Rattle.kv_model.specs.declared.error.KvError.TheVariants.{Corrupt, ReadFault, WriteFault}
use Rattle.kv_model.specs.Checks.{may_fail_reading, may_fail_writing}
use Rattle.kv_model.specs.Constants.{Constants}
use Rattle.kv_model.specs.FlaggedMap.{FlaggedMap}
use Rattle.kv_model.specs.Kv.{Answered, Answers, FailedRead, FailedWrite, IsCause, Keeps, Kind, KvState, LeadsTo, Mismatched, Ruled, TellsOnly, UnlessFailedWrite, answered, kind_of, may_end, reads, writes}
use Rattle.kv_model.specs.LogStep.{LogFollows, LogSteps, SameButOther}
use Rattle.kv_model.specs.Opening.{Log}
use Rattle.kv_model.specs.Operations.{Operation}
use Rattle.kv_model.specs.PlainStep.{plain_checks, plain_rules, plain_step}
use Rattle.kv_model.specs.Rules.{Outcome, cuts}
use Rattle.kv_model.specs.StoreState.{Maps, OpenSet, StoreState}
use Rattle.kv_model.specs.Write.{map_of}
use Rattle.record_core.specs.CutMoments.{CutStrictly, MountsToOne}
use Rattle.record_core.specs.Mounts.{Mounts}
use Rattle.record_core.proofs.MountLemmas.{mounts_once}
use Rattle.tdb_mount.proofs.ReaderLemmas.{mapped_from}
use Rattle.tdb_read.specs.Reads.{IsReadRefusal, map_in}
use Rattle.tdb_read.specs.States.{IsUnlikely, MapLeft, MapsStand, constants_of, crash_of, kv_state, log_in, state_in}
use Rattle.tdb_read.specs.Views.{HasOnlyRead, IsReady, LogPart, LogView}
use Rattle.tdb_write.specs.Changes.{ByEnding, Changes, LeavesOneOf}
use Rattle.plain_store.specs.Stores.{IsStopped, StoppedMaps, state_by}
use Rattle.plain_store.proofs.CallLemmas.{some_is}

is_some_map : {X Y : Type 0} (f : X → Y) (o : Option X) → is_some (option_map f o) ≡ is_some o
is_some_map f None = refl
is_some_map f (Some x) = refl

never_true : (b : Bool) → (IsTrue b → ⊥) → b ≡ false
never_true true not = absurd (not refl)
never_true false not = refl

-- no reads before the writes
pub only_refl : (v : LogView) → HasOnlyRead v v
only_refl v = record { device = OnlyReads-refl v.device; log = refl }

-- of a moment without a torn record by chance the promise holds
one_of : (g : Geometry) (u v : FlaggedMap) (call : Option DeviceCall) (c : List ℕ) → CutStrictly g (MountsToOne g u v) call c → IsUnlikely g call c → MountsToOne g u v c
one_of g u v None c cut unlikely = cut
one_of g u v (Some call) c cut unlikely = cut.holds unlikely

which_map : (g : Geometry) (c : List ℕ) → 1 ≤ g.prog → (u v m : FlaggedMap) → MountsToOne g u v c → Mounts g c m → (m ≡ u) ⊎ (m ≡ v)
which_map g c positive u v m (inl first) is = inl (mounts_once g c positive m u is first)
which_map g c positive u v m (inr second) is = inr (mounts_once g c positive m v is second)

module _ (old mid new : LogView) (ready : IsReady old) (read : HasOnlyRead old mid) (after : FlaggedMap → FlaggedMap) (Step : Log → Log → Type 0) (ending : Ending)
    (changes : Changes mid new after Step ending) where
  abbrev g : Geometry
  g = old.device.geometry

  abbrev constants : Constants
  constants = constants_of g old.log

  abbrev map_at : List ℕ → FlaggedMap
  map_at image = map_in g old.log image

  abbrev before : Option OpenSet → List ℕ → StoreState
  before set image = state_in g old.log set image

  geometry : new.device.geometry ≡ g
  geometry = changes.runs.kept.geometry ∙ read.device.geometry

  hash_bits : new.log.hash_bits ≡ old.log.hash_bits
  hash_bits = changes.callers.hash_bits ∙ ap (λ (l : LogPart). l.hash_bits) read.log

  iterators : new.log.iterators ≡ old.log.iterators
  iterators = changes.callers.iterators ∙ ap (λ (l : LogPart). l.iterators) read.log

  same_constants : constants_of new.device.geometry new.log ≡ constants
  same_constants = λ i. constants_of (geometry i) (record old.log { hash_bits = hash_bits i })

  -- the store afterwards, in the state that this says of its image
  abbrev later : (List ℕ → StoreState) → (Maps → Type 0) → KvState
  later f stands = record {
    known = record (kv_state new None).known { state = option_map f new.device.image };
    crash = record (kv_state new None).crash { stands = stands };
  }

  kept : (set : Option OpenSet) (f : List ℕ → StoreState) (stands : Maps → Type 0) → Keeps (kv_state old set) (later f stands)
  kept set f stands = record {
    constants = same_constants;
    labels = ap (λ (l : List ℕ). l ∷ []) (changes.runs.kept.label ∙ read.device.label);
    tells_state = is_some_map f new.device.image ∙ (changes.runs.kept.tells_image ∙ ap is_some read.device.image) ∙ sym (is_some_map (before set) old.device.image);
    tells_log = is_some_map (log_in new.device.geometry new.log) new.device.image ∙ (changes.runs.kept.tells_image ∙ ap is_some read.device.image) ∙ sym (is_some_map (log_in g old.log) old.device.image);
    tells_moments = changes.runs.kept.tells_moments ∙ read.device.tells_moments;
    read_faults = omega (arith, read.device.read_faults, changes.runs.kept.read_faults);
    write_faults = omega (arith, read.device.write_faults, changes.runs.kept.write_faults);
    sound = λ sound. changes.runs.kept.sound (read.device.sound sound);
  }

  -- what the run says of each moment, over the image before the reads
  leaves : (image : List ℕ) (call : Option DeviceCall) (c : List ℕ) → LeavesOneOf mid after image call c
      → CutStrictly g (MountsToOne g (map_at image) (after (map_at image))) call c
  leaves image call c is = subst (λ (l : LogPart). CutStrictly g (MountsToOne g (map_in g l image) (after (map_in g l image))) call c) read.log
      (subst (λ (x : Geometry). CutStrictly x (MountsToOne x (map_in x mid.log image) (after (map_in x mid.log image))) call c) read.device.geometry is)

  anew : (image : List ℕ) → old.device.image ≡ Some image → (t : ℕ) (m : FlaggedMap) → t ≤ old.device.moment → MapLeft new.device.geometry new.device t m
      → MapLeft g old.device t m ⊎ ((m ≡ map_at image) ⊎ (m ≡ after (map_at image)))
  anew image told t m le left =
      let unlikely : IsUnlikely g left.call left.image = subst (λ (x : Geometry). IsUnlikely x left.call left.image) geometry left.unlikely in
      let mounts : Mounts g left.image m = subst (λ (x : Geometry). Mounts x left.image m) geometry left.mounts in
      elim ((changes.runs.adds image (read.device.image ∙ told)).anew t left.call left.image (omega (arith, le, read.device.moment)) left.left) [
        | inl earlier ↦ inl (record { call = left.call; image = left.image; left = (read.device.told t left.call left.image).0 earlier; unlikely = unlikely; mounts = mounts })
        | inr is ↦ inr (which_map g left.image (prog_positive g ready.safe.valid) (map_at image) (after (map_at image)) m
            (one_of g (map_at image) (after (map_at image)) left.call left.image (leaves image left.call left.image is) unlikely) mounts)
      ]

  -- `after` is the map of the call's step, or no change
  abbrev IsStepOf : Option OpenSet → ℕ → Operation → Type 0
  IsStepOf set who operation = (image : List ℕ) → old.device.image ≡ Some image
      → (after (map_at image) ≡ map_at image) ⊎ (after (map_at image) ≡ (plain_step constants (before set image) who operation).state.primary)

  one_more : (u v w x m : FlaggedMap) → (v ≡ u) ⊎ (v ≡ w) → (m ≡ u) ⊎ (m ≡ v) → (m ≡ u) ⊎ (m ≡ w)
  one_more u v w x m step (inl first) = inl first
  one_more u v w x m (inl none) (inr second) = inl (second ∙ none)
  one_more u v w x m (inr to) (inr second) = inr (second ∙ to)

  tells : (set : Option OpenSet) (who : ℕ) (operation : Operation) → IsStepOf set who operation → (image : List ℕ) → old.device.image ≡ Some image
      → TellsOnly (crash_of g old.device).primary (crash_of new.device.geometry new.device).primary (map_at image) (plain_step constants (before set image) who operation).state.primary
  tells set who operation step image told = record {
    moment = omega (arith, read.device.moment, changes.runs.kept.moment);
    told = λ t m le left. elim (anew image told t m le left) [
      | inl earlier ↦ inl earlier
      | inr is ↦ inr (one_more (map_at image) (after (map_at image)) (plain_step constants (before set image) who operation).state.primary (map_at image) m (step image told) is)
    ];
  }

  no_rollback : (u v : FlaggedMap) → TellsOnly (crash_of g old.device).rollback (crash_of new.device.geometry new.device).rollback u v
  no_rollback u v = record { moment = omega arith; told = λ t m le left. absurd left }

  module _ (set : Option OpenSet) (f : List ℕ → StoreState) (stands : Maps → Type 0) (call : Answered) (kind : Kind) (is_kind : kind_of call.reply ≡ kind) where
    answers : IsTrue (may_end call.operation kind) → IsCause (kv_state old set).known (later f stands).known call.reply
        → (old.device.steady ≡ true → UnlessFailedWrite kind (new.device.steady ≡ true))
        → ((image left : List ℕ) → old.device.image ≡ Some image → new.device.image ≡ Some left → LeadsTo (plain_rules constants) (before set image) call (f left) kind)
        → ((image left : List ℕ) → old.device.image ≡ Some image → new.device.image ≡ Some left
        → UnlessFailedWrite kind (LogFollows constants (before set image) (log_in g old.log image) (log_in new.device.geometry new.log left) call.operation call.reply))
        → IsStepOf set call.who call.operation
        → Answers plain_rules (kv_state old set) (later f stands) call
    answers ends cause steady leads follows step = record {
      does = record {
        keeps = kept set f stands;
        cause = cause;
        steady = λ is. subst (λ (k : Kind). UnlessFailedWrite k (new.device.steady ≡ true)) (sym is_kind) (steady is);
        leads = λ b b_is a a_is.
            let from = mapped_from (before set) old.device.image b b_is in
            let to = mapped_from f new.device.image a a_is in
            subst (λ (k : Kind). LeadsTo (plain_rules constants) b call a k) (sym is_kind)
            (subst (λ (x : StoreState). LeadsTo (plain_rules constants) x call a kind) from.2
            (subst (λ (x : StoreState). LeadsTo (plain_rules constants) (before set from.0) call x kind) to.2 (leads from.0 to.0 from.1 to.1)));
        log = λ b b_is l l_is m m_is.
            let from = mapped_from (before set) old.device.image b b_is in
            let to = mapped_from (log_in new.device.geometry new.log) new.device.image m m_is in
            let is_l : log_in g old.log from.0 ≡ l = some_is (sym (ap (option_map (log_in g old.log)) from.1) ∙ l_is) in
            subst (λ (k : Kind). UnlessFailedWrite k (LogFollows constants b l m call.operation call.reply)) (sym is_kind)
            (subst (λ (x : StoreState). UnlessFailedWrite kind (LogFollows constants x l m call.operation call.reply)) from.2
            (subst (λ (x : Log). UnlessFailedWrite kind (LogFollows constants (before set from.0) x m call.operation call.reply)) is_l
            (subst (λ (x : Log). UnlessFailedWrite kind (LogFollows constants (before set from.0) (log_in g old.log from.0) x call.operation call.reply)) to.2
            (follows from.0 to.0 from.1 to.1))));
        cuts = λ telling b b_is.
            let from = mapped_from (before set) old.device.image b b_is in (
              subst (λ (x : StoreState). TellsOnly (crash_of g old.device).primary (crash_of new.device.geometry new.device).primary x.primary (plain_step constants x call.who call.operation).state.primary) from.2
                  (tells set call.who call.operation step from.0 from.1),
              no_rollback _ _,
            );
      };
      may_end = subst (λ (k : Kind). IsTrue (may_end call.operation k)) (sym is_kind) ends;
    }

  -- ---- done

  map_now : ending ≡ Done → (image left : List ℕ) → old.device.image ≡ Some image → new.device.image ≡ Some left
      → map_in new.device.geometry new.log left ≡ after (map_at image)
  map_now is image left told now =
      let mapped : map_in mid.device.geometry new.log left ≡ after (map_in mid.device.geometry mid.log image) =
      subst (λ (e : Ending). ByEnding e (map_in mid.device.geometry new.log left ≡ after (map_in mid.device.geometry mid.log image)) (Unit {0})) is
      (changes.map_is image (read.device.image ∙ told) left now) in
      (λ i. map_in (changes.runs.kept.geometry i) new.log left) ∙ mapped ∙ (λ i. after (map_in (read.device.geometry i) (read.log i) image))

  log_now : ending ≡ Done → (image left : List ℕ) → old.device.image ≡ Some image → new.device.image ≡ Some left
      → Step (log_in g old.log image) (log_in new.device.geometry new.log left)
  log_now is image left told now =
      let stepped : Step (log_in mid.device.geometry mid.log image) (log_in mid.device.geometry new.log left) =
      subst (λ (e : Ending). ByEnding e (Step (log_in mid.device.geometry mid.log image) (log_in mid.device.geometry new.log left)) (SameButOther (log_in mid.device.geometry mid.log image) (log_in mid.device.geometry new.log left))) is
      (changes.log_is image (read.device.image ∙ told) left now) in
      subst (λ (x : Log). Step (log_in g old.log image) x) (λ i. log_in (sym changes.runs.kept.geometry i) new.log left)
      (subst (λ (x : Log). Step x (log_in mid.device.geometry new.log left)) (λ i. log_in (read.device.geometry i) (read.log i) image) stepped)

  -- a call that was done
  pub done : ending ≡ Done → (set next : Option OpenSet) (who : ℕ) (operation : Operation)
      → ((image left : List ℕ) → old.device.image ≡ Some image → new.device.image ≡ Some left
      → plain_step constants (before set image) who operation ≡ record { state = record (before set image) { primary = after (map_at image); open_set = next }; reply = reply.Done })
      → ((image left : List ℕ) → old.device.image ≡ Some image → new.device.image ≡ Some left
      → Step (log_in g old.log image) (log_in new.device.geometry new.log left)
      → LogSteps constants (before set image) (log_in g old.log image) (log_in new.device.geometry new.log left) operation)
      → Answers plain_rules (kv_state old set) (kv_state new next) (answered who operation reply.Done)
  done is set next who operation steps follows =
      answers set (state_in new.device.geometry new.log next) (MapsStand new.device.geometry new.device) (answered who operation reply.Done) Ruled refl refl tt
      (λ steady. subst (λ (e : Ending). UnlessShort e (IsTrue new.device.steady)) is (changes.runs.steady (read.device.steady steady)))
      (λ image left told now. steps image left told now ∙ λ i. record {
        state = record { primary = sym (map_now is image left told now) i; rollback = map.empty; open_set = next; iterators = sym iterators i; next_vector = 1; doubt = None };
        reply = reply.Done;
      })
      (λ image left told now. follows image left told now (log_now is image left told now))
      (λ image told. let left = told_after changes.runs.kept (read.device.image ∙ told) in inr (sym (ap (λ (o : Outcome). o.state.primary) (steps image left.0 told left.1))))

  -- ---- a write that failed

  module _ (is : ending ≡ WriteFailed) (set : Option OpenSet) (who : ℕ) (operation : Operation) (step : IsStepOf set who operation) (note : StoreState)
      (noted : (image : List ℕ) → old.device.image ≡ Some image → note ≡ record (before set image) { doubt = Some (record { who = who; operation = operation }) }) where
    cause : Rose old.device.write_faults new.device.write_faults × (old.device.sound ≡ false)
    cause =
        let why = subst (λ (e : Ending). IsCauseOf mid.device new.device e) is changes.runs.cause in
        (subst (λ (n : ℕ). Rose n new.device.write_faults) read.device.write_faults why.0, never_true old.device.sound (λ sound. why.1 (read.device.sound sound)))

    pub failed : (next : Option OpenSet) → IsTrue (writes operation)
        → ((image : List ℕ) → old.device.image ≡ Some image → IsTrue (may_fail_writing (plain_checks constants (before set image) who operation)))
        → Answers plain_rules (kv_state old set) (state_by new next (Some note)) (answered who operation (reply.Refused WriteFault))
    failed next may comes =
        answers set (λ image. note) (StoppedMaps new) (answered who operation (reply.Refused WriteFault)) FailedWrite refl may cause
        (λ steady. tt)
        (λ image left told now. (refl, comes image told, λ i. record { state = noted image told i; reply = reply.Refused WriteFault }))
        (λ image left told now. tt)
        step

    abbrev doubtful : List ℕ → StoreState
    doubtful image = record (before set image) { doubt = Some (record { who = who; operation = operation }) }

    -- the maps that a cut may leave
    has_map : (image : List ℕ) → old.device.image ≡ Some image → (maps : Maps) → maps.rollback ≡ map.empty
        → (maps.primary ≡ map_at image) ⊎ (maps.primary ≡ (plain_step constants (before set image) who operation).state.primary)
        → Contains (cuts (plain_rules constants) (doubtful image) who operation) maps
    has_map image told maps none (inl first) = (0, omega arith, λ i. record { primary = sym first i; rollback = sym none i })
    has_map image told maps none (inr second) = (1, omega arith, λ i. record { primary = sym second i; rollback = sym none i })

    left_map : (image left : List ℕ) → old.device.image ≡ Some image → new.device.image ≡ Some left → (maps : Maps) → StoppedMaps new maps
        → MountsToOne g (map_at image) (after (map_at image)) left
    left_map image left told now maps stand =
        let inside = subst (λ (e : Ending). IfFailed e (ForSome new.device.image (FailedInside new.device (LeavesOneOf mid after image)))) is
        (changes.runs.failed image (read.device.image ∙ told)) left now in
        elim (inside.told stand.tells) [
          | inl torn ↦
              let unlikely : IsUnlikely g (Some inside.call) left =
              subst (λ (x : Geometry). IsUnlikely x (Some inside.call) left) geometry (stand.unlikely inside.call torn left now) in
              one_of g (map_at image) (after (map_at image)) (Some inside.call) left (leaves image (Some inside.call) left inside.inside) unlikely
          | inr whole ↦ leaves image None left whole
        ]

    pub stopped : old.log.hash_bits ≤ 32 → note.doubt ≡ Some (record { who = who; operation = operation }) → IsStopped new note
    stopped bits doubt = record {
      hash_bits = subst (λ (n : ℕ). n ≤ 32) (sym hash_bits) bits;
      doubt = record { who = who; operation = operation };
      is = doubt;
      number = λ left now.
          let was = told_before changes.runs.kept now in
          ap (λ (s : StoreState). s.next_vector) (noted was.0 (sym read.device.image ∙ was.1));
      stands = λ left now maps stand.
          let was = told_before changes.runs.kept now in
          let told : old.device.image ≡ Some was.0 = sym read.device.image ∙ was.1 in
          let mounts : Mounts g left maps.primary = subst (λ (x : Geometry). Mounts x left maps.primary) geometry (stand.stands.primary left now) in
          let which = which_map g left (prog_positive g ready.safe.valid) (map_at was.0) (after (map_at was.0)) maps.primary (left_map was.0 left told now maps stand) mounts in
          subst (λ (k : Constants). Contains (cuts (plain_rules k) note who operation) maps) (sym same_constants)
          (subst (λ (s : StoreState). Contains (cuts (plain_rules constants) s who operation) maps) (sym (noted was.0 told))
          (has_map was.0 told maps stand.stands.rollback
          (one_more (map_at was.0) (after (map_at was.0)) (plain_step constants (before set was.0) who operation).state.primary (map_at was.0) maps.primary (step was.0 told) which)));
    }

  -- ---- a read that failed, or a record that did not match

  log_stays : (is : Ending) → ending ≡ is → ((P Q : Type 0) → ByEnding is P Q → Q) → (image left : List ℕ) → old.device.image ≡ Some image → new.device.image ≡ Some left
      → SameButOther (log_in g old.log image) (log_in new.device.geometry new.log left)
  log_stays is ends second image left told now =
      let same : SameButOther (log_in mid.device.geometry mid.log image) (log_in mid.device.geometry new.log left) =
      second _ _ (subst (λ (e : Ending). ByEnding e (Step (log_in mid.device.geometry mid.log image) (log_in mid.device.geometry new.log left)) (SameButOther (log_in mid.device.geometry mid.log image) (log_in mid.device.geometry new.log left))) ends
      (changes.log_is image (read.device.image ∙ told) left now)) in
      subst (λ (x : Log). SameButOther (log_in g old.log image) x) (λ i. log_in (sym changes.runs.kept.geometry i) new.log left)
      (subst (λ (x : Log). SameButOther x (log_in mid.device.geometry new.log left)) (λ i. log_in (read.device.geometry i) (read.log i) image) same)

  state_stays : (set : Option OpenSet) (image left : List ℕ) → SameButOther (log_in g old.log image) (log_in new.device.geometry new.log left)
      → state_in new.device.geometry new.log set left ≡ before set image
  state_stays set image left same = λ i. record { primary = map_of (same i).records; rollback = map.empty; open_set = set; iterators = iterators i; next_vector = 1; doubt = None }

  unread : (set : Option OpenSet) (who : ℕ) (operation : Operation) (e : KvError) → ending ≡ kv_ending e → IsReadRefusal mid.device new.device e → IsTrue (reads operation)
      → ((image : List ℕ) → old.device.image ≡ Some image → IsTrue (may_fail_reading (plain_checks constants (before set image) who operation)))
      → IsStepOf set who operation → Answers plain_rules (kv_state old set) (kv_state new set) (answered who operation (reply.Refused e))
  unread set who operation ReadFault ends refusal may comes step =
      let why = refusal_since new.device ReadFault read.device refusal in
      answers set (state_in new.device.geometry new.log set) (MapsStand new.device.geometry new.device) (answered who operation (reply.Refused ReadFault)) FailedRead refl may
      (why.0, never_true old.device.steady why.1)
      (λ steady. subst (λ (e : Ending). UnlessShort e (IsTrue new.device.steady)) ends (changes.runs.steady (read.device.steady steady)))
      (λ image left told now. (refl, comes image told, λ i. record { state = state_stays set image left (log_stays ReadFailed ends (λ P Q q. q) image left told now) i; reply = reply.Refused ReadFault }))
      (λ image left told now. log_stays ReadFailed ends (λ P Q q. q) image left told now)
      step
  unread set who operation (Corrupt stored computed) ends refusal may comes step =
      let why = refusal_since new.device (Corrupt stored computed) read.device refusal in
      answers set (state_in new.device.geometry new.log set) (MapsStand new.device.geometry new.device) (answered who operation (reply.Refused (Corrupt stored computed))) Mismatched refl may
      (why.0, ap (option_map (before set)) why.1)
      (λ steady. subst (λ (e : Ending). UnlessShort e (IsTrue new.device.steady)) ends (changes.runs.steady (read.device.steady steady)))
      (λ image left told now. absurd (no_image image (sym why.1 ∙ told)))
      (λ image left told now. log_stays Refused ends (λ P Q q. q) image left told now)
      step
    where
      no_image : (image : List ℕ) → None ≡ Some image → ⊥
      no_image image same = cc
  unread set who operation e ends refusal may comes step = absurd refusal

  -- a call that read as it wrote, and whose read failed
  pub read_failed : (set : Option OpenSet) (who : ℕ) (operation : Operation) (e : KvError) → ending ≡ kv_ending e → IsReadRefusal mid.device new.device e → IsTrue (reads operation)
      → ((image : List ℕ) → old.device.image ≡ Some image → IsTrue (may_fail_reading (plain_checks constants (before set image) who operation)))
      → IsStepOf set who operation → Answers plain_rules (kv_state old set) (kv_state new set) (answered who operation (reply.Refused e))
  read_failed set who operation e ends refusal may comes step = unread set who operation e ends refusal may comes step
