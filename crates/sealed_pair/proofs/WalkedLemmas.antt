-- How far a walk has healed the tags.
use Rattle.std.proofs.Common.{◌≡◌, ◌≢◌, ◌⊎◌, inl, inr, ℕ, ◌+◌, Bool, true, false, List, Option, Some, None, Result, Ok, Err, refl, sym, ◌∙◌, ap, subst, arith, true≢false}
use Rattle.std.specs.Prelude.{if◌then◌else◌, IfSome, IsTrue, is_some}
use Rattle.std.specs.Option.{option_map_or}
use Rattle.std.specs.Cmp.Lexicographic.{nat_list_cmp_total}
use Rattle.std.specs.FinMap.{contains_key, get, same_map}
use Rattle.kv_model.specs.declared.error.KvError.{KvError}
use Rattle.kv_model.specs.Constants.{Constants, Secure}
use Rattle.kv_model.specs.FlaggedMap.{FlaggedMap, Stored}
use Rattle.kv_model.specs.KeyOrder.{is_below}
use Rattle.kv_model.specs.Kv.{Keeps, KvState}
use Rattle.kv_model.specs.NextKey.{IsAhead, IsNext, is_above_last}
use Rattle.kv_model.specs.Rules.{Rules}
use Rattle.kv_model.specs.StoreState.{Maps, StoreState}
use Rattle.kv_model.proofs.NextKeyLemmas.{bytes_same}
use Rattle.kv_model.proofs.PerformLemmas.{Keeps-trans}
use Rattle.sealed_pair.specs.Going.{WhereStill}
use Rattle.sealed_pair.specs.Heal.{fits_tag, healed_by, metadata_in}
use Rattle.sealed_pair.specs.Recovering.{HasBecome, HasBroken, Leaves, Rewrites, TellsAmong, goal_of}
use Rattle.sealed_pair.specs.Running.{IsIdle}
use Rattle.sealed_pair.specs.Walking.{HasChanged, IsBetween, IsReadOrWant, RewritesEach, all_healed, place}
use Rattle.sealed_pair.proofs.PairLemmas.{read_none}
use Rattle.sealed_pair.proofs.PartlyLemmas.{IsPart, at_key, beside, by_key, changed_more, changed_none, changed_still, maps_at, next_map, next_part, part_none, tied, whole, whole_at}

module _ (secure : Secure) (above : FlaggedMap) (hash : ℕ) (before : FlaggedMap) where
  -- the tags of the keys up to the last one given are healed, and so many changed
  pub record IsHealedTo (last : Option (List ℕ)) (map : FlaggedMap) (count : ℕ) : Type 0 where
    pub part : IsPart secure above before map
    pub reached : (key : List ℕ) → contains_key above key ≡ true → is_above_last hash last key ≡ false → get map key ≡ get (whole secure above before) key
    pub changed : HasChanged before map count

  pub healed_to_none : IsHealedTo None before 0
  healed_to_none = record {
    part = part_none secure above before;
    reached = λ key has passed. absurd (true≢false passed);
    changed = changed_none before;
  }

  above_of : (last : Option (List ℕ)) (key : List ℕ) → is_above_last hash last key ≡ true → IfSome last (λ (l : List ℕ). is_below hash l key ≡ true)
  above_of None key is = tt
  above_of (Some l) key is = is

  ahead_of : (last : Option (List ℕ)) (key : List ℕ) → contains_key above key ≡ true → is_above_last hash last key ≡ true → IsAhead hash above (place last) key
  ahead_of last key has is = record { present = has; prefixed = (key, refl); above = above_of last key is }

  module _ (last : Option (List ℕ)) (map : FlaggedMap) (count : ℕ) (to : IsHealedTo last map count) where
    module _ (key : List ℕ) (next : IsNext hash above (place last) (Some key)) where
      abbrev then_map : FlaggedMap
      then_map = next_map secure above before map to.part key

      abbrev Reaches : List ℕ → Type 0
      Reaches q = get then_map q ≡ get (whole secure above before) q

      reached_by : (q : List ℕ) (ahead : Bool) → is_above_last hash last q ≡ ahead → contains_key above q ≡ true → is_below hash key q ≡ false → Reaches q
      reached_by q true is has passed = elim (next.1 q (ahead_of last q has is)) [
        | inl same ↦ subst Reaches (sym same) (at_key secure above before map to.part key)
        | inr later ↦ absurd (true≢false (sym later ∙ passed))
      ]
      reached_by q false is has passed =
          by_key secure above before map to.part key Reaches q (tied q key) refl (at_key secure above before map to.part key)
          (λ apart. beside secure above before map to.part key q apart ∙ to.reached q has is)

      changed_by : (changed : Bool) → (changed ≡ true → then_map ≢ map) → (changed ≡ false → then_map ≡ map) → HasChanged before then_map (if changed then count + 1 else count)
      changed_by true other same = changed_more secure above before map to.part key count to.changed (other refl)
      changed_by false other same = changed_still secure above before map to.part key count to.changed (same refl)

      pub healed_to_more : (changed : Bool) → (changed ≡ true → then_map ≢ map) → (changed ≡ false → then_map ≡ map)
          → IsHealedTo (Some key) then_map (if changed then count + 1 else count)
      healed_to_more changed other same = record {
        part = next_part secure above before map to.part key;
        reached = λ q has passed. reached_by q (is_above_last hash last q) refl has passed;
        changed = changed_by changed other same;
      }

    -- a key that the primary map lacks stays
    lacking : (key : List ℕ) (found : Option Stored) → get before key ≡ found → get above key ≡ None → get (whole secure above before) key ≡ get before key
    lacking key None was none = whole_at secure above before key None was ∙ sym was
    lacking key (Some tag) was none =
        whole_at secure above before key (Some tag) was
        ∙ ap (λ (o : Option Stored). Some (option_map_or (λ (s : Stored). healed_by (fits_tag secure (maps_at secure above before before) key) s.bytes (metadata_in secure.root key s.bytes) tag) o tag)) none
        ∙ sym was

    pub healed_to_end : IsNext hash above (place last) None → map ≡ whole secure above before
    healed_to_end none = same_map nat_list_cmp_total bytes_same map (whole secure above before) (λ key. by_record key (get above key) refl) where
      by_place : (key : List ℕ) (ahead : Bool) → is_above_last hash last key ≡ ahead → contains_key above key ≡ true → get map key ≡ get (whole secure above before) key
      by_place key true is has = absurd (none key (ahead_of last key has is))
      by_place key false is has = to.reached key has is

      by_record : (key : List ℕ) (found : Option Stored) → get above key ≡ found → get map key ≡ get (whole secure above before) key
      by_record key None is = elim (to.part.between key) [
        | inl stays ↦ stays ∙ sym (lacking key (get before key) refl is)
        | inr now ↦ now
      ]
      by_record key (Some s) is = by_place key (is_above_last hash last key) refl (ap (λ (o : Option Stored). is_some o) is)

-- ---- the rollback store

module _ (by : Constants → Rules) (secure : Secure) (above : FlaggedMap) (hash : ℕ) (old : KvState) where
  abbrev WhereIdle : (StoreState → Type 0) → Type 0
  WhereIdle P = WhereStill by old P

  -- the walk has come to this key, and so many tags changed
  pub record HasComeTo (now : KvState) (last : Option (List ℕ)) (count : ℕ) : Type 0 where
    pub keeps : Keeps old now
    pub told : WhereIdle (λ state. (map : FlaggedMap) × ((now.known.state ≡ Some (record state { primary = map })) × IsHealedTo secure above hash state.primary last map count))
    pub moments : IsTrue old.crash.tells_moments
        → WhereIdle (λ state. TellsAmong old.crash.primary now.crash.primary (IsBetween state.primary (all_healed secure above state)))

  module _ (mid : KvState) (last : Option (List ℕ)) (count : ℕ) (come : HasComeTo mid last count) where
    idle_with : (state : StoreState) (map : FlaggedMap) → IsIdle by old state → mid.known.state ≡ Some (record state { primary = map }) → IsIdle by mid (record state { primary = map })
    idle_with state map idle told = record { rules = idle.rules; told = told; running = idle.running; holds = idle.holds }

    -- the keys are at their end
    pub come_to_end : IsNext hash above (place last) None → RewritesEach by old mid (all_healed secure above) (Ok count)
    come_to_end none = record {
      told = λ state idle.
          let at = come.told state idle in
          let end = healed_to_end secure above hash state.primary last at.0 count at.1.1 none in
          (at.1.0 ∙ ap (λ (m : FlaggedMap). Some (record state { primary = m })) end, subst (λ (m : FlaggedMap). HasChanged state.primary m count) end at.1.1.changed);
      moments = come.moments;
    }

    -- the walk is given up
    pub come_to_refusal : (e : KvError) → IsReadOrWant e → RewritesEach by old mid (all_healed secure above) (Err e)
    come_to_refusal e kind = record {
      told = λ state idle. let at = come.told state idle in inr (kind, (at.0, at.1.1.part.between, at.1.0));
      moments = come.moments;
    }

    module _ (new : KvState) (key : List ℕ) (next : IsNext hash above (place last) (Some key)) (result : Result Bool KvError)
        (rewrites : Rewrites by mid new (goal_of secure above key) result) where
      moments_more : IsTrue old.crash.tells_moments → WhereIdle (λ state. TellsAmong old.crash.primary new.crash.primary (IsBetween state.primary (all_healed secure above state)))
      moments_more tells state idle =
          let at = come.told state idle in
          let first = come.moments tells state idle in
          let second = rewrites.moments (subst IsTrue (sym come.keeps.tells_moments) tells) (record state { primary = at.0 }) (idle_with state at.0 idle at.1.0) in
          record {
            moment = omega (arith, first.moment, second.moment);
            told = λ t map early later. elim (second.told t map (omega (arith, early, first.moment)) later) [
              | inl earlier ↦ first.told t map early earlier
              | inr (inl is) ↦ inr (subst (IsBetween state.primary (all_healed secure above state)) (sym is) at.1.1.part.between)
              | inr (inr is) ↦ inr (subst (IsBetween state.primary (all_healed secure above state)) (sym is) (next_part secure above state.primary at.0 at.1.1.part key).between)
            ];
          }

      pub come_more : Keeps mid new → (changed : Bool) → result ≡ Ok changed → HasComeTo new (Some key) (if changed then count + 1 else count)
      come_more keeps changed is = record {
        keeps = Keeps-trans come.keeps keeps;
        told = λ state idle.
            let at = come.told state idle in
            let became = rewrites_ok is (record state { primary = at.0 }) (idle_with state at.0 idle at.1.0) in (
              next_map secure above state.primary at.0 at.1.1.part key,
              (became.told, healed_to_more secure above hash state.primary last at.0 count at.1.1 key next changed became.counted became.uncounted),
            );
        moments = moments_more;
      } where
        rewrites_ok : result ≡ Ok changed → WhereStill by mid (λ state. HasBecome new state (goal_of secure above key state) changed)
        rewrites_ok same = subst (λ (r : Result Bool KvError). WhereStill by mid (λ state. Leaves new state (goal_of secure above key state) r)) same rewrites.told

      -- a key could not be healed
      pub come_to_failure : (e : KvError) → result ≡ Err e → RewritesEach by old new (all_healed secure above) (Err e)
      come_to_failure e is = record {
        told = λ state idle.
            let at = come.told state idle in
            let goal = all_healed secure above state in
            elim (rewrites_err is (record state { primary = at.0 }) (idle_with state at.0 idle at.1.0)) [
              | inl broken ↦ inl (
                broken.0,
                λ maps stands. elim (broken.1 maps stands) [
                  | inl first ↦ subst (IsBetween state.primary goal) (sym first) at.1.1.part.between
                  | inr later ↦ subst (IsBetween state.primary goal) (sym later) (next_part secure above state.primary at.0 at.1.1.part key).between
                ],
              )
              | inr stays ↦ inr (stays.1, (at.0, at.1.1.part.between, stays.0))
            ];
        moments = moments_more;
      } where
        rewrites_err : result ≡ Err e → WhereStill by mid (λ state. HasBroken new state (goal_of secure above key state) e)
        rewrites_err same = subst (λ (r : Result Bool KvError). WhereStill by mid (λ state. Leaves new state (goal_of secure above key state) r)) same rewrites.told

  -- nothing is healed yet
  pub come_none : HasComeTo old None 0
  come_none = record {
    keeps = (read_none old).keeps;
    told = λ state idle. (state.primary, (idle.told, healed_to_none secure above hash state.primary));
    moments = λ tells state idle. record { moment = omega arith; told = λ t map early told. inl told };
  }
