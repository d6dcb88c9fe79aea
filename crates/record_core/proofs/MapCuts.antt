-- What cuts leave, as maps, and over runs of calls.
use Rattle.std.proofs.Common.{◌≡◌, ◌⊎◌, ℕ, zero, suc, List, [], ◌∷◌, ◌++◌, length, IsTrue, inl, inr, ⊎_elim, refl, subst, Some, None}
use Rattle.std.specs.Prelude.{Option}
use Rattle.flash_core.specs.declared.geometry.Geometry.{Geometry}
use Rattle.flash_core.specs.Moments.{FailedInside}
use Rattle.flash_core.specs.Runs.{Ending, Done, RunsBy}
use Rattle.flash_core.specs.Sizes.{IsValid, size_of}
use Rattle.flash_core.specs.State.{DeviceCall, FlashState}
use Rattle.flash_core.proofs.RunLaws.{runs_then, runs_weakened}
use Rattle.kv_model.specs.FlaggedMap.{FlaggedMap}
use Rattle.kv_model.specs.Keys.{is_key}
use Rattle.kv_model.specs.Write.{Write, map_of}
use Rattle.record_core.specs.CutMoments.{CutStrictly, Cuts, FailedStrictly, HoldsOneOf, MayAppend, MountsToOne}
use Rattle.record_core.specs.Cuts.{with_version}
use Rattle.record_core.specs.Header.{IsHeader}
use Rattle.record_core.specs.Mounts.{Contents, Holds, Mounts}
use Rattle.record_core.specs.Renewal.{CompletesArea, FillsArea, HoldsStill, IsBlank, IsSpare, RenewsArea}
use Rattle.record_core.specs.Written.{AppendsRecord}
use Rattle.record_core.proofs.CutLemmas.{record_cuts}
use Rattle.record_core.proofs.RenewalCuts.{completes_cuts, cut_weakened, fills_cuts, renews_cuts}

-- ---- maps

same_records : (k : ℕ) (c : Contents) → (with_version k None c).records ≡ c.records
same_records zero c = refl
same_records (suc k) c = refl

pub still_mounts : (g : Geometry) (c : Contents) (k : ℕ) (left : List ℕ) → HoldsStill g c k left → Mounts g left (map_of c.records)
still_mounts g c k left (inl held) = (c, held, refl)
still_mounts g c k left (inr held) = subst (λ (rs : List Write). Mounts g left (map_of rs)) (same_records k c) (with_version k None c, held, refl)

pub one_of_mounts : (g : Geometry) (c : Contents) (r : Write) (left : List ℕ) → HoldsOneOf g c r left → MountsToOne g (map_of c.records) (map_of (c.records ++ r ∷ [])) left
one_of_mounts g c r left (inl held) = inl (c, held, refl)
one_of_mounts g c r left (inr held) = inr (_, held, refl)

module _ (g : Geometry) (valid : IsValid g) (image : List ℕ) (sized : length image ≡ size_of g) (c : Contents) (k : ℕ) where
  pub append_map : (r : Write) → MayAppend g image c k r → IsTrue (is_key r.key) → IsHeader r.flags (length r.key) (length r.value) → (call : Option DeviceCall) (now : List ℕ)
      → AppendsRecord g.prog c.end r image call now → CutStrictly g (MountsToOne g (map_of c.records) (map_of (c.records ++ r ∷ []))) call now
  append_map r may valid_key valid_header call now moment =
      cut_weakened g (HoldsOneOf g c r) (MountsToOne g (map_of c.records) (map_of (c.records ++ r ∷ []))) (one_of_mounts g c r) call now
      (record_cuts g valid image sized c k r may valid_key valid_header call now moment)

  pub fill_map : IsSpare g image c k → (call : Option DeviceCall) (now : List ℕ) → FillsArea g k image call now → CutStrictly g (λ left. Mounts g left (map_of c.records)) call now
  fill_map spare call now fills =
      cut_weakened g (HoldsStill g c k) (λ left. Mounts g left (map_of c.records)) (still_mounts g c k) call now (fills_cuts g valid image sized c k spare call now fills)

  pub renew_map : (next : FlaggedMap) → IsSpare g image c k → (call : Option DeviceCall) (now : List ℕ) → RenewsArea g k (λ left. Mounts g left next) image call now → CutStrictly g (MountsToOne g (map_of c.records) next) call now
  renew_map next spare call now renews =
      cut_weakened g (λ left. HoldsStill g c k left ⊎ Mounts g left next) (MountsToOne g (map_of c.records) next)
      (λ left is. ⊎_elim (λ still. inl (still_mounts g c k left still)) (λ mounts. inr mounts) is) call now
      (renews_cuts g valid image sized c k spare (λ left. Mounts g left next) call now renews)

  pub complete_map : (next : FlaggedMap) → IsBlank g image c k → (call : Option DeviceCall) (now : List ℕ) → CompletesArea g k (λ left. Mounts g left next) image call now → CutStrictly g (MountsToOne g (map_of c.records) next) call now
  complete_map next blank call now completes =
      cut_weakened g (λ left. Holds g left c ⊎ Mounts g left next) (MountsToOne g (map_of c.records) next)
      (λ left is. ⊎_elim (λ held. inl (c, held, refl)) (λ mounts. inr mounts) is) call now
      (completes_cuts g valid image sized c k blank (λ left. Mounts g left next) call now completes)

-- ---- runs

-- a run each of whose moments leaves what has P, as far as chance goes
pub runs_cut : {old new : FlashState} {ending : Ending} (g : Geometry) (R : List ℕ → Option DeviceCall → List ℕ → Type 0) (P : List ℕ → List ℕ → Type 0)
    → ((image : List ℕ) → old.image ≡ Some image → (call : Option DeviceCall) (left : List ℕ) → R image call left → CutStrictly g (P image) call left) → RunsBy old new R ending → RunsBy old new (Cuts g P) ending
runs_cut g R P implies runs = runs_weakened (Cuts g P) implies runs

pub cuts_weakened : {old new : FlashState} {ending : Ending} (g : Geometry) (P Q : List ℕ → List ℕ → Type 0)
    → ((image : List ℕ) → old.image ≡ Some image → (left : List ℕ) → P image left → Q image left) → RunsBy old new (Cuts g P) ending → RunsBy old new (Cuts g Q) ending
cuts_weakened g P Q implies runs = runs_weakened (Cuts g Q) (λ image told call left cut. cut_weakened g (P image) (Q image) (implies image told) call left cut) runs

-- two runs, one after the other: what the second leaves has what is said of the first
pub cuts_then : {old mid new : FlashState} {ending : Ending} (g : Geometry) (P Q : List ℕ → List ℕ → Type 0) → RunsBy old mid (Cuts g P) Done → RunsBy mid new (Cuts g Q) ending
    → ((image now : List ℕ) → old.image ≡ Some image → mid.image ≡ Some now → P image now → (left : List ℕ) → Q now left → P image left) → RunsBy old new (Cuts g P) ending
cuts_then g P Q first second fits =
    runs_then first second (λ image now told mid_told was call left cut. cut_weakened g (Q now) (P image) (fits image now told mid_told was) call left cut)

-- two runs that leave the same, whatever the image at entry
pub cuts_joined : {old mid new : FlashState} {ending : Ending} (g : Geometry) (P : List ℕ → Type 0) → RunsBy old mid (Cuts g (λ image. P)) Done → RunsBy mid new (Cuts g (λ image. P)) ending → RunsBy old new (Cuts g (λ image. P)) ending
cuts_joined g P first second = cuts_then g (λ image. P) (λ image. P) first second (λ image now told mid_told was left holds. holds)

-- after a call that failed
pub failed_strictly : (g : Geometry) (P : List ℕ → Type 0) (s : FlashState) (left : List ℕ) → FailedInside s (CutStrictly g P) left → FailedStrictly g P s left
failed_strictly g P s left failed = record { call = failed.call; cut = failed.inside; told = failed.told }
