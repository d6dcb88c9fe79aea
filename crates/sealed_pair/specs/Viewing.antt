-- What reading both stores shows of a key.
use Rattle.std.specs.Prelude.{◌≡◌, ◌≢◌, ◌⊎◌, ℕ, Bool, true, false, not, ◌&&◌, if◌then◌else◌, List, length, Option, Some, None, Result, Ok, Err}
use Rattle.std.specs.Str.{bytes_eq}
use Rattle.std.specs.FinMap.{get}
use Rattle.kv_model.specs.declared.error.KvError.{KvError}
use Rattle.kv_model.specs.declared.error.KvError.TheVariants.{AuthFailed, NotFound, ReadFault, RollbackFailed as Mismatched}
use Rattle.kv_model.specs.Constants.{Constants}
use Rattle.kv_model.specs.FlaggedMap.{Stored}
use Rattle.kv_model.specs.Flags.{is_mirrored}
use Rattle.kv_model.specs.StoreState.{StoreState}
use Rattle.kv_model.specs.Rules.{Rules}
use Rattle.kv_model.specs.Kv.{KvState}
use Rattle.sealed_pair.specs.declared.opening.Found.{Found}
use Rattle.sealed_pair.specs.declared.viewing.Mirror.{Mirror}
use Rattle.sealed_pair.specs.declared.viewing.Mirror.TheVariants.{Absent, Other, Tag}
use Rattle.sealed_pair.specs.Absorbing.{Gives, IsAuthentic}
use Rattle.sealed_pair.specs.Reading.{WhereTold}
use Rattle.sealed_pair.specs.View as view

-- a value that is no tag
pub record IsOther (found : Option Stored) : Type 0 where
  pub stored : Stored
  pub there : found ≡ Some stored
  pub long : length stored.bytes ≢ 16

pub record IsTag (found : Option Stored) (tag : List ℕ) : Type 0 where
  pub stored : Stored
  pub there : found ≡ Some stored
  pub bytes : stored.bytes ≡ tag

-- what the rollback store has for a key, where it tells its map
abbrev pub MirrorsOr : Option Stored → Result Mirror KvError → Type 0
MirrorsOr found (Ok Absent) = found ≡ None
MirrorsOr found (Ok Other) = IsOther found
MirrorsOr found (Ok (Tag tag)) = IsTag found tag
MirrorsOr found (Err error) = error ≡ ReadFault

-- whether a record and what the rollback store has belong together
abbrev pub belongs : Found → Mirror → Bool
belongs found Absent = not (is_mirrored found.flags.bits)
belongs found Other = false
belongs found (Tag tag) = is_mirrored found.flags.bits && bytes_eq tag found.tag

abbrev pub judged : Option Found → Mirror → Result Found KvError
judged None Absent = Err NotFound
judged None Other = Err Mismatched
judged None (Tag tag) = Err Mismatched
judged (Some found) mirror = if belongs found mirror then Ok found else Err Mismatched

-- ---- the view of a key

-- the key is held, and this was read of its value
pub record IsHeld (seen : view.View) (offset : ℕ) (found : Found) (buf : List ℕ) : Type 0 where
  pub value : List ℕ
  pub held : seen ≡ view.Held found.flags.bits value
  pub gives : Gives value offset found buf

-- the refusal of a key that is not held
abbrev pub refusal_of : view.View → Option KvError
refusal_of view.Absent = Some NotFound
refusal_of view.AuthFailed = Some AuthFailed
refusal_of view.RollbackFailed = Some Mismatched
refusal_of (view.Held flags value) = None

abbrev pub ViewsOr : view.View → Result Found KvError → ℕ → List ℕ → Type 0
ViewsOr seen (Ok found) offset buf = IsHeld seen offset found buf
ViewsOr seen (Err error) offset buf = (error ≡ ReadFault) ⊎ (refusal_of seen ≡ Some error)

-- No foreign value: a record of a mirrored key that was read is the record of its value, whatever the primary store tells,
-- and its tag is what the rollback store holds, where this tells its map.
pub record IsNoForeign (rules_by : Constants → Rules) (rollback : KvState) (root key : List ℕ) (offset : ℕ) (found : Found) (buf : List ℕ) : Type 0 where
  pub authentic : IsAuthentic root key offset found buf
  pub mirrored : WhereTold rules_by rollback (λ (state : StoreState). is_mirrored found.flags.bits ≡ true → IsTag (get state.primary key) found.tag)
