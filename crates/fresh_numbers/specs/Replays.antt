-- What an old primary map shows that is put back beside the rollback map of now.
use Rattle.std.specs.Prelude.{◌≡◌, ◌≢◌, ◌⊎◌, ℕ, ◌<◌, true, List, Some, Contains}
use Rattle.std.specs.FinMap.{get}
use Rattle.cipher_core.specs.Cmac.{cmac}
use Rattle.cipher_core.specs.Salt.{derived}
use Rattle.cipher_core.specs.declared.derivation.Salt.TheVariants.{Auth}
use Rattle.kv_model.specs.FlaggedMap.{FlaggedMap, Stored}
use Rattle.kv_model.specs.StoreState.{Maps, StoreState}
use Rattle.secure_record.specs.Unseal.{Opened, unseal}
use Rattle.sealed_pair.specs.Laws.{mounted_view}
use Rattle.sealed_pair.specs.Sealing.{is_numbered, tag_of}
use Rattle.sealed_pair.specs.SecureStep.{view}
use Rattle.sealed_pair.specs.View.{View, Held, RollbackFailed}
use Rattle.fresh_numbers.specs.Histories.{Finds, History, all_states, present, root_of}

-- ---- the records of a key

-- the primary store has had this record for the key
pub record HasHad (h : History) (key record_bytes : List ℕ) : Type 0 where
  pub state : StoreState
  pub passed : Contains (all_states h) state
  pub flags : ℕ
  pub stored : get state.primary key ≡ Some (record { flags = flags; bytes = record_bytes })

-- the same, or a call that was stopped may have left it there
pub record MayHaveHad (h : History) (key record_bytes : List ℕ) : Type 0 where
  pub state : StoreState
  pub passed : Contains (all_states h) state
  pub maps : Maps
  pub finds : Finds h.constants state maps
  pub flags : ℕ
  pub stored : get maps.primary key ≡ Some (record { flags = flags; bytes = record_bytes })

-- a record that took a number, which is its vector
pub record HasNumber (root key record_bytes : List ℕ) (number : ℕ) : Type 0 where
  pub opened : Opened
  pub opens : unseal root key record_bytes ≡ Some opened
  pub numbered : is_numbered opened.flags ≡ true
  pub vector : opened.vector ≡ number

-- two different records of those have one tag: a collision of CMACs
pub record HaveOneTag (Had : List ℕ → Type 0) : Type 0 where
  pub first : List ℕ
  pub second : List ℕ
  pub had_first : Had first
  pub had_second : Had second
  pub differ : first ≢ second
  pub same_tag : tag_of first ≡ tag_of second

-- two different messages have one CMAC, under the key that is derived for this one
pub record HaveOneMac (root key : List ℕ) : Type 0 where
  pub first : List ℕ
  pub second : List ℕ
  pub differ : first ≢ second
  pub same_mac : cmac (derived root Auth key) first ≡ cmac (derived root Auth key) second

-- ---- the attack

-- a primary map beside the rollback map of now
abbrev pub put_back : History → FlaggedMap → Maps
put_back h primary = record { primary = primary; rollback = (present h).rollback }

-- A mount of them shows what is there now, or that the two stores don't belong together; else two records collide.
abbrev pub ShowsNothingOld : History → FlaggedMap → List ℕ → Type 0
ShowsNothingOld h primary key =
    (mounted_view h.constants (put_back h primary) key ≡ view h.constants (present h) key)
    ⊎ ((mounted_view h.constants (put_back h primary) key ≡ RollbackFailed) ⊎ HaveOneTag (HasHad h key))

-- what is shown is the value that is put back, whose record has a higher number than the one that is there now
pub record IsNewer (h : History) (primary : FlaggedMap) (key : List ℕ) (shown : View) : Type 0 where
  pub put : Stored
  pub put_there : get primary key ≡ Some put
  pub number : ℕ
  pub put_number : HasNumber (root_of h) key put.bytes number
  pub shown_is : shown ≡ Held put_number.opened.flags put_number.opened.value
  pub now : Stored
  pub now_there : get (present h).primary key ≡ Some now
  pub now_number : ℕ
  pub numbered_now : HasNumber (root_of h) key now.bytes now_number
  pub newer : now_number < number

-- the same as showing nothing old, where a value may be shown that is newer than the one that is there now
abbrev pub ShowsNothingOlder : History → FlaggedMap → List ℕ → Type 0
ShowsNothingOlder h primary key =
    (mounted_view h.constants (put_back h primary) key ≡ view h.constants (present h) key)
    ⊎ ((mounted_view h.constants (put_back h primary) key ≡ RollbackFailed) ⊎ (HaveOneTag (MayHaveHad h key)
    ⊎ IsNewer h primary key (mounted_view h.constants (put_back h primary) key)))
