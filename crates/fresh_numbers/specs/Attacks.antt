-- The attack that fresh numbers bar. A key is set to a first value, then to a second one, and the primary map is copied.
-- Then the key is removed, and a run that begins with an old number sets the first value again: its record is the very
-- one that the copy's record replaces.
use Rattle.std.specs.Prelude.{ℕ, ◌≤◌, List, Some, None}
use Rattle.std.specs.FinMap.{empty, insert}
use Rattle.kv_model.specs.Constants.{Constants, Secure}
use Rattle.kv_model.specs.StoreState.{Maps}
use Rattle.secure_record.specs.Sealed.{seal}
use Rattle.sealed_pair.specs.Heal.{needed_for_tag}
use Rattle.sealed_pair.specs.Laws.{MaySeal}
use Rattle.sealed_pair.specs.Sealing.{record_entry, secure_of, tag_of, with_record}

-- the two values, the number of the first, taken twice, and that of the second
pub record Attack : Type 0 where
  pub constants : Constants
  pub key : List ℕ
  pub first : List ℕ
  pub number : ℕ
  pub second : List ℕ
  pub later : ℕ

-- with replay protection alone
abbrev pub protected_flags : ℕ
protected_flags = 8

module _ (a : Attack) where
  abbrev its_secure : Secure
  its_secure = secure_of a.constants

  abbrev pub first_record : List ℕ
  first_record = seal its_secure.root a.key protected_flags a.number None a.first

  -- it replaces the tag of the first
  abbrev pub second_record : List ℕ
  second_record = seal its_secure.root a.key protected_flags a.later (Some (tag_of first_record)) a.second

  -- both maps once the first value is set again, with the same number
  abbrev pub set_again : Maps
  set_again = with_record (record { primary = empty; rollback = empty }) a.key protected_flags first_record

  -- the copy put back
  abbrev pub copy_put_back : Maps
  copy_put_back = record { primary = insert empty a.key (record_entry protected_flags second_record); rollback = set_again.rollback }

  -- both values may be sealed, and a mount has room to complete a set
  pub record IsPossible : Type 0 where
    pub may_first : MaySeal protected_flags a.number None a.first
    pub may_second : MaySeal protected_flags a.later (Some (tag_of first_record)) a.second
    pub room : needed_for_tag its_secure set_again a.key ≤ its_secure.room
