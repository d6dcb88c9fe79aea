-- What contracts see of a reader of keys, and what a read does to it.
use Rattle.std.specs.Prelude.{◌≡◌, ◌≢◌, ℕ, ◌≤◌, List, Bool, IsTrue, Option, Some, None, Result, IfErr, OnErr, OnOk}
use Rattle.std.specs.Option.{ForSome}
use Rattle.std.specs.Ordering.{nat_cmp}
use Rattle.std.specs.FinMap.{FinMap, contains_key, get}
use Rattle.base_core.specs.Counts.{Rose, counted}
use Rattle.kv_model.specs.declared.error.KvError.{KvError}
use Rattle.kv_model.specs.declared.error.KvError.TheVariants.{ReadFault, Corrupt}

-- from offsets to the bytes of keys
abbrev pub KeyMap : Type 0
KeyMap = FinMap nat_cmp (List ℕ)

pub record ReaderState : Type 1 where
  -- no offset that is read is greater
  pub bound : ℕ
  -- how many low bits of a key's CRC are its hash
  pub hash_bits : ℕ
  -- how often a read has failed
  pub read_faults : ℕ
  -- how often a read was refused, for whatever cause
  pub refusals : ℕ
  -- no read fails
  pub steady : Bool
  -- no call of what it reads from fails
  pub sound : Bool
  -- the keys, where the reader tells them
  pub keys : Option KeyMap

-- the offset is within the bound, and a told map has it
pub record CanReadKey (s : ReaderState) (offset : ℕ) : Type 0 where
  pub within : offset ≤ s.bound
  pub has : ForSome s.keys (λ keys. IsTrue (contains_key keys offset))

-- What every read keeps, whatever it answers.
pub record Keeps (old new : ReaderState) : Type 0 where
  pub bound : new.bound ≡ old.bound
  pub hash_bits : new.hash_bits ≡ old.hash_bits
  pub keys : new.keys ≡ old.keys
  pub read_faults : old.read_faults ≤ new.read_faults
  pub steady : IsTrue old.steady → IsTrue new.steady
  pub sound : IsTrue old.sound → IsTrue new.sound

-- Neither count has changed.
pub record CountsStand (old new : ReaderState) : Type 0 where
  pub of_faults : new.read_faults ≡ old.read_faults
  pub of_refusals : new.refusals ≡ old.refusals

-- A reader may refuse with these alone: a read that failed, counted, and never on a steady reader; and a header that is
-- broken, or bytes that are no key, which is no fault, and which a told map never shows.
abbrev pub IsRefusal : ReaderState → ReaderState → KvError → Type 0
IsRefusal old new ReadFault = Rose old.read_faults new.read_faults × (IsTrue old.steady → ⊥)
IsRefusal old new (Corrupt stored computed) = (stored ≢ computed) × (old.keys ≡ None) × (new.read_faults ≡ old.read_faults)
IsRefusal old new _ = ⊥

-- What a call has done to its reader: behind Ok no read of it was refused, and behind a refusal one was, for this cause.
pub record HasRead {T : Type 0} (old new : ReaderState) (result : Result T KvError) : Type 0 where
  pub kept : Keeps old new
  pub answered : OnOk result (CountsStand old new)
  pub refused : OnErr result (new.refusals ≡ counted old.refusals)
  pub cause : IfErr result (IsRefusal old new)

-- A read of the key at an offset, into a key that stands for these bytes afterwards.
pub record ReadsKey {T : Type 0} (old new : ReaderState) (offset : ℕ) (key : List ℕ) (result : Result T KvError) : Type 0 where
  pub read : HasRead old new result
  pub bytes : ForSome old.keys (λ keys. OnOk result (get keys offset ≡ Some key))
