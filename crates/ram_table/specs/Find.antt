-- Where a key stands in a table, or would stand.
use Rattle.std.specs.Prelude.{◌≡◌, ℕ, ◌<◌, ◌≤◌, ◌↔◌, ◌==◌, List, [], length, true, false, IsTrue, count_by}
use Rattle.std.specs.Option.{ForSome, unwrap_or}
use Rattle.std.specs.FinMap.{contains_key, get}
use Rattle.kv_model.specs.Crc.{key_hash}
use Rattle.kv_model.specs.KeyOrder.{is_below}
use Rattle.ram_table.specs.declared.table.Entry.{Entry}
use Rattle.ram_table.specs.declared.table.Place.{Place}
use Rattle.ram_table.specs.Reader.{KeyMap, ReaderState}
use Rattle.ram_table.specs.Table.{entry_at}

-- the key of the entry at a place
abbrev pub key_at : KeyMap → List Entry → ℕ → List ℕ
key_at keys entries i = unwrap_or (get keys (entry_at entries i).offset) []

-- no offset is greater than the bound
abbrev pub AreWithin : ℕ → List Entry → Type 0
AreWithin bound entries = (i : ℕ) → i < length entries → (entry_at entries i).offset ≤ bound

-- Each entry has a key's hash and offset, and these keys ascend in the key order.
pub record IsIndexOf (hash_bits : ℕ) (keys : KeyMap) (entries : List Entry) : Type 0 where
  pub has : (i : ℕ) → i < length entries → IsTrue (contains_key keys (entry_at entries i).offset)
  pub hash : (i : ℕ) → i < length entries → (entry_at entries i).hash ≡ key_hash hash_bits (key_at keys entries i)
  pub ascend : (i j : ℕ) → i < j → j < length entries → IsTrue (is_below hash_bits (key_at keys entries i) (key_at keys entries j))

-- Entries that may be searched with a reader: no offset is greater than its bound, and where it tells the keys, they are
-- an index of these.
pub record CanFind (s : ReaderState) (entries : List Entry) : Type 0 where
  pub within : AreWithin s.bound entries
  pub index : ForSome s.keys (λ keys. IsIndexOf s.hash_bits keys entries)

-- The place is at most the length, and below it where the key is found.
pub record IsInside (entries : List Entry) (place : Place) : Type 0 where
  pub most : place.at ≤ length entries
  pub there : place.found ≡ true → place.at < length entries

-- where the key is found, this holds of the offset of its entry
abbrev pub WhereFound : List Entry → (ℕ → Type 0) → Place → Type 0
WhereFound entries Holds place = place.found ≡ true → Holds (entry_at entries place.at).offset

-- some entry's key is this key
pub record HasKey (keys : KeyMap) (entries : List Entry) (key : List ℕ) : Type 0 where
  pub place : ℕ
  pub inside : place < length entries
  pub is : key_at keys entries place ≡ key

-- The place of a key: the keys below it stand before the place. Where the key is found it stands at the place, and else
-- the keys above it stand from the place on.
pub record IsPlaceOf (hash_bits : ℕ) (keys : KeyMap) (entries : List Entry) (key : List ℕ) (place : Place) : Type 0 where
  pub found : IsTrue place.found ↔ HasKey keys entries key
  pub here : place.found ≡ true → key_at keys entries place.at ≡ key
  pub below : (i : ℕ) → i < place.at → IsTrue (is_below hash_bits (key_at keys entries i) key)
  pub above : place.found ≡ false → (i : ℕ) → place.at ≤ i → i < length entries
      → IsTrue (is_below hash_bits key (key_at keys entries i))

-- how many entries have this hash
abbrev pub count_hash : ℕ → List Entry → ℕ
count_hash hash entries = count_by (λ entry. entry.hash == hash) entries

-- the entries' hashes don't fall
abbrev pub AscendByHash : List Entry → Type 0
AscendByHash entries = (i j : ℕ) → i < j → j < length entries → (entry_at entries i).hash ≤ (entry_at entries j).hash

-- The first place whose key stands above this key: the keys before it are this key or stand below.
pub record IsFirstAbove (hash_bits : ℕ) (keys : KeyMap) (entries : List Entry) (key : List ℕ) (at : ℕ) : Type 0 where
  pub before : (i : ℕ) → i < at → is_below hash_bits key (key_at keys entries i) ≡ false
  pub above : (i : ℕ) → at ≤ i → i < length entries → IsTrue (is_below hash_bits key (key_at keys entries i))
