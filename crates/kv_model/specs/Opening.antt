-- What contracts know of a store at one moment: plain data, with a code, so that it can stand in the view of a seat.
-- What a store was when it was handed in is its opening.
use Rattle.std.specs.Prelude.{ℕ, Bool, List, Option, refl}
use Rattle.std.specs.Coded.{Coded, coded_ℕ, coded_bool, coded_list, coded_option, coded×, coded⊎, code_by}
use Rattle.std.proofs.Common.{◌≡◌, ◌⊎◌, inl, inr}
use base.Stored.{coded_unit}
use Rattle.std.specs.FinMap as map
use Rattle.kv_model.specs.FlaggedMap.{Stored, FlaggedMap}
use Rattle.kv_model.specs.Write.{Write}
use Rattle.kv_model.specs.Constants.{Secure, Constants}
use Rattle.kv_model.specs.StoreState.{StoreState, OpenSet, Position, Iterators, Doubt}
use Rattle.kv_model.specs.Operations.{Operation, Get, Part, Info, Set, Remove, RemoveStart, Start, Add, Finish, Abort, OpenIterator, Next, CloseIterator, Reset}

-- the log of a plain store: its active area and that area's version, its records, whether its tail is erased, and the
-- bytes of the other area
pub record Log : Type 0 where
  pub active : ℕ
  pub version : ℕ
  pub records : List Write
  pub is_clean : Bool
  pub other : List ℕ

pub record Opening : Type 0 where
  pub constants : Constants
  -- where the store tells them
  pub state : Option StoreState
  pub log : Option Log
  pub read_faults : ℕ
  pub write_faults : ℕ
  -- of all its devices: no read fails, and no call fails
  pub steady : Bool
  pub sound : Bool
  -- of its devices, the primary's first
  pub labels : List (List ℕ)

-- ---- codes: each record as the tuple of its fields

abbrev bytes_code : Coded (List ℕ)
bytes_code = coded_list coded_ℕ

abbrev stored_code : Coded Stored
stored_code = code_by (ℕ × List ℕ) (coded× coded_ℕ bytes_code) (λ s. (s.flags, s.bytes)) (λ t. record { flags = t.0; bytes = t.1 }) (λ _. refl)

abbrev map_code : Coded FlaggedMap
map_code = map.code bytes_code stored_code

-- the operations with one list of bytes, those with more, those of iterators, and those with nothing
abbrev OneList : Type 0
OneList = List ℕ ⊎ (List ℕ ⊎ (List ℕ ⊎ (List ℕ ⊎ List ℕ)))

abbrev More : Type 0
More = (List ℕ × (ℕ × ℕ)) ⊎ ((List ℕ × (List ℕ × ℕ)) ⊎ (List ℕ × (ℕ × ℕ)))

abbrev OfIterators : Type 0
OfIterators = (ℕ × List ℕ) ⊎ (ℕ ⊎ ℕ)

abbrev Bare : Type 0
Bare = Unit {0} ⊎ (Unit {0} ⊎ Unit {0})

abbrev pub Shape : Type 0
Shape = OneList ⊎ (More ⊎ (OfIterators ⊎ Bare))

abbrev shape_code : Coded Shape
shape_code = coded⊎ (coded⊎ bytes_code (coded⊎ bytes_code (coded⊎ bytes_code (coded⊎ bytes_code bytes_code))))
    (coded⊎ (coded⊎ (coded× bytes_code (coded× coded_ℕ coded_ℕ)) (coded⊎ (coded× bytes_code (coded× bytes_code coded_ℕ)) (coded× bytes_code (coded× coded_ℕ coded_ℕ))))
    (coded⊎ (coded⊎ (coded× coded_ℕ bytes_code) (coded⊎ coded_ℕ coded_ℕ)) (coded⊎ coded_unit (coded⊎ coded_unit coded_unit))))

abbrev pub shape_of : Operation → Shape
shape_of (Get key) = inl (inl key)
shape_of (Info key) = inl (inr (inl key))
shape_of (Remove key) = inl (inr (inr (inl key)))
shape_of (RemoveStart key) = inl (inr (inr (inr (inl key))))
shape_of (Add value) = inl (inr (inr (inr (inr value))))
shape_of (Part key offset count) = inr (inl (inl (key, (offset, count))))
shape_of (Set key value flags) = inr (inl (inr (inl (key, (value, flags)))))
shape_of (Start key size flags) = inr (inl (inr (inr (key, (size, flags)))))
shape_of (OpenIterator n prefix) = inr (inr (inl (inl (n, prefix))))
shape_of (Next n) = inr (inr (inl (inr (inl n))))
shape_of (CloseIterator n) = inr (inr (inl (inr (inr n))))
shape_of Finish = inr (inr (inr (inl tt)))
shape_of Abort = inr (inr (inr (inr (inl tt))))
shape_of Reset = inr (inr (inr (inr (inr tt))))

abbrev pub shaped : Shape → Operation
shaped (inl (inl key)) = Get key
shaped (inl (inr (inl key))) = Info key
shaped (inl (inr (inr (inl key)))) = Remove key
shaped (inl (inr (inr (inr (inl key))))) = RemoveStart key
shaped (inl (inr (inr (inr (inr value))))) = Add value
shaped (inr (inl (inl (key, (offset, count))))) = Part key offset count
shaped (inr (inl (inr (inl (key, (value, flags)))))) = Set key value flags
shaped (inr (inl (inr (inr (key, (size, flags)))))) = Start key size flags
shaped (inr (inr (inl (inl (n, prefix))))) = OpenIterator n prefix
shaped (inr (inr (inl (inr (inl n))))) = Next n
shaped (inr (inr (inl (inr (inr n))))) = CloseIterator n
shaped (inr (inr (inr (inl nothing)))) = Finish
shaped (inr (inr (inr (inr (inl nothing))))) = Abort
shaped (inr (inr (inr (inr (inr nothing))))) = Reset

pub same_shape : (operation : Operation) → shaped (shape_of operation) ≡ operation
same_shape (Get key) = refl
same_shape (Info key) = refl
same_shape (Remove key) = refl
same_shape (RemoveStart key) = refl
same_shape (Add value) = refl
same_shape (Part key offset count) = refl
same_shape (Set key value flags) = refl
same_shape (Start key size flags) = refl
same_shape (OpenIterator n prefix) = refl
same_shape (Next n) = refl
same_shape (CloseIterator n) = refl
same_shape Finish = refl
same_shape Abort = refl
same_shape Reset = refl

abbrev pub operation_code : Coded Operation
operation_code = code_by Shape shape_code shape_of shaped same_shape

abbrev doubt_code : Coded Doubt
doubt_code = code_by (ℕ × Operation) (coded× coded_ℕ operation_code) (λ d. (d.who, d.operation)) (λ t. record { who = t.0; operation = t.1 }) (λ _. refl)

abbrev set_code : Coded OpenSet
set_code = code_by ((ℕ × List ℕ) × ((ℕ × ℕ) × (List ℕ × (Option (List ℕ) × Bool))))
    (coded× (coded× coded_ℕ bytes_code) (coded× (coded× coded_ℕ coded_ℕ) (coded× bytes_code (coded× (coded_option bytes_code) coded_bool))))
    (λ s. ((s.owner, s.key), ((s.flags, s.size), (s.bytes, (s.prior, s.is_remove)))))
    (λ t. record { owner = t.0.0; key = t.0.1; flags = t.1.0.0; size = t.1.0.1; bytes = t.1.1.0; prior = t.1.1.1.0; is_remove = t.1.1.1.1 })
    (λ _. refl)

abbrev position_code : Coded Position
position_code = code_by (List ℕ × Option (List ℕ)) (coded× bytes_code (coded_option bytes_code)) (λ p. (p.prefix, p.last))
    (λ t. record { prefix = t.0; last = t.1 }) (λ _. refl)

abbrev iterators_code : Coded Iterators
iterators_code = map.code (coded× coded_ℕ coded_ℕ) position_code

abbrev pub state_code : Coded StoreState
state_code = code_by ((FlaggedMap × FlaggedMap) × ((Option OpenSet × Iterators) × (ℕ × Option Doubt)))
    (coded× (coded× map_code map_code) (coded× (coded× (coded_option set_code) iterators_code) (coded× coded_ℕ (coded_option doubt_code))))
    (λ s. ((s.primary, s.rollback), ((s.open_set, s.iterators), (s.next_vector, s.doubt))))
    (λ t. record { primary = t.0.0; rollback = t.0.1; open_set = t.1.0.0; iterators = t.1.0.1; next_vector = t.1.1.0; doubt = t.1.1.1 })
    (λ _. refl)

abbrev secure_code : Coded Secure
secure_code = code_by (List ℕ × (ℕ × ℕ)) (coded× bytes_code (coded× coded_ℕ coded_ℕ)) (λ s. (s.root, (s.prog, s.room)))
    (λ t. record { root = t.0; prog = t.1.0; room = t.1.1 }) (λ _. refl)

abbrev pub constants_code : Coded Constants
constants_code = code_by ((ℕ × ℕ) × (ℕ × Option Secure)) (coded× (coded× coded_ℕ coded_ℕ) (coded× coded_ℕ (coded_option secure_code)))
    (λ c. ((c.hash_bits, c.prog), (c.room, c.secure))) (λ t. record { hash_bits = t.0.0; prog = t.0.1; room = t.1.0; secure = t.1.1 }) (λ _. refl)

abbrev write_code : Coded Write
write_code = code_by (ℕ × (List ℕ × List ℕ)) (coded× coded_ℕ (coded× bytes_code bytes_code)) (λ w. (w.flags, (w.key, w.value)))
    (λ t. record { flags = t.0; key = t.1.0; value = t.1.1 }) (λ _. refl)

abbrev pub log_code : Coded Log
log_code = code_by ((ℕ × ℕ) × (List Write × (Bool × List ℕ))) (coded× (coded× coded_ℕ coded_ℕ) (coded× (coded_list write_code) (coded× coded_bool bytes_code)))
    (λ l. ((l.active, l.version), (l.records, (l.is_clean, l.other))))
    (λ t. record { active = t.0.0; version = t.0.1; records = t.1.0; is_clean = t.1.1.0; other = t.1.1.1 }) (λ _. refl)

abbrev pub opening_code : Coded Opening
opening_code = code_by ((Constants × (Option StoreState × Option Log)) × ((ℕ × ℕ) × ((Bool × Bool) × List (List ℕ))))
    (coded× (coded× constants_code (coded× (coded_option state_code) (coded_option log_code)))
    (coded× (coded× coded_ℕ coded_ℕ) (coded× (coded× coded_bool coded_bool) (coded_list bytes_code))))
    (λ o. ((o.constants, (o.state, o.log)), ((o.read_faults, o.write_faults), ((o.steady, o.sound), o.labels))))
    (λ t. record { constants = t.0.0; state = t.0.1.0; log = t.0.1.1; read_faults = t.1.0.0; write_faults = t.1.0.1; steady = t.1.1.0.0; sound = t.1.1.0.1; labels = t.1.1.1 })
    (λ _. refl)
