-- Circuits of exclusive ors and ands over any type of signals: Booleans as 0 and 1, or the lanes of vectors.
use Rattle.std.specs.Prelude.{ℕ, ◌-◌, ◌+◌, List, [], ◌∷◌, map, length, slice_index_or, replicate, bit_xor, bit_and}
use Rattle.std.specs.Simd.Lanes.{zip2}

-- a gate over two signals. Signals are numbered as they come: the inputs, the last of their list first, then the gates
pub data Gate : Type 0 where
  Xor : (left : ℕ) (right : ℕ) → Gate
  And : (left : ℕ) (right : ℕ) → Gate

-- part of a circuit: the number of its inputs, its gates, and the signals that it gives
pub record Part : Type 0 where
  pub inputs : ℕ
  pub gates : List Gate
  pub outputs : List ℕ

-- what the gates compute, and what a signal that doesn't exist has
pub record Signals (A : Type 0) : Type 0 where
  pub xor : A → A → A
  pub «and» : A → A → A
  pub none : A

-- signal n of a list of so many, the last first
abbrev pub signal : {A : Type 0} → Signals A → ℕ → List A → ℕ → A
signal s count signals n = slice_index_or signals (count - (n + 1)) s.none

-- the signals with those of the gates before them
abbrev pub evaluated : {A : Type 0} → Signals A → ℕ → List Gate → List A → List A
evaluated s count [] signals = signals
evaluated s count (Xor i j ∷ gates) signals =
    evaluated s (count + 1) gates (s.xor (signal s count signals i) (signal s count signals j) ∷ signals)
evaluated s count (And i j ∷ gates) signals =
    evaluated s (count + 1) gates (s.«and» (signal s count signals i) (signal s count signals j) ∷ signals)

-- what a part gives
unfoldable pub outputs_of : {A : Type 0} → Signals A → Part → List A → List A
outputs_of s part inputs = map (signal s (part.inputs + length part.gates) (evaluated s part.inputs part.gates inputs)) part.outputs

-- bits, as 0 and 1
abbrev pub bits : Signals ℕ
bits = record { xor = bit_xor; «and» = bit_and; none = 0 }

-- vectors of sixteen bytes
abbrev pub lanes : Signals (List ℕ)
lanes = record { xor = zip2 bit_xor; «and» = zip2 bit_and; none = replicate 16 0 }
