-- The S-box as a circuit of 32 ands and 87 exclusive ors: that of Boyar and Peralta, in their names for the signals
-- (x0 is the highest bit of the byte, s0 that of its substitute). It has five parts, one after another.
use Rattle.std.specs.Prelude.{List, [], ◌∷◌, ◌++◌}
use Rattle.aes_lanes.specs.Circuit.{Part, Signals, outputs_of}
use Rattle.aes_lanes.specs.Circuit.Gate.{Xor, And}

-- the sums of input bits that the products need: y1 to y21 and x7
abbrev pub sums : Part
sums = record {
  inputs = 8;
  gates =
      Xor 3 5 ∷ Xor 0 6 ∷ Xor 0 3 ∷ Xor 0 5 ∷ Xor 1 2 ∷ Xor 12 7
      ∷ Xor 13 3 ∷ Xor 9 8 ∷ Xor 13 0 ∷ Xor 13 6 ∷ Xor 17 11 ∷ Xor 4 15
      ∷ Xor 19 5 ∷ Xor 19 1 ∷ Xor 20 7 ∷ Xor 20 12 ∷ Xor 21 10 ∷ Xor 7 24
      ∷ Xor 23 24 ∷ Xor 23 11 ∷ Xor 12 24 ∷ Xor 9 28 ∷ Xor 0 28 ∷ [];
  outputs = 29 ∷ 21 ∷ 27 ∷ 30 ∷ 26 ∷ 28 ∷ 20 ∷ 8 ∷ 9 ∷ 15 ∷ 24 ∷ 23 ∷ 10 ∷ 11 ∷ 25 ∷ 22 ∷ 17 ∷ 14 ∷ 18 ∷ 16 ∷ 13 ∷ 7 ∷ [];
}

-- the norm of the byte: an element of the field of 2 ^ 4 elements, t21 to t24
abbrev pub norm : Part
norm = record {
  inputs = 22;
  gates =
      And 12 15 ∷ And 3 6 ∷ Xor 23 22 ∷ And 4 0 ∷ Xor 25 22 ∷ And 13 16
      ∷ And 5 1 ∷ Xor 28 27 ∷ And 2 7 ∷ Xor 30 27 ∷ And 9 11 ∷ And 14 17
      ∷ Xor 33 32 ∷ And 8 10 ∷ Xor 35 32 ∷ Xor 24 34 ∷ Xor 26 36 ∷ Xor 29 34
      ∷ Xor 31 36 ∷ Xor 37 20 ∷ Xor 38 19 ∷ Xor 39 21 ∷ Xor 40 18 ∷ [];
  outputs = 44 ∷ 43 ∷ 42 ∷ 41 ∷ [];
}

-- the inverse of the norm, and sums of its bits: t29, t33, t37, t40 to t45
abbrev pub inverse : Part
inverse = record {
  inputs = 4;
  gates =
      Xor 0 1 ∷ And 0 2 ∷ Xor 3 5 ∷ And 4 6 ∷ Xor 7 1 ∷ Xor 2 3
      ∷ Xor 1 5 ∷ And 10 9 ∷ Xor 11 3 ∷ Xor 2 12 ∷ Xor 6 12 ∷ And 3 14
      ∷ Xor 15 13 ∷ Xor 6 15 ∷ And 8 17 ∷ Xor 4 18 ∷ Xor 19 16 ∷ Xor 8 12
      ∷ Xor 8 19 ∷ Xor 12 16 ∷ Xor 21 20 ∷ [];
  outputs = 24 ∷ 23 ∷ 22 ∷ 21 ∷ 20 ∷ 19 ∷ 16 ∷ 12 ∷ 8 ∷ [];
}

-- the inverse times the sums of input bits: z0 to z17
abbrev pub products : Part
products = record {
  inputs = 31;
  gates =
      And 29 15 ∷ And 24 6 ∷ And 23 0 ∷ And 28 16 ∷ And 25 1 ∷ And 22 7
      ∷ And 27 11 ∷ And 30 17 ∷ And 26 10 ∷ And 29 12 ∷ And 24 3 ∷ And 23 4
      ∷ And 28 13 ∷ And 25 5 ∷ And 22 2 ∷ And 27 9 ∷ And 30 14 ∷ And 26 8 ∷ [];
  outputs = 48 ∷ 47 ∷ 46 ∷ 45 ∷ 44 ∷ 43 ∷ 42 ∷ 41 ∷ 40 ∷ 39 ∷ 38 ∷ 37 ∷ 36 ∷ 35 ∷ 34 ∷ 33 ∷ 32 ∷ 31 ∷ [];
}

-- the bits of the substitute, s0 the highest; ones is true
abbrev pub substitutes : Part
substitutes = record {
  inputs = 19;
  gates =
      Xor 15 16 ∷ Xor 10 11 ∷ Xor 5 13 ∷ Xor 9 10 ∷ Xor 2 12 ∷ Xor 2 5
      ∷ Xor 7 8 ∷ Xor 0 3 ∷ Xor 6 7 ∷ Xor 16 17 ∷ Xor 12 21 ∷ Xor 23 26
      ∷ Xor 4 19 ∷ Xor 3 27 ∷ Xor 19 30 ∷ Xor 14 30 ∷ Xor 25 31 ∷ Xor 22 31
      ∷ Xor 4 32 ∷ Xor 34 35 ∷ Xor 1 36 ∷ Xor 37 38 ∷ Xor 35 18 ∷ Xor 33 18
      ∷ Xor 40 18 ∷ Xor 32 36 ∷ Xor 29 41 ∷ Xor 21 42 ∷ Xor 26 39 ∷ Xor 24 39
      ∷ Xor 20 38 ∷ Xor 47 18 ∷ Xor 37 50 ∷ Xor 28 43 ∷ [];
  outputs = 46 ∷ 45 ∷ 49 ∷ 48 ∷ 47 ∷ 52 ∷ 51 ∷ 44 ∷ [];
}

-- the parts behind the sums
abbrev pub substitutes_from : {A : Type 0} → Signals A → A → List A → List A
substitutes_from s ones known =
    outputs_of s substitutes (ones ∷ outputs_of s products (outputs_of s inverse (outputs_of s norm known) ++ known))

-- the whole: the bits of a byte, the lowest first, to those of its substitute
abbrev pub s_box_bits : {A : Type 0} → Signals A → A → List A → List A
s_box_bits s ones inputs = substitutes_from s ones (outputs_of s sums inputs)
