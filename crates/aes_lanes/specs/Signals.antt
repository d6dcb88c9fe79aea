-- The signals between the parts of the S-box, as lists, the last first.
use Rattle.std.specs.Prelude.{ℕ, List, [], ◌∷◌}
use Rattle.aes_lanes.specs.declared.s_box.Sums.{Sums}
use Rattle.aes_lanes.specs.declared.s_box.Norm.{Norm}
use Rattle.aes_lanes.specs.declared.s_box.Inverse.{Inverse}
use Rattle.aes_lanes.specs.declared.s_box.Products.{Products}

abbrev pub sums_in : Sums → List (List ℕ)
sums_in s =
    s.y21 ∷ s.y20 ∷ s.y19 ∷ s.y18 ∷ s.y17 ∷ s.y16 ∷ s.y15 ∷ s.y14 ∷ s.y13
    ∷ s.y12 ∷ s.y11 ∷ s.y10 ∷ s.y9 ∷ s.y8 ∷ s.y7 ∷ s.y6 ∷ s.y5 ∷ s.y4
    ∷ s.y3 ∷ s.y2 ∷ s.y1 ∷ s.x7 ∷ []

abbrev pub norm_in : Norm → List (List ℕ)
norm_in s =
    s.t24 ∷ s.t23 ∷ s.t22 ∷ s.t21 ∷ []

abbrev pub inverse_in : Inverse → List (List ℕ)
inverse_in s =
    s.t45 ∷ s.t44 ∷ s.t43 ∷ s.t42 ∷ s.t41 ∷ s.t40 ∷ s.t37 ∷ s.t33 ∷ s.t29 ∷ []

abbrev pub products_in : Products → List (List ℕ)
products_in s =
    s.z17 ∷ s.z16 ∷ s.z15 ∷ s.z14 ∷ s.z13 ∷ s.z12 ∷ s.z11 ∷ s.z10 ∷ s.z9
    ∷ s.z8 ∷ s.z7 ∷ s.z6 ∷ s.z5 ∷ s.z4 ∷ s.z3 ∷ s.z2 ∷ s.z1 ∷ s.z0 ∷ []
