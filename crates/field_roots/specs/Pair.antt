-- The pair r, w of a cubic field, in any ring of series.
--   deg_r, deg_w             (deg G + 2 deg H)/3 and (2 deg G + deg H)/3, the degrees of r and w
--   RootPair G H d c r w   r² = H w and r w = G H, and r has degree d with leading coefficient c
-- In proofs/: Pair (it follows that r³ = G H² and deg w = 2 d − deg H; there is such a pair where G H² has a cube root), Root (each accepted field
-- has one; r³ = D, w² = G r, w³ = G² H and that there is no other are theorems of crate math_ideals).
use Rattle.std.specs.Prelude.{◌≡◌, ℕ, ◌+◌, ◌*◌, ◌/◌}
use Rattle.math_ring.specs.Ring.{CRing}
use Rattle.math_valued.specs.Val.{Valued}

abbrev pub deg_r : ℕ → ℕ → ℕ
deg_r d e = (d + 2 * e) / 3

abbrev pub deg_w : ℕ → ℕ → ℕ
deg_w d e = (2 * d + e) / 3

module _ (𝓥 : Valued) where
  open 𝓥 use {K, L, Lead}
  open L.ops use {mul as ◌⊗◌}

  infixl 70 ◌⊗◌
  pub record RootPair (G H : L.El) (d : ℕ) (c : K.El) (r w : L.El) : Type 0 where
    pub r_r : r ⊗ r ≡ H ⊗ w
    pub r_w : r ⊗ w ≡ G ⊗ H
    pub lead : Lead r d 0 c
