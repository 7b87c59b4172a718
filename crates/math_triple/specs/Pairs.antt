-- Pairs b, c, for elements b r + c w, and changes of basis between them.
--   Pt A                 b and c in A
--   Changed f p q m n    m = αp + βq and n = γp + δq, where αδ − βγ has an inverse: p, q and m, n have one span. The coefficients are of a
--                        ring R and come to the ring L of the coordinates by f (polynomials among series, or f the identity)
-- In proofs/Pairs: it is an equivalence, and what it does to the determinant.
use Rattle.std.specs.Prelude.{◌≡◌}
use Rattle.math_ring.specs.Ring.{CRing}

pub record Pt (A : Type 0) : Type 0 where
  pub b : A
  pub c : A

module _ (R L : CRing) (f : R.El → L.El) where
  open R.ops use {add as ◌⊞◌, mul as ◌⊠◌, neg as ⊟◌, 𝟏 as 1ᵣ}
  open L.ops use {add as ◌+◌, mul as ◌*◌}

  infixl 60 ◌+◌ ◌⊞◌
  infixl 70 ◌*◌ ◌⊠◌
  infix 80 ⊟◌
  pub record Changed (p q m n : Pt L.El) : Type 0 where
    pub α : R.El
    pub β : R.El
    pub γ : R.El
    pub δ : R.El
    pub unit : (j : R.El) × (1ᵣ ≡ (α ⊠ δ ⊞ ⊟ (β ⊠ γ)) ⊠ j)
    pub m_b : m.b ≡ f α * p.b + f β * q.b
    pub m_c : m.c ≡ f α * p.c + f β * q.c
    pub n_b : n.b ≡ f γ * p.b + f δ * q.b
    pub n_c : n.c ≡ f γ * p.c + f δ * q.c
