-- Ideals (document 01: "An ideal here is ..").
--   Basis      seven polynomials U, M0, M1, M2, N0, N1, N2
--   lin In     the lattice Λ = { αU + βM + γN }, and what lies in it
--   Coords     α, β, γ as exact quotients by e and U: what lies in Λ (`coords_of`, `in_of` in proofs/Check)
--   Holds      a fraction a/b of polynomials lies in Λ/U
--   Ideal      Λ/U, that is the lattice of 1, m = M/U, n = N/U, is an ideal
-- No fraction of elements is written: v/U is in Λ/U where v is in Λ. That `only` follows from the rank, and that six memberships
-- make an ideal, is in proofs/Check; that det divides U in proofs/Determinant.
use Rattle.std.specs.Prelude.{◌≡◌, ◌≢◌}
use Rattle.math_valued.specs.Polynomial.{polys, Divides}
use Rattle.math_ideals.specs.Setting.{Setting, P}
use Rattle.math_ideals.specs.Element.{O, sc, el_r, el_w}

module _ (S : Setting) where
  open S use {𝓥}
  open (polys 𝓥).ops use {add as ◌⊞◌, mul as ◌⊠◌, neg as ⊟◌}
  open (O S).ops use {add as ◌⊕◌, mul as ◌⊗◌}

  infixl 60 ◌⊕◌ ◌⊞◌
  infixl 70 ◌⊗◌ ◌⊠◌
  infix 80 ⊟◌
  -- "With m = (M0 + M1r + M2w)/U and n = (N0 + N1r + N2w)/U"
  pub record Basis : Type 0 where
    pub U : P S
    pub M : (O S).El
    pub N : (O S).El

  abbrev pub lin : Basis → P S → P S → P S → (O S).El
  lin B α β γ = sc S α ⊗ sc S B.U ⊕ sc S β ⊗ B.M ⊕ sc S γ ⊗ B.N

  pub record In (B : Basis) (v : (O S).El) : Type 0 where
    pub α : P S
    pub β : P S
    pub γ : P S
    pub eq : v ≡ lin B α β γ

  -- e = M1 N2 − M2 N1; the rank is 3 where U and e are not 0
  abbrev pub det : Basis → P S
  det B = B.M.b ⊠ B.N.c ⊞ ⊟ (B.M.c ⊠ B.N.b)

  -- Cramer's rule: v is in Λ exactly where three divisions are exact, two by e and one by U
  pub record Coords (B : Basis) (v : (O S).El) : Type 0 where
    pub α : P S
    pub β : P S
    pub γ : P S
    pub e_β : v.b ⊠ B.N.c ⊞ ⊟ (v.c ⊠ B.N.b) ≡ det B ⊠ β
    pub e_γ : v.c ⊠ B.M.b ⊞ ⊟ (v.b ⊠ B.M.c) ≡ det B ⊠ γ
    pub U_α : v.a ⊞ ⊟ (β ⊠ B.M.a ⊞ γ ⊠ B.N.a) ≡ B.U ⊠ α

  -- v/U = a/b for a v in Λ
  abbrev pub Holds : Basis → P S → P S → Type 0
  Holds B a b = (v : (O S).El) × In B v × (sc S b ⊗ v ≡ sc S a ⊗ sc S B.U)

  -- "a lattice of rank 3 over the polynomials, containing 1 and, of the fractions of polynomials, only the polynomials, closed under
  -- products with r and w"
  pub record Ideal (B : Basis) : Type 0 where
    -- rank 3
    pub U≢ : B.U.0 ≢ 𝓥.L.ops.𝟎
    pub rank : (det B).0 ≢ 𝓥.L.ops.𝟎
    -- 1, which is U/U
    pub one : In B (sc S B.U)
    -- a fraction a/b in it is a polynomial
    pub only : (a b : P S) → b.0 ≢ 𝓥.L.ops.𝟎 → Holds B a b → Divides 𝓥 b a
    -- r v and w v for every v in it
    pub by_r : (v : (O S).El) → In B v → In B (el_r S ⊗ v)
    pub by_w : (v : (O S).El) → In B v → In B (el_w S ⊗ v)
