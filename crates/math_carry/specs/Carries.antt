-- How the order of one setting goes to that of another over the same series.
--   El 𝓥           the elements A + Br + Cw by their coordinates: one type for all settings over 𝓥
--   Carries s s'   a ring isomorphism φ of the two orders that fixes the polynomials, keeps A and X = Br + Cw, and keeps Y = Br − Cw up to
--                  a sign σ
--   carry          a basis, carried over: U, φM, σφN
--   stretch        the element A, xB, yC
--   exchange       the element A, xC, yB
--   Factors        the constants of two pairs: G and H take α and β, B and C take x and y, with x³αβ² = 1 and y = βx²
--   Same, Other    the second pair is αG, βH; or αH, βG
--   Stretched      φ multiplies B and C by constants, and σ = 1: the pairs have the same order
--   Exchanged      φ exchanges B and C too, and σ = −1: they have the other
-- In proofs/: Inverse (`back`, `after`: the inverse and the composition; `ev_kept`: the value stays), Pairs (`swap`, `scaled`: exchanged
-- and scaled pairs), Meets (pairs that differ by constants, in one order or the other), Transport (bases, chains, closings and units carry over), Same
-- (one period, one degree sum, one unit).
use Rattle.std.specs.Prelude.{◌≡◌}
use Rattle.math_triple.specs.Tri.{Tri}
use Rattle.math_valued.specs.Val.{Valued}
use Rattle.math_valued.specs.Polynomial.{polys, Poly, IsUnit}
use Rattle.math_ideals.specs.Element.{O, sc, X, Y}
use Rattle.math_ideals.specs.Ideal.{Basis}
use Rattle.math_ideals.specs.Setting.{Roots, at}

abbrev pub El : Valued → Type 0
El 𝓥 = Tri (Poly 𝓥)

module _ {𝓥 : Valued} (s s' : Roots 𝓥) where
  pub record Carries : Type 0 where
    pub to : El 𝓥 → El 𝓥
    pub from : El 𝓥 → El 𝓥
    pub to_from : (v : El 𝓥) → to (from v) ≡ v
    pub from_to : (v : El 𝓥) → from (to v) ≡ v
    -- a ring homomorphism that fixes the polynomials
    pub add : (u v : El 𝓥) → to ((O (at s)).ops.add u v) ≡ (O (at s')).ops.add (to u) (to v)
    pub mul : (u v : El 𝓥) → to ((O (at s)).ops.mul u v) ≡ (O (at s')).ops.mul (to u) (to v)
    pub poly : (a : Poly 𝓥) → to (sc (at s) a) ≡ sc (at s') a
    -- the sizes
    pub first : (v : El 𝓥) → (to v).a ≡ v.a
    pub X_kept : (v : El 𝓥) → X (at s') (to v) ≡ X (at s) v
    pub σ : Poly 𝓥
    pub sign : (polys 𝓥).ops.mul σ σ ≡ (polys 𝓥).ops.𝟏
    pub Y_kept : (v : El 𝓥) → Y (at s') (to v) ≡ 𝓥.L.ops.mul σ.0 (Y (at s) v)

  abbrev pub carry : Carries → Basis (at s) → Basis (at s')
  carry c B = record { U = B.U; M = c.to B.M; N = (O (at s')).ops.mul (sc (at s') c.σ) (c.to B.N) }

module _ (𝓥 : Valued) where
  open (polys 𝓥).ops use {mul as ◌⊠◌, neg as ⊟◌, 𝟏 as 1ₚ}

  infixl 70 ◌⊠◌
  infix 80 ⊟◌
  abbrev pub stretch : Poly 𝓥 → Poly 𝓥 → El 𝓥 → El 𝓥
  stretch x y v = record { a = v.a; b = x ⊠ v.b; c = y ⊠ v.c }

  abbrev pub exchange : Poly 𝓥 → Poly 𝓥 → El 𝓥 → El 𝓥
  exchange x y v = record { a = v.a; b = x ⊠ v.c; c = y ⊠ v.b }

  pub record Factors : Type 0 where
    pub α : Poly 𝓥
    pub β : Poly 𝓥
    pub x : Poly 𝓥
    pub y : Poly 𝓥
    pub α_unit : IsUnit 𝓥 α
    pub β_unit : IsUnit 𝓥 β
    pub x_unit : IsUnit 𝓥 x
    pub y_unit : IsUnit 𝓥 y
    pub cube : x ⊠ x ⊠ x ⊠ (α ⊠ (β ⊠ β)) ≡ 1ₚ
    pub square : y ≡ β ⊠ (x ⊠ x)

  module _ (s s' : Roots 𝓥) where
    abbrev pub Same : Factors → Type 0
    Same k = (s'.G ≡ k.α ⊠ s.G) × (s'.H ≡ k.β ⊠ s.H)

    abbrev pub Other : Factors → Type 0
    Other k = (s'.G ≡ k.α ⊠ s.H) × (s'.H ≡ k.β ⊠ s.G)

    pub record Stretched (c : Carries s s') : Type 0 where
      pub factors : Factors
      pub pair : Same factors
      pub rows : (v : El 𝓥) → c.to v ≡ stretch factors.x factors.y v
      pub plus : c.σ ≡ 1ₚ

    pub record Exchanged (c : Carries s s') : Type 0 where
      pub factors : Factors
      pub pair : Other factors
      pub rows : (v : El 𝓥) → c.to v ≡ exchange factors.x factors.y v
      pub minus : c.σ ≡ ⊟ 1ₚ
