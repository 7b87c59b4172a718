-- Dividing an ideal by m without cofactor or norm: the numbers that the step reckons with.
--   Parts       r m = x0 + x1 m + x2 n and w m = y0 + y1 m + y2 n, as exact quotients by e and by U
--   x0 .. y2    the six, and dd = x2 y0 − x0 y2
--   pt c₁ c₂    c₁ (r − x1) + c₂ (w − y1): an element settled by its pair c₁, c₂
--   Cut         g, the greatest common divisor of x0, x2, y0, y2, and the four without it; `four` is their determinant
--   base        d, P, Q without their common factor g: the next ideal is spanned by 1, P/d, Q/d
-- Theorems (proofs/Parts): the parts exist and there is one choice, so does the common factor, d e U = N(M), and `base` spans the next ideal.
use Rattle.std.specs.Prelude.{◌≡◌}
use Rattle.math_valued.specs.Polynomial.{polys, Divides, IsUnit}
use Rattle.math_ideals.specs.Setting.{Setting, P}
use Rattle.math_ideals.specs.Element.{O, times_r, times_w}
use Rattle.math_ideals.specs.Ideal.{Basis, Coords}

module _ (S : Setting) where
  open S use {𝓥}
  open (polys 𝓥).ops use {add as ◌⊞◌, mul as ◌⊠◌, neg as ⊟◌}

  infixl 60 ◌⊞◌
  infixl 70 ◌⊠◌
  infix 80 ⊟◌
  -- x1 = (M0 N2 − M1 H N1)/e, x2 = (M1 H M1 − M0 M2)/e, x0 = (M2 G H − x1 M0 − x2 N0)/U, and the y likewise
  pub record Parts (B : Basis S) : Type 0 where
    pub of_r : Coords S B (times_r S B.M)
    pub of_w : Coords S B (times_w S B.M)

  module _ (B : Basis S) (k : Parts B) where
    abbrev pub x0 : P S
    x0 = k.of_r.α

    abbrev pub x1 : P S
    x1 = k.of_r.β

    abbrev pub x2 : P S
    x2 = k.of_r.γ

    abbrev pub y0 : P S
    y0 = k.of_w.α

    abbrev pub y1 : P S
    y1 = k.of_w.β

    abbrev pub y2 : P S
    y2 = k.of_w.γ

    abbrev pub dd : P S
    dd = x2 ⊠ y0 ⊞ ⊟ (x0 ⊠ y2)

    -- the first coordinate is linear in the pair
    abbrev pub pt : P S → P S → (O S).El
    pt c₁ c₂ = record { a = ⊟ (c₁ ⊠ x1 ⊞ c₂ ⊠ y1); b = c₁; c = c₂ }

    -- g = gcd(x0, x2, y0, y2), with x0 = g a0, x2 = g a2, y0 = g b0, y2 = g b2
    pub record Cut : Type 0 where
      pub g : P S
      pub a0 : P S
      pub a2 : P S
      pub b0 : P S
      pub b2 : P S
      pub x0_eq : x0 ≡ g ⊠ a0
      pub x2_eq : x2 ≡ g ⊠ a2
      pub y0_eq : y0 ≡ g ⊠ b0
      pub y2_eq : y2 ≡ g ⊠ b2
      pub alone : (d : P S) → Divides 𝓥 d a0 → Divides 𝓥 d a2 → Divides 𝓥 d b0 → Divides 𝓥 d b2 → IsUnit 𝓥 d

    -- d = g k, where k is the determinant of the four
    abbrev pub four : Cut → P S
    four c = c.a2 ⊠ c.b0 ⊞ ⊟ (c.a0 ⊠ c.b2)

    abbrev pub base : Cut → Basis S
    base c = record { U = c.g ⊠ four c; M = pt (⊟ c.b2) c.a2; N = pt c.b0 (⊟ c.a0) }
