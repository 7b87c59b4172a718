-- The orders of two pairs that differ by constants carry over.
--   Meets                        in one order or the other
--   meets_scaled meets_crossed   in the one, in the other
use mathlib.Core.Path.{◌≡◌, ap, ◌∙◌}
use mathlib.Core.Logic.{◌⊎◌}
use Rattle.math_ring.proofs.Laws as rg
use Rattle.math_valued.specs.Val.{Valued}
use Rattle.math_valued.specs.Polynomial.{polys, Poly, IsUnit}
use Rattle.math_ideals.specs.Setting.{Roots}
use Rattle.math_carry.specs.Carries.{Carries, Stretched, Exchanged}
use Rattle.math_carry.proofs.Inverse.{after}
use Rattle.math_carry.proofs.Pairs.{turned, exchanged, swap, scale, scaled, stretched}

pub record Meets (𝓥 : Valued) (s s' : Roots 𝓥) : Type 0 where
  pub carries : Carries s s'
  pub rows : Stretched 𝓥 s s' carries ⊎ Exchanged 𝓥 s s' carries

module _ (𝓥 : Valued) (s s' : Roots 𝓥) (α β : Poly 𝓥) (uα : IsUnit 𝓥 α) (uβ : IsUnit 𝓥 β) where
  open (polys 𝓥).ops use {mul as ◌⊠◌, neg as ⊟◌, 𝟏 as 1ₚ}

  infixl 70 ◌⊠◌
  infix 80 ⊟◌
  pub meets_scaled : s'.G ≡ α ⊠ s.G → s'.H ≡ β ⊠ s.H → (c : Carries s s') × Stretched 𝓥 s s' c
  meets_scaled eG eH = let k = scale 𝓥 s s' α β uα uβ eG eH in (scaled 𝓥 s s' α β uα uβ eG eH k, stretched 𝓥 s s' α β uα uβ eG eH k)

  -- first the swap, then the constants
  pub meets_crossed : s'.G ≡ α ⊠ s.H → s'.H ≡ β ⊠ s.G → (c : Carries s s') × Exchanged 𝓥 s s' c
  meets_crossed eG eH =
      let t : Roots 𝓥 = exchanged 𝓥 s in
      let k = scale 𝓥 t s' α β uα uβ eG eH in
      let h = stretched 𝓥 t s' α β uα uβ eG eH k in (
        after 𝓥 (scaled 𝓥 t s' α β uα uβ eG eH k) (swap 𝓥 s),
        record {
          factors = h.factors;
          pair = h.pair;
          rows = λ v. h.rows (turned v);
          minus = ap (λ σ. σ ⊠ ⊟ 1ₚ) h.plus ∙ rg.one-mul (polys 𝓥) (⊟ 1ₚ);
        },
      )
