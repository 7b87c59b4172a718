-- Polynomials inside the Laurent series.
--   IsPoly x       x has no coefficient at t⁻¹, t⁻², ..
--   floor x        the polynomial part of x: its coefficients at 1, t, t², ..
--   poly l         the polynomial of a list of coefficients, lowest first
--   lows n x       the list of the coefficients of x at 1, t, .., t^(n − 1)
--   Canon l        l does not end in 0
--   CoeffList x    a list of x that does not end in 0
-- In proofs/Polynomial: polynomials are a subring, floor and rest, uniqueness of the floor. In proofs/Lists: each polynomial over a field has
-- just one such list.
use Rattle.std.specs.Prelude.{◌≡◌, ◌≢◌, List, [], ◌∷◌, ℕ, zero, suc}
use mathlib.Core.Quot.{Quot-set}
use Rattle.math_ring.specs.Ring.{CRing}
use Rattle.math_laurent.specs.Series.{Ser, cons, up, keep}
use Rattle.math_laurent.specs.Laurent.{Lau, mk, mk_up, lau_rec, lops, const, t}
use Rattle.math_laurent.specs.Degree.{coef}

module _ (R : CRing) where
  open lops R use {add as ◌+◌, mul as ◌*◌, 𝟎}

  infixl 60 ◌+◌
  infixl 70 ◌*◌
  abbrev pub IsPoly : Lau R → Type 0
  IsPoly x = (j : ℕ) → coef R 0 (suc j) x ≡ R.ops.𝟎

  pub floor_up : (d : ℕ) (f : Ser R) → mk R d (keep R (suc d) f) ≡ mk R (suc d) (keep R (suc (suc d)) (up R f))
  unfolding keep cons
  floor_up d f = mk_up R d (keep R (suc d) f)

  unfoldable pub floor : Lau R → Lau R
  floor = lau_rec R Quot-set (λ d f. mk R d (keep R (suc d) f)) floor_up

  unfoldable pub poly : List R.El → Lau R
  poly [] = 𝟎
  poly (a ∷ l) = const R a + t R * poly l

  -- f(i), f(i + 1), .., n of them
  abbrev pub from : ℕ → ℕ → (ℕ → R.El) → List R.El
  from i zero f = []
  from i (suc n) f = f i ∷ from (suc i) n f

  abbrev pub lows : ℕ → Lau R → List R.El
  lows n x = from 0 n (λ i. coef R i 0 x)

  abbrev pub Canon : List R.El → Type 0
  Canon [] = Unit {0}
  Canon (a ∷ []) = a ≢ R.ops.𝟎
  Canon (a ∷ (b ∷ l)) = Canon (b ∷ l)

  abbrev pub CoeffList : Lau R → Type 0
  CoeffList x = (l : List R.El) × (Canon l × (poly l ≡ x))
