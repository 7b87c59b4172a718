-- A unit of the order has positive degree exactly where its first coordinate is longer than that of its inverse.
--   Length x n        n is the least number above the degree of x
--   positive_longer   of a unit of positive degree
--   longer_positive   and back
use mathlib.Core.Path.{◌≡◌, sym, ap}
use Prim.Native.Nat.{ℕ, suc, ◌-◌, ◌<◌, ◌≤◌}
use native.Mathlib.Omega.{arith}
use native.Mathlib.Decide.{dec_lt}
use Rattle.math_valued.specs.Val.{Valued}
use Rattle.math_valued.specs.Degree.{HasDeg, Has, Lt}
use Rattle.math_valued.proofs.Degree as d
use Rattle.math_valued.proofs.Polynomial.{unit_const}
use Rattle.math_ideals.specs.Setting.{Setting}
use Rattle.math_ideals.specs.Element.{O, ev}
use Rattle.math_chain.specs.Convention.{PositiveUnit}
use Rattle.math_chain.proofs.Unit.{half, large, inverse_has}
use Rattle.math_chain.proofs.Rows.{unit_rows}
use Rattle.math_fundamental.proofs.Units.{unit_flip, unit_has, unit_constant}

module _ (𝓥 : Valued) where
  pub record Length (x : 𝓥.L.El) (n : ℕ) : Type 0 where
    pub under : Lt 𝓥 x n
    pub least : (k : ℕ) → Lt 𝓥 x k → n ≤ k

module _ (S : Setting) (E F : (O S).El) (inverse : (O S).ops.mul E F ≡ (O S).ops.𝟏) where
  -- E0 has the degree n of the unit, F0 at most half of it
  pub positive_longer : {n a b : ℕ} → Length S.𝓥 E.a.0 a → Length S.𝓥 F.a.0 b → Has S.𝓥 (ev S E) n → 0 < n → b < a
  positive_longer {n} {a} {b} h_e hF k l =
      let (y, z, top) = large S E F inverse k l in
      let (h, e) = half S E F inverse k in
      let (fE, fF) = unit_rows S E F n h inverse k l e in
      let u : n < a = d.above S.𝓥 top h_e.under in
      let v : b ≤ suc h = hF.least (suc h) fF.a_lt in
      omega arith

  -- a unit of degree 0 is a constant
  flat : {a : ℕ} → Length S.𝓥 E.a.0 a → Has S.𝓥 (ev S E) 0 → a ≡ 1
  flat {a} h_e k =
      let (s, u, e) = unit_constant S E (F, inverse) k in
      let c : Has S.𝓥 E.a.0 0 = d.has_eq S.𝓥 (unit_const S.𝓥 s u) (sym (ap (λ v. v.a.0) e)) in
      let low : 0 < a = d.above S.𝓥 c h_e.under in
      let high : a ≤ 1 = h_e.least 1 (d.has_up S.𝓥 1 c (omega arith)) in
      omega arith

module _ (S : Setting) (E F : (O S).El) (inverse : (O S).ops.mul E F ≡ (O S).ops.𝟏) {a b : ℕ} (h_e : Length S.𝓥 E.a.0 a) (hF : Length S.𝓥 F.a.0 b) where
  -- else the inverse has positive degree, or both are constants
  not_longer : {p q : ℕ} → HasDeg S.𝓥 (ev S E) p q → p ≤ q → a ≤ b
  not_longer {p} {q} k l =
      let back : (O S).ops.mul F E ≡ (O S).ops.𝟏 = unit_flip S inverse in
      let kF : Has S.𝓥 (ev S F) (q - p) = d.has_move S.𝓥 (q - p) 0 (inverse_has S E F inverse k) (omega arith) in
      elim (dec_lt p q) [
        | yes m ↦ (let w : a < b = positive_longer S F E back hF h_e kF (omega arith) in omega arith)
        | no m ↦
            (let u : a ≡ 1 = flat S E F inverse h_e (d.has_move S.𝓥 0 0 k (omega arith)) in
            let v : b ≡ 1 = flat S F E back hF (d.has_move S.𝓥 0 0 kF (omega arith)) in
            omega arith)
      ]

  pub longer_positive : b < a → PositiveUnit S E F
  longer_positive u =
      let (p, q, k) = unit_has S E (F, inverse) in
      elim (dec_lt q p) [
        | yes l ↦ record { inverse = inverse; degree = p - q; has = d.has_move S.𝓥 (p - q) 0 k (omega arith); positive = omega arith }
        | no l ↦ (let v : a ≤ b = not_longer k (omega arith) in absurd (omega arith))
      ]
