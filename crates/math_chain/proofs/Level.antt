-- Levelling: the first row, so that deg Z < 0.
--   Levelled        a = (T − R)/2, where T is the polynomial part of X and R the remainder of T + 2(b x + c y) by U
--   level_frame     then a = −(b x + c y) modulo U
--   level_Z         and deg Z < deg U
--   level_unique    these two settle the first row
--   level           and there is one
use mathlib.Core.Path.{◌≡◌, ap, ◌∙◌}
use mathlib.Core.List.{[], ◌∷◌}
use mathlib.Core.Logic.{◌⊎◌, inl, inr}
use Prim.Native.Nat.{ℕ, ◌+◌ as ◌+ⁿ◌}
use native.Mathlib.Omega.{arith}
use Rattle.math_ring.proofs.Laws as rg
use Rattle.math_ring.specs.Ring.{CRing}
use Rattle.math_ring.proofs.Solve.{var, hyp, one, minus, ◌:+◌, ◌:*◌, solve, solve_by}
use Rattle.math_valued.specs.Degree.{Has, Lt}
use Rattle.math_valued.specs.Polynomial.{polys, Divides, IsUnit}
use Rattle.math_valued.proofs.Degree as d
use Rattle.math_valued.proofs.Compare.{lt_unscale, has_scale}
use Rattle.math_valued.proofs.Polynomial.{P_path, view, const_unit, divide}
use Rattle.math_ideals.specs.Setting.{Setting, P}
use Rattle.math_ideals.specs.Element.{O, X, Z}
use Rattle.math_ideals.proofs.Form.{has_two}
use Rattle.math_ideals.proofs.Norm.{yz_lt}
use Rattle.math_chain.proofs.Frame.{off}

module _ (S : Setting) where
  open S use {𝓥}
  open S.roots use {r, w}
  open 𝓥 use {K, L, Lead}
  open L.ops use {add as ◌+◌, mul as ◌*◌, neg as -◌, 𝟎, 𝟏}
  open (polys 𝓥).ops use {add as ◌⊞◌, mul as ◌⊠◌, neg as ⊟◌, 𝟎 as 0ₚ, 𝟏 as 1ₚ}

  infixl 60 ◌+◌ ◌⊞◌
  infixl 70 ◌*◌ ◌⊠◌
  infix 80 -◌ ⊟◌
  abbrev Rg : CRing
  Rg = polys 𝓥

  pub record Levelled (x y U : P S) (u : ℕ) (v : (O S).El) : Type 0 where
    pub T : P S
    pub R : P S
    pub k : P S
    pub floor : Lt 𝓥 (X S v + - T.0) 0
    pub remainder : T ⊞ (1ₚ ⊞ 1ₚ) ⊠ (v.b ⊠ x ⊞ v.c ⊠ y) ≡ U ⊠ k ⊞ R
    pub R_lt : Lt 𝓥 R.0 u
    pub row : (1ₚ ⊞ 1ₚ) ⊠ v.a ≡ T ⊞ ⊟ R

  -- 2 is a unit
  pub two_unit : IsUnit 𝓥 (1ₚ ⊞ 1ₚ)
  two_unit = const_unit 𝓥 (1ₚ ⊞ 1ₚ) (has_two S)

  module _ {x y U : P S} {u : ℕ} {v : (O S).El} (l : Levelled x y U u v) where
    -- 2 (a + b x + c y) = U k
    pub level_frame : Divides 𝓥 U (off S x y v)
    level_frame =
        let (h, e) = two_unit in (
          h ⊠ l.k,
          solve_by Rg (var 0 :+ var 1) (var 2 :* (var 3 :* var 4))
              (hyp (var 0 :+ var 1) one ((one :+ one) :* var 3) ∷ hyp (var 3) (var 5 :+ (one :+ one) :* var 1) (var 2 :* var 4 :+ var 6) ∷ hyp (var 3) ((one :+ one) :* var 0) (var 5 :+ minus (var 6)) ∷ []) tt
              (v.a ∷ (v.b ⊠ x ⊞ v.c ⊠ y) ∷ U ∷ h ∷ l.k ∷ l.T ∷ l.R ∷ []) (e, (l.remainder, (l.row, tt))),
        )

    -- Z = −(X − T) − R
    pub level_Z : Lt 𝓥 (Z S v) u
    level_Z = d.lt_eq 𝓥 (d.lt_add 𝓥 (d.lt_neg 𝓥 (d.lt_up 𝓥 u l.floor (omega arith))) (d.lt_neg 𝓥 l.R_lt))
        (solve_by L (minus (var 0 :+ var 1 :+ minus (var 2)) :+ minus (var 3)) ((one :+ one) :* var 4 :+ minus (var 0) :+ minus (var 1)) (hyp (minus one) ((one :+ one) :* var 4) (var 2 :+ minus (var 3)) ∷ []) tt
        (v.b.0 * r ∷ v.c.0 * w ∷ l.T.0 ∷ l.R.0 ∷ v.a.0 ∷ []) (ap (λ z. z.0) l.row, tt))

  -- the first row of an element is settled by its pair
  pub level_unique : {u : ℕ} (x y U : P S) (v v' : (O S).El) → Has 𝓥 U.0 u → v.b ≡ v'.b → v.c ≡ v'.c → Divides 𝓥 U (off S x y v) → Divides 𝓥 U (off S x y v') → Lt 𝓥 (Z S v) u → Lt 𝓥 (Z S v') u → v.a ≡ v'.a
  level_unique {u} x y U v v' hU eb ec (k, e) (k', e') z z' = rg.eq_of_sub Rg v.a v'.a (go (view 𝓥 (k ⊞ ⊟ k')))
    where
      gap : v.a ⊞ ⊟ v'.a ≡ U ⊠ (k ⊞ ⊟ k')
      gap = solve_by Rg (var 0 :+ minus (var 3)) (var 6 :* (var 7 :+ minus (var 8)))
          (hyp one (var 0 :+ (var 1 :* var 9 :+ var 2 :* var 10)) (var 6 :* var 7) ∷ hyp (minus one) (var 3 :+ (var 4 :* var 9 :+ var 5 :* var 10)) (var 6 :* var 8) ∷ hyp (minus (var 9)) (var 1) (var 4) ∷ hyp (minus (var 10)) (var 2) (var 5) ∷ []) tt
          (v.a ∷ v.b ∷ v.c ∷ v'.a ∷ v'.b ∷ v'.c ∷ U ∷ k ∷ k' ∷ x ∷ y ∷ []) (e, (e', (eb, (ec, tt))))

      low : Lt 𝓥 (v.a ⊞ ⊟ v'.a).0 u
      low = lt_unscale 𝓥 (has_two S) (d.lt_eq 𝓥 (d.lt_add 𝓥 z (d.lt_neg 𝓥 z'))
          (solve_by L ((one :+ one) :* var 0 :+ minus (var 1 :* var 6) :+ minus (var 2 :* var 7) :+ minus ((one :+ one) :* var 3 :+ minus (var 4 :* var 6) :+ minus (var 5 :* var 7))) ((one :+ one) :* (var 0 :+ minus (var 3)))
          (hyp (minus (var 6)) (var 1) (var 4) ∷ hyp (minus (var 7)) (var 2) (var 5) ∷ []) tt
          (v.a.0 ∷ v.b.0 ∷ v.c.0 ∷ v'.a.0 ∷ v'.b.0 ∷ v'.c.0 ∷ r ∷ w ∷ []) (ap (λ t. t.0) eb, (ap (λ t. t.0) ec, tt))))

      go : ((k ⊞ ⊟ k').0 ≡ 𝟎) ⊎ ((n : ℕ) × Has 𝓥 (k ⊞ ⊟ k').0 n) → v.a ⊞ ⊟ v'.a ≡ 0ₚ
      go (inl q) = gap ∙ ap (λ t. U ⊠ t) (P_path 𝓥 {a = k ⊞ ⊟ k'} {b = 0ₚ} q) ∙ rg.mul-zero Rg U
      go (inr (n, h)) = absurd (omega (arith, d.above 𝓥 (d.has_mul 𝓥 hU h) (d.lt_eq 𝓥 low (ap (λ t. t.0) gap))))

  pub level : {u : ℕ} (x y U b c : P S) → Has 𝓥 U.0 u → (a : P S) × Divides 𝓥 U (off S x y (record { a = a; b = b; c = c })) × Lt 𝓥 (Z S (record { a = a; b = b; c = c })) u
  level {u} x y U b c hU =
      let a₀ : P S = ⊟ (b ⊠ x ⊞ c ⊠ y) in
      let (j, hy, hz) = yz_lt S (record { a = a₀; b = b; c = c }) in
      let (m, h) = divide 𝓥 j (d.lead_up 𝓥 (j +ⁿ u) 0 hz (omega arith)) (has_scale 𝓥 (has_two S) hU) in (
        a₀ ⊞ m ⊠ U,
        (m, solve Rg (minus (var 0) :+ var 1 :* var 2 :+ var 0) (var 2 :* var 1) tt ((b ⊠ x ⊞ c ⊠ y) ∷ m ∷ U ∷ [])),
        d.lt_eq 𝓥 h (solve L ((one :+ one) :* var 0 :+ minus (var 1) :+ minus (var 2) :+ var 3 :* ((one :+ one) :* var 4)) ((one :+ one) :* (var 0 :+ var 3 :* var 4) :+ minus (var 1) :+ minus (var 2)) tt (a₀.0 ∷ b.0 * r ∷ c.0 * w ∷ m.0 ∷ U.0 ∷ [])),
      )
