-- What the theory asks of the series: a field K of constants, a ring L whose elements may have a leading coefficient, and the polynomials
-- inside L. `Lead x p q c` says that the coefficient of x at t^(p − q) is c and that all above vanish. So
--   Lead x p q 𝟎 is deg x < p − q, and Lead x p q c with c ≢ 𝟎 is deg x = p − q with leading coefficient c.
-- Sums and products of elements are then sums and products of coefficients, and every fact about degrees is one about K.
use Rattle.std.specs.Prelude.{◌≡◌, ◌≢◌, ◌⊎◌, ℕ, suc, ◌+◌, ◌<◌}
use Rattle.math_ring.specs.Ring.{CRing}
use Rattle.math_ring.specs.Field.{Field}
use Rattle.math_ring.specs.Subring.{Closed}

pub record Valued : Type 1 where
  pub K : CRing
  pub field : Field K
  pub one≢zero : K.ops.𝟏 ≢ K.ops.𝟎
  pub L : CRing
  pub Lead : L.El → ℕ → ℕ → K.El → Type 0
  pub lead_zero : (p q : ℕ) → Lead L.ops.𝟎 p q K.ops.𝟎
  pub lead_one : Lead L.ops.𝟏 0 0 K.ops.𝟏
  pub lead_add : {x y : L.El} {p q : ℕ} {a b : K.El} → Lead x p q a → Lead y p q b → Lead (L.ops.add x y) p q (K.ops.add a b)
  pub lead_neg : {x : L.El} {p q : ℕ} {a : K.El} → Lead x p q a → Lead (L.ops.neg x) p q (K.ops.neg a)
  pub lead_mul : {x y : L.El} {p q p' q' : ℕ} {a b : K.El} → Lead x p q a → Lead y p' q' b → Lead (L.ops.mul x y) (p + p') (q + q') (K.ops.mul a b)
  -- an element with a degree has an inverse, of the opposite degree
  pub lead_inv : {x : L.El} {p q : ℕ} {a : K.El} → Lead x p q a → a ≢ K.ops.𝟎 → (y : L.El) × (b : K.El) × (L.ops.mul x y ≡ L.ops.𝟏) × Lead y q p b
  -- the same degree as another difference; a larger one; the next smaller one
  pub lead_move : {x : L.El} {p q : ℕ} {a : K.El} (p' q' : ℕ) → Lead x p q a → p + q' ≡ p' + q → Lead x p' q' a
  pub lead_up : {x : L.El} {p q : ℕ} {a : K.El} (p' q' : ℕ) → Lead x p q a → p + q' < p' + q → Lead x p' q' K.ops.𝟎
  pub lead_down : {x : L.El} {p q : ℕ} → Lead x p q K.ops.𝟎 → (c : K.El) × Lead x p (suc q) c
  pub lead_unique : {x : L.El} {p q : ℕ} {a b : K.El} → Lead x p q a → Lead x p q b → a ≡ b
  -- the polynomials: a subring; each is 0 or has a degree, and one of degree 0 is a constant
  pub IsPoly : L.El → Type 0
  pub closed : Closed L IsPoly
  pub poly_view : (x : L.El) → IsPoly x → (x ≡ L.ops.𝟎) ⊎ ((n : ℕ) × (c : K.El) × (c ≢ K.ops.𝟎) × Lead x n 0 c)
  pub poly_small : (x : L.El) → IsPoly x → Lead x 0 0 K.ops.𝟎 → x ≡ L.ops.𝟎
  pub const : K.El → L.El
  pub const_poly : (a : K.El) → IsPoly (const a)
  pub const_lead : (a : K.El) → Lead (const a) 0 0 a
  -- the variable
  pub t : L.El
  pub t_poly : IsPoly t
  pub t_lead : Lead t 1 0 K.ops.𝟏
  -- Bezout
  pub bezout : (f g : (x : L.El) × IsPoly x) →
      (d u v a b : (x : L.El) × IsPoly x) ×
      (d.0 ≡ L.ops.add (L.ops.mul u.0 f.0) (L.ops.mul v.0 g.0)) × (f.0 ≡ L.ops.mul d.0 a.0) × (g.0 ≡ L.ops.mul d.0 b.0)
