-- Division of polynomials with remainder.
--   divide        by a polynomial whose leading coefficient has an inverse, over any commutative ring; it goes down the degree of x
--   poly_view     over a field, a polynomial is 0 or has a degree
--   no_zero_div   over a field, a product of polynomials is 0 only where a factor is
--   div_unique    over a field, quotient and remainder are the only ones
use mathlib.Core.Path.{◌≡◌, refl, sym}
use mathlib.Core.List.{[], ◌∷◌}
use mathlib.Core.Logic.{◌≢◌, ◌⊎◌, inl, inr}
use Prim.Native.Nat.{ℕ, zero, suc, ◌<◌, ◌+◌ as ◌+ⁿ◌}
use native.Mathlib.Omega.{arith}
use Rattle.math_ring.specs.Ring.{CRing}
use Rattle.math_ring.specs.Field.{Field}
use Rattle.math_ring.specs.Power.{pow}
use Rattle.math_ring.proofs.Laws as r
use Rattle.math_ring.proofs.Solve.{var, one, zer, minus, ◌:+◌, ◌:*◌, hyp, solve, solve_by}
use Rattle.math_laurent.specs.Laurent.{Lau, lops, const, t}
use Rattle.math_laurent.specs.Degree.{coef, Lead}
use Rattle.math_laurent.specs.Polynomial.{IsPoly}
use Rattle.math_laurent.proofs.Laurent.{laurent}
use Rattle.math_laurent.proofs.Degree.{lead_eq, lead_sub, lead_mul, lead_const, lead_t, lead_move, lead_up, lead_down, lead_unique, lead_zero}
use Rattle.math_laurent.proofs.Polynomial.{zero-IsPoly, const-IsPoly, t-IsPoly, add-IsPoly, neg-IsPoly, mul-IsPoly, pow-IsPoly, poly_small}
use Rattle.math_laurent.proofs.Lists.{poly_bound}

module _ (R : CRing) where
  open R.ops use {add as ◌+ᵏ◌, mul as ◌*ᵏ◌, neg as -ᵏ◌, 𝟎 as 0ᵏ, 𝟏 as 1ᵏ}
  open lops R use {add as ◌+◌, mul as ◌*◌, neg as -◌, 𝟎, 𝟏}

  infixl 60 ◌+◌ ◌+ᵏ◌
  infixl 70 ◌*◌ ◌*ᵏ◌
  infix 80 -◌ -ᵏ◌
  -- x = q g + s, polynomials, deg s < m
  pub record Division (x g : Lau R) (m : ℕ) : Type 0 where
    pub q : Lau R
    pub s : Lau R
    pub q_poly : IsPoly R q
    pub s_poly : IsPoly R s
    pub law : x ≡ q * g + s
    pub small : Lead R s m 0 0ᵏ

  -- a t^n
  abbrev pub mono : R.El → ℕ → Lau R
  mono a n = const R a * pow (laurent R) (t R) n

  pub lead_tpow : (n : ℕ) → Lead R (pow (laurent R) (t R) n) n 0 1ᵏ
  unfolding pow
  lead_tpow zero = lead_const R 1ᵏ
  lead_tpow (suc n) = lead_eq R (lead_move R (suc n) 0 (lead_mul R (lead_t R) (lead_tpow n)) (omega arith)) refl (r.one-mul R 1ᵏ)

  pub lead_mono : (a : R.El) (n : ℕ) → Lead R (mono a n) n 0 a
  lead_mono a n = lead_eq R (lead_move R n 0 (lead_mul R (lead_const R a) (lead_tpow n)) (omega arith)) refl (R.laws.mul-one a)

  mono-IsPoly : (a : R.El) (n : ℕ) → IsPoly R (mono a n)
  mono-IsPoly a n = mul-IsPoly R (const R a) (pow (laurent R) (t R) n) (const-IsPoly R a) (pow-IsPoly R (t R) n (t-IsPoly R))

  module _ (g : Lau R) (m : ℕ) (b u : R.El) (gp : IsPoly R g) (lead : Lead R g m 0 b) (unit : b *ᵏ u ≡ 1ᵏ) where
    -- the leading term goes: x − c u t^k g, c the coefficient of x at t^(k + m)
    abbrev cut : Lau R → R.El → ℕ → Lau R
    cut x c k = x + - (mono (c *ᵏ u) k * g)

    cut_lead : (x : Lau R) (c : R.El) (k : ℕ) → Lead R x (k +ⁿ m) 0 c → Lead R (cut x c k) (k +ⁿ m) 0 0ᵏ
    cut_lead x c k h =
        lead_eq R (lead_sub R h (lead_move R (k +ⁿ m) 0 (lead_mul R (lead_mono (c *ᵏ u) k) lead) (omega arith))) refl
        -- c − c u b = −c (b u − 1)
        (solve_by R (var 0 :+ minus (var 0 :* var 1 :* var 2)) zer (hyp (minus (var 0)) (var 2 :* var 1) one ∷ []) tt (c ∷ u ∷ b ∷ []) (unit, tt))

    cut-IsPoly : (x : Lau R) (c : R.El) (k : ℕ) → IsPoly R x → IsPoly R (cut x c k)
    cut-IsPoly x c k h = add-IsPoly R x (- (mono (c *ᵏ u) k * g)) h (neg-IsPoly R (mono (c *ᵏ u) k * g) (mul-IsPoly R (mono (c *ᵏ u) k) g (mono-IsPoly (c *ᵏ u) k) gp))

    restore : (x : Lau R) (c : R.El) (k : ℕ) → Division (cut x c k) g m → Division x g m
    restore x c k h = record {
      q = mono (c *ᵏ u) k + h.q;
      s = h.s;
      q_poly = add-IsPoly R (mono (c *ᵏ u) k) h.q (mono-IsPoly (c *ᵏ u) k) h.q_poly;
      s_poly = h.s_poly;
      law = solve_by (laurent R) (var 0) ((var 1 :+ var 2) :* var 3 :+ var 4) (hyp one (var 0 :+ minus (var 1 :* var 3)) (var 2 :* var 3 :+ var 4) ∷ []) tt
          (x ∷ mono (c *ᵏ u) k ∷ h.q ∷ g ∷ h.s ∷ []) (h.law, tt);
      small = h.small;
    }

    pub divide : (k : ℕ) (x : Lau R) → IsPoly R x → Lead R x (k +ⁿ m) 0 0ᵏ → Division x g m
    divide zero x h l = record {
      q = 𝟎;
      s = x;
      q_poly = zero-IsPoly R;
      s_poly = h;
      law = solve (laurent R) (var 0) (zer :* var 1 :+ var 0) tt (x ∷ g ∷ []);
      small = lead_move R m 0 l (omega arith);
    }
    divide (suc k) x h l =
        let c : R.El = coef R (suc k +ⁿ m) 1 x in
        restore x c k (divide k (cut x c k) (cut-IsPoly x c k h) (cut_lead x c k (lead_move R (k +ⁿ m) 0 (lead_down R l) (omega arith))))

-- Over a field.
module _ (K : CRing) (F : Field K) where
  open K.ops use {add as ◌+ᵏ◌, mul as ◌*ᵏ◌, neg as -ᵏ◌, 𝟎 as 0ᵏ, 𝟏 as 1ᵏ}
  open lops K use {add as ◌+◌, mul as ◌*◌, neg as -◌, 𝟎, 𝟏}

  infixl 60 ◌+◌ ◌+ᵏ◌
  infixl 70 ◌*◌ ◌*ᵏ◌
  infix 80 -◌ -ᵏ◌
  pub k_domain : (a b : K.El) → a ≢ 0ᵏ → b ≢ 0ᵏ → a *ᵏ b ≢ 0ᵏ
  k_domain a b ha hb e =
      let (u, w) = F.inv a ha in
      -- b − 0 = −b (a u − 1) + u (a b − 0)
      hb (solve_by K (var 1) zer (hyp (minus (var 1)) (var 0 :* var 2) one ∷ hyp (var 2) (var 0 :* var 1) zer ∷ []) tt (a ∷ b ∷ u ∷ []) (w, (e, tt)))

  -- 0, or of a degree below a bound
  abbrev pub View : Lau K → ℕ → Type 0
  View x n = (x ≡ 𝟎) ⊎ ((m : ℕ) × (m < n) × (c : K.El) × (c ≢ 0ᵏ) × Lead K x m 0 c)

  pub view : (n : ℕ) (x : Lau K) → IsPoly K x → Lead K x n 0 0ᵏ → View x n
  view zero x h l = inl (poly_small K x h l)
  view (suc n) x h l = go (F.dec (coef K (suc n) 1 x) 0ᵏ) (view n x h)
    where
      top : Lead K x n 0 (coef K (suc n) 1 x)
      top = lead_move K n 0 (lead_down K l) (omega arith)

      go : Dec (coef K (suc n) 1 x ≡ 0ᵏ) → (Lead K x n 0 0ᵏ → View x n) → View x (suc n)
      go (no c) ih = inr (n, omega arith, coef K (suc n) 1 x, c, top)
      go (yes c) ih = elim (ih (lead_eq K top refl c)) [ inl z ↦ inl z | inr (m, k, c, hc, lc) ↦ inr (m, omega arith, c, hc, lc) ]

  pub poly_view : (x : Lau K) → IsPoly K x → (x ≡ 𝟎) ⊎ ((n : ℕ) × (c : K.El) × (c ≢ 0ᵏ) × Lead K x n 0 c)
  poly_view x h = let (n, b) = poly_bound K F x h in elim (view n x h b) [ inl z ↦ inl z | inr (m, k, c, hc, lc) ↦ inr (m, c, hc, lc) ]

  -- a product of degrees is not 0
  lead_not_zero : {x y : Lau K} {p q p' q' : ℕ} {a b : K.El} → a ≢ 0ᵏ → b ≢ 0ᵏ → Lead K x p q a → Lead K y p' q' b → Lead K (x * y) (p +ⁿ p') (q +ⁿ q') 0ᵏ → ⊥
  lead_not_zero {a = a} {b = b} ha hb h g z = k_domain a b ha hb (lead_unique K (lead_mul K h g) z)

  pub no_zero_div : (x y : Lau K) → IsPoly K x → IsPoly K y → x * y ≡ 𝟎 → (x ≡ 𝟎) ⊎ (y ≡ 𝟎)
  no_zero_div x y h g e = elim (poly_view x h) [
    | inl z ↦ inl z
    | inr (m, a, ha, lx) ↦ elim (poly_view y g) [
      | inl z ↦ inr z
      | inr (n, b, hb, ly) ↦ absurd (lead_not_zero ha hb lx ly (lead_eq K (lead_zero K (m +ⁿ n) 0) (sym e) refl))
    ]
  ]

  pub div_unique : {b : K.El} (g q q' s s' : Lau K) (m : ℕ) → b ≢ 0ᵏ → Lead K g m 0 b → IsPoly K q → IsPoly K q' → Lead K s m 0 0ᵏ → Lead K s' m 0 0ᵏ →
      q * g + s ≡ q' * g + s' → (q ≡ q') × (s ≡ s')
  div_unique {b} g q q' s s' m hb lg iq iq' ls ls' e =
      let h : q ≡ q' = same (poly_view (q + - q') (add-IsPoly K q (- q') iq (neg-IsPoly K q' iq'))) in
      (h, solve_by (laurent K) (var 3) (var 4) (hyp one (var 0 :* var 2 :+ var 3) (var 1 :* var 2 :+ var 4) ∷ hyp (minus (var 2)) (var 0) (var 1) ∷ []) tt (q ∷ q' ∷ g ∷ s ∷ s' ∷ []) (e, (h, tt)))
    where
      -- (q − q') g = s' − s
      moved : s' + - s ≡ (q + - q') * g
      moved = solve_by (laurent K) (var 4 :+ minus (var 3)) ((var 0 :+ minus (var 1)) :* var 2) (hyp (minus one) (var 0 :* var 2 :+ var 3) (var 1 :* var 2 :+ var 4) ∷ []) tt (q ∷ q' ∷ g ∷ s ∷ s' ∷ []) (e, tt)

      low : Lead K ((q + - q') * g) m 0 0ᵏ
      low = lead_eq K (lead_sub K ls' ls) moved (K.laws.add_neg 0ᵏ)

      high : (n : ℕ) → Lead K ((q + - q') * g) (n +ⁿ m) 0 0ᵏ
      high zero = lead_move K (0 +ⁿ m) 0 low (omega arith)
      high (suc n) = lead_up K (suc n +ⁿ m) 0 low (omega arith)

      same : (q + - q' ≡ 𝟎) ⊎ ((n : ℕ) × (c : K.El) × (c ≢ 0ᵏ) × Lead K (q + - q') n 0 c) → q ≡ q'
      same (inl z) = r.eq_of_sub (laurent K) q q' z
      same (inr (n, c, hc, lc)) = absurd (lead_not_zero hc hb lc lg (high n))
