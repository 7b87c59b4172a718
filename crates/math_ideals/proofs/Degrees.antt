-- How large the rows of the scaled reduced basis of a reduced ideal are.
--   Small small    all of it: deg U < deg GH, rows at most deg GH, M0 monic, deg m = deg M0 − deg U between 1 and deg GH
--   Fits fits      no row above deg GH
--   det_lead       lead(e) · lead(GH) = −1: the leading coefficient of e needs no inversion
use mathlib.Core.Path.{◌≡◌, refl, ap, ◌∙◌}
use mathlib.Core.Logic.{◌≢◌}
use Prim.Native.Nat.{ℕ, suc, ◌≤◌, ◌<◌, ◌+◌ as ◌+ⁿ◌}
use native.Mathlib.Omega.{arith}
use Rattle.math_ring.proofs.Laws as rg
use Rattle.math_ring.proofs.Solve.{one, zer, minus, ◌:+◌, ◌:*◌, ◌:=◌, ring₁}
use Rattle.math_valued.proofs.Degree as d
use Rattle.math_valued.specs.Degree.{Has, Lt}
use Rattle.math_valued.proofs.Compare.{has_unscale, leads_at, ≺-has, has_scale, lt_unscale, k_zero}
use Rattle.math_valued.proofs.Polynomial.{degree, factor}
use Rattle.math_ideals.specs.Setting.{Setting, d_gh}
use Rattle.math_ideals.specs.Ideal.{Basis, det, Ideal}
use Rattle.math_ideals.specs.Element.{X, Y, Z}
use Rattle.math_ideals.specs.Basis.{Good}
use Rattle.math_ideals.proofs.Sizes.{X_Y_det, two_a, two_b, two_c}
use Rattle.math_ideals.proofs.Form.{has_two}
use Rattle.math_ideals.proofs.Minimum.{Sized, sized}
use Rattle.math_ideals.proofs.Determinant.{det_divides}

module _ (S : Setting) where
  open S use {𝓥}
  open S.roots use {G, H, r, w, d_g, d_h}
  open 𝓥 use {K, L, Lead}
  open L.ops use {add as ◌+◌, mul as ◌*◌, neg as -◌, 𝟎, 𝟏}
  open K.ops use {add as ◌+ᵏ◌, mul as ◌*ᵏ◌, neg as -ᵏ◌, 𝟎 as 0ᵏ, 𝟏 as 1ᵏ}

  infixl 60 ◌+◌ ◌+ᵏ◌
  infixl 70 ◌*◌ ◌*ᵏ◌
  infix 80 -◌ -ᵏ◌
  -- u = deg U, x = deg X(M), y = deg Y(N): deg m = x − u is 1 to n, and all rows have degree at most n.
  pub record Small (B : Basis S) : Type 0 where
    pub u : ℕ
    pub x : ℕ
    pub y : ℕ
    pub U_has : Has 𝓥 B.U.0 u
    pub X_M : Has 𝓥 (X S B.M) x
    pub Y_N : Has 𝓥 (Y S B.N) y
    pub X_N : Lt 𝓥 (X S B.N) x
    pub Y_M : Lt 𝓥 (Y S B.M) u
    pub Z_M : Lt 𝓥 (Z S B.M) u
    pub Z_N : Lt 𝓥 (Z S B.N) u
    -- deg e, with X(M) Y(N) the larger product in X(M) Y(N) − X(N) Y(M) = −2 e G H
    pub ε : ℕ
    pub e_has : Has 𝓥 (det S B).0 ε
    pub ε≤u : ε ≤ u
    pub sum : x +ⁿ y ≡ ε +ⁿ d_gh S
    pub u<x : u < x
    pub u≤y : u ≤ y
    pub u<n : u < d_gh S
    pub x≤n : x ≤ d_gh S
    pub y<n : y < d_gh S
    pub M0 : Has 𝓥 B.M.a.0 x
    pub monic : Lead B.M.a.0 x 0 1ᵏ
    pub M1 : Has 𝓥 (B.M.b.0 * r) x
    pub M2 : Has 𝓥 (B.M.c.0 * w) x
    pub N0 : Lt 𝓥 B.N.a.0 (d_gh S)
    pub N1 : Lt 𝓥 (B.N.b.0 * r) (d_gh S)
    pub N2 : Lt 𝓥 (B.N.c.0 * w) (d_gh S)

  abbrev pub to_sized : (B : Basis S) → Small B → Sized S B
  to_sized B s = record { u = s.u; p = s.x; q = 0; y = s.y; U_has = s.U_has; X_M = s.X_M; X_N = s.X_N; Y_M = s.Y_M; Y_N = s.Y_N; u≤y = s.u≤y; Z_M = s.Z_M; Z_N = s.Z_N }

  pub small : (B : Basis S) → Good S B → Small B
  small B good =
      let i : Ideal S B = good.ideal in
      let s : Sized S B = sized S B i.U≢ good.basis in
      let (x, u<x, X_M) = ≺-has 𝓥 good.reduced.X_M s.U_has in
      let (ε, hε) = degree 𝓥 (det S B) i.rank in
      let (k, hk, e) = factor 𝓥 (det S B) (det_divides S B i good.scaled.seven).0 B.U hε s.U_has (det_divides S B i good.scaled.seven).1 in
      go s x u<x X_M ε hε (omega arith)
    where
      go : (s : Sized S B) (x : ℕ) → s.u < x → Has 𝓥 (X S B.M) x → (ε : ℕ) → Has 𝓥 (det S B).0 ε → ε ≤ s.u → Small B
      go s x u<x X_M ε hε ε≤u = let eq : x +ⁿ s.y ≡ ε +ⁿ d_gh S = sum in record {
        u = s.u;
        x = x;
        y = s.y;
        U_has = s.U_has;
        X_M = X_M;
        Y_N = s.Y_N;
        X_N = X_N;
        Y_M = s.Y_M;
        Z_M = s.Z_M;
        Z_N = s.Z_N;
        ε = ε;
        e_has = hε;
        ε≤u = ε≤u;
        sum = eq;
        u<x = u<x;
        u≤y = u≤y;
        u<n = omega arith;
        x≤n = omega arith;
        y<n = omega arith;
        M0 = M0;
        monic = d.lead_eq 𝓥 M0.2 refl M0_one;
        M1 = has_unscale 𝓥 (has_two S) (d.has_eq 𝓥 (d.has_lt 𝓥 X_M (d.lt_up 𝓥 x s.Y_M (omega arith))) (two_b S B.M));
        M2 = has_unscale 𝓥 (has_two S) (d.has_eq 𝓥 (d.has_lt 𝓥 X_M (d.lt_neg 𝓥 (d.lt_up 𝓥 x s.Y_M (omega arith)))) (two_c S B.M));
        N0 = lt_unscale 𝓥 (has_two S) (d.lt_eq 𝓥 (d.lt_add 𝓥 (d.lt_up 𝓥 n X_N (omega arith)) (d.lt_up 𝓥 n s.Z_N (omega arith))) (two_a S B.N));
        N1 = lt_unscale 𝓥 (has_two S) (d.lt_eq 𝓥 (d.lt_add 𝓥 (d.lt_up 𝓥 n X_N (omega arith)) (d.has_up 𝓥 n s.Y_N (omega arith))) (two_b S B.N));
        N2 = lt_unscale 𝓥 (has_two S) (d.lt_eq 𝓥 (d.lt_add 𝓥 (d.lt_up 𝓥 n X_N (omega arith)) (d.lt_neg 𝓥 (d.has_up 𝓥 n s.Y_N (omega arith)))) (two_c S B.N));
      }
        where
          n : ℕ
          n = d_gh S

          u≤y : s.u ≤ s.y
          u≤y = s.u≤y

          X_N : Lt 𝓥 (X S B.N) x
          X_N = 𝓥.lead_move x 0 s.X_N (omega (arith, d.has_unique 𝓥 s.X_M X_M))

          -- X(M) Y(N) is the larger product
          sum : x +ⁿ s.y ≡ ε +ⁿ n
          sum =
              let l : Has 𝓥 (X S B.M * Y S B.N + - (X S B.N * Y S B.M)) (x +ⁿ s.y) = d.has_lt 𝓥 (d.has_mul 𝓥 X_M s.Y_N) (d.lt_neg 𝓥 (d.lt_up 𝓥 (x +ⁿ s.y) (d.lt_mul 𝓥 X_N s.Y_M) (omega arith))) in
              let k : Has 𝓥 (- ((𝟏 + 𝟏) * ((det S B).0 * (G.0 * H.0)))) (ε +ⁿ n) = d.has_neg 𝓥 (has_scale 𝓥 (has_two S) (d.has_mul 𝓥 hε (d.has_mul 𝓥 S.roots.G_deg S.roots.H_deg))) in
              d.same 𝓥 (d.has_eq 𝓥 l (X_Y_det S B)) k

          M0 : Has 𝓥 B.M.a.0 x
          M0 = has_unscale 𝓥 (has_two S) (d.has_eq 𝓥 (d.has_lt 𝓥 X_M (d.lt_up 𝓥 x s.Z_M (omega arith))) (two_a S B.M))

          M0_one : M0.0 ≡ 1ᵏ
          M0_one =
              let l' : Lead (X S B.M) x 0 (1ᵏ +ᵏ 1ᵏ) = leads_at 𝓥 good.scaled.X_M X_M in
              let e : (1ᵏ +ᵏ 1ᵏ) *ᵏ M0.0 ≡ 1ᵏ +ᵏ 1ᵏ +ᵏ 0ᵏ =
              𝓥.lead_unique (𝓥.lead_move x 0 (𝓥.lead_mul (𝓥.lead_add 𝓥.lead_one 𝓥.lead_one) M0.2) (omega arith)) (d.lead_eq 𝓥 (𝓥.lead_add l' (d.lt_up 𝓥 x s.Z_M (omega arith))) (two_a S B.M) refl) in
              rg.eq_of_sub K M0.0 1ᵏ (k_zero 𝓥 (1ᵏ +ᵏ 1ᵏ) (M0.0 +ᵏ -ᵏ 1ᵏ) S.roots.two≢ (ring₁ K (λ c. (one :+ one) :* (c :+ minus one) := (one :+ one) :* c :+ minus (one :+ one :+ zer)) tt M0.0 ∙ ap (λ z. z +ᵏ -ᵏ (1ᵏ +ᵏ 1ᵏ +ᵏ 0ᵏ)) e ∙ K.laws.add_neg _))

  -- no coefficient polynomial above deg GH
  pub record Fits (B : Basis S) : Type 0 where
    pub U : Lt 𝓥 B.U.0 (d_gh S)
    pub M0 : Lt 𝓥 B.M.a.0 (suc (d_gh S))
    pub M1 : Lt 𝓥 B.M.b.0 (suc (d_gh S))
    pub M2 : Lt 𝓥 B.M.c.0 (suc (d_gh S))
    pub N0 : Lt 𝓥 B.N.a.0 (d_gh S)
    pub N1 : Lt 𝓥 B.N.b.0 (d_gh S)
    pub N2 : Lt 𝓥 B.N.c.0 (d_gh S)

  -- a factor of degree at least 0 taken off
  pub lt_off : {x y : L.El} {m n : ℕ} → Has 𝓥 y m → Lt 𝓥 (x * y) n → Lt 𝓥 x n
  lt_off {x} {y} {m} {n} h g = d.lt_cancel 𝓥 n h (d.lt_up 𝓥 (m +ⁿ n) (d.lt_eq 𝓥 g (L.laws.mul_comm x y)) (omega arith))

  pub fits : (B : Basis S) → Good S B → Fits B
  fits B good =
      let s : Small B = small B good in
      let u<n : s.u < d_gh S = s.u<n in
      let x≤n : s.x ≤ d_gh S = s.x≤n in
      record {
        U = d.has_up 𝓥 (d_gh S) s.U_has u<n;
        M0 = d.has_up 𝓥 (suc (d_gh S)) s.M0 (omega arith);
        M1 = lt_off S.roots.r_deg (d.has_up 𝓥 (suc (d_gh S)) s.M1 (omega arith));
        M2 = lt_off S.roots.w_deg (d.has_up 𝓥 (suc (d_gh S)) s.M2 (omega arith));
        N0 = s.N0;
        N1 = lt_off S.roots.r_deg s.N1;
        N2 = lt_off S.roots.w_deg s.N2;
      }

  pub det_lead : {ε : ℕ} {c g : K.El} (B : Basis S) → Good S B → Lead (det S B).0 ε 0 c → c ≢ 0ᵏ → Lead (G.0 * H.0) (d_gh S) 0 g → c *ᵏ g ≡ -ᵏ 1ᵏ
  det_lead {ε} {c} {g} B good hc nz hg =
      let s : Small B = small B good in
      let u<x : s.u < s.x = s.u<x in
      let u≤y : s.u ≤ s.y = s.u≤y in
      let ee : s.ε ≡ ε = d.same 𝓥 s.e_has (c, nz, hc) in
      let l : Lead (X S B.M * Y S B.N + - (X S B.N * Y S B.M)) (s.x +ⁿ s.y) 0 ((1ᵏ +ᵏ 1ᵏ) *ᵏ 1ᵏ +ᵏ -ᵏ 0ᵏ) =
      𝓥.lead_add (𝓥.lead_mul (leads_at 𝓥 good.scaled.X_M s.X_M) (leads_at 𝓥 good.scaled.Y_N s.Y_N))
      (𝓥.lead_neg (d.lt_up 𝓥 (s.x +ⁿ s.y) (d.lt_mul 𝓥 s.X_N s.Y_M) (omega arith))) in
      let k : Lead (- ((𝟏 + 𝟏) * ((det S B).0 * (G.0 * H.0)))) (s.x +ⁿ s.y) 0 (-ᵏ ((1ᵏ +ᵏ 1ᵏ) *ᵏ (c *ᵏ g))) =
      𝓥.lead_move (s.x +ⁿ s.y) 0 (𝓥.lead_neg (𝓥.lead_mul (𝓥.lead_add 𝓥.lead_one 𝓥.lead_one) (𝓥.lead_mul hc hg))) (omega (arith, s.sum)) in
      let e : (1ᵏ +ᵏ 1ᵏ) *ᵏ 1ᵏ +ᵏ -ᵏ 0ᵏ ≡ -ᵏ ((1ᵏ +ᵏ 1ᵏ) *ᵏ (c *ᵏ g)) = 𝓥.lead_unique (d.lead_eq 𝓥 l (X_Y_det S B) refl) k in
      rg.eq_of_sub K (c *ᵏ g) (-ᵏ 1ᵏ) (k_zero 𝓥 (1ᵏ +ᵏ 1ᵏ) (c *ᵏ g +ᵏ -ᵏ (-ᵏ 1ᵏ)) S.roots.two≢
      (ring₁ K (λ z. (one :+ one) :* (z :+ minus (minus one)) := (one :+ one) :* one :+ minus zer :+ minus (minus ((one :+ one) :* z))) tt (c *ᵏ g) ∙ ap (λ z. z +ᵏ -ᵏ (-ᵏ ((1ᵏ +ᵏ 1ᵏ) *ᵏ (c *ᵏ g)))) e ∙ K.laws.add_neg _))
