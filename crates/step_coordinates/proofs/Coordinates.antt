-- How large the coordinates of r m and w m in a reduced basis are: r m = x0 + x1 m + x2 n, w m = y0 + y1 m + y2 n.
--   narrow   an element whose X is at most deg X(M) + j, and whose Y, Z lie below deg U + j, has coordinates of degrees below j, at most j,
--            below j
--   r_narrow w_narrow   so it is for r M with j = deg r, and for w M with j = deg w
use mathlib.Core.Path.{◌≡◌, sym, ap, ◌∙◌}
use mathlib.Core.List.{List, [], ◌∷◌}
use Prim.Native.Nat.{ℕ, suc, ◌≤◌, ◌+◌ as ◌+ⁿ◌}
use native.Mathlib.Omega.{arith}
use Rattle.math_ring.proofs.Solve.{Expr, var, hyp, one, minus, ◌:+◌, ◌:*◌, solve, solve_by}
use Rattle.math_valued.specs.Degree.{Has, Lt}
use Rattle.math_valued.proofs.Degree as d
use Rattle.math_valued.proofs.Compare.{lt_scale, lt_unscale, lt_mul_sharp}
use Rattle.math_ideals.specs.Setting.{Setting, P}
use Rattle.math_ideals.specs.Element.{O, X, Y, Z, times_r, times_w}
use Rattle.math_ideals.specs.Ideal.{Basis, lin, Coords}
use Rattle.math_ideals.specs.Basis.{Good}
use Rattle.math_ideals.proofs.Sizes.{X_lin, Y_lin, Z_lin}
use Rattle.math_ideals.proofs.Values.{w_w}
use Rattle.math_ideals.proofs.Form.{has_two, has_three}
use Rattle.math_ideals.proofs.Check.{coords_eq}
use Rattle.math_ideals.proofs.Degrees.{Small}

module _ (S : Setting) (B : Basis S) (s : Small S B) where
  open S use {𝓥}
  open S.roots use {G, H, r, w}
  open 𝓥 use {L}
  open L.ops use {add as ◌+◌, mul as ◌*◌, neg as -◌, 𝟎, 𝟏}

  infixl 60 ◌+◌
  infixl 70 ◌*◌
  infix 80 -◌
  pub record Near (j : ℕ) (v : (O S).El) : Type 0 where
    pub X_lt : Lt 𝓥 (X S v) (suc (s.x +ⁿ j))
    pub Y_lt : Lt 𝓥 (Y S v) (s.u +ⁿ j)
    pub Z_lt : Lt 𝓥 (Z S v) (s.u +ⁿ j)

  pub record Narrow (j : ℕ) (α β γ : P S) : Type 0 where
    pub α_lt : Lt 𝓥 α.0 j
    pub β_lt : Lt 𝓥 β.0 (suc j)
    pub γ_lt : Lt 𝓥 γ.0 j

  -- X(M) Y(N) − X(N) Y(M)
  D : L.El
  D = X S B.M * Y S B.N + - (X S B.N * Y S B.M)

  D_has : Has 𝓥 D (s.x +ⁿ s.y)
  unfolding D
  D_has = d.has_lt 𝓥 (d.has_mul 𝓥 s.X_M s.Y_N) (d.lt_neg 𝓥 (d.lt_up 𝓥 (s.x +ⁿ s.y) (d.lt_mul 𝓥 s.X_N s.Y_M) (let h : s.u ≤ s.y = s.u≤y in omega arith)))

  module _ (j : ℕ) (v : (O S).El) (α β γ : P S) (e : v ≡ lin S B α β γ) (h : Near j v) where
    at_X : X S v ≡ β.0 * X S B.M + γ.0 * X S B.N
    at_X = ap (X S) e ∙ X_lin S B α β γ

    at_Y : Y S v ≡ β.0 * Y S B.M + γ.0 * Y S B.N
    at_Y = ap (Y S) e ∙ Y_lin S B α β γ

    -- X(M), X(N), Y(M), Y(N), β, γ, X(v), Y(v)
    env : List L.El
    env = X S B.M ∷ X S B.N ∷ Y S B.M ∷ Y S B.N ∷ β.0 ∷ γ.0 ∷ X S v ∷ Y S v ∷ []

    DE : Expr
    DE = var 0 :* var 3 :+ minus (var 1 :* var 2)

    at_β : X S v * Y S B.N + - (X S B.N * Y S v) ≡ D * β.0
    unfolding env DE D
    at_β = solve_by L (var 6 :* var 3 :+ minus (var 1 :* var 7)) (DE :* var 4)
        (hyp (var 3) (var 6) (var 4 :* var 0 :+ var 5 :* var 1) ∷ hyp (minus (var 1)) (var 7) (var 4 :* var 2 :+ var 5 :* var 3) ∷ []) tt env (at_X, (at_Y, tt))

    at_γ : X S B.M * Y S v + - (X S v * Y S B.M) ≡ D * γ.0
    unfolding env DE D
    at_γ = solve_by L (var 0 :* var 7 :+ minus (var 6 :* var 2)) (DE :* var 5)
        (hyp (minus (var 2)) (var 6) (var 4 :* var 0 :+ var 5 :* var 1) ∷ hyp (var 0) (var 7) (var 4 :* var 2 :+ var 5 :* var 3) ∷ []) tt env (at_X, (at_Y, tt))

    β_low : Lt 𝓥 β.0 (suc j)
    β_low = let uy : s.u ≤ s.y = s.u≤y in
        d.lt_cancel 𝓥 (suc j) D_has (d.lt_eq 𝓥 (d.lt_add 𝓥
        (d.lt_up 𝓥 (s.x +ⁿ s.y +ⁿ suc j) (d.lt_has_mul 𝓥 h.X_lt s.Y_N) (omega arith))
        (d.lt_neg 𝓥 (d.lt_up 𝓥 (s.x +ⁿ s.y +ⁿ suc j) (d.lt_mul 𝓥 s.X_N h.Y_lt) (omega arith)))) at_β)

    γ_low : Lt 𝓥 γ.0 j
    γ_low = let uy : s.u ≤ s.y = s.u≤y in
        d.lt_cancel 𝓥 j D_has (d.lt_eq 𝓥 (d.lt_add 𝓥
        (d.lt_up 𝓥 (s.x +ⁿ s.y +ⁿ j) (d.lt_eq 𝓥 (d.lt_has_mul 𝓥 h.Y_lt s.X_M) (L.laws.mul_comm (Y S v) (X S B.M))) (omega arith))
        (d.lt_neg 𝓥 (d.lt_up 𝓥 (s.x +ⁿ s.y +ⁿ j) (lt_mul_sharp 𝓥 h.X_lt s.Y_M) (omega arith)))) at_γ)

    at_α : Z S v + - (β.0 * Z S B.M) + - (γ.0 * Z S B.N) ≡ (𝟏 + 𝟏) * (B.U.0 * α.0)
    at_α = solve_by L (var 6 :+ minus (var 1 :* var 2) :+ minus (var 3 :* var 4)) ((one :+ one) :* (var 5 :* var 0))
        (hyp one (var 6) ((one :+ one) :* (var 0 :* var 5) :+ var 1 :* var 2 :+ var 3 :* var 4) ∷ []) tt
        (α.0 ∷ β.0 ∷ Z S B.M ∷ γ.0 ∷ Z S B.N ∷ B.U.0 ∷ Z S v ∷ []) (ap (Z S) e ∙ Z_lin S B α β γ, tt)

    α_low : Lt 𝓥 α.0 j
    α_low = d.lt_cancel 𝓥 j s.U_has (lt_unscale 𝓥 (has_two S) (d.lt_eq 𝓥 (d.lt_add 𝓥 (d.lt_add 𝓥 h.Z_lt
        (d.lt_neg 𝓥 (d.lt_up 𝓥 (s.u +ⁿ j) (lt_mul_sharp 𝓥 β_low s.Z_M) (omega arith))))
        (d.lt_neg 𝓥 (d.lt_up 𝓥 (s.u +ⁿ j) (d.lt_mul 𝓥 γ_low s.Z_N) (omega arith)))) at_α))

    pub narrow : Narrow j α β γ
    narrow = record { α_lt = α_low; β_lt = β_low; γ_lt = γ_low }

  -- M0, M1, M2, r, w, G, H
  ms : List L.El
  ms = B.M.a.0 ∷ B.M.b.0 ∷ B.M.c.0 ∷ r ∷ w ∷ G.0 ∷ H.0 ∷ []

  -- twice a sum that Y and Z make up
  half_lt : {z : L.El} (y : L.El) → Lt 𝓥 y s.u → y ≡ (𝟏 + 𝟏) * z → Lt 𝓥 z s.u
  half_lt y l e = lt_unscale 𝓥 (has_two S) (d.lt_eq 𝓥 l e)

  YM : L.El
  YM = Y S B.M

  ZM : L.El
  ZM = Z S B.M

  Y_lt : Lt 𝓥 YM s.u
  unfolding YM
  Y_lt = s.Y_M

  Z_lt : Lt 𝓥 ZM s.u
  unfolding ZM
  Z_lt = s.Z_M

  near_r : Near S.roots.dr (times_r S B.M)
  unfolding YM ZM ms
  near_r =
      let m0 = var 0 in let m1 = var 1 in let m2 = var 2 in let rr = var 3 in let ww = var 4 in let g = var 5 in let h = var 6 in
      let y_e = m1 :* rr :+ minus (m2 :* ww) in
      let z_e = (one :+ one) :* m0 :+ minus (m1 :* rr) :+ minus (m2 :* ww) in
      let low-y : Lt 𝓥 (B.M.a.0 + - (B.M.b.0 * r)) s.u = half_lt (ZM + - YM) (d.lt_add 𝓥 Z_lt (d.lt_neg 𝓥 Y_lt))
      (solve L (z_e :+ minus y_e) ((one :+ one) :* (m0 :+ minus (m1 :* rr))) tt ms) in
      let low-z : Lt 𝓥 ((𝟏 + 𝟏) * (B.M.c.0 * w) + - B.M.a.0 + - (B.M.b.0 * r)) s.u = half_lt (- ((𝟏 + 𝟏 + 𝟏) * YM + ZM)) (d.lt_neg 𝓥 (d.lt_add 𝓥 (lt_scale 𝓥 (has_three S) Y_lt) Z_lt))
      (solve L (minus ((one :+ one :+ one) :* y_e :+ z_e)) ((one :+ one) :* ((one :+ one) :* (m2 :* ww) :+ minus m0 :+ minus (m1 :* rr))) tt ms) in
      record {
        X_lt = d.lt_eq 𝓥 (d.lt_up 𝓥 (suc (s.x +ⁿ S.roots.dr)) (d.lt_has_mul 𝓥 (d.lt_add 𝓥 (d.has_up 𝓥 (suc s.x) s.M0 (omega arith)) (d.has_up 𝓥 (suc s.x) s.M1 (omega arith))) S.roots.r_deg) (omega arith))
            (sym (solve_by L (m0 :* rr :+ m1 :* h :* ww) ((m0 :+ m1 :* rr) :* rr) (hyp (minus m1) (rr :* rr) (h :* ww) ∷ []) tt ms (S.roots.r_r, tt)));
        Y_lt = d.lt_eq 𝓥 (d.lt_has_mul 𝓥 low-y S.roots.r_deg)
            (sym (solve_by L (m0 :* rr :+ minus (m1 :* h :* ww)) ((m0 :+ minus (m1 :* rr)) :* rr) (hyp m1 (rr :* rr) (h :* ww) ∷ []) tt ms (S.roots.r_r, tt)));
        Z_lt = d.lt_eq 𝓥 (d.lt_has_mul 𝓥 low-z S.roots.r_deg)
            (sym (solve_by L ((one :+ one) :* (m2 :* (g :* h)) :+ minus (m0 :* rr) :+ minus (m1 :* h :* ww)) (((one :+ one) :* (m2 :* ww) :+ minus m0 :+ minus (m1 :* rr)) :* rr)
            (hyp (minus ((one :+ one) :* m2)) (rr :* ww) (g :* h) ∷ hyp m1 (rr :* rr) (h :* ww) ∷ []) tt ms (S.roots.r_w, (S.roots.r_r, tt))));
      }

  near_w : Near S.roots.dw (times_w S B.M)
  unfolding YM ZM ms
  near_w =
      let m0 = var 0 in let m1 = var 1 in let m2 = var 2 in let rr = var 3 in let ww = var 4 in let g = var 5 in let h = var 6 in
      let y_e = m1 :* rr :+ minus (m2 :* ww) in
      let z_e = (one :+ one) :* m0 :+ minus (m1 :* rr) :+ minus (m2 :* ww) in
      let low-y : Lt 𝓥 (B.M.c.0 * w + - B.M.a.0) s.u = half_lt (- (YM + ZM)) (d.lt_neg 𝓥 (d.lt_add 𝓥 Y_lt Z_lt))
      (solve L (minus (y_e :+ z_e)) ((one :+ one) :* (m2 :* ww :+ minus m0)) tt ms) in
      let low-z : Lt 𝓥 ((𝟏 + 𝟏) * (B.M.b.0 * r) + - (B.M.c.0 * w) + - B.M.a.0) s.u = half_lt ((𝟏 + 𝟏 + 𝟏) * YM + - ZM) (d.lt_add 𝓥 (lt_scale 𝓥 (has_three S) Y_lt) (d.lt_neg 𝓥 Z_lt))
      (solve L ((one :+ one :+ one) :* y_e :+ minus z_e) ((one :+ one) :* ((one :+ one) :* (m1 :* rr) :+ minus (m2 :* ww) :+ minus m0)) tt ms) in
      record {
        X_lt = d.lt_eq 𝓥 (d.lt_up 𝓥 (suc (s.x +ⁿ S.roots.dw)) (d.lt_has_mul 𝓥 (d.lt_add 𝓥 (d.has_up 𝓥 (suc s.x) s.M2 (omega arith)) (d.has_up 𝓥 (suc s.x) s.M0 (omega arith))) S.roots.w_deg) (omega arith))
            (sym (solve_by L (m2 :* g :* rr :+ m0 :* ww) ((m2 :* ww :+ m0) :* ww) (hyp (minus m2) (ww :* ww) (g :* rr) ∷ []) tt ms (w_w S, tt)));
        Y_lt = d.lt_eq 𝓥 (d.lt_has_mul 𝓥 low-y S.roots.w_deg)
            (sym (solve_by L (m2 :* g :* rr :+ minus (m0 :* ww)) ((m2 :* ww :+ minus m0) :* ww) (hyp (minus m2) (ww :* ww) (g :* rr) ∷ []) tt ms (w_w S, tt)));
        Z_lt = d.lt_eq 𝓥 (d.lt_has_mul 𝓥 low-z S.roots.w_deg)
            (sym (solve_by L ((one :+ one) :* (m1 :* (g :* h)) :+ minus (m2 :* g :* rr) :+ minus (m0 :* ww)) (((one :+ one) :* (m1 :* rr) :+ minus (m2 :* ww) :+ minus m0) :* ww)
            (hyp (minus ((one :+ one) :* m1)) (rr :* ww) (g :* h) ∷ hyp m2 (ww :* ww) (g :* rr) ∷ []) tt ms (S.roots.r_w, (w_w S, tt))));
      }

  module _ (good : Good S B) where
    pub r_narrow : (k : Coords S B (times_r S B.M)) → Narrow S.roots.dr k.α k.β k.γ
    r_narrow k = narrow S.roots.dr _ k.α k.β k.γ (coords_eq S B good.ideal.rank _ k) near_r

    pub w_narrow : (k : Coords S B (times_w S B.M)) → Narrow S.roots.dw k.α k.β k.γ
    w_narrow k = narrow S.roots.dw _ k.α k.β k.γ (coords_eq S B good.ideal.rank _ k) near_w
