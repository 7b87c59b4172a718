-- Products of elements: the value, the norm and the cofactor are multiplicative.
--   w_w r_cube w_cube    w² = G r, r³ = G H², w³ = G² H
--   dr_dw dr_pos dw_pos  deg r + deg w = deg GH, and both are at least 1
--   ev_mul norm_mul cof_mul     of a product, the product
--   norm_cof             x · cof x = norm x
--   Q                    the value of the cofactor, as a form in A, Br, Cw; `ev_cof` says that it is, and 4 Q = 3Y² + Z²
--   ev_Q                 the value times that of the cofactor is the norm
--   X_form               X · ((Br)² − (Br)(Cw) + (Cw)²) = G H (B³ H + C³ G); for Y take −C
use mathlib.Core.Path.{◌≡◌, sym, ap, ◌∙◌}
use mathlib.Core.List.{List, [], ◌∷◌}
use Prim.Native.Nat.{◌≤◌, ◌+◌ as ◌+ⁿ◌}
use native.Mathlib.Omega.{arith}
use Rattle.math_ring.specs.Ring.{Ops}
use Rattle.math_ring.proofs.Solve.{hyp, var, exprs, one, zer, minus, ◌:+◌, ◌:*◌, ◌:=◌, solve, solve_by, ring₂}
use Rattle.math_triple.specs.Tri as T
use Rattle.math_triple.specs.Sizes.{ev_t, YT, ZT}
use Rattle.math_triple.specs.Tri.{Tri, cof_t}
use Rattle.math_triple.specs.Order.{triops}
use Rattle.math_valued.specs.Polynomial.{polys}
use Rattle.math_valued.proofs.Degree as d
use Rattle.math_ideals.specs.Setting.{Setting, P, d_gh}
use Rattle.math_ideals.specs.Element.{O, sc, ev, Y, Z, norm, cof}
use Rattle.math_ideals.proofs.Sizes.{g_e, h_e, r_e, w_e, x_e, y_e, env}
open triops exprs g_e h_e use {mul as ◌:⊗◌}

infixl 70 ◌:⊗◌
module _ {A : Type 0} (o : Ops A) where
  open o use {add as ◌+◌, mul as ◌*◌, neg as -◌}

  infixl 60 ◌+◌
  infixl 70 ◌*◌
  infix 80 -◌
  -- a² + y² + z² − ay − az − yz, the product of the two other conjugates where y = Br, z = Cw
  abbrev pub plain : A → A → A → A
  plain a y z = a * a + y * y + z * z + - (a * y) + - (a * z) + - (y * z)

  abbrev pub QT : A → A → Tri A → A
  QT r w x = plain x.a (x.b * r) (x.c * w)

module _ (S : Setting) where
  open S use {𝓥}
  open S.roots use {G, H, r, w}
  open 𝓥 use {L}
  open L.ops use {add as ◌+◌, mul as ◌*◌, neg as -◌, 𝟎, 𝟏}
  open (polys 𝓥).ops use {add as ◌⊞◌, mul as ◌⊠◌, neg as ⊟◌}
  open (O S).ops use {mul as ◌⊗◌, 𝟏 as 1ₒ}

  infixl 60 ◌+◌ ◌⊞◌
  infixl 70 ◌*◌ ◌⊗◌ ◌⊠◌
  infix 80 -◌ ⊟◌
  -- ---- r and w
  abbrev rw_l : List L.El
  rw_l = G.0 ∷ H.0 ∷ r ∷ w ∷ []

  pub w_w : w * w ≡ G.0 * r
  w_w = d.cancel 𝓥 (w * w) (G.0 * r) S.roots.r_deg
      (solve_by L (r_e :* (w_e :* w_e)) (r_e :* (g_e :* r_e)) (hyp w_e (r_e :* w_e) (g_e :* h_e) ∷ hyp (minus g_e) (r_e :* r_e) (h_e :* w_e) ∷ []) tt rw_l (S.roots.r_w, (S.roots.r_r, tt)))

  pub r_cube : r * r * r ≡ G.0 * (H.0 * H.0)
  r_cube = solve_by L (r_e :* r_e :* r_e) (g_e :* (h_e :* h_e)) (hyp r_e (r_e :* r_e) (h_e :* w_e) ∷ hyp h_e (r_e :* w_e) (g_e :* h_e) ∷ []) tt rw_l (S.roots.r_r, (S.roots.r_w, tt))

  pub w_cube : w * w * w ≡ G.0 * G.0 * H.0
  w_cube = solve_by L (w_e :* w_e :* w_e) (g_e :* g_e :* h_e) (hyp w_e (w_e :* w_e) (g_e :* r_e) ∷ hyp g_e (r_e :* w_e) (g_e :* h_e) ∷ []) tt rw_l (w_w, (S.roots.r_w, tt))

  pub dr_dw : S.roots.dr +ⁿ S.roots.dw ≡ d_gh S
  dr_dw = d.same 𝓥 (d.has_mul 𝓥 S.roots.r_deg S.roots.w_deg) (d.has_eq 𝓥 (d.has_mul 𝓥 S.roots.G_deg S.roots.H_deg) (sym S.roots.r_w))

  -- 3 deg r = deg G + 2 deg H and 3 deg w = 2 deg G + deg H
  pub dr_eq : S.roots.dr +ⁿ S.roots.dr ≡ S.roots.d_h +ⁿ S.roots.dw
  dr_eq = d.same 𝓥 (d.has_mul 𝓥 S.roots.r_deg S.roots.r_deg) (d.has_eq 𝓥 (d.has_mul 𝓥 S.roots.H_deg S.roots.w_deg) (sym S.roots.r_r))

  pub dr_pos : 1 ≤ S.roots.dr
  dr_pos = let n : 1 ≤ d_gh S = S.roots.not_const in omega (arith, dr_dw, dr_eq)

  pub dw_pos : 1 ≤ S.roots.dw
  dw_pos = let n : 1 ≤ d_gh S = S.roots.not_const in omega (arith, dr_dw, dr_eq)

  -- ---- products
  pub ev_mul : (u v : (O S).El) → ev S (u ⊗ v) ≡ ev S u * ev S v
  ev_mul u v = solve_by L (ev_t exprs r_e w_e (x_e :⊗ y_e)) (ev_t exprs r_e w_e x_e :* ev_t exprs r_e w_e y_e)
      (hyp (minus (var 5 :* var 8)) (r_e :* r_e) (h_e :* w_e) ∷ hyp (minus (var 5 :* var 9 :+ var 6 :* var 8)) (r_e :* w_e) (g_e :* h_e) ∷ hyp (minus (var 6 :* var 9)) (w_e :* w_e) (g_e :* r_e) ∷ [])
      tt (env S u v) (S.roots.r_r, (S.roots.r_w, (w_w, tt)))

  pub norm_mul : (u v : (O S).El) → norm S (u ⊗ v) ≡ norm S u ⊠ norm S v
  norm_mul u v = T.norm_mul (polys 𝓥) G H u v

  pub cof_mul : (u v : (O S).El) → cof S (u ⊗ v) ≡ cof S u ⊗ cof S v
  cof_mul u v = T.cofactor_mul (polys 𝓥) G H u v

  pub norm_cof : (u : (O S).El) → u ⊗ cof S u ≡ sc S (norm S u)
  norm_cof u = T.cofactor (polys 𝓥) G H u

  pub ev_one : ev S 1ₒ ≡ 𝟏
  ev_one = ring₂ L (λ r w. one :+ zer :* r :+ zer :* w := one) tt r w

  -- ---- the value of the cofactor
  abbrev pub Q : (O S).El → L.El
  Q x = QT L.ops r w (record { a = x.a.0; b = x.b.0; c = x.c.0 })

  pub ev_cof : (u : (O S).El) → ev S (cof S u) ≡ Q u
  ev_cof u =
      let A = var 4 in let B = var 5 in let C = var 6 in
      solve_by L (ev_t exprs r_e w_e (cof_t exprs g_e h_e x_e)) (QT exprs r_e w_e x_e)
      (hyp (B :* C) (r_e :* w_e) (g_e :* h_e) ∷ hyp (minus (C :* C)) (w_e :* w_e) (g_e :* r_e) ∷ hyp (minus (B :* B)) (r_e :* r_e) (h_e :* w_e) ∷ []) tt (env S u u) (S.roots.r_w, (w_w, (S.roots.r_r, tt)))

  pub Q_yz : (u : (O S).El) → (𝟏 + 𝟏) * ((𝟏 + 𝟏) * Q u) ≡ (𝟏 + 𝟏 + 𝟏) * (Y S u * Y S u) + Z S u * Z S u
  Q_yz u = solve L ((one :+ one) :* ((one :+ one) :* QT exprs r_e w_e x_e)) ((one :+ one :+ one) :* (YT exprs r_e w_e x_e :* YT exprs r_e w_e x_e) :+ ZT exprs r_e w_e x_e :* ZT exprs r_e w_e x_e) tt (env S u u)

  pub Q_mul : (u v : (O S).El) → Q (u ⊗ v) ≡ Q u * Q v
  Q_mul u v = sym (ev_cof (u ⊗ v)) ∙ ap (ev S) (cof_mul u v) ∙ ev_mul (cof S u) (cof S v) ∙ ap (λ z. z * ev S (cof S v)) (ev_cof u) ∙ ap (λ z. Q u * z) (ev_cof v)

  pub Q_one : Q 1ₒ ≡ 𝟏
  Q_one = ring₂ L (λ r w. plain exprs one (zer :* r) (zer :* w) := one) tt r w

  -- ev(x) · ev(cof x) = N(x)
  pub ev_Q : (u : (O S).El) → ev S u * Q u ≡ (norm S u).0
  ev_Q u =
      ap (λ z. ev S u * z) (sym (ev_cof u)) ∙ sym (ev_mul u (cof S u)) ∙ ap (ev S) (norm_cof u)
      ∙ solve L (var 0 :+ zer :* var 1 :+ zer :* var 2) (var 0) tt ((norm S u).0 ∷ r ∷ w ∷ [])

  -- ---- X and Y as factors of G H (B³ H ± C³ G)
  abbrev pub form' : L.El → L.El → L.El
  form' y z = y * y + - (y * z) + z * z

  pub X_form : (b c : P S) → (b.0 * r + c.0 * w) * form' (b.0 * r) (c.0 * w) ≡ G.0 * H.0 * (b ⊠ b ⊠ b ⊠ H ⊞ c ⊠ c ⊠ c ⊠ G).0
  X_form b c =
      let b³ = var 4 :* var 4 :* var 4 in let c³ = var 5 :* var 5 :* var 5 in
      let x = var 4 :* r_e in let y = var 5 :* w_e in
      solve_by L ((x :+ y) :* (x :* x :+ minus (x :* y) :+ y :* y)) (g_e :* h_e :* (b³ :* h_e :+ c³ :* g_e))
      (hyp (b³ :* r_e) (r_e :* r_e) (h_e :* w_e) ∷ hyp (b³ :* h_e) (r_e :* w_e) (g_e :* h_e) ∷ hyp (c³ :* w_e) (w_e :* w_e) (g_e :* r_e) ∷ hyp (c³ :* g_e) (r_e :* w_e) (g_e :* h_e) ∷ [])
      tt (G.0 ∷ H.0 ∷ r ∷ w ∷ b.0 ∷ c.0 ∷ []) (S.roots.r_r, (S.roots.r_w, (w_w, (S.roots.r_w, tt))))
