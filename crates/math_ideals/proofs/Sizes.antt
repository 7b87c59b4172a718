-- The linear part of the theory of elements: the sizes X, Y, Z and the value of elements.
--   g_e .. lin_e               the solver's expressions for G, H, r, w, two elements and αU + βM + γN
--   X_lin Y_lin Z_lin        the sizes of αU + βM + γN
--   X_sc Y_sc Z_sc ev_sc     the sizes of a polynomial times an element, sc_a sc_b sc_c its coordinates
--   ev_xz two_a two_b two_c three_a   2 ev = 3X + Z, 2A = X + Z, 2Br = X + Y, 2Cw = X − Y, 3A = ev + Z
--   O_path sc_cancel         equality of elements; a polynomial that is not 0 cancels
--   flat_sc ev_flat          an element without r and w is a polynomial, and its value is that
--   X_Y_det                  X(M) Y(N) − X(N) Y(M) = −2 e G H
use mathlib.Core.Path.{◌≡◌, refl, sym, ap, ◌∙◌}
use mathlib.Core.List.{List, [], ◌∷◌}
use Prim.Native.Nat.{ℕ}
use Rattle.math_ring.proofs.Solve.{Expr, hyp, var, exprs, one, lit, zer, minus, ◌:+◌, ◌:*◌, ◌:=◌, solve, solve_by, ring₂, ring₃}
use Rattle.math_triple.specs.Sizes.{ev_t, XT, YT, ZT}
use Rattle.math_triple.specs.Tri.{Tri, tri_e}
use Rattle.math_triple.specs.Order.{triops}
use Rattle.math_valued.specs.Degree.{Has}
use Rattle.math_valued.proofs.Degree as d
use Rattle.math_valued.proofs.Polynomial.{P_path}
use Rattle.math_ideals.specs.Setting.{Setting, P}
use Rattle.math_ideals.specs.Element as D
use Rattle.math_ideals.specs.Element.{O, sc}
use Rattle.math_ideals.specs.Ideal.{Basis, lin, det}

-- ---- expressions
abbrev pub g_e : Expr
g_e = var 0

abbrev pub h_e : Expr
h_e = var 1

abbrev pub r_e : Expr
r_e = var 2

abbrev pub w_e : Expr
w_e = var 3

abbrev pub x_e : Tri Expr
x_e = tri_e (var 4) (var 5) (var 6)

abbrev pub y_e : Tri Expr
y_e = tri_e (var 7) (var 8) (var 9)

abbrev pub sc_e : Expr → Tri Expr
sc_e u = tri_e u zer zer

open triops exprs g_e h_e use {add as ◌:⊕◌, mul as ◌:⊗◌}

infixl 60 ◌:⊕◌
infixl 70 ◌:⊗◌
-- αU + βM + γN, with M for x, N for y
abbrev pub lin_e : Tri Expr
lin_e = sc_e (var 10) :⊗ sc_e (var 11) :⊕ sc_e (var 12) :⊗ x_e :⊕ sc_e (var 13) :⊗ y_e

module _ (S : Setting) where
  open S use {𝓥}
  open S.roots use {G, H, r, w}
  open 𝓥 use {K, L, Lead}
  open L.ops use {add as ◌+◌, mul as ◌*◌, neg as -◌, 𝟎, 𝟏}
  open (O S).ops use {add as ◌⊕◌, mul as ◌⊗◌}

  infixl 60 ◌+◌ ◌⊕◌
  infixl 70 ◌*◌ ◌⊗◌
  infix 80 -◌
  abbrev pub env : (O S).El → (O S).El → List L.El
  env u v = G.0 ∷ H.0 ∷ r ∷ w ∷ u.a.0 ∷ u.b.0 ∷ u.c.0 ∷ v.a.0 ∷ v.b.0 ∷ v.c.0 ∷ []

  abbrev env_b : Basis S → P S → P S → P S → List L.El
  env_b B α β γ = G.0 ∷ H.0 ∷ r ∷ w ∷ B.M.a.0 ∷ B.M.b.0 ∷ B.M.c.0 ∷ B.N.a.0 ∷ B.N.b.0 ∷ B.N.c.0 ∷ α.0 ∷ B.U.0 ∷ β.0 ∷ γ.0 ∷ []

  abbrev X : (O S).El → L.El
  X = D.X S

  abbrev Y : (O S).El → L.El
  Y = D.Y S

  abbrev Z : (O S).El → L.El
  Z = D.Z S

  abbrev ev : (O S).El → L.El
  ev = D.ev S

  -- ---- linear
  pub X_lin : (B : Basis S) (α β γ : P S) → X (lin S B α β γ) ≡ β.0 * X B.M + γ.0 * X B.N
  X_lin B α β γ = solve L (XT exprs r_e w_e lin_e) (var 12 :* XT exprs r_e w_e x_e :+ var 13 :* XT exprs r_e w_e y_e) tt (env_b B α β γ)

  pub Y_lin : (B : Basis S) (α β γ : P S) → Y (lin S B α β γ) ≡ β.0 * Y B.M + γ.0 * Y B.N
  Y_lin B α β γ = solve L (YT exprs r_e w_e lin_e) (var 12 :* YT exprs r_e w_e x_e :+ var 13 :* YT exprs r_e w_e y_e) tt (env_b B α β γ)

  pub Z_lin : (B : Basis S) (α β γ : P S) → Z (lin S B α β γ) ≡ (𝟏 + 𝟏) * (α.0 * B.U.0) + β.0 * Z B.M + γ.0 * Z B.N
  Z_lin B α β γ = solve L (ZT exprs r_e w_e lin_e) ((one :+ one) :* (var 10 :* var 11) :+ var 12 :* ZT exprs r_e w_e x_e :+ var 13 :* ZT exprs r_e w_e y_e) tt (env_b B α β γ)

  -- ---- a polynomial times an element
  pub sc_a : (u : P S) (v : (O S).El) → (sc S u ⊗ v).a.0 ≡ u.0 * v.a.0
  sc_a u v = solve L (sc_e (var 4) :⊗ y_e).a (var 4 :* var 7) tt (env (sc S u) v)

  pub sc_b : (u : P S) (v : (O S).El) → (sc S u ⊗ v).b.0 ≡ u.0 * v.b.0
  sc_b u v = solve L (sc_e (var 4) :⊗ y_e).b (var 4 :* var 8) tt (env (sc S u) v)

  pub sc_c : (u : P S) (v : (O S).El) → (sc S u ⊗ v).c.0 ≡ u.0 * v.c.0
  sc_c u v = solve L (sc_e (var 4) :⊗ y_e).c (var 4 :* var 9) tt (env (sc S u) v)

  pub X_sc : (u : P S) (v : (O S).El) → X (sc S u ⊗ v) ≡ u.0 * X v
  X_sc u v = solve L (XT exprs r_e w_e (sc_e (var 4) :⊗ y_e)) (var 4 :* XT exprs r_e w_e y_e) tt (env (sc S u) v)

  pub Y_sc : (u : P S) (v : (O S).El) → Y (sc S u ⊗ v) ≡ u.0 * Y v
  Y_sc u v = solve L (YT exprs r_e w_e (sc_e (var 4) :⊗ y_e)) (var 4 :* YT exprs r_e w_e y_e) tt (env (sc S u) v)

  pub Z_sc : (u : P S) (v : (O S).El) → Z (sc S u ⊗ v) ≡ u.0 * Z v
  Z_sc u v = solve L (ZT exprs r_e w_e (sc_e (var 4) :⊗ y_e)) (var 4 :* ZT exprs r_e w_e y_e) tt (env (sc S u) v)

  pub ev_sc : (u : P S) (v : (O S).El) → ev (sc S u ⊗ v) ≡ u.0 * ev v
  ev_sc u v = solve L (ev_t exprs r_e w_e (sc_e (var 4) :⊗ y_e)) (var 4 :* ev_t exprs r_e w_e y_e) tt (env (sc S u) v)

  pub O_path : {u v : (O S).El} → u.a ≡ v.a → u.b ≡ v.b → u.c ≡ v.c → u ≡ v
  O_path f g h = λ i. record { a = f i; b = g i; c = h i }

  pub sc_cancel : {n : ℕ} (a : P S) (u v : (O S).El) → Has 𝓥 a.0 n → sc S a ⊗ u ≡ sc S a ⊗ v → u ≡ v
  sc_cancel a u v h e = O_path
      (P_path 𝓥 (d.cancel 𝓥 u.a.0 v.a.0 h (sym (sc_a a u) ∙ ap (λ z. z.a.0) e ∙ sc_a a v)))
      (P_path 𝓥 (d.cancel 𝓥 u.b.0 v.b.0 h (sym (sc_b a u) ∙ ap (λ z. z.b.0) e ∙ sc_b a v)))
      (P_path 𝓥 (d.cancel 𝓥 u.c.0 v.c.0 h (sym (sc_c a u) ∙ ap (λ z. z.c.0) e ∙ sc_c a v)))

  -- ---- between the sizes, the value and the coordinates
  pub ev_xz : (u : (O S).El) → (𝟏 + 𝟏) * ev u ≡ (𝟏 + 𝟏 + 𝟏) * X u + Z u
  ev_xz u = solve L ((one :+ one) :* ev_t exprs r_e w_e x_e) ((one :+ one :+ one) :* XT exprs r_e w_e x_e :+ ZT exprs r_e w_e x_e) tt (env u u)

  pub two_a : (v : (O S).El) → X v + Z v ≡ (𝟏 + 𝟏) * v.a.0
  two_a v = ring₃ L (λ a y z. y :+ z :+ ((one :+ one) :* a :+ minus y :+ minus z) := (one :+ one) :* a) tt v.a.0 (v.b.0 * r) (v.c.0 * w)

  pub two_b : (v : (O S).El) → X v + Y v ≡ (𝟏 + 𝟏) * (v.b.0 * r)
  two_b v = ring₂ L (λ y z. y :+ z :+ (y :+ minus z) := (one :+ one) :* y) tt (v.b.0 * r) (v.c.0 * w)

  pub two_c : (v : (O S).El) → X v + - Y v ≡ (𝟏 + 𝟏) * (v.c.0 * w)
  two_c v = ring₂ L (λ y z. y :+ z :+ minus (y :+ minus z) := (one :+ one) :* z) tt (v.b.0 * r) (v.c.0 * w)

  pub three_a : (v : (O S).El) → ev v + Z v ≡ (𝟏 + 𝟏 + 𝟏) * v.a.0
  three_a v = ring₃ L (λ a y z. a :+ y :+ z :+ ((one :+ one) :* a :+ minus y :+ minus z) := (one :+ one :+ one) :* a) tt v.a.0 (v.b.0 * r) (v.c.0 * w)

  -- a polynomial as an element
  pub ev_poly : (a : P S) → ev (sc S a) ≡ a.0
  ev_poly a = ring₃ L (λ a r w. a :+ zer :* r :+ zer :* w := a) tt a.0 r w

  -- an element without r and w is one
  pub flat_sc : (v : (O S).El) → v.b.0 ≡ 𝟎 → v.c.0 ≡ 𝟎 → v ≡ sc S v.a
  flat_sc v zb zc = O_path refl (P_path 𝓥 zb) (P_path 𝓥 zc)

  pub ev_flat : (v : (O S).El) → v.b.0 ≡ 𝟎 → v.c.0 ≡ 𝟎 → ev v ≡ v.a.0
  ev_flat v zb zc = ap ev (flat_sc v zb zc) ∙ ev_poly v.a

  pub X_poly : (a : P S) → X (sc S a) ≡ 𝟎
  X_poly a = ring₂ L (λ r w. zer :* r :+ zer :* w := zer) tt r w

  pub Y_poly : (a : P S) → Y (sc S a) ≡ 𝟎
  Y_poly a = ring₂ L (λ r w. zer :* r :+ minus (zer :* w) := zer) tt r w

  pub Z_poly : (a : P S) → Z (sc S a) ≡ (𝟏 + 𝟏) * a.0
  Z_poly a = ring₃ L (λ a r w. (one :+ one) :* a :+ minus (zer :* r) :+ minus (zer :* w) := (one :+ one) :* a) tt a.0 r w

  -- X(M) Y(N) − X(N) Y(M) = −2 e G H
  pub X_Y_det : (B : Basis S) → X B.M * Y B.N + - (X B.N * Y B.M) ≡ - ((𝟏 + 𝟏) * ((det S B).0 * (G.0 * H.0)))
  X_Y_det B =
      let e = var 5 :* var 9 :+ minus (var 6 :* var 8) in
      solve_by L (XT exprs r_e w_e x_e :* YT exprs r_e w_e y_e :+ minus (XT exprs r_e w_e y_e :* YT exprs r_e w_e x_e)) (minus ((one :+ one) :* (e :* (g_e :* h_e))))
      (hyp (minus (lit 2 :* e)) (r_e :* w_e) (g_e :* h_e) ∷ []) tt (env B.M B.N) (S.roots.r_w, tt)
