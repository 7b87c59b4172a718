-- Triples A + B·u + C·v of a cubic order, u v = G H, u² = H v, v² = G u, over any operations.
use Rattle.std.specs.Prelude.{◌≡◌, List, [], ◌∷◌, T}
use Rattle.math_ring.specs.Ring.{Ops, CRing}
use Rattle.math_ring.proofs.Solve.{Expr, var, exprs, eval, same, solve}

pub record Tri (A : Type 0) : Type 0 where
  pub a : A
  pub b : A
  pub c : A
  deriving IsSet as Tri-set

-- each definition once, over any operations
module _ {A : Type 0} (o : Ops A) where
  open o use {add as ◌+◌, mul as ◌*◌, neg as -◌, 𝟎}

  infixl 60 ◌+◌
  infixl 70 ◌*◌
  infix 80 -◌
  abbrev pub mul_t : A → A → Tri A → Tri A → Tri A
  mul_t G H x y = record {
    a = x.a * y.a + (x.b * y.c + x.c * y.b) * (G * H);
    b = x.a * y.b + x.b * y.a + x.c * y.c * G;
    c = x.a * y.c + x.c * y.a + x.b * y.b * H;
  }

  abbrev pub norm_t : A → A → Tri A → A
  norm_t G H x =
      let A = x.a in
      let B = x.b in
      let C = x.c in
      let t = A * B * C * (G * H) in
      A * A * A + B * B * B * (G * (H * H)) + C * C * C * (G * G * H) + - (t + t + t)

  abbrev pub cof_t : A → A → Tri A → Tri A
  cof_t G H x = record {
    a = x.a * x.a + - (x.b * x.c * (G * H));
    b = x.c * x.c * G + - (x.a * x.b);
    c = x.b * x.b * H + - (x.a * x.c);
  }

-- the variables
abbrev pub tri_e : Expr → Expr → Expr → Tri Expr
tri_e x y z = record { a = x; b = y; c = z }

abbrev pub G : Expr
G = var 0

abbrev pub H : Expr
H = var 1

abbrev pub X : Tri Expr
X = tri_e (var 2) (var 3) (var 4)

abbrev pub Y : Tri Expr
Y = tri_e (var 5) (var 6) (var 7)

abbrev pub Z : Tri Expr
Z = tri_e (var 8) (var 9) (var 10)

abbrev pub M : Tri Expr → Tri Expr → Tri Expr
M = mul_t exprs G H

abbrev pub Nm : Tri Expr → Expr
Nm = norm_t exprs G H

-- an equation of triples of expressions: all three components, `(tt, tt, tt)`
abbrev pub Same₃ : Tri Expr → Tri Expr → Type 0
Same₃ x y = T (same x.a y.a) × T (same x.b y.b) × T (same x.c y.c)

abbrev pub eval_t : {A : Type 0} → Ops A → Tri Expr → List A → Tri A
eval_t o x ρ = record { a = eval o x.a ρ; b = eval o x.b ρ; c = eval o x.c ρ }

pub solve₃ : (R : CRing) (x y : Tri Expr) → Same₃ x y → (ρ : List R.El) → eval_t R.ops x ρ ≡ eval_t R.ops y ρ
solve₃ R x y t ρ = λ i. record {
  a = solve R x.a y.a t.0 ρ i;
  b = solve R x.b y.b t.1 ρ i;
  c = solve R x.c y.c t.2 ρ i;
}

module _ (R : CRing) (g h : R.El) where
  abbrev pub o : Ops R.El
  o = R.ops

  abbrev pub env : Tri R.El → Tri R.El → Tri R.El → List R.El
  env x y z = g ∷ h ∷ x.a ∷ x.b ∷ x.c ∷ y.a ∷ y.b ∷ y.c ∷ z.a ∷ z.b ∷ z.c ∷ []

  pub assoc : (x y z : Tri R.El) → mul_t o g h (mul_t o g h x y) z ≡ mul_t o g h x (mul_t o g h y z)
  assoc x y z = solve₃ R (M (M X Y) Z) (M X (M Y Z)) (tt, tt, tt) (env x y z)

  pub norm_mul : (x y : Tri R.El) → norm_t o g h (mul_t o g h x y) ≡ o.mul (norm_t o g h x) (norm_t o g h y)
  norm_mul x y = solve R (Nm (M X Y)) (exprs.mul (Nm X) (Nm Y)) tt (env x y x)

  pub cofactor : (x : Tri R.El) → mul_t o g h x (cof_t o g h x) ≡ record { a = norm_t o g h x; b = o.𝟎; c = o.𝟎 }
  cofactor x = solve₃ R (M X (cof_t exprs G H X)) (tri_e (Nm X) exprs.𝟎 exprs.𝟎) (tt, tt, tt) (env x x x)

  pub cofactor_mul : (x y : Tri R.El) → cof_t o g h (mul_t o g h x y) ≡ mul_t o g h (cof_t o g h x) (cof_t o g h y)
  cofactor_mul x y = solve₃ R (cof_t exprs G H (M X Y)) (M (cof_t exprs G H X) (cof_t exprs G H Y)) (tt, tt, tt) (env x y x)
