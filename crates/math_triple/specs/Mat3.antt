-- 3 × 3 matrices over any operations, for lattices of rank 3: the determinant is multiplicative, and M · adj M = det M.
-- Each definition is written once, over any `Ops A`; each law is one call of the solver for each entry.
use Rattle.std.specs.Prelude.{◌≡◌, List, [], ◌∷◌}
use Rattle.math_ring.specs.Ring.{Ops, CRing}
use Rattle.math_ring.proofs.Solve.{Expr, var, exprs, solve}

pub record Mat (A : Type 0) : Type 0 where
  pub a₁ : A
  pub a₂ : A
  pub a₃ : A
  pub b₁ : A
  pub b₂ : A
  pub b₃ : A
  pub c₁ : A
  pub c₂ : A
  pub c₃ : A

module _ {A : Type 0} (o : Ops A) where
  open o use {add as ◌+◌, mul as ◌*◌, neg as -◌, 𝟎}

  infixl 60 ◌+◌
  infixl 70 ◌*◌
  infix 80 -◌
  abbrev pub mul_m : Mat A → Mat A → Mat A
  mul_m x y = record {
    a₁ = x.a₁ * y.a₁ + x.a₂ * y.b₁ + x.a₃ * y.c₁;
    a₂ = x.a₁ * y.a₂ + x.a₂ * y.b₂ + x.a₃ * y.c₂;
    a₃ = x.a₁ * y.a₃ + x.a₂ * y.b₃ + x.a₃ * y.c₃;
    b₁ = x.b₁ * y.a₁ + x.b₂ * y.b₁ + x.b₃ * y.c₁;
    b₂ = x.b₁ * y.a₂ + x.b₂ * y.b₂ + x.b₃ * y.c₂;
    b₃ = x.b₁ * y.a₃ + x.b₂ * y.b₃ + x.b₃ * y.c₃;
    c₁ = x.c₁ * y.a₁ + x.c₂ * y.b₁ + x.c₃ * y.c₁;
    c₂ = x.c₁ * y.a₂ + x.c₂ * y.b₂ + x.c₃ * y.c₂;
    c₃ = x.c₁ * y.a₃ + x.c₂ * y.b₃ + x.c₃ * y.c₃;
  }

  abbrev pub det : Mat A → A
  det x =
      x.a₁ * (x.b₂ * x.c₃ + - (x.b₃ * x.c₂))
      + - (x.a₂ * (x.b₁ * x.c₃ + - (x.b₃ * x.c₁)))
      + x.a₃ * (x.b₁ * x.c₂ + - (x.b₂ * x.c₁))

  abbrev pub adj : Mat A → Mat A
  adj x = record {
    a₁ = x.b₂ * x.c₃ + - (x.b₃ * x.c₂);
    a₂ = x.a₃ * x.c₂ + - (x.a₂ * x.c₃);
    a₃ = x.a₂ * x.b₃ + - (x.a₃ * x.b₂);
    b₁ = x.b₃ * x.c₁ + - (x.b₁ * x.c₃);
    b₂ = x.a₁ * x.c₃ + - (x.a₃ * x.c₁);
    b₃ = x.a₃ * x.b₁ + - (x.a₁ * x.b₃);
    c₁ = x.b₁ * x.c₂ + - (x.b₂ * x.c₁);
    c₂ = x.a₂ * x.c₁ + - (x.a₁ * x.c₂);
    c₃ = x.a₁ * x.b₂ + - (x.a₂ * x.b₁);
  }

  abbrev pub scalar : A → Mat A
  scalar d = record { a₁ = d; a₂ = 𝟎; a₃ = 𝟎; b₁ = 𝟎; b₂ = d; b₃ = 𝟎; c₁ = 𝟎; c₂ = 𝟎; c₃ = d }

abbrev X : Mat Expr
X = record { a₁ = var 0; a₂ = var 1; a₃ = var 2; b₁ = var 3; b₂ = var 4; b₃ = var 5; c₁ = var 6; c₂ = var 7; c₃ = var 8 }

abbrev Y : Mat Expr
Y = record { a₁ = var 9; a₂ = var 10; a₃ = var 11; b₁ = var 12; b₂ = var 13; b₃ = var 14; c₁ = var 15; c₂ = var 16; c₃ = var 17 }

abbrev XA : Mat Expr
XA = mul_m exprs X (adj exprs X)

abbrev DX : Mat Expr
DX = scalar exprs (det exprs X)

module _ (R : CRing) where
  abbrev env : Mat R.El → Mat R.El → List R.El
  env x y =
      x.a₁ ∷ x.a₂ ∷ x.a₃ ∷ x.b₁ ∷ x.b₂ ∷ x.b₃ ∷ x.c₁ ∷ x.c₂ ∷ x.c₃
      ∷ y.a₁ ∷ y.a₂ ∷ y.a₃ ∷ y.b₁ ∷ y.b₂ ∷ y.b₃ ∷ y.c₁ ∷ y.c₂ ∷ y.c₃ ∷ []

  pub det_mul : (x y : Mat R.El) → det R.ops (mul_m R.ops x y) ≡ R.ops.mul (det R.ops x) (det R.ops y)
  det_mul x y = solve R (det exprs (mul_m exprs X Y)) (exprs.mul (det exprs X) (det exprs Y)) tt (env x y)

  pub mul_adj : (x : Mat R.El) → mul_m R.ops x (adj R.ops x) ≡ scalar R.ops (det R.ops x)
  mul_adj x = λ i. record {
    a₁ = solve R XA.a₁ DX.a₁ tt (env x x) i;
    a₂ = solve R XA.a₂ DX.a₂ tt (env x x) i;
    a₃ = solve R XA.a₃ DX.a₃ tt (env x x) i;
    b₁ = solve R XA.b₁ DX.b₁ tt (env x x) i;
    b₂ = solve R XA.b₂ DX.b₂ tt (env x x) i;
    b₃ = solve R XA.b₃ DX.b₃ tt (env x x) i;
    c₁ = solve R XA.c₁ DX.c₁ tt (env x x) i;
    c₂ = solve R XA.c₂ DX.c₂ tt (env x x) i;
    c₃ = solve R XA.c₃ DX.c₃ tt (env x x) i;
  }
