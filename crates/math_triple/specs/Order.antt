-- The triples are a commutative ring themselves, over any commutative ring R with any G and H: every law by the solver.
use Rattle.math_ring.specs.Ring.{Ops, Laws, CRing}
use Rattle.math_ring.proofs.Solve.{exprs}
use Rattle.math_triple.specs.Tri.{Tri, Tri-set, mul_t, env, solve₃, G, H, X, Y, Z}

-- the operations, over any operations
module _ {A : Type 0} (o : Ops A) (g h : A) where
  abbrev pub triops : Ops (Tri A)
  triops = record {
    add = λ x y. record { a = o.add x.a y.a; b = o.add x.b y.b; c = o.add x.c y.c };
    mul = mul_t o g h;
    neg = λ x. record { a = o.neg x.a; b = o.neg x.b; c = o.neg x.c };
    𝟎 = record { a = o.𝟎; b = o.𝟎; c = o.𝟎 };
    𝟏 = record { a = o.𝟏; b = o.𝟎; c = o.𝟎 };
  }

-- the same operations over expressions
open triops exprs G H use {add as ◌:⊕◌, mul as ◌:⊗◌, neg as :⊖◌, 𝟎 as :𝟎, 𝟏 as :𝟏}

infixl 60 ◌:⊕◌
infixl 70 ◌:⊗◌
infix 80 :⊖◌
module _ (R : CRing) (g h : R.El) where
  pub trilaws : Laws (Tri R.El) (triops R.ops g h)
  trilaws = record {
    is_set = Tri-set R.laws.is_set;
    add_assoc = λ x y z. solve₃ R (X :⊕ Y :⊕ Z) (X :⊕ (Y :⊕ Z)) (tt, tt, tt) (env R g h x y z);
    add_comm = λ x y. solve₃ R (X :⊕ Y) (Y :⊕ X) (tt, tt, tt) (env R g h x y x);
    add-zero = λ x. solve₃ R (X :⊕ :𝟎) X (tt, tt, tt) (env R g h x x x);
    add_neg = λ x. solve₃ R (X :⊕ :⊖ X) :𝟎 (tt, tt, tt) (env R g h x x x);
    mul_assoc = λ x y z. solve₃ R (X :⊗ Y :⊗ Z) (X :⊗ (Y :⊗ Z)) (tt, tt, tt) (env R g h x y z);
    mul_comm = λ x y. solve₃ R (X :⊗ Y) (Y :⊗ X) (tt, tt, tt) (env R g h x y x);
    mul-one = λ x. solve₃ R (X :⊗ :𝟏) X (tt, tt, tt) (env R g h x x x);
    mul-add = λ x y z. solve₃ R (X :⊗ (Y :⊕ Z)) (X :⊗ Y :⊕ X :⊗ Z) (tt, tt, tt) (env R g h x y z);
  }

  -- the cubic order R[u, v], u v = G H, u² = H v, v² = G u
  abbrev pub order : CRing
  order = record { El = Tri R.El; ops = triops R.ops g h; laws = trilaws }
