-- What carries over, carries back; and one after another.
--   twice             σ (σ b) = b where σ σ = 1
--   back              the inverse
--   after             the composition
--   ev_kept, Z_kept   the value and Z stay
--   carry_back        a basis carried over and back is itself
use mathlib.Core.Path.{◌≡◌, sym, ap, ap₂, ◌∙◌}
use mathlib.Core.List.{[], ◌∷◌}
use Rattle.math_ring.proofs.Laws.{undo}
use Rattle.math_ring.proofs.Solve.{var, one, minus, ◌:+◌, ◌:*◌, ◌:=◌, hyp, solve_by, ring₃}
use Rattle.math_valued.specs.Val.{Valued}
use Rattle.math_valued.specs.Polynomial.{polys, Poly}
use Rattle.math_ideals.specs.Setting.{Roots, Setting, at}
use Rattle.math_ideals.specs.Element.{O, sc, ev, X, Y, Z}
use Rattle.math_ideals.specs.Ideal.{Basis}
use Rattle.math_ideals.proofs.Lattice.{sc_mul}
use Rattle.math_carry.specs.Carries.{El, Carries, carry}

module _ {A : Type 0} (◌·◌ ◌∘◌ : A → A → A) where
  infixl 70 ◌·◌ ◌∘◌
  -- the inverse of a map that respects an operation respects it
  pub inverse_law : (f g : A → A) → ((x : A) → f (g x) ≡ x) → ((x : A) → g (f x) ≡ x) → ((u v : A) → f (u · v) ≡ f u ∘ f v) → (u v : A) → g (u ∘ v) ≡ g u · g v
  inverse_law f g fg gf h u v = ap g (ap₂ ◌∘◌ (sym (fg u)) (sym (fg v)) ∙ sym (h (g u) (g v))) ∙ gf (g u · g v)

module _ (𝓥 : Valued) where
  open 𝓥 use {L}
  open L.ops use {add as ◌+◌, mul as ◌*◌, neg as -◌, 𝟏}
  open (polys 𝓥).ops use {mul as ◌⊠◌, 𝟏 as 1ₚ}

  infixl 60 ◌+◌
  infixl 70 ◌*◌ ◌⊠◌
  infix 80 -◌
  pub twice : (σ : Poly 𝓥) → σ ⊠ σ ≡ 1ₚ → (b : L.El) → σ.0 * (σ.0 * b) ≡ b
  twice σ e b = undo L σ.0 σ.0 b (ap (λ z. z.0) e)

  abbrev pub back : {s s' : Roots 𝓥} → Carries s s' → Carries s' s
  back {s} {s'} c = record {
    to = c.from;
    from = c.to;
    to_from = c.from_to;
    from_to = c.to_from;
    add = inverse_law (O (at s)).ops.add (O (at s')).ops.add c.to c.from c.to_from c.from_to c.add;
    mul = inverse_law (O (at s)).ops.mul (O (at s')).ops.mul c.to c.from c.to_from c.from_to c.mul;
    poly = λ a. ap c.from (sym (c.poly a)) ∙ c.from_to _;
    first = λ v. sym (c.first (c.from v)) ∙ ap (λ z. z.a) (c.to_from v);
    X_kept = λ v. sym (c.X_kept (c.from v)) ∙ ap (X (at s')) (c.to_from v);
    σ = c.σ;
    sign = c.sign;
    Y_kept = λ v.
        sym (twice c.σ c.sign (Y (at s) (c.from v)))
        ∙ ap (λ z. c.σ.0 * z) (sym (c.Y_kept (c.from v)) ∙ ap (Y (at s')) (c.to_from v));
  }

  abbrev pub after : {s s' s'' : Roots 𝓥} → Carries s' s'' → Carries s s' → Carries s s''
  after {s} {s'} {s''} k c = record {
    to = λ v. k.to (c.to v);
    from = λ v. c.from (k.from v);
    to_from = λ v. ap k.to (c.to_from (k.from v)) ∙ k.to_from v;
    from_to = λ v. ap c.from (k.from_to (c.to v)) ∙ c.from_to v;
    add = λ u v. ap k.to (c.add u v) ∙ k.add (c.to u) (c.to v);
    mul = λ u v. ap k.to (c.mul u v) ∙ k.mul (c.to u) (c.to v);
    poly = λ a. ap k.to (c.poly a) ∙ k.poly a;
    first = λ v. k.first (c.to v) ∙ c.first v;
    X_kept = λ v. k.X_kept (c.to v) ∙ c.X_kept v;
    σ = k.σ ⊠ c.σ;
    sign = solve_by (polys 𝓥) (var 0 :* var 1 :* (var 0 :* var 1)) one (hyp (var 1 :* var 1) (var 0 :* var 0) one ∷ hyp one (var 1 :* var 1) one ∷ []) tt
        (k.σ ∷ c.σ ∷ []) (k.sign, (c.sign, tt));
    Y_kept = λ v. k.Y_kept (c.to v) ∙ ap (λ z. k.σ.0 * z) (c.Y_kept v) ∙ sym (L.laws.mul_assoc k.σ.0 c.σ.0 (Y (at s) v));
  }

  module _ {s s' : Roots 𝓥} (c : Carries s s') where
    abbrev S : Setting
    S = at s

    abbrev S' : Setting
    S' = at s'

    -- the value is A + X
    pub ev_kept : (v : El 𝓥) → ev S' (c.to v) ≡ ev S v
    ev_kept v =
        L.laws.add_assoc (c.to v).a.0 ((c.to v).b.0 * S'.roots.r) ((c.to v).c.0 * S'.roots.w)
        ∙ ap₂ ◌+◌ (ap (λ z. z.0) (c.first v)) (c.X_kept v)
        ∙ sym (L.laws.add_assoc v.a.0 (v.b.0 * S.roots.r) (v.c.0 * S.roots.w))

    -- and Z is 2A − X
    Z_of : (a x y : L.El) → (𝟏 + 𝟏) * a + - x + - y ≡ (𝟏 + 𝟏) * a + - (x + y)
    Z_of a x y = ring₃ L (λ a x y. (one :+ one) :* a :+ minus x :+ minus y := (one :+ one) :* a :+ minus (x :+ y)) tt a x y

    pub Z_kept : (v : El 𝓥) → Z S' (c.to v) ≡ Z S v
    Z_kept v =
        Z_of (c.to v).a.0 ((c.to v).b.0 * S'.roots.r) ((c.to v).c.0 * S'.roots.w)
        ∙ ap₂ (λ a x. (𝟏 + 𝟏) * a + - x) (ap (λ z. z.0) (c.first v)) (c.X_kept v)
        ∙ sym (Z_of v.a.0 (v.b.0 * S.roots.r) (v.c.0 * S.roots.w))

    -- σ (σ v) = v among elements
    pub undone : (v : El 𝓥) → (O S).ops.mul (sc S c.σ) ((O S).ops.mul (sc S c.σ) v) ≡ v
    undone v = undo (O S) (sc S c.σ) (sc S c.σ) v (sym (sc_mul S c.σ c.σ) ∙ ap (sc S) c.sign)

    pub carry_back : (B : Basis S) → carry s' s (back c) (carry s s' c B) ≡ B
    carry_back B =
        let e : c.from (c.to B.M) ≡ B.M = c.from_to B.M in
        let f : (O S).ops.mul (sc S c.σ) (c.from ((O S').ops.mul (sc S' c.σ) (c.to B.N))) ≡ B.N =
        ap (λ z. (O S).ops.mul (sc S c.σ) z) ((back c).mul (sc S' c.σ) (c.to B.N) ∙ ap₂ (O S).ops.mul ((back c).poly c.σ) (c.from_to B.N))
        ∙ undone B.N in
        λ i. record { U = B.U; M = e i; N = f i }
