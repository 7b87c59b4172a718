-- Polynomials at t = 0.
--   At z k        z has the value k there: z = k + t e
--   at_add at_mul at_neg at_row   sums, products, rows
--   at_norm       the norm's value is the norm of the values
--   at_const      a constant is its value
use mathlib.Core.Path.{◌≡◌, sym, ap, ap₂, ◌∙◌}
use mathlib.Core.List.{List, [], ◌∷◌}
use Prim.Native.Nat.{ℕ, zero}
use Prim.Native.Nat as N
use native.Mathlib.Omega.{arith}
use lib.ListN.{length, get_or}
use Rattle.math_ring.proofs.Solve.{var, one, zer, minus, ◌:+◌, ◌:*◌, solve}
use Rattle.math_triple.specs.Tri.{Tri, norm_t}
use Rattle.math_valued.specs.Degree.{Lt}
use Rattle.math_valued.proofs.Degree.{lt_add, lt_neg, lt_eq, lt_cancel, lt_up}
use Rattle.math_rows.specs.Reading.{Reading}
use Rattle.math_rows.specs.Row.{row, psum, coefs, tpow}
use Rattle.math_rows.proofs.Rows.{psum_poly, const_neg, tpow_lead, tpow_poly}
use Rattle.math_rows.proofs.Unique.{const_inj}
use Rattle.poly_long.proofs.Low.{psum_split}

module _ {p : ℕ} (ρ : Reading p) where
  open ρ use {𝓥, cast}
  open 𝓥 use {K, L, IsPoly, const}
  open L.ops use {add as ◌+◌, mul as ◌*◌, neg as -◌, 𝟎, 𝟏}
  open K.ops use {add as ◌+ᵏ◌, mul as ◌*ᵏ◌, neg as -ᵏ◌}

  infixl 60 ◌+◌ ◌+ᵏ◌
  infixl 70 ◌*◌ ◌*ᵏ◌
  infix 80 -◌ -ᵏ◌
  pub record At (z : L.El) (k : K.El) : Type 0 where
    pub rest : L.El
    pub is_poly : IsPoly rest
    pub law : z ≡ const k + tpow ρ 1 * rest

  at_add : {x y : L.El} {a b : K.El} → At x a → At y b → At (x + y) (a +ᵏ b)
  at_add {a = a} {b} u v = record {
    rest = u.rest + v.rest;
    is_poly = 𝓥.closed.add _ _ u.is_poly v.is_poly;
    law = ap₂ ◌+◌ u.law v.law
        ∙ solve L (var 0 :+ var 4 :* var 1 :+ (var 2 :+ var 4 :* var 3)) (var 0 :+ var 2 :+ var 4 :* (var 1 :+ var 3)) tt (const a ∷ u.rest ∷ const b ∷ v.rest ∷ tpow ρ 1 ∷ [])
        ∙ ap (λ c. c + tpow ρ 1 * (u.rest + v.rest)) (sym (ρ.const_add a b));
  }

  at_mul : {x y : L.El} {a b : K.El} → At x a → At y b → At (x * y) (a *ᵏ b)
  at_mul {a = a} {b} u v =
      let e = const a * v.rest + u.rest * const b + tpow ρ 1 * (u.rest * v.rest) in
      record {
        rest = e;
        is_poly = 𝓥.closed.add _ _ (𝓥.closed.add _ _ (𝓥.closed.mul _ _ (𝓥.const_poly a) v.is_poly) (𝓥.closed.mul _ _ u.is_poly (𝓥.const_poly b)))
            (𝓥.closed.mul _ _ (tpow_poly ρ 1) (𝓥.closed.mul _ _ u.is_poly v.is_poly));
        law = ap₂ ◌*◌ u.law v.law
            ∙ solve L ((var 0 :+ var 4 :* var 1) :* (var 2 :+ var 4 :* var 3)) (var 0 :* var 2 :+ var 4 :* (var 0 :* var 3 :+ var 1 :* var 2 :+ var 4 :* (var 1 :* var 3))) tt (const a ∷ u.rest ∷ const b ∷ v.rest ∷ tpow ρ 1 ∷ [])
            ∙ ap (λ c. c + tpow ρ 1 * e) (sym (ρ.const_mul a b));
      }

  at_neg : {x : L.El} {a : K.El} → At x a → At (- x) (-ᵏ a)
  at_neg {a = a} u = record {
    rest = - u.rest;
    is_poly = 𝓥.closed.neg _ u.is_poly;
    law = ap -◌ u.law
        ∙ solve L (minus (var 0 :+ var 2 :* var 1)) (minus (var 0) :+ var 2 :* minus (var 1)) tt (const a ∷ u.rest ∷ tpow ρ 1 ∷ [])
        ∙ ap (λ c. c + tpow ρ 1 * - u.rest) (sym (const_neg ρ a));
  }

  first_term : (f : ℕ → K.El) → psum ρ 1 f ≡ const (f 0)
  unfolding psum tpow
  first_term f = solve L (zer :+ var 0 :* one) (var 0) tt (const (f 0) ∷ [])

  pub at_psum : (n : ℕ) (f : ℕ → K.El) → At (psum ρ (N.◌+◌ n 1) f) (f 0)
  at_psum n f = record {
    rest = psum ρ n (λ i. f (N.◌+◌ i 1));
    is_poly = psum_poly ρ n (λ i. f (N.◌+◌ i 1));
    law = psum_split ρ n 1 f ∙ ap (λ z. z + tpow ρ 1 * psum ρ n (λ i. f (N.◌+◌ i 1))) (first_term f);
  }

  pub at_row : (l : List ℕ) → N.◌<◌ 0 (length l) → At (row ρ l) (cast (get_or l 0 0))
  unfolding row
  at_row l u = let e : N.◌+◌ (N.◌-◌ (length l) 1) 1 ≡ length l = omega arith in ap_at e (at_psum (N.◌-◌ (length l) 1) (coefs ρ l))
    where
      ap_at : {m : ℕ} → m ≡ length l → At (psum ρ m (coefs ρ l)) (cast (get_or l 0 0)) → At (psum ρ (length l) (coefs ρ l)) (cast (get_or l 0 0))
      ap_at e h = record { rest = h.rest; is_poly = h.is_poly; law = ap (λ j. psum ρ j (coefs ρ l)) (sym e) ∙ h.law }

  pub at_norm : {G H : L.El} {E : Tri L.El} {g h a b c : K.El} → At G g → At H h → At E.a a → At E.b b → At E.c c → At (norm_t L.ops G H E) (norm_t K.ops g h record { a = a; b = b; c = c })
  at_norm G H A B C =
      let t = at_mul (at_mul (at_mul A B) C) (at_mul G H) in
      at_add (at_add (at_add (at_mul (at_mul A A) A) (at_mul (at_mul (at_mul B B) B) (at_mul G (at_mul H H)))) (at_mul (at_mul (at_mul C C) C) (at_mul (at_mul G G) H))) (at_neg (at_add (at_add t t) t))

  pub at_const : {z : L.El} {k κ : K.El} → At z k → z ≡ const κ → κ ≡ k
  at_const {z} {k} {κ} h e =
      let r : L.El = h.rest in
      let q : tpow ρ 1 * r ≡ const κ + - const k = solve L (var 0) (var 1 :+ var 0 :+ minus (var 1)) tt (tpow ρ 1 * r ∷ const k ∷ []) ∙ ap (λ x. x + - const k) (sym h.law ∙ e) in
      let small : Lt 𝓥 (tpow ρ 1 * r) 1 = lt_eq 𝓥 (lt_add 𝓥 (𝓥.lead_up 1 0 (𝓥.const_lead κ) (omega arith)) (lt_neg 𝓥 (𝓥.lead_up 1 0 (𝓥.const_lead k) (omega arith)))) (sym q) in
      let none : r ≡ 𝟎 = 𝓥.poly_small r h.is_poly (lt_cancel 𝓥 0 (K.ops.𝟏, 𝓥.one≢zero, tpow_lead ρ 1) (lt_up 𝓥 (N.◌+◌ 1 0) small (omega arith))) in
      const_inj ρ κ k (sym e ∙ h.law ∙ ap (λ x. const k + tpow ρ 1 * x) none ∙ solve L (var 0 :+ var 1 :* zer) (var 0) tt (const k ∷ tpow ρ 1 ∷ []))
