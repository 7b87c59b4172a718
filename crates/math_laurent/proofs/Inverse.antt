-- Inverses: of a power series that begins with a unit, coefficient by coefficient, and of a Laurent series that has a degree.
--   inverse_law   f · inverse f = 1
--   lead_inv      where the leading coefficient of x has an inverse so has x, and the degree is the opposite one
use mathlib.Core.Path.{◌≡◌, refl, ◌∙◌, ap, fun_ext}
use mathlib.Core.List.{[], ◌∷◌}
use Prim.Native.Nat.{ℕ, zero, suc, ◌+◌}
use native.Mathlib.Omega.{arith}
use Rattle.math_ring.specs.Ring.{CRing}
use Rattle.math_ring.proofs.Solve.{var, one, zer, minus, ◌:+◌, ◌:*◌, hyp, solve_by}
use Rattle.math_laurent.specs.Series.{Ser, tail, cons, ups, const_s, mul_s}
use Rattle.math_laurent.specs.Laurent.{Lau, mul_l, lops}
use Rattle.math_laurent.specs.Degree.{Lead, term}
use Rattle.math_laurent.specs.Course.{Local, course}
use Rattle.math_laurent.proofs.Series.{mul_first, mul_next, mul_local}
use Rattle.math_laurent.proofs.Degree.{fall, lead_term, lead_fall, lead_eq, term_mul, term_move, term_lead}
use Rattle.math_laurent.proofs.Course.{course_at}

module _ (R : CRing) where
  open R.ops use {add as ◌+ᵏ◌, mul as ◌*ᵏ◌, neg as -ᵏ◌, 𝟎 as 0ᵏ, 𝟏 as 1ᵏ}

  infixl 60 ◌+ᵏ◌
  infixl 70 ◌*ᵏ◌
  infix 80 -ᵏ◌
  module _ (f : Ser R) (u : R.El) where
    -- f(0) g(n + 1) + (tail f · g)(n) = 0, u the inverse of f(0)
    abbrev next : ℕ → Ser R → R.El
    next zero g = u
    next (suc n) g = -ᵏ (u *ᵏ mul_s R (tail f) g n)

    next_local : Local next
    next_local zero g h e = refl
    next_local (suc n) g h e = ap (λ x. -ᵏ (u *ᵏ x)) (mul_local R n (tail f) (tail f) g h (λ i l. refl) (λ i l. e i (omega arith)))

    pub inverse : Ser R
    inverse = course 0ᵏ next

    inverse_at : (n : ℕ) → inverse n ≡ next n inverse
    unfolding inverse
    inverse_at n = course_at 0ᵏ next next_local n

    pub inverse_first : inverse 0 ≡ u
    inverse_first = inverse_at 0

    pub inverse_law : f 0 *ᵏ u ≡ 1ᵏ → mul_s R f inverse ≡ const_s R 1ᵏ
    unfolding cons
    inverse_law e = fun_ext at
      where
        at : (n : ℕ) → mul_s R f inverse n ≡ const_s R 1ᵏ n
        at zero = mul_first R f inverse ∙ ap (λ x. f 0 *ᵏ x) (inverse_at 0) ∙ e
        at (suc n) =
            mul_next R f inverse n ∙ ap (λ x. f 0 *ᵏ x +ᵏ mul_s R (tail f) inverse n) (inverse_at (suc n)) ∙
            -- f₀ (−(u m)) + m = −m (f₀ u − 1)
            solve_by R (var 0 :* minus (var 1 :* var 2) :+ var 2) zer (hyp (minus (var 2)) (var 0 :* var 1) one ∷ []) tt (f 0 ∷ u ∷ mul_s R (tail f) inverse n ∷ []) (e, tt)

  pub lead_inv : {x : Lau R} {p q : ℕ} {a : R.El} → Lead R x p q a → (u : R.El) → a *ᵏ u ≡ 1ᵏ → (y : Lau R) × (mul_l R x y ≡ (lops R).𝟏) × Lead R y q p u
  unfolding ups
  lead_inv {x} {p} {q} {a} h u e =
      let f : Ser R = fall R x p q in
      let g : Ser R = inverse f u in (
        term R q p g,
        ap (λ z. mul_l R z (term R q p g)) (lead_term R h)
            ∙ term_mul R p q q p f g
            ∙ ap (term R (p + q) (q + p)) (inverse_law f u (ap (λ c. c *ᵏ u) (lead_fall R h) ∙ e))
            ∙ term_move R (p + q) (q + p) 0 0 (const_s R 1ᵏ) (omega arith),
        lead_eq R (term_lead R q p g) refl (inverse_first f u),
      )
