-- Cube roots of series, coefficient by coefficient: the next one is what is missing of f's coefficient in the cube of what is there, over 3 c².
--   root_law    the cube of the power series `root f c w` is f, where c³ = f(0) and w is the inverse of 3 c²
--   lead_root   a Laurent series of degree 3 (p − q) with leading coefficient c³ has a cube root with leading coefficient c
use mathlib.Core.Path.{◌≡◌, refl, sym, ◌∙◌, ap, ap₂, fun_ext}
use mathlib.Core.List.{[], ◌∷◌}
use Prim.Native.Nat.{ℕ, zero, suc, ◌+◌}
use native.Mathlib.Omega.{arith}
use Rattle.math_ring.specs.Ring.{CRing}
use Rattle.math_ring.proofs.Solve.{var, one, ◌:+◌, ◌:-◌, ◌:*◌, hyp, solve_by}
use Rattle.math_laurent.specs.Series.{Ser, mul_s}
use Rattle.math_laurent.specs.Laurent.{Lau, mul_l}
use Rattle.math_laurent.specs.Degree.{Lead, term}
use Rattle.math_laurent.specs.Course.{Local, course}
use Rattle.math_laurent.proofs.Series.{series, mul_first, mul_local, inner, inner_local, mul_ends}
use Rattle.math_laurent.proofs.Degree.{fall, lead_term, lead_fall, lead_eq, term_mul, term_lead}
use Rattle.math_laurent.proofs.Course.{course_at}

module _ (R : CRing) where
  open R.ops use {add as ◌+ᵏ◌, mul as ◌*ᵏ◌, neg as -ᵏ◌, 𝟎 as 0ᵏ, 𝟏 as 1ᵏ}

  infixl 60 ◌+ᵏ◌
  infixl 70 ◌*ᵏ◌
  infix 80 -ᵏ◌
  abbrev square : Ser R → Ser R
  square g = mul_s R g g

  -- (g g²)(n + 1) = 3 g(0)² g(n + 1) + this, which asks only for g(0) .. g(n)
  abbrev past : R.El → ℕ → Ser R → R.El
  past c n g = c *ᵏ inner R g g n +ᵏ inner R g (square g) n

  cube_at : (g : Ser R) (n : ℕ) → mul_s R g (square g) (suc n) ≡ (g 0 *ᵏ g 0 +ᵏ g 0 *ᵏ g 0 +ᵏ g 0 *ᵏ g 0) *ᵏ g (suc n) +ᵏ past (g 0) n g
  cube_at g n =
      let G = var 0 in let N = var 1 in let Q = var 2 in let Z = var 3 in let I = var 4 in let J = var 5 in
      mul_ends R g (square g) n ∙
      -- Q = (g²)(n + 1) and Z = (g²)(0)
      solve_by R (G :* Q :+ N :* Z :+ J) ((G :* G :+ G :* G :+ G :* G) :* N :+ (G :* I :+ J)) (hyp G Q (G :* N :+ N :* G :+ I) ∷ hyp N Z (G :* G) ∷ []) tt
      (g 0 ∷ g (suc n) ∷ square g (suc n) ∷ square g 0 ∷ inner R g g n ∷ inner R g (square g) n ∷ []) (mul_ends R g g n, (mul_first R g g, tt))

  -- the root of f that begins with c; w is the inverse of 3 c²
  module _ (f : Ser R) (c w : R.El) where
    abbrev next : ℕ → Ser R → R.El
    next zero g = c
    next (suc n) g = w *ᵏ (f (suc n) +ᵏ -ᵏ past c n g)

    next_local : Local next
    next_local zero g h e = refl
    next_local (suc n) g h e =
        ap (λ x. w *ᵏ (f (suc n) +ᵏ -ᵏ x))
        (ap₂ (λ x y. c *ᵏ x +ᵏ y) (inner_local R n g h g h (λ i l. e i (omega arith)) (λ i l. e i (omega arith)))
        (inner_local R n g h (square g) (square h) (λ i l. e i (omega arith)) (λ i l. mul_local R i g h g h (λ j m. e j (omega arith)) (λ j m. e j (omega arith)))))

    pub root : Ser R
    root = course 0ᵏ next

    root_at : (n : ℕ) → root n ≡ next n root
    unfolding root
    root_at n = course_at 0ᵏ next next_local n

    pub root_first : root 0 ≡ c
    root_first = root_at 0

    pub root_law : (c *ᵏ c +ᵏ c *ᵏ c +ᵏ c *ᵏ c) *ᵏ w ≡ 1ᵏ → c *ᵏ (c *ᵏ c) ≡ f 0 → mul_s R (square root) root ≡ f
    root_law e z = (series R).laws.mul_comm (square root) root ∙ fun_ext at
      where
        at : (n : ℕ) → mul_s R root (square root) n ≡ f n
        at zero = mul_first R root (square root) ∙ ap (λ x. root 0 *ᵏ x) (mul_first R root root) ∙ ap (λ x. x *ᵏ (x *ᵏ x)) root_first ∙ z
        at (suc n) =
            cube_at root n
            ∙ ap₂ (λ x y. (x *ᵏ x +ᵏ x *ᵏ x +ᵏ x *ᵏ x) *ᵏ y +ᵏ past x n root) root_first (root_at (suc n))
            -- 3c² w (f − p) + p − f = (f − p)(3c² w − 1)
            ∙ solve_by R ((var 0 :* var 0 :+ var 0 :* var 0 :+ var 0 :* var 0) :* (var 1 :* (var 2 :- var 3)) :+ var 3) (var 2)
            (hyp (var 2 :- var 3) ((var 0 :* var 0 :+ var 0 :* var 0 :+ var 0 :* var 0) :* var 1) one ∷ []) tt
            (c ∷ w ∷ f (suc n) ∷ past c n root ∷ []) (e, tt)

  pub lead_root : {x : Lau R} (p q : ℕ) (c w : R.El) → (c *ᵏ c +ᵏ c *ᵏ c +ᵏ c *ᵏ c) *ᵏ w ≡ 1ᵏ → Lead R x (p + p + p) (q + q + q) (c *ᵏ (c *ᵏ c))
      → (y : Lau R) × (mul_l R (mul_l R y y) y ≡ x) × Lead R y p q c
  lead_root {x} p q c w e h =
      let f : Ser R = fall R x (p + p + p) (q + q + q) in
      let g : Ser R = root f c w in (
        term R p q g,
        ap (λ z. mul_l R z (term R p q g)) (term_mul R p q p q g g)
            ∙ term_mul R (p + p) (q + q) p q (square g) g
            ∙ ap (term R (p + p + p) (q + q + q)) (root_law f c w e (sym (lead_fall R h)))
            ∙ sym (lead_term R h),
        lead_eq R (term_lead R p q g) refl (root_first f c w),
      )
