-- Fermat's little theorem, by Frobenius: p divides C(p, k) for 0 < k < p, so x ↦ x^p keeps sums, and every element is a sum of ones.
--   fermat           x^p = x
--   fermat_unit      x^(p − 1) = 1 for x ≠ 0
--   fermat_inverse   x · x^(p − 2) = 1 for x ≠ 0
--   frob             x ↦ x^p keeps sums in every commutative ring where p is 0
--   pow_cls          powers of classes are classes of powers, for every modulus
use mathlib.Core.Path.{◌≡◌, refl, sym, ap, ap₂, ◌∙◌}
use mathlib.Core.Logic.{◌≢◌}
use mathlib.Core.List.{[], ◌∷◌}
use Prim.Native.Nat.{ℕ, zero, suc, ◌+◌, ◌*◌, ◌-◌, ◌/◌, ◌%◌, ◌^◌, ◌<◌}
use native.Mathlib.Nat.{mod-eq_of_lt, mod-add-div, pow-zero, pow-succ'}
use native.Mathlib.Omega.{arith}
use Rattle.math_ring.specs.Ring.{CRing, nat}
use Rattle.math_ring.proofs.Laws.{nat_mul, zero_mul'}
use Rattle.math_ring.proofs.Solve.{var, one, minus, ◌:+◌, ◌:*◌, hyp, solve_by}
use Rattle.math_ring.specs.Power.{pow}
use Rattle.math_ring.proofs.Power.{choose, absorb, frobenius, pow-suc, one_pow}
use Rattle.math_ring.proofs.Power as P
use Rattle.math_fp.specs.Fp.{F, Prime, cls}
use Rattle.math_fp.proofs.Ring.{ring, cls_add, cls_mul, cls_p, cls_val}
use Rattle.math_fp.proofs.Field.{Fld, ppos, inverse, cancel_zero}

-- the powers of numbers are the ring's: every modulus, prime or not
pub pow_cls : (p : ℕ) (pos : 0 < p) (a e : ℕ) → pow (ring p pos) (cls p pos a) e ≡ cls p pos (a ^ e)
pow_cls p pos a zero = P.pow-zero (ring p pos) (cls p pos a) ∙ ap (cls p pos) (sym (pow-zero a))
pow_cls p pos a (suc e) =
    pow-suc (ring p pos) (cls p pos a) e
    ∙ ap (λ t. (ring p pos).ops.mul (cls p pos a) t) (pow_cls p pos a e)
    ∙ cls_mul p pos a (a ^ e)
    ∙ ap (cls p pos) (sym (pow-succ' a e))

module _ (p : ℕ) (pr : Prime p) where
  open (Fld p pr).ops use {add as ◌⊕◌, mul as ◌⊗◌, neg as ⊖◌, 𝟎, 𝟏}

  infixl 60 ◌⊕◌
  infixl 70 ◌⊗◌
  infix 80 ⊖◌
  abbrev c : ℕ → F p
  c = cls p (ppos p pr)

  -- the numerals of the ring are the classes
  pub nat_cls : (n : ℕ) → nat (Fld p pr).ops n ≡ c n
  unfolding nat
  nat_cls zero = refl
  nat_cls (suc n) = ap (λ t. 𝟏 ⊕ t) (nat_cls n) ∙ cls_add p (ppos p pr) 1 n ∙ ap c (let e : 1 + n ≡ suc n = omega arith in e)

  -- a number strictly between 0 and p is not 0 in the field; so for each that p does not divide
  pub cls_nonzero : (n : ℕ) → n % p ≢ 0 → c n ≢ 𝟎
  cls_nonzero n h e = h (ap (λ (x : F p). x.0) e ∙ mod-eq_of_lt (ppos p pr))

  -- p divides C(p, k) for 0 < k < p
  choose_zero : (n k : ℕ) → p ≡ suc n → suc k < p → c (choose p (suc k)) ≡ 𝟎
  choose_zero n k e h =
      cancel_zero p pr (c (suc k)) (c (choose p (suc k)))
      (cls_nonzero (suc k) (λ z. let y : suc k % p ≡ suc k = mod-eq_of_lt h in omega arith))
      (cls_mul p (ppos p pr) (suc k) (choose p (suc k))
      ∙ ap c (ap (λ m. suc k * choose m (suc k)) e ∙ absorb n k ∙ ap (λ m. m * choose n k) (sym e))
      ∙ sym (cls_mul p (ppos p pr) p (choose n k))
      ∙ ap (λ t. t ⊗ c (choose n k)) (cls_p p (ppos p pr))
      ∙ zero_mul' (Fld p pr) (c (choose n k)))

  pub prime_choose : (k : ℕ) → 0 < k → k < p → choose p k % p ≡ 0
  prime_choose zero h l = absurd (omega arith)
  prime_choose (suc k) h l =
      let b : 0 < p = ppos p pr in
      ap (λ (x : F p). x.0) (choose_zero (p - 1) k (omega arith) l) ∙ mod-eq_of_lt b

  -- x ↦ x^p keeps sums in every commutative ring where p is 0: the field, its polynomials, its series
  pub frob : (R : CRing) → nat R.ops p ≡ R.ops.𝟎 → (x y : R.El) → pow R (R.ops.add x y) p ≡ R.ops.add (pow R x p) (pow R y p)
  frob R char x y = frobenius R x y p (ppos p pr) (λ k h l.
      let q = choose p k / p in
      let e : choose p k ≡ p * q = omega (arith, prime_choose k h l, mod-add-div (choose p k) p) in
      ap (nat R.ops) e
      ∙ nat_mul R p q
      ∙ ap (λ t. R.ops.mul t (nat R.ops q)) char
      ∙ zero_mul' R (nat R.ops q))

  zero_pow : (n : ℕ) → 0 < n → pow (Fld p pr) 𝟎 n ≡ 𝟎
  zero_pow zero h = absurd (omega arith)
  zero_pow (suc n) h = pow-suc (Fld p pr) 𝟎 n ∙ zero_mul' (Fld p pr) (pow (Fld p pr) 𝟎 n)

  fermat_cls : (n : ℕ) → pow (Fld p pr) (c n) p ≡ c n
  fermat_cls zero = zero_pow p (ppos p pr)
  fermat_cls (suc n) =
      let e : c (suc n) ≡ 𝟏 ⊕ c n = sym (cls_add p (ppos p pr) 1 n ∙ ap c (let s : 1 + n ≡ suc n = omega arith in s)) in
      ap (λ t. pow (Fld p pr) t p) e
      ∙ frob (Fld p pr) (nat_cls p ∙ cls_p p (ppos p pr)) 𝟏 (c n)
      ∙ ap₂ ◌⊕◌ (one_pow (Fld p pr) p) (fermat_cls n)
      ∙ sym e

  -- x^p = x
  pub fermat : (x : F p) → pow (Fld p pr) x p ≡ x
  fermat x = ap (λ t. pow (Fld p pr) t p) (sym (cls_val p (ppos p pr) x)) ∙ fermat_cls x.0 ∙ cls_val p (ppos p pr) x

  -- x · x^(p − 1) = x
  pub fermat_mul : (x : F p) → x ⊗ pow (Fld p pr) x (p - 1) ≡ x
  fermat_mul x =
      let b : 0 < p = ppos p pr in
      let e : suc (p - 1) ≡ p = omega arith in
      sym (pow-suc (Fld p pr) x (p - 1)) ∙ ap (pow (Fld p pr) x) e ∙ fermat x

  -- x^(p − 1) = 1 for x ≠ 0
  pub fermat_unit : (x : F p) → x ≢ 𝟎 → pow (Fld p pr) x (p - 1) ≡ 𝟏
  fermat_unit x nz =
      let (w, e) = inverse p pr x nz in
      let X = var 0 in let W = var 1 in let Q = var 2 in
      -- q − 1 = w (x q − x) − (q − 1)(x w − 1)
      solve_by (Fld p pr) Q one (hyp W (X :* Q) X ∷ hyp (minus Q :+ one) (X :* W) one ∷ []) tt
      (x ∷ w ∷ pow (Fld p pr) x (p - 1) ∷ []) (fermat_mul x, (e, tt))

  -- the inverse as a power: x · x^(p − 2) = 1
  pub fermat_inverse : (x : F p) → x ≢ 𝟎 → x ⊗ pow (Fld p pr) x (p - 2) ≡ 𝟏
  fermat_inverse x nz =
      let b : 1 < p = pr.big in
      let e : suc (p - 2) ≡ p - 1 = omega arith in
      sym (pow-suc (Fld p pr) x (p - 2)) ∙ ap (pow (Fld p pr) x) e ∙ fermat_unit x nz
