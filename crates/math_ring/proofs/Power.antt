-- Powers in a commutative ring, the binomial theorem, and Frobenius: (x + y)^p = x^p + y^p wherever p, and with it every
-- C(p, k) strictly inside the row, is 0. Assumes nothing.
use mathlib.Core.Path.{◌≡◌, refl, sym, ap, ap₂, ◌∙◌}
use mathlib.Core.List.{[], ◌∷◌}
use Prim.Native.Nat.{ℕ, zero, suc, ◌<◌, ◌≤◌}
use Prim.Native.Nat as N
use native.Mathlib.Nat as M
use native.Mathlib.Omega.{arith}
use Rattle.math_ring.specs.Ring.{CRing, nat}
use Rattle.math_ring.specs.Power.{pow}
use Rattle.math_ring.proofs.Laws.{nat_add, nat_one, one-mul}
use Rattle.math_ring.proofs.Solve.{var, one, zer, minus, ◌:+◌, ◌:*◌, hyp, solve, solve_by}

-- Pascal's triangle
unfoldable pub choose : ℕ → ℕ → ℕ
choose n zero = 1
choose zero (suc k) = 0
choose (suc n) (suc k) = N.◌+◌ (choose n k) (choose n (suc k))

pub choose_above : (n k : ℕ) → n < k → choose n k ≡ 0
unfolding choose
choose_above n zero h = absurd (omega arith)
choose_above zero (suc k) h = refl
choose_above (suc n) (suc k) h = ap₂ N.◌+◌ (choose_above n k (omega arith)) (choose_above n (suc k) (omega arith))

pub choose_self : (n : ℕ) → choose n n ≡ 1
unfolding choose
choose_self zero = refl
choose_self (suc n) = ap₂ N.◌+◌ (choose_self n) (choose_above n (suc n) (omega arith))

-- (k + 1) C(n + 1, k + 1) = (n + 1) C(n, k): what makes p divide C(p, k)
pub absorb : (n k : ℕ) → N.◌*◌ (suc k) (choose (suc n) (suc k)) ≡ N.◌*◌ (suc n) (choose n k)
unfolding choose
absorb zero zero = refl
absorb zero (suc k) = M.mul-zero (suc (suc k))
absorb (suc n) zero = omega (arith, absorb n zero)
absorb (suc n) (suc k) = omega (arith, absorb n k, absorb n (suc k))

module _ (R : CRing) where
  open R.ops use {add as ◌+◌, mul as ◌*◌, neg as -◌, 𝟎, 𝟏}
  open R.laws use {add-zero, mul-one, mul_comm}

  infixl 60 ◌+◌
  infixl 70 ◌*◌
  pub pow-zero : (x : R.El) → pow R x 0 ≡ 𝟏
  unfolding pow
  pow-zero x = refl

  pub pow-suc : (x : R.El) (n : ℕ) → pow R x (suc n) ≡ x * pow R x n
  unfolding pow
  pow-suc x n = refl

  pub pow_1 : (x : R.El) → pow R x 1 ≡ x
  unfolding pow
  pow_1 x = mul-one x

  pub one_pow : (n : ℕ) → pow R 𝟏 n ≡ 𝟏
  unfolding pow
  one_pow zero = refl
  one_pow (suc n) = one-mul R (pow R 𝟏 n) ∙ one_pow n

  pub pow_add : (x : R.El) (m n : ℕ) → pow R x (N.◌+◌ m n) ≡ pow R x m * pow R x n
  unfolding pow
  pow_add x zero n = ap (pow R x) (M.zero-add n) ∙ sym (one-mul R (pow R x n))
  pow_add x (suc m) n =
      ap (pow R x) (M.suc-add m n)
      ∙ ap (λ t. x * t) (pow_add x m n)
      ∙ sym (R.laws.mul_assoc x (pow R x m) (pow R x n))

  pub pow_mul : (x : R.El) (m n : ℕ) → pow R x (N.◌*◌ m n) ≡ pow R (pow R x n) m
  unfolding pow
  pow_mul x zero n = ap (pow R x) (M.zero-mul n)
  pow_mul x (suc m) n =
      ap (pow R x) (M.suc-mul m n)
      ∙ pow_add x (N.◌*◌ m n) n
      ∙ mul_comm (pow R x (N.◌*◌ m n)) (pow R x n)
      ∙ ap (λ t. pow R x n * t) (pow_mul x m n)

  pub mul_pow : (x y : R.El) (n : ℕ) → pow R (x * y) n ≡ pow R x n * pow R y n
  unfolding pow
  mul_pow x y zero = sym (mul-one 𝟏)
  mul_pow x y (suc n) =
      ap (λ t. x * y * t) (mul_pow x y n)
      ∙ (let X = var 0 in let Y = var 1 in let A = var 2 in let B = var 3 in
      solve R (X :* Y :* (A :* B)) (X :* A :* (Y :* B)) tt (x ∷ y ∷ pow R x n ∷ pow R y n ∷ []))

  -- ---- the binomial theorem. `terms n k` is Σ_{i ≤ k} C(n, i) x^i y^(k − i), in Horner's form: no difference of exponents.
  module _ (x y : R.El) where
    abbrev pub C : ℕ → ℕ → R.El
    C n k = nat R.ops (choose n k)

    unfoldable pub terms : ℕ → ℕ → R.El
    terms n zero = 𝟏
    terms n (suc k) = y * terms n k + C n (suc k) * pow R x (suc k)

    C_zero : (n : ℕ) → C n 0 ≡ 𝟏
    unfolding choose
    C_zero n = nat_one R

    C_next : (n k : ℕ) → C (suc n) (suc k) ≡ C n k + C n (suc k)
    unfolding choose
    C_next n k = nat_add R (choose n k) (choose n (suc k))

    C_above : (n k : ℕ) → n < k → C n k ≡ 𝟎
    unfolding nat
    C_above n k h = ap (nat R.ops) (choose_above n k h)

    -- one row from the row above it
    row : (n k : ℕ) → terms (suc n) (suc k) ≡ terms n (suc k) + x * terms n k
    unfolding terms pow
    row n zero =
        let X = var 0 in let Y = var 1 in let A = var 2 in let B = var 3 in let W = var 4 in
        solve_by R (Y :* one :+ W :* (X :* one)) ((Y :* one :+ B :* (X :* one)) :+ X :* one)
        (hyp X W (A :+ B) ∷ hyp X A one ∷ []) tt
        (x ∷ y ∷ C n 0 ∷ C n 1 ∷ C (suc n) 1 ∷ [])
        (C_next n 0, (C_zero n, tt))
    row n (suc k) =
        let X = var 0 in let Y = var 1 in let A = var 2 in let B = var 3 in let W = var 4 in
        let Q = var 5 in let S = var 6 in let U = var 7 in let G = var 8 in
        -- W = A + B;  S = U + x G;  y G + A x Q = U
        solve_by R (Y :* S :+ W :* (X :* (X :* Q))) ((Y :* U :+ B :* (X :* (X :* Q))) :+ X :* U)
        (hyp (X :* X :* Q) W (A :+ B) ∷ hyp Y S (U :+ X :* G) ∷ hyp X (Y :* G :+ A :* (X :* Q)) U ∷ []) tt
        (x ∷ y ∷ C n (suc k) ∷ C n (suc (suc k)) ∷ C (suc n) (suc (suc k)) ∷ pow R x k ∷ terms (suc n) (suc k) ∷ terms n (suc k) ∷ terms n k ∷ [])
        (C_next n (suc k), (row n k, (refl, tt)))

    -- (x + y)^n is the whole row
    pub binomial : (n : ℕ) → pow R (x + y) n ≡ terms n n
    unfolding pow terms
    binomial zero = refl
    binomial (suc n) =
        let X = var 0 in let Y = var 1 in let P = var 2 in let S = var 3 in let A = var 4 in let Q = var 5 in let W = var 6 in
        -- P = S;  W = (y S + A Q) + x S;  A = 0
        solve_by R ((X :+ Y) :* P) W
        (hyp (X :+ Y) P S ∷ hyp (minus one) W ((Y :* S :+ A :* Q) :+ X :* S) ∷ hyp (minus Q) A zer ∷ []) tt
        (x ∷ y ∷ pow R (x + y) n ∷ terms n n ∷ C n (suc n) ∷ pow R x (suc n) ∷ terms (suc n) (suc n) ∷ [])
        (binomial n, (row n n, (C_above n (suc n) (omega arith), tt)))

    -- ---- a row whose inner entries are all 0 in the ring
    module _ (p : ℕ) (inner : (k : ℕ) → 0 < k → k < p → C p k ≡ 𝟎) where
      left : (k : ℕ) → k < p → terms p k ≡ pow R y k
      unfolding terms pow
      left zero h = refl
      left (suc k) h =
          let Y = var 0 in let S = var 1 in let P = var 2 in let A = var 3 in let Q = var 4 in
          solve_by R (Y :* S :+ A :* Q) (Y :* P) (hyp Y S P ∷ hyp Q A zer ∷ []) tt
          (y ∷ terms p k ∷ pow R y k ∷ C p (suc k) ∷ pow R x (suc k) ∷ [])
          (left k (omega arith), (inner (suc k) (omega arith) h, tt))

-- Frobenius. p is above 0; `inner` is a fact of ℕ where p is a prime, by `absorb`.
module _ (R : CRing) (x y : R.El) where
  open R.ops use {add as ◌+◌, mul as ◌*◌, neg as -◌, 𝟎, 𝟏}

  infixl 60 ◌+◌
  pub frobenius : (p : ℕ) → 0 < p → ((k : ℕ) → 0 < k → k < p → nat R.ops (choose p k) ≡ 𝟎) → pow R (x + y) p ≡ pow R x p + pow R y p
  unfolding terms pow
  frobenius zero h inner = absurd (omega arith)
  frobenius (suc q) h inner =
      let Y = var 0 in let S = var 1 in let P = var 2 in let A = var 3 in let Q = var 4 in let W = var 5 in
      -- W = y S + A Q;  S = P;  A = 1
      solve_by R W (Q :+ Y :* P) (hyp one W (Y :* S :+ A :* Q) ∷ hyp Y S P ∷ hyp Q A one ∷ []) tt
      (y ∷ terms R x y (suc q) q ∷ pow R y q ∷ nat R.ops (choose (suc q) (suc q)) ∷ pow R x (suc q) ∷ pow R (x + y) (suc q) ∷ [])
      (binomial R x y (suc q), (left R x y (suc q) inner q (omega arith), (ap (nat R.ops) (choose_self (suc q)) ∙ nat_one R, tt)))
