-- Sums of numbers, and the product of two lists: psum of the sums of terms is the product of the polynomials.
use mathlib.Core.Path.{◌≡◌, refl, sym, ap, ap₂, ◌∙◌}
use mathlib.Core.List.{List, [], ◌∷◌}
use Prim.Native.Nat.{ℕ, zero, suc, ◌≤◌, ◌<◌, ◌%◌}
use Prim.Native.Nat as N
use native.Mathlib.Omega.{arith}
use native.Mathlib.Decide.{dec_le}
use lib.ListN.{get_or}
use Rattle.math_ring.proofs.Solve.{var, zer, ◌:+◌, ◌:*◌, solve}
use Rattle.math_rows.specs.Reading.{Reading}
use Rattle.math_rows.specs.Row.{tab, Size, shift_at, tpow, psum, coefs, row}
use Rattle.math_rows.specs.Sum.{sum_to, term_at}
use Rattle.math_rows.proofs.Rows.{psum_ext, psum_cut, psum_plus, shift_law, row_tab, row_cut}

-- ---- sums
pub sum_more : (f : ℕ → ℕ) (n : ℕ) → sum_to f (suc n) ≡ N.◌+◌ (sum_to f n) (f n)
unfolding sum_to
sum_more f n = refl

pub sum_ext : (f g : ℕ → ℕ) (n : ℕ) → ((i : ℕ) → i < n → f i ≡ g i) → sum_to f n ≡ sum_to g n
unfolding sum_to
sum_ext f g zero h = refl
sum_ext f g (suc n) h = ap₂ (λ a b. N.◌+◌ a b) (sum_ext f g n (λ i l. h i (omega arith))) (h n (omega arith))

-- terms that are 0 do not count
pub sum_skip : (f : ℕ → ℕ) (m n : ℕ) → m ≤ n → ((i : ℕ) → m ≤ i → i < n → f i ≡ 0) → sum_to f n ≡ sum_to f m
unfolding sum_to
sum_skip f m zero l h = ap (sum_to f) (let e : 0 ≡ m = omega arith in e)
sum_skip f m (suc n) l h = go (dec_le m n) (λ u. sum_skip f m n u (λ i a b. h i a (omega arith)))
  where
    go : Dec (m ≤ n) → (m ≤ n → sum_to f n ≡ sum_to f m) → N.◌+◌ (sum_to f n) (f n) ≡ sum_to f m
    go (yes u) k = let e : f n ≡ 0 = h n u (omega arith) in omega (arith, k u)
    go (no u) k = ap (sum_to f) (let e : suc n ≡ m = omega arith in e)

pub sum_none : (f : ℕ → ℕ) (n : ℕ) → ((i : ℕ) → i < n → f i ≡ 0) → sum_to f n ≡ 0
unfolding sum_to
sum_none f n h = sum_skip f 0 n (omega arith) (λ i a b. h i b)

-- ---- products
module _ {p : ℕ} (ρ : Reading p) where
  open ρ use {𝓥, cast}
  open 𝓥 use {K, L, const}
  open K.ops use {add as ◌+ᵏ◌, mul as ◌*ᵏ◌, 𝟎 as 0ᵏ}
  open L.ops use {add as ◌+◌, mul as ◌*◌, 𝟎}

  infixl 60 ◌+◌ ◌+ᵏ◌
  infixl 70 ◌*◌ ◌*ᵏ◌
  -- the first n terms of x times y, by any number of coefficients that reaches past it
  pub product_law : (j n m : ℕ) (x y : List ℕ) → ((i : ℕ) → m ≤ i → get_or y i 0 ≡ 0) → N.◌+◌ n m ≤ N.◌+◌ j 1
      → psum ρ j (λ k. cast (sum_to (term_at x y k) n)) ≡ psum ρ n (coefs ρ x) * row ρ y
  unfolding sum_to psum
  product_law j zero m x y h l = none j ∙ solve L zer (zer :* var 0) tt (row ρ y ∷ [])
    where
      none : (j : ℕ) → psum ρ j (λ k. cast 0) ≡ 𝟎
      none j = ap (λ i. psum ρ i (λ k. cast 0)) (let e : j ≡ N.◌+◌ j 0 = omega arith in e) ∙ psum_cut ρ 0 j (λ k. cast 0) (λ i u. ρ.cast_zero)
  product_law j (suc n) m x y h l =
      psum_ext ρ j (λ k. cast (sum_to (term_at x y k) (suc n))) (λ k. cast (sum_to (term_at x y k) n) +ᵏ coefs ρ x n *ᵏ cast (shift_at y n k))
      (λ k u. ρ.cast_add (sum_to (term_at x y k) n) (term_at x y k n) ∙ ap (λ z. cast (sum_to (term_at x y k) n) +ᵏ z) (ρ.cast_mul (get_or x n 0) (shift_at y n k)))
      ∙ psum_plus ρ j (coefs ρ x n) (λ k. cast (sum_to (term_at x y k) n)) (λ k. cast (shift_at y n k))
      ∙ ap₂ (λ a b. a + const (coefs ρ x n) * b) (product_law j n m x y h (omega arith)) (shift_law ρ j n m y h (omega arith))
      ∙ solve L (var 0 :* var 1 :+ var 2 :* (var 3 :* var 1)) ((var 0 :+ var 2 :* var 3) :* var 1) tt (psum ρ n (coefs ρ x) ∷ row ρ y ∷ const (coefs ρ x n) ∷ tpow ρ n ∷ [])

  pub mul_law : (n m : ℕ) (x y : List ℕ) → Size x n → Size y m → N.◌+◌ n m ≤ 33 → row ρ (tab 32 (λ k. sum_to (term_at x y k) n % p)) ≡ row ρ x * row ρ y
  mul_law n m x y sx sy l =
      row_tab ρ 32 (λ k. sum_to (term_at x y k) n % p)
      ∙ psum_ext ρ 32 (λ k. cast (sum_to (term_at x y k) n % p)) (λ k. cast (sum_to (term_at x y k) n)) (λ k u. ρ.cast_mod (sum_to (term_at x y k) n))
      ∙ product_law 32 n m x y sy.above (omega arith)
      ∙ ap (λ a. a * row ρ y) (sym (row_cut ρ x n sx))
