-- Sums of products of numbers, as loops add them up.
--   prod_sum       the coefficient n of a product is a sum of n + 1 products
--   prod_ext       it asks only for the coefficients up to n
--   prod_change    how it changes with the coefficients n of the two factors
use mathlib.Core.Path.{◌≡◌, sym, ap, ap₂, ◌∙◌}
use Prim.Native.Nat.{ℕ, zero, suc, ◌+◌, ◌*◌, ◌-◌, ◌≤◌, ◌<◌}
use native.Mathlib.Nat.{zero-add, add_assoc, mul-le-mul}
use native.Mathlib.Omega.{arith}
use Rattle.base_lists.specs.Sums.{conv, prod}
use Rattle.math_rows.specs.Sum.{sum_to}
use Rattle.math_rows.proofs.Product.{sum_ext}

-- two stored coefficients
pub product_small : (a b : ℕ) → a < 65536 → b < 65536 → a * b ≤ 4294836225
product_small a b ha hb = let e : a * b ≤ 65535 * 65535 = mul-le-mul {n₁ = a} {m₁ = b} {n₂ = 65535} {m₂ = 65535} (omega arith) (omega arith) in e

sum_head : (n : ℕ) (u : ℕ → ℕ) → sum_to u (suc n) ≡ u 0 + sum_to (λ i. u (suc i)) n
unfolding sum_to
sum_head zero u = omega arith
sum_head (suc n) u = ap (λ x. x + u (suc n)) (sum_head n u) ∙ add_assoc (u 0) (sum_to (λ i. u (suc i)) n) (u (suc n))

pub prod_sum : (f g : ℕ → ℕ) (n : ℕ) → prod f g n ≡ sum_to (λ i. f i * g (n - i)) (suc n)
unfolding conv sum_to
prod_sum f g zero = sym (zero-add (f 0 * g 0))
prod_sum f g (suc n) =
    ap₂ (λ k x. f 0 * g k + x) (let e : suc n ≡ suc n - 0 = omega arith in e)
    (prod_sum (λ i. f (suc i)) g n
    ∙ sum_ext (λ i. f (suc i) * g (n - i)) (λ i. f (suc i) * g (suc n - suc i)) (suc n) (λ i l. ap (λ m. f (suc i) * g m) (let e : n - i ≡ suc n - suc i = omega arith in e)))
    ∙ sym (sum_head (suc n) (λ i. f i * g (suc n - i)))

pub prod_ext : (f g f' g' : ℕ → ℕ) (n : ℕ) → ((i : ℕ) → i ≤ n → f' i ≡ f i) → ((i : ℕ) → i ≤ n → g' i ≡ g i) → prod f' g' n ≡ prod f g n
unfolding conv
prod_ext f g f' g' zero hf hg = ap₂ ◌*◌ (hf 0 (omega arith)) (hg 0 (omega arith))
prod_ext f g f' g' (suc n) hf hg =
    ap₂ ◌+◌ (ap₂ ◌*◌ (hf 0 (omega arith)) (hg (suc n) (omega arith)))
    (prod_ext (λ i. f (suc i)) g (λ i. f' (suc i)) g' n (λ i l. hf (suc i) (omega arith)) (λ i l. hg i (omega arith)))

-- a change a of the last coefficient of f alone
prod_change₁ : (f g f' g' : ℕ → ℕ) (a n : ℕ) → ((i : ℕ) → i < n → f' i ≡ f i) → f' n ≡ f n + a → ((i : ℕ) → i ≤ n → g' i ≡ g i) → prod f' g' n ≡ prod f g n + a * g 0
unfolding conv
prod_change₁ f g f' g' a zero hf e hg = ap₂ ◌*◌ e (hg 0 (omega arith)) ∙ (let q : (f 0 + a) * g 0 ≡ f 0 * g 0 + a * g 0 = omega arith in q)
prod_change₁ f g f' g' a (suc n) hf e hg =
    ap₂ ◌+◌ (ap₂ ◌*◌ (hf 0 (omega arith)) (hg (suc n) (omega arith)))
    (prod_change₁ (λ i. f (suc i)) g (λ i. f' (suc i)) g' a n (λ i l. hf (suc i) (omega arith)) e (λ i l. hg i (omega arith)))
    ∙ sym (add_assoc (f 0 * g (suc n)) (prod (λ i. f (suc i)) g n) (a * g 0))

pub prod_change : (f g f' g' : ℕ → ℕ) (a b n : ℕ) → ((i : ℕ) → i < suc n → f' i ≡ f i) → f' (suc n) ≡ f (suc n) + a → ((i : ℕ) → i < suc n → g' i ≡ g i) → g' (suc n) ≡ g (suc n) + b
    → prod f' g' (suc n) ≡ prod f g (suc n) + (a * g 0 + f 0 * b)
unfolding conv
prod_change f g f' g' a b n hf ef hg eg =
    let x : ℕ = prod (λ i. f (suc i)) g n in
    let y : ℕ = prod (λ i. f' (suc i)) g' n in
    let e₁ : f' 0 * g' (suc n) ≡ f 0 * (g (suc n) + b) = ap₂ ◌*◌ (hf 0 (omega arith)) eg in
    let e₂ : y ≡ x + a * g 0 = prod_change₁ (λ i. f (suc i)) g (λ i. f' (suc i)) g' a n (λ i l. hf (suc i) (omega arith)) ef (λ i l. hg i (omega arith)) in
    let q : f 0 * (g (suc n) + b) + (x + a * g 0) ≡ f 0 * g (suc n) + x + (a * g 0 + f 0 * b) = omega arith in
    ap₂ ◌+◌ e₁ e₂ ∙ q
