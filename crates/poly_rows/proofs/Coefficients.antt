-- The sums behind one coefficient of a product, and the product.
use mathlib.Core.Path.{◌≡◌, sym, ap, ◌∙◌, subst}
use mathlib.Core.List.{List}
use Prim.Native.Nat.{ℕ, suc, ◌+◌, ◌*◌, ◌-◌, ◌%◌, ◌<◌, ◌≤◌, min}
use native.Mathlib.Nat.{mod-lt, mod-add-mod, add-mod-mod, add_assoc, mul-zero, zero-mod, mul-le-mul}
use native.Mathlib.Numerals.{add-one}
use native.Mathlib.Omega.{arith}
use lib.ListN.{get_or}
use Rattle.math_rows.specs.Made.{reading}
use Rattle.math_rows.specs.Row.{tab, Row, Size, row}
use Rattle.math_rows.specs.Sum.{sum_to, term_at}
use Rattle.math_rows.proofs.Tab.{tab_row, shift_low, shift_high, Begun, begun_end}
use Rattle.math_rows.proofs.Product.{mul_law, sum_more, sum_skip, sum_none}
use Rattle.poly_rows.specs.Leaf.{MulAsks, Product}
use Rattle.poly_rows.specs.Coefficients.{PartAsks}

-- one more term, where s and r are sums up to a multiple of p
pub part_more : (p : ℕ) (f : ℕ → ℕ) (from i s t r : ℕ) → (sum_to f from + s) % p ≡ sum_to f i % p → r % p ≡ (s + t) % p → t ≡ f i → (sum_to f from + r) % p ≡ sum_to f (i + 1) % p
part_more p f from i s t r h g e =
    sym (add-mod-mod (sum_to f from) r p)
    ∙ ap (λ a. (sum_to f from + a) % p) g
    ∙ add-mod-mod (sum_to f from) (s + t) p
    ∙ ap (λ a. a % p) (sym (add_assoc (sum_to f from) s t))
    ∙ sym (mod-add-mod (sum_to f from + s) p t)
    ∙ ap (λ a. (a + t) % p) h
    ∙ mod-add-mod (sum_to f i) p t
    ∙ ap (λ a. (sum_to f i + a) % p) e
    ∙ ap (λ a. a % p) (sym (sum_more f i))
    ∙ ap (λ j. sum_to f j % p) (sym (add-one i))

-- the i-th term of coefficient k, as the code reads it
pub term_is : (x y : List ℕ) (k i : ℕ) → i ≤ k → get_or x i 0 * get_or y (k - i) 0 ≡ term_at x y k i
term_is x y k i l = ap (λ a. get_or x i 0 * a) (sym (shift_high y i k l))

-- a term is 0 where y has ended
pub term_none : (x y : List ℕ) (m k i : ℕ) → Size y m → i + m ≤ k → term_at x y k i ≡ 0
term_none x y m k i s l = ap (λ a. get_or x i 0 * a) (shift_high y i k (omega arith) ∙ s.above (k - i) (omega arith)) ∙ mul-zero (get_or x i 0)

-- a term is 0 where it lies past coefficient k
pub term_past : (x y : List ℕ) (k i : ℕ) → k < i → term_at x y k i ≡ 0
term_past x y k i l = ap (λ a. get_or x i 0 * a) (shift_low y i k l) ∙ mul-zero (get_or x i 0)

-- coefficient k from the terms from .. to − 1
pub placed : (p : ℕ) (x : List ℕ) (n : ℕ) (y : List ℕ) (m k from to r : ℕ) → Size y m → from ≤ k + 1 - m → to ≤ n → min (k + 1) n ≤ to
    → (sum_to (term_at x y k) from + r) % p ≡ sum_to (term_at x y k) to % p → r % p ≡ sum_to (term_at x y k) n % p
placed p x n y m k from to r s a b d h =
    let e : sum_to (term_at x y k) from ≡ 0 = sum_none (term_at x y k) from (λ i u. term_none x y m k i s (omega arith)) in
    ap (λ z. z % p) (let q : r ≡ sum_to (term_at x y k) from + r = omega arith in q)
    ∙ h
    ∙ ap (λ z. z % p) (sym (sum_skip (term_at x y k) to n b (λ i u v. term_past x y k i (omega arith))))

pub product : (p : ℕ) (x y : List ℕ) (n m k : ℕ) (r : List ℕ) → MulAsks p x y → Size x n → Size y m → n + m ≤ k + 1 → Begun 32 (λ k. sum_to (term_at x y k) n % p) r k → Product p x y r
product p x y n m k r h sx sy l b =
    let e : r ≡ tab 32 (λ k. sum_to (term_at x y k) n % p) = begun_end 32 _ r k b (λ j u v. ap (λ z. z % p) (sum_none (term_at x y j) n (λ i w. term_none x y m j i sy (omega arith))) ∙ zero-mod p) in
    let g : 1 < p = h.modulus.big in record {
      is_row = subst (λ u. Row p u) (sym e) (tab_row p _ (omega arith) (λ i. mod-lt (sum_to (term_at x y i) n) (omega arith)));
      law = λ pr. ap (row (reading p pr)) e ∙ mul_law (reading p pr) n m x y sx sy (h.room n m sx sy);
    }

-- each term is at most 2^56 where p is below 2^28
pub plain_term : {p : ℕ} {x y : List ℕ} {from to k : ℕ} → PartAsks p x y from to k → p < 268435456 → (i : ℕ) → get_or x i 0 * get_or y (k - i) 0 ≤ 72057594037927936
plain_term {p} {x} {y} {k = k} h l i =
    let hx : get_or x i 0 < p = h.hx.each i in
    let hy : get_or y (k - i) 0 < p = h.hy.each (k - i) in
    let fx : get_or x i 0 ≤ 268435456 = omega arith in
    let fy : get_or y (k - i) 0 ≤ 268435456 = omega arith in
    mul-le-mul fx fy

-- one more term of a sum that is kept as it is
pub plain_more : (f : ℕ → ℕ) (from i s t : ℕ) → sum_to f from + s ≡ sum_to f i → t ≡ f i → sum_to f from + (s + t) ≡ sum_to f (i + 1)
plain_more f from i s t h e = let m : sum_to f (suc i) ≡ sum_to f i + f i = sum_more f i in let q : sum_to f from + (s + t) ≡ sum_to f (suc i) = omega arith in q ∙ ap (sum_to f) (sym (add-one i))
