-- The loop of `sum_at`: the terms from where y begins to where x or the index ends; the others are 0. `trimmed`: neither do the zeros
-- at the end of x count.
use mathlib.Core.Path.{◌≡◌, sym, ap, ap₂, ◌∙◌}
use mathlib.Core.Logic.{◌⊎◌, inl, inr}
use mathlib.Core.List.{List}
use Prim.Native.Nat.{ℕ, ◌+◌, ◌*◌, ◌-◌, ◌<◌, ◌≤◌}
use native.Mathlib.Nat.{mul-zero, zero-mul}
use native.Mathlib.Numerals.{add-one}
use native.Mathlib.Omega.{arith}
use native.Mathlib.Decide.{dec_le, dec_lt}
use lib.ListN.{length, get_or, get_or-eq_default}
use Rattle.math_rows.specs.Row.{shift_at, Size}
use Rattle.math_rows.specs.Sum.{sum_to, term_at}
use Rattle.math_rows.proofs.Tab.{shift_low, shift_high}
use Rattle.math_rows.proofs.Product.{sum_more, sum_none, sum_skip}
use Rattle.poly_long.proofs.Loops.{product_small}
use Rattle.poly_mix.specs.Mixing.{SumAt}

-- terms where y has no coefficient
pub term_low : (x y : List ℕ) (k i : ℕ) → k < i → term_at x y k i ≡ 0
term_low x y k i l = ap (λ a. get_or x i 0 * a) (shift_low y i k l) ∙ mul-zero (get_or x i 0)

pub term_high : (x y : List ℕ) (k i : ℕ) → i + length y ≤ k → term_at x y k i ≡ 0
term_high x y k i l = ap (λ a. get_or x i 0 * a) (shift_high y i k (omega arith) ∙ get_or-eq_default y 0 {n = k - i} (omega arith)) ∙ mul-zero (get_or x i 0)

pub trimmed : (x y : List ℕ) (k m : ℕ) → Size x m → sum_to (term_at x y k) m ≡ sum_to (term_at x y k) (length x)
trimmed x y k m s = sym (sum_skip (term_at x y k) m (length x) s.fits (λ i l u. ap (λ a. a * shift_at y i k) (s.above i l) ∙ zero-mul (shift_at y i k)))

pub record Summing (x : List ℕ) (n : ℕ) (y : List ℕ) (k from to s i : ℕ) : Type 0 where
  pub first : k < length y + from
  pub skip : (from ≡ 0) ⊎ (from + length y ≡ k + 1)
  pub last : to ≤ n
  pub inside : to ≤ k + 1
  pub stop : (to ≡ n) ⊎ (to ≡ k + 1)
  pub lo : from ≤ i
  pub hi : i - from ≤ to - from
  pub value : s ≡ sum_to (term_at x y k) i
  pub small : s ≤ (i - from) * 4294836225

module _ (x : List ℕ) (n : ℕ) (y : List ℕ) (k from to : ℕ) (skip : (from ≡ 0) ⊎ (from + length y ≡ k + 1)) where
  before : (j : ℕ) → j < from → term_at x y k j ≡ 0
  before j l = elim skip [ inl e ↦ absurd (omega arith) | inr e ↦ term_high x y k j (omega arith) ]

  pub summing_start : k < length y + from → to ≤ n → to ≤ k + 1 → (to ≡ n) ⊎ (to ≡ k + 1) → Summing x n y k from to 0 from
  summing_start f l i e = record {
    first = f;
    skip = skip;
    last = l;
    inside = i;
    stop = e;
    lo = omega arith;
    hi = omega arith;
    value = sym (sum_none (term_at x y k) from before);
    small = omega arith;
  }

  after : (to ≡ n) ⊎ (to ≡ k + 1) → (j : ℕ) → to ≤ j → j < n → term_at x y k j ≡ 0
  after (inl e) j l u = absurd (omega arith)
  after (inr e) j l u = term_low x y k j (omega arith)

  pub summing_end : (s i : ℕ) → Summing x n y k from to s i → to ≤ i → SumAt x n y k s
  summing_end s i h l = record {
    value = h.value ∙ go (dec_le from to);
    small = let a : i - from ≤ to - from = h.hi in let b : to ≤ n = h.last in let d : s ≤ (i - from) * 4294836225 = h.small in omega arith;
  }
    where
      go : Dec (from ≤ to) → sum_to (term_at x y k) i ≡ sum_to (term_at x y k) n
      go (yes u) =
          let a : i - from ≤ to - from = h.hi in
          let b : from ≤ i = h.lo in
          let e : i ≡ to = omega arith in
          ap (sum_to (term_at x y k)) e ∙ sym (sum_skip (term_at x y k) to n h.last (after h.stop))
      go (no u) =
          let a : i - from ≤ to - from = h.hi in
          let b : from ≤ i = h.lo in
          let e : i ≡ from = omega arith in
          sum_none (term_at x y k) i (λ j w. before j (omega arith))
          ∙ sym (sum_none (term_at x y k) n (λ j w. elim (dec_lt j from) [ yes v ↦ before j v | no v ↦ after h.stop j (omega arith) w ]))

pub summing_more : (x : List ℕ) (n : ℕ) (y : List ℕ) (k from to s i a b : ℕ) → Summing x n y k from to s i → i < to → a ≡ get_or x i 0 → b ≡ get_or y (k - i) 0 → a < 65536 → b < 65536
    → Summing x n y k from to (s + a * b) (i + 1)
summing_more x n y k from to s i a b h l ea eb sa sb = record {
  first = h.first;
  skip = h.skip;
  last = h.last;
  inside = h.inside;
  stop = h.stop;
  lo = let u : from ≤ i = h.lo in omega arith;
  hi = let u : from ≤ i = h.lo in omega arith;
  value = ap₂ ◌+◌ h.value (ap₂ ◌*◌ ea (eb ∙ sym (shift_high y i k (let u : to ≤ k + 1 = h.inside in omega arith)))) ∙ sym (sum_more (term_at x y k) i) ∙ ap (sum_to (term_at x y k)) (sym (add-one i));
  small = let u : from ≤ i = h.lo in let v : s ≤ (i - from) * 4294836225 = h.small in let w : a * b ≤ 4294836225 = product_small a b sa sb in omega arith;
}
