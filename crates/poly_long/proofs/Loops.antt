-- Loops over a slice, on lists.
--   product_small   the product of two stored coefficients
--   filled_same     a list filled with the entries of another is the other
--   Changing        the invariant of a loop that changes a list in place, entry by entry
use mathlib.Core.Path.{◌≡◌, refl, sym, ◌∙◌}
use mathlib.Core.List.{List}
use Prim.Native.Nat.{ℕ, ◌+◌, ◌*◌, ◌<◌, ◌≤◌}
use native.Mathlib.Nat.{mul-le-mul}
use native.Mathlib.Omega.{arith}
use lib.ListN.{length, get_or, set}
use lib.Seq.{ext_get_or, get_or-set_other}
use Rattle.math_rows.proofs.Tab.{Filled, filled_start, filled_more}

-- two stored coefficients
pub product_small : (a b : ℕ) → a < 65536 → b < 65536 → a * b ≤ 4294836225
product_small a b ha hb = let e : a * b ≤ 65535 * 65535 = mul-le-mul {n₁ = a} {m₁ = b} {n₂ = 65535} {m₂ = 65535} (omega arith) (omega arith) in e

pub filled_same : (n : ℕ) (s d : List ℕ) (i : ℕ) → Filled n (λ k. get_or s k 0) d i → n ≤ i → length s ≡ n → d ≡ s
filled_same n s d i h l e = ext_get_or 0 d s (h.size ∙ sym e) (λ k u. let z : length d ≡ n = h.size in h.done k (omega arith))

pub record Changing (f : ℕ → ℕ) (d₀ d : List ℕ) (i : ℕ) : Type 0 where
  pub filled : Filled (length d₀) f d i
  pub rest : (k : ℕ) → i ≤ k → get_or d k 0 ≡ get_or d₀ k 0

pub changing_start : (f : ℕ → ℕ) (d : List ℕ) → Changing f d d 0
changing_start f d = record { filled = filled_start (length d) f d refl; rest = λ k l. refl }

pub changing_more : (f : ℕ → ℕ) (d₀ d : List ℕ) (i v : ℕ) → Changing f d₀ d i → i < length d₀ → v ≡ f i → Changing f d₀ (set d i v) (i + 1)
changing_more f d₀ d i v h l e = record {
  filled = filled_more (length d₀) f d i v h.filled l e;
  rest = λ k u. get_or-set_other d i k v 0 (λ z. absurd (omega arith)) ∙ h.rest k (omega arith);
}
