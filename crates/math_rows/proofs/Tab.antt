-- A row of 32 coefficients, lowest first, each below p. A function that makes a row ensures `r ≡ tab 32 f`: one number at each
-- place, by a formula; the loops that fill one are proved by `Filled` and `Begun` of crate base_lists.
--   tab_row                               a formula below p makes a row
--   shift_low, shift_high, shift_small    the coefficients of t^k y
--   cross_at, cross_row                    s x − c t^k y
use mathlib.Core.Path.{◌≡◌, refl, ap, ◌∙◌}
use mathlib.Core.List.{List}
use Prim.Native.Nat.{ℕ, zero, suc, ◌+◌, ◌*◌, ◌-◌, ◌%◌, ◌<◌, ◌≤◌}
use native.Mathlib.Nat.{mod-lt}
use native.Mathlib.Omega.{arith}
use native.Mathlib.Decide.{dec_lt}
use lib.ListN.{get_or}
pub use Rattle.base_lists.proofs.Tabs.{length_tab, at_tab, past_tab, zeros_at}
pub use Rattle.base_lists.proofs.Tabs.{Filled, filled_start, filled_more, filled_end, Begun, begun_start, begun_more, begun_end}
use Rattle.math_rows.specs.Row.{tab, Row, shift_at}

-- ---- rows
pub tab_row : (p : ℕ) (f : ℕ → ℕ) → 0 < p → ((i : ℕ) → f i < p) → Row p (tab 32 f)
tab_row p f pos h = record { size = length_tab 32 f; each = λ i. at i (dec_lt i 32) }
  where
    at : (i : ℕ) → Dec (i < 32) → get_or (tab 32 f) i 0 < p
    at i (yes l) = let e : get_or (tab 32 f) i 0 ≡ f i = at_tab 32 f i l in omega (arith, h i)
    at i (no l) = let e : get_or (tab 32 f) i 0 ≡ 0 = past_tab 32 f i (omega arith) in omega arith

-- ---- the formulas
pub shift_low : (y : List ℕ) (k i : ℕ) → i < k → shift_at y k i ≡ 0
unfolding shift_at
shift_low y zero i l = absurd (omega arith)
shift_low y (suc k) zero l = refl
shift_low y (suc k) (suc i) l = shift_low y k i (omega arith)

pub shift_high : (y : List ℕ) (k i : ℕ) → k ≤ i → shift_at y k i ≡ get_or y (i - k) 0
unfolding shift_at
shift_high y zero i l = ap (λ n. get_or y n 0) (let e : i ≡ i - 0 = omega arith in e)
shift_high y (suc k) zero l = absurd (omega arith)
shift_high y (suc k) (suc i) l = shift_high y k i (omega arith) ∙ ap (λ n. get_or y n 0) (let e : i - k ≡ suc i - suc k = omega arith in e)

pub shift_small : (p : ℕ) (y : List ℕ) (k i : ℕ) → 0 < p → Row p y → shift_at y k i < p
unfolding shift_at
shift_small p y zero i pos r = r.each i
shift_small p y (suc k) zero pos r = pos
shift_small p y (suc k) (suc i) pos r = shift_small p y k i pos r

-- s x − c t^k y
abbrev pub cross_at : ℕ → ℕ → List ℕ → ℕ → ℕ → List ℕ → ℕ → ℕ
cross_at p s x c k y i = (s * get_or x i 0 + (p - c) * shift_at y k i) % p

pub cross_row : (p s : ℕ) (x : List ℕ) (c k : ℕ) (y : List ℕ) → 0 < p → Row p (tab 32 (cross_at p s x c k y))
cross_row p s x c k y pos = tab_row p (cross_at p s x c k y) pos (λ i. mod-lt (s * get_or x i 0 + (p - c) * shift_at y k i) pos)
