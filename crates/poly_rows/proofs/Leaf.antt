-- From the formula of each coefficient to the polynomial: what the loops of the leaves hand out.
use mathlib.Core.Path.{◌≡◌, refl, sym, ap, ◌∙◌, subst}
use mathlib.Core.List.{List, ◌++◌}
use Prim.Native.Nat.{ℕ, ◌+◌, ◌-◌, ◌%◌, ◌<◌, ◌≤◌}
use native.Mathlib.Nat.{mod-lt, zero-add}
use native.Mathlib.Omega.{arith}
use native.Mathlib.Decide.{dec_lt}
use lib.ListN.{length, get_or, drop, replicate, get_or-eq_default}
use Rattle.base_lists.proofs.Puts.{put_back}
use Rattle.math_ring.proofs.Laws as laws
use Rattle.math_rows.specs.Made.{reading}
use Rattle.math_rows.specs.Row.{tab, Row, Size, row, coefs}
use Rattle.math_rows.proofs.Tab.{zeros_at, tab_row, Begun}
use Rattle.math_rows.proofs.Rows.{sub_law, row_32, row_upto, psum_ext}
use Rattle.math_rows.proofs.Floors.{zero_row}
use Rattle.poly_rows.specs.Leaf.{Given, Opposite, Listed}

pub zeros_row : (p : ℕ) → 1 < p → Row p (replicate 32 0)
zeros_row p h = record { size = refl; each = λ i. let e : ◌≡◌ {A = ℕ} (get_or (replicate 32 0) i 0) 0 = zeros_at 32 i in omega arith }

pub zeros_size : Size (replicate 32 0) 0
zeros_size = record { fits = omega arith; above = λ i l. zeros_at 32 i; top = λ l. absurd (omega arith) }

-- every row of remainders is a row
pub mod_row : (p : ℕ) (f : ℕ → ℕ) {r : List ℕ} → 1 < p → r ≡ tab 32 (λ i. f i % p) → Row p r
mod_row p f b e = subst (λ u. Row p u) (sym e) (tab_row p (λ i. f i % p) (omega arith) (λ i. mod-lt (f i) (omega arith)))

pub opposite : (p : ℕ) (x r : List ℕ) → Given p x → r ≡ tab 32 (λ i. (p - get_or x i 0) % p) → Opposite p x r
opposite p x r h e = record {
  is_row = mod_row p (λ i. p - get_or x i 0) h.modulus.big e;
  law = λ pr. let ρ = reading p pr in let R = ρ.𝓥.L in
      ap (row ρ) (e ∙ (λ t. tab 32 (λ i. from_zero i t % p)))
      ∙ sub_law ρ (replicate 32 0) x refl h.hx
      ∙ ap (λ a. R.ops.add a (R.ops.neg (row ρ x))) (zero_row ρ (replicate 32 0) zeros_size) ∙ laws.zero_add' R (R.ops.neg (row ρ x));
}
  where
    from_zero : (i : ℕ) → p - get_or x i 0 ≡ get_or (replicate 32 0) i 0 + (p - get_or x i 0)
    from_zero i = let q : ◌≡◌ {A = ℕ} (get_or (replicate 32 0) i 0) 0 = zeros_at 32 i in omega arith

-- a list has one trimmed length
pub size_unique : {l : List ℕ} {n m : ℕ} → Size l n → Size l m → n ≡ m
size_unique {l} {n} {m} s u = elim (dec_lt n m) [
  | yes a ↦ absurd (u.top (omega arith) (s.above (m - 1) (omega arith)))
  | no a ↦ elim (dec_lt m n) [ yes b ↦ absurd (s.top (omega arith) (u.above (n - 1) (omega arith))) | no b ↦ omega arith ]
]

pub listed : (s r : List ℕ) (i : ℕ) → length s ≤ 32 → length s ≤ i → Begun 32 (λ k. get_or s k 0) r i → Listed s r
listed s r i fits l b =
    let at : (k : ℕ) → get_or r k 0 ≡ get_or s k 0 = (λ k. elim (dec_lt k i) [ yes u ↦ b.done k u | no u ↦ b.rest k (omega arith) ∙ sym (get_or-eq_default s 0 {n = k} (omega arith)) ]) in
    let past : (k : ℕ) → 32 ≤ k → get_or s k 0 ≡ 0 = (λ k u. get_or-eq_default s 0 {n = k} (omega arith)) in record {
      size = b.size;
      each = at;
      law = λ p pr. let R = reading p pr in
          row_32 R r b.size ∙ psum_ext R 32 (coefs R r) (coefs R s) (λ k u. ap R.cast (at k)) ∙ sym (row_upto R s 32 past);
    }

-- a list written over the front of a row of zeros
pub listed_front : (s t : List ℕ) → length s ≤ 32 → t ≡ s → Listed s (t ++ drop (length s) (replicate 32 0))
listed_front s t fits e =
    let r = s ++ drop (length s) (replicate 32 0) in
    let a = put_back 0 (length s) (replicate 32 0) s (omega arith) refl in
    subst (λ z. Listed s (z ++ drop (length s) (replicate 32 0))) (sym e)
    (listed s r (length s) fits (omega arith) (record {
      size = a.size;
      done = λ k u. ap (λ j. get_or r j 0) (sym (zero-add k)) ∙ a.inside k u;
      rest = λ k u. a.after k (omega arith) ∙ zeros_at 32 k;
    }))
