-- A list of coefficients from its leading one down.
--   top_in, top_out   its entries; 0 past them
--   top_below         they are below p
--   heads_are         13 of them are all
use mathlib.Core.Path.{◌≡◌, refl, sym, ◌∙◌}
use mathlib.Core.List.{List, [], ◌∷◌}
use Prim.Native.Nat.{ℕ, zero, suc, ◌-◌, ◌≤◌, ◌<◌}
use native.Mathlib.Decide.{dec_lt}
use native.Mathlib.Omega.{arith}
use lib.ListN.{length, get_or}
use Rattle.base_lists.specs.Sums.{entry}
use Rattle.math_rows.specs.Row.{tab, fall_at}
use Rattle.math_rows.proofs.Tab.{at_tab, past_tab}
use Rattle.math_rows.proofs.Floors.{fall_in, fall_out}
use Rattle.field_open.specs.Refusal.{Degree}
use Rattle.field_roots.specs.SeriesOf.{top}

pub top_in : (l : List ℕ) (i : ℕ) → i < length l → top l i ≡ get_or l (length l - 1 - i) 0
top_in l i h = fall_in l (length l - 1) i (omega arith)

pub top_out : (l : List ℕ) (i : ℕ) → length l ≤ i → top l i ≡ 0
unfolding fall_at
top_out [] zero h = refl
top_out [] (suc i) h = refl
top_out (a ∷ l) i h = fall_out (a ∷ l) (length (a ∷ l) - 1) i (let q : length (a ∷ l) ≡ suc (length l) = refl in omega arith)

pub top_below : {p d : ℕ} {l : List ℕ} → Degree p l d → (i : ℕ) → top l i < p
top_below {p} {d} {l} s i = go (dec_lt i (length l))
  where
    go : Dec (i < length l) → top l i < p
    go (yes h) = let e : top l i ≡ get_or l (length l - 1 - i) 0 = top_in l i h in let b : get_or l (length l - 1 - i) 0 < p = s.each (length l - 1 - i) (omega arith) in omega arith
    go (no h) = let e : top l i ≡ 0 = top_out l i (omega arith) in let w : length l ≡ suc d = s.whole in omega (arith, s.each 0 (omega arith))

pub heads_are : {p d : ℕ} {l : List ℕ} → Degree p l d → (i : ℕ) → entry (tab 13 (top l)) i ≡ top l i
heads_are {p} {d} {l} s i = go (dec_lt i 13)
  where
    go : Dec (i < 13) → entry (tab 13 (top l)) i ≡ top l i
    go (yes h) = at_tab 13 (top l) i h
    go (no h) = past_tab 13 (top l) i (omega arith) ∙ sym (top_out l i (let b : length l ≤ 13 = s.short in omega arith))
