-- Storing and loading rows.
--   stored_part, stored_other, stored_blank   the row that was stored, and the others
--   Storing, Loading            the invariants of the two loops, and what `load` has at its end
use mathlib.Core.Path.{◌≡◌, refl, sym, ap, ◌∙◌}
use mathlib.Core.Logic.{◌⊎◌, inl, inr}
use mathlib.Core.List.{List}
use Prim.Native.Nat.{ℕ, ◌+◌, ◌*◌, ◌-◌, ◌<◌, ◌≤◌}
use native.Mathlib.Omega.{arith}
use native.Mathlib.Decide.{dec_lt}
use lib.ListN.{length, get_or, replicate}
use lib.Seq.{ext_get_or}
use Rattle.math_rows.specs.Reading.{Reading}
use Rattle.math_rows.specs.Made.{reading}
use Rattle.math_rows.specs.Row.{row, coefs}
use Rattle.math_rows.proofs.Tab.{length_tab, at_tab, zeros_at}
use Rattle.math_rows.proofs.Rows.{row_upto, row_tab, psum_ext}
use Rattle.basis_record.specs.Record.{part}
use Rattle.basis_record.specs.Store.{Stored, Loaded}

-- ---- what was stored
pub stored_part : (B : List ℕ) (i : ℕ) (a B' : List ℕ) → Stored B i a B' → ((j : ℕ) → 17 ≤ j → get_or a j 0 ≡ 0) → {p : ℕ} (ρ : Reading p) → row ρ (part i B') ≡ row ρ a
stored_part B i a B' h z ρ = row_tab ρ 17 (λ j. get_or B' (17 * i + j) 0) ∙ psum_ext ρ 17 (λ j. ρ.cast (get_or B' (17 * i + j) 0)) (coefs ρ a) (λ j l. ap ρ.cast (h.here j l)) ∙ sym (row_upto ρ a 17 z)

-- a row of the record is settled by its 17 numbers
pub part_same : (B B' : List ℕ) (k : ℕ) → ((j : ℕ) → j < 17 → get_or B' (17 * k + j) 0 ≡ get_or B (17 * k + j) 0) → part k B' ≡ part k B
part_same B B' k h =
    ext_get_or 0 (part k B') (part k B) (length_tab 17 (λ j. get_or B' (17 * k + j) 0) ∙ sym (length_tab 17 (λ j. get_or B (17 * k + j) 0)))
    (λ j l. let e : length (part k B') ≡ 17 = length_tab 17 (λ j. get_or B' (17 * k + j) 0) in let u : j < 17 = omega arith in
    at_tab 17 (λ j. get_or B' (17 * k + j) 0) j u ∙ h j u ∙ sym (at_tab 17 (λ j. get_or B (17 * k + j) 0) j u))

pub stored_other : (B : List ℕ) (i : ℕ) (a B' : List ℕ) → Stored B i a B' → (k : ℕ) → (k < i) ⊎ (i < k) → part k B' ≡ part k B
stored_other B i a B' h k o = part_same B B' k (λ j u. h.there (17 * k + j) (away o j u))
  where
    away : (k < i) ⊎ (i < k) → (j : ℕ) → j < 17 → (17 * k + j < 17 * i) ⊎ (17 * i + 17 ≤ 17 * k + j)
    away (inl l) j u = inl (omega arith)
    away (inr l) j u = inr (omega arith)

-- the rows after it are still 0
pub stored_blank : (B : List ℕ) (i : ℕ) (a B' : List ℕ) → Stored B i a B' → ((k : ℕ) → 17 * i ≤ k → get_or B k 0 ≡ 0) → (k : ℕ) → 17 * (i + 1) ≤ k → get_or B' k 0 ≡ 0
stored_blank B i a B' h z k l = h.there k (inr (omega arith)) ∙ z k (omega arith)

-- every number stays below p
pub stored_each : (p : ℕ) (B : List ℕ) (i : ℕ) (a B' : List ℕ) → Stored B i a B' → ((k : ℕ) → get_or B k 0 < p) → ((j : ℕ) → get_or a j 0 < p) → (k : ℕ) → get_or B' k 0 < p
stored_each p B i a B' h hB ha k = go (dec_lt k (17 * i)) (dec_lt k (17 * i + 17))
  where
    go : Dec (k < 17 * i) → Dec (k < 17 * i + 17) → get_or B' k 0 < p
    go (yes l) d = let e : get_or B' k 0 ≡ get_or B k 0 = h.there k (inl l) in let b : get_or B k 0 < p = hB k in omega arith
    go (no l) (no m) = let e : get_or B' k 0 ≡ get_or B k 0 = h.there k (inr (omega arith)) in let b : get_or B k 0 < p = hB k in omega arith
    go (no l) (yes m) =
        let q : 17 * i + (k - 17 * i) ≡ k = omega arith in
        let e : get_or B' k 0 ≡ get_or a (k - 17 * i) 0 = ap (λ n. get_or B' n 0) (sym q) ∙ h.here (k - 17 * i) (omega arith) in
        let b : get_or a (k - 17 * i) 0 < p = ha (k - 17 * i) in
        omega arith

-- ---- the loop of `stored`: j numbers are written
pub record Storing (B : List ℕ) (i : ℕ) (a b : List ℕ) (j : ℕ) : Type 0 where
  pub size : length b ≡ 119
  pub upto : j ≤ 17
  pub here : (k : ℕ) → k < j → get_or b (17 * i + k) 0 ≡ get_or a k 0
  pub there : (k : ℕ) → (k < 17 * i) ⊎ (17 * i + j ≤ k) → get_or b k 0 ≡ get_or B k 0

-- ---- the loop of `load`
pub record Loading (B : List ℕ) (i : ℕ) (r : List ℕ) (j : ℕ) : Type 0 where
  pub size : length r ≡ 32
  pub upto : j ≤ 17
  pub done : (k : ℕ) → k < j → get_or r k 0 ≡ get_or B (17 * i + k) 0
  pub rest : (k : ℕ) → j ≤ k → get_or r k 0 ≡ 0

pub loading_start : (B : List ℕ) (i : ℕ) → Loading B i (replicate 32 0) 0
loading_start B i = record { size = refl; upto = omega arith; done = λ k l. absurd (omega arith); rest = λ k l. zeros_at 32 k }

pub loading_end : (B : List ℕ) (i : ℕ) (r : List ℕ) (j : ℕ) → 17 ≤ j → Loading B i r j → Loaded B i r
loading_end B i r j l h = record {
  is_row = λ p b. record { size = h.size; each = λ k. small p b k (dec_lt k j) };
  above = λ k w. let u : j ≤ 17 = h.upto in h.rest k (omega arith);
  law = λ p pr.
      let ρ = reading p pr in
      row_upto ρ r 17 (λ k w. let u : j ≤ 17 = h.upto in h.rest k (omega arith))
      ∙ psum_ext ρ 17 (coefs ρ r) (λ k. ρ.cast (get_or B (17 * i + k) 0)) (λ k w. ap ρ.cast (h.done k (omega arith)))
      ∙ sym (row_tab ρ 17 (λ k. get_or B (17 * i + k) 0));
}
  where
    small : (p : ℕ) → ((k : ℕ) → get_or B k 0 < p) → (k : ℕ) → Dec (k < j) → get_or r k 0 < p
    small p b k (yes w) = let e : get_or r k 0 ≡ get_or B (17 * i + k) 0 = h.done k w in let z : get_or B (17 * i + k) 0 < p = b (17 * i + k) in omega arith
    small p b k (no w) = let e : get_or r k 0 ≡ 0 = h.rest k (omega arith) in let z : get_or B k 0 < p = b k in omega arith
