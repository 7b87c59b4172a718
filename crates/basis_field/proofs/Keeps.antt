-- What follows from an opened field: `Keeps` of crate field_series.
--   g_row, h_row, gh_row, r_row, w_row   the five are rows of numbers below p
--   modulus, odd, room                   p can be reckoned with and is odd; deg r + deg w is at most 16
--   rows_hold                            what it keeps, at the degrees of G and H
--   dr_is, dw_is, degrees                the degrees of r and w, and their sum
--   r_series, w_series                   the first coefficients of the field's r and w; r_reads, w_reads: the same at the kept degrees
--   holds_of                             the rows stand for G, H and G·H
use mathlib.Core.Path.{◌≡◌, sym, ap, ◌∙◌, subst}
use mathlib.Core.Logic.{◌≢◌}
use mathlib.Core.List.{List}
use Prim.Native.Nat.{ℕ, ◌+◌, ◌*◌, ◌%◌, ◌<◌, ◌≤◌}
use native.Mathlib.Omega.{arith}
use native.Mathlib.Decide.{dec_lt}
use lib.ListN.{length, get_or, get_or-eq_default}
use Rattle.base_lists.specs.Sums.{entry}
use Rattle.num_mod.specs.Residue.{IsModulus}
use Rattle.math_rows.specs.Reading.{Reading}
use Rattle.math_rows.specs.Made.{reading}
use Rattle.math_rows.specs.Row.{Row, Reads, row}
use Rattle.math_rows.proofs.Tab.{tab_row}
use Rattle.math_rows.proofs.Rows.{row_tab, row_upto}
use Rattle.field_open.specs.Refusal.{Degree, Accepted}
use Rattle.field_open.specs.Opening.{pad}
use Rattle.field_open.specs.Opening as F
use Rattle.field_roots.proofs.Only.{series_of_reads}
use Rattle.basis_record.specs.Record.{setting}
use Rattle.field_series.specs.Keeps.{Keeps}
use Rattle.basis_record.specs.Seven.{Holds}

-- the row of a list of coefficients
module _ {p d : ℕ} {l : List ℕ} (s : Degree p l d) where
  past : (i : ℕ) → length l ≤ i → get_or l i 0 ≡ 0
  past i h = get_or-eq_default l 0 {n = i} (omega arith)

  pad_row : 0 < p → Row p (pad l)
  pad_row z = tab_row p (λ i. get_or l i 0) z (λ i. elim (dec_lt i (length l)) [ yes u ↦ s.each i u | no u ↦ let e : get_or l i 0 ≡ 0 = past i (omega arith) in omega arith ])

  pad_is : (ρ : Reading p) → row ρ (pad l) ≡ row ρ l
  pad_is ρ = row_tab ρ 32 (λ i. get_or l i 0) ∙ sym (row_upto ρ l 32 (λ i u. past i (let q : length l ≤ 13 = s.short in omega arith)))

-- below p as far as a list reaches, and 0 after it
below_all : {p : ℕ} (l : List ℕ) (n : ℕ) → 0 < p → length l ≡ n → ((i : ℕ) → i < n → entry l i < p) → (i : ℕ) → get_or l i 0 < p
below_all {p} l n z e h i = elim (dec_lt i n) [
  | yes k ↦ h i k
  | no k ↦ let q : get_or l i 0 ≡ 0 = get_or-eq_default l 0 {n = i} (omega arith) in omega arith
]

module _ {p : ℕ} {G H g h gh : List ℕ} {dr dw : ℕ} {r w : List ℕ} (k : Keeps p G H g h gh dr dw r w) where
  module _ (A : Accepted p G H) where
    pub rows_hold : F.Holds p G H A.deg_g A.deg_h (record { p = p; g = g; h = h; gh = gh; dr = dr; dw = dw })
    rows_hold = k.held A.deg_g A.deg_h A.list_g A.list_h

    pub dr_is : dr ≡ (setting A).roots.dr
    dr_is = let e : 3 * dr ≡ A.deg_g + 2 * A.deg_h = rows_hold.deg_r in omega arith

    pub dw_is : dw ≡ (setting A).roots.dw
    dw_is = let e : 3 * dw ≡ 2 * A.deg_g + A.deg_h = rows_hold.deg_w in omega arith

    pub degrees : dr + dw ≡ A.deg_g + A.deg_h
    degrees =
        let e : 3 * dr ≡ A.deg_g + 2 * A.deg_h = rows_hold.deg_r in
        let f : 3 * dw ≡ 2 * A.deg_g + A.deg_h = rows_hold.deg_w in
        omega arith

    pub r_series : Reads (reading p A.prime) r (setting A).roots.dr (setting A).roots.r
    r_series = (series_of_reads A A.prime k.series k.size).0

    pub w_series : Reads (reading p A.prime) w (setting A).roots.dw (setting A).roots.w
    w_series = (series_of_reads A A.prime k.series k.size).1

    pub r_reads : Reads (reading p A.prime) r dr (setting A).roots.r
    r_reads = subst (λ d. Reads (reading p A.prime) r d (setting A).roots.r) (sym dr_is) r_series

    pub w_reads : Reads (reading p A.prime) w dw (setting A).roots.w
    w_reads = subst (λ d. Reads (reading p A.prime) w d (setting A).roots.w) (sym dw_is) w_series

    pub holds_of : Holds A g h gh
    holds_of = record {
      g_is = ap (row (reading p A.prime)) rows_hold.row_g ∙ pad_is A.list_g (reading p A.prime);
      h_is = ap (row (reading p A.prime)) rows_hold.row_h ∙ pad_is A.list_h (reading p A.prime);
      gh_is = rows_hold.product A.prime;
    }

  pos : 0 < p
  pos = let l : 5 ≤ p = k.accepted.low in omega arith

  pub g_row : Row p g
  g_row = subst (Row p) (sym (rows_hold k.accepted).row_g) (pad_row k.accepted.list_g pos)

  pub h_row : Row p h
  h_row = subst (Row p) (sym (rows_hold k.accepted).row_h) (pad_row k.accepted.list_h pos)

  pub gh_row : Row p gh
  gh_row = (rows_hold k.accepted).row_gh

  pub r_row : Row p r
  r_row = record { size = k.size; each = below_all r (length r) pos (λ i. length r) k.series.r_below }

  pub w_row : Row p w
  w_row = record { size = k.series.even ∙ k.size; each = below_all w (length r) pos k.series.even k.series.w_below }

  pub modulus : IsModulus p
  modulus =
      let l : 5 ≤ p = k.accepted.low in
      let u : p ≤ 65535 = k.accepted.high in
      record { big = omega arith; small = omega arith }

  pub odd : p % 2 ≡ 1
  odd =
      let l : 5 ≤ p = k.accepted.low in
      let e : p % 2 ≢ 0 = k.accepted.prime.only 2 (omega arith) (omega arith) in
      omega (arith, e)

  pub room : dr + dw ≤ 16
  room =
      let s : k.accepted.deg_g + k.accepted.deg_h ≤ 16 = k.accepted.sum in
      let e : dr + dw ≡ k.accepted.deg_g + k.accepted.deg_h = degrees k.accepted in
      omega arith
