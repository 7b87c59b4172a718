-- The six rows of a unit.
--   cut_below   the numbers of a row are below p
--   same_rows      rows that hold the same two elements are the same
--   rows_unique    the field and the convention settle the rows
use mathlib.Core.Path.{◌≡◌, sym, ap, ◌∙◌, subst}
use mathlib.Core.List.{List}
use Prim.Native.Nat.{ℕ, ◌+◌, ◌*◌, ◌-◌, ◌≤◌, ◌<◌}
use native.Mathlib.Omega.{arith}
use native.Mathlib.Decide.{dec_lt}
use lib.ListN.{length, get_or}
use lib.Seq.{ext_get_or}
use Rattle.field_open.specs.Refusal.{Accepted}
use Rattle.math_rows.specs.Made.{reading}
use Rattle.math_rows.proofs.Tab.{length_tab, at_tab, past_tab}
use Rattle.math_rows.proofs.Unique.{list_unique}
use Rattle.math_chain.specs.Convention.{Convention}
use Rattle.math_chain.proofs.Exists.{order_exists}
use Rattle.math_chain.proofs.Unit.{unit_unique}
use Rattle.basis_record.specs.Record.{setting, poly_of}
use Rattle.unit_rows.specs.Six.{cut}
use Rattle.unit_finish.specs.Rows.{six, Holds}

-- the numbers of a row
pub cut_below : {p : ℕ} (at c : ℕ) (l : List ℕ) → ((i : ℕ) → get_or l i 0 < p) → (i : ℕ) → get_or (cut at c l) i 0 < p
cut_below {p} at c l h i = elim (dec_lt i c) [
  | yes u ↦ subst (λ v. v < p) (sym (at_tab c (λ i. get_or l (at + i) 0) i u)) (h (at + i))
  | no u ↦ subst (λ v. v < p) (sym (past_tab c (λ i. get_or l (at + i) 0) i (omega arith))) (omega (arith, h 0))
]

module _ {p : ℕ} {G H : List ℕ} (A : Accepted p G H) where
  -- rows with the same polynomials hold the same numbers
  row_unique : (at c : ℕ) (x y : List ℕ) → ((i : ℕ) → get_or x i 0 < p) → ((i : ℕ) → get_or y i 0 < p) → poly_of A (cut at c x) ≡ poly_of A (cut at c y) → (i : ℕ) → i < c → get_or x (at + i) 0 ≡ get_or y (at + i) 0
  row_unique at c x y hx hy e i u =
      let q : cut at c x ≡ cut at c y = list_unique (reading p A.prime) (cut at c x) (cut at c y) (length_tab c (λ i. get_or x (at + i) 0) ∙ sym (length_tab c (λ i. get_or y (at + i) 0))) (cut_below at c x hx) (cut_below at c y hy) (ap (λ z. z.0) e) in
      sym (at_tab c (λ i. get_or x (at + i) 0) i u) ∙ ap (λ z. get_or z i 0) q ∙ at_tab c (λ i. get_or y (at + i) 0) i u

  pub same_rows : (c : ℕ) (x y : List ℕ) → length x ≡ 6 * c → length y ≡ 6 * c → ((i : ℕ) → get_or x i 0 < p) → ((i : ℕ) → get_or y i 0 < p) →
      six A c 0 x ≡ six A c 0 y → six A c (c + c + c) x ≡ six A c (c + c + c) y → x ≡ y
  same_rows c x y sx sy hx hy e_e eF = ext_get_or 0 x y (sx ∙ sym sy) (λ i u. pick e_e eF i (omega arith))
    where
      at : (f : ℕ) → poly_of A (cut f c x) ≡ poly_of A (cut f c y) → (i : ℕ) → f ≤ i → i < f + c → get_or x i 0 ≡ get_or y i 0
      at f e i a b = let o : f + (i - f) ≡ i = omega arith in ap (λ j. get_or x j 0) (sym o) ∙ row_unique f c x y hx hy e (i - f) (omega arith) ∙ ap (λ j. get_or y j 0) o

      pick : six A c 0 x ≡ six A c 0 y → six A c (c + c + c) x ≡ six A c (c + c + c) y → (i : ℕ) → i < 6 * c → get_or x i 0 ≡ get_or y i 0
      pick e f i u = elim (dec_lt i c) [
        | yes a ↦ at 0 (ap (λ v. v.a) e) i (omega arith) (omega arith)
        | no a ↦ elim (dec_lt i (0 + c + c)) [
          | yes b ↦ at (0 + c) (ap (λ v. v.b) e) i (omega arith) (omega arith)
          | no b ↦ elim (dec_lt i (c + c + c)) [
            | yes d ↦ at (0 + c + c) (ap (λ v. v.c) e) i (omega arith) (omega arith)
            | no d ↦ elim (dec_lt i (c + c + c + c)) [
              | yes g ↦ at (c + c + c) (ap (λ v. v.a) f) i (omega arith) (omega arith)
              | no g ↦ elim (dec_lt i (c + c + c + c + c)) [
                | yes h ↦ at (c + c + c + c) (ap (λ v. v.b) f) i (omega arith) (omega arith)
                | no h ↦ at (c + c + c + c + c) (ap (λ v. v.c) f) i (omega arith) (omega arith)
              ]
            ]
          ]
        ]
      ]

  pub rows_unique : {k : Convention} {l l' d d' : ℕ} (c : ℕ) (x y : List ℕ) → Holds k p G H l d c x → Holds k p G H l' d' c y → x ≡ y
  rows_unique c x y hx hy =
      let (B₀, st) = order_exists (setting A) in
      let (el, ed, e_e, eF) = unit_unique (setting A) B₀ st (hx.unit A B₀ st) (hy.unit A B₀ st) in
      same_rows c x y hx.whole hy.whole hx.each hy.each e_e eF
