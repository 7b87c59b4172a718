-- One ideal, one record.
--   part_below      the numbers of a row are below p
--   basis_unique    two records with the same seven polynomials are the same 119 numbers
--   record_unique   two records of one ideal are the same 119 numbers
use mathlib.Core.Path.{◌≡◌, refl, sym, ap, ◌∙◌, subst}
use mathlib.Core.List.{List}
use Prim.Native.Nat.{ℕ, zero, suc, ◌+◌, ◌*◌, ◌/◌, ◌%◌, ◌<◌}
use native.Mathlib.Nat.{mod-lt, mod-add-div}
use native.Mathlib.Omega.{arith}
use native.Mathlib.Decide.{dec_lt}
use lib.ListN.{length, get_or}
use lib.Seq.{ext_get_or}
use Rattle.math_rows.specs.Made.{reading}
use Rattle.math_rows.proofs.Tab.{length_tab, at_tab, past_tab}
use Rattle.math_rows.proofs.Unique.{list_unique}
use Rattle.math_ideals.specs.Setting.{P}
use Rattle.math_ideals.specs.Ideal.{Basis}
use Rattle.math_ideals.specs.Next.{Same}
use Rattle.math_ideals.proofs.Unique.{good_unique}
use Rattle.field_open.specs.Refusal.{Accepted}
use Rattle.basis_record.specs.Record.{part, setting, poly_of, basis_of, IsRecord}

pub part_below : {p : ℕ} (B : List ℕ) → ((i : ℕ) → get_or B i 0 < p) → (i j : ℕ) → get_or (part i B) j 0 < p
part_below {p} B h i j = elim (dec_lt j 17) [
  | yes l ↦ subst (λ x. x < p) (sym (at_tab 17 (λ j. get_or B (17 * i + j) 0) j l)) (h (17 * i + j))
  | no l ↦ subst (λ x. x < p) (sym (past_tab 17 (λ j. get_or B (17 * i + j) 0) j (omega arith))) (omega (arith, h 0))
]

module _ {p : ℕ} {G H : List ℕ} (A : Accepted p G H) where
  -- the i-th of the seven
  piece : Basis (setting A) → ℕ → P (setting A)
  piece B zero = B.M.a
  piece B (suc zero) = B.M.b
  piece B (suc (suc zero)) = B.M.c
  piece B (suc (suc (suc zero))) = B.N.a
  piece B (suc (suc (suc (suc zero)))) = B.N.b
  piece B (suc (suc (suc (suc (suc zero))))) = B.N.c
  piece B (suc (suc (suc (suc (suc (suc i)))))) = B.U

  piece_is : (B : List ℕ) (i : ℕ) → i < 7 → piece (basis_of A B) i ≡ poly_of A (part i B)
  unfolding piece
  piece_is B zero l = refl
  piece_is B (suc zero) l = refl
  piece_is B (suc (suc zero)) l = refl
  piece_is B (suc (suc (suc zero))) l = refl
  piece_is B (suc (suc (suc (suc zero)))) l = refl
  piece_is B (suc (suc (suc (suc (suc zero))))) l = refl
  piece_is B (suc (suc (suc (suc (suc (suc zero)))))) l = refl
  piece_is B (suc (suc (suc (suc (suc (suc (suc i))))))) l = absurd (omega arith)

  pub basis_unique : (B B' : List ℕ) → IsRecord p G H B → IsRecord p G H B' → basis_of A B ≡ basis_of A B' → B ≡ B'
  basis_unique B B' h h' e = ext_get_or 0 B B' (h.size ∙ sym h'.size) at
    where
      rows : (i : ℕ) → i < 7 → part i B ≡ part i B'
      rows i l = list_unique (reading p A.prime) (part i B) (part i B')
          (length_tab 17 (λ j. get_or B (17 * i + j) 0) ∙ sym (length_tab 17 (λ j. get_or B' (17 * i + j) 0)))
          (part_below B h.each i) (part_below B' h'.each i) (ap (λ z. z.0) (sym (piece_is B i l) ∙ ap (λ z. piece z i) e ∙ piece_is B' i l))

      at : (k : ℕ) → k < length B → get_or B k 0 ≡ get_or B' k 0
      at k l =
          let i : ℕ = k / 17 in
          let j : ℕ = k % 17 in
          let s : length B ≡ 119 = h.size in
          let jl : j < 17 = mod-lt k (omega arith) in
          let e₀ : k ≡ 17 * i + j = let q : k % 17 + 17 * (k / 17) ≡ k = mod-add-div k 17 in omega arith in
          let il : i < 7 = omega arith in
          ap (λ n. get_or B n 0) e₀ ∙ sym (at_tab 17 (λ j. get_or B (17 * i + j) 0) j jl) ∙ ap (λ x. get_or x j 0) (rows i il) ∙ at_tab 17 (λ j. get_or B' (17 * i + j) 0) j jl ∙ ap (λ n. get_or B' n 0) (sym e₀)

  pub record_unique : (B B' : List ℕ) → IsRecord p G H B → IsRecord p G H B' → Same (setting A) (basis_of A B) (basis_of A B') → B ≡ B'
  record_unique B B' h h' s = basis_unique B B' h h' (good_unique (setting A) (basis_of A B) (basis_of A B') (h.good A) (h'.good A) s)
