-- The rows of the unit, put one after the other.
--   row_put, rows_put   a row, and the three rows, from what is lent
use mathlib.Core.Path.{sym, subst}
use mathlib.Core.List.{List, [], ◌∷◌, ◌++◌}
use Prim.Native.Nat.{ℕ, ◌-◌, ◌≤◌}
use native.Mathlib.Omega.{arith}
use lib.ListN.{length, take}
use Rattle.base_lists.specs.Pieces.{Put, cut, between}
use Rattle.base_lists.specs.Coefficients.{Size, trim}
use Rattle.base_lists.proofs.Puts.{put_then}
use Rattle.base_lists.proofs.Pieces.{between_cut}
use Rattle.base_lists.proofs.Trims.{trim_size}
use Rattle.text_put.specs.Print.{semicolon, newline, list_text}
use Rattle.lister_rows.specs.Text.{rows_text}

pub row_put : (l : List ℕ) (n : ℕ) {d : List ℕ} {at r : ℕ} {d' : List ℕ} {q : ℕ} {e : List ℕ} → Size l n
    → Put d at (semicolon ∷ []) r d' → Put d' r (list_text (take n l)) q e → Put d at (semicolon ∷ list_text (trim l)) q e
row_put l n {d} {at} {r} {d'} {q} {e} s a b =
    put_then d at (semicolon ∷ []) r d' (list_text (trim l)) q e a (subst (λ (x : List ℕ). Put d' r (list_text x) q e) (sym (trim_size l n s)) b)

-- a part of a slice as it is lent
part_put : (f t : ℕ) (l : List ℕ) {d : List ℕ} {at r : ℕ} {d' : List ℕ} → f ≤ t → t ≤ length l
    → Put d at (semicolon ∷ list_text (trim (between f t l))) r d' → Put d at (semicolon ∷ list_text (trim (cut f (t - f) l))) r d'
part_put f t l {d} {at} {r} {d'} u v a = subst (λ (x : List ℕ). Put d at (semicolon ∷ list_text (trim x)) r d') (between_cut f t l u v) a

module _ (l d : List ℕ) (at r₁ : ℕ) (d₁ : List ℕ) (r₂ : ℕ) (d₂ : List ℕ) (r₃ : ℕ) (d₃ : List ℕ) (r₄ : ℕ) (d₄ : List ℕ) (long : 3072 ≤ length l) where
  pub rows_put : Put d at (semicolon ∷ list_text (trim (between 0 1024 l))) r₁ d₁ → Put d₁ r₁ (semicolon ∷ list_text (trim (between 1024 2048 l))) r₂ d₂
      → Put d₂ r₂ (semicolon ∷ list_text (trim (between 2048 3072 l))) r₃ d₃ → Put d₃ r₃ (newline ∷ []) r₄ d₄
      → Put d at (rows_text (trim (cut 0 1024 l)) (trim (cut 1024 1024 l)) (trim (cut 2048 1024 l))) r₄ d₄
  unfolding rows_text
  rows_put a b c e =
      let E0 = semicolon ∷ list_text (trim (cut 0 1024 l)) in
      let E1 = semicolon ∷ list_text (trim (cut 1024 1024 l)) in
      let E2 = semicolon ∷ list_text (trim (cut 2048 1024 l)) in
      let x = put_then d at E0 r₁ d₁ E1 r₂ d₂ (part_put 0 1024 l (omega arith) (omega arith) a) (part_put 1024 2048 l (omega arith) (omega arith) b) in
      let y = put_then d at (E0 ++ E1) r₂ d₂ E2 r₃ d₃ x (part_put 2048 3072 l (omega arith) long c) in
      put_then d at (E0 ++ E1 ++ E2) r₃ d₃ (newline ∷ []) r₄ d₄ y e
