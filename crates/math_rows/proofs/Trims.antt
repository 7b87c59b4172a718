-- Zeros at the end of a list do not count: in any reading it is the polynomial of its front.
--   row_front   the front as long as the list's size
--   trim_row    the trimmed list
use mathlib.Core.Path.{◌≡◌, sym, ap, ◌∙◌}
use mathlib.Core.List.{List}
use Prim.Native.Nat.{ℕ}
use lib.ListN.{take}
use lib.Seq.{length-take-le, get_or-take}
use Rattle.base_lists.specs.Coefficients.{Size, trim}
use Rattle.base_lists.proofs.Trims.{sized, trim_size}
use Rattle.math_rows.specs.Reading.{Reading}
use Rattle.math_rows.specs.Row.{psum, coefs, row}
use Rattle.math_rows.proofs.Rows.{psum_ext, row_cut}

module _ {p : ℕ} (ρ : Reading p) where
  pub row_front : (l : List ℕ) (n : ℕ) → Size l n → row ρ (take n l) ≡ row ρ l
  unfolding row
  row_front l n s =
      ap (λ k. psum ρ k (coefs ρ (take n l))) (length-take-le n l s.fits)
      ∙ psum_ext ρ n (coefs ρ (take n l)) (coefs ρ l) (λ i u. ap ρ.cast (get_or-take n l i 0 u))
      ∙ sym (row_cut ρ l n s)

  pub trim_row : (l : List ℕ) → row ρ (trim l) ≡ row ρ l
  trim_row l = let (n, s) = sized l in ap (row ρ) (trim_size l n s) ∙ row_front l n s
