-- Lists of numbers below p as polynomials.
--   row_at         a row as it is lent
--   size_length    the length without the zeros at the end is the polynomial's
--   constant_is, is_constant   a list is k and zeros after it exactly where it stands for the constant k
use mathlib.Core.Path.{◌≡◌, sym, ap, ap₂, ◌∙◌}
use mathlib.Core.List.{List, [], ◌∷◌}
use Prim.Native.Nat.{ℕ, zero, suc, ◌+◌, ◌*◌, ◌-◌, ◌<◌, ◌≤◌}
use native.Mathlib.Omega.{arith}
use native.Mathlib.Decide.{dec_lt}
use lib.ListN.{length, get_or}
use Rattle.base_lists.specs.Pieces.{cut, between}
use Rattle.base_lists.proofs.Pieces.{between_cut}
use Rattle.math_valued.specs.Degree.{Lt}
use Rattle.math_valued.proofs.Degree.{above}
use Rattle.math_rows.specs.Reading.{Reading}
use Rattle.math_rows.specs.Row.{Size, psum, coefs, row}
use Rattle.math_rows.proofs.Rows.{psum_ext, row_upto, size_lt, size_lead}
use Rattle.math_rows.proofs.Unique.{cast_inj, psum_unique}
use Rattle.unit_inverse.proofs.Inverting.{row_one}
use Rattle.unit_finish.proofs.Stored.{list_top}
use Rattle.poly_tests.specs.Tests.{Below, Constant}
use Rattle.poly_tests.proofs.Lists.{past}
use Rattle.unit_check.proofs.Positive.{Length}

-- ---- a row of c numbers, of six
pub row_at : (c a b at : ℕ) (l : List ℕ) → length l ≡ 6 * c → b ≡ a + c → b ≤ 6 * c → a ≡ at → between a b l ≡ cut at c l
row_at c a b at l s e u f = between_cut a b l (omega arith) (omega arith) ∙ ap₂ (λ i k. cut i k l) f (let o : b - a ≡ c = omega arith in o)

-- ---- a list of one number
one_below : (p k : ℕ) → k < p → (i : ℕ) → get_or (k ∷ []) i 0 < p
one_below p k h zero = h
one_below p k h (suc i) = omega arith

module _ {p : ℕ} (ρ : Reading p) where
  open ρ use {𝓥, cast}

  module _ (l : List ℕ) (each : Below p l) where
    least : (n : ℕ) → Size l n → (k : ℕ) → Lt 𝓥 (row ρ l) k → n ≤ k
    least zero s k h = omega arith
    least (suc m) s k h = let u : m < k = above 𝓥 (cast (get_or l m 0), list_top ρ l each m s, size_lead ρ s) h in omega arith

    pub size_length : {n : ℕ} → Size l n → Length 𝓥 (row ρ l) n
    size_length {n} s = record { under = size_lt ρ s; least = least n s }

  module _ (k : ℕ) (l : List ℕ) where
    -- both as sums of as many terms
    list_sum : row ρ l ≡ psum ρ (suc (length l)) (coefs ρ l)
    list_sum = row_upto ρ l (suc (length l)) (λ i u. past l i (omega arith))

    one_sum : 𝓥.const (cast k) ≡ psum ρ (suc (length l)) (coefs ρ (k ∷ []))
    one_sum = sym (row_one ρ k) ∙ row_upto ρ (k ∷ []) (suc (length l)) (λ i u. past (k ∷ []) i (omega arith))

    pub constant_is : Constant k l → row ρ l ≡ 𝓥.const (cast k)
    constant_is h = list_sum ∙ psum_ext ρ (suc (length l)) (coefs ρ l) (coefs ρ (k ∷ [])) (λ i u. ap cast (h i)) ∙ sym one_sum

    pub is_constant : Below p l → k < p → row ρ l ≡ 𝓥.const (cast k) → Constant k l
    is_constant each z e i = elim (dec_lt i (suc (length l))) [
      | yes u ↦
          cast_inj ρ (get_or l i 0) (get_or (k ∷ []) i 0) (each i) (one_below p k z i)
          (psum_unique ρ (suc (length l)) (coefs ρ l) (coefs ρ (k ∷ [])) (sym list_sum ∙ e ∙ one_sum) i u)
      | no u ↦ past l i (omega arith) ∙ sym (past (k ∷ []) i (omega arith))
    ]
