-- What settles a row and a long list: said once for all the contracts that speak of polynomials.
--   by_row      a row is settled by its polynomial
--   by_list     a list of numbers below p is settled by its length and its polynomial
--   floor_unique   a series has one polynomial part
--   low_unique     the n lowest coefficients of a polynomial are settled
use mathlib.Core.Path.{◌≡◌, sym, ap, ◌∙◌}
use mathlib.Core.List.{List, [], ◌∷◌}
use Prim.Native.Nat.{ℕ, ◌<◌, ◌+◌}
use native.Mathlib.Omega.{arith}
use lib.ListN.{length, get_or}
use Rattle.math_ring.proofs.Laws as rg
use Rattle.math_ring.proofs.Solve.{var, minus, ◌:+◌, ◌:*◌, solve, hyp, one, solve_by}
use Rattle.math_valued.specs.Degree.{Lt}
use Rattle.math_valued.proofs.Degree.{lt_eq, lt_add, lt_neg, lt_up, lt_cancel}
use Rattle.math_rows.specs.Reading.{Reading}
use Rattle.math_rows.specs.Row.{Row, row, Floor, tpow}
use Rattle.math_rows.proofs.Rows.{row_poly, tpow_lead}
use Rattle.math_rows.proofs.Unique.{list_unique, row_unique}
use Rattle.poly_long.specs.Long.{Low}
use Rattle.poly_long.proofs.Low.{row_lt}

module _ {p : ℕ} (ρ : Reading p) where
  open ρ use {𝓥}
  open 𝓥 use {K, L, IsPoly}
  open L.ops use {add as ◌⊕◌, mul as ◌⊗◌, neg as ⊖◌, 𝟎}

  infixl 60 ◌⊕◌
  infixl 70 ◌⊗◌
  infix 80 ⊖◌
  pub by_row : {a b : List ℕ} {z : L.El} → Row p a → Row p b → row ρ a ≡ z → row ρ b ≡ z → a ≡ b
  by_row g h e f = row_unique ρ g h (e ∙ sym f)

  pub by_list : {a b : List ℕ} {n : ℕ} {z : L.El} → length a ≡ n → length b ≡ n → ((i : ℕ) → get_or a i 0 < p) → ((i : ℕ) → get_or b i 0 < p) → row ρ a ≡ z → row ρ b ≡ z → a ≡ b
  by_list {a} {b} m n g h e f = list_unique ρ a b (m ∙ sym n) g h (e ∙ sym f)

  -- a polynomial of degree below 0 is 0
  gone : (x y : L.El) → IsPoly x → IsPoly y → Lt 𝓥 (x ⊕ ⊖ y) 0 → x ≡ y
  gone x y hx hy l = rg.eq_of_sub L x y (𝓥.poly_small (x ⊕ ⊖ y) (𝓥.closed.add _ _ hx (𝓥.closed.neg _ hy)) l)

  pub floor_unique : {z : L.El} (a b : List ℕ) → Floor ρ z a → Floor ρ z b → row ρ a ≡ row ρ b
  floor_unique {z} a b h k =
      gone (row ρ a) (row ρ b) (row_poly ρ a) (row_poly ρ b)
      (lt_eq 𝓥 (lt_add 𝓥 k (lt_neg 𝓥 h)) (solve L (var 0 :+ minus (var 2) :+ minus (var 0 :+ minus (var 1))) (var 1 :+ minus (var 2)) tt (z ∷ row ρ a ∷ row ρ b ∷ [])))

  -- a − b = t^n (e' − e), of degree below n
  pub low_unique : {n : ℕ} {z : L.El} {a b : List ℕ} → Low ρ n z a → Low ρ n z b → row ρ a ≡ row ρ b
  low_unique {n} {z} {a} {b} h k = rg.eq_of_sub L (row ρ a) (row ρ b) (gap ∙ ap (λ x. tpow ρ n ⊗ x) none ∙ rg.mul-zero L (tpow ρ n))
    where
      gap : row ρ a ⊕ ⊖ row ρ b ≡ tpow ρ n ⊗ (k.rest ⊕ ⊖ h.rest)
      gap = solve_by L (var 1 :+ minus (var 2)) (var 5 :* (var 4 :+ minus (var 3))) (hyp (minus one) (var 0) (var 1 :+ var 5 :* var 3) ∷ hyp one (var 0) (var 2 :+ var 5 :* var 4) ∷ []) tt
          (z ∷ row ρ a ∷ row ρ b ∷ h.rest ∷ k.rest ∷ tpow ρ n ∷ []) (h.law, (k.law, tt))

      low : Lt 𝓥 (tpow ρ n ⊗ (k.rest ⊕ ⊖ h.rest)) n
      low = lt_eq 𝓥
          (lt_add 𝓥 (lt_up 𝓥 n (row_lt ρ a) (let s : length a ≡ n = h.size in omega arith)) (lt_neg 𝓥 (lt_up 𝓥 n (row_lt ρ b) (let s : length b ≡ n = k.size in omega arith)))) gap

      none : k.rest ⊕ ⊖ h.rest ≡ 𝟎
      none = 𝓥.poly_small (k.rest ⊕ ⊖ h.rest) (𝓥.closed.add _ _ k.is_poly (𝓥.closed.neg _ h.is_poly))
          (lt_cancel 𝓥 0 (K.ops.𝟏, 𝓥.one≢zero, tpow_lead ρ n) (lt_up 𝓥 (n + 0) low (omega arith)))
