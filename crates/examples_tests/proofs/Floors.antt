-- Degrees and leading coefficients of a series, from its polynomial part.
--   lead_floor, lt_floor, has_floor   a list's last number is the leading coefficient; a list's end bounds the degree
--   has_top_lem                           the degree of a list's own polynomial
--   floor_double                      2a − x is the polynomial part of 2a − b r − c w, where x is that of b r + c w
use mathlib.Core.Path.{◌≡◌, sym, ap, ap₂, ◌∙◌}
use mathlib.Core.List.{List, [], ◌∷◌}
use Prim.Native.Nat.{ℕ, suc}
use native.Mathlib.Omega.{arith}
use lib.Dec.{T}
use lib.ListN.{get_or}
use Rattle.math_ring.proofs.Laws as rg
use Rattle.math_ring.proofs.Solve.{var, one, minus as minusE, ◌:+◌, ◌:*◌, solve}
use Rattle.math_fp.proofs.Trial.{and_l, and_r}
use Rattle.math_valued.specs.Degree.{Has, Lt}
use Rattle.math_valued.proofs.Degree as d
use Rattle.math_rows.specs.Reading.{Reading}
use Rattle.math_rows.specs.Row.{row, Floor}
use Rattle.examples_lists.specs.Lists.{scale, minus, ends}
use Rattle.examples_lists.proofs.Lists.{row_plus, row_scale, row_minus, lead_list, lt_list, cast_some, has_list}
use Rattle.examples_tests.specs.Tests.{last, some, has_top, double}

module _ {p : ℕ} (ρ : Reading p) where
  open ρ use {𝓥, cast}
  open 𝓥 use {K, L, Lead, const}
  open K.ops use {add as ◌+ᵏ◌, 𝟎 as 0ᵏ, 𝟏 as 1ᵏ}
  open L.ops use {add as ◌+◌, mul as ◌*◌, neg as -◌, 𝟏}

  infixl 60 ◌+◌ ◌+ᵏ◌
  infixl 70 ◌*◌
  infix 80 -◌
  back : (z y : L.El) → z + - y + y ≡ z
  back z y = solve L (var 0 :+ minusE (var 1) :+ var 1) (var 0) tt (z ∷ y ∷ [])

  pub lead_floor : (z : L.El) (l : List ℕ) (n : ℕ) → Floor ρ z l → T (ends l (suc n)) → Lead z n 0 (cast (get_or l n 0))
  lead_floor z l n f e = d.lead_eq 𝓥 (𝓥.lead_add (d.lt_up 𝓥 n f (omega arith)) (lead_list ρ l n e)) (back z (row ρ l)) (rg.zero_add' K (cast (get_or l n 0)))

  pub lt_floor : (z : L.El) (l : List ℕ) (n : ℕ) → Floor ρ z l → T (ends l n) → Lt 𝓥 z n
  lt_floor z l n f e = d.lt_eq 𝓥 (d.lt_add 𝓥 (d.lt_up 𝓥 n f (omega arith)) (lt_list ρ l n e)) (back z (row ρ l))

  pub has_floor : (z : L.El) (l : List ℕ) (n : ℕ) → Floor ρ z l → T (ends l (suc n)) → T (some p (get_or l n 0)) → Has 𝓥 z n
  has_floor z l n f e s = (cast (get_or l n 0), cast_some ρ (get_or l n 0) s, lead_floor z l n f e)

  pub has_top_lem : (l : List ℕ) → T (has_top p l) → Has 𝓥 (row ρ l) (last l)
  has_top_lem l t = has_list ρ l (last l) (and_l (ends l (suc (last l))) (some p (get_or l (last l) 0)) t) (and_r (ends l (suc (last l))) (some p (get_or l (last l) 0)) t)

  pub cast_two : cast 2 ≡ 1ᵏ +ᵏ 1ᵏ
  cast_two = ρ.cast_add 1 1 ∙ ap₂ ◌+ᵏ◌ ρ.cast_one ρ.cast_one

  row_double : (a x : List ℕ) → row ρ (double p a x) ≡ (𝟏 + 𝟏) * row ρ a + - row ρ x
  row_double a x =
      row_plus ρ (scale p 2 a) (minus p x)
      ∙ ap₂ ◌+◌ (row_scale ρ 2 a ∙ ap (λ c. c * row ρ a) (ap const cast_two ∙ ρ.const_add 1ᵏ 1ᵏ ∙ ap₂ ◌+◌ ρ.const_one ρ.const_one)) (row_minus ρ x)

  pub floor_double : (a x : List ℕ) (y z : L.El) → Floor ρ (y + z) x → Floor ρ ((𝟏 + 𝟏) * row ρ a + - y + - z) (double p a x)
  floor_double a x y z f = d.lt_eq 𝓥 (d.lt_neg 𝓥 f)
      (solve L (minusE (var 1 :+ var 2 :+ minusE (var 3))) ((one :+ one) :* var 0 :+ minusE (var 1) :+ minusE (var 2) :+ minusE ((one :+ one) :* var 0 :+ minusE (var 3))) tt (row ρ a ∷ y ∷ z ∷ row ρ x ∷ [])
      ∙ ap (λ s. (𝟏 + 𝟏) * row ρ a + - y + - z + - s) (sym (row_double a x)))
