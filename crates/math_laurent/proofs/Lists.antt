-- Lists of coefficients as codes of polynomials, both ways.
--   poly_coef    the entries of l are the coefficients of its polynomial
--   poly_lows    a polynomial of degree below n is that of its n lowest coefficients
--   poly_inj     a polynomial has one list that does not end in 0
--   coeff_list   over a field, each polynomial has such a list; poly_bound: so its degree is bounded by a known number
use mathlib.Core.Path.{◌≡◌, refl, sym, ◌∙◌, ap, ap₂}
use mathlib.Core.HLevel.{×_prop, ¬_prop, Unit-prop, Σ_prop_path}
use mathlib.Core.List.{List, [], ◌∷◌}
use mathlib.Core.Logic.{∥∥₁_elim}
use mathlib.Core.Quot.{Quot-set}
use Prim.Native.Nat.{ℕ, zero, suc, ◌+◌, ◌≤◌, ◌<◌, ◌-◌}
use native.Mathlib.Decide.{dec_lt}
use native.Mathlib.Omega.{arith}
use lib.ListN.{length, get_or, get_or-eq_default}
use Rattle.math_ring.specs.Ring.{CRing}
use Rattle.math_ring.specs.Field.{Field}
use Rattle.math_ring.proofs.Laws as r
use Rattle.math_laurent.specs.Laurent.{Lau, lops, const, t}
use Rattle.math_laurent.specs.Degree.{coef, Lead}
use Rattle.math_laurent.specs.Polynomial.{IsPoly, poly, from, lows, Canon, CoeffList}
use Rattle.math_laurent.proofs.Coef.{coef_add, coef_zero, coef_const, coef_const_pos, coef_t, coef_t_low, coef_move}
use Rattle.math_laurent.proofs.Degree.{bounded, lead_eq}
use Rattle.math_laurent.proofs.Polynomial.{zero-IsPoly, const-IsPoly, t-IsPoly, add-IsPoly, mul-IsPoly, poly_ext}

module _ (R : CRing) where
  open R.ops use {add as ◌+ᵏ◌, 𝟎 as 0ᵏ}
  open lops R use {add as ◌⊕◌, mul as ◌⊗◌, 𝟎}

  infixl 60 ◌⊕◌ ◌+ᵏ◌
  infixl 70 ◌⊗◌
  pub poly_nil : poly R [] ≡ 𝟎
  unfolding poly
  poly_nil = refl

  pub poly_cons : (a : R.El) (l : List R.El) → poly R (a ∷ l) ≡ const R a ⊕ t R ⊗ poly R l
  unfolding poly
  poly_cons a l = refl

  pub poly-IsPoly : (l : List R.El) → IsPoly R (poly R l)
  unfolding poly
  poly-IsPoly [] = zero-IsPoly R
  poly-IsPoly (a ∷ l) = add-IsPoly R (const R a) (t R ⊗ poly R l) (const-IsPoly R a) (mul-IsPoly R (t R) (poly R l) (t-IsPoly R) (poly-IsPoly l))

  pub poly_coef : (l : List R.El) (i : ℕ) → coef R i 0 (poly R l) ≡ get_or l i 0ᵏ
  unfolding poly
  poly_coef [] i = coef_zero R i 0
  poly_coef (a ∷ l) zero =
      coef_add R 0 0 (const R a) (t R ⊗ poly R l) ∙ ap₂ ◌+ᵏ◌ (coef_const R a) (coef_t_low R 0 (poly R l) ∙ poly-IsPoly l 0) ∙ R.laws.add-zero a
  poly_coef (a ∷ l) (suc i) =
      coef_add R (suc i) 0 (const R a) (t R ⊗ poly R l) ∙ ap₂ ◌+ᵏ◌ (coef_const_pos R a (suc i) 0 (omega arith)) (coef_t R i 0 (poly R l) ∙ poly_coef l i) ∙ r.zero_add' R (get_or l i 0ᵏ)

  -- the degree is below the length
  pub poly_lt : (l : List R.El) → Lead R (poly R l) (length l) 0 0ᵏ
  poly_lt l = record { at = past (length l) 0 (omega arith); above = λ i j h. past i j (omega arith) }
    where
      past : (i j : ℕ) → length l + j ≤ i → coef R i j (poly R l) ≡ 0ᵏ
      past i j h = coef_move R i j (i - j) 0 (poly R l) (omega arith) ∙ poly_coef l (i - j) ∙ get_or-eq_default l 0ᵏ {n = i - j} (omega arith)

  -- ---- from a polynomial to a list
  from_at : (i n k : ℕ) (f : ℕ → R.El) → k < n → get_or (from R i n f) k 0ᵏ ≡ f (i + k)
  from_at i zero k f h = absurd (omega arith)
  from_at i (suc n) zero f h = ap f (omega arith)
  from_at i (suc n) (suc k) f h = from_at (suc i) n k f (omega arith) ∙ ap f (omega arith)

  from_length : (i n : ℕ) (f : ℕ → R.El) → length (from R i n f) ≡ n
  from_length i zero f = refl
  from_length i (suc n) f = ap suc (from_length (suc i) n f)

  pub poly_lows : (n : ℕ) (x : Lau R) → IsPoly R x → Lead R x n 0 0ᵏ → poly R (lows R n x) ≡ x
  poly_lows n x h b = poly_ext R (poly R (lows R n x)) x (poly-IsPoly (lows R n x)) h (λ i. poly_coef (lows R n x) i ∙ at i (dec_lt i n))
    where
      past : (i : ℕ) → n ≤ i → Dec (n < i) → coef R i 0 x ≡ 0ᵏ
      past i l (yes k) = b.above i 0 (omega arith)
      past i l (no k) = ap (λ m. coef R m 0 x) (omega arith) ∙ b.at

      at : (i : ℕ) → Dec (i < n) → get_or (lows R n x) i 0ᵏ ≡ coef R i 0 x
      at i (yes l) = from_at 0 n i (λ i. coef R i 0 x) l ∙ ap (λ m. coef R m 0 x) (omega arith)
      at i (no l) =
          let e : length (lows R n x) ≡ n = from_length 0 n (λ i. coef R i 0 x) in
          get_or-eq_default (lows R n x) 0ᵏ {n = i} (omega arith) ∙ sym (past i (omega arith) (dec_lt n i))

  -- ---- the list that does not end in 0 is one
  canon_tail : (a : R.El) (l : List R.El) → Canon R (a ∷ l) → Canon R l
  canon_tail a [] h = tt
  canon_tail a (b ∷ l) h = h

  canon_some : (a : R.El) (l : List R.El) → Canon R (a ∷ l) → ((i : ℕ) → get_or (a ∷ l) i 0ᵏ ≡ 0ᵏ) → ⊥
  canon_some a [] h z = h (z 0)
  canon_some a (b ∷ l) h z = canon_some b l h (λ i. z (suc i))

  canon_ext : (l m : List R.El) → Canon R l → Canon R m → ((i : ℕ) → get_or l i 0ᵏ ≡ get_or m i 0ᵏ) → l ≡ m
  canon_ext [] [] c d h = refl
  canon_ext [] (b ∷ m) c d h = absurd (canon_some b m d (λ i. sym (h i)))
  canon_ext (a ∷ l) [] c d h = absurd (canon_some a l c h)
  canon_ext (a ∷ l) (b ∷ m) c d h = ap₂ ◌∷◌ (h 0) (canon_ext l m (canon_tail a l c) (canon_tail b m d) (λ i. h (suc i)))

  pub poly_inj : (l m : List R.El) → Canon R l → Canon R m → poly R l ≡ poly R m → l ≡ m
  poly_inj l m c d e = canon_ext l m c d (λ i. sym (poly_coef l i) ∙ ap (coef R i 0) e ∙ poly_coef m i)

  canon_prop : (l : List R.El) → IsProp (Canon R l)
  canon_prop [] = Unit-prop
  canon_prop (a ∷ []) = ¬_prop
  canon_prop (a ∷ (b ∷ l)) = canon_prop (b ∷ l)

  pub coeff_list_prop : (x : Lau R) → IsProp (CoeffList R x)
  coeff_list_prop x u v = Σ_prop_path (λ l. ×_prop (canon_prop l) (Quot-set _ _)) (poly_inj u.0 v.0 u.1.0 v.1.0 (u.1.1 ∙ sym v.1.1))

-- Over a field every polynomial has its list: the zeros at the end of any list go.
module _ (K : CRing) (F : Field K) where
  abbrev trim_cons : (a : K.El) → Dec (a ≡ K.ops.𝟎) → List K.El → List K.El
  trim_cons a d (b ∷ l) = a ∷ b ∷ l
  trim_cons a (yes z) [] = []
  trim_cons a (no z) [] = a ∷ []

  abbrev trim : List K.El → List K.El
  trim [] = []
  trim (a ∷ l) = trim_cons a (F.dec a K.ops.𝟎) (trim l)

  trim_cons_canon : (a : K.El) (d : Dec (a ≡ K.ops.𝟎)) (l : List K.El) → Canon K l → Canon K (trim_cons a d l)
  trim_cons_canon a d (b ∷ l) c = c
  trim_cons_canon a (yes z) [] c = tt
  trim_cons_canon a (no z) [] c = z

  trim_canon : (l : List K.El) → Canon K (trim l)
  trim_canon [] = tt
  trim_canon (a ∷ l) = trim_cons_canon a (F.dec a K.ops.𝟎) (trim l) (trim_canon l)

  trim_cons_at : (a : K.El) (d : Dec (a ≡ K.ops.𝟎)) (l : List K.El) (i : ℕ) → get_or (trim_cons a d l) i K.ops.𝟎 ≡ get_or (a ∷ l) i K.ops.𝟎
  trim_cons_at a d (b ∷ l) i = refl
  trim_cons_at a (yes z) [] zero = sym z
  trim_cons_at a (yes z) [] (suc i) = refl
  trim_cons_at a (no z) [] i = refl

  trim_at : (l : List K.El) (i : ℕ) → get_or (trim l) i K.ops.𝟎 ≡ get_or l i K.ops.𝟎
  trim_at [] i = refl
  trim_at (a ∷ l) zero = trim_cons_at a (F.dec a K.ops.𝟎) (trim l) 0
  trim_at (a ∷ l) (suc i) = trim_cons_at a (F.dec a K.ops.𝟎) (trim l) (suc i) ∙ trim_at l i

  trim_poly : (l : List K.El) → poly K (trim l) ≡ poly K l
  trim_poly l = poly_ext K (poly K (trim l)) (poly K l) (poly-IsPoly K (trim l)) (poly-IsPoly K l) (λ i. poly_coef K (trim l) i ∙ trim_at l i ∙ sym (poly_coef K l i))

  -- just one, so it may be had from a bound that is not told
  pub coeff_list : (x : Lau K) → IsPoly K x → CoeffList K x
  coeff_list x h = ∥∥₁_elim (bounded K x) (coeff_list_prop K x) (λ b.
      let l : List K.El = lows K b.0 x in
      (trim l, (trim_canon l, trim_poly l ∙ poly_lows K b.0 x h b.1)))

  pub poly_bound : (x : Lau K) → IsPoly K x → (n : ℕ) × Lead K x n 0 K.ops.𝟎
  poly_bound x h = let (l, c) = coeff_list x h in (length l, lead_eq K (poly_lt K l) c.1 refl)
