-- No prefix is too short: the polynomial parts of b·r ± c·w made from 26 terms of r and w are those of the true series, for all b, c of
-- degree at most 16. No decision that is made on polynomial parts depends on a coefficient below t^0.
--   part_floor         one product
--   prefix_is_enough   the theorem
use mathlib.Core.Path.{◌≡◌, refl, sym, ap, ap₂, ◌∙◌}
use mathlib.Core.List.{List, [], ◌∷◌}
use Prim.Native.Nat.{ℕ, zero, suc, ◌-◌, ◌%◌, ◌<◌, ◌≤◌}
use Prim.Native.Nat as N
use native.Mathlib.Nat.{mod-lt}
use native.Mathlib.Omega.{arith}
use lib.ListN.{length}
use Rattle.base_lists.specs.Sums.{entry}
use Rattle.math_ring.specs.Ring.{CRing}
use Rattle.math_ring.proofs.Laws as r₀
use Rattle.math_ring.proofs.Solve.{var, one, zer, minus, ◌:+◌, ◌:*◌, solve}
use Rattle.math_fp.specs.Fp.{Prime}
use Rattle.math_valued.specs.Degree.{Lt}
use Rattle.math_valued.proofs.Degree.{lead_eq, lt_eq, lt_add}
use Rattle.math_rows.specs.Reading.{Reading}
use Rattle.math_rows.specs.Made.{reading}
use Rattle.math_rows.specs.Row.{tab, fall_at, tpow, psum, coefs, row, Floor}
use Rattle.math_rows.specs.Sum.{sum_to}
use Rattle.math_rows.proofs.Rows.{const_zero, const_neg, cast_sub, psum_ext, psum_plus, row_tab, row_upto}
use Rattle.math_rows.proofs.Floors.{floor_add, floor_sub}
use Rattle.math_rows.proofs.Turn.{lt_scale}
use Rattle.field_open.specs.Refusal.{Accepted}
use Rattle.field_roots.specs.First.{Begins}
use Rattle.field_roots.specs.SeriesOf.{SeriesOf}
use Rattle.field_roots.specs.Prefix.{enough, part_at, plus_part, minus_part}
use Rattle.field_roots.proofs.Begin.{begins_floor}
use Rattle.field_roots.specs.Pair.{deg_r, deg_w}
use Rattle.field_roots.proofs.Root.{root_r_lem, root_w_lem}
use Rattle.field_roots.proofs.Only.{small_degrees, series_of_begins}

module _ {p : ℕ} (ρ : Reading p) where
  open ρ use {𝓥, cast}
  open 𝓥 use {K, L, const}
  open K.ops use {add as ◌+ᵏ◌, mul as ◌*ᵏ◌, neg as -ᵏ◌}
  open L.ops use {add as ◌+◌, mul as ◌*◌, neg as -◌, 𝟎}

  infixl 60 ◌+◌ ◌+ᵏ◌
  infixl 70 ◌*◌ ◌*ᵏ◌
  infix 80 -◌ -ᵏ◌
  -- a row is linear in its numbers, and asks only for their remainders
  row_plus : (n a : ℕ) (x y : ℕ → ℕ) → row ρ (tab n (λ j. N.◌+◌ (x j) (N.◌*◌ a (y j)))) ≡ row ρ (tab n x) + const (cast a) * row ρ (tab n y)
  row_plus n a x y =
      row_tab ρ n (λ j. N.◌+◌ (x j) (N.◌*◌ a (y j)))
      ∙ psum_ext ρ n _ _ (λ j l. ρ.cast_add (x j) (N.◌*◌ a (y j)) ∙ ap (λ z. cast (x j) +ᵏ z) (ρ.cast_mul a (y j)))
      ∙ psum_plus ρ n (cast a) (λ j. cast (x j)) (λ j. cast (y j))
      ∙ sym (ap₂ (λ u v. u + const (cast a) * v) (row_tab ρ n x) (row_tab ρ n y))

  row_mod : (n : ℕ) (x : ℕ → ℕ) → row ρ (tab n (λ j. x j % p)) ≡ row ρ (tab n x)
  row_mod n x = row_tab ρ n (λ j. x j % p) ∙ psum_ext ρ n _ _ (λ j l. ρ.cast_mod (x j)) ∙ sym (row_tab ρ n x)

  -- ---- b z, term by term
  module _ (b s : List ℕ) (d n : ℕ) (z : L.El) (room : N.◌+◌ d 16 < n) (low : d ≤ 9) (h : Begins ρ n (λ i. cast (entry s i)) d z) where
    part_to : ℕ → ℕ → ℕ
    part_to m j = sum_to (λ i. N.◌*◌ (entry b i) (fall_at s (N.◌+◌ d i) j)) m

    part_terms : (m : ℕ) → m ≤ 17 → Floor ρ (psum ρ m (coefs ρ b) * z) (tab 32 (part_to m))
    unfolding part_to psum sum_to
    part_terms zero l =
        lead_eq 𝓥 (𝓥.lead_zero 0 0)
        (solve L zer (zer :* var 0 :+ minus zer) tt (z ∷ []) ∙ ap (λ x. 𝟎 * z + - x) (sym (row_tab ρ 32 (λ j. 0) ∙ none 32))) refl
      where
        none : (k : ℕ) → psum ρ k (λ j. cast 0) ≡ 𝟎
        none zero = refl
        none (suc k) = ap₂ (λ x y. x + y * tpow ρ k) (none k) (ap const ρ.cast_zero ∙ const_zero ρ) ∙ solve L (zer :+ zer :* var 0) zer tt (tpow ρ k ∷ [])
    part_terms (suc m) l =
        let v : ℕ → ℕ = fall_at s (N.◌+◌ d m) in
        let a : L.El = const (cast (entry b m)) in
        lt_eq 𝓥 (lt_add 𝓥 (part_terms m (omega arith)) (lt_scale ρ (cast (entry b m)) (begins_floor ρ n m s (omega arith) (omega arith) h)))
        (solve L (var 0 :* var 1 :+ minus (var 2) :+ var 3 :* (var 4 :* var 1 :+ minus (var 5))) ((var 0 :+ var 3 :* var 4) :* var 1 :+ minus (var 2 :+ var 3 :* var 5)) tt
        (psum ρ m (coefs ρ b) ∷ z ∷ row ρ (tab 32 (part_to m)) ∷ a ∷ tpow ρ m ∷ row ρ (tab 32 v) ∷ [])
        ∙ ap (λ x. (psum ρ m (coefs ρ b) + a * tpow ρ m) * z + - x) (sym (row_plus 32 (entry b m) (part_to m) v)))

    pub part_floor : ((i : ℕ) → 17 ≤ i → entry b i ≡ 0) → Floor ρ (row ρ b * z) (tab 32 (part_at b s d))
    unfolding part_to part_at
    part_floor e = lt_eq 𝓥 (part_terms 17 (omega arith)) (ap (λ x. x * z + - row ρ (tab 32 (part_to 17))) (sym (row_upto ρ b 17 e)))

  plus_row : (n : ℕ) (x y : ℕ → ℕ) → row ρ (tab n (λ j. N.◌+◌ (x j) (y j) % p)) ≡ row ρ (tab n x) + row ρ (tab n y)
  plus_row n x y =
      row_mod n (λ j. N.◌+◌ (x j) (y j))
      ∙ row_tab ρ n (λ j. N.◌+◌ (x j) (y j))
      ∙ psum_ext ρ n _ _ (λ j l. ρ.cast_add (x j) (y j) ∙ ap (λ z. cast (x j) +ᵏ z) (sym (r₀.one-mul K (cast (y j)))))
      ∙ psum_plus ρ n K.ops.𝟏 (λ j. cast (x j)) (λ j. cast (y j))
      ∙ ap₂ (λ u v. u + v) (sym (row_tab ρ n x)) (ap₂ ◌*◌ ρ.const_one (sym (row_tab ρ n y)) ∙ r₀.one-mul L (row ρ (tab n y)))

  minus_row : (n : ℕ) (x y : ℕ → ℕ) → row ρ (tab n (λ j. N.◌+◌ (x j) (p - y j % p) % p)) ≡ row ρ (tab n x) + - row ρ (tab n y)
  minus_row n x y =
      row_mod n (λ j. N.◌+◌ (x j) (p - y j % p))
      ∙ row_tab ρ n (λ j. N.◌+◌ (x j) (p - y j % p))
      ∙ psum_ext ρ n _ _ (λ j l. ρ.cast_add (x j) (p - y j % p) ∙ ap (λ z. cast (x j) +ᵏ z) (gone (y j)))
      ∙ psum_plus ρ n (-ᵏ K.ops.𝟏) (λ j. cast (x j)) (λ j. cast (y j))
      ∙ ap₂ (λ u v. u + v) (sym (row_tab ρ n x))
      (ap₂ ◌*◌ (const_neg ρ K.ops.𝟏 ∙ ap (λ z. - z) ρ.const_one) (sym (row_tab ρ n y)) ∙ solve L (minus one :* var 0) (minus (var 0)) tt (row ρ (tab n y) ∷ []))
    where
      gone : (a : ℕ) → cast (p - a % p) ≡ -ᵏ K.ops.𝟏 *ᵏ cast a
      gone a =
          let l : a % p < p = mod-lt a ρ.pos in
          cast_sub ρ (a % p) (omega arith) ∙ ap (λ z. -ᵏ z) (ρ.cast_mod a) ∙ solve K (minus (var 0)) (minus one :* var 0) tt (cast a ∷ [])

module _ {p : ℕ} {G H : List ℕ} (A : Accepted p G H) (pr : Prime p) where
  open (reading p pr).𝓥.L.ops use {add as ◌+◌, mul as ◌*◌, neg as -◌}

  infixl 60 ◌+◌
  infixl 70 ◌*◌
  infix 80 -◌
  abbrev dr : ℕ
  dr = deg_r A.deg_g A.deg_h

  abbrev dw : ℕ
  dw = deg_w A.deg_g A.deg_h

  -- r and w: any lists of the first coefficients, `enough` of them or more. b and c: any lists that are 0 from place 17 on.
  pub prefix_is_enough : (r w : List ℕ) → SeriesOf p G H r w → enough ≤ length r
      → (b c : List ℕ) → ((i : ℕ) → 17 ≤ i → entry b i ≡ 0) → ((i : ℕ) → 17 ≤ i → entry c i ≡ 0)
      → Floor (reading p pr) (row (reading p pr) b * root_r_lem A pr + row (reading p pr) c * root_w_lem A pr) (plus_part p b c r w dr dw)
      × Floor (reading p pr) (row (reading p pr) b * root_r_lem A pr + - (row (reading p pr) c * root_w_lem A pr)) (minus_part p b c r w dr dw)
  unfolding plus_part minus_part
  prefix_is_enough r w s l b c hb hc =
      let ρ : Reading p = reading p pr in
      let (br, bw) = series_of_begins A pr s in
      let (lr, lw) = small_degrees A in
      let x : Floor ρ (row ρ b * root_r_lem A pr) (tab 32 (part_at b r dr)) = part_floor ρ b r dr (length r) (root_r_lem A pr) (omega arith) lr br hb in
      let y : Floor ρ (row ρ c * root_w_lem A pr) (tab 32 (part_at c w dw)) = part_floor ρ c w dw (length r) (root_w_lem A pr) (omega arith) lw bw hc in (
        floor_add ρ (tab 32 (part_at b r dr)) (tab 32 (part_at c w dw)) _ x y (plus_row ρ 32 (part_at b r dr) (part_at c w dw)),
        floor_sub ρ (tab 32 (part_at b r dr)) (tab 32 (part_at c w dw)) _ x y (minus_row ρ 32 (part_at b r dr) (part_at c w dw)),
      )
