-- Polynomial parts. `Floor z l`: the row l is the polynomial part of the series z. `Reads s d z`: the array s holds the first
-- coefficients of z, a series of degree d, highest first; said by the polynomial parts of z, t z, t² z, .. as far as s reaches.
use mathlib.Core.Path.{◌≡◌, refl, sym, ap, ap₂, ◌∙◌, subst}
use mathlib.Core.Logic.{◌≢◌}
use mathlib.Core.List.{List, [], ◌∷◌}
use Prim.Native.Nat.{ℕ, zero, suc, ◌≤◌, ◌<◌}
use Prim.Native.Nat as N
use native.Mathlib.Nat.{zero-add, suc-add}
use native.Mathlib.Omega.{arith}
use native.Mathlib.Decide.{dec_le}
use lib.ListN.{get_or}
use Rattle.math_ring.proofs.Solve.{var, zer, minus, ◌:+◌, ◌:*◌, solve}
use Rattle.math_valued.specs.Degree.{Has, Lt}
use Rattle.math_valued.proofs.Degree.{lead_eq, lt_eq, lt_add, lt_neg, lt_up, lt_cancel}
use Rattle.math_rows.specs.Reading.{Reading}
pub use Rattle.base_lists.proofs.Trims.{sized}
use Rattle.math_rows.specs.Row.{tab, Row, Size, fall_at, tpow, psum, row, Floor, Reads}
use Rattle.math_rows.proofs.Rows.{tpow_add, tpow_lead, psum_ext, psum_cut, psum_lt, size_lt, size_lead, size_top, size_le, row_cut, row_tab}

pub fall_in : (s : List ℕ) (d j : ℕ) → j ≤ d → fall_at s d j ≡ get_or s (N.◌-◌ d j) 0
unfolding fall_at
fall_in s d zero l = ap (λ n. get_or s n 0) (let e : d ≡ N.◌-◌ d 0 = omega arith in e)
fall_in s zero (suc j) l = absurd (omega arith)
fall_in s (suc d) (suc j) l = fall_in s d j (omega arith) ∙ ap (λ n. get_or s n 0) (let e : N.◌-◌ d j ≡ N.◌-◌ (suc d) (suc j) = omega arith in e)

pub fall_out : (s : List ℕ) (d j : ℕ) → d < j → fall_at s d j ≡ 0
unfolding fall_at
fall_out s d zero l = absurd (omega arith)
fall_out s zero (suc j) l = refl
fall_out s (suc d) (suc j) l = fall_out s d j (omega arith)

pub fall_small : (p : ℕ) (s : List ℕ) (d j : ℕ) → 0 < p → Row p s → fall_at s d j < p
unfolding fall_at
fall_small p s d zero pos h = h.each d
fall_small p s zero (suc j) pos h = pos
fall_small p s (suc d) (suc j) pos h = fall_small p s d j pos h

module _ {p : ℕ} (ρ : Reading p) where
  open ρ use {𝓥, cast}
  open 𝓥 use {K, L, Lead, const, t, IsPoly}
  open K.ops use {add as ◌+ᵏ◌, mul as ◌*ᵏ◌, neg as -ᵏ◌, 𝟎 as 0ᵏ, 𝟏 as 1ᵏ}
  open L.ops use {add as ◌+◌, mul as ◌*◌, neg as -◌, 𝟎, 𝟏}

  infixl 60 ◌+◌ ◌+ᵏ◌
  infixl 70 ◌*◌ ◌*ᵏ◌
  infix 80 -◌ -ᵏ◌
  -- ---- degrees of z from its polynomial part
  back : (z : L.El) (l : List ℕ) → row ρ l + (z + - row ρ l) ≡ z
  back z l = solve L (var 1 :+ (var 0 :+ minus (var 1))) (var 0) tt (z ∷ row ρ l ∷ [])

  pub floor_lt : {z : L.El} {l : List ℕ} {n : ℕ} → Floor ρ z l → Size l n → Lt 𝓥 z n
  floor_lt {z} {l} {n} h s = lt_eq 𝓥 (lt_add 𝓥 (size_lt ρ s) (lt_up 𝓥 n h (omega arith))) (back z l)

  pub floor_lead : {z : L.El} {l : List ℕ} {d : ℕ} → Floor ρ z l → Size l (suc d) → Lead z d 0 (cast (get_or l d 0))
  floor_lead {z} {l} {d} h s = lead_eq 𝓥 (𝓥.lead_add (size_lead ρ s) (lt_up 𝓥 d h (omega arith))) (back z l) (K.laws.add-zero (cast (get_or l d 0)))

  -- the same at a trimmed length that is not 0
  pub floor_top : {z : L.El} {l : List ℕ} (n : ℕ) → Floor ρ z l → Size l n → 0 < n → Lead z (N.◌-◌ n 1) 0 (cast (get_or l (N.◌-◌ n 1) 0))
  floor_top zero h s u = absurd (omega arith)
  floor_top {z} {l} (suc d) h s u = let e : d ≡ N.◌-◌ (suc d) 1 = omega arith in subst (λ m. Lead z m 0 (cast (get_or l m 0))) e (floor_lead h s)

  pub top_not : {l : List ℕ} (n : ℕ) → Row p l → Size l n → 0 < n → cast (get_or l (N.◌-◌ n 1) 0) ≢ 0ᵏ
  top_not zero h s u = absurd (omega arith)
  top_not {l} (suc d) h s u = let e : d ≡ N.◌-◌ (suc d) 1 = omega arith in subst (λ m. cast (get_or l m 0) ≢ 0ᵏ) e (size_top ρ h s)

  pub floor_has : {z : L.El} {l : List ℕ} {d : ℕ} → Row p l → Floor ρ z l → Size l (suc d) → Has 𝓥 z d
  floor_has {z} {l} {d} g h s = (cast (get_or l d 0), size_top ρ g s, floor_lead h s)

  pub floor_le : {z : L.El} {l : List ℕ} {n : ℕ} (b : ℕ) → Row p l → Floor ρ z l → Size l n → Lt 𝓥 z b → n ≤ b
  floor_le {z} {l} {n} b g h s w =
      size_le ρ b g s (lt_eq 𝓥 (lt_add 𝓥 w (lt_neg 𝓥 (lt_up 𝓥 b h (omega arith)))) (solve L (var 0 :+ minus (var 0 :+ minus (var 1))) (var 1) tt (z ∷ row ρ l ∷ [])))

  -- ---- sums of polynomial parts
  pub floor_add : {x y : L.El} (u v l : List ℕ) → Floor ρ x u → Floor ρ y v → row ρ l ≡ row ρ u + row ρ v → Floor ρ (x + y) l
  floor_add {x} {y} u v l h g e = lt_eq 𝓥 (lt_add 𝓥 h g) (solve L (var 0 :+ minus (var 2) :+ (var 1 :+ minus (var 3))) (var 0 :+ var 1 :+ minus (var 2 :+ var 3)) tt (x ∷ y ∷ row ρ u ∷ row ρ v ∷ []) ∙ ap (λ a. x + y + - a) (sym e))

  pub floor_sub : {x y : L.El} (u v l : List ℕ) → Floor ρ x u → Floor ρ y v → row ρ l ≡ row ρ u + - row ρ v → Floor ρ (x + - y) l
  floor_sub {x} {y} u v l h g e = lt_eq 𝓥 (lt_add 𝓥 h (lt_neg 𝓥 g)) (solve L (var 0 :+ minus (var 2) :+ minus (var 1 :+ minus (var 3))) (var 0 :+ minus (var 1) :+ minus (var 2 :+ minus (var 3))) tt (x ∷ y ∷ row ρ u ∷ row ρ v ∷ []) ∙ ap (λ a. x + - y + - a) (sym e))

  -- the row of zeros
  pub zero_row : (l : List ℕ) → Size l 0 → row ρ l ≡ 𝟎
  unfolding psum
  zero_row l s = row_cut ρ l 0 s

  -- deg z ≤ d, as a coefficient at d
  pub at_most : {z : L.El} (d : ℕ) → Lt 𝓥 z (suc d) → (c : K.El) × Lead z d 0 c
  at_most d h = let (c, g) = 𝓥.lead_down h in (c, 𝓥.lead_move d 0 g (omega arith))

  -- ---- one polynomial part is enough: if s read downwards from its end is the polynomial part of t^(31 − d) z, then s reads z
  split : (j n : ℕ) (g : ℕ → K.El) → psum ρ (N.◌+◌ n j) g ≡ tpow ρ j * psum ρ n (λ i. g (N.◌+◌ i j)) + psum ρ j g
  unfolding psum
  split j zero g = ap (λ m. psum ρ m g) (zero-add j) ∙ solve L (var 1) (var 0 :* zer :+ var 1) tt (tpow ρ j ∷ psum ρ j g ∷ [])
  split j (suc n) g =
      ap (λ m. psum ρ m g) (suc-add n j)
      ∙ ap₂ (λ x y. x + const (g (N.◌+◌ n j)) * y) (split j n g) (tpow_add ρ n j)
      ∙ solve L (var 0 :* var 1 :+ var 2 :+ var 3 :* (var 4 :* var 0)) (var 0 :* (var 1 :+ var 3 :* var 4) :+ var 2) tt
      (tpow ρ j ∷ psum ρ n (λ i. g (N.◌+◌ i j)) ∷ psum ρ j g ∷ const (g (N.◌+◌ n j)) ∷ tpow ρ n ∷ [])

  fall_down : (s : List ℕ) (d i j : ℕ) → fall_at s (N.◌+◌ d j) (N.◌+◌ i j) ≡ fall_at s d i
  fall_down s d i j = go (dec_le i d)
    where
      go : Dec (i ≤ d) → fall_at s (N.◌+◌ d j) (N.◌+◌ i j) ≡ fall_at s d i
      go (yes l) = fall_in s (N.◌+◌ d j) (N.◌+◌ i j) (omega arith) ∙ ap (λ m. get_or s m 0) (let e : N.◌-◌ (N.◌+◌ d j) (N.◌+◌ i j) ≡ N.◌-◌ d i = omega arith in e) ∙ sym (fall_in s d i l)
      go (no l) = fall_out s (N.◌+◌ d j) (N.◌+◌ i j) (omega arith) ∙ sym (fall_out s d i (omega arith))

  -- the row read from d + j is t^j times the one read from d, and j lower terms
  fall_split : (s : List ℕ) (d j : ℕ) → N.◌+◌ d j < 32 → row ρ (tab 32 (fall_at s (N.◌+◌ d j))) ≡ tpow ρ j * row ρ (tab 32 (fall_at s d)) + psum ρ j (λ i. cast (fall_at s (N.◌+◌ d j) i))
  fall_split s d j l =
      let n : ℕ = N.◌-◌ 32 j in
      let e : 32 ≡ N.◌+◌ n j = omega arith in
      let o : 32 ≡ N.◌+◌ j n = omega arith in
      let g : ℕ → K.El = (λ i. cast (fall_at s (N.◌+◌ d j) i)) in
      row_tab ρ 32 (fall_at s (N.◌+◌ d j))
      ∙ ap (λ m. psum ρ m g) e
      ∙ split j n g
      ∙ ap (λ x. tpow ρ j * x + psum ρ j g)
      (psum_ext ρ n (λ i. g (N.◌+◌ i j)) (λ i. cast (fall_at s d i)) (λ i u. ap cast (fall_down s d i j))
      ∙ sym (ap (λ m. psum ρ m (λ i. cast (fall_at s d i))) o ∙ psum_cut ρ n j (λ i. cast (fall_at s d i)) (λ i u. ap cast (fall_out s d i (omega arith)) ∙ ρ.cast_zero))
      ∙ sym (row_tab ρ 32 (fall_at s d)))

  pub reads_from : (s : List ℕ) (d : ℕ) (z : L.El) → d < 32 → Floor ρ (tpow ρ (N.◌-◌ 31 d) * z) (tab 32 (fall_at s 31)) → Reads ρ s d z
  reads_from s d z l h k u =
      let j : ℕ = N.◌-◌ 31 (N.◌+◌ d k) in
      let e : 31 ≡ N.◌+◌ (N.◌+◌ d k) j = omega arith in
      let q : N.◌-◌ 31 d ≡ N.◌+◌ j k = omega arith in
      let low : L.El = psum ρ j (λ i. cast (fall_at s (N.◌+◌ (N.◌+◌ d k) j) i)) in
      let row_is : row ρ (tab 32 (fall_at s 31)) ≡ tpow ρ j * row ρ (tab 32 (fall_at s (N.◌+◌ d k))) + low = ap (λ m. row ρ (tab 32 (fall_at s m))) e ∙ fall_split s (N.◌+◌ d k) j (omega arith) in
      lt_cancel 𝓥 0 (1ᵏ, 𝓥.one≢zero, tpow_lead ρ j)
      (lt_up 𝓥 (N.◌+◌ j 0) (lt_eq 𝓥 (lt_add 𝓥 (lt_up 𝓥 j h (omega arith)) (psum_lt ρ j (λ i. cast (fall_at s (N.◌+◌ (N.◌+◌ d k) j) i))))
      (ap₂ (λ a b. a * z + - b + low) (ap (tpow ρ) q ∙ tpow_add ρ j k) row_is
      ∙ solve L (var 0 :* var 1 :* var 2 :+ minus (var 0 :* var 3 :+ var 4) :+ var 4) (var 0 :* (var 1 :* var 2 :+ minus (var 3))) tt (tpow ρ j ∷ tpow ρ k ∷ z ∷ row ρ (tab 32 (fall_at s (N.◌+◌ d k))) ∷ low ∷ []))) (omega arith))
