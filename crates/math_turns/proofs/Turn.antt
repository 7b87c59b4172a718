-- What a turn s a − c t^k b does: to the sizes X, Y of an element, to the span, to the determinant.
--   turned_X, turned_Y, turned_side   sizes turn as the coordinates do
--   b_lt, c_lt                        bounds of X and Y bound the coordinates
--   moved_start, _scale, _swap, _turn, _then, _back    the change of basis that a loop of turns makes
--   moved_has                         it keeps the degree of the determinant
--   full                              where Y(m) is small, X(m) and Y(n) make up all of the determinant's degree
use mathlib.Core.Path.{◌≡◌, refl, sym, ap, ap₂, ◌∙◌}
use mathlib.Core.Logic.{◌≢◌}
use mathlib.Core.Bool.{Bool, true, false}
use mathlib.Core.List.{[], ◌∷◌}
use Prim.Native.Nat.{ℕ, zero, suc, ◌≤◌, ◌<◌}
use Prim.Native.Nat as N
use native.Mathlib.Omega.{arith}
use native.Mathlib.Decide.{dec_le}
use Rattle.math_ring.specs.Ring.{Hom}
use Rattle.math_ring.proofs.Solve.{var, one, minus, ◌:+◌, ◌:*◌, hyp, solve, solve_by}
use Rattle.math_triple.proofs.Pairs.{changed_start, changed_swap, changed_mix, changed_scale, changed_then, changed_back, changed_det}
use Rattle.math_valued.specs.Degree.{Has, Lt}
use Rattle.math_valued.specs.Polynomial.{polys, Poly, IsUnit}
use Rattle.math_valued.proofs.Polynomial.{const_unit, unit_const}
use Rattle.math_valued.proofs.Compare.{has_scale, lt_mul_sharp}
use Rattle.math_valued.proofs.Degree.{lt_eq, has_eq, lt_add, lt_neg, lt_up, above, lt_cancel}
use Rattle.math_rows.specs.Reading.{Reading}
use Rattle.math_rows.specs.Row.{tpow, comb}
use Rattle.math_rows.proofs.Rows.{tpow_poly}
use Rattle.math_rows.proofs.Turn.{lt_scale}
use Rattle.math_turns.specs.Points.{Pt, X, Y, side, D, Turned, Moved}

module _ {p : ℕ} (ρ : Reading p) where
  open ρ use {𝓥}
  open 𝓥 use {K, L, Lead, const, t, IsPoly}
  open K.ops use {add as ◌+ᵏ◌, mul as ◌*ᵏ◌, neg as -ᵏ◌, 𝟎 as 0ᵏ, 𝟏 as 1ᵏ}
  open L.ops use {add as ◌+◌, mul as ◌*◌, neg as -◌, 𝟎, 𝟏}

  infixl 60 ◌+◌ ◌+ᵏ◌
  infixl 70 ◌*◌ ◌*ᵏ◌
  infix 80 -◌ -ᵏ◌
  -- polynomials among the series
  abbrev poly_hom : Hom (polys 𝓥).ops L.ops (λ a. a.0)
  poly_hom = record { add = λ x y. refl; mul = λ x y. refl; neg = λ x. refl; 𝟎 = refl; 𝟏 = refl }

  abbrev constant : K.El → Poly 𝓥
  constant s = (const s, 𝓥.const_poly s)

  constant_unit : (s : K.El) → s ≢ 0ᵏ → IsUnit 𝓥 (constant s)
  constant_unit s hs = const_unit 𝓥 (constant s) (s, hs, 𝓥.const_lead s)

  pub moved_start : (m n : Pt L.El) → Moved ρ m n m n
  moved_start = changed_start (polys 𝓥) L (λ a. a.0) poly_hom

  -- each times a constant that is not 0
  pub moved_scale : (s z : K.El) → s ≢ 0ᵏ → z ≢ 0ᵏ → (m n : Pt L.El) → Moved ρ m n (record { b = const s * m.b; c = const s * m.c }) (record { b = const z * n.b; c = const z * n.c })
  moved_scale s z hs hz m n = changed_scale (polys 𝓥) L (λ a. a.0) poly_hom (constant s) (constant z) (constant_unit s hs) (constant_unit z hz) m n

  pub moved_swap : {m n m' n' : Pt L.El} → Moved ρ m n m' n' → Moved ρ m n n' m'
  moved_swap h = changed_swap (polys 𝓥) L (λ a. a.0) poly_hom h

  -- one change of basis after the other
  pub moved_then : {m n m' n' m'' n'' : Pt L.El} → Moved ρ m n m' n' → Moved ρ m' n' m'' n'' → Moved ρ m n m'' n''
  moved_then h g = changed_then (polys 𝓥) L (λ a. a.0) poly_hom h g

  -- and back: the two pairs have one span over the polynomials
  pub moved_back : {m n m' n' : Pt L.El} → Moved ρ m n m' n' → Moved ρ m' n' m n
  moved_back h = changed_back (polys 𝓥) L (λ a. a.0) poly_hom h

  -- a turn of the first
  pub moved_turn : {m n m' n' m'' : Pt L.El} {s c : K.El} {k : ℕ} → s ≢ 0ᵏ → Moved ρ m n m' n' → Turned ρ s c k m' n' m'' → Moved ρ m n m'' n'
  moved_turn {m' = m'} {n'} {m''} {s} {c} {k} hs h T =
      let e : Poly 𝓥 = (polys 𝓥).ops.neg ((polys 𝓥).ops.mul (constant c) (tpow ρ k, tpow_poly ρ k)) in
      moved_then h (changed_mix (polys 𝓥) L (λ a. a.0) poly_hom (constant s) e (constant_unit s hs) {m = m'} {n = n'} {m' = m''}
      (T.at_b ∙ mix m'.b n'.b) (T.at_c ∙ mix m'.c n'.c))
    where
      mix : (x y : L.El) → comb ρ s c k x y ≡ const s * x + - (const c * tpow ρ k) * y
      mix x y = solve L (var 0 :* var 3 :+ minus (var 1 :* (var 2 :* var 4))) (var 0 :* var 3 :+ minus (var 1 :* var 2) :* var 4) tt (const s ∷ const c ∷ tpow ρ k ∷ x ∷ y ∷ [])

  module _ (ρᵣ ω : L.El) where
    pub turned_X : {s c : K.El} {k : ℕ} {a b a' : Pt L.El} → Turned ρ s c k a b a' → X ρ ρᵣ ω a' ≡ comb ρ s c k (X ρ ρᵣ ω a) (X ρ ρᵣ ω b)
    turned_X {s} {c} {k} {a} {b} T =
        ap₂ (λ x y. x * ρᵣ + y * ω) T.at_b T.at_c
        ∙ solve L ((var 0 :* var 3 :+ minus (var 1 :* (var 2 :* var 4))) :* var 7 :+ (var 0 :* var 5 :+ minus (var 1 :* (var 2 :* var 6))) :* var 8)
        (var 0 :* (var 3 :* var 7 :+ var 5 :* var 8) :+ minus (var 1 :* (var 2 :* (var 4 :* var 7 :+ var 6 :* var 8)))) tt
        (const s ∷ const c ∷ tpow ρ k ∷ a.b ∷ b.b ∷ a.c ∷ b.c ∷ ρᵣ ∷ ω ∷ [])

    pub turned_Y : {s c : K.El} {k : ℕ} {a b a' : Pt L.El} → Turned ρ s c k a b a' → Y ρ ρᵣ ω a' ≡ comb ρ s c k (Y ρ ρᵣ ω a) (Y ρ ρᵣ ω b)
    turned_Y {s} {c} {k} {a} {b} T =
        ap₂ (λ x y. x * ρᵣ + - (y * ω)) T.at_b T.at_c
        ∙ solve L ((var 0 :* var 3 :+ minus (var 1 :* (var 2 :* var 4))) :* var 7 :+ minus ((var 0 :* var 5 :+ minus (var 1 :* (var 2 :* var 6))) :* var 8))
        (var 0 :* (var 3 :* var 7 :+ minus (var 5 :* var 8)) :+ minus (var 1 :* (var 2 :* (var 4 :* var 7 :+ minus (var 6 :* var 8))))) tt
        (const s ∷ const c ∷ tpow ρ k ∷ a.b ∷ b.b ∷ a.c ∷ b.c ∷ ρᵣ ∷ ω ∷ [])

    pub turned_side : (e : Bool) {s c : K.El} {k : ℕ} {a b a' : Pt L.El} → Turned ρ s c k a b a' → side ρ ρᵣ ω e a' ≡ comb ρ s c k (side ρ ρᵣ ω e a) (side ρ ρᵣ ω e b)
    turned_side true T = turned_Y T
    turned_side false T = turned_X T

    -- b r and c w are half the sum and half the difference
    halves : {x y z : L.El} {n : ℕ} → 1ᵏ +ᵏ 1ᵏ ≢ 0ᵏ → (𝟏 + 𝟏) * z ≡ x + y → Lt 𝓥 x n → Lt 𝓥 y n → Lt 𝓥 z n
    halves {x} {y} {z} two e hx hy =
        let (i, q) = 𝓥.field.inv (1ᵏ +ᵏ 1ᵏ) two in
        let q' : (𝟏 + 𝟏) * const i ≡ 𝟏 = ap (λ u. u * const i) (sym (ρ.const_add 1ᵏ 1ᵏ ∙ ap₂ ◌+◌ ρ.const_one ρ.const_one)) ∙ sym (ρ.const_mul (1ᵏ +ᵏ 1ᵏ) i) ∙ ap const q ∙ ρ.const_one in
        lt_eq 𝓥 (lt_scale ρ i (lt_add 𝓥 hx hy))
        (ap (λ u. const i * u) (sym e) ∙ solve_by L (var 0 :* ((one :+ one) :* var 1)) (var 1) (hyp (var 1) ((one :+ one) :* var 0) one ∷ []) tt (const i ∷ z ∷ []) (q', tt))

    pub b_lt : {a : Pt L.El} {n : ℕ} (dr j : ℕ) → 1ᵏ +ᵏ 1ᵏ ≢ 0ᵏ → Has 𝓥 ρᵣ dr → Lt 𝓥 (X ρ ρᵣ ω a) n → Lt 𝓥 (Y ρ ρᵣ ω a) n → n ≤ N.◌+◌ dr j → Lt 𝓥 a.b j
    b_lt {a} {n} dr j two h hx hy l =
        lt_cancel 𝓥 j h (lt_up 𝓥 (N.◌+◌ dr j) (lt_eq 𝓥 (halves two (solve L ((one :+ one) :* (var 0 :* var 1)) (var 0 :* var 1 :+ var 2 :* var 3 :+ (var 0 :* var 1 :+ minus (var 2 :* var 3))) tt (a.b ∷ ρᵣ ∷ a.c ∷ ω ∷ [])) hx hy)
        (L.laws.mul_comm a.b ρᵣ)) l)

    pub c_lt : {a : Pt L.El} {n : ℕ} (dw j : ℕ) → 1ᵏ +ᵏ 1ᵏ ≢ 0ᵏ → Has 𝓥 ω dw → Lt 𝓥 (X ρ ρᵣ ω a) n → Lt 𝓥 (Y ρ ρᵣ ω a) n → n ≤ N.◌+◌ dw j → Lt 𝓥 a.c j
    c_lt {a} {n} dw j two h hx hy l =
        lt_cancel 𝓥 j h (lt_up 𝓥 (N.◌+◌ dw j) (lt_eq 𝓥 (halves two (solve L ((one :+ one) :* (var 2 :* var 3)) (var 0 :* var 1 :+ var 2 :* var 3 :+ minus (var 0 :* var 1 :+ minus (var 2 :* var 3))) tt (a.b ∷ ρᵣ ∷ a.c ∷ ω ∷ [])) hx (lt_neg 𝓥 hy))
        (L.laws.mul_comm a.c ω)) l)

    -- D is the determinant of the coordinates, times −2 r w: a change multiplies it by a constant
    D_is : (m n : Pt L.El) → D ρ ρᵣ ω m n ≡ - ((𝟏 + 𝟏) * (ρᵣ * ω)) * (m.b * n.c + - (m.c * n.b))
    D_is m n = solve L ((var 0 :* var 4 :+ var 1 :* var 5) :* (var 2 :* var 4 :+ minus (var 3 :* var 5)) :+ minus ((var 2 :* var 4 :+ var 3 :* var 5) :* (var 0 :* var 4 :+ minus (var 1 :* var 5))))
        (minus ((one :+ one) :* (var 4 :* var 5)) :* (var 0 :* var 3 :+ minus (var 1 :* var 2))) tt (m.b ∷ m.c ∷ n.b ∷ n.c ∷ ρᵣ ∷ ω ∷ [])

    pub moved_has : {m n m' n' : Pt L.El} {d : ℕ} → Moved ρ m n m' n' → Has 𝓥 (D ρ ρᵣ ω m n) d → Has 𝓥 (D ρ ρᵣ ω m' n') d
    moved_has {m} {n} {m'} {n'} h g =
        let κ : L.El = h.α.0 * h.δ.0 + - (h.β.0 * h.γ.0) in
        has_eq 𝓥 (has_scale 𝓥 (unit_const 𝓥 _ h.unit) g)
        (ap (λ z. κ * z) (D_is m n)
        ∙ solve L (var 0 :* (var 1 :* var 2)) (var 1 :* (var 0 :* var 2)) tt (κ ∷ (- ((𝟏 + 𝟏) * (ρᵣ * ω))) ∷ (m.b * n.c + - (m.c * n.b)) ∷ [])
        ∙ sym (D_is m' n' ∙ ap (λ z. - ((𝟏 + 𝟏) * (ρᵣ * ω)) * z) (changed_det (polys 𝓥) L (λ a. a.0) poly_hom h)))

    -- ---- the end of clear_y: degrees from the determinant
    module _ {m n : Pt L.El} (s u : ℕ) (det : Has 𝓥 (D ρ ρᵣ ω m n) (N.◌+◌ s u)) (xn : Lt 𝓥 (X ρ ρᵣ ω n) (suc s)) (ym : Lt 𝓥 (Y ρ ρᵣ ω m) u) where
      small : Lt 𝓥 (X ρ ρᵣ ω n * Y ρ ρᵣ ω m) (N.◌+◌ s u)
      small = lt_mul_sharp 𝓥 xn ym

      no_other : Lt 𝓥 (X ρ ρᵣ ω m * Y ρ ρᵣ ω n) (N.◌+◌ s u) → ⊥
      no_other h = let z : N.◌+◌ s u < N.◌+◌ s u = above 𝓥 det (lt_add 𝓥 h (lt_neg 𝓥 small)) in absurd (omega arith)

      -- the two lengths add up to all there is
      pub full : (a b : ℕ) → Lt 𝓥 (X ρ ρᵣ ω m) a → Lt 𝓥 (Y ρ ρᵣ ω n) b → b ≤ suc s → N.◌+◌ (N.◌+◌ s u) 2 ≤ N.◌+◌ a b
      full a b ha hb l = go (dec_le (N.◌+◌ (N.◌+◌ s u) 2) (N.◌+◌ a b))
        where
          low : (a : ℕ) → Lt 𝓥 (X ρ ρᵣ ω m) a → N.◌+◌ a b < N.◌+◌ (N.◌+◌ s u) 2 → Lt 𝓥 (X ρ ρᵣ ω m * Y ρ ρᵣ ω n) (N.◌+◌ s u)
          low zero h z = lt_eq 𝓥 (lt_up 𝓥 (N.◌+◌ s u) (lt_mul_sharp 𝓥 (lt_up 𝓥 (suc s) hb l) h) (omega arith)) (L.laws.mul_comm (Y ρ ρᵣ ω n) (X ρ ρᵣ ω m))
          low (suc a) h z = lt_up 𝓥 (N.◌+◌ s u) (lt_mul_sharp 𝓥 h hb) (omega arith)

          go : Dec (N.◌+◌ (N.◌+◌ s u) 2 ≤ N.◌+◌ a b) → N.◌+◌ (N.◌+◌ s u) 2 ≤ N.◌+◌ a b
          go (yes z) = z
          go (no z) = absurd (no_other (low a ha (omega arith)))
