-- Two pairs with one span, both with deg Y(m) < u ≤ deg Y(n) and deg X(n) < deg X(m), differ by a constant at each element.
--   rises       a combination α m + β n with β not 0 and a small Y has a larger X than m
--   pairs_unique   m' = a m and n' = d n for constants a, d that are not 0
use mathlib.Core.Path.{◌≡◌, sym, ap, ◌∙◌}
use mathlib.Core.Logic.{◌⊎◌, inl, inr}
use mathlib.Core.List.{[], ◌∷◌}
use Prim.Native.Nat.{ℕ, ◌≤◌, ◌<◌}
use Prim.Native.Nat as N
use native.Mathlib.Omega.{arith}
use Rattle.math_ring.proofs.Laws as rg
use Rattle.math_ring.proofs.Solve.{var, zer, one, minus, ◌:+◌, ◌:*◌, hyp, solve, solve_by}
use Rattle.math_valued.specs.Degree.{Has, Lt}
use Rattle.math_valued.proofs.Degree.{has_mul, has_neg, has_lt, has_eq, has_not_zero, lt_eq, lt_add, lt_neg, lt_up, lt_has_mul, above, same}
use Rattle.math_valued.proofs.Compare.{lt_scale, has_scale}
use Rattle.math_valued.proofs.Polynomial.{view, const_path, unit_const}
use Rattle.math_rows.specs.Reading.{Reading}
use Rattle.math_turns.specs.Points as T
use Rattle.math_turns.specs.Points.{Pt, Moved}
use Rattle.demands_inner.specs.UpTo.{Scaled}

module _ {p : ℕ} (ρ : Reading p) where
  open ρ use {𝓥}
  open 𝓥 use {K, L, Lead, IsPoly, const}
  open L.ops use {add as ◌+◌, mul as ◌*◌, neg as -◌, 𝟎, 𝟏}

  infixl 60 ◌+◌
  infixl 70 ◌*◌
  infix 80 -◌
  -- the sizes of m are P₁, Q₁, those of n are P₂, Q₂
  rises : {x u y b : ℕ} (α β P₁ P₂ Q₁ Q₂ : L.El) → IsPoly α → Has 𝓥 P₁ x → Lt 𝓥 P₂ x → Lt 𝓥 Q₁ u → Has 𝓥 Q₂ y → u ≤ y → Has 𝓥 β b → Lt 𝓥 (α * Q₁ + β * Q₂) u
      → (a : ℕ) × (b < a) × Has 𝓥 (α * P₁ + β * P₂) (N.◌+◌ a x)
  rises {x} {u} {y} {b} α β P₁ P₂ Q₁ Q₂ hα h₁ l₂ m₁ k₂ le hβ small = go (view 𝓥 (α, hα))
    where
      go : (α ≡ 𝟎) ⊎ ((n : ℕ) × Has 𝓥 α n) → (a : ℕ) × (b < a) × Has 𝓥 (α * P₁ + β * P₂) (N.◌+◌ a x)
      go (inl e) = absurd (omega (arith, above 𝓥 (has_mul 𝓥 hβ k₂) (lt_eq 𝓥 small (ap (λ z. z * Q₁ + β * Q₂) e ∙ solve L (zer :* var 0 :+ var 1) (var 1) tt (Q₁ ∷ β * Q₂ ∷ [])))))
      go (inr (a, h)) =
          let q : Lt 𝓥 (Q₁ * α) (N.◌+◌ u a) = lt_has_mul 𝓥 m₁ h in
          let s : Lt 𝓥 (β * Q₂) (N.◌+◌ u a) = lt_eq 𝓥 (lt_add 𝓥 (lt_up 𝓥 (N.◌+◌ u a) small (omega arith)) (lt_neg 𝓥 q)) (solve L (var 0 :* var 1 :+ var 2 :+ minus (var 1 :* var 0)) (var 2) tt (α ∷ Q₁ ∷ β * Q₂ ∷ [])) in
          let l : N.◌+◌ b y < N.◌+◌ u a = above 𝓥 (has_mul 𝓥 hβ k₂) s in
          let w : Lt 𝓥 (β * P₂) (N.◌+◌ a x) = lt_eq 𝓥 (lt_up 𝓥 (N.◌+◌ a x) (lt_has_mul 𝓥 l₂ hβ) (omega arith)) (L.laws.mul_comm P₂ β) in
          (a, omega arith, has_lt 𝓥 (has_mul 𝓥 h h₁) w)

  module _ (ρᵣ ω : L.El) where
    abbrev pub X : Pt L.El → L.El
    X a = T.X ρ ρᵣ ω a

    abbrev pub Y : Pt L.El → L.El
    Y a = T.Y ρ ρᵣ ω a

    -- a combination by its coordinates
    mixed_X : (α β : L.El) (m n v : Pt L.El) → v.b ≡ α * m.b + β * n.b → v.c ≡ α * m.c + β * n.c → X v ≡ α * X m + β * X n
    mixed_X α β m n v e f = solve_by L (var 0 :* var 8 :+ var 1 :* var 9) (var 2 :* (var 4 :* var 8 :+ var 5 :* var 9) :+ var 3 :* (var 6 :* var 8 :+ var 7 :* var 9))
        (hyp (var 8) (var 0) (var 2 :* var 4 :+ var 3 :* var 6) ∷ hyp (var 9) (var 1) (var 2 :* var 5 :+ var 3 :* var 7) ∷ []) tt
        (v.b ∷ v.c ∷ α ∷ β ∷ m.b ∷ m.c ∷ n.b ∷ n.c ∷ ρᵣ ∷ ω ∷ []) (e, (f, tt))

    mixed_Y : (α β : L.El) (m n v : Pt L.El) → v.b ≡ α * m.b + β * n.b → v.c ≡ α * m.c + β * n.c → Y v ≡ α * Y m + β * Y n
    mixed_Y α β m n v e f = solve_by L (var 0 :* var 8 :+ minus (var 1 :* var 9)) (var 2 :* (var 4 :* var 8 :+ minus (var 5 :* var 9)) :+ var 3 :* (var 6 :* var 8 :+ minus (var 7 :* var 9)))
        (hyp (var 8) (var 0) (var 2 :* var 4 :+ var 3 :* var 6) ∷ hyp (minus (var 9)) (var 1) (var 2 :* var 5 :+ var 3 :* var 7) ∷ []) tt
        (v.b ∷ v.c ∷ α ∷ β ∷ m.b ∷ m.c ∷ n.b ∷ n.c ∷ ρᵣ ∷ ω ∷ []) (e, (f, tt))

    -- a multiple by its coordinates
    pub times_X : (a : L.El) (m v : Pt L.El) → v.b ≡ a * m.b → v.c ≡ a * m.c → X v ≡ a * X m
    times_X a m v e f = solve_by L (var 0 :* var 5 :+ var 1 :* var 6) (var 2 :* (var 3 :* var 5 :+ var 4 :* var 6)) (hyp (var 5) (var 0) (var 2 :* var 3) ∷ hyp (var 6) (var 1) (var 2 :* var 4) ∷ []) tt (v.b ∷ v.c ∷ a ∷ m.b ∷ m.c ∷ ρᵣ ∷ ω ∷ []) (e, (f, tt))

    pub times_Y : (a : L.El) (m v : Pt L.El) → v.b ≡ a * m.b → v.c ≡ a * m.c → Y v ≡ a * Y m
    times_Y a m v e f = solve_by L (var 0 :* var 5 :+ minus (var 1 :* var 6)) (var 2 :* (var 3 :* var 5 :+ minus (var 4 :* var 6))) (hyp (var 5) (var 0) (var 2 :* var 3) ∷ hyp (minus (var 6)) (var 1) (var 2 :* var 4) ∷ []) tt (v.b ∷ v.c ∷ a ∷ m.b ∷ m.c ∷ ρᵣ ∷ ω ∷ []) (e, (f, tt))

    module _ {m n m' n' : Pt L.El} {u x y x' y' : ℕ} (h : Moved ρ m n m' n')
        (xm : Has 𝓥 (X m) x) (xn : Lt 𝓥 (X n) x) (ym : Lt 𝓥 (Y m) u) (yn : Has 𝓥 (Y n) y) (le : u ≤ y)
        (xm' : Has 𝓥 (X m') x') (xn' : Lt 𝓥 (X n') x') (ym' : Lt 𝓥 (Y m') u) (yn' : Has 𝓥 (Y n') y') (le' : u ≤ y') where
      X_m : X m' ≡ h.α.0 * X m + h.β.0 * X n
      X_m = mixed_X h.α.0 h.β.0 m n m' h.m_b h.m_c

      X_n : X n' ≡ h.γ.0 * X m + h.δ.0 * X n
      X_n = mixed_X h.γ.0 h.δ.0 m n n' h.n_b h.n_c

      Y_m : Y m' ≡ h.α.0 * Y m + h.β.0 * Y n
      Y_m = mixed_Y h.α.0 h.β.0 m n m' h.m_b h.m_c

      Y_n : Y n' ≡ h.γ.0 * Y m + h.δ.0 * Y n
      Y_n = mixed_Y h.γ.0 h.δ.0 m n n' h.n_b h.n_c

      -- the determinant, a constant that is not 0
      abbrev κ : L.El
      κ = h.α.0 * h.δ.0 + - (h.β.0 * h.γ.0)

      κ_has : Has 𝓥 (h.α.0 * h.δ.0 + - (h.β.0 * h.γ.0)) 0
      κ_has = unit_const 𝓥 _ h.unit

      -- δ m' − β n' = κ m
      back : (z₁ z₂ w₁ w₂ : L.El) → w₁ ≡ h.α.0 * z₁ + h.β.0 * z₂ → w₂ ≡ h.γ.0 * z₁ + h.δ.0 * z₂ → h.δ.0 * w₁ + - h.β.0 * w₂ ≡ κ * z₁
      back z₁ z₂ w₁ w₂ e f = solve_by L (var 3 :* var 6 :+ minus (var 1) :* var 7) ((var 0 :* var 3 :+ minus (var 1 :* var 2)) :* var 4)
          (hyp (var 3) (var 6) (var 0 :* var 4 :+ var 1 :* var 5) ∷ hyp (minus (var 1)) (var 7) (var 2 :* var 4 :+ var 3 :* var 5) ∷ []) tt
          (h.α.0 ∷ h.β.0 ∷ h.γ.0 ∷ h.δ.0 ∷ z₁ ∷ z₂ ∷ w₁ ∷ w₂ ∷ []) (e, (f, tt))

      β_none : h.β.0 ≡ 𝟎
      β_none = go (view 𝓥 h.β)
        where
          go : (h.β.0 ≡ 𝟎) ⊎ ((b : ℕ) × Has 𝓥 h.β.0 b) → h.β.0 ≡ 𝟎
          go (inl e) = e
          go (inr (b, hb)) =
              let (a, l, s) = rises h.α.0 h.β.0 (X m) (X n) (Y m) (Y n) h.α.1 xm xn ym yn le hb (lt_eq 𝓥 ym' Y_m) in
              let (a', l', s') = rises h.δ.0 (- h.β.0) (X m') (X n') (Y m') (Y n') h.δ.1 xm' xn' ym' yn' le' (has_neg 𝓥 hb) (lt_eq 𝓥 (lt_scale 𝓥 κ_has ym) (sym (back (Y m) (Y n) (Y m') (Y n') Y_m Y_n))) in
              let e : N.◌+◌ a x ≡ x' = same 𝓥 (has_eq 𝓥 s (sym X_m)) xm' in
              let e' : N.◌+◌ a' x' ≡ x = same 𝓥 (has_eq 𝓥 s' (back (X m) (X n) (X m') (X n') X_m X_n)) (has_scale 𝓥 κ_has xm) in
              absurd (omega arith)

      αδ : h.α.0 * h.δ.0 ≡ κ
      αδ = solve_by L (var 0 :* var 3) (var 0 :* var 3 :+ minus (var 1 :* var 2)) (hyp (var 2) (var 1) zer ∷ []) tt (h.α.0 ∷ h.β.0 ∷ h.γ.0 ∷ h.δ.0 ∷ []) (β_none, tt)

      units : (Has 𝓥 h.α.0 0) × (Has 𝓥 h.δ.0 0)
      units = go (view 𝓥 h.α) (view 𝓥 h.δ)
        where
          go : (h.α.0 ≡ 𝟎) ⊎ ((a : ℕ) × Has 𝓥 h.α.0 a) → (h.δ.0 ≡ 𝟎) ⊎ ((d : ℕ) × Has 𝓥 h.δ.0 d) → (Has 𝓥 h.α.0 0) × (Has 𝓥 h.δ.0 0)
          go (inl e) s = absurd (has_not_zero 𝓥 (has_eq 𝓥 κ_has (sym αδ ∙ ap (λ z. z * h.δ.0) e ∙ rg.zero_mul' L h.δ.0)))
          go (inr s) (inl e) = absurd (has_not_zero 𝓥 (has_eq 𝓥 κ_has (sym αδ ∙ ap (λ z. h.α.0 * z) e ∙ rg.mul-zero L h.α.0)))
          go (inr (a, s)) (inr (d, t)) =
              let e : N.◌+◌ a d ≡ 0 = same 𝓥 (has_eq 𝓥 (has_mul 𝓥 s t) αδ) κ_has in
              let i : a ≡ 0 = omega arith in
              let j : d ≡ 0 = omega arith in
              (subst' i s, subst' j t)
            where
              subst' : {z : L.El} {k l : ℕ} → k ≡ l → Has 𝓥 z k → Has 𝓥 z l
              subst' {z} e s = (s.0, s.1, 𝓥.lead_move _ 0 s.2 (ap (λ n. N.◌+◌ n 0) e))

      γ_none : h.γ.0 ≡ 𝟎
      γ_none = go (view 𝓥 h.γ)
        where
          xx : x ≡ x'
          xx = same 𝓥 (has_scale 𝓥 units.0 xm) (has_eq 𝓥 xm' (X_m ∙ ap (λ z. h.α.0 * X m + z * X n) β_none ∙ solve L (var 0 :+ zer :* var 1) (var 0) tt (h.α.0 * X m ∷ X n ∷ [])))

          go : (h.γ.0 ≡ 𝟎) ⊎ ((c : ℕ) × Has 𝓥 h.γ.0 c) → h.γ.0 ≡ 𝟎
          go (inl e) = e
          go (inr (c, s)) =
              let t : Has 𝓥 (h.γ.0 * X m + h.δ.0 * X n) (N.◌+◌ c x) = has_lt 𝓥 (has_mul 𝓥 s xm) (lt_up 𝓥 (N.◌+◌ c x) (lt_scale 𝓥 units.1 xn) (omega arith)) in
              let l : N.◌+◌ c x < x' = above 𝓥 t (lt_eq 𝓥 xn' X_n) in
              let e : x ≡ x' = xx in
              absurd (omega arith)

      -- a polynomial of degree 0 is its leading coefficient
      constant : (z : L.El) → IsPoly z → (s : Has 𝓥 z 0) → z ≡ const s.0
      constant z hz s = ap (λ w. w.0) (const_path 𝓥 {a = (z, hz)} {b = (const s.0, 𝓥.const_poly s.0)} s.2 (𝓥.const_lead s.0))

      α_is : h.α.0 ≡ const units.0.0
      α_is = constant h.α.0 h.α.1 units.0

      δ_is : h.δ.0 ≡ const units.1.0
      δ_is = constant h.δ.0 h.δ.1 units.1

      left : (z w v : L.El) → v ≡ h.α.0 * z + h.β.0 * w → v ≡ const units.0.0 * z
      left z w v e = solve_by L (var 0) (var 5 :* var 1) (hyp one (var 0) (var 3 :* var 1 :+ var 4 :* var 2) ∷ hyp (var 2) (var 4) zer ∷ hyp (var 1) (var 3) (var 5) ∷ []) tt (v ∷ z ∷ w ∷ h.α.0 ∷ h.β.0 ∷ const units.0.0 ∷ []) (e, (β_none, (α_is, tt)))

      right : (z w v : L.El) → v ≡ h.γ.0 * z + h.δ.0 * w → v ≡ const units.1.0 * w
      right z w v e = solve_by L (var 0) (var 5 :* var 2) (hyp one (var 0) (var 4 :* var 1 :+ var 3 :* var 2) ∷ hyp (var 1) (var 4) zer ∷ hyp (var 2) (var 3) (var 5) ∷ []) tt (v ∷ z ∷ w ∷ h.δ.0 ∷ h.γ.0 ∷ const units.1.0 ∷ []) (e, (γ_none, (δ_is, tt)))

      pub pairs_unique : Scaled ρ m n m' n'
      pairs_unique = record {
        a = units.0.0;
        d = units.1.0;
        a_unit = units.0.1;
        d_unit = units.1.1;
        m_b = left m.b n.b m'.b h.m_b;
        m_c = left m.c n.c m'.c h.m_c;
        n_b = right m.b n.b n'.b h.n_b;
        n_c = right m.c n.c n'.c h.n_c;
      }
