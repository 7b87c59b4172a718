-- The minimum lemma.
--   Sized sized    what a reduced basis says, in numbers
--   core core_N    elements of the lattice that are small in Y, or in X
--   minimum        an element small in Y and Z, with X at most X(m), is a constant multiple of m; `minimum_in` says it of elements
use mathlib.Core.Path.{◌≡◌, refl, sym, ap, ap₂, ◌∙◌, subst}
use mathlib.Core.Logic.{◌≢◌, ◌⊎◌, inl, inr}
use Prim.Native.Nat.{ℕ, suc, ◌≤◌, ◌+◌ as ◌+ⁿ◌}
use native.Mathlib.Omega.{arith}
use native.Mathlib.Decide.{dec_le}
use Rattle.math_ring.proofs.Laws as r
use Rattle.math_ring.proofs.Solve.{zer, minus, ◌:+◌, ◌:*◌, ◌:=◌, ring₂, ring₃}
use Rattle.math_valued.proofs.Degree as d
use Rattle.math_valued.specs.Degree.{HasDeg, Has, Lt}
use Rattle.math_valued.proofs.Compare.{≺-lt, ≼-has, lt_unscale}
use Rattle.math_valued.proofs.Polynomial.{view, degree}
use Rattle.math_ideals.specs.Setting.{Setting, P}
use Rattle.math_ideals.specs.Ideal.{Basis, lin, In}
use Rattle.math_ideals.specs.Element.{O, sc, X, Y, Z}
use Rattle.math_ideals.specs.Basis.{ReducedBasis}
use Rattle.math_ideals.proofs.Sizes.{X_lin, Y_lin, Z_lin}
use Rattle.math_ideals.proofs.Form.{has_two}
use Rattle.math_ideals.proofs.Lattice.{lin_M}

module _ (S : Setting) where
  open S use {𝓥}
  open 𝓥 use {K, L, Lead}
  open L.ops use {add as ◌+◌, mul as ◌*◌, neg as -◌, 𝟎, 𝟏}
  open K.ops use {𝟎 as 0ᵏ}

  infixl 60 ◌+◌
  infixl 70 ◌*◌
  infix 80 -◌
  -- a constant
  abbrev pub Const : P S → Type 0
  Const a = (a.0 ≡ 𝟎) ⊎ Has 𝓥 a.0 0

  pub lt_const : {x : L.El} {n : ℕ} (a : P S) → Const a → Lt 𝓥 x n → Lt 𝓥 (a.0 * x) n
  lt_const {x} {n} a (inl e) h = d.lt_eq 𝓥 (𝓥.lead_zero n 0) (sym (ap (λ z. z * x) e ∙ r.zero_mul' L x))
  lt_const {x} {n} a (inr g) h = d.lt_up 𝓥 n (d.lt_eq 𝓥 (d.lt_has_mul 𝓥 h g) (L.laws.mul_comm x a.0)) (omega arith)

  -- What a reduced basis says, in numbers: u = deg U, p − q = deg X(M), y = deg Y(N).
  pub record Sized (B : Basis S) : Type 0 where
    pub u : ℕ
    pub p : ℕ
    pub q : ℕ
    pub y : ℕ
    pub U_has : Has 𝓥 B.U.0 u
    pub X_M : HasDeg 𝓥 (X S B.M) p q
    pub X_N : Lead (X S B.N) p q 0ᵏ
    pub Y_M : Lt 𝓥 (Y S B.M) u
    pub Y_N : Has 𝓥 (Y S B.N) y
    pub u≤y : u ≤ y
    pub Z_M : Lt 𝓥 (Z S B.M) u
    pub Z_N : Lt 𝓥 (Z S B.N) u

  pub sized : (B : Basis S) → B.U.0 ≢ 𝟎 → ReducedBasis S B → Sized B
  sized B nz h =
      let (u, U_has) = degree 𝓥 B.U nz in
      let (y, u≤y, Y_N) = ≼-has 𝓥 h.Y_N U_has in
      record {
        u = u;
        p = h.X_N.0;
        q = h.X_N.1;
        y = y;
        U_has = U_has;
        X_M = h.X_N.2;
        X_N = h.X_N.3;
        Y_M = ≺-lt 𝓥 h.Y_M U_has;
        Y_N = Y_N;
        u≤y = u≤y;
        Z_M = ≺-lt 𝓥 h.Z_M U_has;
        Z_N = ≺-lt 𝓥 h.Z_N U_has;
      }

  module _ (B : Basis S) (s : Sized B) (α β γ : P S) where
    abbrev v : (O S).El
    v = lin S B α β γ

    -- An element with deg Y(v) < deg U and β, γ not both 0: deg X(v) = b + deg X(M), and b = 0 only where γ = 0 and β is a constant.
    pub core : Lt 𝓥 (Y S v) s.u → ((β.0 ≡ 𝟎) × (γ.0 ≡ 𝟎)) ⊎ ((b : ℕ) × HasDeg 𝓥 (X S v) (b +ⁿ s.p) s.q × (b ≡ 0 → (γ.0 ≡ 𝟎) × Has 𝓥 β.0 0))
    core small = go (view 𝓥 γ) (view 𝓥 β)
      where
        -- the case γ = 0
        plain : γ.0 ≡ 𝟎 → (b : ℕ) → Has 𝓥 β.0 b → HasDeg 𝓥 (X S v) (b +ⁿ s.p) s.q
        plain z b h = d.has_move 𝓥 (b +ⁿ s.p) s.q
            (d.has_eq 𝓥 (d.has_mul 𝓥 h s.X_M) (sym (X_lin S B α β γ ∙ ap (λ c. β.0 * X S B.M + c * X S B.N) z ∙ ring₂ L (λ m n. m :+ zer :* n := m) tt (β.0 * X S B.M) (X S B.N)))) (omega arith)

        go : ((γ.0 ≡ 𝟎) ⊎ ((n : ℕ) × Has 𝓥 γ.0 n)) → ((β.0 ≡ 𝟎) ⊎ ((n : ℕ) × Has 𝓥 β.0 n)) →
            ((β.0 ≡ 𝟎) × (γ.0 ≡ 𝟎)) ⊎ ((b : ℕ) × HasDeg 𝓥 (X S v) (b +ⁿ s.p) s.q × (b ≡ 0 → (γ.0 ≡ 𝟎) × Has 𝓥 β.0 0))
        go (inl c) (inl b) = inl (b, c)
        go (inl c) (inr (b, hb)) = inr (b, plain c b hb, λ e. (c, subst (λ n. Has 𝓥 β.0 n) e hb))
        go (inr (g, hg)) (inl b) =
            let k : Has 𝓥 (Y S v) (g +ⁿ s.y) =
            d.has_eq 𝓥 (d.has_mul 𝓥 hg s.Y_N) (sym (Y_lin S B α β γ ∙ ap (λ c. c * Y S B.M + γ.0 * Y S B.N) b ∙ ring₂ L (λ m n. zer :* m :+ n := n) tt (Y S B.M) (γ.0 * Y S B.N))) in
            let u≤y : s.u ≤ s.y = s.u≤y in
            absurd (omega (arith, d.above 𝓥 k small))
        go (inr (g, hg)) (inr (b, hb)) = cases (dec_le b g)
          where
            YM : Lt 𝓥 (β.0 * Y S B.M) (s.u +ⁿ b)
            YM = d.lt_eq 𝓥 (d.lt_has_mul 𝓥 s.Y_M hb) (L.laws.mul_comm (Y S B.M) β.0)

            cases : Dec (b ≤ g) → ((β.0 ≡ 𝟎) × (γ.0 ≡ 𝟎)) ⊎ ((b : ℕ) × HasDeg 𝓥 (X S v) (b +ⁿ s.p) s.q × (b ≡ 0 → (γ.0 ≡ 𝟎) × Has 𝓥 β.0 0))
            cases (yes l) =
                let u≤y : s.u ≤ s.y = s.u≤y in
                let k : Has 𝓥 (Y S v) (g +ⁿ s.y) = d.has_eq 𝓥 (d.has_lt 𝓥 (d.has_mul 𝓥 hg s.Y_N) (d.lt_up 𝓥 (g +ⁿ s.y) YM (omega arith))) (L.laws.add_comm _ _ ∙ sym (Y_lin S B α β γ)) in
                absurd (omega (arith, d.above 𝓥 k small))
            cases (no l) =
                let XN : Lead (γ.0 * X S B.N) (g +ⁿ s.p) (0 +ⁿ s.q) 0ᵏ = d.lead_eq 𝓥 (𝓥.lead_mul hg.2 s.X_N) refl (r.mul-zero K hg.0) in
                let XM : HasDeg 𝓥 (β.0 * X S B.M) (b +ⁿ s.p) s.q = d.has_move 𝓥 (b +ⁿ s.p) s.q (d.has_mul 𝓥 hb s.X_M) (omega arith) in
                inr (b, d.has_eq 𝓥 (d.has_lt 𝓥 XM (𝓥.lead_up (b +ⁿ s.p) s.q XN (omega arith))) (sym (X_lin S B α β γ)), λ e. absurd (omega arith))

    -- An element with deg X(v) < deg X(M) that is not one of U alone: deg Y(v) = g + deg Y(N), and g = 0 only where β = 0 and γ is a constant.
    pub core_N : Lead (X S v) s.p s.q 0ᵏ → Y S v ≢ 𝟎 → (g : ℕ) × Has 𝓥 (Y S v) (g +ⁿ s.y) × (g ≡ 0 → (β.0 ≡ 𝟎) × Has 𝓥 γ.0 0)
    core_N small nz = go (view 𝓥 γ) (view 𝓥 β)
      where
        go : ((γ.0 ≡ 𝟎) ⊎ ((n : ℕ) × Has 𝓥 γ.0 n)) → ((β.0 ≡ 𝟎) ⊎ ((n : ℕ) × Has 𝓥 β.0 n)) → (g : ℕ) × Has 𝓥 (Y S v) (g +ⁿ s.y) × (g ≡ 0 → (β.0 ≡ 𝟎) × Has 𝓥 γ.0 0)
        go (inl c) (inl b) = absurd (nz (Y_lin S B α β γ ∙ ap₂ (λ m n. m * Y S B.M + n * Y S B.N) b c ∙ ring₂ L (λ m n. zer :* m :+ zer :* n := zer) tt (Y S B.M) (Y S B.N)))
        go (inl c) (inr (b, hb)) =
            let k : HasDeg 𝓥 (X S v) (b +ⁿ s.p) (0 +ⁿ s.q) =
            d.has_eq 𝓥 (d.has_mul 𝓥 hb s.X_M) (sym (X_lin S B α β γ ∙ ap (λ c. β.0 * X S B.M + c * X S B.N) c ∙ ring₂ L (λ m n. m :+ zer :* n := m) tt (β.0 * X S B.M) (X S B.N))) in
            absurd (omega (arith, d.has_above 𝓥 k small))
        go (inr (g, hg)) (inl b) = (
          g,
          d.has_eq 𝓥 (d.has_mul 𝓥 hg s.Y_N) (sym (Y_lin S B α β γ ∙ ap (λ c. c * Y S B.M + γ.0 * Y S B.N) b ∙ ring₂ L (λ m n. zer :* m :+ n := n) tt (Y S B.M) (γ.0 * Y S B.N))),
          λ e. (b, subst (λ n. Has 𝓥 γ.0 n) e hg),
        )
        go (inr (g, hg)) (inr (b, hb)) = cases (dec_le g b)
          where
            cases : Dec (g ≤ b) → (g : ℕ) × Has 𝓥 (Y S v) (g +ⁿ s.y) × (g ≡ 0 → (β.0 ≡ 𝟎) × Has 𝓥 γ.0 0)
            cases (yes l) =
                let XN : Lead (γ.0 * X S B.N) (g +ⁿ s.p) (0 +ⁿ s.q) 0ᵏ = d.lead_eq 𝓥 (𝓥.lead_mul hg.2 s.X_N) refl (r.mul-zero K hg.0) in
                let k : HasDeg 𝓥 (X S v) (b +ⁿ s.p) (0 +ⁿ s.q) = d.has_eq 𝓥 (d.has_lt 𝓥 (d.has_mul 𝓥 hb s.X_M) (d.lead_up 𝓥 (b +ⁿ s.p) (0 +ⁿ s.q) XN (omega arith))) (sym (X_lin S B α β γ)) in
                absurd (omega (arith, d.has_above 𝓥 k small))
            cases (no l) =
                let u≤y : s.u ≤ s.y = s.u≤y in
                let YM : Lt 𝓥 (β.0 * Y S B.M) (s.u +ⁿ b) = d.lt_eq 𝓥 (d.lt_has_mul 𝓥 s.Y_M hb) (L.laws.mul_comm (Y S B.M) β.0) in
                (g, d.has_eq 𝓥 (d.has_lt 𝓥 (d.has_mul 𝓥 hg s.Y_N) (d.lt_up 𝓥 (g +ⁿ s.y) YM (omega arith))) (L.laws.add_comm _ _ ∙ sym (Y_lin S B α β γ)), λ e. absurd (omega arith))

    -- What is below U in Z and has no part of N, and of M only a constant, has no part of U.
    pub no_U : Const β → Const γ → Lt 𝓥 (Z S v) s.u → α.0 ≡ 𝟎
    no_U cb cc small = elim (view 𝓥 α) [
      | inl e ↦ e
      | inr (a, ha) ↦ absurd (omega (arith, d.above 𝓥 (d.has_mul 𝓥 ha s.U_has) below))
    ]
      where
        tail : Lt 𝓥 (β.0 * Z S B.M + γ.0 * Z S B.N) s.u
        tail = d.lt_add 𝓥 (lt_const β cb s.Z_M) (lt_const γ cc s.Z_N)

        below : Lt 𝓥 (α.0 * B.U.0) s.u
        below = lt_unscale 𝓥 (has_two S) (d.lt_eq 𝓥 (d.lt_add 𝓥 small (d.lt_neg 𝓥 tail))
            (ap (λ z. z + - (β.0 * Z S B.M + γ.0 * Z S B.N)) (Z_lin S B α β γ) ∙
            ring₃ L (λ x y z. x :+ y :+ z :+ minus (y :+ z) := x) tt ((𝟏 + 𝟏) * (α.0 * B.U.0)) (β.0 * Z S B.M) (γ.0 * Z S B.N)))

    -- v is a constant multiple of M
    pub minimum : {c : K.El} → Lt 𝓥 (Y S v) s.u → Lt 𝓥 (Z S v) s.u → Lead (X S v) s.p s.q c → (α.0 ≡ 𝟎) × (γ.0 ≡ 𝟎) × Const β
    minimum {c} hy hz hx = go (core hy)
      where
        go : ((β.0 ≡ 𝟎) × (γ.0 ≡ 𝟎)) ⊎ ((b : ℕ) × HasDeg 𝓥 (X S v) (b +ⁿ s.p) s.q × (b ≡ 0 → (γ.0 ≡ 𝟎) × Has 𝓥 β.0 0)) → (α.0 ≡ 𝟎) × (γ.0 ≡ 𝟎) × Const β
        go (inl (b, g)) = (no_U (inl b) (inl g) hz, g, inl b)
        go (inr (b, h, k)) =
            let z : b ≡ 0 = omega (arith, d.has_above 𝓥 h (𝓥.lead_up (suc s.p) s.q hx (omega arith))) in
            (no_U (inr (k z).1) (inl (k z).0) hz, (k z).0, inr (k z).1)

  -- the same for an element of the lattice
  pub minimum_in : {c : K.El} (B : Basis S) (s : Sized B) (v : (O S).El) → In S B v → Lt 𝓥 (Y S v) s.u → Lt 𝓥 (Z S v) s.u → Lead (X S v) s.p s.q c →
      (β : P S) × Const β × (v ≡ (O S).ops.mul (sc S β) B.M)
  minimum_in B s v i hy hz hx =
      let (z, g, k) = minimum B s i.α i.β i.γ (d.lt_eq 𝓥 hy (ap (Y S) i.eq)) (d.lt_eq 𝓥 hz (ap (Z S) i.eq)) (d.lead_eq 𝓥 hx (ap (X S) i.eq) refl) in
      (i.β, k, i.eq ∙ lin_M S B i.α i.β i.γ z g)
