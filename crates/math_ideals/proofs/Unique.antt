-- One ideal has one scaled reduced basis.
--   same_sym     "the ideals are one" is symmetric
--   half_M half_N   what the M and the N of two reduced bases of one ideal have to do with one another
--   unique       two scaled reduced bases of one ideal are equal, row by row; `good_unique` for reduced ideals
use mathlib.Core.Path.{◌≡◌, sym, ap, ap₂, ◌∙◌, subst}
use mathlib.Core.List.{List, [], ◌∷◌}
use mathlib.Core.Logic.{◌≢◌, ◌⊎◌, inl, inr}
use Prim.Native.Nat.{ℕ, ◌+◌ as ◌+ⁿ◌}
use native.Mathlib.Omega.{arith}
use Rattle.math_ring.proofs.Laws as r
use Rattle.math_ring.proofs.Solve.{zer, ◌:+◌, ◌:*◌, ◌:=◌, ring₃}
use Rattle.math_valued.specs.Degree.{HasDeg, Has, Lt}
use Rattle.math_valued.specs.Polynomial.{polys, Divides}
use Rattle.math_valued.proofs.Degree as d
use Rattle.math_valued.proofs.Compare.{leads_one}
use Rattle.math_valued.proofs.Polynomial.{P_path, factor, one_of}
use Rattle.math_valued.proofs.Gcds.{gcds, comb_divides}
use Rattle.math_ideals.specs.Setting.{Setting, P}
use Rattle.math_ideals.specs.Element.{O, sc, X, Y, Z}
use Rattle.math_ideals.specs.Ideal.{Basis, lin, In}
use Rattle.math_ideals.specs.Basis.{ReducedBasis, Scaled, Good}
use Rattle.math_ideals.specs.Next.{Same}
use Rattle.math_ideals.proofs.Sizes.{X_lin, X_sc, Y_sc, Z_sc, sc_a, sc_b, sc_c, sc_cancel}
use Rattle.math_ideals.proofs.Lattice.{in_M, in_N, lin_M, lin_N}
use Rattle.math_ideals.proofs.Minimum.{Sized, sized, core, core_N, no_U}

module _ (S : Setting) where
  open S use {𝓥}
  open 𝓥 use {K, L, Lead}
  open L.ops use {add as ◌+◌, mul as ◌*◌, neg as -◌, 𝟎, 𝟏}
  open K.ops use {add as ◌+ᵏ◌, mul as ◌*ᵏ◌, neg as -ᵏ◌, 𝟎 as 0ᵏ, 𝟏 as 1ᵏ}
  open (O S).ops use {add as ◌⊕◌, mul as ◌⊗◌}

  infixl 60 ◌+◌ ◌⊕◌ ◌+ᵏ◌
  infixl 70 ◌*◌ ◌⊗◌ ◌*ᵏ◌
  infix 80 -◌ -ᵏ◌
  pub same_sym : (B B' : Basis S) → Same S B B' → Same S B' B
  same_sym B B' h = record {
    into = λ v i. let (u, k, e) = h.onto v i in (u, k, sym e);
    onto = λ u i. let (v, k, e) = h.into u i in (v, k, sym e);
  }

  module _ (B B' : Basis S) (s : Sized S B) (s' : Sized S B') (one-ideal : Same S B B') where
    -- U v = U' u: what holds of v over U' holds of u over U
    below : (f : (O S).El → L.El) → ((a : P S) (v : (O S).El) → f (sc S a ⊗ v) ≡ a.0 * f v) → (u v : (O S).El) → sc S B.U ⊗ v ≡ sc S B'.U ⊗ u → Lt 𝓥 (f v) s'.u → Lt 𝓥 (f u) s.u
    below f f-sc u v e h = d.lt_cancel 𝓥 s.u s'.U_has (d.lt_eq 𝓥 (d.lt_has_mul 𝓥 h s.U_has) (L.laws.mul_comm _ _ ∙ sym (f-sc B.U v) ∙ ap f e ∙ f-sc B'.U u))

    -- deg X(M'/U') = b + deg X(M/U), and b = 0 only where M'/U' is a constant multiple of M/U
    half_M : (b : ℕ) × (s.u +ⁿ s'.p +ⁿ s.q ≡ s'.u +ⁿ (b +ⁿ s.p) +ⁿ s'.q) × (b ≡ 0 → (β : P S) × Has 𝓥 β.0 0 × (sc S B.U ⊗ B'.M ≡ sc S B'.U ⊗ (sc S β ⊗ B.M)))
    half_M = go (core S B s i.α i.β i.γ small_Y)
      where
        u : (O S).El
        u = (one-ideal.into B'.M (in_M S B')).0

        i : In S B u
        i = (one-ideal.into B'.M (in_M S B')).1

        e : sc S B.U ⊗ B'.M ≡ sc S B'.U ⊗ u
        e = (one-ideal.into B'.M (in_M S B')).2

        small_Y : Lt 𝓥 (Y S (lin S B i.α i.β i.γ)) s.u
        small_Y = d.lt_eq 𝓥 (below (Y S) (Y_sc S) u B'.M e s'.Y_M) (ap (Y S) i.eq)

        small_Z : Lt 𝓥 (Z S (lin S B i.α i.β i.γ)) s.u
        small_Z = d.lt_eq 𝓥 (below (Z S) (Z_sc S) u B'.M e s'.Z_M) (ap (Z S) i.eq)

        X_eq : B.U.0 * X S B'.M ≡ B'.U.0 * X S (lin S B i.α i.β i.γ)
        X_eq = sym (X_sc S B.U B'.M) ∙ ap (X S) e ∙ X_sc S B'.U u ∙ ap (λ z. B'.U.0 * X S z) i.eq

        X_has : HasDeg 𝓥 (B'.U.0 * X S (lin S B i.α i.β i.γ)) (s.u +ⁿ s'.p) (0 +ⁿ s'.q)
        X_has = d.has_eq 𝓥 (d.has_mul 𝓥 s.U_has s'.X_M) X_eq

        go : ((i.β.0 ≡ 𝟎) × (i.γ.0 ≡ 𝟎)) ⊎ ((b : ℕ) × HasDeg 𝓥 (X S (lin S B i.α i.β i.γ)) (b +ⁿ s.p) s.q × (b ≡ 0 → (i.γ.0 ≡ 𝟎) × Has 𝓥 i.β.0 0)) →
            (b : ℕ) × (s.u +ⁿ s'.p +ⁿ s.q ≡ s'.u +ⁿ (b +ⁿ s.p) +ⁿ s'.q) × (b ≡ 0 → (β : P S) × Has 𝓥 β.0 0 × (sc S B.U ⊗ B'.M ≡ sc S B'.U ⊗ (sc S β ⊗ B.M)))
        go (inl (b, c)) = absurd (d.has_not_zero 𝓥 (d.has_eq 𝓥 X_has
            (ap (λ z. B'.U.0 * z) (X_lin S B i.α i.β i.γ ∙ ap₂ (λ m n. m * X S B.M + n * X S B.N) b c) ∙ ring₃ L (λ z m n. z :* (zer :* m :+ zer :* n) := zer) tt B'.U.0 (X S B.M) (X S B.N))))
        go (inr (b, h, k)) = (
          b,
          omega (arith, d.has_unique 𝓥 X_has (d.has_mul 𝓥 s'.U_has h)),
          λ z. (i.β, (k z).1, e ∙ ap (λ t. sc S B'.U ⊗ t) (i.eq ∙ lin_M S B i.α i.β i.γ (no_U S B s i.α i.β i.γ (inr (k z).1) (inl (k z).0) small_Z) (k z).0)),
        )

    -- the same for N and Y, once the X of the two M are level
    half_N : s.u +ⁿ s'.p +ⁿ s.q ≡ s'.u +ⁿ s.p +ⁿ s'.q →
        (g : ℕ) × (s.u +ⁿ s'.y ≡ s'.u +ⁿ (g +ⁿ s.y)) × (g ≡ 0 → (γ : P S) × Has 𝓥 γ.0 0 × (sc S B.U ⊗ B'.N ≡ sc S B'.U ⊗ (sc S γ ⊗ B.N)))
    half_N level = go (core_N S B s i.α i.β i.γ small_X nz)
      where
        u : (O S).El
        u = (one-ideal.into B'.N (in_N S B')).0

        i : In S B u
        i = (one-ideal.into B'.N (in_N S B')).1

        v : (O S).El
        v = lin S B i.α i.β i.γ

        e : sc S B.U ⊗ B'.N ≡ sc S B'.U ⊗ v
        e = (one-ideal.into B'.N (in_N S B')).2 ∙ ap (λ t. sc S B'.U ⊗ t) i.eq

        small_X : Lead (X S v) s.p s.q 0ᵏ
        small_X = d.lead_cancel 𝓥 s.p s.q s'.U_has (d.lead_eq 𝓥 (𝓥.lead_mul s.U_has.2 s'.X_N) (sym (X_sc S B.U B'.N) ∙ ap (X S) e ∙ X_sc S B'.U v) (r.mul-zero K _)) (omega arith)

        small_Z : Lt 𝓥 (Z S v) s.u
        small_Z = below (Z S) (Z_sc S) v B'.N e s'.Z_N

        Y_has : Has 𝓥 (B'.U.0 * Y S v) (s.u +ⁿ s'.y)
        Y_has = d.has_eq 𝓥 (d.has_mul 𝓥 s.U_has s'.Y_N) (sym (Y_sc S B.U B'.N) ∙ ap (Y S) e ∙ Y_sc S B'.U v)

        nz : Y S v ≢ 𝟎
        nz z = d.has_not_zero 𝓥 (d.has_eq 𝓥 Y_has (ap (λ t. B'.U.0 * t) z ∙ r.mul-zero L B'.U.0))

        go : (g : ℕ) × Has 𝓥 (Y S v) (g +ⁿ s.y) × (g ≡ 0 → (i.β.0 ≡ 𝟎) × Has 𝓥 i.γ.0 0) →
            (g : ℕ) × (s.u +ⁿ s'.y ≡ s'.u +ⁿ (g +ⁿ s.y)) × (g ≡ 0 → (γ : P S) × Has 𝓥 γ.0 0 × (sc S B.U ⊗ B'.N ≡ sc S B'.U ⊗ (sc S γ ⊗ B.N)))
        go (g, h, k) = (
          g,
          omega (arith, d.same 𝓥 Y_has (d.has_mul 𝓥 s'.U_has h)),
          λ z. (i.γ, (k z).1, e ∙ ap (λ t. sc S B'.U ⊗ t) (lin_N S B i.α i.β i.γ (no_U S B s i.α i.β i.γ (inl (k z).0) (inr (k z).1) small_Z) (k z).0)),
        )

  -- U | U', where U times the rows of B' is U' times the rows of B
  divides_U : (B B' : Basis S) → Scaled S B → sc S B.U ⊗ B'.M ≡ sc S B'.U ⊗ B.M → sc S B.U ⊗ B'.N ≡ sc S B'.U ⊗ B.N → Divides 𝓥 B.U B'.U
  divides_U B B' k eM eN =
      let R = polys 𝓥 in
      let rows : List (P S) = B.U ∷ B.M.a ∷ B.M.b ∷ B.M.c ∷ B.N.a ∷ B.N.b ∷ B.N.c ∷ [] in
      let (g, comb, (d₀, (d₁, (d₂, (d₃, (d₄, (d₅, (d₆, d₇)))))))) = gcds 𝓥 rows in
      let (q, e) = k.seven g d₀ d₁ d₂ d₃ d₄ d₅ d₆ in
      let (z, f) = comb_divides 𝓥 B.U B'.U rows g comb ((B'.U, R.laws.mul_comm B'.U B.U), (at_a eM, (at_b eM, (at_c eM, (at_a eN, (at_b eN, (at_c eN, tt))))))) in
      (R.ops.mul z q, sym (R.laws.mul-one B'.U) ∙ ap (λ t. R.ops.mul B'.U t) e ∙ sym (R.laws.mul_assoc B'.U g q) ∙ ap (λ t. R.ops.mul t q) f ∙ R.laws.mul_assoc B.U z q)
    where
      at_a : {v v' : (O S).El} → sc S B.U ⊗ v' ≡ sc S B'.U ⊗ v → Divides 𝓥 B.U ((polys 𝓥).ops.mul B'.U v.a)
      at_a {v} {v'} e = (v'.a, P_path 𝓥 (sym (sc_a S B'.U v) ∙ ap (λ z. z.a.0) (sym e) ∙ sc_a S B.U v'))

      at_b : {v v' : (O S).El} → sc S B.U ⊗ v' ≡ sc S B'.U ⊗ v → Divides 𝓥 B.U ((polys 𝓥).ops.mul B'.U v.b)
      at_b {v} {v'} e = (v'.b, P_path 𝓥 (sym (sc_b S B'.U v) ∙ ap (λ z. z.b.0) (sym e) ∙ sc_b S B.U v'))

      at_c : {v v' : (O S).El} → sc S B.U ⊗ v' ≡ sc S B'.U ⊗ v → Divides 𝓥 B.U ((polys 𝓥).ops.mul B'.U v.c)
      at_c {v} {v'} e = (v'.c, P_path 𝓥 (sym (sc_c S B'.U v) ∙ ap (λ z. z.c.0) (sym e) ∙ sc_c S B.U v'))

  -- two scaled reduced bases of one ideal are equal
  pub unique : (B B' : Basis S) → B.U.0 ≢ 𝟎 → B'.U.0 ≢ 𝟎 → ReducedBasis S B → ReducedBasis S B' → Scaled S B → Scaled S B' → Same S B B' → B ≡ B'
  unique B B' nz nz' rb rb' sc₁ sc₂ one-ideal =
      let UU : B.U ≡ B'.U = U_eq in
      λ i. record { U = UU i; M = rows B.M B'.M M_eq i; N = rows B.N B'.N N_eq i }
    where
      s : Sized S B
      s = sized S B nz rb

      s' : Sized S B'
      s' = sized S B' nz' rb'

      back : Same S B' B
      back = same_sym B B' one-ideal

      M_eq : sc S B.U ⊗ B'.M ≡ sc S B'.U ⊗ B.M
      M_eq =
          let (b, e, k) = half_M B B' s s' one-ideal in
          let (b', e', k') = half_M B' B s' s back in
          let (β, hβ, f) = k (omega arith) in
          let β-one : β ≡ (polys 𝓥).ops.𝟏 =
          one_of 𝓥 β B.U.0 B'.U.0 (X S B.M) (X S B'.M) (1ᵏ +ᵏ 1ᵏ) hβ sc₁.monic sc₂.monic sc₁.X_M sc₂.X_M (sym (X_sc S B.U B'.M) ∙ ap (X S) f ∙ X_sc S B'.U (sc S β ⊗ B.M) ∙ ap (λ z. B'.U.0 * z) (X_sc S β B.M)) in
          f ∙ ap (λ z. sc S B'.U ⊗ (sc S z ⊗ B.M)) β-one ∙ ap (λ z. sc S B'.U ⊗ z) (r.one-mul (O S) B.M)

      N_eq : sc S B.U ⊗ B'.N ≡ sc S B'.U ⊗ B.N
      N_eq =
          let (b, e, k) = half_M B B' s s' one-ideal in
          let (b', e', k') = half_M B' B s' s back in
          let (g, h, l) = half_N B B' s s' one-ideal (omega arith) in
          let (g', h', l') = half_N B' B s' s back (omega arith) in
          let (γ, hγ, f) = l (omega arith) in
          let γ-one : γ ≡ (polys 𝓥).ops.𝟏 =
          one_of 𝓥 γ B.U.0 B'.U.0 (Y S B.N) (Y S B'.N) 1ᵏ hγ sc₁.monic sc₂.monic sc₁.Y_N sc₂.Y_N (sym (Y_sc S B.U B'.N) ∙ ap (Y S) f ∙ Y_sc S B'.U (sc S γ ⊗ B.N) ∙ ap (λ z. B'.U.0 * z) (Y_sc S γ B.N)) in
          f ∙ ap (λ z. sc S B'.U ⊗ (sc S z ⊗ B.N)) γ-one ∙ ap (λ z. sc S B'.U ⊗ z) (r.one-mul (O S) B.N)

      U_eq : B.U ≡ B'.U
      U_eq =
          let (q, e) = divides_U B B' sc₁ M_eq N_eq in
          let (q', e') = divides_U B' B sc₂ (sym M_eq) (sym N_eq) in
          let (n, hq, f) = factor 𝓥 B.U q B'.U s.U_has s'.U_has e in
          let (n', hq', f') = factor 𝓥 B'.U q' B.U s'.U_has s.U_has e' in
          let z : n ≡ 0 = omega arith in
          let q-one : q ≡ (polys 𝓥).ops.𝟏 =
          one_of 𝓥 q B'.U.0 B.U.0 𝟏 𝟏 1ᵏ (subst (λ m. Has 𝓥 q.0 m) z hq) sc₂.monic sc₁.monic (leads_one 𝓥) (leads_one 𝓥) (ap (λ t. t.0 * 𝟏) e ∙ L.laws.mul_assoc B.U.0 q.0 𝟏) in
          sym (e ∙ ap (λ t. (polys 𝓥).ops.mul B.U t) q-one ∙ (polys 𝓥).laws.mul-one B.U)

      rows : (v v' : (O S).El) → sc S B.U ⊗ v' ≡ sc S B'.U ⊗ v → v ≡ v'
      rows v v' e = sym (sc_cancel S B.U v' v s.U_has (e ∙ ap (λ z. sc S z ⊗ v) (sym U_eq)))

  pub good_unique : (B B' : Basis S) → Good S B → Good S B' → Same S B B' → B ≡ B'
  good_unique B B' g g' one-ideal = unique B B' g.ideal.U≢ g'.ideal.U≢ g.basis g'.basis g.scaled g'.scaled one-ideal
