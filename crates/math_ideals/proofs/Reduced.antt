-- Reduced by degrees is the same as "1 is a minimum".
--   OnlyPolys        only polynomials have all sizes at most those of 1
--   reduced_of       then the ideal is reduced
--   only_of          and if it is reduced, only polynomials do
--   OneMinimum       the papers' form: of the elements whose value and cofactor's value have degree at most 0, only constants;
--   minimum_iff, iff_minimum   it is the same as `Reduced`
--   bounded          so in a reduced ideal what is bounded by 1 in value and cofactor's value is a polynomial
use mathlib.Core.Path.{◌≡◌, sym, ap, ap₂, ◌∙◌}
use mathlib.Core.Logic.{◌≢◌, ◌⊎◌, inl, inr}
use Prim.Native.Nat.{ℕ, suc, ◌≤◌, ◌<◌, ◌+◌ as ◌+ⁿ◌, ◌-◌ as ◌-ⁿ◌}
use native.Mathlib.Omega.{arith}
use native.Mathlib.Decide.{dec_le}
use Rattle.math_ring.proofs.Solve.{zer, ◌:+◌, ◌:*◌, ◌:=◌, ring₂}
use Rattle.math_valued.specs.Degree.{Has, Lt, ◌≺◌}
use Rattle.math_valued.proofs.Degree as d
use Rattle.math_valued.proofs.Compare.{≺-has, lt_scale, lt_unscale}
use Rattle.math_valued.proofs.Polynomial.{P_path, view}
use Rattle.math_ideals.specs.Setting.{Setting, P}
use Rattle.math_ideals.specs.Element.{O, sc, ev, X, Y}
use Rattle.math_ideals.specs.Ideal.{Basis, In, det}
use Rattle.math_ideals.specs.Basis.{ReducedBasis, Reduced, Good}
use Rattle.math_ideals.proofs.Sizes.{X_lin, Y_lin, ev_xz, flat_sc}
use Rattle.math_ideals.proofs.Form.{has_two, has_three, form_at_most}
use Rattle.math_ideals.proofs.Lattice.{in_M, in_N, lin_b, lin_c, sc_mul}
use Rattle.math_ideals.proofs.Check.{flat_in}
use Rattle.math_ideals.proofs.Minimum.{Sized, sized}
use Rattle.math_ideals.proofs.Norm.{F, Below, below_of, flat_M, flat_N}

module _ (S : Setting) where
  open S use {𝓥}
  open S.roots use {G, H, r, w}
  open 𝓥 use {K, L, Lead}
  open L.ops use {add as ◌+◌, mul as ◌*◌, neg as -◌, 𝟎, 𝟏}
  open K.ops use {add as ◌+ᵏ◌, mul as ◌*ᵏ◌, neg as -ᵏ◌, 𝟎 as 0ᵏ, 𝟏 as 1ᵏ}
  open (O S).ops use {add as ◌⊕◌, mul as ◌⊗◌}

  infixl 60 ◌+◌ ◌⊕◌ ◌+ᵏ◌
  infixl 70 ◌*◌ ◌⊗◌ ◌*ᵏ◌
  infix 80 -◌ -ᵏ◌
  abbrev Flat : (O S).El → Type 0
  Flat v = (v.b.0 ≡ 𝟎) × (v.c.0 ≡ 𝟎)

  abbrev pub OnlyPolys : Basis S → Type 0
  OnlyPolys B = (u : ℕ) → Has 𝓥 B.U.0 u → (v : (O S).El) → In S B v → Below S v (suc u) → (v.b.0 ≡ 𝟎) × (v.c.0 ≡ 𝟎)

  pub reduced_of : (B : Basis S) → B.U.0 ≢ 𝟎 → (det S B).0 ≢ 𝟎 → ReducedBasis S B → OnlyPolys B → Reduced S B
  reduced_of B nz rank basis poly = go (sized S B nz basis)
    where
      -- the part for N, once X(M) has a degree above that of U
      N_part : (s : Sized S B) (x : ℕ) → s.u < x → Lt 𝓥 (X S B.N) x → (◌≺◌ 𝓥 B.U.0 (X S B.N)) ⊎ (◌≺◌ 𝓥 B.U.0 (Y S B.N))
      N_part s x l h = elim (d.look 𝓥 (x -ⁿ suc s.u) (suc s.u) (d.lt_up 𝓥 (x -ⁿ suc s.u +ⁿ suc s.u) h (omega arith))) [
        | inl (i, i<, i≥, k) ↦ inl (i, 0, k, 𝓥.lead_up i 0 s.U_has.2 (omega arith))
        | inr k ↦ inr (s.y, 0, s.Y_N, 𝓥.lead_up s.y 0 s.U_has.2 (rest k (dec_le s.y s.u)))
      ]
        where
          rest : Lt 𝓥 (X S B.N) (suc s.u) → Dec (s.y ≤ s.u) → s.u +ⁿ 0 < s.y +ⁿ 0
          rest k (no m) = omega arith
          rest k (yes m) = absurd (flat_N S B rank (poly s.u s.U_has B.N (in_N S B)
              (record { X_lt = k; Y_lt = d.has_up 𝓥 (suc s.u) s.Y_N (omega arith); Z_lt = d.lt_up 𝓥 (suc s.u) s.Z_N (omega arith) })))

      go : Sized S B → Reduced S B
      go s = M_part (dec_le s.p (s.u +ⁿ s.q))
        where
          M_part : Dec (s.p ≤ s.u +ⁿ s.q) → Reduced S B
          M_part (yes l) = absurd (flat_M S B rank (poly s.u s.U_has B.M (in_M S B)
              (record { X_lt = 𝓥.lead_up (suc s.u) 0 s.X_M.2 (omega arith); Y_lt = d.lt_up 𝓥 (suc s.u) s.Y_M (omega arith); Z_lt = d.lt_up 𝓥 (suc s.u) s.Z_M (omega arith) })))
          M_part (no l) = record {
            X_M = (s.p, s.q, s.X_M, 𝓥.lead_up s.p s.q s.U_has.2 (omega arith));
            N_large = N_part s (s.p -ⁿ s.q) (omega arith) (𝓥.lead_move (s.p -ⁿ s.q) 0 s.X_N (omega arith));
          }

  pub only_of : (B : Basis S) → B.U.0 ≢ 𝟎 → ReducedBasis S B → Reduced S B → OnlyPolys B
  only_of B nz basis red u hU v i small = done (zeros (sized S B nz basis) (view 𝓥 i.β) (view 𝓥 i.γ))
    where
      β : P S
      β = i.β

      γ : P S
      γ = i.γ

      v_X : X S v ≡ β.0 * X S B.M + γ.0 * X S B.N
      v_X = ap (X S) i.eq ∙ X_lin S B i.α β γ

      v_Y : Y S v ≡ β.0 * Y S B.M + γ.0 * Y S B.N
      v_Y = ap (Y S) i.eq ∙ Y_lin S B i.α β γ

      done : (β.0 ≡ 𝟎) × (γ.0 ≡ 𝟎) → Flat v
      done (zb, zc) = (
        ap (λ z. z.b.0) i.eq ∙ ap (λ z. z.0) (lin_b S B i.α β γ) ∙ ap₂ (λ s t. s * B.M.b.0 + t * B.N.b.0) zb zc ∙ ring₂ L (λ s t. zer :* s :+ zer :* t := zer) tt B.M.b.0 B.N.b.0,
        ap (λ z. z.c.0) i.eq ∙ ap (λ z. z.0) (lin_c S B i.α β γ) ∙ ap₂ (λ s t. s * B.M.c.0 + t * B.N.c.0) zb zc ∙ ring₂ L (λ s t. zer :* s :+ zer :* t := zer) tt B.M.c.0 B.N.c.0,
      )

      -- an element of degree above u is not below u + 1
      above_u : {x : L.El} {n : ℕ} → Has 𝓥 x n → u < n → Lt 𝓥 x (suc u) → ⊥
      above_u h l k = let z = d.above 𝓥 h k in absurd (omega arith)

      zeros : Sized S B → (β.0 ≡ 𝟎) ⊎ ((n : ℕ) × Has 𝓥 β.0 n) → (γ.0 ≡ 𝟎) ⊎ ((n : ℕ) × Has 𝓥 γ.0 n) → (β.0 ≡ 𝟎) × (γ.0 ≡ 𝟎)
      zeros s (inl zb) (inl zc) = (zb, zc)
      zeros s (inr (b, hb)) (inl zc) =
          let (x, l, hX) = ≺-has 𝓥 red.X_M hU in
          absurd (above_u (d.has_mul 𝓥 hb hX) (omega arith) (d.lt_eq 𝓥 small.X_lt (v_X ∙ ap (λ t. β.0 * X S B.M + t * X S B.N) zc ∙ ring₂ L (λ m n. m :+ zer :* n := m) tt (β.0 * X S B.M) (X S B.N))))
      zeros s (inl zb) (inr (g, hg)) = elim red.N_large [
        | inl k ↦ let (x, l, hX) = ≺-has 𝓥 k hU in
            absurd (above_u (d.has_mul 𝓥 hg hX) (omega arith) (d.lt_eq 𝓥 small.X_lt (v_X ∙ ap (λ t. t * X S B.M + γ.0 * X S B.N) zb ∙ ring₂ L (λ m n. zer :* m :+ n := n) tt (X S B.M) (γ.0 * X S B.N))))
        | inr k ↦ let (y, l, hY) = ≺-has 𝓥 k hU in
            absurd (above_u (d.has_mul 𝓥 hg hY) (omega arith) (d.lt_eq 𝓥 small.Y_lt (v_Y ∙ ap (λ t. t * Y S B.M + γ.0 * Y S B.N) zb ∙ ring₂ L (λ m n. zer :* m :+ n := n) tt (Y S B.M) (γ.0 * Y S B.N))))
      ]
      zeros s (inr (b, hb)) (inr (g, hg)) =
          let (x, l, hX) = ≺-has 𝓥 red.X_M hU in
          let e : s.u ≡ u = d.same 𝓥 s.U_has hU in
          let u≤y : s.u ≤ s.y = s.u≤y in
          let XN : Lt 𝓥 (X S B.N) x = 𝓥.lead_move x 0 s.X_N (omega (arith, d.has_unique 𝓥 s.X_M hX)) in
          elim (dec_le g b) [
            | yes m ↦ absurd (above_u (d.has_lt 𝓥 (d.has_mul 𝓥 hb hX) (d.lt_up 𝓥 (b +ⁿ x) (d.lt_eq 𝓥 (d.lt_has_mul 𝓥 XN hg) (L.laws.mul_comm _ _)) (omega arith))) (omega arith) (d.lt_eq 𝓥 small.X_lt v_X))
            | no m ↦ absurd (above_u (d.has_lt 𝓥 (d.has_mul 𝓥 hg s.Y_N) (d.lt_up 𝓥 (g +ⁿ s.y) (d.lt_eq 𝓥 (d.lt_has_mul 𝓥 s.Y_M hb) (L.laws.mul_comm _ _)) (omega arith))) (omega arith) (d.lt_eq 𝓥 small.Y_lt (v_Y ∙ L.laws.add_comm _ _)))
          ]

  -- deg ev(v) ≤ 0 and deg ev(cof v) ≤ 0 only for constants v (a polynomial in the ideal is a multiple of 1)
  abbrev pub OneMinimum : Basis S → Type 0
  OneMinimum B = (u : ℕ) → Has 𝓥 B.U.0 u → (v : (O S).El) → In S B v → Lt 𝓥 (ev S v) (suc u) → Lt 𝓥 (F S v) (suc (u +ⁿ u)) → (v.b.0 ≡ 𝟎) × (v.c.0 ≡ 𝟎)

  pub minimum_iff : (B : Basis S) → B.U.0 ≢ 𝟎 → ReducedBasis S B → Reduced S B → OneMinimum B
  minimum_iff B nz basis red u hU v i he hF = only_of B nz basis red u hU v i (below_of S v (suc u) (d.lt_up 𝓥 (suc u +ⁿ suc u) hF (omega arith)) he)

  pub iff_minimum : (B : Basis S) → B.U.0 ≢ 𝟎 → (det S B).0 ≢ 𝟎 → ReducedBasis S B → OneMinimum B → Reduced S B
  iff_minimum B nz rank basis min = reduced_of B nz rank basis (λ u hU v i b. min u hU v i
      (lt_unscale 𝓥 (has_two S) (d.lt_eq 𝓥 (d.lt_add 𝓥 (lt_scale 𝓥 (has_three S) b.X_lt) b.Z_lt) (sym (ev_xz S v))))
      (form_at_most S b.Y_lt b.Z_lt))

  -- v/U bounded by 1: v is U times a polynomial
  pub bounded : {u : ℕ} (B : Basis S) → Good S B → Has 𝓥 B.U.0 u → (v : (O S).El) → In S B v → Lt 𝓥 (ev S v) (suc u) → Lt 𝓥 (F S v) (suc (u +ⁿ u)) →
      (a : P S) × (v ≡ sc S B.U ⊗ sc S a)
  bounded {u} B good hU v i he hF =
      let (zb, zc) = minimum_iff B good.ideal.U≢ good.basis good.reduced u hU v i he hF in
      let (a, e) = flat_in S B good.ideal.rank v i (P_path 𝓥 zb) (P_path 𝓥 zc) in
      (a, flat_sc S v zb zc ∙ ap (sc S) e ∙ sc_mul S B.U a)
