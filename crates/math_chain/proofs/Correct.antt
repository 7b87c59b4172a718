-- The step put together: what the reduction ends with is the scaled reduced basis of the next ideal, or of the order.
--   Finished        the inequalities and leading coefficients at the end, without numbers; with them they are `NumbersOf`
--   step_correct    the seven polynomials made from the divided pairs of a good basis are the good basis of its next ideal
--   order_correct   those made from (1, 0), (0, 1) and U = 1 are the basis of the order
--   step_finished order_finished   the same from `Finished`
--   step_unique     and so there is one answer
use mathlib.Core.Path.{◌≡◌, refl, sym, ap, ◌∙◌, subst}
use mathlib.Core.Logic.{◌≢◌, inl, inr}
use Prim.Native.Nat.{ℕ, ◌≤◌}
use native.Mathlib.Omega.{arith}
use Rattle.math_ring.proofs.Laws as rg
use Rattle.math_ring.specs.Ring.{CRing}
use Rattle.math_ring.proofs.Solve.{one, zer, minus, ◌:+◌, ◌:*◌, ◌:=◌, ring₁, ring₂, ring₃}
use Rattle.math_valued.specs.Degree.{Has, Lt, Leads}
use Rattle.math_valued.specs.Polynomial.{polys, Divides}
use Rattle.math_valued.proofs.Degree as d
use Rattle.math_valued.proofs.Compare.{lt_unscale}
use Rattle.math_valued.proofs.Polynomial.{view, not_zero}
use Rattle.math_ideals.specs.Setting.{Setting, P}
use Rattle.math_ideals.specs.Element.{O, el_r, el_w, X, Y}
use Rattle.math_ideals.specs.Ideal.{Basis, In, det}
use Rattle.math_ideals.specs.Basis.{ReducedBasis, Scaled, NoFactor, Good}
use Rattle.math_ideals.specs.Next.{Next, Start}
use Rattle.math_ideals.specs.Tests.{NumbersOf}
use Rattle.math_ideals.proofs.Sizes.{O_path, two_b, two_c}
use Rattle.math_ideals.proofs.Values.{dr_pos, dw_pos}
use Rattle.math_ideals.proofs.Form.{has_two}
use Rattle.math_ideals.proofs.Lattice.{in_U, in_scale, lin_a, lin_b, lin_c}
use Rattle.math_ideals.proofs.Check.{only_of_rank}
use Rattle.math_ideals.proofs.Tests.{numbers_basis}
use Rattle.math_ideals.proofs.Reduced.{OnlyPolys, reduced_of}
use Rattle.math_ideals.proofs.Divided.{next_ideal, next_reduced, next_unique}
use Rattle.math_chain.specs.Parts.{Parts, Cut, x1, y1, pt, base}
use Rattle.math_chain.proofs.Parts.{base_next}
use Rattle.math_chain.proofs.Room.{Room, room}
use Rattle.math_chain.proofs.Changed.{Changed, Alone}
use Rattle.math_chain.proofs.Frame.{pair, off, Framed, Rebased, rebased_to, rebased_U, rebased_rank, rebased_alone, rebased_over}

module _ (S : Setting) where
  open S use {𝓥}
  open S.roots use {r, w}
  open 𝓥 use {K, L, Lead}
  open L.ops use {add as ◌+◌, mul as ◌*◌, neg as -◌, 𝟎, 𝟏}
  open K.ops use {add as ◌+ᵏ◌, 𝟎 as 0ᵏ, 𝟏 as 1ᵏ}
  open (polys 𝓥).ops use {add as ◌⊞◌, mul as ◌⊠◌, neg as ⊟◌, 𝟎 as 0ₚ, 𝟏 as 1ₚ}
  open (O S).ops use {mul as ◌⊗◌}

  infixl 60 ◌+◌ ◌+ᵏ◌ ◌⊞◌
  infixl 70 ◌*◌ ◌⊗◌ ◌⊠◌
  infix 80 -◌ ⊟◌
  abbrev Rg : CRing
  Rg = polys 𝓥

  -- the inequalities and leading coefficients at the end, without numbers
  pub record Finished (B : Basis S) : Type 0 where
    pub basis : ReducedBasis S B
    pub X_M : Leads 𝓥 (X S B.M) (1ᵏ +ᵏ 1ᵏ)
    pub Y_N : Leads 𝓥 (Y S B.N) 1ᵏ
    pub monic : Leads 𝓥 B.U.0 1ᵏ

  finished : (B : Basis S) → NumbersOf S B → Finished B
  finished B n = record { basis = numbers_basis S B n; X_M = (n.x, 0, S.roots.two≢, n.X_M); Y_N = (n.y, 0, 𝓥.one≢zero, n.Y_N); monic = (n.u, 0, 𝓥.one≢zero, n.U_lead) }

  finished_scaled : (B : Basis S) → Finished B → NoFactor S B → Scaled S B
  finished_scaled B e seven = record { X_M = e.X_M; Y_N = e.Y_N; monic = e.monic; seven = seven }

  -- ---- the step
  pub base_framed : (B : Basis S) (k : Parts S B) (c : Cut S B k) → Framed S (x1 S B k) (y1 S B k) (base S B k c)
  base_framed B k c = record { M_a = zero_off (base S B k c).M.b (base S B k c).M.c; N_a = zero_off (base S B k c).N.b (base S B k c).N.c }
    where
      zero_off : (c₁ c₂ : P S) → Divides 𝓥 (base S B k c).U (off S (x1 S B k) (y1 S B k) (pt S B k c₁ c₂))
      zero_off c₁ c₂ = (0ₚ, ring₂ Rg (λ z u. minus z :+ z := u :* zer) tt (c₁ ⊠ x1 S B k ⊞ c₂ ⊠ y1 S B k) (base S B k c).U)

  -- the pairs of base are the four without their common factor
  pub base_alone : (B : Basis S) (k : Parts S B) (c : Cut S B k) → Alone 𝓥 (pair S (base S B k c).M) (pair S (base S B k c).N)
  base_alone B k c d d₁ d₂ d₃ d₄ = c.alone d (sign c.a0 d₄) d₂ d₃ (sign c.b2 d₁)
    where
      sign : (a : P S) → Divides 𝓥 d (⊟ a) → Divides 𝓥 d a
      sign a (q, e) = (⊟ q, sym (rg.neg_neg Rg a) ∙ ap (λ t. ⊟ t) e ∙ sym (rg.mul_neg Rg d q))

  pub step_finished : (B : Basis S) → Good S B → (k : Parts S B) (c : Cut S B k) (B' : Basis S) → Rebased S (x1 S B k) (y1 S B k) (base S B k c) B' → Finished B' → Good S B' × Next S B B'
  step_finished B good k c B' h e =
      let rm : Room S B k c = room S B good k c in
      let nz : B'.U.0 ≢ 𝟎 = rebased_U S h (not_zero 𝓥 rm.d_has) in
      let rank : (det S B').0 ≢ 𝟎 = rebased_rank S h rm.rank in
      let next : Next S B B' = rebased_over S h (In S B) B.M (λ a u i. in_scale S B a u i) (base_next S B k good.ideal.rank c) in (
        record {
          ideal = next_ideal S B B' good next nz rank;
          basis = e.basis;
          scaled = finished_scaled B' e (rebased_alone S h (base_alone B k c));
          reduced = next_reduced S B B' good next nz rank e.basis;
        },
        next,
      )

  pub step_correct : (B : Basis S) → Good S B → (k : Parts S B) (c : Cut S B k) (B' : Basis S) → Rebased S (x1 S B k) (y1 S B k) (base S B k c) B' → NumbersOf S B' → Good S B' × Next S B B'
  step_correct B good k c B' h e = step_finished B good k c B' h (finished B' e)

  -- whatever was made so, it is the same
  pub step_unique : (B B' B'' : Basis S) → Good S B → Good S B' × Next S B B' → Good S B'' × Next S B B'' → B' ≡ B''
  step_unique B B' B'' good (g', n') (g'', n'') = next_unique S B B' B'' good g' g'' n' n''

  -- ---- the order
  abbrev pub first : Basis S
  first = record { U = 1ₚ; M = el_r S; N = el_w S }

  pub first_whole : (u : (O S).El) → In S first u
  first_whole u = record {
    α = u.a;
    β = u.b;
    γ = u.c;
    eq = O_path S
        (ring₃ Rg (λ a b c. a := a :* one :+ b :* zer :+ c :* zer) tt u.a u.b u.c ∙ sym (lin_a S first u.a u.b u.c))
        (ring₂ Rg (λ b c. b := b :* one :+ c :* zer) tt u.b u.c ∙ sym (lin_b S first u.a u.b u.c))
        (ring₂ Rg (λ b c. c := b :* zer :+ c :* one) tt u.b u.c ∙ sym (lin_c S first u.a u.b u.c));
  }

  -- an element of the order with X and Y of degree at most 0 is a polynomial, for r and w have degree at least 1
  pub order_poly : (v : (O S).El) → Lt 𝓥 (X S v) 1 → Lt 𝓥 (Y S v) 1 → (v.b.0 ≡ 𝟎) × (v.c.0 ≡ 𝟎)
  order_poly v hX hY = (
    zero_of v.b S.roots.r_deg (dr_pos S) (lt_unscale 𝓥 (has_two S) (d.lt_eq 𝓥 (d.lt_add 𝓥 hX hY) (two_b S v))),
    zero_of v.c S.roots.w_deg (dw_pos S) (lt_unscale 𝓥 (has_two S) (d.lt_eq 𝓥 (d.lt_add 𝓥 hX (d.lt_neg 𝓥 hY)) (two_c S v))),
  )
    where
      zero_of : {x : L.El} {n : ℕ} (a : P S) → Has 𝓥 x n → 1 ≤ n → Lt 𝓥 (a.0 * x) 1 → a.0 ≡ 𝟎
      zero_of a hx l h = elim (view 𝓥 a) [ inl e ↦ e | inr (m, hm) ↦ absurd (omega (arith, d.above 𝓥 (d.has_mul 𝓥 hm hx) h)) ]

  -- everything is a multiple of 1
  pub framed_one : (B : Basis S) → B.U ≡ 1ₚ → Framed S 0ₚ 0ₚ B
  framed_one B e = record { M_a = by_one (off S 0ₚ 0ₚ B.M); N_a = by_one (off S 0ₚ 0ₚ B.N) }
    where
      by_one : (a : P S) → Divides 𝓥 B.U a
      by_one a = (a, sym (ap (λ t. t ⊠ a) e ∙ rg.one-mul Rg a))

  pub order_finished : (B : Basis S) → B.U ≡ 1ₚ → Changed 𝓥 (record { b = 1ₚ; c = 0ₚ }) (record { b = 0ₚ; c = 1ₚ }) (pair S B.M) (pair S B.N) → Finished B → Start S B
  order_finished B U_one change e = record {
    good = record {
      ideal = record { U≢ = nz; rank = rank; one = in_U S B; only = only_of_rank S B nz rank; by_r = λ v i. whole (el_r S ⊗ v); by_w = λ v i. whole (el_w S ⊗ v) };
      basis = e.basis;
      scaled = finished_scaled B e (λ d a₀ a₁ a₂ a₃ a₄ a₅ a₆. subst (Divides 𝓥 d) U_one a₀);
      reduced = reduced_of S B nz rank e.basis only;
    };
    U_one = U_one;
    whole = whole;
  }
    where
      h : Rebased S 0ₚ 0ₚ first B
      h = record {
        old = framed_one first refl;
        new = framed_one B U_one;
        unit = 1ₚ;
        is_a_unit = (1ₚ, sym (Rg.laws.mul-one 1ₚ));
        U_eq = U_one ∙ sym (Rg.laws.mul-one 1ₚ);
        change = change;
      }

      nz : B.U.0 ≢ 𝟎
      nz = rebased_U S h (not_zero 𝓥 (d.has_one 𝓥))

      rank : (det S B).0 ≢ 𝟎
      rank = rebased_rank S h (not_zero 𝓥 (d.has_eq 𝓥 (d.has_one 𝓥) (ring₁ L (λ x. one := one :* one :+ minus (zer :* zer)) tt 𝟏)))

      whole : (u : (O S).El) → In S B u
      whole u = rebased_to S h u (first_whole u)

      only : OnlyPolys S B
      only u hU v i b =
          let z : u ≡ 0 = d.same 𝓥 hU (d.has_eq 𝓥 (d.has_one 𝓥) (sym (ap (λ t. t.0) U_one))) in
          order_poly v (d.lt_up 𝓥 1 b.X_lt (omega arith)) (d.lt_up 𝓥 1 b.Y_lt (omega arith))

  pub order_correct : (B : Basis S) → B.U ≡ 1ₚ → Changed 𝓥 (record { b = 1ₚ; c = 0ₚ }) (record { b = 0ₚ; c = 1ₚ }) (pair S B.M) (pair S B.N) → NumbersOf S B → Start S B
  order_correct B U_one change e = order_finished B U_one change (finished B e)
