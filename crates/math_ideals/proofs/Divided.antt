-- The next ideal is one, it is reduced, and it has one basis.
--   ev_M norm_M      the value of m has the degree of X(m), and the norm of M is not 0
--   poly_only        only polynomials have all sizes at most 0 in the next ideal
--   over_ideal       an ideal divided by an element that cancels is an ideal
--   next_ideal       so the next of an ideal is one
--   next_reduced     and it is reduced
--   over_same        E · (Λ'/U') = Λ settles the ideal of B' where E cancels
--   next_same next_unique   so a basis has one next
use mathlib.Core.Path.{◌≡◌, sym, ap, ◌∙◌, subst}
use mathlib.Core.List.{[], ◌∷◌}
use mathlib.Core.Logic.{◌≢◌}
use Prim.Native.Nat.{ℕ, suc, ◌<◌, ◌+◌ as ◌+ⁿ◌}
use native.Mathlib.Omega.{arith}
use Rattle.math_ring.proofs.Solve.{var, hyp, solve_by, one, minus, ◌:*◌, ◌:=◌, ring₃}
use Rattle.math_valued.specs.Degree.{Has, Lt}
use Rattle.math_valued.specs.Polynomial.{polys}
use Rattle.math_valued.proofs.Degree as d
use Rattle.math_valued.proofs.Compare.{lt_mul_sharp, has_scale, has_unscale, lt_scale, lt_unscale}
use Rattle.math_ideals.specs.Setting.{Setting}
use Rattle.math_ideals.specs.Element.{O, sc, el_r, el_w, ev, Y, Z, norm}
use Rattle.math_ideals.specs.Ideal.{Basis, In, det, Ideal}
use Rattle.math_ideals.specs.Basis.{ReducedBasis, Reduced, Good}
use Rattle.math_ideals.specs.Next.{Over, Next, Same}
use Rattle.math_ideals.proofs.Sizes.{ev_sc, ev_xz}
use Rattle.math_ideals.proofs.Values.{ev_mul}
use Rattle.math_ideals.proofs.Form.{has_two, has_three, form_below, form_at_most}
use Rattle.math_ideals.proofs.Lattice.{in_U, sc_mul}
use Rattle.math_ideals.proofs.Minimum.{minimum_in}
use Rattle.math_ideals.proofs.Unique.{good_unique}
use Rattle.math_ideals.proofs.Norm.{F, F_mul, yz_of, Below, below_of, Q_deg, norm_deg, cancel_O, M_not}
use Rattle.math_ideals.proofs.Degrees.{Small, small, to_sized}
use Rattle.math_ideals.proofs.Reduced.{OnlyPolys, reduced_of}
use Rattle.math_ideals.proofs.Check.{only_of_rank}

module _ (S : Setting) where
  open S use {𝓥}
  open S.roots use {G, H, r, w}
  open 𝓥 use {K, L, Lead}
  open L.ops use {add as ◌+◌, mul as ◌*◌, neg as -◌, 𝟎, 𝟏}
  open K.ops use {add as ◌+ᵏ◌, mul as ◌*ᵏ◌, neg as -ᵏ◌, 𝟎 as 0ᵏ, 𝟏 as 1ᵏ}
  open (O S).ops use {add as ◌⊕◌, mul as ◌⊗◌}

  infixl 60 ◌+◌ ◌⊕◌ ◌+ᵏ◌
  infixl 70 ◌*◌ ◌⊗◌ ◌*ᵏ◌
  infix 80 -◌ -ᵏ◌
  -- the value of m has the degree of X(m)
  pub ev_M : (B : Basis S) (s : Small S B) → Has 𝓥 (ev S B.M) s.x
  ev_M B s =
      let l : s.u < s.x = s.u<x in
      has_unscale 𝓥 (has_two S) (d.has_eq 𝓥 (d.has_lt 𝓥 (has_scale 𝓥 (has_three S) s.X_M) (d.lt_up 𝓥 s.x s.Z_M (omega arith))) (sym (ev_xz S B.M)))

  pub norm_M : (B : Basis S) → Good S B → (s : Small S B) → (n : ℕ) × Has 𝓥 (norm S B.M).0 n
  norm_M B good s = let (p, q, h) = Q_deg S B.M (M_not S B good.ideal.rank) in norm_deg S B.M (ev_M B s) h

  -- An element of the next ideal with all sizes at most 0 is a polynomial.
  pub poly_only : (B B' : Basis S) → Good S B → Next S B B' → OnlyPolys S B'
  poly_only B B' good next u' U'-has v iv low = (ap (λ z. z.b.0) v_eq, ap (λ z. z.c.0) v_eq)
    where
      s : Small S B
      s = small S B good

      u : (O S).El
      u = (next.into v iv).0

      iu : In S B u
      iu = (next.into v iv).1

      e : B.M ⊗ v ≡ sc S B'.U ⊗ u
      e = (next.into v iv).2

      -- deg ev(v) ≤ 0, so deg ev(u) ≤ deg ev(M)
      ev_v : Lt 𝓥 (ev S v) (suc u')
      ev_v = lt_unscale 𝓥 (has_two S) (d.lt_eq 𝓥 (d.lt_add 𝓥 (lt_scale 𝓥 (has_three S) low.X_lt) low.Z_lt) (sym (ev_xz S v)))

      ev_u : Lt 𝓥 (ev S u) (suc s.x)
      ev_u = d.lt_cancel 𝓥 (suc s.x) U'-has (d.lt_up 𝓥 (u' +ⁿ suc s.x) (d.lt_eq 𝓥 (d.lt_has_mul 𝓥 ev_v (ev_M B s)) (L.laws.mul_comm _ _ ∙ sym (ev_mul S B.M v) ∙ ap (ev S) e ∙ ev_sc S B'.U u)) (omega arith))

      -- deg F(v) ≤ 2 deg U' and deg F(M) < 2 deg U, so deg F(u) < 2 deg U
      F_u : Lt 𝓥 (F S u) (s.u +ⁿ s.u)
      F_u = d.lt_cancel 𝓥 (s.u +ⁿ s.u) (d.has_mul 𝓥 U'-has U'-has) (lt_unscale 𝓥 (has_two S) (lt_unscale 𝓥 (has_two S)
          (d.lt_eq 𝓥 (lt_mul_sharp 𝓥 (form_at_most S low.Y_lt low.Z_lt) (form_below S s.Y_M s.Z_M)) (L.laws.mul_comm _ _ ∙ F_mul S B'.U B.M v u e))))

      b_u : Below S u (suc s.x)
      b_u = let l : s.u < s.x = s.u<x in below_of S u (suc s.x) (d.lt_up 𝓥 (suc s.x +ⁿ suc s.x) F_u (omega arith)) ev_u

      b_u' : Lt 𝓥 (Y S u) s.u × Lt 𝓥 (Z S u) s.u
      b_u' = yz_of S u s.u F_u

      v_eq : v ≡ sc S ((polys 𝓥).ops.mul B'.U (minimum_in S B (to_sized S B s) u iu b_u'.0 b_u'.1 (𝓥.lead_move s.x 0 (𝓥.lead_down b_u.X_lt).1 (omega arith))).0)
      v_eq =
          let (β, k, f) = minimum_in S B (to_sized S B s) u iu b_u'.0 b_u'.1 (𝓥.lead_move s.x 0 (𝓥.lead_down b_u.X_lt).1 (omega arith)) in
          cancel_O S B.M v _ (norm_M B good s).1
          (e ∙ ap (λ t. sc S B'.U ⊗ t) f ∙ ring₃ (O S) (λ u b m. u :* (b :* m) := m :* (u :* b)) tt (sc S B'.U) (sc S β) B.M ∙ ap (λ t. B.M ⊗ t) (sym (sc_mul S B'.U β)))

  -- an ideal divided by an element that cancels: closed under r and w, as the ideal is
  pub over_ideal :
      (B B' : Basis S) → Ideal S B → (E : (O S).El) → ((x y : (O S).El) → E ⊗ x ≡ E ⊗ y → x ≡ y) → Over S (In S B) E B' →
      B'.U.0 ≢ 𝟎 → (det S B').0 ≢ 𝟎 →
      Ideal S B'
  over_ideal B B' ideal E cancel over nz rank = record {
    U≢ = nz;
    rank = rank;
    one = in_U S B';
    only = only_of_rank S B' nz rank;
    by_r = closed (el_r S) ideal.by_r;
    by_w = closed (el_w S) ideal.by_w;
  }
    where
      closed : (x : (O S).El) → ((u : (O S).El) → In S B u → In S B (x ⊗ u)) → (v : (O S).El) → In S B' v → In S B' (x ⊗ v)
      closed x h v i =
          let (u, iu, e) = over.into v i in
          let (v', i', e') = over.onto (x ⊗ u) (h u iu) in
          subst (In S B') (cancel v' (x ⊗ v)
          (solve_by (O S) (var 0 :* var 1) (var 0 :* (var 2 :* var 3)) (hyp one (var 0 :* var 1) (var 4 :* (var 2 :* var 5)) ∷ hyp (minus (var 2)) (var 0 :* var 3) (var 4 :* var 5) ∷ []) tt
          (E ∷ v' ∷ x ∷ v ∷ sc S B'.U ∷ u ∷ []) (e', (e, tt)))) i'

  -- M cancels
  cancel_M : (B : Basis S) → Good S B → (x y : (O S).El) → B.M ⊗ x ≡ B.M ⊗ y → x ≡ y
  cancel_M B good x y = cancel_O S B.M x y (norm_M B good (small S B good)).1

  pub next_ideal : (B B' : Basis S) → Good S B → Next S B B' → B'.U.0 ≢ 𝟎 → (det S B').0 ≢ 𝟎 → Ideal S B'
  next_ideal B B' good = over_ideal B B' good.ideal B.M (cancel_M B good)

  -- so the next ideal is reduced
  pub next_reduced : (B B' : Basis S) → Good S B → Next S B B' → B'.U.0 ≢ 𝟎 → (det S B').0 ≢ 𝟎 → ReducedBasis S B' → Reduced S B'
  next_reduced B B' good next nz rank basis = reduced_of S B' nz rank basis (poly_only B B' good next)

  -- E · (Λ'/U') = Λ = E · (Λ''/U''): the two ideals are one, whatever the lattice Λ
  pub over_same : (Λ : (O S).El → Type 0) (E : (O S).El) → ((x y : (O S).El) → E ⊗ x ≡ E ⊗ y → x ≡ y) →
      (B' B'' : Basis S) → Over S Λ E B' → Over S Λ E B'' → Same S B' B''
  over_same Λ E cancel B' B'' o' o'' = record {
    into = λ v i.
        let (u, iu, e) = o''.into v i in
        let (v', i', e') = o'.onto u iu in
        (v', i', equal u v v' e e');
    onto = λ v' i'.
        let (u, iu, e') = o'.into v' i' in
        let (v, i, e) = o''.onto u iu in
        (v, i, equal u v v' e e');
  }
    where
      equal : (u v v' : (O S).El) → E ⊗ v ≡ sc S B''.U ⊗ u → E ⊗ v' ≡ sc S B'.U ⊗ u → sc S B'.U ⊗ v ≡ sc S B''.U ⊗ v'
      equal u v v' e e' =
          let A = var 0 in let a = var 1 in let b = var 2 in let u₀ = var 3 in let v₀ = var 4 in let v₁ = var 5 in
          cancel _ _
          (solve_by (O S) (A :* (a :* v₀)) (A :* (b :* v₁)) (hyp a (A :* v₀) (b :* u₀) ∷ hyp (minus b) (A :* v₁) (a :* u₀) ∷ []) tt
          (E ∷ sc S B'.U ∷ sc S B''.U ∷ u ∷ v ∷ v' ∷ []) (e, (e', tt)))

  -- The relation `Next` settles the ideal, and so its scaled reduced basis.
  pub next_same : (B B' B'' : Basis S) → Good S B → Next S B B' → Next S B B'' → Same S B' B''
  next_same B B' B'' good = over_same (In S B) B.M (cancel_M B good) B' B''

  pub next_unique : (B B' B'' : Basis S) → Good S B → Good S B' → Good S B'' → Next S B B' → Next S B B'' → B' ≡ B''
  next_unique B B' B'' good g' g'' n' n'' = good_unique S B' B'' g' g'' (next_same B B' B'' good n' n'')
