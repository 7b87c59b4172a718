-- What stands at an element.
--   at_cancel        such an element can be cancelled
--   at_times         J at E is at E η for every unit η
--   at_start         the order's basis is at 1, and so at every unit
--   at_basis         two reduced ideals at one element are one
--   at_norm at_form  such an element has a norm that is not 0, and 4 times its cofactor's value has a degree where its value has one
use mathlib.Core.Path.{◌≡◌, sym, ap, ◌∙◌, subst}
use mathlib.Core.List.{[], ◌∷◌}
use Prim.Native.Nat.{ℕ}
use Rattle.math_ring.proofs.Laws as rg
use Rattle.math_ring.proofs.Solve.{var, hyp, one, minus, ◌:*◌, solve_by}
use Rattle.math_valued.specs.Degree.{HasDeg, Has}
use Rattle.math_valued.specs.Polynomial.{polys}
use Rattle.math_valued.proofs.Degree as d
use Rattle.math_valued.proofs.Polynomial.{degree, not_zero}
use Rattle.math_ideals.specs.Setting.{Setting}
use Rattle.math_ideals.specs.Element.{O, sc, ev, norm}
use Rattle.math_ideals.specs.Ideal.{Basis}
use Rattle.math_ideals.specs.Basis.{Good}
use Rattle.math_ideals.specs.Next.{Whole, At, Start}
use Rattle.math_ideals.proofs.Sizes.{sc_cancel}
use Rattle.math_ideals.proofs.Values.{ev_Q, norm_mul}
use Rattle.math_ideals.proofs.Norm.{F, F_deg, norm_sc}
use Rattle.math_ideals.proofs.Unique.{good_unique}
use Rattle.math_ideals.proofs.Divided.{over_same}
use Rattle.math_chain.specs.Unit.{Invertible}
use Rattle.math_chain.proofs.Passed.{over_start}

module _ (S : Setting) where
  open S use {𝓥}
  open 𝓥 use {L}
  open L.ops use {mul as ◌*◌}
  open (polys 𝓥).ops use {mul as ◌⊠◌}
  open (O S).ops use {mul as ◌⊗◌, 𝟏 as 1ₒ}

  infixl 70 ◌*◌ ◌⊗◌ ◌⊠◌
  module _ {u : ℕ} (J : Basis S) (E : (O S).El) (hU : Has 𝓥 J.U.0 u) (at : At S J E) where
    -- E v = U for some v, so E cancels where U does
    pub at_cancel : (x y : (O S).El) → E ⊗ x ≡ E ⊗ y → x ≡ y
    at_cancel x y e =
        let (v, i, f) = at.onto 1ₒ tt in
        let U = var 0 in let A = var 1 in let x₀ = var 2 in let y₀ = var 3 in let v₀ = var 4 in
        sc_cancel S J.U x y hU
        (solve_by (O S) (U :* x₀) (U :* y₀) (hyp v₀ (A :* x₀) (A :* y₀) ∷ hyp (minus x₀) (A :* v₀) (U :* one) ∷ hyp y₀ (A :* v₀) (U :* one) ∷ []) tt
        (sc S J.U ∷ E ∷ x ∷ y ∷ v ∷ []) (e, (f, (f, tt))))

    -- norm E · norm v = U³
    pub at_norm : (k : ℕ) × Has 𝓥 (norm S E).0 k
    at_norm =
        let (v, i, f) = at.onto 1ₒ tt in
        let e : norm S E ⊠ norm S v ≡ J.U ⊠ J.U ⊠ J.U = sym (norm_mul S E v) ∙ ap (norm S) (f ∙ (O S).laws.mul-one (sc S J.U)) ∙ norm_sc S J.U in
        let hUUU = d.has_mul 𝓥 (d.has_mul 𝓥 hU hU) hU in
        degree 𝓥 (norm S E) (λ z. not_zero 𝓥 hUUU (sym (ap (λ t. t.0) e) ∙ ap (λ t. t * (norm S v).0) z ∙ rg.zero_mul' L (norm S v).0))

    pub at_form : {p q : ℕ} → HasDeg 𝓥 (ev S E) p q → (p' q' : ℕ) × HasDeg 𝓥 (F S E) p' q'
    at_form h = (_, _, F_deg S E (d.has_cancel 𝓥 h (d.has_eq 𝓥 at_norm.1 (sym (ev_Q S E)))))

  -- ---- units
  pub at_times : (J : Basis S) (E η : (O S).El) → Invertible S η → At S J E → At S J (E ⊗ η)
  at_times J E η (θ, e) at =
      let A = var 0 in let h = var 1 in let v₀ = var 2 in let U = var 3 in let u₀ = var 4 in let k = var 5 in
      record {
        into = λ v i.
            let (u, t, f) = at.into v i in
            (η ⊗ u, tt, solve_by (O S) (A :* h :* v₀) (U :* (h :* u₀)) (hyp h (A :* v₀) (U :* u₀) ∷ []) tt (E ∷ η ∷ v ∷ sc S J.U ∷ u ∷ []) (f, tt));
        onto = λ z t.
            let (v, i, f) = at.onto (θ ⊗ z) tt in
            (v, i, solve_by (O S) (A :* h :* v₀) (U :* u₀) (hyp h (A :* v₀) (U :* (k :* u₀)) ∷ hyp (U :* u₀) (h :* k) one ∷ []) tt (E ∷ η ∷ v ∷ sc S J.U ∷ z ∷ θ ∷ []) (f, (e, tt)));
      }

  pub at_start : (B₀ : Basis S) → Start S B₀ → (η : (O S).El) → Invertible S η → At S B₀ η
  at_start B₀ st η inv = subst (At S B₀) (rg.one-mul (O S) η) (at_times B₀ 1ₒ η inv (over_start S B₀ st))

  -- ---- one ideal
  pub at_basis : (B J : Basis S) (E : (O S).El) → Good S B → Good S J → At S B E → At S J E → B ≡ J
  at_basis B J E good good' at at' =
      let (u, hU) = degree 𝓥 B.U good.ideal.U≢ in
      good_unique S B J good good' (over_same S (Whole S) E (at_cancel B E hU at) B J at at')
