-- Units of the order, their degrees and their places in the chain.
--   unit_flip unit_times norm_invertible   the inverse is a unit, so is a product, and so is what has a constant norm
--   unit_has            every unit has a degree
--   unit_reached        a unit of degree n ≥ 0 is a constant times the product of a chain with the degree sum n that is back at the order
--   unit_constant       a unit of degree 0 is a constant
--   same_degree         two units of one degree differ by a constant
--   unit_closes         where there is a unit of positive degree, the chain from the order closes, with no larger degree sum
--   none_below          an open chain: no unit has a degree from 1 to its degree sum
--   none_within         nor from 1 to a number of steps of which none closes
use mathlib.Core.Path.{◌≡◌, refl, sym, ap, ◌∙◌}
use mathlib.Core.List.{[], ◌∷◌}
use Prim.Native.Nat.{ℕ, suc, ◌≤◌, ◌<◌, ◌-◌ as ◌-ⁿ◌}
use native.Mathlib.Omega.{arith}
use native.Mathlib.Decide.{dec_le}
use Rattle.math_ring.proofs.Laws as rg
use Rattle.math_ring.proofs.Solve.{var, hyp, one, minus, ◌:*◌, solve_by}
use Rattle.math_valued.specs.Degree.{HasDeg, Has}
use Rattle.math_valued.specs.Polynomial.{IsUnit}
use Rattle.math_valued.proofs.Degree as d
use Rattle.math_valued.proofs.Polynomial.{unit_const}
use Rattle.math_ideals.specs.Setting.{Setting, P}
use Rattle.math_ideals.specs.Element.{O, sc, ev, norm, cof}
use Rattle.math_ideals.specs.Ideal.{Basis}
use Rattle.math_ideals.specs.Next.{Start}
use Rattle.math_ideals.proofs.Values.{ev_mul}
use Rattle.math_ideals.proofs.Norm.{ev_deg}
use Rattle.math_chain.specs.Chain.{Chain, here, tops, bottoms, Open, Closing}
use Rattle.math_chain.specs.Unit.{Invertible}
use Rattle.math_chain.proofs.Walk.{same_chain, same_products, prefix, chain_room, chain_rise, has_step, first_closing}
use Rattle.math_chain.proofs.Exists.{order_exists, chain_exists}
use Rattle.math_chain.proofs.Unit.{norm_unit, cof_inverse, inverse_has}
use Rattle.math_fundamental.specs.Complete.{Reached}
use Rattle.math_fundamental.specs.Smallest.{NoneBetween}
use Rattle.math_fundamental.proofs.At.{at_start}
use Rattle.math_fundamental.proofs.Complete.{complete}

module _ (S : Setting) where
  open S use {𝓥}
  open (O S).ops use {mul as ◌⊗◌, 𝟏 as 1ₒ}

  infixl 70 ◌⊗◌
  -- ---- units
  pub unit_flip : {η θ : (O S).El} → η ⊗ θ ≡ 1ₒ → θ ⊗ η ≡ 1ₒ
  unit_flip {η} {θ} e = (O S).laws.mul_comm θ η ∙ e

  pub unit_times : (η ζ : (O S).El) → Invertible S η → Invertible S ζ → Invertible S (η ⊗ ζ)
  unit_times η ζ (θ, e) (ξ, f) =
      let a = var 0 in let a' = var 1 in let b = var 2 in let b' = var 3 in
      (θ ⊗ ξ, solve_by (O S) (a :* b :* (a' :* b')) one (hyp (b :* b') (a :* a') one ∷ hyp one (b :* b') one ∷ []) tt (η ∷ θ ∷ ζ ∷ ξ ∷ []) (e, (f, tt)))

  pub norm_invertible : (η : (O S).El) → IsUnit 𝓥 (norm S η) → Invertible S η
  norm_invertible η (ν, e) = (sc S ν ⊗ cof S η, cof_inverse S η ν e)

  pub unit_has : (η : (O S).El) → Invertible S η → (p q : ℕ) × HasDeg 𝓥 (ev S η) p q
  unit_has η (θ, e) = ev_deg S η (unit_const 𝓥 (norm S η) (norm_unit S η θ e))

  -- ---- their places
  module _ (B₀ : Basis S) (st : Start S B₀) where
    pub unit_reached : {n : ℕ} (η : (O S).El) → Invertible S η → Has 𝓥 (ev S η) n → Reached S B₀ B₀ η n
    unit_reached η inv h = complete S B₀ st.good η (at_start S B₀ st η inv) h B₀ st

    pub unit_closes : {n : ℕ} (η : (O S).El) → Invertible S η → Has 𝓥 (ev S η) n → 1 ≤ n → (l m : ℕ) × (B : Basis S) × Closing S B₀ l m B × (m ≤ n)
    unit_closes {n} η inv h some =
        let r : Reached S B₀ B₀ η n = unit_reached η inv h in
        let (l, m, B, c, le) = first_closing S B₀ st.good r.chain (has_step S B₀ st.good r.chain some) st.U_one in
        let (m', B', c', less) = prefix S B₀ r.chain l le in
        let (f, g) = same_chain S B₀ st.good c.chain c' refl in
        (l, m, B, c, omega arith)

    pub none_below : {s n : ℕ} {B : Basis S} → Chain S B₀ s n B → Open S B₀ s → NoneBetween S (suc n)
    none_below {s} {n} c free η inv p q h lo hi =
        let hη : Has 𝓥 (ev S η) (p -ⁿ q) = d.has_move 𝓥 (p -ⁿ q) 0 h (omega arith) in
        let r : Reached S B₀ B₀ η (p -ⁿ q) = unit_reached η inv hη in
        elim (dec_le r.steps s) [
          | yes k ↦ free r.steps (p -ⁿ q) B₀ (has_step S B₀ st.good r.chain (omega arith)) k r.chain st.U_one
          | no k ↦ let z : n < p -ⁿ q = chain_rise S B₀ st.good c r.chain (omega arith) in absurd (omega arith)
        ]

    -- each step adds 1 or more to the degree sum
    pub none_within : (s : ℕ) → Open S B₀ s → NoneBetween S (suc s)
    none_within s free η inv p q h lo hi =
        let (n, B, c) = chain_exists S B₀ st.good s in
        let (l, k) = chain_room S B₀ st.good c in
        none_below c free η inv p q h lo (omega arith)

  -- ---- units of one degree
  pub unit_constant : (η : (O S).El) → Invertible S η → Has 𝓥 (ev S η) 0 → (c : P S) × IsUnit 𝓥 c × (η ≡ sc S c)
  unfolding tops bottoms
  unit_constant η inv h =
      let (B₀, st) = order_exists S in
      let r : Reached S B₀ B₀ η 0 = unit_reached B₀ st η inv h in
      let (l, k) = chain_room S B₀ st.good r.chain in
      let (i, j) = same_products S B₀ st.good r.chain here (omega arith) in
      (r.scale, r.is_a_unit, sym (rg.one-mul (O S) η) ∙ ap (λ t. sc S t ⊗ η) (sym j) ∙ r.product ∙ ap (λ t. sc S r.scale ⊗ t) i ∙ (O S).laws.mul-one (sc S r.scale))

  pub same_degree : {p q : ℕ} (η ζ : (O S).El) → Invertible S η → Invertible S ζ → HasDeg 𝓥 (ev S η) p q → HasDeg 𝓥 (ev S ζ) p q →
      (c : P S) × IsUnit 𝓥 c × (η ≡ sc S c ⊗ ζ)
  same_degree η ζ inv (ξ, f) h g =
      let h₀ : Has 𝓥 (ev S (η ⊗ ξ)) 0 = d.has_move 𝓥 0 0 (d.has_eq 𝓥 (d.has_mul 𝓥 h (inverse_has S ζ ξ f g)) (sym (ev_mul S η ξ))) (omega arith) in
      let (c, u, e) = unit_constant (η ⊗ ξ) (unit_times η ξ inv (ζ, unit_flip f)) h₀ in
      let a = var 0 in let b = var 1 in let b' = var 2 in let k = var 3 in
      (c, u, solve_by (O S) a (k :* b) (hyp (minus a) (b :* b') one ∷ hyp b (a :* b') k ∷ []) tt (η ∷ ζ ∷ ξ ∷ sc S c ∷ []) (f, (e, tt)))
