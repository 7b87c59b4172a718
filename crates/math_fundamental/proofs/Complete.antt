-- The chain from the order is complete.
--   at_minimum     E is a minimum of the order: what E bounds in value and cofactor's value is a constant multiple of E
--   complete       a reduced ideal at E of degree n ≥ 0 is passed with the degree sum n, and E is a constant times the product passed
--   completeness   the three sentences of specs/Complete
use mathlib.Core.Path.{◌≡◌, sym, ap, ◌∙◌, subst}
use mathlib.Core.List.{[], ◌∷◌}
use mathlib.Core.Logic.{◌⊎◌, inl, inr}
use Prim.Native.Nat.{ℕ, zero, suc, ◌≤◌, ◌<◌, ◌+◌ as ◌+ⁿ◌, ◌-◌ as ◌-ⁿ◌}
use native.Mathlib.Omega.{arith}
use native.Mathlib.Decide.{dec_le}
use Rattle.math_ring.proofs.Laws as rg
use Rattle.math_ring.proofs.Solve.{var, hyp, one, minus, ◌:*◌, solve_by}
use Rattle.math_valued.specs.Degree.{HasDeg, Has, Lt}
use Rattle.math_valued.specs.Polynomial.{polys}
use Rattle.math_valued.proofs.Degree as d
use Rattle.math_valued.proofs.Compare.{has_scale}
use Rattle.math_valued.proofs.Polynomial.{degree, not_zero, const_unit}
use Rattle.math_ideals.specs.Setting.{Setting, P}
use Rattle.math_ideals.specs.Element.{O, sc, ev, Y, Z}
use Rattle.math_ideals.specs.Ideal.{Basis, In}
use Rattle.math_ideals.specs.Basis.{Good}
use Rattle.math_ideals.specs.Next.{At, Start}
use Rattle.math_ideals.proofs.Sizes.{sc_cancel, ev_sc}
use Rattle.math_ideals.proofs.Values.{ev_mul}
use Rattle.math_ideals.proofs.Form.{has_two, form_look}
use Rattle.math_ideals.proofs.Lattice.{sc_mul}
use Rattle.math_ideals.proofs.Norm.{F, F_mul, yz_lt, X_of}
use Rattle.math_ideals.proofs.Minimum.{Const, minimum_in}
use Rattle.math_ideals.proofs.Degrees.{Small, small, to_sized}
use Rattle.math_ideals.proofs.Reduced.{bounded}
use Rattle.math_ideals.proofs.Divided.{ev_M}
use Rattle.math_chain.specs.Chain.{Degree, Chain, here, then, Product, tops, bottoms}
use Rattle.math_chain.proofs.Walk.{chain_good, same_sum}
use Rattle.math_chain.proofs.Passed.{Passed, passed, product_scaled}
use Rattle.math_chain.proofs.Exists.{step_exists}
use Rattle.math_fundamental.specs.Complete.{Reached, Completeness}
use Rattle.math_fundamental.proofs.At.{at_times, at_basis, at_form}

module _ (S : Setting) where
  open S use {𝓥}
  open 𝓥 use {L}
  open L.ops use {mul as ◌*◌}
  open (O S).ops use {mul as ◌⊗◌, 𝟏 as 1ₒ}

  infixl 70 ◌*◌ ◌⊗◌
  -- where E w = U A: the degrees of w, from those of E and A
  ev_over : {u n m : ℕ} (U : P S) (E w A : (O S).El) → E ⊗ w ≡ sc S U ⊗ A → Has 𝓥 U.0 u → Has 𝓥 (ev S E) n → Has 𝓥 (ev S A) m →
      HasDeg 𝓥 (ev S w) (u +ⁿ m) n
  ev_over U E w A f hU h_e hA = d.has_move 𝓥 _ _ (d.has_cancel 𝓥 h_e (d.has_eq 𝓥 (d.has_mul 𝓥 hU hA) (sym (sym (ev_mul S E w) ∙ ap (ev S) f ∙ ev_sc S U A)))) (omega arith)

  F_over : {u p q p' q' : ℕ} (U : P S) (E w A : (O S).El) → E ⊗ w ≡ sc S U ⊗ A → Has 𝓥 U.0 u → HasDeg 𝓥 (F S E) p' q' → HasDeg 𝓥 (F S A) p q →
      HasDeg 𝓥 (F S w) (q' +ⁿ (u +ⁿ u +ⁿ p)) (p' +ⁿ (0 +ⁿ 0 +ⁿ q))
  F_over U E w A f hU h_e hA =
      d.has_cancel 𝓥 h_e (d.has_eq 𝓥 (has_scale 𝓥 (has_two S) (has_scale 𝓥 (has_two S) (d.has_mul 𝓥 (d.has_mul 𝓥 hU hU) hA))) (sym (F_mul S U E w A f)))

  module _ (J : Basis S) (good : Good S J) (E : (O S).El) (at : At S J E) {n : ℕ} (E_deg : Has 𝓥 (ev S E) n) where
    -- E w = U A, and w is bounded by U as 1 is a minimum of Λ/U: w = U a
    pub at_minimum : {m p q p' q' : ℕ} (A : (O S).El) → Has 𝓥 (ev S A) m → m ≤ n → HasDeg 𝓥 (F S A) p q → HasDeg 𝓥 (F S E) p' q' → p +ⁿ q' ≤ p' +ⁿ q →
        (a : P S) × (A ≡ sc S a ⊗ E) × Has 𝓥 a.0 0 × (m ≡ n)
    at_minimum {m} {p} {q} {p'} {q'} A hA l hF hF' k =
        let (u, hU) = degree 𝓥 J.U good.ideal.U≢ in
        let (w, i, f) = at.onto A tt in
        let ev-w : HasDeg 𝓥 (ev S w) (u +ⁿ m) n = ev_over J.U E w A f hU E_deg hA in
        let F-w : HasDeg 𝓥 (F S w) (q' +ⁿ (u +ⁿ u +ⁿ p)) (p' +ⁿ (0 +ⁿ 0 +ⁿ q)) = F_over J.U E w A f hU hF' hF in
        let (a, w_eq) = bounded S J good hU w i (𝓥.lead_up (suc u) 0 ev-w.2 (omega arith)) (𝓥.lead_up (suc (u +ⁿ u)) 0 F-w.2 (omega arith)) in
        let U = var 0 in let A₀ = var 1 in let a₀ = var 2 in let E₀ = var 3 in let w₀ = var 4 in
        let A-eq : A ≡ sc S a ⊗ E = sc_cancel S J.U A (sc S a ⊗ E) hU
        (solve_by (O S) (U :* A₀) (U :* (a₀ :* E₀)) (hyp (minus one) (E₀ :* w₀) (U :* A₀) ∷ hyp E₀ w₀ (U :* a₀) ∷ []) tt (sc S J.U ∷ A ∷ sc S a ∷ E ∷ w ∷ []) (f, (w_eq, tt))) in
        let v_eq : ev S A ≡ a.0 * ev S E = ap (ev S) A-eq ∙ ev_sc S a E in
        let (o, ha) = degree 𝓥 a (λ z. not_zero 𝓥 hA (v_eq ∙ ap (λ t. t * ev S E) z ∙ rg.zero_mul' L (ev S E))) in
        let s : m ≡ o +ⁿ n = d.same 𝓥 hA (d.has_eq 𝓥 (d.has_mul 𝓥 ha E_deg) (sym v_eq)) in
        (a, A-eq, subst (λ j. Has 𝓥 a.0 j) (omega arith) ha, omega arith)

    module _ (B₀ : Basis S) (st : Start S B₀) where
      -- a place of the chain whose product is a constant times E
      there : {s m : ℕ} {B : Basis S} (c : Chain S B₀ s m B) (A : (O S).El) → Product S c A → At S B A →
          (a : P S) → A ≡ sc S a ⊗ E → Has 𝓥 a.0 0 → m ≡ n → Reached S B₀ J E n
      there {s} {m} {B} c A p over a e ha m_eq =
          let (a', f) = const_unit 𝓥 a ha in
          let inv : sc S a ⊗ sc S a' ≡ 1ₒ = sym (sc_mul S a a') ∙ ap (sc S) (sym f) in
          let at' : At S J A = subst (At S J) ((O S).laws.mul_comm E (sc S a) ∙ sym e) (at_times S J E (sc S a) (sc S a', inv) at) in
          let B-eq : B ≡ J = at_basis S B J A (chain_good S B₀ st.good c) good over at' in
          let b = var 0 in let E₀ = var 1 in let k' = var 2 in let t = var 3 in let k = var 4 in let A₀ = var 5 in
          let at-B : Reached S B₀ B E m = record {
            steps = s;
            chain = c;
            scale = a';
            is_a_unit = (a, f ∙ (polys 𝓥).laws.mul_comm a a');
            product = solve_by (O S) (b :* E₀) (k' :* t) (hyp (minus (b :* E₀)) (k :* k') one ∷ hyp (minus (b :* k')) A₀ (k :* E₀) ∷ hyp k' (b :* A₀) t ∷ []) tt
                (sc S (bottoms S c) ∷ E ∷ sc S a' ∷ tops S c ∷ sc S a ∷ A ∷ []) (inv, (e, (p, tt)));
          } in
          subst (λ z. Reached S B₀ z E n) B-eq (subst (λ z. Reached S B₀ B E z) m_eq at-B)

      -- the place with deg A ≤ n < deg A m, where A is the product passed: v = U E / A lies in the ideal there
      found : {s m : ℕ} (B : Basis S) (c : Chain S B₀ s m B) → Passed S c → m ≤ n → (t : Small S B) → n +ⁿ t.u < m +ⁿ t.x → Reached S B₀ J E n
      found {s} {m} B c p l t before =
          go (form_look S j t.u (d.lt_up 𝓥 (j +ⁿ t.u) (yz_lt S v).1 (omega arith)) (d.lt_up 𝓥 (j +ⁿ t.u) (yz_lt S v).2 (omega arith)))
        where
          v : (O S).El
          v = (p.over.onto E tt).0

          i : In S B v
          i = (p.over.onto E tt).1

          e : p.E ⊗ v ≡ sc S B.U ⊗ E
          e = (p.over.onto E tt).2

          j : ℕ
          j = (yz_lt S v).0

          ev_v : HasDeg 𝓥 (ev S v) (t.u +ⁿ n) m
          ev_v = ev_over B.U p.E v E e t.U_has p.E_deg E_deg

          -- a constant times M is too large for v
          none : (β : P S) → Const S β → ev S v ≡ β.0 * ev S B.M → ⊥
          none β (inl z) f = not_zero 𝓥 ev_v (f ∙ ap (λ s. s * ev S B.M) z ∙ rg.zero_mul' L (ev S B.M))
          none β (inr h) f = let k : t.u +ⁿ n +ⁿ 0 ≡ 0 +ⁿ t.x +ⁿ m = d.has_unique 𝓥 ev_v (d.has_eq 𝓥 (d.has_mul 𝓥 h (ev_M S B t)) (sym f)) in absurd (omega arith)

          go : (Lt 𝓥 (Y S v) t.u × Lt 𝓥 (Z S v) t.u) ⊎ ((i : ℕ) × (t.u ≤ i) × Has 𝓥 (F S v) (i +ⁿ i)) → Reached S B₀ J E n
          -- v is small in Y and Z: then it is a constant times M
          go (inl (hy, hz)) =
              let u<x : t.u < t.x = t.u<x in
              let hx = X_of S v t.x (𝓥.lead_up t.x 0 ev_v.2 (omega arith)) (d.lt_up 𝓥 t.x hz (omega arith)) in
              let (β, k, f) = minimum_in S B (to_sized S B t) v i hy hz hx in
              absurd (none β k (ap (ev S) f ∙ ev_sc S β B.M))
          -- else A is bounded by E, which is a minimum
          go (inr (o, l', hF)) =
              let (u, hU) = degree 𝓥 J.U good.ideal.U≢ in
              let (p', q', h_e) = at_form S J E hU at E_deg in
              let comm : F S v * F S p.E ≡ F S p.E * F S v = L.laws.mul_comm (F S v) (F S p.E) in
              let hEU = has_scale 𝓥 (has_two S) (has_scale 𝓥 (has_two S) (d.has_mul 𝓥 (d.has_mul 𝓥 t.U_has t.U_has) h_e)) in
              let hA : HasDeg 𝓥 (F S p.E) (0 +ⁿ (t.u +ⁿ t.u +ⁿ p')) (o +ⁿ o +ⁿ (0 +ⁿ 0 +ⁿ q')) = d.has_cancel 𝓥 hF (d.has_eq 𝓥 hEU (sym (comm ∙ F_mul S B.U p.E v E e))) in
              let (a, A-eq, ha, m_eq) = at_minimum p.E p.E_deg l hA h_e (omega arith) in
              there c p.E p.product p.over a A-eq ha m_eq

      -- the chain's degree sums rise until one step more would pass n
      climb : (k : ℕ) {s m : ℕ} (B : Basis S) → Chain S B₀ s m B → m ≤ n → n < m +ⁿ k → Reached S B₀ J E n
      climb zero B c l l' = absurd (omega arith)
      climb (suc k) {s} {m} B c l l' =
          let g : Good S B = chain_good S B₀ st.good c in
          let t : Small S B = small S B g in
          let (B', good', next) = step_exists S B g in
          let u<x : t.u < t.x = t.u<x in
          let deg : Degree S B (t.x -ⁿ t.u) = record { x = t.x; u = t.u; M_deg = ev_M S B t; U_deg = t.U_has; eq = omega arith } in
          elim (dec_le (suc (n +ⁿ t.u)) (m +ⁿ t.x)) [
            | yes h ↦ found B c (passed S B₀ st c) l t h
            | no h ↦ climb k B' (then (t.x -ⁿ t.u) B' c deg next good') (omega arith) (omega arith)
          ]

      pub complete : Reached S B₀ J E n
      complete = climb (suc n) B₀ here (omega arith) (omega arith)

  pub completeness : Completeness S
  completeness = record {
    member = λ B₀ st J good E at n h. complete J good E at h B₀ st;
    one_place = λ B₀ st c c'. same_sum S B₀ st.good c c';
    up_to_a_constant = λ B₀ J E Eⱼ r p. product_scaled S r.chain r.scale E Eⱼ r.product p;
  }
