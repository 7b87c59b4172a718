-- Every unit is a constant times a power, in one way.
--   up         a unit of degree n ≥ 0 is a constant times a power of E, where E has the least positive degree
--   every      every unit is: where its degree is negative, take the inverse
--   one_way    E^i has the degree i d, so the exponent is one, and then the constant
--   powers     both
use mathlib.Core.Path.{◌≡◌, sym, ap, ◌∙◌, subst}
use mathlib.Core.List.{[], ◌∷◌}
use Prim.Native.Nat.{ℕ, zero, suc, ◌<◌, ◌+◌ as ◌+ⁿ◌, ◌-◌ as ◌-ⁿ◌, ◌*◌ as ◌*ⁿ◌}
use native.Mathlib.Nat.{eq_of_mul-eq-mul_right}
use native.Mathlib.Omega.{arith}
use native.Mathlib.Decide.{dec_le}
use lib.IntN.{ℤ, pos, negsuc}
use Rattle.math_ring.specs.Power.{pow}
use Rattle.math_ring.proofs.Power.{pow-zero, pow-suc, one_pow, mul_pow}
use Rattle.math_ring.proofs.Solve.{var, hyp, one, minus, ◌:*◌, solve_by}
use Rattle.math_valued.specs.Degree.{HasDeg, Has}
use Rattle.math_valued.specs.Polynomial.{polys, IsUnit}
use Rattle.math_valued.proofs.Degree as d
use Rattle.math_valued.proofs.Compare.{has_scale}
use Rattle.math_valued.proofs.Polynomial.{P_path, unit_const}
use Rattle.math_ideals.specs.Setting.{Setting, P}
use Rattle.math_ideals.specs.Element.{O, sc, ev}
use Rattle.math_ideals.proofs.Sizes.{ev_sc}
use Rattle.math_ideals.proofs.Values.{ev_mul, ev_one}
use Rattle.math_ideals.proofs.Lattice.{sc_mul}
use Rattle.math_chain.specs.Unit.{Invertible}
use Rattle.math_chain.proofs.Unit.{inverse_has}
use Rattle.math_fundamental.specs.Smallest.{NoneBetween, power, Powers}
use Rattle.math_fundamental.proofs.Units.{unit_flip, unit_times, unit_has, unit_constant}

module _ (S : Setting) where
  open S use {𝓥}
  open 𝓥 use {L}
  open (polys 𝓥).ops use {mul as ◌⊠◌, 𝟏 as 1ₚ}
  open (O S).ops use {mul as ◌⊗◌, 𝟏 as 1ₒ}

  infixl 70 ◌⊗◌ ◌⊠◌
  pub pow_deg : {p q : ℕ} (x : (O S).El) → HasDeg 𝓥 (ev S x) p q → (j : ℕ) → HasDeg 𝓥 (ev S (pow (O S) x j)) (j *ⁿ p) (j *ⁿ q)
  pow_deg x h zero = d.has_move 𝓥 _ _ (d.has_eq 𝓥 (d.has_one 𝓥) (sym (ap (ev S) (pow-zero (O S) x) ∙ ev_one S))) (omega arith)
  pow_deg {p} {q} x h (suc j) = d.has_move 𝓥 _ _ (d.has_eq 𝓥 (d.has_mul 𝓥 h (pow_deg x h j)) (sym (ap (ev S) (pow-suc (O S) x j) ∙ ev_mul S x (pow (O S) x j)))) (omega arith)

  module _ (E F : (O S).El) {n : ℕ} (inverse : E ⊗ F ≡ 1ₒ) (E_deg : Has 𝓥 (ev S E) n) (positive : 0 < n) where
    -- ---- one way
    -- i n as a difference
    abbrev above : ℤ → ℕ
    above (pos k) = k *ⁿ n
    above (negsuc k) = 0

    abbrev below : ℤ → ℕ
    below (pos k) = 0
    below (negsuc k) = suc k *ⁿ n

    power_deg : (i : ℤ) → HasDeg 𝓥 (ev S (power S E F i)) (above i) (below i)
    power_deg (pos k) = d.has_move 𝓥 _ _ (pow_deg E E_deg k) (omega arith)
    power_deg (negsuc k) = d.has_move 𝓥 _ _ (pow_deg F (inverse_has S E F inverse E_deg) (suc k)) (omega arith)

    scaled_deg : (i : ℤ) (a : P S) → IsUnit 𝓥 a → HasDeg 𝓥 (ev S (sc S a ⊗ power S E F i)) (above i) (below i)
    scaled_deg i a u = d.has_eq 𝓥 (has_scale 𝓥 (unit_const 𝓥 a u) (power_deg i)) (sym (ev_sc S a (power S E F i)))

    exponent : (i j : ℤ) → above i +ⁿ below j ≡ above j +ⁿ below i → i ≡ j
    exponent (pos a) (pos b) e = ap pos (eq_of_mul-eq-mul_right n positive a b (omega (arith, e)))
    exponent (pos a) (negsuc b) e = let z : suc b *ⁿ n ≡ n +ⁿ b *ⁿ n = omega arith in absurd (omega arith)
    exponent (negsuc a) (pos b) e = let z : suc a *ⁿ n ≡ n +ⁿ a *ⁿ n = omega arith in absurd (omega arith)
    exponent (negsuc a) (negsuc b) e = let z : suc a ≡ suc b = eq_of_mul-eq-mul_right n positive (suc a) (suc b) (omega (arith, e)) in ap negsuc (omega arith)

    one_way : (i j : ℤ) (b c : P S) → IsUnit 𝓥 b → IsUnit 𝓥 c → sc S b ⊗ power S E F i ≡ sc S c ⊗ power S E F j → (i ≡ j) × (b ≡ c)
    one_way i j b c ub uc e =
        let i-eq : i ≡ j = exponent i j (d.has_unique 𝓥 (d.has_eq 𝓥 (scaled_deg i b ub) (ap (ev S) e)) (scaled_deg j c uc)) in
        let f : sc S b ⊗ power S E F i ≡ sc S c ⊗ power S E F i = e ∙ ap (λ t. sc S c ⊗ power S E F t) (sym i-eq) in
        let left = L.laws.mul_comm (ev S (power S E F i)) b.0 ∙ sym (ev_sc S b (power S E F i)) in
        let right = ev_sc S c (power S E F i) ∙ L.laws.mul_comm c.0 (ev S (power S E F i)) in
        (i-eq, P_path 𝓥 (d.cancel 𝓥 b.0 c.0 (power_deg i) (left ∙ ap (ev S) f ∙ right)))

    -- ---- every unit
    module _ (least : NoneBetween S n) where
      -- E^j F^j = 1
      inverse_pow : (j : ℕ) → pow (O S) E j ⊗ pow (O S) F j ≡ 1ₒ
      inverse_pow j = sym (mul_pow (O S) E F j) ∙ ap (λ t. pow (O S) t j) inverse ∙ one_pow (O S) j

      -- η = (η F) E, and η F has a degree lower by n
      up : (k : ℕ) {m : ℕ} (η : (O S).El) → Invertible S η → Has 𝓥 (ev S η) m → m < k → (j : ℕ) × (a : P S) × IsUnit 𝓥 a × (η ≡ sc S a ⊗ pow (O S) E j)
      up zero η inv h l = absurd (omega arith)
      up (suc k) {m} η inv h l = elim (dec_le 1 m) [
        | no z ↦
            let (a, u, f) = unit_constant S η inv (subst (λ i. Has 𝓥 (ev S η) i) (omega arith) h) in
            (0, a, u, f ∙ sym ((O S).laws.mul-one (sc S a)) ∙ ap (λ t. sc S a ⊗ t) (sym (pow-zero (O S) E)))
        | yes z ↦ elim (dec_le n m) [
          | no less ↦ absurd (least η inv m 0 h (omega arith) (omega arith))
          | yes le ↦
              let h' : Has 𝓥 (ev S (η ⊗ F)) (m -ⁿ n) = d.has_move 𝓥 (m -ⁿ n) 0 (d.has_eq 𝓥 (d.has_mul 𝓥 h (inverse_has S E F inverse E_deg)) (sym (ev_mul S η F))) (omega arith) in
              let (j, a, u, f) = up k (η ⊗ F) (unit_times S η F inv (E, unit_flip S inverse)) h' (omega arith) in
              let x = var 0 in let a₀ = var 1 in let e = var 2 in let p = var 3 in let e' = var 4 in (
                suc j,
                a,
                u,
                solve_by (O S) x (a₀ :* (e :* p)) (hyp (minus x) (e :* e') one ∷ hyp e (x :* e') (a₀ :* p) ∷ []) tt (η ∷ sc S a ∷ E ∷ pow (O S) E j ∷ F ∷ []) (inverse, (f, tt))
                    ∙ ap (λ t. sc S a ⊗ t) (sym (pow-suc (O S) E j)),
              )
        ]
      ]

      every : (η : (O S).El) → Invertible S η → (i : ℤ) × (a : P S) × IsUnit 𝓥 a × (η ≡ sc S a ⊗ power S E F i)
      every η (θ, e) = let (p, q, h) = unit_has S η (θ, e) in elim (dec_le q p) [
        | yes l ↦ let (j, a, u, f) = up (suc (p -ⁿ q)) η (θ, e) (d.has_move 𝓥 (p -ⁿ q) 0 h (omega arith)) (omega arith) in (pos j, a, u, f)
        | no l ↦
            let g : Has 𝓥 (ev S θ) (q -ⁿ p) = d.has_move 𝓥 (q -ⁿ p) 0 (inverse_has S η θ e h) (omega arith) in
            let (j, a, u, f) = up (suc (q -ⁿ p)) θ (η, unit_flip S e) g (omega arith) in
            down j a u f
      ]
        where
          -- θ = a E^j and a a' = 1: η = a' F^j
          turned : (j : ℕ) (a a' : P S) → 1ₚ ≡ a ⊠ a' → θ ≡ sc S a ⊗ pow (O S) E j → η ≡ sc S a' ⊗ pow (O S) F j
          turned j a a' g f =
              let x = var 0 in let b' = var 1 in let y = var 2 in let x' = var 3 in let b = var 4 in let z = var 5 in
              solve_by (O S) x (b' :* y)
              (hyp (b' :* y) (x :* x') one ∷ hyp (minus (x :* b' :* y)) x' (b :* z) ∷ hyp (minus (x :* b :* b')) (z :* y) one ∷ hyp x one (b :* b') ∷ []) tt
              (η ∷ sc S a' ∷ pow (O S) F j ∷ θ ∷ sc S a ∷ pow (O S) E j ∷ []) (e, (f, (inverse_pow j, (ap (sc S) g ∙ sc_mul S a a', tt))))

          down : (j : ℕ) (a : P S) → IsUnit 𝓥 a → θ ≡ sc S a ⊗ pow (O S) E j → (i : ℤ) × (a : P S) × IsUnit 𝓥 a × (η ≡ sc S a ⊗ power S E F i)
          down zero a (a', g) f = (pos 0, a', (a, g ∙ (polys 𝓥).laws.mul_comm a a'), turned 0 a a' g f ∙ ap (λ t. sc S a' ⊗ t) (pow-zero (O S) F ∙ sym (pow-zero (O S) E)))
          down (suc j) a (a', g) f = (negsuc j, a', (a, g ∙ (polys 𝓥).laws.mul_comm a a'), turned (suc j) a a' g f)

      pub powers : Powers S E F
      powers = record { every = every; one_way = one_way }
