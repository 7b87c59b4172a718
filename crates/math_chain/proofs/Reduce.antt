-- The reduction as a theorem: every two pairs of rank 2 can be changed into a reduced pair, for each degree u of U.
--   el            the element with a pair and first coordinate 0: X and Y see the pair only
--   swap shear    the two moves: m, n to n, m, and n to n + c m
--   Shape         deg X(n) < deg X(m), deg Y(m) < u ≤ deg Y(n)
--   reduce        there is a change to pairs of that shape
-- First deg Y(m) is brought below u, then deg X(m) is lowered until deg Y(n) is at least u. While it is not, deg X(m) exceeds the degree
-- of the determinant less u, so this ends.
use mathlib.Core.Path.{◌≡◌, refl, sym, ap}
use mathlib.Core.List.{[], ◌∷◌}
use mathlib.Core.Logic.{◌≢◌, ◌⊎◌, inl, inr}
use Prim.Native.Nat.{ℕ, zero, suc, ◌≤◌, ◌<◌, ◌+◌ as ◌+ⁿ◌}
use native.Mathlib.Omega.{arith}
use Rattle.math_ring.proofs.Laws as rg
use Rattle.math_ring.specs.Ring.{CRing}
use Rattle.math_ring.proofs.Solve.{var, zer, minus, ◌:+◌, ◌:*◌, ◌:=◌, solve, ring₁}
use Rattle.math_valued.specs.Degree.{HasDeg, Has, Lt}
use Rattle.math_valued.specs.Polynomial.{polys}
use Rattle.math_valued.proofs.Degree as d
use Rattle.math_valued.proofs.Compare.{has_scale}
use Rattle.math_valued.proofs.Polynomial.{degree, divide, not_zero, unit_const}
use Rattle.math_ideals.specs.Setting.{Setting, P, d_gh}
use Rattle.math_ideals.specs.Element.{O, X, Y}
use Rattle.math_ideals.specs.Ideal.{Basis, det}
use Rattle.math_ideals.proofs.Sizes.{X_Y_det}
use Rattle.math_ideals.proofs.Form.{has_two}
use Rattle.math_ideals.proofs.Bound.{X_deg}
use Rattle.math_ideals.proofs.Norm.{X_lt, yz_lt, M_not}
use Rattle.math_chain.proofs.Changed.{Pair, Changed, changed_start, changed_swap, changed_mix, changed_then, changed_det}

module _ (S : Setting) where
  open S use {𝓥}
  open S.roots use {G, H, r, w}
  open 𝓥 use {K, L, Lead}
  open L.ops use {add as ◌+◌, mul as ◌*◌, neg as -◌, 𝟎, 𝟏}
  open K.ops use {𝟎 as 0ᵏ}
  open (polys 𝓥).ops use {add as ◌⊞◌, mul as ◌⊠◌, neg as ⊟◌, 𝟎 as 0ₚ, 𝟏 as 1ₚ}

  infixl 60 ◌+◌ ◌⊞◌
  infixl 70 ◌*◌ ◌⊠◌
  infix 80 -◌ ⊟◌
  abbrev R : CRing
  R = polys 𝓥

  abbrev pub el : Pair 𝓥 → (O S).El
  el m = record { a = 0ₚ; b = m.b; c = m.c }

  abbrev flat : Pair 𝓥 → Pair 𝓥 → Basis S
  flat m n = record { U = 1ₚ; M = el m; N = el n }

  -- m1 n2 − m2 n1
  abbrev pub det₂ : Pair 𝓥 → Pair 𝓥 → P S
  det₂ m n = det S (flat m n)

  -- ---- moves
  swap : (m n : Pair 𝓥) → Changed 𝓥 m n n m
  swap m n = changed_swap 𝓥 (changed_start 𝓥 m n)

  abbrev plus : P S → Pair 𝓥 → Pair 𝓥 → Pair 𝓥
  plus c m n = record { b = n.b ⊞ c ⊠ m.b; c = n.c ⊞ c ⊠ m.c }

  shear : (c : P S) (m n : Pair 𝓥) → Changed 𝓥 m n m (plus c m n)
  shear c m n = changed_swap 𝓥 (changed_then 𝓥 (swap m n) (changed_mix 𝓥 1ₚ c (1ₚ, sym (R.laws.mul-one 1ₚ)) {m = n} {n = m} {m' = plus c m n} (one_more m.b n.b) (one_more m.c n.c)))
    where
      one_more : (x y : P S) → y ⊞ c ⊠ x ≡ 1ₚ ⊠ y ⊞ c ⊠ x
      one_more x y = ap (λ z. z ⊞ c ⊠ x) (sym (rg.one-mul R y))

  X_plus : (c : P S) (m n : Pair 𝓥) → X S (el (plus c m n)) ≡ X S (el n) + c.0 * X S (el m)
  X_plus c m n = solve L ((var 1 :+ var 4 :* var 0) :* var 5 :+ (var 3 :+ var 4 :* var 2) :* var 6) (var 1 :* var 5 :+ var 3 :* var 6 :+ var 4 :* (var 0 :* var 5 :+ var 2 :* var 6)) tt
      (m.b.0 ∷ n.b.0 ∷ m.c.0 ∷ n.c.0 ∷ c.0 ∷ r ∷ w ∷ [])

  Y_plus : (c : P S) (m n : Pair 𝓥) → Y S (el (plus c m n)) ≡ Y S (el n) + c.0 * Y S (el m)
  Y_plus c m n = solve L ((var 1 :+ var 4 :* var 0) :* var 5 :+ minus ((var 3 :+ var 4 :* var 2) :* var 6)) (var 1 :* var 5 :+ minus (var 3 :* var 6) :+ var 4 :* (var 0 :* var 5 :+ minus (var 2 :* var 6))) tt
      (m.b.0 ∷ n.b.0 ∷ m.c.0 ∷ n.c.0 ∷ c.0 ∷ r ∷ w ∷ [])

  -- a change keeps the degree of the determinant
  det_kept : {ε : ℕ} {m n m' n' : Pair 𝓥} → Changed 𝓥 m n m' n' → Has 𝓥 (det₂ m n).0 ε → Has 𝓥 (det₂ m' n').0 ε
  det_kept h g = d.has_eq 𝓥 (has_scale 𝓥 (unit_const 𝓥 _ h.unit) g) (ap (λ z. z.0) (sym (changed_det 𝓥 h)))

  -- ---- first: deg Y(m) below u
  low : (u k : ℕ) (m n : Pair 𝓥) → Lt 𝓥 (Y S (el m)) (k +ⁿ u) → (m' n' : Pair 𝓥) × Changed 𝓥 m n m' n' × Lt 𝓥 (Y S (el m')) u
  low u zero m n h = (m, n, changed_start 𝓥 m n, d.lt_up 𝓥 u h (omega arith))
  low u (suc k) m n h =
      let (a, l) = 𝓥.lead_down h in
      go a (𝓥.lead_move (k +ⁿ u) 0 l (omega arith)) (𝓥.field.dec a 0ᵏ) (low u k m n) (λ c. low u k (plus c m n) m)
    where
      go : (a : K.El) → Lead (Y S (el m)) (k +ⁿ u) 0 a → Dec (a ≡ 0ᵏ) →
          (Lt 𝓥 (Y S (el m)) (k +ⁿ u) → (m' n' : Pair 𝓥) × Changed 𝓥 m n m' n' × Lt 𝓥 (Y S (el m')) u) →
          ((c : P S) → Lt 𝓥 (Y S (el (plus c m n))) (k +ⁿ u) → (m' n' : Pair 𝓥) × Changed 𝓥 (plus c m n) m m' n' × Lt 𝓥 (Y S (el m')) u) →
          (m' n' : Pair 𝓥) × Changed 𝓥 m n m' n' × Lt 𝓥 (Y S (el m')) u
      go a l (yes e) stay on = stay (d.lead_eq 𝓥 l refl e)
      go a l (no e) stay on =
          let (j, hy, hz) = yz_lt S (el n) in
          let (c, small) = divide 𝓥 j (d.lead_up 𝓥 (j +ⁿ (k +ⁿ u)) 0 hy (omega arith)) (a, e, l) in
          let (m', n', q, fine) = on c (d.lt_eq 𝓥 small (sym (Y_plus c m n))) in
          (m', n', changed_then 𝓥 (changed_then 𝓥 (shear c m n) (swap m (plus c m n))) q, fine)

  -- ---- then: deg X(m) falls while both Y lie below u
  pub record Shape (u : ℕ) (m n : Pair 𝓥) : Type 0 where
    pub p : ℕ
    pub q : ℕ
    pub y : ℕ
    pub X_m : HasDeg 𝓥 (X S (el m)) p q
    pub X_n : Lead (X S (el n)) p q 0ᵏ
    pub Y_m : Lt 𝓥 (Y S (el m)) u
    pub Y_n : Has 𝓥 (Y S (el n)) y
    pub u≤y : u ≤ y

  -- m and n with both Y below u and X(n) below X(m): the determinant has degree below deg X(m) + u
  both_low : {u ε p q : ℕ} {a : K.El} (m n : Pair 𝓥) → Has 𝓥 (det₂ m n).0 ε → Lt 𝓥 (Y S (el m)) u → Lt 𝓥 (Y S (el n)) u → Lead (X S (el m)) p q a → Lead (X S (el n)) p q 0ᵏ → ε +ⁿ d_gh S +ⁿ q < p +ⁿ u
  both_low {u} {ε} {p} {q} {a} m n hε hm hn hX hX' =
      let D : HasDeg 𝓥 (- ((𝟏 + 𝟏) * ((det₂ m n).0 * (G.0 * H.0)))) (ε +ⁿ d_gh S) 0 = d.has_neg 𝓥 (has_scale 𝓥 (has_two S) (d.has_mul 𝓥 hε (d.has_mul 𝓥 S.roots.G_deg S.roots.H_deg))) in
      let D' : Lead (- ((𝟏 + 𝟏) * ((det₂ m n).0 * (G.0 * H.0)))) (p +ⁿ u) (q +ⁿ 0) 0ᵏ =
      d.lead_eq 𝓥 (𝓥.lead_add (𝓥.lead_mul hX hn) (𝓥.lead_neg (𝓥.lead_mul hX' hm))) (X_Y_det S (flat m n)) (ring₁ K (λ a. a :* zer :+ minus (zer :* zer) := zer) tt a) in
      omega (arith, d.has_above 𝓥 D D')

  -- one turn: done, or X(m) has fallen and was above the bound
  one_turn : {u ε p q : ℕ} (m n : Pair 𝓥) → Has 𝓥 (det₂ m n).0 ε → Lt 𝓥 (Y S (el m)) u → HasDeg 𝓥 (X S (el m)) p q →
      ((m' n' : Pair 𝓥) × Changed 𝓥 m n m' n' × Shape u m' n') ⊎
      ((m' n' : Pair 𝓥) × Changed 𝓥 m n m' n' × Lt 𝓥 (Y S (el m')) u × (p'' q'' : ℕ) × HasDeg 𝓥 (X S (el m')) p'' q'' × (p'' +ⁿ q < p +ⁿ q'') × (ε +ⁿ d_gh S +ⁿ q < p +ⁿ u))
  one_turn {u} {ε} {p} {q} m n hε hY hX =
      let (j, hN) = X_lt S (el n) in
      let (c, small) = divide 𝓥 (j +ⁿ q) (d.lead_up 𝓥 (j +ⁿ q +ⁿ p) q hN (omega arith)) hX in
      let (i, hy, hz) = yz_lt S (el (plus c m n)) in
      go i c (d.lead_eq 𝓥 small (sym (X_plus c m n)) refl) (d.look 𝓥 i u (d.lt_up 𝓥 (i +ⁿ u) hy (omega arith)))
    where
      go : (i : ℕ) (c : P S) → Lead (X S (el (plus c m n))) p q 0ᵏ → ((y : ℕ) × (y < i +ⁿ u) × (u ≤ y) × Has 𝓥 (Y S (el (plus c m n))) y) ⊎ Lt 𝓥 (Y S (el (plus c m n))) u →
          ((m' n' : Pair 𝓥) × Changed 𝓥 m n m' n' × Shape u m' n') ⊎
          ((m' n' : Pair 𝓥) × Changed 𝓥 m n m' n' × Lt 𝓥 (Y S (el m')) u × (p'' q'' : ℕ) × HasDeg 𝓥 (X S (el m')) p'' q'' × (p'' +ⁿ q < p +ⁿ q'') × (ε +ⁿ d_gh S +ⁿ q < p +ⁿ u))
      go i c hX' (inl (y, l, u≤y, h)) = inl (m, plus c m n, shear c m n, record { p = p; q = q; y = y; X_m = hX; X_n = hX'; Y_m = hY; Y_n = h; u≤y = u≤y })
      go i c hX' (inr h) =
          let n' : Pair 𝓥 = plus c m n in
          let turned : Changed 𝓥 m n n' m = changed_then 𝓥 (shear c m n) (swap m n') in
          let hε' : Has 𝓥 (det₂ n' m).0 ε = det_kept turned hε in
          let (p'', q'', hX'') = X_deg S (el n') (M_not S (flat n' m) (not_zero 𝓥 hε')) in
          inr (n', m, turned, h, p'', q'', hX'', d.has_above 𝓥 hX'' hX', both_low m n' (det_kept (shear c m n) hε) hY h hX.2 hX')

  fall : {u ε p q : ℕ} (k : ℕ) (m n : Pair 𝓥) → Has 𝓥 (det₂ m n).0 ε → Lt 𝓥 (Y S (el m)) u → HasDeg 𝓥 (X S (el m)) p q → p +ⁿ u ≤ ε +ⁿ d_gh S +ⁿ q +ⁿ k → (m' n' : Pair 𝓥) × Changed 𝓥 m n m' n' × Shape u m' n'
  fall zero m n hε hY hX room = elim (one_turn m n hε hY hX) [ inl done ↦ done | inr (m', n', c, hY', p'', q'', hX', less, over) ↦ absurd (omega arith) ]
  fall (suc k) m n hε hY hX room = elim (one_turn m n hε hY hX) [
    | inl done ↦ done
    | inr (m', n', c, hY', p'', q'', hX', less, over) ↦
        let (m'', n'', c', sh) = fall k m' n' (det_kept c hε) hY' hX' (omega arith) in
        (m'', n'', changed_then 𝓥 c c', sh)
  ]

  pub reduce : (u : ℕ) (m n : Pair 𝓥) → (det₂ m n).0 ≢ 𝟎 → (m' n' : Pair 𝓥) × Changed 𝓥 m n m' n' × Shape u m' n'
  reduce u m n rank =
      let (ε, hε) = degree 𝓥 (det₂ m n) rank in
      let (j, hy, hz) = yz_lt S (el m) in
      let (m₁, n₁, c₁, hY) = low u j m n (d.lt_up 𝓥 (j +ⁿ u) hy (omega arith)) in
      let hε₁ : Has 𝓥 (det₂ m₁ n₁).0 ε = det_kept c₁ hε in
      let (p, q, hX) = X_deg S (el m₁) (M_not S (flat m₁ n₁) (not_zero 𝓥 hε₁)) in
      let (m₂, n₂, c₂, sh) = fall (p +ⁿ u) m₁ n₁ hε₁ hY hX (omega arith) in
      (m₂, n₂, changed_then 𝓥 c₁ c₂, sh)
