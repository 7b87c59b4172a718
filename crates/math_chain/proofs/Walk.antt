-- The chain is determined by its start and its number of steps.
--   degree_of degree_unique degree_M0   the degree of m: it exists, there is one, and it is deg M0 − deg U
--   chain_good      every basis of a chain from a good one is good
--   same_chain      two chains of one length from one start end in one basis, with one degree sum
--   same_products   and with one product
--   prefix          a chain passes every smaller count, with a smaller degree sum
--   chain_then      a chain taken up again
--   chain_room      deg m is between 1 and deg GH: s steps have a degree sum from s to s · deg GH
--   chain_rise same_sum   more steps have a larger degree sum, so a degree sum has one place in the chain
--   has_step        a positive degree sum takes a step
--   closing_unique  one start has one first closing
--   open_more closes   what a walk does with one more step
--   first_closing   a chain that ends with U = 1 after a step has a first closing
use mathlib.Core.Path.{◌≡◌, refl, sym, ap, ap₂, ◌∙◌, subst}
use mathlib.Core.Logic.{◌≢◌}
use Prim.Native.Nat.{ℕ, zero, suc, ◌≤◌, ◌<◌, ◌+◌ as ◌+ⁿ◌, ◌-◌ as ◌-ⁿ◌}
use Prim.Native.Nat as N
use native.Mathlib.Omega.{arith}
use native.Mathlib.Decide.{dec_le}
use Rattle.math_valued.specs.Degree.{Has}
use Rattle.math_valued.specs.Polynomial.{polys}
use Rattle.math_valued.proofs.Degree as d
use Rattle.math_valued.proofs.Polynomial.{poly_discrete}
use Rattle.math_ideals.specs.Setting.{Setting, d_gh}
use Rattle.math_ideals.specs.Element.{O}
use Rattle.math_ideals.specs.Ideal.{Basis}
use Rattle.math_ideals.specs.Basis.{Good}
use Rattle.math_ideals.specs.Next.{Next}
use Rattle.math_ideals.proofs.Degrees.{Small, small}
use Rattle.math_ideals.proofs.Divided.{ev_M, next_unique}
use Rattle.math_chain.specs.Chain.{Degree, Chain, here, then, tops, bottoms, Open, Closing}

module _ (S : Setting) where
  open S use {𝓥}
  open (polys 𝓥).ops use {mul as ◌⊠◌, 𝟏 as 1ₚ}
  open (O S).ops use {mul as ◌⊗◌}

  infixl 70 ◌⊗◌ ◌⊠◌
  -- ---- the degree of m
  pub degree_of : (B : Basis S) → Good S B → (n : ℕ) × Degree S B n × (1 ≤ n) × (n ≤ d_gh S)
  degree_of B good =
      let s : Small S B = small S B good in
      let u<x : s.u < s.x = s.u<x in
      let x≤n : s.x ≤ d_gh S = s.x≤n in
      (s.x -ⁿ s.u, record { x = s.x; u = s.u; M_deg = ev_M S B s; U_deg = s.U_has; eq = omega arith }, omega arith, omega arith)

  pub degree_unique : {m n : ℕ} (B : Basis S) → Degree S B m → Degree S B n → m ≡ n
  degree_unique {m} {n} B a b =
      let e : a.x ≡ b.x = d.same 𝓥 a.M_deg b.M_deg in
      let f : a.u ≡ b.u = d.same 𝓥 a.U_deg b.U_deg in
      let g : a.x ≡ a.u +ⁿ m = a.eq in
      let h : b.x ≡ b.u +ⁿ n = b.eq in
      omega arith

  -- on rows: deg M0 − deg U
  pub degree_M0 : {x u : ℕ} (B : Basis S) → Good S B → Has 𝓥 B.M.a.0 x → Has 𝓥 B.U.0 u → Degree S B (x -ⁿ u)
  degree_M0 {x} {u} B good hx hu =
      let s : Small S B = small S B good in
      let e : s.x ≡ x = d.same 𝓥 s.M0 hx in
      let f : s.u ≡ u = d.same 𝓥 s.U_has hu in
      let u<x : s.u < s.x = s.u<x in
      record { x = s.x; u = s.u; M_deg = ev_M S B s; U_deg = s.U_has; eq = omega arith }

  -- ---- chains
  pub chain_good : (B₀ : Basis S) → Good S B₀ → {s n : ℕ} {B : Basis S} → Chain S B₀ s n B → Good S B
  chain_good B₀ good here = good
  chain_good B₀ good (then n B' c deg next good') = good'

  pub same_chain : (B₀ : Basis S) → Good S B₀ → {s s' n n' : ℕ} {B B' : Basis S} → Chain S B₀ s n B → Chain S B₀ s' n' B' → s ≡ s' → (n ≡ n') × (B ≡ B')
  same_chain B₀ g here here e = (refl, refl)
  same_chain B₀ g here (then n B' c deg next good) e = absurd (omega arith)
  same_chain B₀ g (then n B' c deg next good) here e = absurd (omega arith)
  same_chain B₀ g (then {B = B} n B₁ c deg next good) (then {B = B'} n' B₂ c' deg' next' good') e =
      let (f, k) = same_chain B₀ g c c' (omega arith) in
      (ap₂ ◌+ⁿ◌ f (degree_unique B deg (subst (λ z. Degree S z n') (sym k) deg')), next_unique S B B₁ B₂ (chain_good B₀ g c) good good' next (subst (λ z. Next S z B₂) (sym k) next'))

  pub same_products : (B₀ : Basis S) → Good S B₀ → {s s' n n' : ℕ} {B B' : Basis S} (c : Chain S B₀ s n B) (c' : Chain S B₀ s' n' B') → s ≡ s' → (tops S c ≡ tops S c') × (bottoms S c ≡ bottoms S c')
  unfolding tops bottoms
  same_products B₀ g here here e = (refl, refl)
  same_products B₀ g here (then n B' c deg next good) e = absurd (omega arith)
  same_products B₀ g (then n B' c deg next good) here e = absurd (omega arith)
  same_products B₀ g (then {B = B} n B₁ c deg next good) (then {B = B'} n' B₂ c' deg' next' good') e =
      let (f, k) = same_chain B₀ g c c' (omega arith) in
      let (i, j) = same_products B₀ g c c' (omega arith) in
      (ap₂ (λ x y. x ⊗ y.M) i k, ap₂ (λ x y. x ⊠ y.U) j k)

  pub prefix : (B₀ : Basis S) {s n : ℕ} {B : Basis S} → Chain S B₀ s n B → (m : ℕ) → m ≤ s → (n' : ℕ) × (B' : Basis S) × Chain S B₀ m n' B' × (n' ≤ n)
  prefix B₀ here m l = (0, B₀, subst (λ z. Chain S B₀ z 0 B₀) (omega arith) here, omega arith)
  prefix B₀ (then {s = s} {d = e} n B' c deg next good) m l = elim (dec_le m s) [
    | yes k ↦ let (n', B'', c', h) = prefix B₀ c m k in (n', B'', c', omega arith)
    | no k ↦ (e +ⁿ n, B', subst (λ z. Chain S B₀ z (e +ⁿ n) B') (omega arith) (then n B' c deg next good), omega arith)
  ]

  pub chain_room : (B₀ : Basis S) → Good S B₀ → {s n : ℕ} {B : Basis S} → Chain S B₀ s n B → (s ≤ n) × (n ≤ N.◌*◌ s (d_gh S))
  chain_room B₀ g here = (omega arith, omega arith)
  chain_room B₀ g (then {B = B} n B' c deg next good) =
      let (l, k) = chain_room B₀ g c in
      let (m, deg', m≥1, m≤) = degree_of B (chain_good B₀ g c) in
      let e : m ≡ n = degree_unique B deg' deg in
      (omega arith, omega arith)

  -- ---- where a degree sum stands
  pub chain_rise : (B₀ : Basis S) → Good S B₀ → {s s' n n' : ℕ} {B B' : Basis S} → Chain S B₀ s n B → Chain S B₀ s' n' B' → s < s' → n < n'
  chain_rise B₀ g c here l = absurd (omega arith)
  chain_rise B₀ g {s} {n = n} c (then {s = s''} {d = n''} {B = B} m B' c' deg next good) l =
      let (m', deg', pos, le) = degree_of B (chain_good B₀ g c') in
      let e : m' ≡ m = degree_unique B deg' deg in
      elim (dec_le (suc s) s'') [
        | yes k ↦ let h : n < n'' = chain_rise B₀ g c c' k in omega arith
        | no k ↦ let (f, z) = same_chain B₀ g c c' (omega arith) in omega arith
      ]

  pub same_sum : (B₀ : Basis S) → Good S B₀ → {s s' n : ℕ} {B B' : Basis S} → Chain S B₀ s n B → Chain S B₀ s' n B' → (s ≡ s') × (B ≡ B')
  same_sum B₀ g {s} {s'} c c' = let e : s ≡ s' = go (dec_le (suc s) s') (dec_le (suc s') s) in (e, (same_chain B₀ g c c' e).1)
    where
      go : Dec (suc s ≤ s') → Dec (suc s' ≤ s) → s ≡ s'
      go (yes k) b = let z = chain_rise B₀ g c c' k in absurd (omega arith)
      go (no k) (yes l) = let z = chain_rise B₀ g c' c l in absurd (omega arith)
      go (no k) (no l) = omega arith

  pub has_step : (B₀ : Basis S) → Good S B₀ → {s n : ℕ} {B : Basis S} → Chain S B₀ s n B → 1 ≤ n → 1 ≤ s
  has_step B₀ g {s} c l = elim (dec_le 1 s) [ yes k ↦ k | no k ↦ let (f, z) = same_chain B₀ g c here (omega arith) in absurd (omega arith) ]

  -- a chain taken up again
  pub chain_then : {B₀ B B' : Basis S} {s s' n n' : ℕ} → Chain S B₀ s n B → Chain S B s' n' B' → Chain S B₀ (s +ⁿ s') (n +ⁿ n') B'
  chain_then {B₀} {B} {B'} {s} {s'} {n} {n'} c here = subst (λ z. Chain S B₀ z (n +ⁿ 0) B') (omega arith) (subst (λ z. Chain S B₀ s z B') (omega arith) c)
  chain_then {B₀} {B} {B'} {s} {s'} {n} {n'} c (then {s = a} {d = e} {B = B₁} m B₂ c' deg next good) =
      subst (λ z. Chain S B₀ z (n +ⁿ n') B₂) (omega arith) (subst (λ z. Chain S B₀ (suc (s +ⁿ a)) z B₂) (omega arith) (then m B₂ (chain_then c c') deg next good))

  -- ---- closing
  pub closing_unique : (B₀ : Basis S) → Good S B₀ → {l l' n n' : ℕ} {B B' : Basis S} → Closing S B₀ l n B → Closing S B₀ l' n' B' → (l ≡ l') × (n ≡ n') × (B ≡ B')
  closing_unique B₀ g {l} {l'} {n} {n'} {B} {B'} c c' =
      let e : l ≡ l' = go (dec_le l l') (dec_le l' l) in
      let (f, k) = same_chain B₀ g c.chain c'.chain e in
      (e, f, k)
    where
      go : Dec (l ≤ l') → Dec (l' ≤ l) → l ≡ l'
      go (yes a) (yes b) = omega arith
      go (no a) b = absurd (c.none l' n' B' c'.some (omega arith) c'.chain c'.closed)
      go (yes a) (no b) = absurd (c'.none l n B c.some (omega arith) c.chain c.closed)

  pub open_none : (B₀ : Basis S) → Open S B₀ 0
  open_none B₀ m n B some l c = absurd (omega arith)

  -- one step more: it closes, or no count so far does
  pub closes : {l n : ℕ} {B : Basis S} (B₀ : Basis S) → Open S B₀ l → Chain S B₀ (suc l) n B → B.U ≡ 1ₚ → Closing S B₀ (suc l) n B
  closes B₀ free c e = record { chain = c; some = omega arith; closed = e; none = λ m n' B' some k c'. free m n' B' some (omega arith) c' }

  pub open_more : {l n : ℕ} {B : Basis S} (B₀ : Basis S) → Good S B₀ → Open S B₀ l → Chain S B₀ (suc l) n B → B.U ≢ 1ₚ → Open S B₀ (suc l)
  open_more {l} {B = B} B₀ g free c ne m n' B' some k c' = elim (dec_le m l) [
    | yes a ↦ free m n' B' some a c'
    | no a ↦ λ z. ne (ap (λ b. b.U) (same_chain B₀ g c c' (omega arith)).1 ∙ z)
  ]

  pub first_closing : (B₀ : Basis S) → Good S B₀ → {s n : ℕ} {B : Basis S} → Chain S B₀ s n B → 1 ≤ s → B.U ≡ 1ₚ →
      (l m : ℕ) × (B' : Basis S) × Closing S B₀ l m B' × (l ≤ s)
  first_closing B₀ g {s} {n} {B} c some closed = go s 0 (omega arith) (open_none B₀)
    where
      go : (k l : ℕ) → l +ⁿ k ≡ s → Open S B₀ l → (l m : ℕ) × (B' : Basis S) × Closing S B₀ l m B' × (l ≤ s)
      go zero l e free = absurd (free s n B some (omega arith) c closed)
      go (suc k) l e free =
          let (m, B', c', le) = prefix B₀ c (suc l) (omega arith) in
          elim (poly_discrete 𝓥 B'.U 1ₚ) [
            | yes z ↦ (suc l, m, B', closes B₀ free c' z, omega arith)
            | no z ↦ go k (suc l) (omega arith) (open_more B₀ g free c' z)
          ]
