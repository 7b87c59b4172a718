-- Crates basis_record, basis_store and basis_scale.
--   load_unique, stored_unique           a row taken out of the record, and put into it
--   reduced_basis_unique, order_unique   the whole record of a reduction; the first also what the lent rows hold
use mathlib.Core.Path.{◌≡◌, refl, sym, ap, ap₂, ◌∙◌, subst}
use mathlib.Core.Logic.{◌≢◌, ◌⊎◌, inl, inr}
use mathlib.Core.List.{List, [], ◌∷◌}
use Prim.Native.Nat.{ℕ, zero, suc, ◌+◌, ◌*◌, ◌-◌, ◌/◌, ◌%◌, ◌<◌, ◌≤◌}
use native.Mathlib.Nat.{mod-lt, mod-add-div}
use native.Mathlib.Omega.{arith}
use native.Mathlib.Decide.{dec_lt}
use lib.ListN.{length, get_or}
use lib.Seq.{ext_get_or}
use Rattle.math_ring.proofs.Laws as rg
use Rattle.math_ring.proofs.Solve.{var, one, minus, ◌:+◌, ◌:*◌, hyp, solve, solve_by}
use Rattle.math_fp.specs.Fp.{Prime}
use Rattle.math_fp.proofs.Trial.{prime}
use Rattle.math_valued.specs.Degree.{Has, Lt}
use Rattle.math_valued.proofs.Degree.{k_domain, k_cancel, lead_eq, lt_eq, lt_add, lt_neg, lt_up, has_eq, has_mul, above, same}
use Rattle.math_valued.proofs.Compare.{leads_unique, lt_unscale, has_unscale}
use Rattle.math_valued.proofs.Polynomial.{view}
use Rattle.math_rows.specs.Reading.{Reading}
use Rattle.math_rows.specs.Made.{reading}
use Rattle.math_rows.specs.Row.{row}
use Rattle.math_rows.proofs.Tab.{length_tab, at_tab}
use Rattle.math_rows.proofs.Turn.{lead_scale}
use Rattle.math_rows.proofs.Unique.{list_unique}
use Rattle.math_turns.proofs.Turn.{moved_back, moved_then}
use Rattle.basis_record.specs.Record.{part}
use Rattle.basis_record.proofs.Unique.{part_below}
use Rattle.basis_parts.specs.Frame.{Frame, Meaning, rd, rowμ, X, Y, Ltμ}
use Rattle.basis_clear.specs.Clear.{Pair, pair, swap_if}
use Rattle.basis_record.specs.Store.{Stored, Loaded}
use Rattle.basis_scale.specs.First.{nothing, unit, units, OrderAsks}
use Rattle.basis_store.specs.Place.{padded}
use Rattle.basis_scale.specs.Gives.{ReducedBasisGives}
use Rattle.basis_finish.specs.Based.{ReducedBasisAsks, BasedAt, Based, Z, at, Mpt, Npt}
use Rattle.demands_inner.proofs.Rows.{by_row}
use Rattle.demands_inner.proofs.Poly.{scaled_at}
use Rattle.demands_inner.specs.UpTo.{Scaled}
use Rattle.demands_inner.proofs.Pairs.{times_X, times_Y, pairs_unique}

-- 65,537 is a prime above every number of a record
big : Prime 65537
big = prime 65537 255 tt

pub load_unique : {B : List ℕ} {i : ℕ} {r s : List ℕ} → ((k : ℕ) → get_or B k 0 < 65536) → Loaded B i r → Loaded B i s → r ≡ s
load_unique {B} below h k =
    let l : (j : ℕ) → get_or B j 0 < 65537 = (λ j. let u : get_or B j 0 < 65536 = below j in omega arith) in
    by_row (reading 65537 big) (h.is_row 65537 l) (k.is_row 65537 l) (h.law 65537 big) (k.law 65537 big)

pub stored_unique : {B : List ℕ} {i : ℕ} {a B' B'' : List ℕ} → Stored B i a B' → Stored B i a B'' → B' ≡ B''
stored_unique {B} {i} {a} {B'} {B''} h k = ext_get_or 0 B' B'' (h.size ∙ sym k.size) (λ j _. at_place j (dec_lt j (17 * i)) (dec_lt j (17 * i + 17)))
  where
    at_place : (j : ℕ) → Dec (j < 17 * i) → Dec (j < 17 * i + 17) → get_or B' j 0 ≡ get_or B'' j 0
    at_place j (yes l) d = h.there j (inl l) ∙ sym (k.there j (inl l))
    at_place j (no l) (no m) = h.there j (inr (omega arith)) ∙ sym (k.there j (inr (omega arith)))
    at_place j (no l) (yes m) =
        let q : 17 * i + (j - 17 * i) ≡ j = omega arith in
        ap (λ n. get_or B' n 0) (sym q) ∙ h.here (j - 17 * i) (omega arith) ∙ sym (k.here (j - 17 * i) (omega arith)) ∙ ap (λ n. get_or B'' n 0) q

-- ---- row 0
module _ {p : ℕ} (ρ : Reading p) where
  open ρ use {𝓥}
  open 𝓥 use {K, L, IsPoly}
  open L.ops use {add as ◌⊕◌, mul as ◌⊗◌, neg as ⊖◌, 𝟎, 𝟏}
  open K.ops use {add as ◌+ᵏ◌, 𝟎 as 0ᵏ, 𝟏 as 1ᵏ}

  infixl 60 ◌⊕◌ ◌+ᵏ◌
  infixl 70 ◌⊗◌
  infix 80 ⊖◌
  two_has : 1ᵏ +ᵏ 1ᵏ ≢ 0ᵏ → Has 𝓥 (𝟏 ⊕ 𝟏) 0
  two_has h = (1ᵏ +ᵏ 1ᵏ, h, 𝓥.lead_add 𝓥.lead_one 𝓥.lead_one)

  -- a = −e modulo u, and 2a − z below u
  row0 : {n : ℕ} (u a a' e z k k' : L.El) → 1ᵏ +ᵏ 1ᵏ ≢ 0ᵏ → Has 𝓥 u n → IsPoly k → IsPoly k' → a ⊕ e ≡ u ⊗ k → a' ⊕ e ≡ u ⊗ k'
      → Lt 𝓥 ((𝟏 ⊕ 𝟏) ⊗ a ⊕ ⊖ z) n → Lt 𝓥 ((𝟏 ⊕ 𝟏) ⊗ a' ⊕ ⊖ z) n → a ≡ a'
  row0 {n} u a a' e z k k' two hu hk hk' f f' l l' = rg.eq_of_sub L a a' (go (view 𝓥 (k ⊕ ⊖ k', 𝓥.closed.add _ _ hk (𝓥.closed.neg _ hk'))))
    where
      gap : a ⊕ ⊖ a' ≡ u ⊗ (k ⊕ ⊖ k')
      gap = solve_by L (var 0 :+ minus (var 1)) (var 3 :* (var 4 :+ minus (var 5))) (hyp one (var 0 :+ var 2) (var 3 :* var 4) ∷ hyp (minus one) (var 1 :+ var 2) (var 3 :* var 5) ∷ []) tt (a ∷ a' ∷ e ∷ u ∷ k ∷ k' ∷ []) (f, (f', tt))

      low : Lt 𝓥 (a ⊕ ⊖ a') n
      low = lt_unscale 𝓥 (two_has two) (lt_eq 𝓥 (lt_add 𝓥 l (lt_neg 𝓥 l')) (solve L ((one :+ one) :* var 0 :+ minus (var 2) :+ minus ((one :+ one) :* var 1 :+ minus (var 2))) ((one :+ one) :* (var 0 :+ minus (var 1))) tt (a ∷ a' ∷ z ∷ [])))

      go : (k ⊕ ⊖ k' ≡ 𝟎) ⊎ ((j : ℕ) × Has 𝓥 (k ⊕ ⊖ k') j) → a ⊕ ⊖ a' ≡ 𝟎
      go (inl q) = gap ∙ ap (λ t. u ⊗ t) q ∙ rg.mul-zero L u
      go (inr (j, h)) = absurd (omega (arith, above 𝓥 (has_mul 𝓥 hu h) (lt_eq 𝓥 low gap)))

-- ---- a record of numbers below p is settled by its seven polynomials
by_parts : {p : ℕ} (ρ : Reading p) (B B' : List ℕ) → length B ≡ 119 → length B' ≡ 119 → ((i : ℕ) → get_or B i 0 < p) → ((i : ℕ) → get_or B' i 0 < p)
    → ((i : ℕ) → i < 7 → row ρ (part i B) ≡ row ρ (part i B')) → B ≡ B'
by_parts ρ B B' s s' g g' e = ext_get_or 0 B B' (s ∙ sym s') at_place
  where
    rows : (i : ℕ) → i < 7 → part i B ≡ part i B'
    rows i l = list_unique ρ (part i B) (part i B') (length_tab 17 (λ j. get_or B (17 * i + j) 0) ∙ sym (length_tab 17 (λ j. get_or B' (17 * i + j) 0))) (part_below B g i) (part_below B' g' i) (e i l)

    at_place : (k : ℕ) → k < length B → get_or B k 0 ≡ get_or B' k 0
    at_place k l =
        let i : ℕ = k / 17 in
        let j : ℕ = k % 17 in
        let z : length B ≡ 119 = s in
        let m : j < 17 = mod-lt k (omega arith) in
        let f : k ≡ 17 * i + j = let q : k % 17 + 17 * (k / 17) ≡ k = mod-add-div k 17 in omega arith in
        let n : i < 7 = omega arith in
        ap (λ t. get_or B t 0) f ∙ sym (at_tab 17 (λ j. get_or B (17 * i + j) 0) j m) ∙ ap (λ x. get_or x j 0) (rows i n) ∙ at_tab 17 (λ j. get_or B' (17 * i + j) 0) j m ∙ ap (λ t. get_or B' t 0) (sym f)

-- ---- the scaled basis
module _ {F : Frame} {q : Pair} {d x1 y1 B B' : List ℕ} (μ : Meaning F) (h : BasedAt μ q d x1 y1 B) (h' : BasedAt μ q d x1 y1 B') where
  open rd μ use {𝓥}
  open 𝓥 use {K, L, const}
  open L.ops use {add as ◌⊕◌, mul as ◌⊗◌, neg as ⊖◌, 𝟎, 𝟏}

  infixl 60 ◌⊕◌
  infixl 70 ◌⊗◌
  infix 80 ⊖◌
  d_has : Has 𝓥 (rowμ μ d) h.numbers.u
  d_has = has_unscale 𝓥 (h.ν, h.ν_unit, 𝓥.const_lead h.ν) (has_eq 𝓥 (K.ops.𝟏, 𝓥.one≢zero, h.numbers.U_lead) h.U_eq)

  d_has' : Has 𝓥 (rowμ μ d) h'.numbers.u
  d_has' = has_unscale 𝓥 (h'.ν, h'.ν_unit, 𝓥.const_lead h'.ν) (has_eq 𝓥 (K.ops.𝟏, 𝓥.one≢zero, h'.numbers.U_lead) h'.U_eq)

  u_same : h.numbers.u ≡ h'.numbers.u
  u_same = same 𝓥 d_has d_has'

  -- ν c = 1 = ν' c, where d leads with c
  ν_same : h.ν ≡ h'.ν
  ν_same =
      k_cancel 𝓥 d_has.0 h.ν h'.ν d_has.1
      (K.laws.mul_comm d_has.0 h.ν
      ∙ 𝓥.lead_unique (lead_scale (rd μ) h.ν d_has.2) (lead_eq 𝓥 h.numbers.U_lead h.U_eq refl)
      ∙ sym (𝓥.lead_unique (lead_scale (rd μ) h'.ν d_has.2) (subst (λ n. 𝓥.Lead (const h'.ν ⊗ rowμ μ d) n 0 K.ops.𝟏) (sym u_same) (lead_eq 𝓥 h'.numbers.U_lead h'.U_eq refl)))
      ∙ K.laws.mul_comm h'.ν d_has.0)

  U_same : at μ 6 B ≡ at μ 6 B'
  U_same = h.U_eq ∙ ap (λ z. const z ⊗ rowμ μ d) ν_same ∙ sym h'.U_eq

  U_has : Has 𝓥 (at μ 6 B) h.numbers.u
  U_has = (K.ops.𝟏, 𝓥.one≢zero, h.numbers.U_lead)

  scaled : Scaled (rd μ) (Mpt μ B) (Npt μ B) (Mpt μ B') (Npt μ B')
  scaled = pairs_unique (rd μ) μ.r μ.w (moved_then (rd μ) (moved_back (rd μ) h.moved) h'.moved)
      (_, μ.two, h.numbers.X_M) h.numbers.X_N h.numbers.Y_M (K.ops.𝟏, 𝓥.one≢zero, h.numbers.Y_N) h.numbers.u≤y
      (_, μ.two, h'.numbers.X_M) h'.numbers.X_N (lt_up 𝓥 h.numbers.u h'.numbers.Y_M (let e : h.numbers.u ≡ h'.numbers.u = u_same in omega arith))
      (K.ops.𝟏, 𝓥.one≢zero, h'.numbers.Y_N) (let e : h.numbers.u ≡ h'.numbers.u = u_same in let l : h'.numbers.u ≤ h'.numbers.y = h'.numbers.u≤y in omega arith)

  -- a leading coefficient that a constant keeps
  kept : (c v : K.El) (z z' : L.El) (m n : ℕ) → c ≢ K.ops.𝟎 → v ≢ K.ops.𝟎 → 𝓥.Lead z m 0 v → 𝓥.Lead z' n 0 v → z' ≡ const c ⊗ z → const c ≡ 𝟏
  kept c v z z' m n hc hv l l' e =
      ap const (k_cancel 𝓥 v c K.ops.𝟏 hv
      (K.laws.mul_comm v c ∙ leads_unique 𝓥 (m, 0, k_domain 𝓥 c v hc hv, lead_eq 𝓥 (lead_scale (rd μ) c l) (sym e) refl) (n, 0, hv, l') ∙ sym (K.laws.mul-one v)))
      ∙ (rd μ).const_one

  a_one : const scaled.a ≡ 𝟏
  a_one = kept scaled.a _ (X μ (Mpt μ B)) (X μ (Mpt μ B')) h.numbers.x h'.numbers.x scaled.a_unit μ.two h.numbers.X_M h'.numbers.X_M (times_X (rd μ) μ.r μ.w (const scaled.a) (Mpt μ B) (Mpt μ B') scaled.m_b scaled.m_c)

  d_one : const scaled.d ≡ 𝟏
  d_one = kept scaled.d _ (Y μ (Npt μ B)) (Y μ (Npt μ B')) h.numbers.y h'.numbers.y scaled.d_unit 𝓥.one≢zero h.numbers.Y_N h'.numbers.Y_N (times_Y (rd μ) μ.r μ.w (const scaled.d) (Npt μ B) (Npt μ B') scaled.n_b scaled.n_c)

  unscale : {z z' c : L.El} → z' ≡ c ⊗ z → c ≡ 𝟏 → z ≡ z'
  unscale {z} e f = sym (e ∙ ap (λ t. t ⊗ z) f ∙ rg.one-mul L z)

  M_b : at μ 1 B ≡ at μ 1 B'
  M_b = unscale scaled.m_b a_one

  M_c : at μ 2 B ≡ at μ 2 B'
  M_c = unscale scaled.m_c a_one

  N_b : at μ 4 B ≡ at μ 4 B'
  N_b = unscale scaled.n_b d_one

  N_c : at μ 5 B ≡ at μ 5 B'
  N_c = unscale scaled.n_c d_one

  -- Z = 2a − (b r + c w)
  regroup : (a b c : L.El) → Z μ a b c ≡ (𝟏 ⊕ 𝟏) ⊗ a ⊕ ⊖ (b ⊗ μ.r ⊕ c ⊗ μ.w)
  regroup a b c = solve L ((one :+ one) :* var 0 :+ minus (var 1) :+ minus (var 2)) ((one :+ one) :* var 0 :+ minus (var 1 :+ var 2)) tt (a ∷ b ⊗ μ.r ∷ c ⊗ μ.w ∷ [])

  first : (a b c a' b' c' k k' : L.El) → 𝓥.IsPoly k → 𝓥.IsPoly k' → b ≡ b' → c ≡ c'
      → a ⊕ (b ⊗ rowμ μ x1 ⊕ c ⊗ rowμ μ y1) ≡ at μ 6 B ⊗ k → a' ⊕ (b' ⊗ rowμ μ x1 ⊕ c' ⊗ rowμ μ y1) ≡ at μ 6 B' ⊗ k'
      → Ltμ μ (Z μ a b c) h.numbers.u → Ltμ μ (Z μ a' b' c') h'.numbers.u → a ≡ a'
  first a b c a' b' c' k k' hk hk' eb ec f f' l l' =
      row0 (rd μ) (at μ 6 B) a a' (b ⊗ rowμ μ x1 ⊕ c ⊗ rowμ μ y1) (b ⊗ μ.r ⊕ c ⊗ μ.w) k k' μ.two U_has hk hk' f
      (ap₂ (λ s t. a' ⊕ (s ⊗ rowμ μ x1 ⊕ t ⊗ rowμ μ y1)) eb ec ∙ f' ∙ ap (λ t. t ⊗ k') (sym U_same))
      (lt_eq 𝓥 l (regroup a b c))
      (lt_eq 𝓥 (lt_up 𝓥 h.numbers.u l' (let e : h.numbers.u ≡ h'.numbers.u = u_same in omega arith)) (regroup a' b' c' ∙ ap₂ (λ s t. (𝟏 ⊕ 𝟏) ⊗ a' ⊕ ⊖ (s ⊗ μ.r ⊕ t ⊗ μ.w)) (sym eb) (sym ec)))

  M_a : at μ 0 B ≡ at μ 0 B'
  M_a = first (at μ 0 B) (at μ 1 B) (at μ 2 B) (at μ 0 B') (at μ 1 B') (at μ 2 B') h.k_m h'.k_m h.k_m_poly h'.k_m_poly M_b M_c h.M_a h'.M_a h.numbers.Z_M h'.numbers.Z_M

  N_a : at μ 3 B ≡ at μ 3 B'
  N_a = first (at μ 3 B) (at μ 4 B) (at μ 5 B) (at μ 3 B') (at μ 4 B') (at μ 5 B') h.k_n h'.k_n h.k_n_poly h'.k_n_poly N_b N_c h.N_a h'.N_a h.numbers.Z_N h'.numbers.Z_N

  seven : (i : ℕ) → i < 7 → at μ i B ≡ at μ i B'
  seven zero l = M_a
  seven (suc zero) l = M_b
  seven (suc (suc zero)) l = M_c
  seven (suc (suc (suc zero))) l = N_a
  seven (suc (suc (suc (suc zero)))) l = N_b
  seven (suc (suc (suc (suc (suc zero))))) l = N_c
  seven (suc (suc (suc (suc (suc (suc zero)))))) l = U_same
  seven (suc (suc (suc (suc (suc (suc (suc i))))))) l = absurd (omega arith)

based_unique : {F : Frame} {q : Pair} {d x1 y1 B B' : List ℕ} (μ : Meaning F) → Based F q d x1 y1 B → Based F q d x1 y1 B' → B ≡ B'
based_unique {B = B} {B' = B'} μ h h' = by_parts (rd μ) B B' h.size h'.size h.each h'.each (seven μ (h.meant μ) (h'.meant μ))

-- the record and what the lent rows hold, with the elements in the order of the record
pub reduced_basis_unique : {F : Frame} {q : Pair} {top : ℕ} {d : List ℕ} {lu : ℕ} {x1 : List ℕ} {n1 : ℕ} {y1 : List ℕ} {n2 : ℕ} {o o' : Pair} {d₁ x₁ y₁ B d₂ x₂ y₂ B' : List ℕ}
    → ReducedBasisAsks F q top d lu x1 n1 y1 n2 → (h : ReducedBasisGives F q d x1 y1 o d₁ x₁ y₁ B) (k : ReducedBasisGives F q d x1 y1 o' d₂ x₂ y₂ B')
    → (B ≡ B') × (swap_if h.swap o ≡ swap_if k.swap o') × (d₁ ≡ d₂) × (x₁ ≡ x₂) × (y₁ ≡ y₂)
reduced_basis_unique g h k =
    let μ = g.inp.clear.some in
    let e = based_unique μ h.based k.based in (
      e,
      h.left.rows ∙ ap (λ B. pair (padded 1 B) (padded 2 B) (padded 4 B) (padded 5 B)) e ∙ sym k.left.rows,
      h.left.u ∙ ap (padded 6) e ∙ sym k.left.u,
      scaled_at μ.prime h.left.twice_x k.left.twice_x,
      scaled_at μ.prime h.left.twice_y k.left.twice_y,
    )

pub order_unique : {F : Frame} {top : ℕ} {B B' : List ℕ} → OrderAsks F top → Based F units unit nothing nothing B → Based F units unit nothing nothing B' → B ≡ B'
order_unique g h h' = based_unique g.some h h'
