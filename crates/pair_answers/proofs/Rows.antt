-- Rows of numbers and what they mean.
--   tri                         the element of three rows of c numbers from place a on
--   ThreeIn, SignedIn           three rows that carry over, as m does and as n does
--   three_below, signed_below   they hold numbers below p
--   tri_over, signed_over       and the element that the map makes of the first, σ times that for n
use mathlib.Core.Path.{◌≡◌, sym, ap, ap₂, ◌∙◌}
use mathlib.Core.List.{List}
use Prim.Native.Nat.{ℕ, ◌<◌, ◌≤◌}
use Prim.Native.Nat as N
use native.Mathlib.Omega.{arith}
use lib.ListN.{get_or}
use Rattle.math_ring.proofs.Laws as rg
use Rattle.math_fp.specs.Fp.{Prime}
use Rattle.math_valued.specs.Polynomial.{polys, Poly}
use Rattle.math_valued.proofs.Polynomial.{P_path}
use Rattle.math_rows.specs.Reading.{Reading}
use Rattle.math_rows.specs.Made.{reading}
use Rattle.math_rows.proofs.Rows.{const_neg, cast_sub, psum_ext, psum_scale, row_tab}
use Rattle.poly_rows.specs.Polynomial.{polynomial}
use Rattle.field_open.specs.Refusal.{Accepted}
use Rattle.unit_rows.specs.Six.{cut}
use Rattle.math_ideals.specs.Element.{O, sc}
use Rattle.math_ideals.proofs.Sizes.{O_path, sc_a, sc_b, sc_c}
use Rattle.pair_laws.specs.Rows.{Stays, Times, Straight, Crossed, Turned}
use Rattle.math_ideals.specs.Setting.{Roots, at}
use Rattle.basis_record.specs.Setting.{roots}
use Rattle.math_carry.specs.Carries.{El, stretch, exchange}
use Rattle.pair_answers.proofs.Numbers.{constant}
use Rattle.pair_answers.proofs.Way.{Way, same, swapped, map, map_same, map_swapped, map_plus, map_minus}
use Rattle.pair_answers.proofs.Blocks.{straight_below, crossed_below, turned_below}

module _ (p : ℕ) (pr : Prime p) where
  abbrev ρ : Reading p
  ρ = reading p pr

  open ρ use {𝓥, cast}
  open 𝓥 use {K, L, const}
  open K.ops use {mul as ◌*ᵏ◌}
  open L.ops use {mul as ◌*◌}
  open (polys 𝓥).ops use {mul as ◌⊠◌, neg as ⊟◌, 𝟏 as 1ₚ}

  infixl 70 ◌*◌ ◌⊠◌ ◌*ᵏ◌
  infix 80 ⊟◌
  -- p − k is −k
  less : (k : ℕ) → k ≤ p → constant p pr (N.◌-◌ p k) ≡ ⊟ 1ₚ ⊠ constant p pr k
  less k u = P_path 𝓥
      (ap const (cast_sub ρ k u)
      ∙ const_neg ρ (cast k)
      ∙ sym (rg.neg_mul L L.ops.𝟏 (const (cast k)) ∙ ap L.ops.neg (rg.one-mul L (const (cast k)))))

  -- ---- one row
  module _ (c : ℕ) (l l' : List ℕ) where
    abbrev row_of : ℕ → Poly 𝓥
    row_of a = polynomial p pr (cut a c l)

    abbrev row_of' : ℕ → Poly 𝓥
    row_of' a = polynomial p pr (cut a c l')

    pub stays_row : (a : ℕ) → Stays c l a l' → row_of' a ≡ row_of a
    stays_row a h = P_path 𝓥
        (row_tab ρ c (λ i. get_or l' (N.◌+◌ a i) 0)
        ∙ psum_ext ρ c (λ i. cast (get_or l' (N.◌+◌ a i) 0)) (λ i. cast (get_or l (N.◌+◌ a i) 0)) (λ i u. ap cast (h i u))
        ∙ sym (row_tab ρ c (λ i. get_or l (N.◌+◌ a i) 0)))

    times_row : (k a b : ℕ) → Times p c k l a l' b → row_of' b ≡ constant p pr k ⊠ row_of a
    times_row k a b h = P_path 𝓥
        (row_tab ρ c (λ i. get_or l' (N.◌+◌ b i) 0)
        ∙ psum_ext ρ c (λ i. cast (get_or l' (N.◌+◌ b i) 0)) (λ i. cast k *ᵏ cast (get_or l (N.◌+◌ a i) 0))
        (λ i u. ap cast (h i u) ∙ ρ.cast_mod (N.◌*◌ k (get_or l (N.◌+◌ a i) 0)) ∙ ρ.cast_mul k (get_or l (N.◌+◌ a i) 0))
        ∙ psum_scale ρ c (cast k) (λ i. cast (get_or l (N.◌+◌ a i) 0))
        ∙ ap (λ z. const (cast k) * z) (sym (row_tab ρ c (λ i. get_or l (N.◌+◌ a i) 0))))

    less_row : (k a b : ℕ) → k ≤ p → Times p c (N.◌-◌ p k) l a l' b → row_of' b ≡ ⊟ 1ₚ ⊠ (constant p pr k ⊠ row_of a)
    less_row k a b u h =
        times_row (N.◌-◌ p k) a b h ∙ ap (λ z. z ⊠ row_of a) (less k u) ∙ (polys 𝓥).laws.mul_assoc (⊟ 1ₚ) (constant p pr k) (row_of a)

  one_times : (z : Poly 𝓥) → constant p pr 1 ⊠ z ≡ z
  one_times z = ap (λ u. u ⊠ z) (P_path 𝓥 {a = constant p pr 1} {b = 1ₚ} (ap const ρ.cast_one ∙ ρ.const_one)) ∙ rg.one-mul (polys 𝓥) z

  -- ---- three rows
  abbrev pub tri : ℕ → ℕ → List ℕ → El 𝓥
  tri c a l = record {
    a = polynomial p pr (cut a c l);
    b = polynomial p pr (cut (N.◌+◌ a c) c l);
    c = polynomial p pr (cut (N.◌+◌ (N.◌+◌ a c) c) c l);
  }

  module _ {c x y a : ℕ} {l l' : List ℕ} where
    straight_tri : Straight p c x y l a l' → tri c a l' ≡ stretch 𝓥 (constant p pr x) (constant p pr y) (tri c a l)
    straight_tri h =
        let e = stays_row c l l' a h.A in
        let f = times_row c l l' x (N.◌+◌ a c) (N.◌+◌ a c) h.B in
        let g = times_row c l l' y (N.◌+◌ (N.◌+◌ a c) c) (N.◌+◌ (N.◌+◌ a c) c) h.C in
        λ i. record { a = e i; b = f i; c = g i }

    crossed_tri : Crossed p c x y l a l' → tri c a l' ≡ exchange 𝓥 (constant p pr x) (constant p pr y) (tri c a l)
    crossed_tri h =
        let e = stays_row c l l' a h.A in
        let f = times_row c l l' x (N.◌+◌ (N.◌+◌ a c) c) (N.◌+◌ a c) h.B in
        let g = times_row c l l' y (N.◌+◌ a c) (N.◌+◌ (N.◌+◌ a c) c) h.C in
        λ i. record { a = e i; b = f i; c = g i }

    turned_tri : (S : Roots 𝓥) → x ≤ p → y ≤ p → Turned p c x y l a l'
        → tri c a l' ≡ (O (at S)).ops.mul (sc (at S) (⊟ 1ₚ)) (exchange 𝓥 (constant p pr x) (constant p pr y) (tri c a l))
    turned_tri S ux uy h =
        let v : El 𝓥 = exchange 𝓥 (constant p pr x) (constant p pr y) (tri c a l) in
        let u₁ : 1 ≤ p = omega (arith, pr.big) in
        O_path (at S)
        (less_row c l l' 1 a a u₁ h.A ∙ ap (λ z. ⊟ 1ₚ ⊠ z) (one_times (tri c a l).a) ∙ sym (P_path 𝓥 (sc_a (at S) (⊟ 1ₚ) v)))
        (less_row c l l' x (N.◌+◌ (N.◌+◌ a c) c) (N.◌+◌ a c) ux h.B ∙ sym (P_path 𝓥 (sc_b (at S) (⊟ 1ₚ) v)))
        (less_row c l l' y (N.◌+◌ a c) (N.◌+◌ (N.◌+◌ a c) c) uy h.C ∙ sym (P_path 𝓥 (sc_c (at S) (⊟ 1ₚ) v)))

-- ---- rows that carry over
module _ {p : ℕ} {G H G' H' : List ℕ} where
  abbrev pub ThreeIn : Way p G H G' H' → ℕ → List ℕ → ℕ → List ℕ → Type 0
  ThreeIn (same g h x y law) c l a l' = Straight p c x y l a l'
  ThreeIn (swapped g h x y law) c l a l' = Crossed p c x y l a l'

  -- with the other sign where the pairs are exchanged
  abbrev pub SignedIn : Way p G H G' H' → ℕ → List ℕ → ℕ → List ℕ → Type 0
  SignedIn (same g h x y law) c l a l' = Straight p c x y l a l'
  SignedIn (swapped g h x y law) c l a l' = Turned p c x y l a l'

  module _ (c : ℕ) (l l' : List ℕ) (below : (i : ℕ) → get_or l i 0 < p) where
    pub three_below : (w : Way p G H G' H') (a : ℕ) → ThreeIn w c l a l' → (k : ℕ) → a ≤ k → k < N.◌+◌ (N.◌+◌ (N.◌+◌ a c) c) c → get_or l' k 0 < p
    three_below (same g h x y law) a = straight_below p c l l' below
    three_below (swapped g h x y law) a = crossed_below p c l l' below

    pub signed_below : (w : Way p G H G' H') (a : ℕ) → SignedIn w c l a l' → (k : ℕ) → a ≤ k → k < N.◌+◌ (N.◌+◌ (N.◌+◌ a c) c) c → get_or l' k 0 < p
    signed_below (same g h x y law) a = straight_below p c l l' below
    signed_below (swapped g h x y law) a = turned_below p c l l' below

  module _ (A : Accepted p G H) (A' : Accepted p G' H') (pr : Prime p) (c a : ℕ) (l l' : List ℕ) where
    pub tri_over : (w : Way p G H G' H') → ThreeIn w c l a l' → (map A A' pr w).to (tri p pr c a l) ≡ tri p pr c a l'
    tri_over (same g h x y law) k = map_same A A' pr g h x y law (tri p pr c a l) ∙ sym (straight_tri p pr k)
    tri_over (swapped g h x y law) k = map_swapped A A' pr g h x y law (tri p pr c a l) ∙ sym (crossed_tri p pr k)

    pub signed_over : (w : Way p G H G' H') → SignedIn w c l a l'
        → (let S = at (roots A' pr) in (O S).ops.mul (sc S (map A A' pr w).σ) ((map A A' pr w).to (tri p pr c a l)) ≡ tri p pr c a l')
    signed_over (same g h x y law) k =
        let S = at (roots A' pr) in
        ap₂ (λ s v. (O S).ops.mul (sc S s) v) (map_plus A A' pr g h x y law) (tri_over (same g h x y law) k) ∙ rg.one-mul (O S) (tri p pr c a l')
    signed_over (swapped g h x y law) k =
        let S = at (roots A' pr) in
        ap₂ (λ s v. (O S).ops.mul (sc S s) v) (map_minus A A' pr g h x y law) (map_swapped A A' pr g h x y law (tri p pr c a l))
        ∙ sym (turned_tri p pr (roots A' pr) (omega (arith, law.x_below)) (omega (arith, law.y_below)) k)
