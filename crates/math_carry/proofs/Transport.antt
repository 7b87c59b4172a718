-- Ideals, reduced bases, steps, chains, closings and units carry over.
--   in_carry in_back       membership, both ways
--   ideal_carry basis_carry scaled_carry reduced_carry good_carry
--   next_carry start_carry degree_carry chain_carry tops_carry bottoms_carry
--   open_carry closing_carry unit_carry
use mathlib.Core.Path.{◌≡◌, refl, sym, ap, ap₂, ◌∙◌, subst}
use mathlib.Core.Logic.{◌≢◌, inl, inr}
use mathlib.Core.List.{[], ◌∷◌}
use Prim.Native.Nat.{ℕ}
use Rattle.math_ring.proofs.Laws as rg
use Rattle.math_ring.proofs.Solve.{var, one, zer, ◌:+◌, ◌:*◌, ◌:=◌, hyp, solve, solve_by, ring₃}
use Rattle.math_valued.specs.Val.{Valued}
use Rattle.math_valued.specs.Degree.{Has, ◌≺◌, ◌≼◌, Leads}
use Rattle.math_valued.specs.Polynomial.{polys, Poly}
use Rattle.math_valued.proofs.Degree as d
use Rattle.math_valued.proofs.Compare.{≺-left, ≺-right}
use Rattle.math_valued.proofs.Polynomial.{unit_const}
use Rattle.math_ideals.specs.Setting.{Roots, Setting, at}
use Rattle.math_ideals.specs.Element.{O, sc, el_r, el_w, X, Y, Z}
use Rattle.math_ideals.specs.Ideal.{Basis, lin, In, det, Ideal}
use Rattle.math_ideals.specs.Basis.{ReducedBasis, NoFactor, Scaled, Reduced, Good}
use Rattle.math_ideals.specs.Next.{Next, Start}
use Rattle.math_ideals.proofs.Sizes.{X_sc, Y_sc, Z_sc, X_Y_det}
use Rattle.math_ideals.proofs.Lattice.{in_U, sc_mul, by_all, divides_all, all_divides}
use Rattle.math_ideals.proofs.Form.{has_two}
use Rattle.math_chain.specs.Chain.{Degree, Chain, here, then, tops, bottoms, Open, Closing}
use Rattle.math_chain.specs.Convention.{Convention}
use Rattle.math_chain.specs.Unit.{UnitOf}
use Rattle.math_carry.specs.Carries.{El, Carries, carry}
use Rattle.math_carry.proofs.Inverse.{twice, back, ev_kept, Z_kept, undone, carry_back}
use Rattle.math_carry.proofs.Norms.{scaled_kept}

module _ (𝓥 : Valued) {s s' : Roots 𝓥} (c : Carries s s') where
  open 𝓥 use {K, L}
  open L.ops use {add as ◌+◌, mul as ◌*◌, neg as -◌, 𝟎, 𝟏}
  open (polys 𝓥).ops use {mul as ◌⊠◌, 𝟏 as 1ₚ}
  open (O (at s)).ops use {add as ◌⊕◌, mul as ◌⊗◌}
  open (O (at s')).ops use {add as ◌⊕'◌, mul as ◌⊗'◌}

  infixl 60 ◌+◌ ◌⊕◌ ◌⊕'◌
  infixl 70 ◌*◌ ◌⊠◌ ◌⊗◌ ◌⊗'◌
  infix 80 -◌
  abbrev S : Setting
  S = at s

  abbrev S' : Setting
  S' = at s'

  abbrev pub over : Basis S → Basis S'
  over = carry s s' c

  pub to_sc : (a : Poly 𝓥) (v : El 𝓥) → c.to (sc S a ⊗ v) ≡ sc S' a ⊗' c.to v
  to_sc a v = c.mul (sc S a) v ∙ ap (λ z. z ⊗' c.to v) (c.poly a)

  to_lin : (B : Basis S) (α β γ : Poly 𝓥) → c.to (lin S B α β γ) ≡ sc S' α ⊗' sc S' B.U ⊕' sc S' β ⊗' c.to B.M ⊕' sc S' γ ⊗' c.to B.N
  to_lin B α β γ =
      c.add (sc S α ⊗ sc S B.U ⊕ sc S β ⊗ B.M) (sc S γ ⊗ B.N)
      ∙ ap₂ ◌⊕'◌
      (c.add (sc S α ⊗ sc S B.U) (sc S β ⊗ B.M) ∙ ap₂ ◌⊕'◌ (to_sc α (sc S B.U) ∙ ap (λ z. sc S' α ⊗' z) (c.poly B.U)) (to_sc β B.M))
      (to_sc γ B.N)

  pub in_carry : (B : Basis S) (v : El 𝓥) → In S B v → In S' (over B) (c.to v)
  in_carry B v i =
      let N' : El 𝓥 = c.to B.N in
      let g : sc S' i.γ ⊗' N' ≡ sc S' (i.γ ⊠ c.σ) ⊗' (sc S' c.σ ⊗' N') =
      ap (λ z. sc S' i.γ ⊗' z) (sym (undone 𝓥 (back 𝓥 c) N'))
      ∙ sym ((O S').laws.mul_assoc (sc S' i.γ) (sc S' c.σ) (sc S' c.σ ⊗' N'))
      ∙ ap (λ z. z ⊗' (sc S' c.σ ⊗' N')) (sym (sc_mul S' i.γ c.σ)) in
      record {
        α = i.α;
        β = i.β;
        γ = i.γ ⊠ c.σ;
        eq = ap c.to i.eq ∙ to_lin B i.α i.β i.γ ∙ ap (λ z. sc S' i.α ⊗' sc S' B.U ⊕' sc S' i.β ⊗' c.to B.M ⊕' z) g;
      }

  σ_const : Has 𝓥 c.σ.0 0
  σ_const = unit_const 𝓥 c.σ (c.σ, sym c.sign)

  -- ---- sizes of the carried N
  X_N : (B : Basis S) → X S' (over B).N ≡ c.σ.0 * X S B.N
  X_N B = X_sc S' c.σ (c.to B.N) ∙ ap (λ z. c.σ.0 * z) (c.X_kept B.N)

  Y_N : (B : Basis S) → Y S' (over B).N ≡ Y S B.N
  Y_N B = Y_sc S' c.σ (c.to B.N) ∙ ap (λ z. c.σ.0 * z) (c.Y_kept B.N) ∙ twice 𝓥 c.σ c.sign (Y S B.N)

  Z_N : (B : Basis S) → Z S' (over B).N ≡ c.σ.0 * Z S B.N
  Z_N B = Z_sc S' c.σ (c.to B.N) ∙ ap (λ z. c.σ.0 * z) (Z_kept 𝓥 c B.N)

  pub basis_carry : (B : Basis S) → ReducedBasis S B → ReducedBasis S' (over B)
  basis_carry B h = record {
    X_N = subst (λ z. ◌≺◌ 𝓥 z (X S' (c.to B.M))) (sym (X_N B))
        (subst (λ z. ◌≺◌ 𝓥 (c.σ.0 * X S B.N) z) (sym (c.X_kept B.M)) (≺-left 𝓥 σ_const h.X_N));
    Y_M = subst (λ z. ◌≺◌ 𝓥 z B.U.0) (sym (c.Y_kept B.M)) (≺-left 𝓥 σ_const h.Y_M);
    Y_N = subst (λ z. ◌≼◌ 𝓥 B.U.0 z) (sym (Y_N B)) h.Y_N;
    Z_M = subst (λ z. ◌≺◌ 𝓥 z B.U.0) (sym (Z_kept 𝓥 c B.M)) h.Z_M;
    Z_N = subst (λ z. ◌≺◌ 𝓥 z B.U.0) (sym (Z_N B)) (≺-left 𝓥 σ_const h.Z_N);
  }

  pub reduced_carry : (B : Basis S) → Reduced S B → Reduced S' (over B)
  reduced_carry B h = record {
    X_M = subst (λ z. ◌≺◌ 𝓥 B.U.0 z) (sym (c.X_kept B.M)) h.X_M;
    N_large = elim h.N_large [
      | inl l ↦ inl (subst (λ z. ◌≺◌ 𝓥 B.U.0 z) (sym (X_N B)) (≺-right 𝓥 σ_const l))
      | inr l ↦ inr (subst (λ z. ◌≺◌ 𝓥 B.U.0 z) (sym (Y_N B)) l)
    ];
  }

  -- ---- the determinant: both sides of X(M) Y(N) − X(N) Y(M) = −2 e G H are kept
  X_Y : (B : Basis S) → X S' (over B).N * Y S' (over B).M ≡ X S B.N * Y S B.M
  X_Y B =
      ap₂ ◌*◌ (X_N B) (c.Y_kept B.M)
      ∙ solve_by L (var 0 :* var 1 :* (var 0 :* var 2)) (var 1 :* var 2) (hyp (var 1 :* var 2) (var 0 :* var 0) one ∷ []) tt
      (c.σ.0 ∷ X S B.N ∷ Y S B.M ∷ []) (ap (λ z. z.0) c.sign, tt)

  dets : (B : Basis S) → (𝟏 + 𝟏) * ((det S' (over B)).0 * (s'.G.0 * s'.H.0)) ≡ (𝟏 + 𝟏) * ((det S B).0 * (s.G.0 * s.H.0))
  dets B =
      sym (rg.neg_neg L _)
      ∙ ap (λ z. - z) (sym (X_Y_det S' (over B)) ∙ ap₂ (λ x y. x + - y) (ap₂ ◌*◌ (c.X_kept B.M) (Y_N B)) (X_Y B) ∙ X_Y_det S B)
      ∙ rg.neg_neg L _

  rank_carry : (B : Basis S) → (det S B).0 ≢ 𝟎 → (det S' (over B)).0 ≢ 𝟎
  rank_carry B h z = h (d.cancel 𝓥 (det S B).0 𝟎 (d.has_mul 𝓥 (d.has_mul 𝓥 s.G_deg s.H_deg) (has_two S))
      (ring₃ L (λ g e t. g :* t :* e := t :* (e :* g)) tt (s.G.0 * s.H.0) (det S B).0 (𝟏 + 𝟏)
      ∙ sym (dets B)
      ∙ ap (λ e. (𝟏 + 𝟏) * (e * (s'.G.0 * s'.H.0))) z
      ∙ solve L ((one :+ one) :* (zer :* var 0)) (var 1 :* (one :+ one) :* zer) tt (s'.G.0 * s'.H.0 ∷ s.G.0 * s.H.0 ∷ [])))

  pub degree_carry : (B : Basis S) {n : ℕ} → Degree S B n → Degree S' (over B) n
  degree_carry B k = record { x = k.x; u = k.u; M_deg = d.has_eq 𝓥 k.M_deg (sym (ev_kept 𝓥 c B.M)); U_deg = k.U_deg; eq = k.eq }

-- ---- with the way back
module _ (𝓥 : Valued) {s s' : Roots 𝓥} (c : Carries s s') where
  open 𝓥 use {K, L}
  open L.ops use {mul as ◌*◌, 𝟎}
  open (polys 𝓥).ops use {mul as ◌⊠◌, 𝟏 as 1ₚ}
  open (O (at s)).ops use {mul as ◌⊗◌}
  open (O (at s')).ops use {mul as ◌⊗'◌}

  infixl 70 ◌*◌ ◌⊠◌ ◌⊗◌ ◌⊗'◌
  abbrev T : Setting
  T = at s

  abbrev T' : Setting
  T' = at s'

  pub in_back : (B : Basis T) (v : El 𝓥) → In T' (over 𝓥 c B) v → In T B (c.from v)
  in_back B v i = subst (λ b. In T b (c.from v)) (carry_back 𝓥 c B) (in_carry 𝓥 (back 𝓥 c) (over 𝓥 c B) v i)

  in_to : (B : Basis T) (v : El 𝓥) → In T B (c.from v) → In T' (over 𝓥 c B) v
  in_to B v i = subst (In T' (over 𝓥 c B)) (c.to_from v) (in_carry 𝓥 c B (c.from v) i)

  closed : (B : Basis T) → Ideal T B → (x v : El 𝓥) → In T' (over 𝓥 c B) v → In T' (over 𝓥 c B) (x ⊗' v)
  closed B i x v k = in_to B (x ⊗' v) (subst (In T B) (sym ((back 𝓥 c).mul x v)) (by_all T B i (c.from x) (c.from v) (in_back B v k)))

  pub ideal_carry : (B : Basis T) → Ideal T B → Ideal T' (over 𝓥 c B)
  ideal_carry B i = record {
    U≢ = i.U≢;
    rank = rank_carry 𝓥 c B i.rank;
    one = in_U T' (over 𝓥 c B);
    only = λ a b h (v, k, e). i.only a b h (
      c.from v,
      in_back B v k,
      sym (to_sc 𝓥 (back 𝓥 c) b v) ∙ ap c.from e ∙ to_sc 𝓥 (back 𝓥 c) a (sc T' B.U) ∙ ap (λ z. sc T a ⊗ z) ((back 𝓥 c).poly B.U),
    );
    by_r = closed B i (el_r T');
    by_w = closed B i (el_w T');
  }

  -- a factor of all seven, carried back
  pub seven_carry : (B : Basis T) → NoFactor T B → NoFactor T' (over 𝓥 c B)
  seven_carry B h e dU da db dc na nb nc =
      let (q, f) = divides_all T' e (over 𝓥 c B).M da db dc in
      let (k, g) = divides_all T' e (over 𝓥 c B).N na nb nc in
      let (ma, mb, mc) = all_divides T e B.M (c.from q) (sym (c.from_to B.M) ∙ ap c.from f ∙ to_sc 𝓥 (back 𝓥 c) e q) in
      let (za, zb, zc) = all_divides T e B.N (sc T c.σ ⊗ c.from k)
      (sym (ap (λ b. b.N) (carry_back 𝓥 c B))
      ∙ ap (λ z. sc T c.σ ⊗ z) (ap c.from g ∙ to_sc 𝓥 (back 𝓥 c) e k)
      ∙ ring₃ (O T) (λ x y z. x :* (y :* z) := y :* (x :* z)) tt (sc T c.σ) (sc T e) (c.from k)) in
      h e dU ma mb mc za zb zc

  pub scaled_carry : (B : Basis T) → Scaled T B → Scaled T' (over 𝓥 c B)
  scaled_carry B h = record {
    X_M = subst (λ z. Leads 𝓥 z (K.ops.add K.ops.𝟏 K.ops.𝟏)) (sym (c.X_kept B.M)) h.X_M;
    Y_N = subst (λ z. Leads 𝓥 z K.ops.𝟏) (sym (Y_N 𝓥 c B)) h.Y_N;
    monic = h.monic;
    seven = seven_carry B h.seven;
  }

  pub good_carry : (B : Basis T) → Good T B → Good T' (over 𝓥 c B)
  good_carry B g = record {
    ideal = ideal_carry B g.ideal;
    basis = basis_carry 𝓥 c B g.basis;
    scaled = scaled_carry B g.scaled;
    reduced = reduced_carry 𝓥 c B g.reduced;
  }

  pub next_carry : (B B' : Basis T) → Next T B B' → Next T' (over 𝓥 c B) (over 𝓥 c B')
  next_carry B B' h = record {
    into = λ v i.
        let (u, k, e) = h.into (c.from v) (in_back B' v i) in
        (c.to u, in_carry 𝓥 c B u k, ap (λ z. c.to B.M ⊗' z) (sym (c.to_from v)) ∙ sym (c.mul B.M (c.from v)) ∙ ap c.to e ∙ to_sc 𝓥 c B'.U u);
    onto = λ u k.
        let (v, i, e) = h.onto (c.from u) (in_back B u k) in
        (c.to v, in_carry 𝓥 c B' v i, sym (c.mul B.M v) ∙ ap c.to e ∙ to_sc 𝓥 c B'.U (c.from u) ∙ ap (λ z. sc T' B'.U ⊗' z) (c.to_from u));
  }

  pub start_carry : (B : Basis T) → Start T B → Start T' (over 𝓥 c B)
  start_carry B h = record { good = good_carry B h.good; U_one = h.U_one; whole = λ u. in_to B u (h.whole (c.from u)) }

  pub chain_carry : {B₀ : Basis T} {n m : ℕ} {B : Basis T} → Chain T B₀ n m B → Chain T' (over 𝓥 c B₀) n m (over 𝓥 c B)
  chain_carry here = here
  chain_carry (then {B = B} n B' k deg next good) = then n (over 𝓥 c B') (chain_carry k) (degree_carry 𝓥 c B deg) (next_carry B B' next) (good_carry B' good)

  pub bottoms_carry : {B₀ : Basis T} {n m : ℕ} {B : Basis T} (k : Chain T B₀ n m B) → bottoms T' (chain_carry k) ≡ bottoms T k
  unfolding bottoms chain_carry
  bottoms_carry here = refl
  bottoms_carry (then {B = B} n B' k deg next good) = ap (λ z. z ⊠ B.U) (bottoms_carry k)

  pub tops_carry : {B₀ : Basis T} {n m : ℕ} {B : Basis T} (k : Chain T B₀ n m B) → tops T' (chain_carry k) ≡ c.to (tops T k)
  unfolding tops chain_carry
  tops_carry here = sym (c.poly 1ₚ)
  tops_carry (then {B = B} n B' k deg next good) = ap (λ z. z ⊗' c.to B.M) (tops_carry k) ∙ sym (c.mul (tops T k) B.M)

-- ---- closing
module _ (𝓥 : Valued) {s s' : Roots 𝓥} (c : Carries s s') where
  open (polys 𝓥).ops use {𝟏 as 1ₚ}
  open (O (at s)).ops use {mul as ◌⊗◌}
  open (O (at s')).ops use {mul as ◌⊗'◌}

  infixl 70 ◌⊗◌ ◌⊗'◌
  chain_back : {B₀ : Basis (at s)} {n m : ℕ} {B : Basis (at s')} → Chain (at s') (over 𝓥 c B₀) n m B → Chain (at s) B₀ n m (over 𝓥 (back 𝓥 c) B)
  chain_back {B₀} {n} {m} {B} k = subst (λ b. Chain (at s) b n m (over 𝓥 (back 𝓥 c) B)) (carry_back 𝓥 c B₀) (chain_carry 𝓥 (back 𝓥 c) k)

  pub open_carry : {B₀ : Basis (at s)} {l : ℕ} → Open (at s) B₀ l → Open (at s') (over 𝓥 c B₀) l
  open_carry h m e B some l k = h m e (over 𝓥 (back 𝓥 c) B) some l (chain_back k)

  pub closing_carry : {B₀ : Basis (at s)} {l n : ℕ} {B : Basis (at s)} → Closing (at s) B₀ l n B → Closing (at s') (over 𝓥 c B₀) l n (over 𝓥 c B)
  closing_carry h = record {
    chain = chain_carry 𝓥 c h.chain;
    some = h.some;
    closed = h.closed;
    none = λ m e B some l k. h.none m e (over 𝓥 (back 𝓥 c) B) some l (chain_back k);
  }

  pub unit_carry : {k : Convention} {B₀ : Basis (at s)} {l n : ℕ} {E F : El 𝓥} → UnitOf (at s) k B₀ l n E F → UnitOf (at s') k (over 𝓥 c B₀) l n (c.to E) (c.to F)
  unfolding closing_carry
  unit_carry {k} {B₀} {E = E} {F} u =
      let h = u.closing.chain in
      record {
        start = start_carry 𝓥 c B₀ u.start;
        B = over 𝓥 c u.B;
        closing = closing_carry u.closing;
        scale = u.scale;
        is_a_unit = u.is_a_unit;
        product = ap (λ z. sc (at s') z ⊗' c.to E) (bottoms_carry 𝓥 c h)
            ∙ sym (to_sc 𝓥 c (bottoms (at s) h) E)
            ∙ ap c.to u.product
            ∙ to_sc 𝓥 c u.scale (tops (at s) h)
            ∙ ap (λ z. sc (at s') u.scale ⊗' z) (sym (tops_carry 𝓥 c h));
        scaled = scaled_kept 𝓥 c k E u.scaled;
        inverse = sym (c.mul E F) ∙ ap c.to u.inverse ∙ c.poly 1ₚ;
      }
