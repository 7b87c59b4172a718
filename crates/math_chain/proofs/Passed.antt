-- Demand 3: the three basis elements times all minima passed fill the order.
--   over_then              an ideal over a lattice, divided further: the divisors multiply
--   over_step over_start   E · (Λ/U) = O goes on to E m, and starts with 1
--   Passed passed          the product E of the m passed lies in the order, has the degree sum as its degree, and E · (Λ/U) = O
--   Spans spans            so E, E m, E n lie in the order, span it, and their determinant is a unit, a constant that is not 0
--   Filled chain_theorem   all of it in one theorem over the number of steps
--   next_product           E_{j+1} = E_j M_j / U_j, an exact division
--   product_unique product_scaled   a chain has one product, and what is scaled is a constant times it
use mathlib.Core.Path.{◌≡◌, sym, ap, ◌∙◌}
use mathlib.Core.List.{List, [], ◌∷◌}
use Prim.Native.Nat.{ℕ, ◌≤◌, ◌+◌ as ◌+ⁿ◌}
use native.Mathlib.Omega.{arith}
use Rattle.math_ring.specs.Ring.{CRing}
use Rattle.math_ring.proofs.Solve.{Expr, exprs, var, hyp, one, zer, minus, ◌:+◌, ◌:*◌, ◌:=◌, solve, solve_by, ring₁}
use Rattle.math_triple.specs.Tri.{Tri, tri_e}
use Rattle.math_triple.specs.Order.{triops}
use Rattle.math_triple.specs.Mat3 as Mt
use Rattle.math_triple.specs.Mat3.{Mat, mul_m, det_mul}
use Rattle.math_valued.specs.Degree.{Has, Lt}
use Rattle.math_valued.specs.Polynomial.{polys, IsUnit}
use Rattle.math_valued.proofs.Degree as d
use Rattle.math_valued.proofs.Compare.{lt_unscale, lt_mul_sharp}
use Rattle.math_valued.proofs.Polynomial.{degree}
use Rattle.math_ideals.specs.Setting.{Setting, P}
use Rattle.math_ideals.specs.Element.{O, sc, el_r, el_w, ev}
use Rattle.math_ideals.specs.Ideal.{Basis, In}
use Rattle.math_ideals.specs.Basis.{Good}
use Rattle.math_ideals.specs.Next.{Over, Next, Whole, At, Start}
use Rattle.math_ideals.proofs.Sizes.{sc_e, ev_sc, sc_cancel}
use Rattle.math_ideals.proofs.Values.{ev_mul, ev_one, Q_one}
use Rattle.math_ideals.proofs.Lattice.{in_M, in_N, sc_mul}
use Rattle.math_ideals.proofs.Form.{has_two, form_below}
use Rattle.math_ideals.proofs.Norm.{F, F_deg, F_mul}
use Rattle.math_ideals.proofs.Degrees.{Fits, fits, Small, small}
use Rattle.math_chain.specs.Chain.{Chain, here, then, tops, bottoms, Product}
use Rattle.math_chain.proofs.Walk.{chain_good}
-- the expression α x + β y + γ z: G, H, α, β, γ, then the triples
open triops exprs (var 0) (var 1) use {add as ◌:⊕◌, mul as ◌:⊗◌}

infixl 60 ◌:⊕◌
infixl 70 ◌:⊗◌
abbrev triple_e : Tri Expr
triple_e = sc_e (var 2) :⊗ tri_e (var 5) (var 6) (var 7) :⊕ sc_e (var 3) :⊗ tri_e (var 8) (var 9) (var 10) :⊕ sc_e (var 4) :⊗ tri_e (var 11) (var 12) (var 13)

module _ (S : Setting) where
  open S use {𝓥}
  open S.roots use {G, H, r, w}
  open 𝓥 use {K, L, Lead}
  open (polys 𝓥).ops use {add as ◌⊞◌, mul as ◌⊠◌, neg as ⊟◌, 𝟎 as 0ₚ, 𝟏 as 1ₚ}
  open (O S).ops use {add as ◌⊕◌, mul as ◌⊗◌, 𝟏 as 1ₒ}

  infixl 60 ◌⊕◌ ◌⊞◌
  infixl 70 ◌⊗◌ ◌⊠◌
  infix 80 ⊟◌
  abbrev R : CRing
  R = polys 𝓥

  -- ---- E · (Λ/U) = Λ₀ and φ · (Λ'/U') = Λ: then E φ/U · (Λ'/U') = Λ₀, whatever the lattice Λ₀
  pub over_then :
      {n : ℕ} (Λ₀ : (O S).El → Type 0) (B B' : Basis S) (E φ E' : (O S).El) → Has 𝓥 B.U.0 n → E ⊗ φ ≡ sc S B.U ⊗ E' →
      Over S Λ₀ E B → Over S (In S B) φ B' →
      Over S Λ₀ E' B'
  over_then Λ₀ B B' E φ E' hU e₀ over next = record {
    into = λ v iv.
        let (u, iu, e₁) = next.into v iv in
        let (z, t, e₂) = over.into u iu in
        (z, t, same u v z e₁ e₂);
    onto = λ z t.
        let (u, iu, e₂) = over.onto z t in
        let (v, iv, e₁) = next.onto u iu in
        (v, iv, same u v z e₁ e₂);
  }
    where
      same : (u v z : (O S).El) → φ ⊗ v ≡ sc S B'.U ⊗ u → E ⊗ u ≡ sc S B.U ⊗ z → E' ⊗ v ≡ sc S B'.U ⊗ z
      same u v z e₁ e₂ =
          let U = var 0 in let U' = var 1 in let M = var 2 in let A = var 3 in let A' = var 4 in let u' = var 5 in let v' = var 6 in let z' = var 7 in
          sc_cancel S B.U (E' ⊗ v) (sc S B'.U ⊗ z) hU
          (solve_by (O S) (U :* (A' :* v')) (U :* (U' :* z')) (hyp (minus v') (A :* M) (U :* A') ∷ hyp A (M :* v') (U' :* u') ∷ hyp U' (A :* u') (U :* z') ∷ []) tt
          (sc S B.U ∷ sc S B'.U ∷ φ ∷ E ∷ E' ∷ u ∷ v ∷ z ∷ []) (e₀, (e₁, (e₂, tt))))

  -- E · (Λ/U) = O goes on to E' = E m
  pub over_step : {n : ℕ} (B B' : Basis S) (E : (O S).El) → Has 𝓥 B.U.0 n → At S B E → Next S B B' → (E' : (O S).El) × (E ⊗ B.M ≡ sc S B.U ⊗ E') × At S B' E'
  over_step B B' E hU over next =
      let (E', t, e) = over.into B.M (in_M S B) in
      (E', e, over_then (Whole S) B B' E B.M E' hU e over next)

  pub over_start : (B : Basis S) → Start S B → At S B 1ₒ
  over_start B st = record {
    into = λ v iv. (v, tt, ap (λ t. sc S t ⊗ v) (sym st.U_one));
    onto = λ u t. (u, st.whole u, ap (λ t. sc S t ⊗ u) (sym st.U_one));
  }

  -- ---- the product of the m passed
  pub record Passed {B₀ : Basis S} {s n : ℕ} {B : Basis S} (c : Chain S B₀ s n B) : Type 0 where
    pub E : (O S).El
    pub product : Product S c E
    pub over : At S B E
    pub E_deg : Has 𝓥 (ev S E) n
    -- the cofactor's value has degree at most 0, and below 0 after a step
    pub low : Lt 𝓥 (F S E) 1
    pub below : 1 ≤ s → Lt 𝓥 (F S E) 0

  pub bottoms_deg : {B₀ : Basis S} {s n : ℕ} {B : Basis S} (c : Chain S B₀ s n B) → (m : ℕ) × Has 𝓥 (bottoms S c).0 m
  unfolding bottoms
  bottoms_deg here = (0, d.has_one 𝓥)
  bottoms_deg (then n B' c deg next good) = let (m, h) = bottoms_deg c in (m +ⁿ deg.u, d.has_mul 𝓥 h deg.U_deg)

  -- one product
  pub product_unique : {B₀ : Basis S} {s n : ℕ} {B : Basis S} (c : Chain S B₀ s n B) (E E' : (O S).El) → Product S c E → Product S c E' → E ≡ E'
  product_unique c E E' p p' = let (m, h) = bottoms_deg c in sc_cancel S (bottoms S c) E E' h (p ∙ sym p')

  -- a scaled product is the constant times the product
  pub product_scaled : {B₀ : Basis S} {s n : ℕ} {B : Basis S} (c : Chain S B₀ s n B) (a : P S) (E E' : (O S).El) →
      sc S (bottoms S c) ⊗ E ≡ sc S a ⊗ tops S c → Product S c E' → E ≡ sc S a ⊗ E'
  product_scaled c a E E' e p = sc_cancel S (bottoms S c) E (sc S a ⊗ E') (bottoms_deg c).1
      (solve_by (O S) (var 0 :* var 1) (var 0 :* (var 2 :* var 3)) (hyp one (var 0 :* var 1) (var 2 :* var 4) ∷ hyp (minus (var 2)) (var 0 :* var 3) (var 4) ∷ []) tt
      (sc S (bottoms S c) ∷ E ∷ sc S a ∷ E' ∷ tops S c ∷ []) (e, (p, tt)))

  -- E' with U E' = E M is the product of one step more
  pub next_product : {B₀ : Basis S} {s n : ℕ} {B : Basis S} (c : Chain S B₀ s n B) (E E' : (O S).El) → Product S c E → E ⊗ B.M ≡ sc S B.U ⊗ E' →
      sc S (bottoms S c ⊠ B.U) ⊗ E' ≡ tops S c ⊗ B.M
  next_product {B = B} c E E' p e =
      ap (λ t. t ⊗ E') (sc_mul S (bottoms S c) B.U)
      ∙ solve_by (O S) (var 0 :* var 1 :* var 2) (var 3 :* var 4) (hyp (minus (var 0)) (var 5 :* var 4) (var 1 :* var 2) ∷ hyp (var 4) (var 0 :* var 5) (var 3) ∷ []) tt
      (sc S (bottoms S c) ∷ sc S B.U ∷ E' ∷ tops S c ∷ B.M ∷ E ∷ []) (e, (p, tt))

  pub passed : (B₀ : Basis S) → Start S B₀ → {s n : ℕ} {B : Basis S} (c : Chain S B₀ s n B) → Passed c
  unfolding tops bottoms
  passed B₀ st here = record { E = 1ₒ; product = (O S).laws.mul-one 1ₒ; over = over_start B₀ st; E_deg = d.has_eq 𝓥 (d.has_one 𝓥) (sym (ev_one S)); low = d.has_up 𝓥 1 (F_deg S 1ₒ (d.has_eq 𝓥 (d.has_one 𝓥) (sym (Q_one S)))) (omega arith); below = λ l. absurd (omega arith) }
  passed B₀ st (then {B = B} n B' c deg next good') =
      let p : Passed c = passed B₀ st c in
      let (E', e, over') = over_step B B' p.E deg.U_deg p.over next in
      let x_eq : deg.x ≡ deg.u +ⁿ n = deg.eq in
      let s : Small S B = small S B (chain_good S B₀ st.good c) in
      let z : Lt 𝓥 (F S E') 0 = d.lt_cancel 𝓥 0 (d.has_mul 𝓥 s.U_has s.U_has) (d.lt_up 𝓥 (s.u +ⁿ s.u +ⁿ 0) (lt_unscale 𝓥 (has_two S) (lt_unscale 𝓥 (has_two S)
      (d.lt_eq 𝓥 (lt_mul_sharp 𝓥 p.low (form_below S s.Y_M s.Z_M)) (F_mul S B.U p.E B.M E' e)))) (omega arith)) in
      record {
        E = E';
        product = next_product c p.E E' p.product e;
        over = over';
        E_deg = d.has_move 𝓥 _ 0 (d.has_cancel 𝓥 deg.U_deg (d.has_eq 𝓥 (d.has_mul 𝓥 p.E_deg deg.M_deg) (sym (ev_mul S p.E B.M) ∙ ap (ev S) e ∙ ev_sc S B.U E'))) (omega arith);
        low = d.lt_up 𝓥 1 z (omega arith);
        below = λ l. z;
      }

  -- ---- E, E m, E n span the order, and their determinant is a unit
  abbrev pub rows : (O S).El → (O S).El → (O S).El → Mat (P S)
  rows x y z = record { a₁ = x.a; a₂ = x.b; a₃ = x.c; b₁ = y.a; b₂ = y.b; b₃ = y.c; c₁ = z.a; c₂ = z.b; c₃ = z.c }

  pub record Spans (E e₂ e₃ : (O S).El) : Type 0 where
    pub span : (u : (O S).El) → (α β γ : P S) × (u ≡ sc S α ⊗ E ⊕ sc S β ⊗ e₂ ⊕ sc S γ ⊗ e₃)
    pub unit : IsUnit 𝓥 (Mt.det R.ops (rows E e₂ e₃))

  abbrev triple_l : (O S).El → (O S).El → (O S).El → P S → P S → P S → List (P S)
  triple_l x y z α β γ = G ∷ H ∷ α ∷ β ∷ γ ∷ x.a ∷ x.b ∷ x.c ∷ y.a ∷ y.b ∷ y.c ∷ z.a ∷ z.b ∷ z.c ∷ []

  pub spans : {n : ℕ} (B : Basis S) (E e₂ e₃ : (O S).El) → Has 𝓥 B.U.0 n → At S B E → E ⊗ B.M ≡ sc S B.U ⊗ e₂ → E ⊗ B.N ≡ sc S B.U ⊗ e₃ → Spans E e₂ e₃
  spans B E e₂ e₃ hU over f₂ f₃ = record { span = span; unit = unit }
    where
      span : (u : (O S).El) → (α β γ : P S) × (u ≡ sc S α ⊗ E ⊕ sc S β ⊗ e₂ ⊕ sc S γ ⊗ e₃)
      span u =
          let (v, i, e) = over.onto u tt in
          let U = var 0 in let A = var 1 in let M = var 2 in let N = var 3 in let a = var 4 in let b = var 5 in let c = var 6 in let x = var 7 in let y = var 8 in let v' = var 9 in let u' = var 10 in (
            i.α,
            i.β,
            i.γ,
            sc_cancel S B.U u _ hU (solve_by (O S) (U :* u') (U :* (a :* A :+ b :* x :+ c :* y))
                (hyp (minus one) (A :* v') (U :* u') ∷ hyp A v' (a :* U :+ b :* M :+ c :* N) ∷ hyp b (A :* M) (U :* x) ∷ hyp c (A :* N) (U :* y) ∷ []) tt
                (sc S B.U ∷ E ∷ B.M ∷ B.N ∷ sc S i.α ∷ sc S i.β ∷ sc S i.γ ∷ e₂ ∷ e₃ ∷ v ∷ u ∷ []) (e, (i.eq, (f₂, (f₃, tt))))),
          )

      -- the coordinates of a combination
      at : (f : (O S).El → P S) → ((α β γ : P S) → f (sc S α ⊗ E ⊕ sc S β ⊗ e₂ ⊕ sc S γ ⊗ e₃) ≡ α ⊠ f E ⊞ β ⊠ f e₂ ⊞ γ ⊠ f e₃) → (u : (O S).El) → (span u).0 ⊠ f E ⊞ (span u).1 ⊠ f e₂ ⊞ (span u).2 ⊠ f e₃ ≡ f u
      at f f-lin u = sym (ap f (span u).3 ∙ f-lin (span u).0 (span u).1 (span u).2)

      C : Mat (P S)
      C =
          let s = span 1ₒ in
          let t = span (el_r S) in
          let u = span (el_w S) in
          record { a₁ = s.0; a₂ = s.1; a₃ = s.2; b₁ = t.0; b₂ = t.1; b₃ = t.2; c₁ = u.0; c₂ = u.1; c₃ = u.2 }

      lin_at_a : (α β γ : P S) → (sc S α ⊗ E ⊕ sc S β ⊗ e₂ ⊕ sc S γ ⊗ e₃).a ≡ α ⊠ E.a ⊞ β ⊠ e₂.a ⊞ γ ⊠ e₃.a
      lin_at_a α β γ = solve R triple_e.a (var 2 :* var 5 :+ var 3 :* var 8 :+ var 4 :* var 11) tt (triple_l E e₂ e₃ α β γ)

      lin_at_b : (α β γ : P S) → (sc S α ⊗ E ⊕ sc S β ⊗ e₂ ⊕ sc S γ ⊗ e₃).b ≡ α ⊠ E.b ⊞ β ⊠ e₂.b ⊞ γ ⊠ e₃.b
      lin_at_b α β γ = solve R triple_e.b (var 2 :* var 6 :+ var 3 :* var 9 :+ var 4 :* var 12) tt (triple_l E e₂ e₃ α β γ)

      lin_at_c : (α β γ : P S) → (sc S α ⊗ E ⊕ sc S β ⊗ e₂ ⊕ sc S γ ⊗ e₃).c ≡ α ⊠ E.c ⊞ β ⊠ e₂.c ⊞ γ ⊠ e₃.c
      lin_at_c α β γ = solve R triple_e.c (var 2 :* var 7 :+ var 3 :* var 10 :+ var 4 :* var 13) tt (triple_l E e₂ e₃ α β γ)

      product : mul_m R.ops C (rows E e₂ e₃) ≡ Mt.scalar R.ops 1ₚ
      product = λ i. record {
        a₁ = at (λ z. z.a) lin_at_a 1ₒ i;
        a₂ = at (λ z. z.b) lin_at_b 1ₒ i;
        a₃ = at (λ z. z.c) lin_at_c 1ₒ i;
        b₁ = at (λ z. z.a) lin_at_a (el_r S) i;
        b₂ = at (λ z. z.b) lin_at_b (el_r S) i;
        b₃ = at (λ z. z.c) lin_at_c (el_r S) i;
        c₁ = at (λ z. z.a) lin_at_a (el_w S) i;
        c₂ = at (λ z. z.b) lin_at_b (el_w S) i;
        c₃ = at (λ z. z.c) lin_at_c (el_w S) i;
      }

      unit : IsUnit 𝓥 (Mt.det R.ops (rows E e₂ e₃))
      unit = (
        Mt.det R.ops C,
        ring₁ R (λ x. one := one :* (one :* one :+ minus (zer :* zer)) :+ minus (zer :* (zer :* one :+ minus (zer :* zer))) :+ zer :* (zer :* zer :+ minus (one :* zer))) tt 1ₚ
            ∙ ap (Mt.det R.ops) (sym product) ∙ det_mul R C (rows E e₂ e₃) ∙ R.laws.mul_comm _ _,
      )

  -- ---- demand 3
  pub record Filled {B₀ : Basis S} {s n : ℕ} {B : Basis S} (c : Chain S B₀ s n B) : Type 0 where
    -- the three basis elements times all minima passed lie in the order: E, E m = Em, E n = En
    pub E : (O S).El
    pub Em : (O S).El
    pub En : (O S).El
    pub product : Product S c E
    pub m_eq : E ⊗ B.M ≡ sc S B.U ⊗ Em
    pub n_eq : E ⊗ B.N ≡ sc S B.U ⊗ En
    -- their determinant is a constant that is not 0
    pub unit : IsUnit 𝓥 (Mt.det R.ops (rows E Em En))
    -- deg U < deg GH, and no coefficient polynomial is above deg GH
    pub rows_fit : Fits S B
    pub E_deg : Has 𝓥 (ev S E) n

  pub chain_theorem : (B₀ : Basis S) → Start S B₀ → {s n : ℕ} {B : Basis S} (c : Chain S B₀ s n B) → Filled c
  chain_theorem B₀ st {B = B} c =
      let p : Passed c = passed B₀ st c in
      let good : Good S B = chain_good S B₀ st.good c in
      let (Em, t, f) = p.over.into B.M (in_M S B) in
      let (En, t', f') = p.over.into B.N (in_N S B) in
      record {
        E = p.E;
        Em = Em;
        En = En;
        product = p.product;
        m_eq = f;
        n_eq = f';
        unit = (spans B p.E Em En (degree 𝓥 B.U good.ideal.U≢).1 p.over f f').unit;
        rows_fit = fits S B good;
        E_deg = p.E_deg;
      }
