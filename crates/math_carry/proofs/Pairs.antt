-- Exchanged pairs and scaled pairs carry over.
--   exchanged swap   the pair H, G with the series w, r: φ exchanges B and C, and σ = −1
--   Scale scale      for G' = αG and H' = βH with constants α, β that are not 0: the constant κ with κ³ = αβ²
--   scaled           then r' = κr and w' = (κ²/β)w: φ divides B by κ and C by κ²/β, and σ = 1
--   stretched        so B takes x = 1/κ and C takes y = β/κ²
use mathlib.Core.Path.{◌≡◌, refl, sym, ap, ap₂, ◌∙◌, subst}
use mathlib.Core.Logic.{◌≢◌}
use mathlib.Core.List.{List, [], ◌∷◌}
use Prim.Native.Nat.{◌≤◌}
use Prim.Native.Nat as N
use native.Mathlib.Omega.{arith}
use Rattle.math_ring.specs.Ring.{CRing}
use Rattle.math_ring.proofs.Laws as rg
use Rattle.math_ring.proofs.Solve.{Expr, exprs, var, one, minus, ◌:+◌, ◌:*◌, ◌:=◌, hyp, solve, solve_by, ring₂}
use Rattle.math_triple.specs.Tri as T
use Rattle.math_triple.specs.Tri.{Tri, tri_e, mul_t, solve₃}
use Rattle.math_valued.specs.Val.{Valued}
use Rattle.math_valued.specs.Degree.{Leads}
use Rattle.math_valued.specs.Polynomial.{polys, Poly, IsUnit}
use Rattle.math_valued.proofs.Degree as d
use Rattle.math_valued.proofs.Compare.{has_scale, leads_mul, leads_cube, leads_unique}
use Rattle.math_valued.proofs.Polynomial.{unit_const, const_path, Unit₀, unit_of}
use Rattle.math_ideals.specs.Element.{O, Y}
use Rattle.math_ideals.proofs.Sizes.{O_path}
use Rattle.math_ideals.proofs.Values.{w_w, r_cube}
use Rattle.math_ideals.proofs.Roots.{roots_unique}
use Rattle.math_ideals.specs.Setting.{Roots, at}
use Rattle.math_carry.specs.Carries.{El, Carries, stretch, Stretched}

-- the second coordinate and the third change places
abbrev pub turned : {A : Type 0} → Tri A → Tri A
turned v = record { a = v.a; b = v.c; c = v.b }

module _ (𝓥 : Valued) where
  open 𝓥 use {K, L}
  open K.ops use {mul as ◌*ᵏ◌, 𝟎 as 0ᵏ, 𝟏 as 1ᵏ}
  open L.ops use {add as ◌+◌, mul as ◌*◌, neg as -◌, 𝟏}
  open (polys 𝓥).ops use {mul as ◌⊠◌, neg as ⊟◌, 𝟏 as 1ₚ}

  infixl 60 ◌+◌
  infixl 70 ◌*◌ ◌⊠◌ ◌*ᵏ◌
  infix 80 -◌ ⊟◌
  abbrev R : CRing
  R = polys 𝓥

  -- ---- the exchanged pair
  abbrev pub exchanged : Roots 𝓥 → Roots 𝓥
  exchanged s = record {
    two≢ = s.two≢;
    form = s.form;
    G = s.H;
    H = s.G;
    G_free = s.H_free;
    H_free = s.G_free;
    coprime = λ e a b. s.coprime e b a;
    d_g = s.d_h;
    d_h = s.d_g;
    G_deg = s.H_deg;
    H_deg = s.G_deg;
    not_const = let l : 1 ≤ N.◌+◌ s.d_g s.d_h = s.not_const in omega arith;
    r = s.w;
    w = s.r;
    dr = s.dw;
    dw = s.dr;
    r_deg = s.w_deg;
    w_deg = s.r_deg;
    r_r = w_w (at s);
    r_w = L.laws.mul_comm s.w s.r ∙ s.r_w ∙ L.laws.mul_comm s.G.0 s.H.0;
  }

  abbrev pub swap : (s : Roots 𝓥) → Carries s (exchanged s)
  swap s = record {
    to = turned;
    from = turned;
    to_from = λ v. refl;
    from_to = λ v. refl;
    add = λ u v. refl;
    mul = λ u v. solve₃ R (turned (T.M T.X T.Y)) (mul_t exprs T.H T.G (turned T.X) (turned T.Y)) (tt, tt, tt) (T.env R s.G s.H u v u);
    poly = λ a. refl;
    first = λ v. refl;
    X_kept = λ v. L.laws.add_comm (v.c.0 * s.w) (v.b.0 * s.r);
    σ = ⊟ 1ₚ;
    sign = solve R (minus one :* minus one) one tt [];
    Y_kept = λ v. ring₂ L (λ x y. y :+ minus x := minus one :* (x :+ minus y)) tt (v.b.0 * s.r) (v.c.0 * s.w);
  }

  -- ---- a pair times constants
  -- (c'/c)³ = a b² where c'³ = a b² c³, with i for 1/c
  ratio : (a b c c' i : K.El) → c *ᵏ i ≡ 1ᵏ → c' *ᵏ c' *ᵏ c' ≡ a *ᵏ (b *ᵏ b) *ᵏ (c *ᵏ c *ᵏ c)
      → c' *ᵏ i *ᵏ (c' *ᵏ i) *ᵏ (c' *ᵏ i) ≡ a *ᵏ (b *ᵏ b)
  ratio a b c c' i e f =
      let D = var 0 :* (var 1 :* var 1) in
      let j = var 2 :* var 4 in
      let q = var 3 :* var 4 in
      solve_by K (q :* q :* q) D
      (hyp (D :* (j :* j :+ j :+ one)) j one ∷ hyp (var 4 :* var 4 :* var 4) (var 3 :* var 3 :* var 3) (D :* (var 2 :* var 2 :* var 2)) ∷ []) tt
      (a ∷ b ∷ c ∷ c' ∷ i ∷ []) (e, (f, tt))

  module _ (s s' : Roots 𝓥) (α β : Poly 𝓥) (uα : IsUnit 𝓥 α) (uβ : IsUnit 𝓥 β) (eG : s'.G ≡ α ⊠ s.G) (eH : s'.H ≡ β ⊠ s.H) where
    abbrev r : L.El
    r = s.r

    abbrev w : L.El
    w = s.w

    -- r'³ = G' H'² = α β² r³
    cubes : s'.r * s'.r * s'.r ≡ α.0 * (β.0 * β.0) * (r * r * r)
    cubes =
        r_cube (at s')
        ∙ ap₂ (λ g h. g.0 * (h.0 * h.0)) eG eH
        ∙ solve L (var 0 :* var 2 :* (var 1 :* var 3 :* (var 1 :* var 3))) (var 0 :* (var 1 :* var 1) :* (var 2 :* (var 3 :* var 3))) tt
        (α.0 ∷ β.0 ∷ s.G.0 ∷ s.H.0 ∷ [])
        ∙ ap (λ z. α.0 * (β.0 * β.0) * z) (sym (r_cube (at s)))

    lead_cubes : {a b c c' : K.El} → Leads 𝓥 α.0 a → Leads 𝓥 β.0 b → Leads 𝓥 r c → Leads 𝓥 s'.r c'
        → c' *ᵏ c' *ᵏ c' ≡ a *ᵏ (b *ᵏ b) *ᵏ (c *ᵏ c *ᵏ c)
    lead_cubes {c' = c'} la lb lc lc' =
        leads_unique 𝓥 (subst (λ z. Leads 𝓥 z (c' *ᵏ c' *ᵏ c')) cubes (leads_cube 𝓥 lc')) (leads_mul 𝓥 (leads_mul 𝓥 la (leads_mul 𝓥 lb lb)) (leads_cube 𝓥 lc))

    pub record Scale : Type 0 where
      pub κ : Poly 𝓥
      pub κ' : Poly 𝓥
      pub inverse : κ ⊠ κ' ≡ 1ₚ
      pub cube : κ ⊠ κ ⊠ κ ≡ α ⊠ (β ⊠ β)

    -- κ is the quotient of the leading coefficients of r' and r
    pub scale : Scale
    scale =
        let (a, ha, la) = unit_const 𝓥 α uα in
        let (b, hb, lb) = unit_const 𝓥 β uβ in
        let (c, hc, lc) = s.r_deg in
        let (c', hc', lc') = s'.r_deg in
        let (i, e) = 𝓥.field.inv c hc in
        let hi : i ≢ 0ᵏ = λ z. 𝓥.one≢zero (sym e ∙ ap (λ t. c *ᵏ t) z ∙ rg.mul-zero K c) in
        let u : Unit₀ 𝓥 (c' *ᵏ i) = unit_of 𝓥 (c' *ᵏ i) (d.k_domain 𝓥 c' i hc' hi) in
        let f = ratio a b c c' i e (lead_cubes (0, 0, ha, la) (0, 0, hb, lb) (s.dr, 0, hc, lc) (s'.dr, 0, hc', lc')) in
        record {
          κ = u.a;
          κ' = u.a';
          inverse = u.inverse;
          cube = const_path 𝓥 (𝓥.lead_mul (𝓥.lead_mul u.lead u.lead) u.lead) (d.lead_eq 𝓥 (𝓥.lead_mul la (𝓥.lead_mul lb lb)) refl (sym f));
        }

    module _ (k : Scale) where
      abbrev β' : Poly 𝓥
      β' = uβ.0

      ββ : β.0 * β'.0 ≡ 𝟏
      ββ = ap (λ z. z.0) (sym uβ.1)

      -- φ multiplies B by x = 1/κ and C by y = β/κ²; y' is 1/y
      abbrev x : Poly 𝓥
      x = k.κ'

      abbrev y : Poly 𝓥
      y = β ⊠ (x ⊠ x)

      abbrev y' : Poly 𝓥
      y' = k.κ ⊠ k.κ ⊠ β'

      x_inverse : x ⊠ k.κ ≡ 1ₚ
      x_inverse = R.laws.mul_comm k.κ' k.κ ∙ k.inverse

      y_inverse : y ⊠ y' ≡ 1ₚ
      y_inverse = solve_by R (var 0 :* (var 1 :* var 1) :* (var 2 :* var 2 :* var 3)) one
          (hyp (var 0 :* var 3 :* (var 2 :* var 1 :+ one)) (var 2 :* var 1) one ∷ hyp one (var 0 :* var 3) one ∷ []) tt
          (β ∷ x ∷ k.κ ∷ β' ∷ []) (k.inverse, (sym uβ.1, tt))

      x_cube : x ⊠ x ⊠ x ⊠ (α ⊠ (β ⊠ β)) ≡ 1ₚ
      x_cube =
          ap (λ z. x ⊠ x ⊠ x ⊠ z) (sym k.cube)
          ∙ solve_by R (var 0 :* var 0 :* var 0 :* (var 1 :* var 1 :* var 1)) one
          (hyp (var 1 :* var 0 :* (var 1 :* var 0) :+ var 1 :* var 0 :+ one) (var 1 :* var 0) one ∷ []) tt (x ∷ k.κ ∷ []) (k.inverse, tt)

      -- ---- the series of the second pair are κ r and y' w; the variables: κ, r, w, 1/β, H, β, α, G
      square_law : k.κ.0 * r * (k.κ.0 * r) ≡ s'.H.0 * (y'.0 * w)
      square_law =
          solve_by L (var 0 :* var 1 :* (var 0 :* var 1)) (var 5 :* var 4 :* (var 0 :* var 0 :* var 3 :* var 2))
          (hyp (var 0 :* var 0) (var 1 :* var 1) (var 4 :* var 2) ∷ hyp (minus (var 0 :* var 0 :* var 4 :* var 2)) (var 5 :* var 3) one ∷ []) tt
          (k.κ.0 ∷ r ∷ w ∷ β'.0 ∷ s.H.0 ∷ β.0 ∷ []) (s.r_r, (ββ, tt))
          ∙ ap (λ z. z.0 * (y'.0 * w)) (sym eH)

      product_law : k.κ.0 * r * (y'.0 * w) ≡ s'.G.0 * s'.H.0
      product_law =
          let κ³ = var 0 :* var 0 :* var 0 in
          let Gh = var 7 :* var 4 in
          solve_by L (var 0 :* var 1 :* (var 0 :* var 0 :* var 3 :* var 2)) (var 6 :* var 7 :* (var 5 :* var 4))
          (hyp (κ³ :* var 3) (var 1 :* var 2) Gh ∷ hyp (var 3 :* Gh) κ³ (var 6 :* (var 5 :* var 5)) ∷ hyp (var 6 :* var 5 :* Gh) (var 5 :* var 3) one ∷ []) tt
          (k.κ.0 ∷ r ∷ w ∷ β'.0 ∷ s.H.0 ∷ β.0 ∷ α.0 ∷ s.G.0 ∷ []) (s.r_w, (ap (λ z. z.0) k.cube, (ββ, tt)))
          ∙ ap₂ (λ g h. g.0 * h.0) (sym eG) (sym eH)

      series : (k.κ.0 * r ≡ s'.r) × (y'.0 * w ≡ s'.w)
      series = roots_unique (at s') (k.κ.0 * r) (y'.0 * w) (has_scale 𝓥 (unit_const 𝓥 k.κ (x, sym k.inverse)) s.r_deg) square_law product_law

      -- ---- products; the variables: x, α, β, G, H
      both : x ⊠ y ⊠ (s'.G ⊠ s'.H) ≡ s.G ⊠ s.H
      both =
          ap₂ (λ g h. x ⊠ y ⊠ (g ⊠ h)) eG eH
          ∙ solve_by R (var 0 :* (var 2 :* (var 0 :* var 0)) :* (var 1 :* var 3 :* (var 2 :* var 4))) (var 3 :* var 4)
          (hyp (var 3 :* var 4) (var 0 :* var 0 :* var 0 :* (var 1 :* (var 2 :* var 2))) one ∷ []) tt (x ∷ α ∷ β ∷ s.G ∷ s.H ∷ []) (x_cube, tt)

      one_G : y ⊠ y ⊠ s'.G ≡ x ⊠ s.G
      one_G =
          ap (λ g. y ⊠ y ⊠ g) eG
          ∙ solve_by R (var 2 :* (var 0 :* var 0) :* (var 2 :* (var 0 :* var 0)) :* (var 1 :* var 3)) (var 0 :* var 3)
          (hyp (var 0 :* var 3) (var 0 :* var 0 :* var 0 :* (var 1 :* (var 2 :* var 2))) one ∷ []) tt (x ∷ α ∷ β ∷ s.G ∷ []) (x_cube, tt)

      one_H : x ⊠ x ⊠ s'.H ≡ y ⊠ s.H
      one_H = ap (λ h. x ⊠ x ⊠ h) eH ∙ solve R (var 0 :* var 0 :* (var 1 :* var 2)) (var 1 :* (var 0 :* var 0) :* var 2) tt (x ∷ β ∷ s.H ∷ [])

      times : (u v : El 𝓥) → stretch 𝓥 x y ((O (at s)).ops.mul u v) ≡ (O (at s')).ops.mul (stretch 𝓥 x y u) (stretch 𝓥 x y v)
      times u v =
          -- the variables: G, H, G', H', x, y, then u and v
          let l : List (Poly 𝓥) = s.G ∷ s.H ∷ s'.G ∷ s'.H ∷ x ∷ y ∷ u.a ∷ u.b ∷ u.c ∷ v.a ∷ v.b ∷ v.c ∷ [] in
          let m : Tri Expr = mul_t exprs (var 0) (var 1) (tri_e (var 6) (var 7) (var 8)) (tri_e (var 9) (var 10) (var 11)) in
          let m' : Tri Expr = mul_t exprs (var 2) (var 3) (tri_e (var 6) (var 4 :* var 7) (var 5 :* var 8)) (tri_e (var 9) (var 4 :* var 10) (var 5 :* var 11)) in
          O_path (at s')
          (solve_by R m.a m'.a (hyp (minus (var 7 :* var 11 :+ var 8 :* var 10)) (var 4 :* var 5 :* (var 2 :* var 3)) (var 0 :* var 1) ∷ []) tt l (both, tt))
          (solve_by R (var 4 :* m.b) m'.b (hyp (minus (var 8 :* var 11)) (var 5 :* var 5 :* var 2) (var 4 :* var 0) ∷ []) tt l (one_G, tt))
          (solve_by R (var 5 :* m.c) m'.c (hyp (minus (var 7 :* var 10)) (var 4 :* var 4 :* var 3) (var 5 :* var 1) ∷ []) tt l (one_H, tt))

      -- ---- the sizes
      B_kept : (b : L.El) → x.0 * b * s'.r ≡ b * r
      B_kept b = rg.pulled L x.0 k.κ.0 b r s'.r (ap (λ z. z.0) x_inverse) series.0

      C_kept : (c : L.El) → y.0 * c * s'.w ≡ c * w
      C_kept c = rg.pulled L y.0 y'.0 c w s'.w (ap (λ z. z.0) y_inverse) series.1

      pub scaled : Carries s s'
      scaled = record {
        to = stretch 𝓥 x y;
        from = stretch 𝓥 k.κ y';
        to_from = λ v. O_path (at s') refl (rg.undo R x k.κ v.b x_inverse) (rg.undo R y y' v.c y_inverse);
        from_to = λ v. O_path (at s) refl (rg.undo R k.κ x v.b k.inverse) (rg.undo R y' y v.c (R.laws.mul_comm y' y ∙ y_inverse));
        add = λ u v. O_path (at s') refl (R.laws.mul-add x u.b v.b) (R.laws.mul-add y u.c v.c);
        mul = times;
        poly = λ a. O_path (at s') refl (rg.mul-zero R x) (rg.mul-zero R y);
        first = λ v. refl;
        X_kept = λ v. ap₂ ◌+◌ (B_kept v.b.0) (C_kept v.c.0);
        σ = 1ₚ;
        sign = R.laws.mul-one 1ₚ;
        Y_kept = λ v. ap₂ (λ b c. b + - c) (B_kept v.b.0) (C_kept v.c.0) ∙ sym (rg.one-mul L (Y (at s) v));
      }

      pub stretched : Stretched 𝓥 s s' scaled
      unfolding scaled
      stretched = record {
        factors = record {
          α = α;
          β = β;
          x = x;
          y = y;
          α_unit = uα;
          β_unit = uβ;
          x_unit = (k.κ, sym x_inverse);
          y_unit = (y', sym y_inverse);
          cube = x_cube;
          square = refl;
        };
        pair = (eG, eH);
        rows = λ v. refl;
        plus = refl;
      }
