-- The factors of two accepted pairs as numbers.
--   constant             the constant polynomial of a number
--   Number, number_of    a constant that is not 0 is that of a number below p
--   laws                 the factors of B and C are numbers x and y, and what the leading coefficients say of them
--   constants            which settles them
use mathlib.Core.Path.{◌≡◌, refl, sym, ap, ap₂, ◌∙◌, subst}
use mathlib.Core.List.{List, [], ◌∷◌}
use Prim.Native.Nat.{ℕ, ◌%◌, ◌<◌}
use Rattle.math_ring.proofs.Solve.{var, one, ◌:*◌, ◌:=◌, hyp, solve_by, ring₃}
use Rattle.math_fp.specs.Fp.{Prime}
use Rattle.math_valued.specs.Degree.{Leads}
use Rattle.math_valued.specs.Polynomial.{polys, Poly, IsUnit}
use Rattle.math_valued.proofs.Degree.{lead_eq}
use Rattle.math_valued.proofs.Compare.{leads_mul, leads_cube, leads_unique, leads_one}
use Rattle.math_valued.proofs.Polynomial.{const_path, unit_const}
use Rattle.math_rows.specs.Reading.{Reading}
use Rattle.math_rows.specs.Made.{reading}
use Rattle.poly_rows.specs.Polynomial.{polynomial}
use Rattle.field_open.specs.Refusal.{Degree}
use Rattle.field_open.proofs.Accept.{degree_leads}
use Rattle.pair_laws.specs.OneField.{leading}
use Rattle.pair_laws.specs.Rows.{Law}
use Rattle.pair_laws.proofs.Lists.{leading_at, leading_not}
use Rattle.pair_laws.proofs.Laws.{law_of, law_unique}
use Rattle.math_carry.specs.Carries.{Factors}

module _ (p : ℕ) (pr : Prime p) where
  abbrev ρ : Reading p
  ρ = reading p pr

  open ρ use {𝓥, cast}
  open 𝓥 use {K, const}
  open K.ops use {mul as ◌*ᵏ◌}
  open (polys 𝓥).ops use {mul as ◌⊠◌}

  infixl 70 ◌⊠◌ ◌*ᵏ◌
  abbrev pub constant : ℕ → Poly 𝓥
  constant k = (const (cast k), 𝓥.const_poly (cast k))

  pub record Number (u : Poly 𝓥) : Type 0 where
    pub k : ℕ
    pub below : k < p
    pub is : u ≡ constant k
    pub leads : Leads 𝓥 u.0 (cast k)

  pub number_of : (u : Poly 𝓥) → IsUnit 𝓥 u → Number u
  number_of u un =
      let (a, ha, la) = unit_const 𝓥 u un in
      let (k, h, e) = ρ.cast_onto a in
      record {
        k = k;
        below = h;
        is = const_path 𝓥 {a = u} {b = constant k} (lead_eq 𝓥 la refl (sym e)) (𝓥.const_lead (cast k));
        leads = subst (Leads 𝓥 u.0) (sym e) (0, 0, ha, la);
      }

  -- ---- the leading coefficients
  list_leads : {l : List ℕ} {n : ℕ} → Degree p l n → Leads 𝓥 (polynomial p pr l).0 (cast (leading l))
  list_leads {l} {n} h =
      subst (λ i. Leads 𝓥 (polynomial p pr l).0 (cast i)) (sym (leading_at p pr h)) (degree_leads pr h)

  -- G' = αG at the leading coefficients
  lead_times : {u : Poly 𝓥} (k : Number u) {l l' : List ℕ} {n n' : ℕ} → Degree p l n → Degree p l' n'
      → polynomial p pr l' ≡ u ⊠ polynomial p pr l → cast (leading l') ≡ cast k.k *ᵏ cast (leading l)
  lead_times k {l} {l'} h h' e =
      leads_unique 𝓥 (list_leads h') (subst (λ z. Leads 𝓥 z.0 (cast k.k *ᵏ cast (leading l))) (sym e) (leads_mul 𝓥 k.leads (list_leads h)))

  -- ---- for lists with l' = αl and m' = βm
  module _ (f : Factors 𝓥) {l m l' m' : List ℕ} {d e d' e' : ℕ} (hl : Degree p l d) (hm : Degree p m e) (hl' : Degree p l' d') (hm' : Degree p m' e')
      (eα : polynomial p pr l' ≡ f.α ⊠ polynomial p pr l) (eβ : polynomial p pr m' ≡ f.β ⊠ polynomial p pr m) where
    ka : Number f.α
    ka = number_of f.α f.α_unit

    kb : Number f.β
    kb = number_of f.β f.β_unit

    kx : Number f.x
    kx = number_of f.x f.x_unit

    ky : Number f.y
    ky = number_of f.y f.y_unit

    abbrev a : K.El
    a = cast ka.k

    abbrev b : K.El
    b = cast kb.k

    abbrev x : K.El
    x = cast kx.k

    cube_at : x *ᵏ x *ᵏ x *ᵏ (a *ᵏ (b *ᵏ b)) ≡ K.ops.𝟏
    cube_at =
        leads_unique 𝓥
        (subst (λ z. Leads 𝓥 z.0 (x *ᵏ x *ᵏ x *ᵏ (a *ᵏ (b *ᵏ b)))) f.cube
        (leads_mul 𝓥 (leads_cube 𝓥 kx.leads) (leads_mul 𝓥 ka.leads (leads_mul 𝓥 kb.leads kb.leads))))
        (leads_one 𝓥)

    square_at : cast ky.k ≡ b *ᵏ (x *ᵏ x)
    square_at =
        leads_unique 𝓥 ky.leads
        (subst (λ z. Leads 𝓥 z.0 (b *ᵏ (x *ᵏ x))) (sym f.square) (leads_mul 𝓥 kb.leads (leads_mul 𝓥 kx.leads kx.leads)))

    law : Law p kx.k ky.k (leading l) (leading m) (leading l') (leading m')
    law =
        let g = cast (leading l) in
        let h = cast (leading m) in
        let eg = lead_times ka hl hl' eα in
        let eh = lead_times kb hm hm' eβ in
        law_of p pr kx.k ky.k (leading l) (leading m) (leading l') (leading m') kx.below ky.below
        (ap₂ (λ s t. x *ᵏ x *ᵏ x *ᵏ (s *ᵏ (t *ᵏ t))) eg eh
        ∙ solve_by K (var 0 :* var 0 :* var 0 :* (var 1 :* var 3 :* (var 2 :* var 4 :* (var 2 :* var 4)))) (var 3 :* (var 4 :* var 4))
        (hyp (var 3 :* (var 4 :* var 4)) (var 0 :* var 0 :* var 0 :* (var 1 :* (var 2 :* var 2))) one ∷ []) tt (x ∷ a ∷ b ∷ g ∷ h ∷ []) (cube_at, tt))
        (ap (λ z. z *ᵏ h) square_at
        ∙ ring₃ K (λ b x h. b :* (x :* x) :* h := x :* x :* (b :* h)) tt b x h
        ∙ ap (λ z. x *ᵏ x *ᵏ z) (sym eh))

    pub laws : (x y : ℕ) × Law p x y (leading l) (leading m) (leading l') (leading m')
    laws = (kx.k, ky.k, law)

    pub constants : p % 3 ≡ 2 → {x y : ℕ} → Law p x y (leading l) (leading m) (leading l') (leading m') → (f.x ≡ constant x) × (f.y ≡ constant y)
    constants kind h =
        let (ex, ey) = law_unique p pr kind (leading_not p pr hl') (leading_not p pr hm') (leading_not p pr hm) law h in
        (kx.is ∙ ap constant ex, ky.is ∙ ap constant ey)
