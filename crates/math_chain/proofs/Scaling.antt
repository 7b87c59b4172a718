-- One scaling under each convention, over both at once. A convention weighs an element, by E0 or by the norm, and the weight of s v is s or s³
-- times that of v: both send the constants other than 0 to such constants, one to one.
--   named_one named_two number_unique   a convention by its number
--   weigh weigh_sc       the weight, and that of s v
--   times times_inj      s or s³, for a constant s; one to one
--   scaled_out scaled_in   scaled is: the weight leads with 1
--   norm_scaled          the norm of s v is a unit where that of v is
--   scale_unique         two scalings of one element are equal
--   scaled_by scale_exists   the constant that undoes the weight scales
--   one_scaling          there is exactly one scaling
use mathlib.Core.Path.{◌≡◌, refl, sym, ap, ◌∙◌, subst}
use mathlib.Core.Logic.{◌≢◌}
use mathlib.Core.List.{[], ◌∷◌}
use native.Mathlib.Omega.{arith}
use Rattle.math_ring.proofs.Laws as rg
use Rattle.math_ring.proofs.Solve.{var, hyp, one, zer, minus, ◌:+◌, ◌:*◌, solve_by}
use Rattle.math_valued.specs.Degree.{Leads}
use Rattle.math_valued.specs.Polynomial.{polys, IsUnit}
use Rattle.math_valued.proofs.Degree as d
use Rattle.math_valued.proofs.Compare.{leads_mul, leads_cube, leads_one, leads_unique, leads_at, k_zero}
use Rattle.math_valued.proofs.Polynomial.{unit_of, unit_const, const_unit, const_path}
use Rattle.math_ideals.specs.Setting.{Setting, P}
use Rattle.math_ideals.specs.Element.{O, sc, norm}
use Rattle.math_ideals.proofs.Sizes.{sc_a}
use Rattle.math_ideals.proofs.Values.{norm_mul}
use Rattle.math_ideals.proofs.Norm.{norm_sc}
use Rattle.math_chain.specs.Convention.{Convention, e0_monic, norm_one, number, Cubes, Scaled, OneScaling}

pub named_one : (k : Convention) → number k ≡ 1 → k ≡ e0_monic
named_one e0_monic e = refl
named_one norm_one e = absurd (omega (arith, e))

pub number_unique : (k k' : Convention) → number k ≡ number k' → k ≡ k'
number_unique e0_monic e0_monic e = refl
number_unique e0_monic norm_one e = absurd (omega (arith, e))
number_unique norm_one e0_monic e = absurd (omega (arith, e))
number_unique norm_one norm_one e = refl

pub named_two : (k : Convention) → number k ≢ 1 → k ≡ norm_one
named_two e0_monic f = absurd (f refl)
named_two norm_one f = refl

module _ (S : Setting) where
  open S use {𝓥}
  open 𝓥 use {K, L, Lead}
  open K.ops use {add as ◌+ᵏ◌, mul as ◌*ᵏ◌, neg as -ᵏ◌, 𝟎 as 0ᵏ, 𝟏 as 1ᵏ}
  open (polys 𝓥).ops use {mul as ◌⊠◌, 𝟏 as 1ₚ}
  open (O S).ops use {mul as ◌⊗◌}

  infixl 60 ◌+ᵏ◌
  infixl 70 ◌*ᵏ◌ ◌⊗◌ ◌⊠◌
  infix 80 -ᵏ◌
  abbrev pub weigh : Convention → (O S).El → L.El
  weigh e0_monic v = v.a.0
  weigh norm_one v = (norm S v).0

  abbrev pub times : Convention → K.El → K.El
  times e0_monic a = a
  times norm_one a = a *ᵏ a *ᵏ a

  -- ---- the constants
  -- a² + ab + b² is not 0, so a³ − b³ is 0 only where a − b is
  pub cube_inj : (a b : K.El) → a ≢ 0ᵏ → a *ᵏ a *ᵏ a ≡ b *ᵏ b *ᵏ b → a ≡ b
  cube_inj a b ha e =
      let q : K.El = a *ᵏ a +ᵏ -ᵏ (a *ᵏ -ᵏ b) +ᵏ -ᵏ b *ᵏ -ᵏ b in
      let nq : q ≢ 0ᵏ = (λ z. ha (S.roots.form a (-ᵏ b) z).0) in
      let x = var 0 in let y = var 1 in
      let z : a +ᵏ -ᵏ b ≡ 0ᵏ = k_zero 𝓥 q (a +ᵏ -ᵏ b) nq
      (solve_by K ((x :* x :+ minus (x :* minus y) :+ minus y :* minus y) :* (x :+ minus y)) zer (hyp one (x :* x :* x) (y :* y :* y) ∷ []) tt (a ∷ b ∷ []) (e, tt)) in
      solve_by K x y (hyp one (x :+ minus y) zer ∷ []) tt (a ∷ b ∷ []) (z, tt)

  times_inj : (k : Convention) (a b : K.El) → a ≢ 0ᵏ → times k a ≡ times k b → a ≡ b
  times_inj e0_monic a b ha e = e
  times_inj norm_one a b ha e = cube_inj a b ha e

  inverse_not : (c i : K.El) → c *ᵏ i ≡ 1ᵏ → i ≢ 0ᵏ
  inverse_not c i e z = 𝓥.one≢zero (sym e ∙ ap (λ t. c *ᵏ t) z ∙ rg.mul-zero K c)

  -- what undoes a weight c
  undo : Cubes K → (k : Convention) (c : K.El) → c ≢ 0ᵏ → (a : K.El) × (a ≢ 0ᵏ) × (times k a *ᵏ c ≡ 1ᵏ)
  undo cubes e0_monic c hc = let (i, e) = 𝓥.field.inv c hc in (i, inverse_not c i e, K.laws.mul_comm i c ∙ e)
  undo cubes norm_one c hc =
      let (i, e) = 𝓥.field.inv c hc in
      let (v, f) = cubes i in
      (v, (λ z. inverse_not c i e (sym f ∙ ap (λ t. t *ᵏ t *ᵏ t) z ∙ rg.mul-zero K (0ᵏ *ᵏ 0ᵏ))), ap (λ t. t *ᵏ c) f ∙ K.laws.mul_comm i c ∙ e)

  -- ---- weights
  pub weigh_sc : (k : Convention) {a c : K.El} (s : P S) (v : (O S).El) → a ≢ 0ᵏ → Lead s.0 0 0 a → Leads 𝓥 (weigh k v) c → Leads 𝓥 (weigh k (sc S s ⊗ v)) (times k a *ᵏ c)
  weigh_sc e0_monic {a} {c} s v ha h l = subst (λ z. Leads 𝓥 z (a *ᵏ c)) (sym (sc_a S s v)) (leads_mul 𝓥 (0, 0, ha, h) l)
  weigh_sc norm_one {a} {c} s v ha h l =
      subst (λ z. Leads 𝓥 z (a *ᵏ a *ᵏ a *ᵏ c)) (sym (ap (λ z. z.0) (norm_mul S (sc S s) v ∙ ap (λ z. z ⊠ norm S v) (norm_sc S s)))) (leads_mul 𝓥 (leads_cube 𝓥 (0, 0, ha, h)) l)

  pub scaled_out : (k : Convention) (E : (O S).El) → Scaled S k E → Leads 𝓥 (weigh k E) 1ᵏ
  scaled_out e0_monic E m = m
  scaled_out norm_one E e = subst (λ z. Leads 𝓥 z 1ᵏ) (sym (ap (λ z. z.0) e)) (leads_one 𝓥)

  pub scaled_in : (k : Convention) (E : (O S).El) → IsUnit 𝓥 (norm S E) → Leads 𝓥 (weigh k E) 1ᵏ → Scaled S k E
  scaled_in e0_monic E u l = l
  scaled_in norm_one E u l = const_path 𝓥 (leads_at 𝓥 l (unit_const 𝓥 (norm S E) u)) 𝓥.lead_one

  pub norm_scaled : (s : P S) (v : (O S).El) → IsUnit 𝓥 s → IsUnit 𝓥 (norm S v) → IsUnit 𝓥 (norm S (sc S s ⊗ v))
  norm_scaled s v us uv =
      let h = unit_const 𝓥 s us in
      const_unit 𝓥 (norm S (sc S s ⊗ v)) (d.has_eq 𝓥 (d.has_mul 𝓥 (d.has_mul 𝓥 (d.has_mul 𝓥 h h) h) (unit_const 𝓥 (norm S v) uv))
      (sym (ap (λ z. z.0) (norm_mul S (sc S s) v ∙ ap (λ z. z ⊠ norm S v) (norm_sc S s)))))

  -- ---- one scaling
  pub scale_unique : (k : Convention) {c : K.El} (v : (O S).El) (s s' : P S) → Leads 𝓥 (weigh k v) c → IsUnit 𝓥 s → IsUnit 𝓥 s' → Scaled S k (sc S s ⊗ v) → Scaled S k (sc S s' ⊗ v) → s ≡ s'
  scale_unique k {c} v s s' lv us us' ms ms' =
      let (a, ha, h) = unit_const 𝓥 s us in
      let (b, hb, g) = unit_const 𝓥 s' us' in
      let e : times k a *ᵏ c ≡ 1ᵏ = leads_unique 𝓥 (weigh_sc k s v ha h lv) (scaled_out k (sc S s ⊗ v) ms) in
      let e' : times k b *ᵏ c ≡ 1ᵏ = leads_unique 𝓥 (weigh_sc k s' v hb g lv) (scaled_out k (sc S s' ⊗ v) ms') in
      let ab : a ≡ b = times_inj k a b ha (d.k_cancel 𝓥 c (times k a) (times k b) lv.2 (K.laws.mul_comm c (times k a) ∙ e ∙ sym e' ∙ K.laws.mul_comm (times k b) c)) in
      const_path 𝓥 (d.lead_eq 𝓥 h refl ab) g

  pub scaled_by : (k : Convention) {a c : K.El} (s : P S) (v : (O S).El) → IsUnit 𝓥 (norm S v) → a ≢ 0ᵏ → Lead s.0 0 0 a → Leads 𝓥 (weigh k v) c → times k a *ᵏ c ≡ 1ᵏ → Scaled S k (sc S s ⊗ v)
  scaled_by k {a} {c} s v u ha h l e =
      scaled_in k (sc S s ⊗ v) (norm_scaled s v (const_unit 𝓥 s (a, ha, h)) u) (subst (Leads 𝓥 (weigh k (sc S s ⊗ v))) e (weigh_sc k s v ha h l))

  pub scale_exists : (k : Convention) {a c : K.El} (v : (O S).El) → IsUnit 𝓥 (norm S v) → a ≢ 0ᵏ → Leads 𝓥 (weigh k v) c → times k a *ᵏ c ≡ 1ᵏ → (s : P S) × IsUnit 𝓥 s × Scaled S k (sc S s ⊗ v)
  scale_exists k {a} v u ha l e = let o = unit_of 𝓥 a ha in (o.a, (o.a', sym o.inverse), scaled_by k o.a v u ha o.lead l e)

  pub monic_exists : {c : K.El} (v : (O S).El) → IsUnit 𝓥 (norm S v) → Leads 𝓥 v.a.0 c → (s : P S) × IsUnit 𝓥 s × Scaled S e0_monic (sc S s ⊗ v)
  monic_exists {c} v u l = let (i, e) = 𝓥.field.inv c l.2 in scale_exists e0_monic v u (inverse_not c i e) l (K.laws.mul_comm i c ∙ e)

  -- where there is a weight of either kind
  pub weight : (k : Convention) {c : K.El} (v : (O S).El) → IsUnit 𝓥 (norm S v) → Leads 𝓥 v.a.0 c → (e : K.El) × Leads 𝓥 (weigh k v) e
  weight e0_monic {c} v u l = (c, l)
  weight norm_one v u l = let (e, he, h) = unit_const 𝓥 (norm S v) u in (e, (0, 0, he, h))

  pub one_scaling : Cubes K → (k : Convention) {c : K.El} (v : (O S).El) → IsUnit 𝓥 (norm S v) → Leads 𝓥 v.a.0 c → OneScaling S k v
  one_scaling cubes k v u l =
      let (c, w) = weight k v u l in
      let (a, ha, e) = undo cubes k c w.2 in
      let (s, us, m) = scale_exists k v u ha w e in
      record { by = s; is_a_unit = us; scaled = m; only = λ s' us' m'. scale_unique k v s' s w us' us m' m }
