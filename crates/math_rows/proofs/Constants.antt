-- The constants of a reading are the field of p elements: the class of a number is a bijection that keeps sums and products. So the facts of
-- crate math_fp hold for them, at every prime p with p mod 3 = 2.
--   φ                  the class of an element of F p
--   φ_add .. φ_onto    it keeps the operations, is 0 only at 0, and is onto
--   two≢ three≢        2 ≠ 0 for p > 2, and 3 ≠ 0
--   no_omega           z² + z + 1 ≠ 0
--   form, form'        u² − u v + v² = 0 and 3 u² + v² = 0 only for u = v = 0
--   cube_inj, root     each constant has one cube root
use mathlib.Core.Path.{◌≡◌, sym, ap, ap₂, ◌∙◌}
use mathlib.Core.Logic.{◌≢◌}
use Prim.Native.Nat.{ℕ, ◌<◌, ◌%◌}
use Prim.Native.Nat as N
use native.Mathlib.Nat.{mod-eq_of_lt}
use native.Mathlib.Omega.{arith}
use Rattle.math_ring.proofs.Laws as r
use Rattle.math_ring.specs.Ring.{nat}
use Rattle.math_fp.specs.Fp.{F, Prime}
use Rattle.math_fp.proofs.Ring.{F_path}
use Rattle.math_fp.proofs.Field.{Fld, ppos}
use Rattle.math_fp.proofs.Cube as c
use Rattle.math_rows.specs.Reading.{Reading}
use Rattle.math_rows.proofs.Rows.{cast_sub}

module _ {p : ℕ} (ρ : Reading p) (pr : Prime p) where
  open ρ use {𝓥, cast}
  open 𝓥 use {K}
  open K.ops use {add as ◌+◌, mul as ◌*◌, neg as -◌, 𝟎, 𝟏}
  open (Fld p pr).ops use {add as ◌⊕◌, mul as ◌⊗◌, neg as ⊖◌, 𝟎 as 0ᶠ, 𝟏 as 1ᶠ}

  infixl 60 ◌+◌ ◌⊕◌
  infixl 70 ◌*◌ ◌⊗◌
  infix 80 -◌ ⊖◌
  abbrev pub φ : F p → K.El
  φ x = cast x.0

  pub φ_add : (x y : F p) → φ (x ⊕ y) ≡ φ x + φ y
  φ_add x y = ρ.cast_mod (N.◌+◌ x.0 y.0) ∙ ρ.cast_add x.0 y.0

  pub φ_mul : (x y : F p) → φ (x ⊗ y) ≡ φ x * φ y
  φ_mul x y = ρ.cast_mod (N.◌*◌ x.0 y.0) ∙ ρ.cast_mul x.0 y.0

  pub φ_neg : (x : F p) → φ (⊖ x) ≡ - φ x
  φ_neg x = ρ.cast_mod (N.◌-◌ p x.0) ∙ cast_sub ρ x.0 (let l : x.0 < p = x.1 in omega arith)

  pub φ_zero : φ 0ᶠ ≡ 𝟎
  φ_zero = ρ.cast_mod 0 ∙ ρ.cast_zero

  pub φ_one : φ 1ᶠ ≡ 𝟏
  φ_one = ρ.cast_mod 1 ∙ ρ.cast_one

  pub φ_nat : (n : ℕ) → φ (nat (Fld p pr).ops n) ≡ nat K.ops n
  unfolding nat
  φ_nat N.zero = φ_zero
  φ_nat (N.suc n) = φ_add 1ᶠ (nat (Fld p pr).ops n) ∙ ap₂ ◌+◌ φ_one (φ_nat n)

  pub φ_none : (x : F p) → φ x ≡ 𝟎 → x ≡ 0ᶠ
  φ_none x e = F_path (ρ.cast_small x.0 x.1 e ∙ sym (mod-eq_of_lt (ppos p pr)))

  pub φ_inj : (x y : F p) → φ x ≡ φ y → x ≡ y
  φ_inj x y e = r.eq_of_sub (Fld p pr) x y (φ_none (x ⊕ ⊖ y) (φ_add x (⊖ y) ∙ ap₂ ◌+◌ e (φ_neg y) ∙ K.laws.add_neg (φ y)))

  pub φ_onto : (u : K.El) → (x : F p) × (φ x ≡ u)
  φ_onto u = let (n, l, e) = ρ.cast_onto u in ((n, l), e)

  module _ (m : p % 3 ≡ 2) where
    pub two≢ : 2 < p → 𝟏 + 𝟏 ≢ 𝟎
    unfolding nat
    two≢ l e = c.two p pr m l (φ_none (nat (Fld p pr).ops 2) (φ_nat 2 ∙ ap (λ t. 𝟏 + t) (K.laws.add-zero 𝟏) ∙ e))

    pub three≢ : 𝟏 + 𝟏 + 𝟏 ≢ 𝟎
    unfolding nat
    three≢ e = c.three p pr m (φ_none (nat (Fld p pr).ops 3) (φ_nat 3 ∙ ap (λ t. 𝟏 + (𝟏 + t)) (K.laws.add-zero 𝟏) ∙ sym (K.laws.add_assoc 𝟏 𝟏 𝟏) ∙ e))

    pub no_omega : (z : K.El) → z * z + z + 𝟏 ≢ 𝟎
    no_omega z h =
        let (x, e) = φ_onto z in
        c.no_omega p pr m x (φ_none (x ⊗ x ⊕ x ⊕ 1ᶠ)
        (φ_add (x ⊗ x ⊕ x) 1ᶠ ∙ ap₂ ◌+◌ (φ_add (x ⊗ x) x ∙ ap₂ ◌+◌ (φ_mul x x ∙ ap₂ ◌*◌ e e) e) φ_one ∙ h))

    -- both are 0 where their classes are
    both : (x y : F p) (u v : K.El) → φ x ≡ u → φ y ≡ v → (x ≡ 0ᶠ) × (y ≡ 0ᶠ) → (u ≡ 𝟎) × (v ≡ 𝟎)
    both x y u v e f (a, b) = (sym e ∙ ap φ a ∙ φ_zero, sym f ∙ ap φ b ∙ φ_zero)

    pub form : (u v : K.El) → u * u + - (u * v) + v * v ≡ 𝟎 → (u ≡ 𝟎) × (v ≡ 𝟎)
    form u v h =
        let (x, e) = φ_onto u in
        let (y, f) = φ_onto v in
        both x y u v e f (c.norm_zero p pr m x y (φ_none (x ⊗ x ⊕ ⊖ (x ⊗ y) ⊕ y ⊗ y)
        (φ_add (x ⊗ x ⊕ ⊖ (x ⊗ y)) (y ⊗ y)
        ∙ ap₂ ◌+◌ (φ_add (x ⊗ x) (⊖ (x ⊗ y)) ∙ ap₂ ◌+◌ (φ_mul x x ∙ ap₂ ◌*◌ e e) (φ_neg (x ⊗ y) ∙ ap (λ t. - t) (φ_mul x y ∙ ap₂ ◌*◌ e f))) (φ_mul y y ∙ ap₂ ◌*◌ f f)
        ∙ h)))

    pub form' : 2 < p → (u v : K.El) → nat K.ops 3 * (u * u) + v * v ≡ 𝟎 → (u ≡ 𝟎) × (v ≡ 𝟎)
    form' l u v h =
        let (x, e) = φ_onto u in
        let (y, f) = φ_onto v in
        both x y u v e f (c.norm_zero' p pr m l x y (φ_none (nat (Fld p pr).ops 3 ⊗ (x ⊗ x) ⊕ y ⊗ y)
        (φ_add (nat (Fld p pr).ops 3 ⊗ (x ⊗ x)) (y ⊗ y)
        ∙ ap₂ ◌+◌ (φ_mul (nat (Fld p pr).ops 3) (x ⊗ x) ∙ ap₂ ◌*◌ (φ_nat 3) (φ_mul x x ∙ ap₂ ◌*◌ e e)) (φ_mul y y ∙ ap₂ ◌*◌ f f)
        ∙ h)))

    φ_cube : (x : F p) → φ (x ⊗ x ⊗ x) ≡ φ x * φ x * φ x
    φ_cube x = φ_mul (x ⊗ x) x ∙ ap (λ t. t * φ x) (φ_mul x x)

    pub cube_inj : (u v : K.El) → u * u * u ≡ v * v * v → u ≡ v
    cube_inj u v h =
        let (x, e) = φ_onto u in
        let (y, f) = φ_onto v in
        sym e ∙ ap φ (c.cube_inj p pr m x y (φ_inj (x ⊗ x ⊗ x) (y ⊗ y ⊗ y) (φ_cube x ∙ ap (λ t. t * t * t) e ∙ h ∙ ap (λ t. t * t * t) (sym f) ∙ sym (φ_cube y)))) ∙ f

    pub root : (u : K.El) → (v : K.El) × (v * v * v ≡ u)
    root u = let (x, e) = φ_onto u in (φ (c.root p pr m x), sym (φ_cube (c.root p pr m x)) ∙ ap φ (c.cube_root p pr m x) ∙ e)
