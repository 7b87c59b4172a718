-- From the product to the unit: E made monic, and its inverse.
--   closing_fit     the product at a closing, scaled: its norm is a unit, and half its degree bounds the cofactor
--   scaled_six      what `unit_monic::monic` hands out is a constant times the product
--   monic_in        what `monic` asks
--   inverse_in      what `inverted` asks after it
--   holds           the six rows hold the unit and its inverse
use mathlib.Core.Path.{◌≡◌, refl, sym, ap, ◌∙◌, subst}
use mathlib.Core.Logic.{◌≢◌}
use mathlib.Core.List.{List, [], ◌∷◌}
use Prim.Native.Nat.{ℕ, zero, suc, ◌+◌, ◌*◌, ◌-◌, ◌/◌, ◌%◌, ◌<◌}
use native.Mathlib.Omega.{arith}
use lib.ListN.{get_or}
use Rattle.math_ring.proofs.Laws as rg
use Rattle.math_ring.proofs.Solve.{var, hyp, one, minus, ◌:*◌, solve_by}
use Rattle.math_valued.specs.Degree.{Has, Leads}
use Rattle.math_valued.specs.Polynomial.{polys, IsUnit}
use Rattle.math_valued.proofs.Degree.{has_eq, lt_eq, has_not_zero, same, lead_eq}
use Rattle.math_valued.proofs.Compare.{has_scale, lt_scale}
use Rattle.math_valued.proofs.Polynomial.{unit_const, const_unit}
use Rattle.math_rows.specs.Reading.{Reading}
use Rattle.math_rows.specs.Made.{reading}
use Rattle.math_rows.specs.Row.{Size, row}
use Rattle.math_rows.proofs.Rows.{size_lead}
use Rattle.math_rows.proofs.Tab.{at_tab}
use Rattle.math_rows.proofs.Floors.{sized, zero_row}
use Rattle.field_open.specs.Refusal.{Accepted}
use Rattle.math_ideals.specs.Setting.{Setting, P}
use Rattle.math_ideals.specs.Element.{O, sc, ev, norm, cof}
use Rattle.math_ideals.specs.Ideal.{Basis}
use Rattle.math_ideals.specs.Next.{Start}
use Rattle.math_ideals.proofs.Sizes.{sc_a, sc_b, sc_c, ev_sc}
use Rattle.math_ideals.proofs.Lattice.{sc_mul}
use Rattle.math_chain.specs.Chain.{Closing, Product}
use Rattle.math_chain.specs.Convention.{e0_monic}
use Rattle.math_chain.specs.Unit.{UnitOf, Fit}
use Rattle.math_chain.proofs.Walk.{same_products}
use Rattle.math_chain.proofs.Passed.{passed, product_unique}
use Rattle.math_chain.proofs.Rows.{product_rows, unit_rows}
use Rattle.math_chain.proofs.Unit.{norm_unit, inverse_cof, half, closing_unit, closing_pos, unit_made}
use Rattle.basis_record.specs.Record.{setting, basis_of}
use Rattle.unit_inverse.proofs.Inverting.{row_scaled}
use Rattle.unit_rows.specs.Six.{cut}
use Rattle.unit_finish.specs.Rows.{six}
use Rattle.unit_finish.specs.Finish.{Along}
use Rattle.unit_finish.proofs.Stored.{list_top, six_path}
use Rattle.unit_finish.proofs.Rows.{cut_below}

-- ---- at a closing
module _ (S : Setting) (B₀ : Basis S) (st : Start S B₀) {l n : ℕ} {B : Basis S} (k : Closing S B₀ l n B) (E₁ : (O S).El) (h : Product S k.chain E₁) where
  open (O S).ops use {mul as ◌⊗◌, 𝟏 as 1ₒ}
  open (polys S.𝓥).ops use {mul as ◌⊠◌, 𝟏 as 1ₚ}

  infixl 70 ◌⊗◌ ◌⊠◌
  same_E : (passed S B₀ st k.chain).E ≡ E₁
  same_E = product_unique S k.chain (passed S B₀ st k.chain).E E₁ (passed S B₀ st k.chain).product h

  -- E0 has the degree of the product
  pub closing_top : Has S.𝓥 E₁.a.0 n
  closing_top = subst (λ v. Has S.𝓥 v.a.0 n) same_E ((product_rows S B₀ st k.chain).1 k.some)

  module _ (s : P S) (us : IsUnit S.𝓥 s) where
    scaled_inverse : (F : (O S).El) × ((sc S s ⊗ E₁) ⊗ F ≡ 1ₒ)
    scaled_inverse =
        let (F, e) = closing_unit S B₀ st k in
        let (s', u) = us in (
          sc S s' ⊗ F,
          solve_by (O S) (var 0 :* var 1 :* (var 2 :* var 3)) one (hyp (var 0 :* var 2) (var 1 :* var 3) one ∷ hyp (minus one) one (var 0 :* var 2) ∷ []) tt (sc S s ∷ E₁ ∷ sc S s' ∷ F ∷ [])
              (ap (λ v. v ⊗ F) (sym same_E) ∙ e, (ap (sc S) u ∙ sc_mul S s s', tt)),
        )

    scaled_degree : Has S.𝓥 (ev S (sc S s ⊗ E₁)) n
    scaled_degree = has_eq S.𝓥 (has_scale S.𝓥 (unit_const S.𝓥 s us) (subst (λ v. Has S.𝓥 (ev S v) n) same_E (passed S B₀ st k.chain).E_deg)) (sym (ev_sc S s E₁))

    pub closing_norm_unit : IsUnit S.𝓥 (norm S (sc S s ⊗ E₁))
    closing_norm_unit = norm_unit S (sc S s ⊗ E₁) scaled_inverse.0 scaled_inverse.1

    -- half the degree bounds the cofactor
    pub closing_fit : Fit S (n / 2 + 1) (cof S (sc S s ⊗ E₁))
    closing_fit =
        let (F, e) = scaled_inverse in
        let E = sc S s ⊗ E₁ in
        let (m, d) = half S E F e scaled_degree in
        let (fE, fF) = unit_rows S E F n m e scaled_degree (closing_pos S B₀ st k) d in
        let u = unit_const S.𝓥 (norm S E) closing_norm_unit in
        let c = inverse_cof S E F e in
        let o : suc m ≡ n / 2 + 1 = omega arith in
        subst (λ j. Fit S j (cof S E)) o (subst (Fit S (suc m)) c (record {
          a_lt = lt_eq S.𝓥 (lt_scale S.𝓥 u fF.a_lt) (sym (sc_a S (norm S E) F));
          b_lt = lt_eq S.𝓥 (lt_scale S.𝓥 u fF.b_lt) (sym (sc_b S (norm S E) F));
          c_lt = lt_eq S.𝓥 (lt_scale S.𝓥 u fF.c_lt) (sym (sc_c S (norm S E) F));
        }))

-- ---- the top of a row
module _ {p : ℕ} (ρ : Reading p) where
  open ρ use {𝓥, cast}
  open 𝓥 use {Lead}

  -- the coefficient at the degree
  top_lead : (l : List ℕ) (d : ℕ) → ((i : ℕ) → get_or l i 0 < p) → Has 𝓥 (row ρ l) d → (0 < get_or l d 0) × Lead (row ρ l) d 0 (cast (get_or l d 0))
  top_lead l d each h = go (sized l).0 (sized l).1
    where
      go : (m : ℕ) → Size l m → (0 < get_or l d 0) × Lead (row ρ l) d 0 (cast (get_or l d 0))
      go zero s = absurd (has_not_zero 𝓥 (has_eq 𝓥 h (zero_row ρ l s)))
      go (suc m) s =
          let e : m ≡ d = same 𝓥 (cast (get_or l m 0), list_top ρ l each m s, size_lead ρ s) h in (
            (let z : get_or l d 0 ≢ 0 = (λ f. list_top ρ l each m s (ap (λ j. cast (get_or l j 0)) e ∙ ap cast f ∙ ρ.cast_zero)) in omega (arith, z)),
            subst (λ j. Lead (row ρ l) j 0 (cast (get_or l j 0))) e (size_lead ρ s),
          )

-- ---- the product of an opened field
module _ {p : ℕ} {G H B : List ℕ} {c l d : ℕ} {b rows : List ℕ} (A : Accepted p G H) (along : Along p G H B c l d b rows) (st : Start (setting A) (basis_of A B)) {B' : Basis (setting A)} (k : Closing (setting A) (basis_of A B) l d B') (room : d < c) where
  abbrev S : Setting
  S = setting A

  abbrev ρ : Reading p
  ρ = reading p A.prime

  abbrev E₁ : (O S).El
  E₁ = six A c 0 rows

  pub product_at : Product S k.chain E₁
  product_at =
      let (i, j) = same_products S (basis_of A B) st.good (along.product A).0 k.chain refl in
      ap (λ v. (O S).ops.mul (sc S v) E₁) (sym j) ∙ (along.product A).1 ∙ i

  first_each : (i : ℕ) → get_or (cut 0 c rows) i 0 < p
  first_each = cut_below 0 c rows along.each

  first_at : get_or (cut 0 c rows) d 0 ≡ get_or rows d 0
  first_at = at_tab c (λ i. get_or rows (0 + i) 0) d room ∙ ap (λ j. get_or rows j 0) (let o : 0 + d ≡ d = omega arith in o)

  top_of : (0 < get_or (cut 0 c rows) d 0) × ρ.𝓥.Lead (row ρ (cut 0 c rows)) d 0 (ρ.cast (get_or (cut 0 c rows) d 0))
  top_of = top_lead ρ (cut 0 c rows) d first_each (closing_top S (basis_of A B) st k E₁ product_at)

  pub top_some : 0 < get_or rows d 0
  top_some = subst (λ v. 0 < v) first_at top_of.0

  -- scaled
  module _ (rows₁ : List ℕ) (q : ℕ) (inverse : (get_or rows d 0 * q) % p ≡ 1) (at : (i : ℕ) → i < c + c + c → get_or rows₁ i 0 ≡ (get_or rows i 0 * q) % p) where
    product_one : ρ.𝓥.K.ops.mul (ρ.cast q) (ρ.cast (get_or (cut 0 c rows) d 0)) ≡ ρ.𝓥.K.ops.𝟏
    product_one =
        ap (λ v. ρ.𝓥.K.ops.mul (ρ.cast q) (ρ.cast v)) first_at ∙ ρ.𝓥.K.laws.mul_comm _ _ ∙ sym (ρ.cast_mul (get_or rows d 0) q) ∙ sym (ρ.cast_mod (get_or rows d 0 * q)) ∙ ap ρ.cast inverse ∙ ρ.cast_one

    abbrev pub factor : P S
    factor = (ρ.𝓥.const (ρ.cast q), ρ.𝓥.const_poly (ρ.cast q))

    pub factor_unit : IsUnit S.𝓥 factor
    factor_unit = const_unit S.𝓥 factor (ρ.cast q, (λ z. ρ.𝓥.one≢zero (sym product_one ∙ ap (λ v. ρ.𝓥.K.ops.mul v (ρ.cast (get_or (cut 0 c rows) d 0))) z ∙ rg.zero_mul' ρ.𝓥.K (ρ.cast (get_or (cut 0 c rows) d 0)))), ρ.𝓥.const_lead (ρ.cast q))

    pub scaled_six : six A c 0 rows₁ ≡ (O S).ops.mul (sc S factor) E₁
    scaled_six = six_path A c 0 rows₁ ((O S).ops.mul (sc S factor) E₁)
        (row_scaled ρ q 0 c rows rows₁ (λ i u. at (0 + i) (omega arith)) ∙ sym (sc_a S factor E₁))
        (row_scaled ρ q (0 + c) c rows rows₁ (λ i u. at (0 + c + i) (omega arith)) ∙ sym (sc_b S factor E₁))
        (row_scaled ρ q (0 + c + c) c rows rows₁ (λ i u. at (0 + c + c + i) (omega arith)) ∙ sym (sc_c S factor E₁))

    scaled_monic : Leads S.𝓥 ((O S).ops.mul (sc S factor) E₁).a.0 S.𝓥.K.ops.𝟏
    scaled_monic = (d, 0, S.𝓥.one≢zero, lead_eq S.𝓥 (S.𝓥.lead_move d 0 (S.𝓥.lead_mul (S.𝓥.const_lead (ρ.cast q)) top_of.1) (omega arith)) (sym (sc_a S factor E₁)) product_one)

    pub fits_at : Fit S (d / 2 + 1) (cof S (six A c 0 rows₁))
    fits_at = subst (λ v. Fit S (d / 2 + 1) (cof S v)) (sym scaled_six) (closing_fit S (basis_of A B) st k E₁ product_at factor factor_unit)

    pub unit_at : IsUnit S.𝓥 (norm S (six A c 0 rows₁))
    unit_at = subst (λ v. IsUnit S.𝓥 (norm S v)) (sym scaled_six) (closing_norm_unit S (basis_of A B) st k E₁ product_at factor factor_unit)

    -- the unit
    pub unit_of : (ν : P S) → (polys S.𝓥).ops.𝟏 ≡ (polys S.𝓥).ops.mul (norm S (six A c 0 rows₁)) ν → UnitOf S e0_monic (basis_of A B) l d (six A c 0 rows₁) ((O S).ops.mul (sc S ν) (cof S (six A c 0 rows₁)))
    unit_of ν e = subst (λ v. UnitOf S e0_monic (basis_of A B) l d v ((O S).ops.mul (sc S ν) (cof S v))) (sym scaled_six)
        (unit_made S e0_monic (basis_of A B) st k E₁ factor ν product_at factor_unit scaled_monic (subst (λ v. (polys S.𝓥).ops.𝟏 ≡ (polys S.𝓥).ops.mul (norm S v) ν) scaled_six e))
