-- The constant that scales the unit in six rows.
--   Held            the opened field, the unit in the rows, an accepted field
--   top_pos         E0 has a last coefficient
--   monic_law       its inverse makes E0 monic
--   norm_number     the number for the norm stands for the norm, which is not 0
--   norm_law        the cube root of its inverse makes the norm 1
--   held_of, monic_in, norm_in, factors_monic, factors_norm   what `factor` asks of its parts and hands out
use mathlib.Core.Path.{◌≡◌, refl, sym, ap, ◌∙◌, subst}
use mathlib.Core.Logic.{◌≢◌}
use mathlib.Core.List.{List}
use Prim.Native.Nat.{ℕ, zero, suc, ◌+◌, ◌*◌, ◌-◌, ◌%◌, ◌<◌, ◌≤◌}
use native.Mathlib.Omega.{arith}
use native.Mathlib.Nat.{mul-zero, mod-eq_of_lt}
use lib.ListN.{length, get_or}
use Rattle.math_ring.proofs.Laws as rg
use Rattle.math_valued.specs.Degree.{Has, Leads}
use Rattle.math_valued.proofs.Degree.{has_eq, has_not_zero, above}
use Rattle.math_valued.proofs.Polynomial.{unit_const, const_path}
use Rattle.math_rows.specs.Reading.{Reading}
use Rattle.math_rows.specs.Made.{reading}
use Rattle.math_rows.specs.Row.{Size, row}
use Rattle.math_rows.proofs.Rows.{size_lead_at}
use Rattle.math_rows.proofs.Tab.{length_tab, at_tab}
use Rattle.math_rows.proofs.Floors.{zero_row}
use Rattle.base_lists.specs.Pieces.{cut, between}
use Rattle.base_lists.proofs.Pieces.{between_cut}
use Rattle.num_power.specs.Powers.{Inverse, CubeRoot}
use Rattle.poly_long.proofs.Low.{row_lt}
use Rattle.field_open.specs.Refusal.{Accepted}
use Rattle.math_ideals.specs.Setting.{Setting}
use Rattle.math_ideals.specs.Element.{O, sc, norm}
use Rattle.math_chain.specs.Convention.{e0_monic, norm_one, Scaled, PositiveUnit}
use Rattle.math_chain.proofs.Scaling.{named_one, named_two, scaled_by}
use Rattle.math_chain.proofs.Unit.{positive_norm, positive_top}
use Rattle.basis_record.specs.Record.{setting}
use Rattle.field_series.specs.Keeps.{Kept}
use Rattle.field_series.specs.declared.OpenedField.{OpenedField}
use Rattle.basis_field.proofs.Keeps as keeps
use Rattle.unit_finish.specs.Rows.{six, HoldsUnit}
use Rattle.unit_finish.proofs.Stored.{storable}
use Rattle.unit_scale.specs.AtZero.{NormIs, ForMonicAsks, ForMonic, ForNormAsks, ForNorm}
use Rattle.unit_scale.specs.Scale.{constant, FactorAsks, Factors}
use Rattle.unit_scale.proofs.AtZero.{At, at_row, at_norm, at_const}

pub record Held (f : OpenedField) (G H : List ℕ) (c : ℕ) (rows : List ℕ) : Type 0 where
  pub kept : Kept f G H
  pub holds : HoldsUnit f.field.p G H c rows

module _ {f : OpenedField} {G H : List ℕ} {c : ℕ} {rows : List ℕ} (t : Held f G H c rows) (A : Accepted f.field.p G H) where
  abbrev p : ℕ
  p = f.field.p

  abbrev S : Setting
  S = setting A

  abbrev ρ : Reading p
  ρ = reading p A.prime

  open ρ.𝓥.K.ops use {mul as ◌*ᵏ◌, 𝟎 as 0ᵏ, 𝟏 as 1ᵏ}

  infixl 70 ◌*ᵏ◌
  abbrev E : (O S).El
  E = six A c 0 rows

  unit : PositiveUnit S E (six A c (c + c + c) rows)
  unit = t.holds.unit A

  whole : length rows ≡ 6 * c
  whole = t.holds.whole

  first_top : Has ρ.𝓥 (row ρ (cut 0 c rows)) unit.degree
  first_top = positive_top S unit

  -- there is room for E0
  room : unit.degree < c
  room = subst (λ n. unit.degree < n) (length_tab c (λ i. get_or rows (0 + i) 0)) (above ρ.𝓥 first_top (row_lt ρ (cut 0 c rows)))

  pub some : 0 < c
  some = let u = room in omega arith

  -- two numbers with the product 1
  one_cast : (a b : ℕ) → (a * b) % p ≡ 1 → ρ.cast b *ᵏ ρ.cast a ≡ 1ᵏ
  one_cast a b e = ρ.𝓥.K.laws.mul_comm (ρ.cast b) (ρ.cast a) ∙ sym (ρ.cast_mul a b) ∙ sym (ρ.cast_mod (a * b)) ∙ ap ρ.cast e ∙ ρ.cast_one

  one_not : (a b : ℕ) → (a * b) % p ≡ 1 → ρ.cast b ≢ 0ᵏ
  one_not a b e z = ρ.𝓥.one≢zero (sym (one_cast a b e) ∙ ap (λ x. x *ᵏ ρ.cast a) z ∙ rg.zero_mul' ρ.𝓥.K (ρ.cast a))

  -- ---- convention 1
  front : between 0 c rows ≡ cut 0 c rows
  front = let w = whole in between_cut 0 c rows (omega arith) (omega arith) ∙ ap (λ k. cut 0 k rows) (let o : c - 0 ≡ c = omega arith in o)

  first_at : (i : ℕ) → i < c → get_or (cut 0 c rows) i 0 ≡ get_or rows i 0
  first_at i u = at_tab c (λ j. get_or rows (0 + j) 0) i u ∙ ap (λ j. get_or rows j 0) (let o : 0 + i ≡ i = omega arith in o)

  module _ (n : ℕ) (s : Size (between 0 c rows) n) where
    size_at : Size (cut 0 c rows) n
    size_at = subst (λ l. Size l n) front s

    pub top_pos : 0 < n
    top_pos = go n size_at
      where
        go : (m : ℕ) → Size (cut 0 c rows) m → 0 < m
        go zero z = absurd (has_not_zero ρ.𝓥 (has_eq ρ.𝓥 first_top (zero_row ρ (cut 0 c rows) z)))
        go (suc m) z = omega arith

    pub top_room : n ≤ c
    top_room = subst (λ k. n ≤ k) (length_tab c (λ i. get_or rows (0 + i) 0)) size_at.fits

    pub monic_law : (q : ℕ) → (get_or rows (n - 1) 0 * q) % p ≡ 1 → Scaled S e0_monic ((O S).ops.mul (sc S (constant A q)) E)
    monic_law q e =
        let u = top_pos in let v = top_room in
        let a = get_or (cut 0 c rows) (n - 1) 0 in
        let e' : (a * q) % p ≡ 1 = ap (λ x. (x * q) % p) (first_at (n - 1) (omega arith)) ∙ e in
        let nz : ρ.cast a ≢ 0ᵏ = (λ z. ρ.𝓥.one≢zero (sym (one_cast a q e') ∙ ap (λ x. ρ.cast q *ᵏ x) z ∙ rg.mul-zero ρ.𝓥.K (ρ.cast q))) in
        scaled_by S e0_monic (constant A q) E (positive_norm S unit) (one_not a q e') (ρ.𝓥.const_lead (ρ.cast q)) (n - 1, 0, nz, size_lead_at ρ n size_at u) (one_cast a q e')

  -- ---- convention 2
  at_0 : (at : ℕ) → get_or (cut at c rows) 0 0 ≡ get_or rows at 0
  at_0 at = at_tab c (λ j. get_or rows (at + j) 0) 0 some ∙ ap (λ j. get_or rows j 0) (let o : at + 0 ≡ at = omega arith in o)

  at_row_0 : (at b : ℕ) → at ≡ b → At ρ (row ρ (cut at c rows)) (ρ.cast (get_or rows b 0))
  at_row_0 at b e = subst (λ n. At ρ (row ρ (cut at c rows)) (ρ.cast n)) (at_0 at ∙ ap (λ j. get_or rows j 0) e) (at_row ρ (cut at c rows) (let w : length (cut at c rows) ≡ c = length_tab c (λ j. get_or rows (at + j) 0) in let u = some in omega arith))

  at_g : At ρ (row ρ G) (ρ.cast (get_or f.field.g 0 0))
  at_g = subst (λ z. At ρ z (ρ.cast (get_or f.field.g 0 0))) (keeps.holds_of t.kept A).g_is (at_row ρ f.field.g (let w : length f.field.g ≡ 32 = (keeps.g_row t.kept).size in omega arith))

  at_h : At ρ (row ρ H) (ρ.cast (get_or f.field.h 0 0))
  at_h = subst (λ z. At ρ z (ρ.cast (get_or f.field.h 0 0))) (keeps.holds_of t.kept A).h_is (at_row ρ f.field.h (let w : length f.field.h ≡ 32 = (keeps.h_row t.kept).size in omega arith))

  module _ (v : ℕ) (made : NormIs p (get_or f.field.g 0 0) (get_or f.field.h 0 0) (get_or rows 0 0) (get_or rows c 0) (get_or rows (c + c) 0) v) where
    value : At ρ (norm S E).0 (ρ.cast v)
    value = subst (At ρ (norm S E).0) (sym (made.law A.prime)) (at_norm ρ at_g at_h (at_row_0 0 0 refl) (at_row_0 (0 + c) c (omega arith)) (at_row_0 (0 + c + c) (c + c) (omega arith)))

    norm_number : Leads ρ.𝓥 (norm S E).0 (ρ.cast v)
    norm_number =
        let (κ, n, l) = unit_const ρ.𝓥 (norm S E) (positive_norm S unit) in
        let e : norm S E ≡ (ρ.𝓥.const κ, ρ.𝓥.const_poly κ) = const_path ρ.𝓥 l (ρ.𝓥.const_lead κ) in
        let same : κ ≡ ρ.cast v = at_const ρ value (ap (λ z. z.0) e) in
        subst (Leads ρ.𝓥 (norm S E).0) same (0, 0, n, l)

    pub norm_some : 0 < v
    norm_some = let z : v ≢ 0 = (λ e. norm_number.2 (ap ρ.cast e ∙ ρ.cast_zero)) in omega (arith, z)

    module _ (u : ℕ) (inverse : (v * u) % p ≡ 1) (q : ℕ) (root : CubeRoot p u q) where
      root_cast : ρ.cast q *ᵏ ρ.cast q *ᵏ ρ.cast q ≡ ρ.cast u
      root_cast =
          ap (λ x. x *ᵏ ρ.cast q) (sym (ρ.cast_mul q q)) ∙ sym (ρ.cast_mul (q * q) q) ∙ sym (ρ.cast_mod (q * q * q)) ∙ ap ρ.cast root.law

      root_not : ρ.cast q ≢ 0ᵏ
      root_not z = one_not v u inverse (sym root_cast ∙ ap (λ x. x *ᵏ x *ᵏ x) z ∙ rg.mul-zero ρ.𝓥.K (0ᵏ *ᵏ 0ᵏ))

      pub norm_law : Scaled S norm_one ((O S).ops.mul (sc S (constant A q)) E)
      norm_law = scaled_by S norm_one (constant A q) E (positive_norm S unit) root_not (ρ.𝓥.const_lead (ρ.cast q)) norm_number (ap (λ x. x *ᵏ ρ.cast v) root_cast ∙ one_cast v u inverse)

-- ---- what `factor` asks and hands out
module _ {f : OpenedField} {n c : ℕ} {rows : List ℕ} (t : FactorAsks f n c rows) where
  held_of : Held f t.G t.H c rows
  held_of = record { kept = t.kept; holds = t.holds }

  abbrev A₀ : Accepted f.field.p t.G t.H
  A₀ = t.kept.accepted

  pub monic_in : ForMonicAsks f.field.p c rows
  monic_in = record {
    modulus = storable A₀;
    inside = (let w : length rows ≡ 6 * c = t.holds.whole in omega arith);
    each = t.holds.each;
    some = top_pos held_of A₀;
  }

  pub norm_in : ForNormAsks f.field.p (get_or f.field.g 0 0) (get_or f.field.h 0 0) c rows
  norm_in = record {
    modulus = storable A₀;
    kind = A₀.kind;
    three = (let l : 5 ≤ f.field.p = A₀.low in omega arith);
    inside = (let w : length rows ≡ 6 * c = t.holds.whole in let u = some held_of A₀ in omega arith);
    each = t.holds.each;
    g_below = (keeps.g_row t.kept).each 0;
    h_below = (keeps.h_row t.kept).each 0;
    some = norm_some held_of A₀;
  }

-- a number with an inverse is not 0, nor is a cube root of such a one
inverse_some : {p a r : ℕ} → 0 < p → Inverse p a r → 0 < r
inverse_some {p} {a} {r} pos i =
    let z : r ≢ 0 = (λ e.
    let o : (a * r) % p ≡ 0 = ap (λ x. (a * x) % p) e ∙ ap (λ x. x % p) (mul-zero a) ∙ mod-eq_of_lt pos in
    let l : (a * r) % p ≡ 1 = i.law in absurd (omega arith)) in
    omega (arith, z)

root_some : {p a r : ℕ} → 0 < p → 0 < a → CubeRoot p a r → 0 < r
root_some {p} {a} {r} pos some i =
    let z : r ≢ 0 = (λ e.
    let o : (r * r * r) % p ≡ 0 = ap (λ x. (x * x * x) % p) e ∙ mod-eq_of_lt pos in
    let l : (r * r * r) % p ≡ a = i.law in absurd (omega arith)) in
    omega (arith, z)

-- the norm of the numbers in their places
pub norm_at : {p g h a b c a' b' c' v : ℕ} → a ≡ a' → b ≡ b' → c ≡ c' → NormIs p g h a b c v → NormIs p g h a' b' c' v
norm_at {p} {g} {h} {a} {b} {c} {a'} {b'} {c'} {v} x y z n = subst (λ k. NormIs p g h k b' c' v) x (subst (λ k. NormIs p g h a k c' v) y (subst (λ k. NormIs p g h a b k v) z n))

pub factors_monic : {f : OpenedField} {n c : ℕ} {rows : List ℕ} {r : ℕ} → 0 < f.field.p → n ≡ 1 → ForMonic f.field.p c rows r → Factors f n c rows r
factors_monic {f} {n} {c} {rows} {r} pos e m = record {
  below = m.inverse.below;
  some = inverse_some pos m.inverse;
  law = λ G H A kept holds k named.
      subst (λ j. Scaled (setting A) j ((O (setting A)).ops.mul (sc (setting A) (constant A r)) (six A c 0 rows))) (sym (named_one k (named ∙ e)))
      (monic_law (record { kept = kept; holds = holds }) A m.n m.size r m.inverse.law);
}

pub factors_norm : {f : OpenedField} {n c : ℕ} {rows : List ℕ} {r : ℕ} → 0 < f.field.p → n ≢ 1 → ForNorm f.field.p (get_or f.field.g 0 0) (get_or f.field.h 0 0) c rows r → Factors f n c rows r
factors_norm {f} {n} {c} {rows} {r} pos e m = record {
  below = m.root.below;
  some = root_some pos (inverse_some pos m.inverse) m.root;
  law = λ G H A kept holds k named.
      subst (λ j. Scaled (setting A) j ((O (setting A)).ops.mul (sc (setting A) (constant A r)) (six A c 0 rows))) (sym (named_two k (λ q. e (sym named ∙ q))))
      (norm_law (record { kept = kept; holds = holds }) A m.v m.is_norm m.u m.inverse.law r m.root);
}

pub p_pos : {f : OpenedField} {n c : ℕ} {rows : List ℕ} → FactorAsks f n c rows → 0 < f.field.p
p_pos {f} t = let l : 5 ≤ f.field.p = t.kept.accepted.low in omega arith
