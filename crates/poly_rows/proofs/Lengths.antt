-- Lengths of rows from degrees, and back.
--   size_below, short_lt, row_short, size_of   a bound of a row's places, of its degree and of its length are one
--   short_up, short_cut, scaled_short, scaled_size   where a row ends, and its multiples by a number
--   fits_of, fits_short                        a product fits by degrees, or by places
--   one_mod, monic_inverts                     what leads with 1 needs no inversion
--   inverts_has, by_inverse                    what has an inverse leading coefficient can be divided by
--   odd_prime                                  a prime above 3 is odd
use mathlib.Core.Path.{◌≡◌, refl, sym, ap, ◌∙◌, subst}
use mathlib.Core.Logic.{◌≢◌}
use mathlib.Core.List.{List}
use Prim.Native.Nat.{ℕ, zero, suc, ◌+◌, ◌*◌, ◌-◌, ◌%◌, ◌<◌, ◌≤◌}
use native.Mathlib.Nat.{mod-lt, mod-eq_of_lt}
use native.Mathlib.Omega.{arith}
use native.Mathlib.Decide.{dec_lt}
use lib.ListN.{get_or}
use Rattle.math_fp.specs.Fp.{Prime}
use Rattle.math_valued.specs.Degree.{Has, Lt, Leads}
use Rattle.math_valued.proofs.Degree.{lt_eq, lt_up, has_eq, above, same, lead_eq}
use Rattle.math_valued.proofs.Compare.{has_scale, leads_unique}
use Rattle.math_valued.proofs.Polynomial.{not_zero}
use Rattle.num_mod.specs.Residue.{IsModulus}
use Rattle.math_rows.specs.Reading.{Reading}
use Rattle.math_rows.specs.Made.{reading}
use Rattle.math_rows.specs.Row.{Row, Size, row}
use Rattle.math_rows.proofs.Rows.{size_le, size_lt, size_lead, size_top, size_has, size_has_at}
use Rattle.math_rows.proofs.Floors.{sized, zero_row}
use Rattle.math_rows.proofs.Turn.{lt_scale}
use Rattle.math_rows.proofs.Unique.{cast_inj}
use Rattle.poly_rows.specs.Leaf.{Cut, Short, Fits}
use Rattle.poly_rows.specs.Division.{Inverts, DivisionAsks}

-- ---- lengths
pub size_below : {p : ℕ} {l : List ℕ} {m n : ℕ} → Short p l n → Size l m → m ≤ n
size_below {p} {l} {m} {n} h s = go (dec_lt n m)
  where
    go : Dec (n < m) → m ≤ n
    go (yes w) = absurd (s.top (omega arith) (h.above (m - 1) (omega arith)))
    go (no w) = omega arith

pub short_lt : {p : ℕ} (ρ : Reading p) {l : List ℕ} {n : ℕ} → Short p l n → Lt ρ.𝓥 (row ρ l) n
short_lt ρ {l} {n} h = let (m, s) = sized l in lt_up ρ.𝓥 n (size_lt ρ s) (size_below h s)

pub row_short : {p : ℕ} (ρ : Reading p) {l : List ℕ} (n : ℕ) → Row p l → Lt ρ.𝓥 (row ρ l) n → Short p l n
row_short ρ {l} n h g = let (m, s) = sized l in let b : m ≤ n = size_le ρ n h s g in record { is_row = h; above = λ i w. s.above i (omega arith) }

pub short_up : {p : ℕ} {l : List ℕ} {m n : ℕ} → Short p l m → m ≤ n → Short p l n
short_up h u = record { is_row = h.is_row; above = λ i w. h.above i (omega arith) }

pub short_cut : {p : ℕ} {l : List ℕ} {n : ℕ} → Short p l n → n ≤ 32 → Cut l n
short_cut h u = record { size = h.is_row.size; fits = u; above = h.above }

-- a row times a number ends where the row does
pub scaled_short : {p c : ℕ} (ρ : Reading p) {x z : List ℕ} {n : ℕ} → Short p x n → Row p z → row ρ z ≡ ρ.𝓥.L.ops.mul (ρ.𝓥.const (ρ.cast c)) (row ρ x) → Short p z n
scaled_short {p} {c} ρ {x} {z} {n} h hz e = row_short ρ n hz (lt_eq ρ.𝓥 (lt_scale ρ (ρ.cast c) (short_lt ρ h)) (sym e))

-- and by a number that is not 0 it has the same length
pub scaled_size : {p c : ℕ} (ρ : Reading p) {x z : List ℕ} {n : ℕ} → ρ.cast c ≢ ρ.𝓥.K.ops.𝟎 → Row p x → Row p z → row ρ z ≡ ρ.𝓥.L.ops.mul (ρ.𝓥.const (ρ.cast c)) (row ρ x) → Size x n → Size z n
scaled_size {p} {c} ρ {x} {z} {n} hc hx hz e s = let (m, w) = sized z in subst (λ k. Size z k) (go n m s w) w
  where
    go : (n m : ℕ) → Size x n → Size z m → m ≡ n
    go n m s w = let hi : m ≤ n = size_le ρ n hz w (lt_eq ρ.𝓥 (lt_scale ρ (ρ.cast c) (size_lt ρ s)) (sym e)) in elim (dec_lt m n) [
      | no l ↦ omega arith
      | yes l ↦ let h = has_eq ρ.𝓥 (has_scale ρ.𝓥 (ρ.cast c, hc, ρ.𝓥.const_lead (ρ.cast c)) (size_has_at ρ n hx s (omega arith))) (sym e) in absurd (omega (arith, above ρ.𝓥 h (size_lt ρ w)))
    ]

-- a row with a degree has that size
pub size_of : {p : ℕ} (ρ : Reading p) {l : List ℕ} {k : ℕ} → Row p l → Has ρ.𝓥 (row ρ l) k → Size l (suc k)
size_of ρ {l} {k} r h = go (sized l)
  where
    go : (n : ℕ) × Size l n → Size l (suc k)
    go (zero, s) = absurd (not_zero ρ.𝓥 h (zero_row ρ l s))
    go (suc n, s) = subst (λ j. Size l (suc j)) (same ρ.𝓥 (size_has ρ r s) h) s

-- ---- products
pub fits_short : {p : ℕ} {x y : List ℕ} {n m : ℕ} → Short p x n → Short p y m → n + m ≤ 33 → Fits x y
fits_short hx hy l i j si sj =
    let a = size_below hx si in
    let b = size_below hy sj in
    omega (arith, a, b)

-- sizes from degrees
pub fits_of : {p : ℕ} (ρ : Reading p) {x y : List ℕ} (a b : ℕ) → Row p x → Row p y → Lt ρ.𝓥 (row ρ x) a → Lt ρ.𝓥 (row ρ y) b → a + b ≤ 33 → Fits x y
fits_of ρ a b hx hy lx ly l n m sn sm =
    let q : n ≤ a = size_le ρ a hx sn lx in
    let r : m ≤ b = size_le ρ b hy sm ly in
    omega arith

-- ---- leading coefficients
-- a number whose class is 1
pub one_mod : {p : ℕ} (ρ : Reading p) (a : ℕ) → 1 < p → ρ.cast a ≡ ρ.𝓥.K.ops.𝟏 → a % p ≡ 1
one_mod {p} ρ a l e = cast_inj ρ (a % p) 1 (mod-lt a ρ.pos) l (ρ.cast_mod a ∙ e ∙ sym ρ.cast_one)

-- what leads with 1 needs no inversion
pub monic_inverts : {p : ℕ} (pr : Prime p) {u : List ℕ} → Row p u → Leads (reading p pr).𝓥 (row (reading p pr) u) (reading p pr).𝓥.K.ops.𝟏 → Inverts p u 1
monic_inverts {p} pr {u} hu lu = record { below = pr.big; law = law_at }
  where
    law_at : (m : ℕ) → Size u m → (1 * get_or u (m - 1) 0) % p ≡ 1
    law_at zero t = let (i, j, nz, l) = lu in absurd (nz ((reading p pr).𝓥.lead_unique l (lead_eq (reading p pr).𝓥 ((reading p pr).𝓥.lead_zero i j) (sym (zero_row (reading p pr) u t)) refl)))
    law_at (suc k) t =
        let l : ℕ = get_or u k 0 in
        let e : (reading p pr).cast l ≡ (reading p pr).𝓥.K.ops.𝟏 = leads_unique (reading p pr).𝓥 (k, 0, size_top (reading p pr) hu t, size_lead (reading p pr) t) lu in
        ap (λ j. (1 * get_or u j 0) % p) (let w : suc k - 1 ≡ k = omega arith in w) ∙ ap (λ y. y % p) (let w : 1 * l ≡ l = omega arith in w) ∙ one_mod (reading p pr) l pr.big e

-- what has an inverse leading coefficient has a degree
pub inverts_has : {p : ℕ} (pr : Prime p) {b : List ℕ} {il : ℕ} → Row p b → Inverts p b il → (n : ℕ) × Has (reading p pr).𝓥 (row (reading p pr) b) n
inverts_has {p} pr {b} {il} hb h = go (sized b)
  where
    go : (n : ℕ) × Size b n → (n : ℕ) × Has (reading p pr).𝓥 (row (reading p pr) b) n
    go (zero, s) =
        let e : (il * get_or b 0 0) % p ≡ 1 = h.law 0 s in
        let z : get_or b 0 0 ≡ 0 = s.above 0 (omega arith) in
        let o : il * get_or b 0 0 ≡ 0 = ap (λ x. il * x) z ∙ (let q : il * 0 ≡ 0 = omega arith in q) in
        let f : 0 % p ≡ 1 = ap (λ x. x % p) (sym o) ∙ e in
        let l : 1 < p = pr.big in
        let g : 0 % p ≡ 0 = mod-eq_of_lt (omega arith) in
        absurd (omega (arith, f, g))
    go (suc n, s) = (n, size_has (reading p pr) hb s)

pub by_inverse : {p il : ℕ} {a b : List ℕ} → IsModulus p → Prime p → Row p a → Row p b → Inverts p b il → DivisionAsks p a b il
by_inverse m pr ha hb h = record { modulus = m; prime = pr; ha = ha; hb = hb; hi = h.below; inv = h.law }

pub odd_prime : (p : ℕ) → Prime p → 5 ≤ p → p % 2 ≡ 1
odd_prime p pr l = let h : p % 2 ≢ 0 = pr.only 2 (omega arith) (omega arith) in omega (arith, h)
