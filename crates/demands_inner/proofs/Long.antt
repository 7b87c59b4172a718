-- Crates poly_long, poly_mix, poly_products, poly_quotient, unit_rows and unit_inverse: the final contents of the lent slices. `size` of poly_long: `size_unique` in Poly.
--   cut_unique   the numbers of a row inside a slice are settled by its polynomial
use mathlib.Core.Path.{◌≡◌, sym, ap, ◌∙◌, subst}
use mathlib.Core.List.{List}
use Prim.Native.Nat.{ℕ, ◌+◌, ◌*◌, ◌-◌, ◌%◌, ◌<◌, ◌≤◌}
use native.Mathlib.Omega.{arith}
use native.Mathlib.Decide.{dec_lt}
use lib.ListN.{length, get_or}
use lib.Seq.{ext_get_or}
use Rattle.math_fp.specs.Fp.{Prime}
use Rattle.math_fp.proofs.Value.{inverse_mod_unique}
use Rattle.math_triple.specs.Tri.{norm_t}
use Rattle.math_valued.proofs.Degree.{has_inv}
use Rattle.math_rows.specs.Reading.{Reading}
use Rattle.math_rows.specs.Made.{reading}
use Rattle.math_rows.specs.Row.{row}
use Rattle.math_rows.proofs.Tab.{length_tab, at_tab, past_tab}
use Rattle.math_rows.proofs.Unique.{list_unique}
use Rattle.poly_long.specs.Long.{Scaled}
use Rattle.poly_mix.specs.Mixing.{MixAsks, Mixed}
use Rattle.poly_products.specs.Products.{TimesAsks, Times}
use Rattle.poly_quotient.specs.Quotients.{QuotientAsks, Quotient}
use Rattle.unit_rows.specs.Six.{cut, Turn}
use Rattle.unit_monic.specs.Monic.{MonicAsks, MonicMade}
use Rattle.unit_inverse.specs.Inverse.{element, InvertAsks, Inverted}
use Rattle.demands_inner.specs.Turnable.{at, Turnable}
use Rattle.demands_inner.proofs.Rows.{by_list, low_unique}

-- ---- long
-- where there is a quotient that fits; else the contract says only that the numbers are below p
pub quotient_unique : {p : ℕ} {a x b y c z u q q' q'' : List ℕ} (t : QuotientAsks p a b c u q) (l : List ℕ) → length l ≡ length q → ((i : ℕ) → get_or l i 0 < p)
    → (let ρ = reading p t.modulus.prime in let o = ρ.𝓥.L.ops in o.mul (row ρ u) (row ρ l) ≡ o.add (o.add (o.mul (row ρ a) (row ρ x)) (o.mul (row ρ b) (row ρ y))) (o.mul (row ρ c) (row ρ z)))
    → Quotient p a x b y c z u q q' → Quotient p a x b y c z u q q'' → q' ≡ q''
quotient_unique t l n g e h k = h.law t.modulus.prime l n g e ∙ sym (k.law t.modulus.prime l n g e)

pub mix_unique : {p : ℕ} {g x h y d d' d'' : List ℕ} → MixAsks p g h d → Mixed p g x h y d d' → Mixed p g x h y d d'' → d' ≡ d''
mix_unique {p} {d' = d'} {d'' = d''} t h k =
    let pr = t.modulus.prime in
    list_unique (reading p pr) d' d'' (h.size ∙ sym k.size) h.each k.each (low_unique (reading p pr) (h.law pr) (k.law pr))

pub times_unique : {p : ℕ} {x y d r s : List ℕ} → TimesAsks p x y d → Times p x y d r → Times p x y d s → r ≡ s
times_unique {p} t h k = let pr = t.modulus.prime in by_list (reading p pr) h.size k.size h.each k.each (h.law pr) (k.law pr)

pub scale_unique : {p s : ℕ} {d d' d'' : List ℕ} → Scaled p s d d' → Scaled p s d d'' → d' ≡ d''
scale_unique {p} {s} {d} {d'} {d''} h k =
    ext_get_or 0 d' d'' (h.size ∙ sym k.size) (λ i l. let m : i < length d = subst (λ n. i < n) h.size l in h.at i m ∙ sym (k.at i m))

-- ---- rows inside a slice
cut_below : {p : ℕ} (at c : ℕ) (l : List ℕ) → 0 < p → ((i : ℕ) → i < c → get_or l (at + i) 0 < p) → (i : ℕ) → get_or (cut at c l) i 0 < p
cut_below {p} at c l pos h i = go (dec_lt i c)
  where
    go : Dec (i < c) → get_or (cut at c l) i 0 < p
    go (yes m) = subst (λ x. x < p) (sym (at_tab c (λ j. get_or l (at + j) 0) i m)) (h i m)
    go (no m) = subst (λ x. x < p) (sym (past_tab c (λ j. get_or l (at + j) 0) i (omega arith))) pos

pub cut_unique : {p : ℕ} (ρ : Reading p) (at c : ℕ) (l l' : List ℕ) → ((i : ℕ) → i < c → get_or l (at + i) 0 < p) → ((i : ℕ) → i < c → get_or l' (at + i) 0 < p)
    → row ρ (cut at c l) ≡ row ρ (cut at c l') → (k : ℕ) → at ≤ k → k < at + c → get_or l k 0 ≡ get_or l' k 0
cut_unique ρ at c l l' g h e k lo hi =
    let j : ℕ = k - at in
    let m : j < c = omega arith in
    let s : at + j ≡ k = omega arith in
    let q = list_unique ρ (cut at c l) (cut at c l') (length_tab c (λ i. get_or l (at + i) 0) ∙ sym (length_tab c (λ i. get_or l' (at + i) 0))) (cut_below at c l ρ.pos g) (cut_below at c l' ρ.pos h) e in
    ap (λ n. get_or l n 0) (sym s) ∙ sym (at_tab c (λ i. get_or l (at + i) 0) j m) ∙ ap (λ x. get_or x j 0) q ∙ at_tab c (λ i. get_or l' (at + i) 0) j m ∙ ap (λ n. get_or l' n 0) s

-- three rows one after the other, from a on
three : {p : ℕ} (ρ : Reading p) (a b d c : ℕ) (l l' : List ℕ) → b ≡ a + c → d ≡ b + c → ((i : ℕ) → i < d + c → get_or l i 0 < p) → ((i : ℕ) → i < d + c → get_or l' i 0 < p)
    → row ρ (cut a c l) ≡ row ρ (cut a c l') → row ρ (cut b c l) ≡ row ρ (cut b c l') → row ρ (cut d c l) ≡ row ρ (cut d c l')
    → (k : ℕ) → a ≤ k → k < d + c → get_or l k 0 ≡ get_or l' k 0
three ρ a b d c l l' e f g h x y z k lo hi = go (dec_lt k b) (dec_lt k d)
  where
    go : Dec (k < b) → Dec (k < d) → get_or l k 0 ≡ get_or l' k 0
    go (yes m) n = cut_unique ρ a c l l' (λ i o. g (a + i) (omega arith)) (λ i o. h (a + i) (omega arith)) x k lo (omega arith)
    go (no m) (yes n) = cut_unique ρ b c l l' (λ i o. g (b + i) (omega arith)) (λ i o. h (b + i) (omega arith)) y k (omega arith) (omega arith)
    go (no m) (no n) = cut_unique ρ d c l l' (λ i o. g (d + i) (omega arith)) (λ i o. h (d + i) (omega arith)) z k (omega arith) hi

-- ---- six
module _ {p : ℕ} (pr : Prime p) where
  pub turn_unique : {c n : ℕ} {g h gh b rows s rows' s' rows'' s'' : List ℕ} → Turnable pr c n g h gh b rows
      → Turn p c n g h gh b rows s rows' s' → Turn p c n g h gh b rows s rows'' s'' → (rows' ≡ rows'') × (s' ≡ s'')
  turn_unique {c} {rows' = rows'} {rows'' = rows''} t u v = (ext_get_or 0 rows' rows'' (u.size ∙ sym v.size) (λ i _. go i (dec_lt i (c + c + c))), u.blank ∙ sym v.blank)
    where
      one : (at pr 0 c rows' ≡ at pr 0 c rows'') × (at pr c c rows' ≡ at pr c c rows'') × (at pr (c + c) c rows' ≡ at pr (c + c) c rows'')
      one =
          let (x, y, z) = u.law pr t.x t.y t.z t.x_poly t.y_poly t.z_poly t.x_lt t.y_lt t.z_lt t.x_eq t.y_eq t.z_eq in
          let (x', y', z') = v.law pr t.x t.y t.z t.x_poly t.y_poly t.z_poly t.x_lt t.y_lt t.z_lt t.x_eq t.y_eq t.z_eq in
          (x ∙ sym x', y ∙ sym y', z ∙ sym z')

      go : (i : ℕ) → Dec (i < c + c + c) → get_or rows' i 0 ≡ get_or rows'' i 0
      go i (yes l) = three (reading p pr) 0 c (c + c) c rows' rows'' (omega arith) (omega arith) u.each v.each one.0 one.1 one.2 i (omega arith) l
      go i (no l) = u.rest i (omega arith) ∙ sym (v.rest i (omega arith))

pub monic_unique : {p c n : ℕ} {rows rows' rows'' : List ℕ} → MonicAsks p c n rows → MonicMade p c n rows rows' → MonicMade p c n rows rows'' → rows' ≡ rows''
monic_unique {p} {c} {n} {rows} {rows'} {rows''} g h k = ext_get_or 0 rows' rows'' (h.size ∙ sym k.size) (λ i _. go i (dec_lt i (c + c + c)))
  where
    same : h.by ≡ k.by
    same = inverse_mod_unique p g.modulus.prime (get_or rows (n - 1) 0) g.top_below h.by k.by h.by_below k.by_below h.one k.one

    go : (i : ℕ) → Dec (i < c + c + c) → get_or rows' i 0 ≡ get_or rows'' i 0
    go i (yes l) = h.at i l ∙ ap (λ m. (get_or rows i 0 * m) % p) same ∙ sym (k.at i l)
    go i (no l) = h.rest i (omega arith) ∙ sym (k.rest i (omega arith))

-- ---- six_invert
-- the norm is a constant that is not 0: it has an inverse
pub invert_unique : {p c k : ℕ} {g h gh ngh rows s rows' s' rows'' s'' : List ℕ} → InvertAsks p c k g h gh ngh rows s
    → Inverted p c g h rows s rows' s' → Inverted p c g h rows s rows'' s'' → (rows' ≡ rows'') × (s' ≡ s'')
invert_unique {p} {c} {g = G} {h = H} {rows = rows} {rows' = rows'} {rows'' = rows''} i u v =
    let pr = i.modulus.prime in
    let ρ = reading p pr in
    let (κ, nz, e) = i.constant pr in
    let (ν, f, _) = has_inv ρ.𝓥 (κ, nz, ρ.𝓥.const_lead κ) in
    let q : ρ.𝓥.L.ops.mul (norm_t ρ.𝓥.L.ops (row ρ G) (row ρ H) (element ρ 0 c rows)) ν ≡ ρ.𝓥.L.ops.𝟏 = ap (λ x. ρ.𝓥.L.ops.mul x ν) e ∙ f in
    let (x, y, z) = u.law pr ν q in
    let (x', y', z') = v.law pr ν q in
    let s : length rows ≡ c + c + c + c + c + c = i.room in
    let new = three ρ (c + c + c) (c + c + c + c) (c + c + c + c + c) c rows' rows'' (omega arith) (omega arith) (λ j _. u.each j) (λ j _. v.each j) (x ∙ sym x') (y ∙ sym y') (z ∙ sym z') in
    let all : (j : ℕ) → j < length rows' → get_or rows' j 0 ≡ get_or rows'' j 0 = (λ j l.
    elim (dec_lt j (c + c + c)) [ yes m ↦ u.before j m ∙ sym (v.before j m) | no m ↦ new j (omega arith) (let t : length rows' ≡ length rows = u.size in omega arith) ]) in
    (ext_get_or 0 rows' rows'' (u.size ∙ sym v.size) all, u.blank ∙ sym v.blank)
