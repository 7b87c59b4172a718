-- The rows of an accepted field.
--   row_of, size_of, padded   the row of a list of coefficients: a row, its trimmed length, the list with zeros after it
--   product_room              the product of the two rows fits
--   field_holds               what `field_of` puts together is the field
use mathlib.Core.Path.{◌≡◌, refl, sym, ap, ap₂, ◌∙◌}
use mathlib.Core.List.{List}
use Prim.Native.Nat.{ℕ, suc, ◌+◌, ◌*◌, ◌-◌, ◌/◌, ◌%◌, ◌<◌, ◌≤◌}
use native.Mathlib.Nat.{mod-add-div}
use native.Mathlib.Omega.{arith}
use native.Mathlib.Decide.{dec_lt}
use lib.ListN.{length, get_or, get_or-eq_default}
use lib.Seq.{ext_get_or}
use Rattle.math_rows.specs.Made.{reading}
use Rattle.math_rows.specs.Row.{Row, Size}
use Rattle.math_rows.proofs.Tab.{length_tab, at_tab}
use Rattle.poly_rows.specs.Leaf.{Listed, MulAsks, Product}
use Rattle.poly_rows.proofs.Leaf.{size_unique}
use Rattle.field_open.specs.Refusal.{Degree, Accepted}
use Rattle.field_open.specs.Parts.{ListLength}
use Rattle.field_open.specs.Opening.{pad, Held}
use Rattle.field_open.proofs.Stages.{degree_unique}
use Rattle.field_open.proofs.Accept.{degree_size}
use Rattle.field_open.proofs.Parts.{length_of}

module _ {p d : ℕ} {l x : List ℕ} (s : Degree p l d) (k : Listed l x) where
  pub row_of : Row p x
  row_of = record { size = k.size; each = λ i. at i (dec_lt i (length l)) }
    where
      at : (i : ℕ) → Dec (i < length l) → get_or x i 0 < p
      at i (yes h) = let e : get_or x i 0 ≡ get_or l i 0 = k.each i in omega (arith, s.each i h)
      at i (no h) =
          let e : get_or x i 0 ≡ 0 = k.each i ∙ get_or-eq_default l 0 {n = i} (omega arith) in
          let w : length l ≡ suc d = s.whole in
          omega (arith, s.each 0 (omega arith))

  pub size_of : Size x (suc d)
  size_of =
      let z = degree_size s in
      let e : length x ≡ 32 = k.size in
      let w : length l ≡ suc d = s.whole in
      let b : length l ≤ 13 = s.short in record {
        fits = omega arith;
        above = λ i h. k.each i ∙ z.above i h;
        top = λ h e. z.top h (sym (k.each (suc d - 1)) ∙ e);
      }

  pub padded : x ≡ pad l
  padded = ext_get_or 0 x (pad l) (k.size ∙ sym (length_tab 32 (λ i. get_or l i 0)))
      (λ i h. let e : length x ≡ 32 = k.size in k.each i ∙ sym (at_tab 32 (λ i. get_or l i 0) i (omega arith)))

module _ {p : ℕ} {G H x y : List ℕ} (a : Accepted p G H) (u : Listed G x) (v : Listed H y) where
  pub product_room : MulAsks p x y
  product_room = record {
    modulus = record { big = a.prime.big; small = (let h : p ≤ 65535 = a.high in omega arith) };
    prime = a.prime;
    hx = row_of a.list_g u;
    hy = row_of a.list_h v;
    room = λ n m sx sy.
        let e : n ≡ suc a.deg_g = size_unique sx (size_of a.list_g u) in
        let f : m ≡ suc a.deg_h = size_unique sy (size_of a.list_h v) in
        omega (arith, a.sum);
  }

  pub field_holds : {z : List ℕ} (lg lh : ℕ) → ListLength p G lg → ListLength p H lh → Product p x y z
      → Held p G H record {
        p = p;
        g = x;
        h = y;
        gh = z;
        dr = (lg - 1 + 2 * (lh - 1)) / 3;
        dw = (2 * (lg - 1) + (lh - 1)) / 3;
      }
  field_holds {z} lg lh b c m d e g h =
      let i : lg ≡ suc d = length_of lg g b in
      let j : lh ≡ suc e = length_of lh h c in
      let i' : lg - 1 ≡ d = omega arith in
      let j' : lh - 1 ≡ e = omega arith in
      let t : d % 3 ≡ e % 3 = ap (λ n. n % 3) (degree_unique g a.list_g) ∙ a.thirds ∙ ap (λ n. n % 3) (degree_unique a.list_h h) in
      record {
        prime = refl;
        row_g = padded g u;
        row_h = padded h v;
        row_gh = m.is_row;
        product = λ pr. m.law pr ∙ ap₂ (λ r s. (reading p pr).𝓥.L.ops.mul r s) (u.law p pr) (v.law p pr);
        deg_r = ap₂ (λ r s. 3 * ((r + 2 * s) / 3)) i' j' ∙ (omega (arith, mod-add-div d 3, mod-add-div e 3, mod-add-div (d + 2 * e) 3));
        deg_w = ap₂ (λ r s. 3 * ((2 * r + s) / 3)) i' j' ∙ (omega (arith, mod-add-div d 3, mod-add-div e 3, mod-add-div (2 * d + e) 3));
      }
