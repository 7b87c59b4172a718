-- The products r v and w v on rows, and what their membership says.
--   r_in w_in              what `member` asks of r v and w v: every product fits
--   decides_r decides_w    what its answer says of the lattice
--   keeps_no keeps_yes     the two answers together
use mathlib.Core.Path.{◌≡◌, refl, sym, ◌∙◌}
use mathlib.Core.Bool.{Bool, true, false, true≢false}
use mathlib.Core.List.{List}
use Prim.Native.Nat.{ℕ, suc, ◌+◌, ◌≤◌}
use native.Mathlib.Omega.{arith}
use lib.ListN.{replicate}
use Rattle.num_mod.specs.declared.Modulus.{Modulus}
use Rattle.math_fp.specs.Fp.{Prime}
use Rattle.math_valued.proofs.Degree as d
use Rattle.math_valued.proofs.Compare.{lt_mul_sharp}
use Rattle.math_rows.specs.Made.{reading}
use Rattle.math_rows.specs.Row.{Row, Size, row}
use Rattle.poly_rows.specs.Leaf.{Short, Product}
use Rattle.poly_rows.proofs.Lengths.{short_lt, row_short, fits_short}
use Rattle.poly_lent.specs.Sized.{TimesInAsks, TimesInGives, DetInGives}
use Rattle.math_ideals.specs.Element.{O}
use Rattle.math_ideals.specs.Ideal.{Coords}
use Rattle.math_ideals.specs.Element.{times_r, times_w}
use Rattle.field_open.specs.Refusal.{Accepted}
use Rattle.basis_record.specs.Record.{setting}
use Rattle.base_answers.specs.Decides.{Decides}
use Rattle.base_answers.proofs.Tests.{carried}
use Rattle.basis_record.specs.Seven.{rows_of, Holds}
use Rattle.basis_record.specs.declared.Seven.{Seven}
use Rattle.basis_lattice.specs.Lattice.{MemberAsks, Member}
use Rattle.basis_closed.specs.Closed.{ClosedOnAsks, Keeps, element}
use Rattle.basis_lattice.specs.declared.Lengths.{Lengths}
use Rattle.basis_lattice.proofs.Elements.{quot_of, coords_from, times_g_is, times_h_is, times_gh_is}

pub product_short : {p : ℕ} (pr : Prime p) (n m : ℕ) {x y z : List ℕ} → Short p x (suc n) → Short p y m → Product p x y z → Short p z (n + m)
product_short {p} pr n m hx hy hz = let ρ = reading p pr in row_short ρ (n + m) hz.is_row (d.lt_eq ρ.𝓥 (lt_mul_sharp ρ.𝓥 (short_lt ρ hx) (short_lt ρ hy)) (sym (hz.law pr)))

module _ {M : Modulus} {g : List ℕ} {lg : ℕ} {h : List ℕ} {lh : ℕ} {gh : List ℕ} {lk : ℕ} {va : List ℕ} {na : ℕ} {vb : List ℕ} {nb : ℕ} {vc : List ℕ} {nc : ℕ} {b : Seven} {l : Lengths} {e : List ℕ} {ie : ℕ}
    (i : ClosedOnAsks M g lg h lh gh lk va na vb nb vc nc b l e ie) where
  pub by_gh : {x r : List ℕ} {n : ℕ} → Short M.p x 10 → Size x n → r ≡ replicate 32 0 → TimesInAsks M x n gh lk r
  by_gh hx s z = record { modulus = i.modulus; prime = i.given.σ.prime; hx = hx.is_row; hy = i.given.hgh.is_row; sx = s; sy = i.sk; fits = fits_short hx i.given.hgh (omega arith) _ _ s i.sk; blank = z }

  pub by_13 : {x y r : List ℕ} {n m : ℕ} → Short M.p x 10 → Size x n → Short M.p y 13 → Size y m → r ≡ replicate 32 0 → TimesInAsks M x n y m r
  by_13 hx s hy t z = record { modulus = i.modulus; prime = i.given.σ.prime; hx = hx.is_row; hy = hy.is_row; sx = s; sy = t; fits = fits_short hx hy (omega arith) _ _ s t; blank = z }

  -- an element whose rows are no longer than these
  member_in : {xa xb xc : List ℕ} {n m ja jb jc : ℕ} → Row M.p xa → Size xa ja → Short M.p xb n → Size xb jb → Short M.p xc m → Size xc jc → n + 10 ≤ 33 → m + 10 ≤ 33 → MemberAsks M xa ja xb jb xc jc b l e ie
  member_in ha sa hb sb hc sc ln lm = let r = i.room.rows in record {
    inp = record {
      modulus = i.modulus;
      prime = i.given.σ.prime;
      ha = ha;
      hb = hb.is_row;
      hc = hc.is_row;
      sa = sa;
      sb = sb;
      sc = sc;
      rows = λ j. (r j).is_row;
      sizes = i.found.sizes;
      he = i.found.det.is_row;
      se = i.found.det.size;
      by_e = i.by_e;
      by_u = i.room.by_u;
      b_n2 = fits_short hb (r 5) ln;
      c_n1 = fits_short hc (r 4) lm;
      c_m1 = fits_short hc (r 1) lm;
      b_m2 = fits_short hb (r 2) ln;
    };
    h0 = r 0;
    k0 = r 3;
    hu = r 6;
  }

  pub r_in : {xa xc : List ℕ} {ja jc : ℕ} → TimesInGives M.p vc gh xa ja → TimesInGives M.p vb h xc jc → MemberAsks M xa ja va na xc jc b l e ie
  r_in ha hc = member_in ha.product.is_row ha.size i.ha i.sa (product_short i.given.σ.prime 9 13 i.hb i.given.hh hc.product) hc.size (omega arith) (omega arith)

  pub w_in : {xa xb : List ℕ} {ja jb : ℕ} → TimesInGives M.p vb gh xa ja → TimesInGives M.p vc g xb jb → MemberAsks M xa ja xb jb va na b l e ie
  w_in ha hb = member_in ha.product.is_row ha.size (product_short i.given.σ.prime 9 13 i.hc i.given.hg hb.product) hb.size i.ha i.sa (omega arith) (omega arith)

-- ---- rows and elements
module _ {p : ℕ} {G H : List ℕ} (σ : Accepted p G H) (b : Seven) {e : List ℕ} {n : ℕ} (he : DetInGives p b.m1 b.n2 b.m2 b.n1 e n) where
  -- exact quotients on rows are exact quotients in the lattice
  decides_coords : {xa xb xc : List ℕ} (v : (O (setting σ)).El) → row (reading p σ.prime) xa ≡ v.a.0 → row (reading p σ.prime) xb ≡ v.b.0 → row (reading p σ.prime) xc ≡ v.c.0
      → {o : Bool} → Member p xa xb xc b e o → Decides o (Coords (setting σ) (rows_of σ b) v)
  decides_coords v ea eb ec m = carried (λ z. coords_from σ b he v ea eb ec z.quotients) (λ q. record { α = q.α.0; β = q.β.0; γ = q.γ.0; quotients = quot_of σ b he v ea eb ec q }) (m σ.prime)

  -- the two products, at the rows that hold the field
  module _ {g h gh : List ℕ} (k : Holds σ g h gh) {va vb vc : List ℕ} where
    pub decides_r : {xa xc : List ℕ} {o : Bool} → Product p vc gh xa → Product p vb h xc → Member p xa va xc b e o → Decides o (Coords (setting σ) (rows_of σ b) (times_r (setting σ) (element σ va vb vc)))
    decides_r ha hc = decides_coords _ (times_gh_is σ k ha) refl (times_h_is σ k hc)

    pub decides_w : {xa xb : List ℕ} {o : Bool} → Product p vb gh xa → Product p vc g xb → Member p xa xb va b e o → Decides o (Coords (setting σ) (rows_of σ b) (times_w (setting σ) (element σ va vb vc)))
    decides_w ha hb = decides_coords _ (times_gh_is σ k ha) (times_g_is σ k hb) refl

-- ---- the answer of `closed_on`
module _ {M : Modulus} {g : List ℕ} {lg : ℕ} {h : List ℕ} {lh : ℕ} {gh : List ℕ} {lk : ℕ} {va : List ℕ} {na : ℕ} {vb : List ℕ} {nb : ℕ} {vc : List ℕ} {nc : ℕ} {b : Seven} {l : Lengths} {e : List ℕ} {ie : ℕ}
    (i : ClosedOnAsks M g lg h lh gh lk va na vb nb vc nc b l e ie) {ra rc : List ℕ} {o : Bool}
    (hra : Product M.p vc gh ra) (hrc : Product M.p vb h rc) (hr : Member M.p ra va rc b e o) where
  pub keeps_no : o ≡ false → Keeps M.p g h gh va vb vc b o
  keeps_no f G H σ k = record { yes! = λ e. absurd (true≢false (sym e ∙ f)); no! = λ e z. (decides_r σ b i.found.det k hra hrc hr).no! e z.by_r }

  pub keeps_yes : o ≡ true → {wa wb : List ℕ} {o₁ : Bool} → Product M.p vb gh wa → Product M.p vc g wb → Member M.p wa wb va b e o₁ → Keeps M.p g h gh va vb vc b o₁
  keeps_yes t hwa hwb hw G H σ k = carried (λ z. record { by_r = (decides_r σ b i.found.det k hra hrc hr).yes! t; by_w = z }) (λ z. z.by_w) (decides_w σ b i.found.det k hwa hwb hw)
