-- What `coordinates_of_rm` and `coordinates_of_wm` ask of their calls, and what they hand out.
--   r_near, w_near     how large the coordinates of r m and w m are
--   x_in, turned_r     r m: its coordinates are asked for, and come back
--   y_in, turned_w     w m
use mathlib.Core.Path.{sym}
use mathlib.Core.List.{List}
use Prim.Native.Nat.{ℕ, suc, ◌+◌, ◌≤◌}
use native.Mathlib.Omega.{arith}
use Rattle.math_valued.specs.Degree.{Lt}
use Rattle.math_valued.proofs.Degree as d
use Rattle.math_valued.proofs.Compare.{lt_mul_sharp}
use Rattle.math_valued.proofs.Polynomial.{P_path}
use Rattle.math_rows.specs.Reading.{Reading}
use Rattle.math_rows.specs.Made.{reading}
use Rattle.math_rows.specs.Row.{row}
use Rattle.math_rows.proofs.Rows.{size_le}
use Rattle.poly_rows.specs.Leaf.{Product}
use Rattle.num_mod.specs.Prepared.{Prepared}
use Rattle.num_mod.specs.declared.Modulus.{Modulus}
use Rattle.math_ideals.proofs.Degrees.{small}
use Rattle.math_chain.specs.Parts.{Parts}
use Rattle.math_chain.proofs.Parts.{parts}
use Rattle.basis_record.specs.Record.{setting}
use Rattle.poly_rows.proofs.Lengths.{fits_of}
use Rattle.poly_lent.specs.Sized.{TimesInGives}
use Rattle.basis_record.specs.Seven.{rows_of, Three, Blank}
use Rattle.basis_record.specs.declared.Seven.{Seven}
use Rattle.basis_lattice.specs.Coordinates.{Found, CoordinatesAsks, Coordinates}
use Rattle.basis_lattice.specs.declared.Spans.{Spans}
use Rattle.basis_lattice.specs.declared.Lengths.{Lengths}
use Rattle.step_coordinates.specs.Turns.{GeneratorsAsks, TurnedR, TurnedW}
use Rattle.step_coordinates.proofs.Coordinates.{Narrow, r_narrow, w_narrow}
use Rattle.step_coordinates.proofs.Products.{Sizes, sizes, g_lt, h_lt, by_e, by_u, quot_r, quot_w}

abbrev of : ℕ → ℕ → ℕ → Modulus
of p mul lim = record { p = p; m = mul; lim = lim }

module _ {p cap : ℕ} {g h gh : List ℕ} {ie : ℕ} {b : Seven} (i : GeneratorsAsks p cap g h gh ie b) where
  abbrev ρ : Reading p
  ρ = reading p i.σ.prime

  abbrev n : ℕ
  n = i.σ.deg_g + i.σ.deg_h

  abbrev k : Parts (setting i.σ) (rows_of i.σ b)
  k = parts (setting i.σ) (rows_of i.σ b) i.good.ideal

  z : Sizes i.σ b
  z = sizes i.σ b i.good

  pub r_near : Narrow (setting i.σ) (rows_of i.σ b) (small (setting i.σ) (rows_of i.σ b) i.good) (setting i.σ).roots.dr k.of_r.α k.of_r.β k.of_r.γ
  r_near = r_narrow (setting i.σ) (rows_of i.σ b) (small (setting i.σ) (rows_of i.σ b) i.good) i.good k.of_r

  pub w_near : Narrow (setting i.σ) (rows_of i.σ b) (small (setting i.σ) (rows_of i.σ b) i.good) (setting i.σ).roots.dw k.of_w.α k.of_w.β k.of_w.γ
  w_near = w_narrow (setting i.σ) (rows_of i.σ b) (small (setting i.σ) (rows_of i.σ b) i.good) i.good k.of_w

  -- ---- r m
  module _ {e : List ℕ} {l : Lengths} (f : Found p b e l) {xx zz : List ℕ} {nx nz : ℕ} (tx : TimesInGives p b.m2 gh xx nx) (tz : TimesInGives p b.m1 h zz nz) where
    abbrev hx : Product p b.m2 gh xx
    hx = tx.product

    abbrev hz : Product p b.m1 h zz
    hz = tz.product

    z_lt : Lt ρ.𝓥 (row ρ zz) (suc ((setting i.σ).roots.dr + (setting i.σ).roots.dr))
    z_lt = d.lt_eq ρ.𝓥 (d.lt_up ρ.𝓥 (suc ((setting i.σ).roots.dr + (setting i.σ).roots.dr)) (lt_mul_sharp ρ.𝓥 (z.rows 1) (h_lt i)) (omega (arith, z.two_r))) (sym (hz.law i.σ.prime))

    pub x_in : {mul lim : ℕ} {o : Three} → Prepared (of p mul lim) → Blank o → CoordinatesAsks (of p mul lim) xx nx b.m0 l.m0 zz nz b l e ie o
    x_in w t = record {
      inp = record {
        modulus = w;
        prime = i.σ.prime;
        ha = hx.is_row;
        hb = i.rows 0;
        hc = hz.is_row;
        sa = tx.size;
        sb = f.sizes 0;
        sc = tz.size;
        rows = i.rows;
        sizes = f.sizes;
        he = f.det.is_row;
        se = f.det.size;
        by_e = by_e i f.det;
        by_u = by_u i;
        b_n2 = fits_of ρ (suc n) (setting i.σ).roots.dr (i.rows 0) (i.rows 5) (z.rows 0) (z.rows 5) (omega (arith, z.both, z.w_pos, z.all));
        c_n1 = fits_of ρ (suc ((setting i.σ).roots.dr + (setting i.σ).roots.dr)) (setting i.σ).roots.dw hz.is_row (i.rows 4) z_lt (z.rows 4) (omega (arith, z.both, z.w_pos, z.all));
        c_m1 = fits_of ρ (suc ((setting i.σ).roots.dr + (setting i.σ).roots.dr)) (suc (setting i.σ).roots.dw) hz.is_row (i.rows 1) z_lt (z.rows 1) (omega (arith, z.both, z.w_pos, z.all));
        b_m2 = fits_of ρ (suc n) (suc (setting i.σ).roots.dr) (i.rows 0) (i.rows 2) (z.rows 0) (z.rows 2) (omega (arith, z.both, z.w_pos, z.all));
      };
      α = k.of_r.α.0;
      β = k.of_r.β.0;
      γ = k.of_r.γ.0;
      some = quot_r i.σ i.holds b f.det hx hz k.of_r;
      kβ = suc (setting i.σ).roots.dr;
      kγ = (setting i.σ).roots.dr;
      β_lt = r_near.β_lt;
      γ_lt = r_near.γ_lt;
      room_m0 = λ m s. let q : m ≤ suc n = size_le ρ (suc n) (i.rows 0) s (z.rows 0) in omega (arith, z.both, z.w_pos, z.all);
      room_n0 = λ m s. let q : m ≤ n = size_le ρ n (i.rows 3) s (z.rows 3) in omega (arith, z.both, z.w_pos, z.all);
      blank = t;
    }

    pub turned_r : {t : Three} {v : List ℕ} {o : Spans} → Coordinates p xx b.m0 zz b e t v o → TurnedR p h gh b t o
    turned_r c = record {
      spans = c.spans;
      law = λ σ holds q. let (a, b, c, _) = c.law σ.prime _ _ _ (quot_r σ holds b f.det hx hz q) in (P_path (setting σ).𝓥 a, P_path (setting σ).𝓥 b, P_path (setting σ).𝓥 c);
    }

  -- ---- w m
  module _ {e : List ℕ} {l : Lengths} (f : Found p b e l) {xx yy : List ℕ} {nx ny : ℕ} (tx : TimesInGives p b.m1 gh xx nx) (ty : TimesInGives p b.m2 g yy ny) where
    abbrev kx : Product p b.m1 gh xx
    kx = tx.product

    abbrev hy : Product p b.m2 g yy
    hy = ty.product

    y_lt : Lt ρ.𝓥 (row ρ yy) (suc ((setting i.σ).roots.dw + (setting i.σ).roots.dw))
    y_lt = d.lt_eq ρ.𝓥 (d.lt_up ρ.𝓥 (suc ((setting i.σ).roots.dw + (setting i.σ).roots.dw)) (lt_mul_sharp ρ.𝓥 (z.rows 2) (g_lt i)) (omega (arith, z.two_r, z.both))) (sym (hy.law i.σ.prime))

    pub y_in : {mul lim : ℕ} {o : Three} → Prepared (of p mul lim) → Blank o → CoordinatesAsks (of p mul lim) xx nx yy ny b.m0 l.m0 b l e ie o
    y_in w t = record {
      inp = record {
        modulus = w;
        prime = i.σ.prime;
        ha = kx.is_row;
        hb = hy.is_row;
        hc = i.rows 0;
        sa = tx.size;
        sb = ty.size;
        sc = f.sizes 0;
        rows = i.rows;
        sizes = f.sizes;
        he = f.det.is_row;
        se = f.det.size;
        by_e = by_e i f.det;
        by_u = by_u i;
        b_n2 = fits_of ρ (suc ((setting i.σ).roots.dw + (setting i.σ).roots.dw)) (setting i.σ).roots.dr hy.is_row (i.rows 5) y_lt (z.rows 5) (omega (arith, z.both, z.r_pos, z.all));
        c_n1 = fits_of ρ (suc n) (setting i.σ).roots.dw (i.rows 0) (i.rows 4) (z.rows 0) (z.rows 4) (omega (arith, z.both, z.r_pos, z.all));
        c_m1 = fits_of ρ (suc n) (suc (setting i.σ).roots.dw) (i.rows 0) (i.rows 1) (z.rows 0) (z.rows 1) (omega (arith, z.both, z.r_pos, z.all));
        b_m2 = fits_of ρ (suc ((setting i.σ).roots.dw + (setting i.σ).roots.dw)) (suc (setting i.σ).roots.dr) hy.is_row (i.rows 2) y_lt (z.rows 2) (omega (arith, z.both, z.r_pos, z.all));
      };
      α = k.of_w.α.0;
      β = k.of_w.β.0;
      γ = k.of_w.γ.0;
      some = quot_w i.σ i.holds b f.det kx hy k.of_w;
      kβ = suc (setting i.σ).roots.dw;
      kγ = (setting i.σ).roots.dw;
      β_lt = w_near.β_lt;
      γ_lt = w_near.γ_lt;
      room_m0 = λ m s. let q : m ≤ suc n = size_le ρ (suc n) (i.rows 0) s (z.rows 0) in omega (arith, z.both, z.r_pos, z.all);
      room_n0 = λ m s. let q : m ≤ n = size_le ρ n (i.rows 3) s (z.rows 3) in omega (arith, z.both, z.r_pos, z.all);
      blank = t;
    }

    pub turned_w : {t : Three} {v : List ℕ} {o : Spans} → Coordinates p xx yy b.m0 b e t v o → TurnedW p g gh b t o
    turned_w c = record {
      spans = c.spans;
      law = λ σ holds q. let (a, b, c, _) = c.law σ.prime _ _ _ (quot_w σ holds b f.det kx hy q) in (P_path (setting σ).𝓥 a, P_path (setting σ).𝓥 b, P_path (setting σ).𝓥 c);
    }
