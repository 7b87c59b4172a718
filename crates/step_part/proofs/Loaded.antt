-- What `parted` hands on: the rows that are loaded, their lengths, and the degree of m.
use mathlib.Core.Path.{◌≡◌, sym, ap, ◌∙◌, subst}
use mathlib.Core.List.{List}
use Prim.Native.Nat.{ℕ, suc, ◌+◌, ◌*◌, ◌-◌, ◌<◌, ◌≤◌}
use native.Mathlib.Omega.{arith}
use lib.ListN.{get_or}
use Rattle.math_valued.proofs.Degree as d
use Rattle.math_rows.specs.Made.{reading}
use Rattle.math_rows.specs.Row.{Size}
use Rattle.poly_rows.proofs.Leaf.{size_unique}
use Rattle.poly_rows.proofs.Lengths.{size_of}
use Rattle.field_open.specs.Refusal.{Accepted}
use Rattle.math_ideals.specs.Basis.{Good}
use Rattle.math_ideals.proofs.Degrees.{small}
use Rattle.math_ideals.proofs.Divided.{ev_M}
use Rattle.math_chain.specs.Chain.{Degree}
use Rattle.basis_record.specs.Record.{setting}
use Rattle.basis_record.specs.Seven.{AreRows, rows_of}
use Rattle.basis_record.specs.declared.Seven.{Seven}
use Rattle.basis_record.specs.Store.{SevenLoaded}
use Rattle.basis_record.proofs.Loads.{rows_are, rows_good}
use Rattle.step_coordinates.proofs.Products.{sizes}
use Rattle.step_coordinates.specs.Turns.{GeneratorsAsks}
use Rattle.basis_field.proofs.Keeps.{dr_is, dw_is, degrees, room, g_row, h_row, gh_row, holds_of}
use Rattle.step_part.specs.Parting.{StepOnRowsAsks}

-- ---- the degree of m
pub degree_of : {p : ℕ} {G H : List ℕ} (A : Accepted p G H) (b : Seven) → AreRows p b → Good (setting A) (rows_of A b) → (lm lu : ℕ) → Size b.m0 lm → Size b.u lu
    → (lu ≤ lm) × Degree (setting A) (rows_of A b) (lm - lu)
degree_of {p} A b rows good lm lu sm su =
    let s = small (setting A) (rows_of A b) good in
    let e : lm ≡ suc s.x = size_unique sm (size_of (reading p A.prime) (rows 0) s.M0) in
    let f : lu ≡ suc s.u = size_unique su (size_of (reading p A.prime) (rows 6) s.U_has) in
    let l : s.u < s.x = s.u<x in
    (omega arith, record { x = s.x; u = s.u; M_deg = ev_M (setting A) (rows_of A b) s; U_deg = s.U_has; eq = omega arith })

-- ---- what `parted` asks
module _ {p : ℕ} {g h gh : List ℕ} {n dr dw : ℕ} {r w B : List ℕ} (i : StepOnRowsAsks p g h gh dr dw r w B) (n_is : n ≡ dr + dw) {b : Seven} (l : SevenLoaded B b) where
  abbrev A : Accepted p i.G i.H
  A = i.keeps.accepted

  pub good_rows : Good (setting i.keeps.accepted) (rows_of i.keeps.accepted b)
  good_rows = rows_good A l (i.is_a_record.good A)

  pub are_rows : AreRows p b
  are_rows = rows_are l i.is_a_record.each

  sum_is : n ≡ A.deg_g + A.deg_h
  sum_is = n_is ∙ degrees i.keeps A

  pub n_small : n ≤ 16
  n_small = let e = room i.keeps in omega arith

  pub gh_size : Size gh (n + 1)
  gh_size = subst (Size gh) (omega (arith, sum_is))
      (size_of (reading p A.prime) (gh_row i.keeps) (d.has_eq (reading p A.prime).𝓥 (d.has_mul (reading p A.prime).𝓥 (setting A).roots.G_deg (setting A).roots.H_deg) (sym (holds_of i.keeps A).gh_is)))

  -- G H leads at n
  lead_at : (m : ℕ) → Size gh m → get_or gh n 0 ≡ get_or gh (m - 1) 0
  lead_at m s = let e : m ≡ n + 1 = size_unique s gh_size in ap (λ j. get_or gh j 0) (let w : n ≡ m - 1 = omega arith in w)

  pub lead_low : get_or gh n 0 ≤ p
  lead_low = let t : get_or gh n 0 < p = (gh_row i.keeps).each n in omega arith

  pub divided_in : GeneratorsAsks p (n + 1) g h gh (p - get_or gh n 0) b
  divided_in = record {
    hg = g_row i.keeps;
    hh = h_row i.keeps;
    hgh = gh_row i.keeps;
    rows = are_rows;
    inverse = λ m s. ap (λ t. p - t) (lead_at m s);
    G = i.G;
    H = i.H;
    σ = A;
    holds = holds_of i.keeps A;
    good = good_rows;
    past = (let q : n ≡ A.deg_g + A.deg_h = sum_is in omega arith);
    fits = (let q : n ≤ 16 = n_small in omega arith);
  }

  -- the lengths of G, H and G H; deg G = 2 deg w − deg r and deg H = 2 deg r − deg w
  pub degrees_small : (dr ≤ 16) × (dw ≤ 16)
  degrees_small = (omega (arith, dr_is i.keeps A, sum_is, (sizes A b good_rows).both, n_small), omega (arith, dw_is i.keeps A, sum_is, (sizes A b good_rows).both, n_small))

  pub dr_low : dr ≤ 2 * dw
  dr_low = omega (arith, dr_is i.keeps A, dw_is i.keeps A, (sizes A b good_rows).two_r, (sizes A b good_rows).both)

  pub dw_low : dw ≤ 2 * dr
  dw_low = omega (arith, dr_is i.keeps A, dw_is i.keeps A, (sizes A b good_rows).two_r, (sizes A b good_rows).both)

  pub g_size : Size g (2 * dw + 1 - dr)
  g_size = subst (Size g) (omega (arith, dr_is i.keeps A, dw_is i.keeps A, (sizes A b good_rows).two_r, (sizes A b good_rows).both))
      (size_of (reading p A.prime) (g_row i.keeps) (d.has_eq (reading p A.prime).𝓥 (setting A).roots.G_deg (sym (holds_of i.keeps A).g_is)))

  pub h_size : Size h (2 * dr + 1 - dw)
  h_size = subst (Size h) (omega (arith, dr_is i.keeps A, dw_is i.keeps A, (sizes A b good_rows).two_r, (sizes A b good_rows).both))
      (size_of (reading p A.prime) (h_row i.keeps) (d.has_eq (reading p A.prime).𝓥 (setting A).roots.H_deg (sym (holds_of i.keeps A).h_is)))

  pub shorter : (lm lu : ℕ) → Size b.m0 lm → Size b.u lu → lu ≤ lm
  shorter lm lu sm su = (degree_of A b are_rows good_rows lm lu sm su).0
