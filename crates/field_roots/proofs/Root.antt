-- Each accepted field has its pair r, w.
--   lead_r               the cube root of the leading coefficient of D = G H²
--   root_r_lem, root_w_lem      the two series; they stay shut
--   root_pair           r² = H w, r w = G H, and r has degree deg_r and leads with lead_r
--   G_has .. w_degree   the four degrees
-- That no other two series obey the two laws is `field_roots_unique` of crate basis_record.
use mathlib.Core.Path.{◌≡◌, refl, sym, ap, ◌∙◌}
use mathlib.Core.Logic.{◌≢◌}
use mathlib.Core.List.{List}
use Prim.Native.Nat.{ℕ, ◌+◌, ◌*◌, ◌%◌}
use native.Mathlib.Nat.{mod-lt}
use native.Mathlib.Omega.{arith}
use lib.ListN.{get_or}
use Rattle.math_ring.specs.Ring.{CRing}
use Rattle.math_ring.proofs.Solve.{zer, ◌:*◌, ◌:=◌, ring₁}
use Rattle.math_fp.specs.Fp.{Prime, pow_mod, third}
use Rattle.math_fp.proofs.Value.{root_value}
use Rattle.math_valued.specs.Degree.{Has}
use Rattle.math_valued.proofs.Degree.{lead_eq, k_domain}
use Rattle.math_rows.specs.Reading.{Reading}
use Rattle.math_rows.specs.Made.{reading, cube_roots}
use Rattle.math_rows.specs.Roots.{CubeRoots}
use Rattle.math_rows.specs.Row.{row}
use Rattle.field_open.specs.Refusal.{Accepted}
use Rattle.field_open.proofs.Accept.{degree_size, degree_lead, degree_has}
use Rattle.math_rows.proofs.Rows.{size_lead}
use Rattle.math_rows.proofs.Unique.{same_cast}
use Rattle.math_rows.proofs.Numbers.{cast_square, cast_cube}
use Rattle.field_roots.specs.Pair.{deg_r, deg_w, RootPair}
use Rattle.field_roots.proofs.Pair.{three, w_has, pair_from}
use Rattle.field_roots.proofs.Near.{Sizes}
use Rattle.math_rows.proofs.Constants.{three≢}

module _ {p : ℕ} {G H : List ℕ} (A : Accepted p G H) (pr : Prime p) where
  abbrev ρ : Reading p
  ρ = reading p pr

  open ρ use {𝓥, cast}
  open 𝓥 use {K, L, Lead}
  open K.ops use {mul as ◌*ᵏ◌, 𝟎 as 0ᵏ}
  open L.ops use {mul as ◌*ˡ◌}

  infixl 70 ◌*ˡ◌ ◌*ᵏ◌
  pub sizes : Sizes (reading p pr) A.deg_g A.deg_h (deg_r A.deg_g A.deg_h) (deg_w A.deg_g A.deg_h)
  sizes =
      let t : A.deg_g % 3 ≡ A.deg_h % 3 = A.thirds in
      record { r_size = omega arith; w_size = omega arith }

  abbrev lg : ℕ
  lg = get_or G A.deg_g 0

  abbrev lh : ℕ
  lh = get_or H A.deg_h 0

  -- the leading coefficient of D
  abbrev top_D : ℕ
  top_D = (lg * (lh * lh)) % p

  pub lead_r : K.El
  lead_r = cast (pow_mod p top_D (third p))

  cube_is : lead_r *ᵏ lead_r *ᵏ lead_r ≡ cast lg *ᵏ (cast lh *ᵏ cast lh)
  unfolding lead_r
  cube_is =
      let r : ℕ = pow_mod p top_D (third p) in
      sym (cast_cube ρ r)
      ∙ same_cast ρ (r * r * r) (lg * (lh * lh)) (root_value p pr top_D (mod-lt (lg * (lh * lh)) ρ.pos) A.kind r refl)
      ∙ cast_square ρ lg lh

  -- r leads with the cube root of D's leading coefficient
  pub lead_r_cube : lead_r *ᵏ lead_r *ᵏ lead_r ≡ cast (lg * (lh * lh))
  lead_r_cube = cube_is ∙ sym (cast_square ρ lg lh)

  pub lead_r_not : lead_r ≢ 0ᵏ
  lead_r_not e =
      k_domain 𝓥 (cast lg) (cast lh *ᵏ cast lh) (degree_lead pr A.list_g) (k_domain 𝓥 (cast lh) (cast lh) (degree_lead pr A.list_h) (degree_lead pr A.list_h))
      (sym cube_is ∙ ap (λ x. x *ᵏ x *ᵏ x) e ∙ ring₁ K (λ x. zer :* zer :* zer := zer) tt 0ᵏ)

  pub G_has : Has 𝓥 (row ρ G) A.deg_g
  G_has = degree_has pr A.list_g

  pub H_has : Has 𝓥 (row ρ H) A.deg_h
  H_has = degree_has pr A.list_h

  abbrev dr : ℕ
  dr = deg_r A.deg_g A.deg_h

  abbrev dw : ℕ
  dw = deg_w A.deg_g A.deg_h

  D_lead : Lead (row ρ G *ˡ (row ρ H *ˡ row ρ H)) (dr + dr + dr) 0 (lead_r *ᵏ lead_r *ᵏ lead_r)
  D_lead =
      let h : Lead (row ρ H) A.deg_h 0 (cast lh) = size_lead ρ (degree_size A.list_h) in
      let s = sizes in
      𝓥.lead_move (dr + dr + dr) 0 (lead_eq 𝓥 (𝓥.lead_mul (size_lead ρ (degree_size A.list_g)) (𝓥.lead_mul h h)) refl (sym cube_is)) (omega (arith, s.r_size))

  both : (r : L.El) × (w : L.El) × RootPair 𝓥 (row ρ G) (row ρ H) dr lead_r r w
  both =
      let (r, e, l) = (cube_roots p pr).cube_root (row ρ G *ˡ (row ρ H *ˡ row ρ H)) dr lead_r lead_r_not (three≢ ρ pr A.kind) D_lead in
      let (w, h) = pair_from 𝓥 H_has e l in
      (r, w, h)

  pub root_r_lem : L.El
  root_r_lem = both.0

  pub root_w_lem : L.El
  root_w_lem = both.1

  pub root_pair : RootPair 𝓥 (row ρ G) (row ρ H) dr lead_r root_r_lem root_w_lem
  unfolding root_r_lem root_w_lem
  root_pair = both.2

  pub r_has : Has 𝓥 root_r_lem dr
  r_has = (lead_r, lead_r_not, root_pair.lead)

  pub w_degree : Has 𝓥 root_w_lem dw
  w_degree = let s = sizes in w_has 𝓥 dw lead_r_not H_has (omega (arith, s.r_size, s.w_size)) root_pair
