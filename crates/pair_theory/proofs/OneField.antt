-- The orders of two pairs of one field carry over.
--   straight, crossed   for two accepted pairs that agree, in one order or the other
--   meets               for two accepted pairs of one field
use mathlib.Core.Logic.{inl, inr}
use mathlib.Core.List.{List}
use Prim.Native.Nat.{ℕ}
use Rattle.math_fp.specs.Fp.{Prime}
use Rattle.math_valued.specs.Val.{Valued}
use Rattle.math_rows.specs.Made.{reading}
use Rattle.field_open.specs.Refusal.{Accepted}
use Rattle.pair_laws.specs.OneField.{Agree, OneField}
use Rattle.basis_record.specs.Setting.{roots}
use Rattle.math_carry.specs.Carries.{Carries, Stretched, Exchanged}
use Rattle.math_carry.proofs.Meets.{Meets, meets_scaled, meets_crossed}
use Rattle.pair_agree.proofs.Polynomials.{agree_poly}

module _ {p : ℕ} {G H G' H' : List ℕ} (A : Accepted p G H) (A' : Accepted p G' H') (pr : Prime p) where
  abbrev 𝓥 : Valued
  𝓥 = (reading p pr).𝓥

  pub straight : Agree p G G' → Agree p H H' → (c : Carries (roots A pr) (roots A' pr)) × Stretched 𝓥 (roots A pr) (roots A' pr) c
  straight g h =
      let (α, uα, eG) = agree_poly p pr A.list_g A'.list_g g in
      let (β, uβ, eH) = agree_poly p pr A.list_h A'.list_h h in
      meets_scaled 𝓥 (roots A pr) (roots A' pr) α β uα uβ eG eH

  pub crossed : Agree p G H' → Agree p H G' → (c : Carries (roots A pr) (roots A' pr)) × Exchanged 𝓥 (roots A pr) (roots A' pr) c
  crossed g h =
      let (β, uβ, eH) = agree_poly p pr A.list_g A'.list_h g in
      let (α, uα, eG) = agree_poly p pr A.list_h A'.list_g h in
      meets_crossed 𝓥 (roots A pr) (roots A' pr) α β uα uβ eG eH

pub meets : {p : ℕ} {G H G' H' : List ℕ} (A : Accepted p G H) (A' : Accepted p G' H')
    → OneField p G H G' H' → (pr : Prime p) → Meets (reading p pr).𝓥 (roots A pr) (roots A' pr)
meets A A' (inl (g, h)) pr = let (c, k) = straight A A' pr g h in record { carries = c; rows = inl k }
meets A A' (inr (g, h)) pr = let (c, k) = crossed A A' pr g h in record { carries = c; rows = inr k }
