-- The record of the order, in the words of the theory.
--   order_start   for an accepted field, whose series the two lists read, the record that `order` makes is the basis of the order O
use mathlib.Core.Path.{◌≡◌, refl, sym, ap, ap₂, ◌∙◌, subst}
use mathlib.Core.List.{List}
use Prim.Native.Nat.{ℕ}
use native.Mathlib.Omega.{arith}
use Rattle.math_valued.specs.Polynomial.{polys}
use Rattle.math_valued.proofs.Degree.{lead_eq, same}
use Rattle.math_valued.proofs.Polynomial.{P_path}
use Rattle.num_mod.specs.Prepared.{ready}
use Rattle.math_rows.specs.Made.{reading}
use Rattle.math_rows.specs.Row.{Reads}
use Rattle.math_turns.specs.Points.{Moved}
use Rattle.field_open.specs.Refusal.{Accepted}
use Rattle.math_ideals.specs.Next.{Start}
use Rattle.math_chain.proofs.Changed.{Changed, changed_of}
use Rattle.math_chain.proofs.Frame.{pair}
use Rattle.math_chain.proofs.Correct.{order_correct}
use Rattle.basis_record.specs.Record.{part, setting, poly_of, basis_of}
use Rattle.basis_parts.specs.Frame.{Frame, frame, Meaning, pt}
use Rattle.basis_finish.specs.Based.{BasedAt, Based, Mpt, Npt, at}
use Rattle.basis_scale.specs.First.{unit, nothing, units}
use Rattle.basis_scale.proofs.First.{unit_is, nothing_is}

module _ {p : ℕ} {G H : List ℕ} (A : Accepted p G H) (r w : List ℕ) (hr : Reads (reading p A.prime) r (setting A).roots.dr (setting A).roots.r) (hw : Reads (reading p A.prime) w (setting A).roots.dw (setting A).roots.w) where
  abbrev pub field_frame : Frame
  field_frame = frame (ready p) r w (setting A).roots.dr (setting A).roots.dw

  -- the lists mean the series of the field
  abbrev pub meaning : Meaning field_frame
  meaning = record { prime = A.prime; r = (setting A).roots.r; w = (setting A).roots.w; r_deg = (setting A).roots.r_deg; w_deg = (setting A).roots.w_deg; r_reads = hr; w_reads = hw; two = (setting A).roots.two≢ }

  module _ (B : List ℕ) (h : Based field_frame units unit nothing nothing B) where
    b : BasedAt meaning units unit nothing nothing B
    b = h.meant meaning

    -- U is a constant that leads with 1
    U_const : at meaning 6 B ≡ (reading p A.prime).𝓥.const b.ν
    U_const = b.U_eq ∙ ap (λ z. (reading p A.prime).𝓥.L.ops.mul ((reading p A.prime).𝓥.const b.ν) z) (unit_is (reading p A.prime)) ∙ (reading p A.prime).𝓥.L.laws.mul-one _

    ν_one : b.ν ≡ (reading p A.prime).𝓥.K.ops.𝟏
    ν_one =
        let v = (reading p A.prime).𝓥 in
        let hν : v.Lead (at meaning 6 B) 0 0 b.ν = lead_eq v (v.const_lead b.ν) (sym U_const) refl in
        let e : b.numbers.u ≡ 0 = same v (v.K.ops.𝟏, v.one≢zero, b.numbers.U_lead) (b.ν, b.ν_unit, hν) in
        v.lead_unique hν (v.lead_move 0 0 b.numbers.U_lead (omega arith))

    U_one : poly_of A (part 6 B) ≡ (polys (reading p A.prime).𝓥).ops.𝟏
    U_one = P_path (reading p A.prime).𝓥 (U_const ∙ ap (reading p A.prime).𝓥.const ν_one ∙ (reading p A.prime).const_one)

    changed : let P = (polys (reading p A.prime).𝓥).ops in Changed (reading p A.prime).𝓥 (record { b = P.𝟏; c = P.𝟎 }) (record { b = P.𝟎; c = P.𝟏 }) (pair (setting A) (basis_of A B).M) (pair (setting A) (basis_of A B).N)
    changed =
        let ρ = reading p A.prime in
        changed_of ρ _ _ _ _
        (subst (λ z. Moved ρ (record { b = ρ.𝓥.L.ops.𝟏; c = ρ.𝓥.L.ops.𝟎 }) z (Mpt meaning B) (Npt meaning B)) (ap₂ (λ x y. record { b = x; c = y }) (nothing_is ρ) (unit_is ρ))
        (subst (λ z. Moved ρ z (pt meaning nothing unit) (Mpt meaning B) (Npt meaning B)) (ap₂ (λ x y. record { b = x; c = y }) (unit_is ρ) (nothing_is ρ)) b.moved))

    pub order_start : Start (setting A) (basis_of A B)
    order_start = order_correct (setting A) (basis_of A B) U_one changed b.numbers
