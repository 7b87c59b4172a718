-- An opened field is a frame of the reduction, and means the series of the field.
--   frame_of c          the frame that the kept numbers and lists make
--   frame_by           it is that of what is prepared of p
--   frame_is           it is the frame of the field
--   fine, meaning_of    what the reduction asks
use mathlib.Core.Path.{◌≡◌, sym}
use mathlib.Core.List.{List}
use Prim.Native.Nat.{ℕ}
use Rattle.num_mod.specs.Prepared.{PreparedOf, ready}
use Rattle.num_mod.specs.declared.Modulus.{Modulus}
use Rattle.num_mod.proofs.Prepared.{ready_prepared}
use Rattle.field_open.specs.Refusal.{Accepted}
use Rattle.field_series.specs.Keeps.{Keeps}
use Rattle.field_series.specs.declared.OpenedField.{OpenedField}
use Rattle.basis_parts.specs.Frame.{Frame, frame, Fine, Meaning}
use Rattle.basis_scale.proofs.Start.{field_frame, meaning}
use Rattle.basis_field.proofs.Keeps.{dr_is, dw_is, r_series, w_series, r_row, w_row, modulus}

abbrev pub frame_of : OpenedField → Frame
frame_of c = frame (ready c.field.p) c.r c.w c.field.dr c.field.dw

pub frame_by : {p : ℕ} {q : Modulus} → PreparedOf p q → (r w : List ℕ) (dr dw : ℕ) → frame (ready p) r w dr dw ≡ frame q r w dr dw
frame_by e r w dr dw = (λ i. frame (sym e.same i) r w dr dw)

module _ {p : ℕ} {G H g h gh : List ℕ} {dr dw : ℕ} {r w : List ℕ} (k : Keeps p G H g h gh dr dw r w) (A : Accepted p G H) where
  pub frame_is : field_frame A r w (r_series k A) (w_series k A) ≡ frame (ready p) r w dr dw
  frame_is = (λ i. frame (ready p) r w (sym (dr_is k A) i) (sym (dw_is k A) i))

  pub fine : Fine (field_frame A r w (r_series k A) (w_series k A))
  fine = record { modulus = ready_prepared p (modulus k); hr = r_row k; hw = w_row k }

  pub meaning_of : Meaning (field_frame A r w (r_series k A) (w_series k A))
  meaning_of = meaning A r w (r_series k A) (w_series k A)
