-- The step is settled.
--   degree_unique   m has one degree
--   steps_unique    two steps from one record are the same: the same degree, the same 119 numbers
use mathlib.Core.Path.{◌≡◌}
use mathlib.Core.List.{List}
use Prim.Native.Nat.{ℕ, ◌+◌}
use native.Mathlib.Omega.{arith}
use Rattle.math_valued.proofs.Degree.{same}
use Rattle.field_open.specs.Refusal.{Accepted}
use Rattle.math_ideals.specs.Setting.{Setting}
use Rattle.math_ideals.specs.Ideal.{Basis}
use Rattle.math_ideals.proofs.Divided.{next_unique}
use Rattle.math_chain.specs.Chain.{Degree}
use Rattle.basis_record.specs.Record.{setting, basis_of, IsRecord}
use Rattle.basis_record.proofs.Unique.{basis_unique}
use Rattle.step_next.specs.Steps.{Steps}
use Rattle.step_next.specs.declared.StepTaken.{StepTaken}

pub degree_unique : (S : Setting) (B : Basis S) {n m : ℕ} → Degree S B n → Degree S B m → n ≡ m
degree_unique S B {n} {m} h k =
    let e : h.x ≡ k.x = same S.𝓥 h.M_deg k.M_deg in
    let f : h.u ≡ k.u = same S.𝓥 h.U_deg k.U_deg in
    let a : h.x ≡ h.u + n = h.eq in
    let b : k.x ≡ k.u + m = k.eq in
    omega arith

pub steps_unique : {p : ℕ} {G H B : List ℕ} {o o' : StepTaken} → Accepted p G H → IsRecord p G H B → Steps p G H B o → Steps p G H B o' → o ≡ o'
steps_unique {p} {G} {H} {B} {o} {o'} A r h k =
    let e : o.degree ≡ o'.degree = degree_unique (setting A) (basis_of A B) (h.degree A) (k.degree A) in
    let f : o.basis ≡ o'.basis = basis_unique A o.basis o'.basis h.is_a_record k.is_a_record
    (next_unique (setting A) (basis_of A B) (basis_of A o.basis) (basis_of A o'.basis) (r.good A) (h.is_a_record.good A) (k.is_a_record.good A) (h.next A) (k.next A)) in
    λ i. record { degree = e i; basis = f i }
