-- A closed walk from the order: its degree sum is even.
use mathlib.Core.Path.{◌≡◌}
use mathlib.Core.List.{List}
use Prim.Native.Nat.{ℕ, ◌+◌, ◌/◌}
use native.Mathlib.Omega.{arith}
use Rattle.field_open.specs.Refusal.{Accepted}
use Rattle.math_chain.proofs.Unit.{unit_exists, unit_degree}
use Rattle.basis_record.specs.Record.{setting, basis_of}
use Rattle.basis_field.specs.First.{IsFirst}
use Rattle.walk_chain.specs.Walk.{Closes}

pub sum_even : {p : ℕ} {G H : List ℕ} (A : Accepted p G H) (B : List ℕ) → IsFirst p G H B → {s d : ℕ} {B' : List ℕ} → Closes p G H B s d B' → d / 2 + d / 2 ≡ d
sum_even A B f c =
    let (E, F, u) = unit_exists (setting A) (basis_of A B) (f.start A) (c.closing A) in
    let q = unit_degree (setting A) (basis_of A B) (f.start A) u in
    let h : ℕ = q.2 in
    let e = q.3 in
    omega arith
