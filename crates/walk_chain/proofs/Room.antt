-- How far a walk comes: at most its budget, and at most 16 degrees a step.
--   reaches_room   of records
--   walks_room     of answers; beside a refusal but 10 the numbers are 0
use mathlib.Core.Path.{◌≡◌, ap}
use mathlib.Core.List.{List}
use Prim.Native.Nat.{ℕ, ◌+◌, ◌*◌, ◌≤◌}
use native.Mathlib.Omega.{arith}
use native.Mathlib.Nat.{mul-le-mul_left}
use Rattle.base_answers.specs.Limits.{most}
use Rattle.field_open.specs.Refusal.{Accepted}
use Rattle.field_open.proofs.Door.{door_out}
use Rattle.math_chain.proofs.Walk.{chain_room}
use Rattle.basis_record.specs.Record.{setting, basis_of, IsRecord}
use Rattle.walk_chain.specs.Walk.{Reaches, refused, Goes, budget, no_record, closed, spent, Walks, WalkAnswer}

pub reaches_room : {p : ℕ} {G H B B' : List ℕ} {s d : ℕ} → Accepted p G H → IsRecord p G H B → Reaches p G H B s d B' → d ≤ 16 * s
reaches_room {B = B} {s = s} A is r =
    let (l, k) = chain_room (setting A) (basis_of A B) (is.good A) (r.chain A) in
    let q : A.deg_g + A.deg_h ≤ 16 = A.sum in
    let m : s * (A.deg_g + A.deg_h) ≤ s * 16 = mul-le-mul_left s q in
    omega arith

pub record Room (n : ℕ) (w : WalkAnswer) : Type 0 where
  pub budget : w.steps ≤ n
  pub steps : w.steps ≤ most
  pub sum : w.sum ≤ 16 * w.steps

pub walks_room : {p n : ℕ} {G H B : List ℕ} (w : WalkAnswer) → Walks p G H n B w → Room n w
walks_room {p} {n} {G} {H} {B} w = door_out (λ k f l. nothing) goes
  where
    nothing : {k : ℕ} → w ≡ refused k → Room n w
    nothing e =
        let s : w.steps ≡ 0 = ap (λ (v : WalkAnswer). v.steps) e in
        let d : w.sum ≡ 0 = ap (λ (v : WalkAnswer). v.sum) e in
        record { budget = omega arith; steps = omega arith; sum = omega arith }

    goes : Accepted p G H → Goes p G H n B w → Room n w
    goes A (budget l e) = nothing e
    goes A (no_record l a e) = nothing e
    goes A (closed l a c) =
        let s : w.steps ≤ n = c.within in
        record { budget = s; steps = omega arith; sum = reaches_room A a (record { is_a_record = c.closes.is_a_record; chain = λ A. (c.closes.closing A).chain }) }
    goes A (spent l a c) =
        let s : w.steps ≡ n = c.all in
        let d : w.sum ≤ 16 * n = reaches_room A a c.reaches in
        record { budget = omega arith; steps = omega arith; sum = omega arith }
