-- What becomes of a record that is not passed over.
--   fits   a walk from one that is not unfit: what is added stays within 64 bits
use mathlib.Core.List.{List}
use Prim.Native.Nat.{ℕ}
use native.Mathlib.Omega.{arith}
use Rattle.walk_chain.specs.Walk.{WalkAnswer, Walks}
use Rattle.walk_chain.proofs.Room.{walks_room}
use Rattle.walk_record.specs.declared.WalkRecord.{WalkRecord}
use Rattle.walk_record.proofs.States.{within}
use Rattle.walk_record.specs.Record.{Unfit, MoveAsks}

pub fits : (r : WalkRecord) {p b : ℕ} {G H B : List ℕ} (w : WalkAnswer) → (Unfit r → ⊥) → Walks p G H b B w → MoveAsks r w.steps w.sum
fits r w f h =
    let (a, s) = within r f in
    let n = (walks_room w h).steps in
    let d = (walks_room w h).sum in
    record { steps = omega arith; sum = omega arith }
