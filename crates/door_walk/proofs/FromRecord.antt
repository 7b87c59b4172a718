-- What the walk from a record answers in an opened field.
--   walks_no_record   9
--   early             a field that does not open is refused with another number than 10
--   walks_goes        the walk itself: closed, or spent with 10
use mathlib.Core.Path.{◌≡◌, ap, subst}
use mathlib.Core.Logic.{◌⊎◌, inl, inr}
use mathlib.Core.Bool.{Bool, true, false}
use mathlib.Core.List.{List}
use Prim.Native.Nat.{ℕ, ◌≤◌}
use native.Mathlib.Omega.{arith}
use Rattle.std.specs.declared.result.Result.{Result}
use Rattle.std.specs.declared.result.Result.TheVariants.{Ok, Err}
use Rattle.base_answers.specs.Limits.{most}
use Rattle.base_answers.specs.declared.Fault.{Fault}
use Rattle.base_answers.specs.declared.Fault.TheVariants.{NotClosing}
use Rattle.base_answers.specs.Faults.{fault_number}
use Rattle.base_answers.specs.Decides.{Decides}
use Rattle.field_open.proofs.Door.{door_goes}
use Rattle.field_open.proofs.Stages.{numbered}
use Rattle.basis_record.specs.Record.{IsRecord}
use Rattle.field_series.specs.Answer.{Expands, OpenedAnswer}
use Rattle.field_series.specs.Answer as F
use Rattle.field_series.proofs.Answer.{expands_number}
use Rattle.basis_field.proofs.Known.{prime_of, kept_of}
use Rattle.basis_accept.specs.Answer.{Accepts}
use Rattle.walk_chain.specs.Walk.{WalkAnswer, refused, Closed, Spent, Goes, no_record, closed, spent, Walks}
use Rattle.walk_chain.specs.Told.{TenEnds}
use Rattle.walk_chain.specs.InField.{WalkInFieldAsks, WalkInFieldGives}

pub early : {p : ℕ} {G H : List ℕ} (k : Fault) → Expands p G H (F.told (Err k)) → TenEnds (Err k)
early {p} {G} {H} k x e =
    let same : k ≡ NotClosing = cc in
    let l : fault_number k ≤ 8 = numbered p G H _ (expands_number x) in
    let ten : fault_number k ≡ 10 = ap fault_number same in
    omega arith

module _ {p n : ℕ} {G H B : List ℕ} {e : OpenedAnswer} (opens : Expands p G H e) (z : e.refusal ≡ 0)
    (l : n ≤ most) {good : Bool} (tested : Accepts e.cubic B good) where
  -- of the struct's own p, which is p
  decided : Decides good (IsRecord e.cubic.field.p G H B)
  decided = tested G H (kept_of opens z)

  pub walks_no_record : good ≡ false → {w : WalkAnswer} → w ≡ refused 9 → Walks p G H n B w
  walks_no_record f q = door_goes (expands_number opens) z (no_record l (subst (λ q. IsRecord q G H B → ⊥) (prime_of opens z) (decided.no! f)) q)

  module _ (t : good ≡ true) where
    pub walked_of : WalkInFieldAsks e.cubic B n
    walked_of = record { G = G; H = H; keeps = kept_of opens z; is_a_record = decided.yes! t; within = l }

    pub walks_goes : (w : WalkAnswer) → WalkInFieldGives e.cubic B n w → Walks p G H n B w
    walks_goes w out = door_goes (expands_number opens) z (subst (λ q. Goes q G H n B w) (prime_of opens z) (go (out G H (kept_of opens z) (decided.yes! t))))
      where
        go : Closed e.cubic.field.p G H n B w ⊎ Spent e.cubic.field.p G H n B w → Goes e.cubic.field.p G H n B w
        go (inl k) = closed l (decided.yes! t) k
        go (inr k) = spent l (decided.yes! t) k
