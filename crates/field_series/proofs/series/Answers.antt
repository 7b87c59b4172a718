-- `field_series::series` meets its contract: what is not refused can be filled.
use native.Mathlib.Omega.{arith}
use Rattle.base_answers.proofs.Limits.{over_no}
use Rattle.field_open.proofs.Accept.{accepted}
use Rattle.field_open.proofs.Paddings.{front_accepted}
use Rattle.field_series.proofs.series.Goals as goal

pub grow-requires : goal.grow-requires
grow-requires c = let l = over_no c.over_longest.ensures c.if-over_longest.false in record {
  accepted = front_accepted c.unpadded-a.ensures c.unpadded-b.ensures (accepted _ _ _ c.in_ok-refusal.ensures);
  even = omega arith;
  near = omega arith;
}
