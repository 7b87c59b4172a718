-- Two pairs of one field are alike.
use Rattle.pair_theory.proofs.Refused.{refusal_carry}
use Rattle.pair_answers.specs.Alike.{Alike}
use Rattle.pair_answers.proofs.Told.{told_same}
use Rattle.pair_answers.proofs.Made.{made_same}
use Rattle.pair_answers.proofs.Transferred.{transferred_holds, transferred_unit}
use Rattle.pair_answers.proofs.Steps.{order_same, step_same, walk_same}

pub alike : Alike
alike p G H G' H' s s' one = record {
  refused = refusal_carry p s s' one;
  told = told_same p s s' one;
  made = made_same p s s' one;
  order = order_same p s s' one;
  step = λ c. step_same p s s' c;
  walk = λ c. walk_same p s s' c;
  holds = λ h t. transferred_holds p h t;
  transferred = transferred_unit p s s' one;
}
