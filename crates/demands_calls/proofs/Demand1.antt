-- Demand 1 holds: what the layers prove of each function, side by side.
use Rattle.base_lists.proofs.Puts.{placed_unique}
use Rattle.field_open.proofs.Stages.{refusal_unique}
use Rattle.field_open.proofs.Opening.{opens_unique}
use Rattle.field_series.proofs.Answer as series
use Rattle.door_order.proofs.Answer.{orders_unique}
use Rattle.door_check.proofs.Answer.{checks_unique}
use Rattle.door_step.proofs.Answers.{answers_unique}
use Rattle.walk_chain.proofs.Walk.{walks_unique}
use Rattle.door_period.proofs.Order.{from_order_unique}
use Rattle.door_unit.proofs.Once.{makes_unique}
use Rattle.door_compare.proofs.Once.{refusals_unique, compares_unique}
use Rattle.door_transfer.proofs.Once.{transfers_unique}
use Rattle.door_rescale.proofs.Once.{rescales_unique}
use Rattle.door_record.proofs.Unique.{advances_unique}
use Rattle.door_sheet.proofs.Unique.{sheet_unique}
use Rattle.book_body.proofs.One.{list_unique, list_kept}
use Rattle.book_write.proofs.One.{write_unique, write_kept}
use Rattle.book_check.proofs.One.{tells_unique, ask_unique, part_unique}
use Rattle.book_add.proofs.One.{add_unique}
use Rattle.book_attest.proofs.One.{attest_unique}
use Rattle.text_cut.specs.Lines.{lines_of}
use Rattle.text_cut.proofs.Steps.{cut_unique}
use Rattle.text_read.proofs.Answers.{parse_unique}
use Rattle.lister.proofs.Once.{lists_unique, answer_unique, passes_unique, output_unique}
use Rattle.demands_calls.specs.Fixed.{Demand1}
use Rattle.demands_calls.proofs.Numbers.{numbered}
use Rattle.demands_calls.proofs.Kept as kept
use Rattle.demands_calls.proofs.FromC.{from_c}

pub demand_1 : Demand1
demand_1 = record {
  numbered = numbered;
  series_kept = series.answer_kept;
  unit_kept = kept.unit_kept;
  transfer_kept = kept.transfer_kept;
  rescale_kept = kept.rescale_kept;
  sheet_kept = kept.sheet_kept;
  list_kept = list_kept;
  write_kept = write_kept;
  add_kept = kept.add_kept;
  parse_kept = kept.parse_kept;
  answer_kept = kept.answer_kept;
  pass_kept = kept.pass_kept;
  refusal_fixed = refusal_unique;
  open_fixed = opens_unique;
  series_fixed = λ h k. series.answer_unique _ _ _ _ h k;
  open_series_fixed = series.expands_unique;
  order_fixed = orders_unique;
  check_fixed = λ p G H B n n' h k. checks_unique n n' h k;
  step_fixed = answers_unique;
  walk_fixed = λ v w h k. walks_unique _ _ _ _ _ v w h k;
  from_order_fixed = λ v w h k. from_order_unique _ _ _ _ v w h k;
  unit_fixed = λ m m' h k.
      let s = makes_unique _ _ _ _ _ _ _ m m' _ _ _ _ h k in (
        (λ i. record { refusal = s.number i; period = record { 0 = s.period i }; regulator = record { 0 = s.regulator i } }),
        s.rows_same,
        s.scratch_same,
      );
  rescale_fixed = λ h k. rescales_unique _ _ _ _ _ _ _ _ _ _ h k;
  advance_fixed = λ h k. advances_unique _ _ _ _ h k;
  sheet_fixed = λ h k. sheet_unique _ _ _ _ _ _ h k;
  pairs_fixed = λ h k. refusals_unique h k;
  compare_fixed = λ a b h k. compares_unique h k;
  transfer_fixed = λ h k. transfers_unique _ _ _ _ _ _ _ _ _ _ h k;
  check_book_fixed = λ h k. tells_unique _ h k;
  ask_fixed = λ h k. ask_unique _ h k;
  part_fixed = λ h k. part_unique _ h k;
  attest_fixed = λ h k. attest_unique _ _ _ _ h k;
  list_fixed = list_unique;
  write_fixed = λ h k. write_unique _ _ h k;
  add_fixed = λ h k. add_unique _ _ _ h k;
  parse_fixed = parse_unique;
  line_fixed = lists_unique;
  answer_fixed = λ h k. answer_unique _ _ _ _ _ _ _ h k;
  next_line_fixed = cut_unique;
  pass_fixed = λ h k. passes_unique _ _ _ _ _ _ _ _ _ _ h k;
  end_fixed = λ d n r q e f h k. placed_unique h k;
  output_fixed = λ input t u h k. output_unique (lines_of 255 input) t u h k;
  from_c = from_c;
}
