-- Demand 1 for the functions that C and Rust call: what crate capi proves, side by side.
use mathlib.Core.Path.{◌≡◌, ap, ◌∙◌}
use mathlib.Core.Logic.{◌≢◌}
use mathlib.Core.List.{List}
use Prim.Native.Nat.{ℕ}
use lib.ListN.{get_or}
use Rattle.base_answers.specs.Said.{Said}
use Rattle.book_numbers.specs.Numbers.{numbers}
use Rattle.book_place.proofs.Once.{ask_says_unique}
use Rattle.book_write.proofs.One.{write_kept}
use Rattle.book_begin.proofs.Once as begun
use Rattle.book_parts.proofs.Once as parts
use Rattle.book_rows.proofs.Once as rowed
use Rattle.capi.proofs.Once as once
use Rattle.demands_calls.specs.FromC.{FromC}
use Rattle.demands_calls.proofs.Kept.{unit_kept, add_kept}

-- the first of the five numbers is the refusal's
refused_first : {out : List ℕ} (x : Said) → out ≡ numbers x → get_or out 0 0 ≢ 0 → x.number ≢ 0
refused_first x e f z = f (ap (λ l. get_or l 0 0) e ∙ z)

pub from_c : FromC
from_c = record {
  order_kept = λ t f. t.rows.kept f;
  step_kept = λ t f. t.rows.kept f;
  walk_kept = λ t f g. t.puts.rows.kept f g;
  unit_kept = λ t f. unit_kept t.m t.makes (λ z. f (t.number ∙ z));
  begin_kept = λ t f. begun.begin_kept t.tells (refused_first t.said t.written f);
  rows_kept = λ t f. rowed.rows_kept t.tells (refused_first t.said t.written f);
  list_kept = λ t f. parts.part_kept t.tells (refused_first t.said t.written f);
  write_kept = λ t f. write_kept t.tells (refused_first t.said t.written f);
  add_kept = λ t f. add_kept t.tells (refused_first t.said t.written f);
  order_fixed = once.order_tells_unique;
  step_fixed = once.step_tells_unique;
  walk_fixed = once.walk_tells_unique;
  from_order_fixed = once.from_order_tells_unique;
  unit_fixed = once.unit_tells_unique;
  one_field_fixed = once.one_field_tells_unique;
  check_book_fixed = once.check_says_unique;
  ask_fixed = ask_says_unique;
  attest_fixed = once.attest_says_unique;
  begin_fixed = begun.begin_says_unique;
  prime_fixed = parts.prime_says_unique;
  period_fixed = parts.period_says_unique;
  rows_fixed = rowed.rows_says_unique;
  list_fixed = parts.list_says_unique;
  write_fixed = once.write_says_unique;
  add_fixed = once.add_says_unique;
}
