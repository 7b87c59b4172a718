-- `poly_rows::minus` meets its contract: the numbers passed are turned, the others are those of x.
use Rattle.std.proofs.Common.{◌≡◌, ℕ, ◌<◌, ◌≤◌, ◌-◌, ◌%◌, get_or, length}
use Rattle.poly_rows.proofs.minus.Given as goal

abbrev pub invariant-loop-c : goal.invariant-loop-c
invariant-loop-c l = record {
  size : length l.c-items ≡ 32;
  done : (k : ℕ) → k < l.c-index → get_or l.c-items k 0 ≡ (l.p - get_or l.x k 0) % l.p;
  rest : (k : ℕ) → l.c-index ≤ k → get_or l.c-items k 0 ≡ get_or l.x k 0;
}
