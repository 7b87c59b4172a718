-- The table's rows, one after the other.
--   refusal_unique            two numbers that meet the table are equal
--   numbered               a number that meets the table is at most 8
--   degree_unique             a list has one degree
use mathlib.Core.Path.{◌≡◌}
use mathlib.Core.List.{List}
use Prim.Native.Nat.{ℕ, ◌≤◌}
use native.Mathlib.Omega.{arith}
pub use Rattle.base_lists.proofs.Coefs.{degree_unique}
use Rattle.base_answers.proofs.Stages.{stage_unique, end_unique, stage_low}
use Rattle.field_open.specs.Refusal.{Fault1, Fault2, Fault3, Fault4, Fault5, Fault6, Fault7, Fault8, Refusal}

pub refusal_unique : (p : ℕ) (G H : List ℕ) (m n : ℕ) → Refusal p G H m → Refusal p G H n → m ≡ n
unfolding Refusal
refusal_unique p G H =
    stage_unique 1 (Fault1 p) _ (stage_unique 2 (Fault2 p) _ (stage_unique 3 (Fault3 p G) _ (stage_unique 3 (Fault3 p H) _ (stage_unique 4 (Fault4 p G H) _
    (stage_unique 5 (Fault5 p G H) _ (stage_unique 6 (Fault6 p G H) _ (stage_unique 7 (Fault7 p G H) _ (stage_unique 8 (Fault8 p G H) _ end_unique))))))))

pub numbered : (p : ℕ) (G H : List ℕ) (n : ℕ) → Refusal p G H n → n ≤ 8
unfolding Refusal
numbered p G H n =
    stage_low (omega arith) (stage_low (omega arith) (stage_low (omega arith) (stage_low (omega arith) (stage_low (omega arith) (stage_low (omega arith)
    (stage_low (omega arith) (stage_low (omega arith) (stage_low (omega arith) (λ e. omega arith)))))))))
