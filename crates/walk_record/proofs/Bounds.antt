-- Whether a sheet is refused, from the two tests.
use mathlib.Core.Logic.{inl, inr}
use mathlib.Core.Bool.{Bool, true, false}
use Prim.Native.Nat.{ℕ, ◌≤◌}
use native.Mathlib.Omega.{arith}
use Rattle.base_answers.specs.Decides.{Decides}
use Rattle.base_answers.specs.Limits as limits
use Rattle.base_answers.specs.Limits.{most}
use Rattle.base_answers.proofs.Tests.{answer_yes, answer_no}
use Rattle.walk_record.specs.Record.{most_records, Beyond}

pub by_budget : (n b : ℕ) (t : Bool) → n ≤ most_records → limits.Over most b t → Decides t (Beyond n b)
by_budget n b true l o = answer_yes (inr o)
by_budget n b false l o = answer_no none
  where
    none : Beyond n b → ⊥
    none (inl k) = omega arith
    none (inr k) = omega arith
