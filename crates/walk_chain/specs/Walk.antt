-- What a walk answers (document 01: "Walk", refusals 10 and 14, "Order: 1 to 8, then 14, 9, 10, 11").
--   Reaches p G H B s d B'      s steps from the record B end in the record B', and the degrees of the minima passed add up to d
--   Closes p G H B s d B'       and s is the first count of steps after which U = 1
--   StaysOpen p G H B n         no count from 1 to n closes
--   WalkAnswer                  document 01's answer: the refusal's number, 0 for closed, with steps, sum of the degrees and last basis
--   refused n                   the answer beside the refusal n: zeros
--   Walks p G H n B w           the whole answer to a walk from B with the budget n
-- `walks_unique` in proofs/Walk.antt: two answers that meet it are equal. `taken_up`: a walk that is taken up again where refusal 10 left it
-- gives what one long walk gives.
use Rattle.std.specs.Prelude.{◌≡◌, List, ℕ, ◌≤◌, ◌<◌}
use Rattle.base_answers.specs.Limits.{most, blank}
use Rattle.field_open.specs.Refusal.{Accepted}
use Rattle.field_open.specs.Door.{Door}
use Rattle.math_chain.specs.Chain.{Chain, Closing, Open}
use Rattle.basis_record.specs.Record.{setting, basis_of, IsRecord}

module _ (p : ℕ) (G H B : List ℕ) where
  pub record Reaches (s d : ℕ) (B' : List ℕ) : Type 0 where
    pub is_a_record : IsRecord p G H B'
    pub chain : (A : Accepted p G H) → Chain (setting A) (basis_of A B) s d (basis_of A B')

  -- "until U = 1 after at least one step"
  pub record Closes (s d : ℕ) (B' : List ℕ) : Type 0 where
    pub is_a_record : IsRecord p G H B'
    pub closing : (A : Accepted p G H) → Closing (setting A) (basis_of A B) s d (basis_of A B')

  abbrev pub StaysOpen : ℕ → Type 0
  StaysOpen n = (A : Accepted p G H) → Open (setting A) (basis_of A B) n

pub record WalkAnswer : Type 0 where
  pub refusal : ℕ
  pub steps : ℕ
  pub sum : ℕ
  pub basis : List ℕ

abbrev pub refused : ℕ → WalkAnswer
refused n = record { refusal = n; steps = 0; sum = 0; basis = blank }

module _ (p : ℕ) (G H : List ℕ) (n : ℕ) (B : List ℕ) where
  -- closing within the budget: "Its answer holds steps taken, sum of the degrees of m, and last basis"
  pub record Closed (w : WalkAnswer) : Type 0 where
    pub within : w.steps ≤ n
    pub number : w.refusal ≡ 0
    pub closes : Closes p G H B w.steps w.sum w.basis

  -- "10 is given exactly when no count from 1 to B closes .. returns B, the degree sum and the basis reached"
  pub record Spent (w : WalkAnswer) : Type 0 where
    pub number : w.refusal ≡ 10
    pub all : w.steps ≡ n
    pub none : StaysOpen p G H B n
    pub reaches : Reaches p G H B n w.sum w.basis

  -- an accepted field: 14 for the budget, then 9 for the record, then the walk itself
  pub data Goes (w : WalkAnswer) : Type 0 where
    budget : most < n → w ≡ refused 14 → Goes w
    no_record : n ≤ most → (IsRecord p G H B → ⊥) → w ≡ refused 9 → Goes w
    closed : n ≤ most → IsRecord p G H B → Closed w → Goes w
    spent : n ≤ most → IsRecord p G H B → Spent w → Goes w

  abbrev pub Walks : WalkAnswer → Type 0
  Walks w = Door p G H (λ k. w ≡ refused k) (Goes w)
