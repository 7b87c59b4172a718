-- Walks taken up again: "a walk refused with 10 returns B, the degree sum and the basis reached, so it can be taken up again".
--   TakenUp p G H B s d w    any number of walks, the first from B, each further one from where the one before it was refused with 10;
--                            w is the last answer, s all steps together and d all degree sums together. The budgets are free: each walk
--                            has its own, and their sum is under no bound
--   Together p G H B s d w   they are one chain from B: none of its counts closes while the last answer is 10, and if it is 0, s is the
--                            first count that closes and d its degree sum
-- How to read it: `Reaches`, `StaysOpen` and `Closes` are in crate walk_chain, specs/Walk.antt. That TakenUp walks are Together is the
-- field `taken_up` of Demand2, in specs/Meaning.antt.
use Rattle.std.specs.Prelude.{◌≡◌, ◌⊎◌, List, ℕ, ◌+◌}
use Rattle.walk_chain.specs.Walk.{WalkAnswer, Walks, Reaches, StaysOpen, Closes}

module _ (p : ℕ) (G H B : List ℕ) where
  pub data TakenUp : ℕ → ℕ → WalkAnswer → Type 0 where
    once : (n : ℕ) (w : WalkAnswer) → Walks p G H n B w → TakenUp w.steps w.sum w
    again : {s d : ℕ} {v : WalkAnswer} (n : ℕ) (w : WalkAnswer) →
        TakenUp s d v → v.refusal ≡ 10 →
        Walks p G H n v.basis w →
        TakenUp (s + w.steps) (d + w.sum) w

  pub record Together (s d : ℕ) (w : WalkAnswer) : Type 0 where
    pub reaches : (w.refusal ≡ 0) ⊎ (w.refusal ≡ 10) → Reaches p G H B s d w.basis
    pub none : w.refusal ≡ 10 → StaysOpen p G H B s
    pub closes : w.refusal ≡ 0 → Closes p G H B s d w.basis
