-- What a walk answers, in numbers and a lent array.
--   Ends n a b x         what is lent: it holds x afterwards where the walk closed or its budget was spent, else it is as it was
--   Puts k l d x         the refusal k, the steps l and the degree sum d of the walk, and its last record x in place of the first one
-- In proofs/Once.antt: two outcomes that meet one of them are equal (ends_unique, puts_unique).
use Rattle.std.specs.Prelude.{◌≡◌, ◌≢◌, ◌⊎◌, List, ℕ}

pub record Ends (n : ℕ) (before after x : List ℕ) : Type 0 where
  pub stored : (n ≡ 0) ⊎ (n ≡ 10) → after ≡ x
  pub kept : n ≢ 0 → n ≢ 10 → after ≡ before

pub record Puts (k l d : ℕ) (x before : List ℕ) (n steps sum : ℕ) (after : List ℕ) : Type 0 where
  pub number : n ≡ k
  pub steps_is : steps ≡ l
  pub sum_is : sum ≡ d
  pub rows : Ends n before after x
