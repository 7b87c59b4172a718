-- Course-of-values recursion: a sequence whose next value is made from those before it, as the coefficients of an inverse or of a root are.
--   Local Φ      Φ n g asks only for the values of g before n
--   course a Φ   the sequence g with g n = Φ n g for every n (a stands where no value is yet: any will do)
-- In proofs/Course: that equation, and that it has no other solution, also as far as a place N.
-- The values may be of any type: a pair of series is one sequence of pairs.
use Rattle.std.specs.Prelude.{◌≡◌, ℕ, zero, suc, ◌<◌}
use Rattle.std.proofs.Math.Decide.{dec_lt}

module _ {A : Type 0} where
  abbrev pub Local : (ℕ → (ℕ → A) → A) → Type 0
  Local Φ = (n : ℕ) (f g : ℕ → A) → ((i : ℕ) → i < n → f i ≡ g i) → Φ n f ≡ Φ n g

  -- the values before n, each as it stood when it was made
  unfoldable pub stage : A → (ℕ → (ℕ → A) → A) → ℕ → ℕ → A
  stage a Φ zero i = a
  stage a Φ (suc n) i = elim (dec_lt i n) [ yes l ↦ stage a Φ n i | no l ↦ Φ n (stage a Φ n) ]

  abbrev pub course : A → (ℕ → (ℕ → A) → A) → ℕ → A
  course a Φ n = Φ n (stage a Φ n)
