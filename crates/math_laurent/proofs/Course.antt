-- Course-of-values recursion.
--   course_at     course n = Φ n course
--   course_upto   what obeys g n = Φ n g at every place before N agrees with it before N: what a loop that fills an array shows
--   course_unique   what obeys it everywhere is it
use mathlib.Core.Path.{◌≡◌, sym, ◌∙◌, ap, fun_ext}
use Prim.Native.Nat.{ℕ, zero, suc, ◌<◌}
use native.Mathlib.Decide.{dec_lt}
use native.Mathlib.Omega.{arith}
use Rattle.math_laurent.specs.Course.{Local, stage, course}

module _ {A : Type 0} (a : A) (Φ : ℕ → (ℕ → A) → A) where
  -- the values stay as they were made
  stage_at : (n i : ℕ) → i < n → stage a Φ n i ≡ course a Φ i
  unfolding stage
  stage_at zero i l = absurd (omega arith)
  stage_at (suc n) i l = go (dec_lt i n) (stage_at n i)
    where
      go : (d : Dec (i < n)) → (i < n → stage a Φ n i ≡ course a Φ i) → elim d [ yes m ↦ stage a Φ n i | no m ↦ Φ n (stage a Φ n) ] ≡ course a Φ i
      go (yes m) ih = ih m
      go (no m) ih = ap (λ k. Φ k (stage a Φ k)) (let e : n ≡ i = omega arith in e)

  module _ (local : Local Φ) where
    pub course_at : (n : ℕ) → course a Φ n ≡ Φ n (course a Φ)
    course_at n = local n (stage a Φ n) (course a Φ) (stage_at n)

    pub course_upto : (N : ℕ) (g : ℕ → A) → ((n : ℕ) → n < N → g n ≡ Φ n g) → (i : ℕ) → i < N → g i ≡ course a Φ i
    course_upto zero g h i l = absurd (omega arith)
    course_upto (suc N) g h i l =
        let ih : (j : ℕ) → j < N → g j ≡ course a Φ j = course_upto N g (λ n m. h n (omega arith)) in
        h i l ∙ local i g (course a Φ) (λ j m. ih j (omega arith)) ∙ sym (course_at i)

    pub course_unique : (g : ℕ → A) → ((n : ℕ) → g n ≡ Φ n g) → g ≡ course a Φ
    course_unique g h = fun_ext (λ i. course_upto (suc i) g (λ n l. h n) i (omega arith))
