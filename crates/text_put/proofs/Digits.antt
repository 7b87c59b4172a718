-- The decimal digits of a number, by the last one.
--   text_small, text_more   a number of one digit; a number's tens, then its last digit
use mathlib.Core.Path.{◌≡◌, refl, sym, ap, ◌∙◌}
use mathlib.Core.Bool.{Bool, true, false}
use mathlib.Core.List.{List, [], ◌∷◌, ◌++◌}
use Prim.Native.Nat.{ℕ, zero, suc, ◌+◌, ◌/◌, ◌%◌, ◌≤◌, ◌<◌}
use native.Mathlib.Decide.{dec_le}
use native.Mathlib.Omega.{arith}
use borrow.Author.Tests.{lt-ltb, le-ltb}
use Rattle.text_put.specs.Print.{digits_of, number_text}

pick : (f n : ℕ) → Bool → List ℕ
pick f n b = elim b [ true ↦ (48 + n % 10) ∷ [] | false ↦ digits_of f (n / 10) ++ (48 + n % 10) ∷ [] ]

of_small : (f n : ℕ) → n < 10 → digits_of f n ≡ (48 + n % 10) ∷ []
unfolding digits_of pick
of_small zero n h = refl
of_small (suc f) n h = ap (pick f n) (lt-ltb n 10 h)

of_more : (f n : ℕ) → 10 ≤ n → digits_of (suc f) n ≡ digits_of f (n / 10) ++ (48 + n % 10) ∷ []
unfolding digits_of pick
of_more f n h = ap (pick f n) (le-ltb n 10 h)

same_step : (f g n : ℕ) → (10 ≤ n → digits_of f (n / 10) ≡ digits_of g (n / 10)) → digits_of (suc f) n ≡ digits_of (suc g) n
same_step f g n ih = elim (dec_le 10 n) [ yes p ↦ more p | no p ↦ few p ]
  where
    more : 10 ≤ n → digits_of (suc f) n ≡ digits_of (suc g) n
    more p = of_more f n p ∙ ap (λ (z : List ℕ). z ++ (48 + n % 10) ∷ []) (ih p) ∙ sym (of_more g n p)

    few : ¬ (10 ≤ n) → digits_of (suc f) n ≡ digits_of (suc g) n
    few p = of_small (suc f) n (omega arith) ∙ sym (of_small (suc g) n (omega arith))

of_same : (f g n : ℕ) → n ≤ f → n ≤ g → digits_of f n ≡ digits_of g n
of_same zero g n h k = of_small zero n (omega arith) ∙ sym (of_small g n (omega arith))
of_same (suc f) zero n h k = of_small (suc f) n (omega arith) ∙ sym (of_small zero n (omega arith))
of_same (suc f) (suc g) n h k = same_step f g n (λ p. of_same f g (n / 10) (omega arith) (omega arith))

pub text_small : (n : ℕ) → n < 10 → number_text n ≡ (48 + n % 10) ∷ []
unfolding number_text
text_small n h = of_small n n h

pub text_more : (n : ℕ) → 10 ≤ n → number_text n ≡ number_text (n / 10) ++ (48 + n % 10) ∷ []
unfolding number_text
text_more zero h = absurd (omega arith)
text_more (suc n) h = of_more n (suc n) h ∙ ap (λ (z : List ℕ). z ++ (48 + suc n % 10) ∷ []) (of_same n (suc n / 10) (suc n / 10) (omega arith) (omega arith))
