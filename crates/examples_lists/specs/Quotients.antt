-- Quotients and greatest common divisors of lists, by which certificates are found. Nothing is claimed of them: what they find is tested by
-- multiplying out (`alike`).
--   inverse p a       a to the power p − 2
--   quotient p a b    the quotient of a by b, by long division from the leading coefficients down
--   bezout p a b      two lists u, v with u a + v b = 1, where a and b have no common factor
use Rattle.std.specs.Prelude.{List, [], ◌∷◌, reverse, ℕ, zero, suc, ◌+◌, ◌*◌, ◌-◌, ◌%◌, length}
use Rattle.base_lists.specs.Coefficients.{trim}
use Rattle.examples_lists.specs.Lists.{plus, scale, times, minus}

abbrev pub lead : List ℕ → ℕ
lead [] = 0
lead (a ∷ []) = a
lead (a ∷ b ∷ x) = lead (b ∷ x)

module _ (p : ℕ) where
  abbrev pub power : ℕ → ℕ → ℕ
  power a zero = 1
  power a (suc n) = (a * power a n) % p

  abbrev pub inverse : ℕ → ℕ
  inverse a = power a (p - 2)

  -- the digits of a quotient, highest first: i is the inverse of the divisor's leading coefficient, b what follows that
  abbrev pub digits : ℕ → ℕ → List ℕ → List ℕ → List ℕ
  digits zero i b a = []
  digits (suc n) i b [] = []
  digits (suc n) i b (x ∷ a) = (x * i) % p ∷ digits n i b (plus p a (scale p (p - (x * i) % p) b))

  abbrev pub by_reverse : ℕ → List ℕ → List ℕ → List ℕ
  by_reverse n a [] = []
  by_reverse n a (l ∷ b) = digits (suc n - length (l ∷ b)) (inverse l) b a

  abbrev pub quotient : List ℕ → List ℕ → List ℕ
  quotient a b = reverse (by_reverse (length (trim a)) (reverse (trim a)) (reverse (trim b)))

  abbrev pub rest : List ℕ → List ℕ → List ℕ
  rest a b = trim (plus p a (minus p (times p (quotient a b) b)))

  -- a = u f + v g and b = s f + t g
  abbrev pub euclid : ℕ → List ℕ → List ℕ → List ℕ → List ℕ → List ℕ → List ℕ → List ℕ × List ℕ
  euclid zero a u v b s t = (u, v)
  euclid (suc n) a u v [] s t = (scale p (inverse (lead a)) u, scale p (inverse (lead a)) v)
  euclid (suc n) a u v (c ∷ b) s t =
      euclid n (c ∷ b) s t (rest a (c ∷ b))
      (plus p u (minus p (times p (quotient a (c ∷ b)) s)))
      (plus p v (minus p (times p (quotient a (c ∷ b)) t)))

  abbrev pub bezout : List ℕ → List ℕ → List ℕ × List ℕ
  bezout f g = euclid (length f + length g) (trim f) (1 ∷ []) [] (trim g) [] (1 ∷ [])
