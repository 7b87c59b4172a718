-- A list of numbers as the coefficients of a polynomial, lowest first.
--   Size l n       n is the length of l without the zeros at its end: one more than the degree, 0 for the zero polynomial
--   trim l         the list l without the zeros at its end
--   Coefficients most p l d   l is a list of coefficients of a polynomial of degree d: at most `most`, each below p, the last not 0
--   NoCoefficients most p l   l is none: it is empty, longer than `most`, has a number from p on, or its last number is 0
--   ListLength most p l n     n is the number of coefficients of l, or 0 where l is no list of coefficients
-- Laws: proofs/Trims (a trimmed list is the front of the list, as long as its size), proofs/Coefs (list_unique, degree_unique).
use Rattle.std.specs.Prelude.{◌≡◌, ◌≢◌, List, [], ◌∷◌, ℕ, zero, suc, ◌-◌, ◌<◌, ◌≤◌, length, get_or}

pub record Size (l : List ℕ) (n : ℕ) : Type 0 where
  pub fits : n ≤ length l
  pub above : (i : ℕ) → n ≤ i → get_or l i 0 ≡ 0
  pub top : 0 < n → get_or l (n - 1) 0 ≢ 0

-- a number in front of a trimmed list: 0 in front of nothing is nothing
abbrev pub ahead : ℕ → List ℕ → List ℕ
ahead zero [] = []
ahead zero (y ∷ l) = zero ∷ y ∷ l
ahead (suc x) l = suc x ∷ l

abbrev pub trim : List ℕ → List ℕ
trim [] = []
trim (x ∷ l) = ahead x (trim l)

pub record Coefficients (most p : ℕ) (l : List ℕ) (d : ℕ) : Type 0 where
  pub whole : length l ≡ suc d
  pub short : length l ≤ most
  pub each : (i : ℕ) → i < length l → get_or l i 0 < p
  pub last : get_or l d 0 ≢ 0

abbrev pub NoCoefficients : ℕ → ℕ → List ℕ → Type 0
NoCoefficients most p l = (d : ℕ) → Coefficients most p l d → ⊥

pub record ListLength (most p : ℕ) (l : List ℕ) (n : ℕ) : Type 0 where
  pub none : n ≡ 0 → NoCoefficients most p l
  pub some : (d : ℕ) → n ≡ suc d → Coefficients most p l d
