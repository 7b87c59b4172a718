-- Reckoning with lists of coefficients mod p, lowest first. Every function here computes on written numbers.
--   plus, scale, times, minus   sum, multiple by a number, product, negative
--   slope                       the derivative
--   lists p                     the operations, for every definition that is written over any operations
--   nought, alike               a list of zeros mod p; two lists of one polynomial
--   ends                        zeros from a place on
--   alike_t                      the same for triples
-- That these are the operations of the polynomials, and the tests sound, is in proofs/Lists.antt and proofs/Meaning.antt.
use Rattle.std.specs.Prelude.{Bool, true, ◌&&◌, List, [], ◌∷◌, ℕ, zero, suc, ◌+◌, ◌*◌, ◌-◌, ◌%◌, eqb}
use Rattle.base_lists.specs.Coefficients.{trim}
use Rattle.math_ring.specs.Ring.{Ops}
use Rattle.math_triple.specs.Tri.{Tri}

module _ (p : ℕ) where
  abbrev pub plus : List ℕ → List ℕ → List ℕ
  plus [] y = y
  plus (a ∷ x) [] = a ∷ x
  plus (a ∷ x) (b ∷ y) = (a + b) % p ∷ plus x y

  abbrev pub scale : ℕ → List ℕ → List ℕ
  scale c [] = []
  scale c (a ∷ x) = (c * a) % p ∷ scale c x

  abbrev pub times : List ℕ → List ℕ → List ℕ
  times [] y = []
  times (a ∷ x) y = plus (scale a y) (0 ∷ times x y)

  abbrev pub minus : List ℕ → List ℕ
  minus [] = []
  minus (a ∷ x) = (p - a % p) % p ∷ minus x

  abbrev pub slope : List ℕ → List ℕ
  slope [] = []
  slope (a ∷ x) = plus x (0 ∷ slope x)

  abbrev pub lists : Ops (List ℕ)
  lists = record { add = plus; mul = λ x y. times (trim x) (trim y); neg = minus; 𝟎 = []; 𝟏 = 1 ∷ [] }

  abbrev pub nought : List ℕ → Bool
  nought [] = true
  nought (a ∷ x) = eqb (a % p) 0 && nought x

  abbrev pub alike : List ℕ → List ℕ → Bool
  alike x y = nought (plus x (minus y))

  abbrev pub alike_t : Tri (List ℕ) → Tri (List ℕ) → Bool
  alike_t x y = alike x.a y.a && (alike x.b y.b && alike x.c y.c)

abbrev pub ends : List ℕ → ℕ → Bool
ends [] n = true
ends (a ∷ x) zero = eqb a 0 && ends x zero
ends (a ∷ x) (suc n) = ends x n
