-- Opening a field: the table of refusals 1 to 8.
--   Degree p l d      l is a list of coefficients of a polynomial of degree d: lowest first, at most 13, each below p, the last not 0
--   Fault1 p          p < 5, p > 65,535 or p not prime
--   Fault2 p          p mod 3 = 1
--   Fault3 p l        l is no list of coefficients: it is empty, over 13 long, has a coefficient ≥ p, or its last one is 0
--   Fault4 p G H      G and H are both constant
--   Fault5 p G H      deg G + deg H > 16
--   Fault6 p G H      deg G − deg H is not a multiple of 3
--   Fault7 p G H      some non-constant d has d² | G or d² | H
--   Fault8 p G H      some non-constant d divides both
--   Refusal p G H n   n is the number of the first fault of p, G, H; 0 where there is none
--   Accepted p G H    p, G, H are a field that we sell
-- `polynomial` of a list is that of crate poly_rows.
-- In proofs/: Stages (`refusal_unique`, one number for each p, G, H), Accept (`accepted`, `accepted_none`: the number is 0 exactly for the accepted).
use Rattle.std.specs.Prelude.{◌≡◌, ◌≢◌, ◌⊎◌, List, ℕ, ◌+◌, ◌%◌, ◌<◌, ◌≤◌}
use Rattle.base_answers.specs.Stage.{Stage, End}
use Rattle.base_lists.specs.Coefficients.{Coefficients}
use Rattle.math_fp.specs.Fp.{Prime}
use Rattle.math_valued.specs.Polynomial.{Squarefree, Coprime}
use Rattle.math_valued.specs.Factor.{SquareFactor, CommonFactor}
use Rattle.math_rows.specs.Made.{reading}
pub use Rattle.poly_rows.specs.Polynomial.{polynomial}
use Rattle.num_prime.specs.Table.{largest}

-- the most coefficients of G and of H, and the most that deg G + deg H may be
abbrev pub longest : ℕ
longest = 13

abbrev pub highest : ℕ
highest = 16

abbrev pub Degree : ℕ → List ℕ → ℕ → Type 0
Degree = Coefficients longest

abbrev pub Fault1 : ℕ → Type 0
Fault1 p = (p < 5) ⊎ ((largest < p) ⊎ (Prime p → ⊥))

abbrev pub Fault2 : ℕ → Type 0
Fault2 p = p % 3 ≡ 1

abbrev pub Fault3 : ℕ → List ℕ → Type 0
Fault3 p l = (d : ℕ) → Degree p l d → ⊥

module _ (p : ℕ) (G H : List ℕ) where
  abbrev pub Fault4 : Type 0
  Fault4 = Degree p G 0 × Degree p H 0

  abbrev pub Fault5 : Type 0
  Fault5 = (d e : ℕ) × Degree p G d × Degree p H e × (highest < d + e)

  abbrev pub Fault6 : Type 0
  Fault6 = (d e : ℕ) × Degree p G d × Degree p H e × (d % 3 ≢ e % 3)

  abbrev pub Fault7 : Type 0
  Fault7 = (pr : Prime p) × (SquareFactor (reading p pr).𝓥 (polynomial p pr G) ⊎ SquareFactor (reading p pr).𝓥 (polynomial p pr H))

  abbrev pub Fault8 : Type 0
  Fault8 = (pr : Prime p) × CommonFactor (reading p pr).𝓥 (polynomial p pr G) (polynomial p pr H)

-- The table, row by row (`Stage` of crate base_answers).
abbrev pub Rows12 : ℕ → (ℕ → Type 0) → ℕ → Type 0
Rows12 p below = Stage 1 (Fault1 p) (Stage 2 (Fault2 p) below)

abbrev pub Rows36 : ℕ → List ℕ → List ℕ → (ℕ → Type 0) → ℕ → Type 0
Rows36 p G H below =
    Stage 3 (Fault3 p G) (Stage 3 (Fault3 p H) (Stage 4 (Fault4 p G H) (Stage 5 (Fault5 p G H) (Stage 6 (Fault6 p G H) below))))

abbrev pub Rows78 : ℕ → List ℕ → List ℕ → ℕ → Type 0
Rows78 p G H = Stage 7 (Fault7 p G H) (Stage 8 (Fault8 p G H) End)

unfoldable pub Refusal : ℕ → List ℕ → List ℕ → ℕ → Type 0
Refusal p G H = Rows12 p (Rows36 p G H (Rows78 p G H))

pub record Accepted (p : ℕ) (G H : List ℕ) : Type 0 where
  pub prime : Prime p
  pub low : 5 ≤ p
  pub high : p ≤ largest
  pub kind : p % 3 ≡ 2
  pub deg_g : ℕ
  pub deg_h : ℕ
  pub list_g : Degree p G deg_g
  pub list_h : Degree p H deg_h
  pub some : 0 < deg_g + deg_h
  pub sum : deg_g + deg_h ≤ highest
  pub thirds : deg_g % 3 ≡ deg_h % 3
  pub free_g : (pr : Prime p) → Squarefree (reading p pr).𝓥 (polynomial p pr G)
  pub free_h : (pr : Prime p) → Squarefree (reading p pr).𝓥 (polynomial p pr H)
  pub apart : (pr : Prime p) → Coprime (reading p pr).𝓥 (polynomial p pr G) (polynomial p pr H)
