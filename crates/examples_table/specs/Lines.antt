-- A line of the table of worked examples: which function, which input, which answer.
--   Input            p, G and H
--   element A B C    A + B r + C w
--   Lists            the lists that a refusal is spoken of: whatever G and H, or an empty G with whatever H
--   six_rows c E F    E0, E1, E2, F0, F1, F2, each c coefficients with zeros above
--   Line             a line
--   labels           the numbers that stand before the lines, each once where lines in a row share it
-- A polynomial is a list of coefficients, lowest first. What a line says is `Holds` of crate examples; `Rows` and `stored` (crate
-- examples_tests) write a basis and its record of 119 numbers.
use Rattle.std.specs.Prelude.{Bool, true, false, List, [], ◌∷◌, ◌++◌, ℕ, eqb, take, replicate}
use Rattle.math_triple.specs.Tri.{Tri}
use Rattle.math_chain.specs.Convention.{Convention}
use Rattle.examples_tests.specs.Rows.{Rows}

pub record Input : Type 0 where
  pub p : ℕ
  pub G : List ℕ
  pub H : List ℕ

abbrev pub element : List ℕ → List ℕ → List ℕ → Tri (List ℕ)
element A B C = record { a = A; b = B; c = C }

pub data Lists : Type 0 where
  whatever : Lists
  empty_G : Lists

abbrev pub wide : ℕ → List ℕ → List ℕ
wide c l = take c (l ++ replicate c 0)

abbrev pub six_rows : ℕ → Tri (List ℕ) → Tri (List ℕ) → List ℕ
six_rows c E F = wide c E.a ++ (wide c E.b ++ (wide c E.c ++ (wide c F.a ++ (wide c F.b ++ wide c F.c))))

pub data Line : Type 0 where
  -- opening p with these lists is refused with this number
  refuses : (p : ℕ) (lists : Lists) (number : ℕ) → Line
  -- the first coefficients of r and of w
  series : (k : Input) (r w : List ℕ) → Line
  -- the basis of O
  order : (k : Input) (basis : Rows) → Line
  -- the step from a basis: the degree of m, and the next basis
  steps : (k : Input) (from : Rows) (degree : ℕ) (basis : Rows) → Line
  -- a walk within a budget closes: the steps, the sum of the degrees, the last basis
  closes : (k : Input) (budget : ℕ) (from : Rows) (steps sum : ℕ) (basis : Rows) → Line
  -- it does not, and is refused 10: the sum and the basis reached
  spends : (k : Input) (budget : ℕ) (from : Rows) (sum : ℕ) (basis : Rows) → Line
  -- the walk from O within a budget: period and regulator
  period : (k : Input) (budget period regulator : ℕ) → Line
  -- it does not close: refused 10
  no_period : (k : Input) (budget : ℕ) → Line
  -- the unit scaled by a convention, in rows of c coefficients: period, regulator, the unit and its inverse
  unit : (by : Convention) (k : Input) (c period regulator : ℕ) (E F : Tri (List ℕ)) → Line
  -- the norm of the unit with E0 monic
  unit_norm : (k : Input) (c period : ℕ) (N : List ℕ) → Line
  -- c is too little room: refused 11
  narrow : (k : Input) (c period : ℕ) → Line
  -- the empty book of 6 bytes passes; so many bytes are refused 13 for their mark
  begun_book : Line
  no_book : (bytes : ℕ) → Line

abbrev pub starts : ℕ → List ℕ → Bool
starts n [] = false
starts n (m ∷ ms) = eqb n m

-- n before the numbers, unless they begin with it
abbrev pub before : ℕ → List ℕ → List ℕ
before n ms = elim (starts n ms) [ true ↦ ms | false ↦ n ∷ ms ]

abbrev pub labels : List (ℕ × Line) → List ℕ
labels [] = []
labels ((n, l) ∷ ls) = before n (labels ls)
