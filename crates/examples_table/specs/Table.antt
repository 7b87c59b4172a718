-- P1 to P12 of document 01 ("Worked by hand, p = 5"), each line with its number, and the example of a request.
--   table       P1 to P12
--   requested   the example of request E6
-- In proofs/Table.antt: `table_passes`, `requested_passes`, every line passes its test, so that it holds (`table_holds`, `requested_holds`, crate
-- examples); `table_whole`, the numbers of the table's lines are 1 to 12, in order, none left out and no other.
-- A polynomial is written by t, its powers, sums and multiples, mod 5.
use Rattle.std.specs.Prelude.{List, [], ◌∷◌, ℕ}
use Rattle.math_triple.specs.Tri.{Tri}
use Rattle.math_chain.specs.Convention.{e0_monic, norm_one}
use Rattle.examples_lists.specs.Lists.{plus, scale}
use Rattle.examples_tests.specs.Rows.{Rows}
use Rattle.examples_table.specs.Lines.{Input, element, whatever, empty_G, Line, refuses, series, order, steps, closes, spends, period, no_period, unit, unit_norm, narrow, begun_book, no_book}

abbrev pub num : ℕ → List ℕ
num a = a ∷ []

abbrev pub t : List ℕ
t = 0 ∷ 1 ∷ []

abbrev pub t² : List ℕ
t² = 0 ∷ 0 ∷ 1 ∷ []

abbrev pub t³ : List ℕ
t³ = 0 ∷ 0 ∷ 0 ∷ 1 ∷ []

abbrev pub t⁴ : List ℕ
t⁴ = 0 ∷ 0 ∷ 0 ∷ 0 ∷ 1 ∷ []

infixl 60 ◌⊕◌
infixl 70 ◌·◌
abbrev pub ◌⊕◌ : List ℕ → List ℕ → List ℕ
x ⊕ y = plus 5 x y

abbrev pub ◌·◌ : ℕ → List ℕ → List ℕ
a · x = scale 5 a x

-- "G = t³+4, H = 1"
abbrev pub k₁ : Input
k₁ = record { p = 5; G = t³ ⊕ num 4; H = num 1 }

-- "m = t²+tr+w, n = 3t+r"
abbrev pub b₁ : Rows
b₁ = record { M = element t² t (num 1); N = element (3 · t) (num 1) []; U = num 1 }

-- "G = t, H = t+1"
abbrev pub k₂ : Input
k₂ = record { p = 5; G = t; H = t ⊕ num 1 }

-- "m = (t²+t+4)+(t+2)r+(t+4)w, n = (3t+4)+3r+3w"
abbrev pub b₂ : Rows
b₂ = record { M = element (t² ⊕ t ⊕ num 4) (t ⊕ num 2) (t ⊕ num 4); N = element (3 · t ⊕ num 4) (num 3) (num 3); U = num 1 }

-- "G = t³+t, H = 1"
abbrev pub k₃ : Input
k₃ = record { p = 5; G = t³ ⊕ t; H = num 1 }

-- "m = (t³+4t)+(t²+2)r+tw, n = (2t²+1)+2tr+2w"
abbrev pub b₃ : Rows
b₃ = record { M = element (t³ ⊕ 4 · t) (t² ⊕ num 2) t; N = element (2 · t² ⊕ num 1) (2 · t) (num 2); U = num 1 }

-- "U = t, m = (t²+tr+w)/t, n = (3tr+2w)/t"
abbrev pub b₄ : Rows
b₄ = record { M = element t² t (num 1); N = element [] (3 · t) (num 2); U = t }

-- the unit of k₃ (in the lister's example 4,0,1,0,1;0,4,0,1;2,0,1) and "inverse 4+2tr+3w"
abbrev pub e₃ : Tri (List ℕ)
e₃ = element (t⁴ ⊕ t² ⊕ num 4) (t³ ⊕ 4 · t) (t² ⊕ num 2)

abbrev pub f₃ : Tri (List ℕ)
f₃ = element (num 4) (2 · t) (num 3)

abbrev pub table : List (ℕ × Line)
table =
    -- "basis of O is m = t²+tr+w, n = 3t+r"
    (1, order k₁ b₁)
    -- "inverse of the unit t+4r"; the unit is m
    ∷ (2, unit e0_monic k₁ 3 1 1 b₁.M (element t (num 4) []))
    ∷ (3, order k₂ b₂)
    -- "norm 4, inverse 4+3r+2w"
    ∷ (4, unit_norm k₂ 3 1 (num 4))
    ∷ (4, unit e0_monic k₂ 3 1 1 b₂.M (element (num 4) (num 3) (num 2)))
    -- "r begins 1,0,2,0,1 and w 1,0,4,0,1"
    ∷ (5, series k₃ (1 ∷ 0 ∷ 2 ∷ 0 ∷ 1 ∷ []) (1 ∷ 0 ∷ 4 ∷ 0 ∷ 1 ∷ []))
    ∷ (6, order k₃ b₃)
    -- "after one step U = t, m = (t²+tr+w)/t, n = (3tr+2w)/t"
    ∷ (7, steps k₃ b₃ 3 b₄)
    -- "unit inverse 4+2tr+3w"
    ∷ (8, unit e0_monic k₃ 5 2 2 e₃ f₃)
    -- "B = 1 refused 10 with sum 3; B = 2 closes, sum 4"
    ∷ (9, spends k₃ 1 b₃ 3 b₄)
    ∷ (9, closes k₃ 2 b₃ 2 4 b₃)
    ∷ (9, no_period k₃ 1)
    ∷ (9, period k₃ 2 2 2)
    -- "c = 4 refused 11, c = 5 does"
    ∷ (10, narrow k₃ 4 2)
    ∷ (10, unit e0_monic k₃ 5 2 2 e₃ f₃)
    -- "p = 65,537 and 3 refused 1; p = 7 with empty G refused 2"
    ∷ (11, refuses 65537 whatever 1)
    ∷ (11, refuses 3 whatever 1)
    ∷ (11, refuses 7 empty_G 2)
    -- "a 6-byte empty book passes, 5 bytes are refused 13"
    ∷ (12, begun_book)
    ∷ (12, no_book 5)
    ∷ []

-- E6, "For G = t³+t over 5, convention 2 gives E0 = 4t⁴+4t²+1, E1 = 4t³+t, E2 = 4t²+3"
abbrev pub requested : List (ℕ × Line)
requested = (6, unit norm_one k₃ 5 2 2 (element (4 · t⁴ ⊕ 4 · t² ⊕ num 1) (4 · t³ ⊕ t) (4 · t² ⊕ num 3)) (element (num 1) (3 · t) (num 2))) ∷ []
