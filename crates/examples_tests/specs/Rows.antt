-- A basis written by hand.
--   Rows         m and n, each by its three polynomials, and U
--   stored b     the record of the basis (document 01: "seven rows of 17 coefficients each, 119 numbers in all, zeros above the degree")
use Rattle.std.specs.Prelude.{List, ◌++◌, ℕ, take, replicate}
use Rattle.math_triple.specs.Tri.{Tri}

pub record Rows : Type 0 where
  pub M : Tri (List ℕ)
  pub N : Tri (List ℕ)
  pub U : List ℕ

abbrev pub seventeen : List ℕ → List ℕ
seventeen l = take 17 (l ++ replicate 17 0)

abbrev pub stored : Rows → List ℕ
stored b =
    seventeen b.M.a ++ (seventeen b.M.b ++ (seventeen b.M.c ++ (seventeen b.N.a ++ (seventeen b.N.b ++ (seventeen b.N.c ++ seventeen b.U)))))
