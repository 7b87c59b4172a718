-- The tests of walks and units. A walk is written as the bases that it passes after its start b, the last one first.
--   at b cs           where the walk stands
--   degree_l, total    deg m; the sum of the degrees of the m passed
--   walks             every step is one, to a good basis (proofs/Chains: `chain_of`)
--   unclosed          no U so far is 1 (`open_of`, `closing_of`)
--   tops_l, bottoms_l   the products of the M and of the U passed
--   is_scaled          E is scaled by a convention
--   is_unit            E is the product of the m passed, scaled by a convention, and F its inverse (`unit_of`)
use Rattle.std.specs.Prelude.{Bool, true, ◌&&◌, List, [], ◌∷◌, ℕ, suc, ◌+◌, ◌-◌, eqb, ltb, get_or}
use Rattle.math_triple.specs.Tri.{Tri, norm_t}
use Rattle.math_chain.specs.Convention.{Convention, e0_monic, norm_one}
use Rattle.examples_lists.specs.Lists.{lists, alike, alike_t, ends}
use Rattle.examples_lists.specs.Quotients.{inverse}
use Rattle.examples_tests.specs.Rows.{Rows}
use Rattle.examples_tests.specs.Tests.{every, last, has_top, pure, by, good, goes}

abbrev pub at : Rows → List Rows → Rows
at b [] = b
at b (c ∷ cs) = c

abbrev pub degree_l : Rows → ℕ
degree_l b = last b.M.a - last b.U

abbrev pub total : Rows → List Rows → ℕ
total b [] = 0
total b (c ∷ cs) = total b cs + degree_l (at b cs)

module _ (p : ℕ) where
  abbrev pub unclosed : List Rows → Bool
  unclosed [] = true
  unclosed (c ∷ cs) = unclosed cs && (ltb 0 (last c.U) && has_top p c.U)

  module _ (G H : List ℕ) where
    abbrev pub step : List ℕ → List ℕ → Rows → Rows → List Bool
    step r w b c = every (good p G H r w c) ∷ every (goes p G H b c) ∷ has_top p b.M.a ∷ has_top p b.U ∷ []

    abbrev pub walks : List ℕ → List ℕ → Rows → List Rows → Bool
    walks r w b [] = true
    walks r w b (c ∷ cs) = walks r w b cs && every (step r w (at b cs) c)

    abbrev pub tops_l : Rows → List Rows → Tri (List ℕ)
    tops_l b [] = pure p (1 ∷ [])
    tops_l b (c ∷ cs) = by p G H (tops_l b cs) (at b cs).M

    abbrev pub bottoms_l : Rows → List Rows → List ℕ
    bottoms_l b [] = 1 ∷ []
    bottoms_l b (c ∷ cs) = (lists p).mul (bottoms_l b cs) (at b cs).U

    abbrev pub is_scaled : Convention → Tri (List ℕ) → Bool
    is_scaled e0_monic E = ends E.a (suc (last E.a)) && eqb (get_or E.a (last E.a) 0) 1
    is_scaled norm_one E = alike p (norm_t (lists p) G H E) (1 ∷ [])

    -- the constant that takes the leading coefficient of one element's E0 to that of another's
    abbrev pub ratio : Tri (List ℕ) → Tri (List ℕ) → List ℕ
    ratio x y = (lists p).mul (inverse p (get_or x.a (last x.a) 0) ∷ []) (get_or y.a (last y.a) 0 ∷ [])

    -- s is the constant by which the product is multiplied, and i its inverse
    abbrev pub is_unit_by : Convention → Tri (List ℕ) → List ℕ → List ℕ → List ℕ → Tri (List ℕ) → Tri (List ℕ) → List Bool
    is_unit_by k top bottom s i E F =
        alike p ((lists p).mul s i) (1 ∷ [])
        ∷ alike_t p (by p G H (pure p bottom) E) (by p G H (pure p s) top)
        ∷ is_scaled k E
        ∷ alike_t p (by p G H E F) (pure p (1 ∷ [])) ∷ []

    abbrev pub is_unit : Convention → Rows → List Rows → Tri (List ℕ) → Tri (List ℕ) → List Bool
    is_unit k b cs E F = is_unit_by k (tops_l b cs) (bottoms_l b cs) (ratio (tops_l b cs) E) (ratio E (tops_l b cs)) E F
