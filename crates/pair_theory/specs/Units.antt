-- How the unit of the one pair becomes the unit of the other (request E3: "E1 and E2 change places on a swap and take constant factors, E0
-- stays").
--   UnitCarries E F E' F'   E and F go to E' and F': A, xB, yC for the same order of the pairs, A, xC, yB for the other
-- `unit_carries` in proofs/Units.antt: so do the unit and its inverse.
use Rattle.std.specs.Prelude.{◌≡◌, ◌⊎◌}
use Rattle.math_valued.specs.Val.{Valued}
use Rattle.math_ideals.specs.Setting.{Roots}
use Rattle.math_carry.specs.Carries.{El, stretch, exchange, Factors, Same, Other}

pub record UnitCarries (𝓥 : Valued) (s s' : Roots 𝓥) (E F E' F' : El 𝓥) : Type 0 where
  pub factors : Factors 𝓥
  pub rows : let x = factors.x in let y = factors.y in
      (Same 𝓥 s s' factors × (E' ≡ stretch 𝓥 x y E) × (F' ≡ stretch 𝓥 x y F)) ⊎
      (Other 𝓥 s s' factors × (E' ≡ exchange 𝓥 x y E) × (F' ≡ exchange 𝓥 x y F))
