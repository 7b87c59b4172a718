-- What `agree` asks; what it decides is `Agree` of crate pair_laws.
--   AgreeAsks p l l'   two lists of coefficients over one prime
use Rattle.std.specs.Prelude.{List, ℕ, ◌<◌}
use Rattle.base_lists.specs.Coefficients.{Coefficients}
use Rattle.math_fp.specs.Fp.{Prime}

pub record AgreeAsks (p : ℕ) (l l' : List ℕ) : Type 0 where
  pub prime : Prime p
  pub small : p < 65536
  pub most : ℕ
  pub d : ℕ
  pub d' : ℕ
  pub list : Coefficients most p l d
  pub list' : Coefficients most p l' d'
