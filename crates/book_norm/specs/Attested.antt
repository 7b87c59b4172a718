-- What attesting an entry says of its body.
--   Attested b   the norm of the body's E is a non-zero constant
use Rattle.math_fp.specs.Fp.{Prime}
use Rattle.math_rows.specs.Made.{reading}
use Rattle.book_body.specs.Body.{Body}
use Rattle.unit_norm.specs.Norm.{NonZeroConstant, norm}

abbrev pub Attested : Body → Type 0
Attested b = (pr : Prime b.p) → NonZeroConstant (reading b.p pr) (norm b.p pr b.G b.H b.E0 b.E1 b.E2)
