-- The three numbers: `is_seven`, `is_eight`, `is_none`.
use mathlib.Core.Path.{◌≡◌, refl, sym}
use mathlib.Core.Bool.{Bool, true, false, true≢false}
use Rattle.field_factors.specs.Factors.{factor_number}

pub is_seven : (free apart : Bool) → free ≡ false → 7 ≡ factor_number free apart
is_seven false apart e = refl
is_seven true apart e = absurd (true≢false e)

pub is_eight : (free apart : Bool) → free ≡ true → apart ≡ false → 8 ≡ factor_number free apart
is_eight true false e f = refl
is_eight true true e f = absurd (true≢false f)
is_eight false apart e f = absurd (true≢false (sym e))

pub is_none : (free apart : Bool) → free ≡ true → apart ≡ true → 0 ≡ factor_number free apart
is_none true true e f = refl
is_none true false e f = absurd (true≢false (sym f))
is_none false apart e f = absurd (true≢false (sym e))
