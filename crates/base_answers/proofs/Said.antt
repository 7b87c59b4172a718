-- What an answer says, taken out of an equation of two.
--   number_of, result_of   equal answers have one number and one result
use mathlib.Core.Path.{◌≡◌, ap}
use Rattle.base_answers.specs.Said.{Said}

pub number_of : {x y : Said} → x ≡ y → x.number ≡ y.number
number_of = ap (λ (z : Said). z.number)

pub result_of : {x y : Said} → x ≡ y → x.result ≡ y.result
result_of = ap (λ (z : Said). z.result)
