-- `poly_sums::signed` meets its contract.
use mathlib.Core.Path.{◌≡◌, ap, sym, ◌∙◌, subst}
use Prim.Native.Nat.{◌-◌, ◌%◌, ◌<◌}
use native.Mathlib.Nat.{mod-lt}
use native.Mathlib.Omega.{arith}
use Rattle.math_rows.specs.Made.{reading}
use Rattle.math_rows.proofs.Rows.{cast_sub}
use Rattle.poly_sums.specs.Sums.{Signed}
use Rattle.poly_sums.proofs.signed.Goals as goal

pub returns-then-minus : goal.returns-then-minus
returns-then-minus c = let a = c.args in
    let b : a.v < a.p = c.requires.below in
    let e : c.reduce_once.result ≡ (a.p - a.v) % a.p = c.reduce_once.ensures in
    let l : (a.p - a.v) % a.p < a.p = mod-lt _ (omega arith) in
    subst (λ s. Signed a.p s a.v c.reduce_once.result) (sym c.if-minus.true)
    (record { below = omega arith; law = λ pr. let ρ = reading a.p pr in ap ρ.cast e ∙ ρ.cast_mod (a.p - a.v) ∙ cast_sub ρ a.v (omega arith) })
