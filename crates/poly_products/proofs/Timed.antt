-- x y from what `mix` hands out.
use mathlib.Core.List.{List, [], ◌∷◌}
use Prim.Native.Nat.{ℕ}
use Rattle.math_rows.specs.Made.{reading}
use Rattle.poly_long.proofs.Low.{times_law}
use Rattle.poly_mix.specs.Mixing.{Mixed}
use Rattle.poly_products.specs.Products.{TimesAsks, Times}

pub timed : (p : ℕ) (x y d r : List ℕ) → TimesAsks p x y d → Mixed p x y (0 ∷ []) (0 ∷ []) d r → Times p x y d r
timed p x y d r t m = record { size = m.size; each = m.each; law = λ pr. times_law (reading p pr) x y t.room (m.law pr) }
