-- `poly_lent::times_in` meets its contract: the lemmas of Mixing.
use Prim.Native.Nat.{◌+◌, ◌≤◌}
use native.Mathlib.Omega.{arith}
use Rattle.poly_lent.proofs.Mixing.{times_first, times_product, times_cut}
use Rattle.poly_lent.proofs.times_in.Goals as goal

pub mix_in-requires : goal.mix_in-requires
mix_in-requires c = times_first c.requires

pub overflow_add-x : goal.overflow_add-x
overflow_add-x c = let f : c.args.x.len + c.args.y.len ≤ 33 = c.requires.fits in record { fits = omega arith }

pub reach-t-requires : goal.reach-t-requires
reach-t-requires c = record { fit_a = c.requires.fits; fit_b = omega arith }

pub size_from-requires : goal.size_from-requires
size_from-requires c = times_cut c.requires c.mix_in.ensures _ c.reach-t.ensures

pub returns : goal.returns
returns c = record { product = times_product c.requires c.mix_in.ensures; size = c.size_from.ensures }
