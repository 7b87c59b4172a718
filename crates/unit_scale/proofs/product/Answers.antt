-- `unit_scale::product` meets its contract.
use Prim.Native.Nat.{◌*◌, ◌%◌}
use mathlib.Core.Path.{◌∙◌, ap}
use Rattle.unit_scale.proofs.Numbers.{two, below}
use Rattle.unit_scale.proofs.product.Goals as goal

pub mul-requires : goal.mul-requires
mul-requires c = two c.requires.modulus c.requires.a_below c.requires.b_below

pub mul-requires-2 : goal.mul-requires-2
mul-requires-2 c = two c.requires.modulus (below c.requires.modulus _ c.mul.ensures) c.requires.c_below

pub returns : goal.returns
returns c = c.mul-2.ensures ∙ ap (λ x. (x * c.args.c) % c.args.p) c.mul.ensures
