-- `started` meets its contract.
use Prim.Native.Nat.{◌-◌}
use mathlib.Core.Path.{◌∙◌, ap}
use lib.ListN.{length, length-replicate}
use lib.ListN.{set}
use Rattle.unit_make.proofs.started.Goals as goal

pub shape_of-s : goal.shape_of-s
shape_of-s c = ap length c.clear-2.ensures ∙ length-replicate (length c.args.s.now) 0

pub returns : goal.returns
returns c = record { one = ap (λ l. set l 0 1) c.clear.ensures; blank = c.clear-2.ensures }
