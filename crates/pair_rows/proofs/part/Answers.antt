-- `part` meets its contract: proofs/Multiplying.antt.
use Prim.Native.Nat.{◌+◌, ◌-◌}
use native.Mathlib.Omega.{arith}
use Rattle.pair_rows.proofs.Multiplying.{part_made}
use Rattle.pair_rows.proofs.part.Goals as goal

pub returns : goal.returns
returns c = part_made c.args.p c.args.k c.args.at c.args.c c.args.rows.now c.requires _ (c.args.at + c.args.c - c.args.at) (omega arith) c.scale.ensures
