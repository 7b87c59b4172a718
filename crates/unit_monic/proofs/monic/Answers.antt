-- `unit_monic::monic` meets its contract: proofs/InPlace.antt.
use Prim.Native.Nat.{◌-◌, ◌+◌}
use native.Mathlib.Omega.{arith}
use Rattle.unit_monic.proofs.InPlace.{monic_asks, monic_made}
use Rattle.unit_monic.proofs.monic.Goals as goal

pub inverse-q-requires : goal.inverse-q-requires
inverse-q-requires c = monic_asks c.args.p c.args.c c.args.n c.args.rows.now c.requires _ c.wide.ensures

pub scale-requires : goal.scale-requires
scale-requires c = record { modulus = c.requires.modulus; below = c.inverse-q.ensures.below }

pub returns : goal.returns
returns c = monic_made c.args.p c.args.c c.args.n c.args.rows.now c.requires _ c.wide.ensures _ _ (c.args.c + c.args.c + c.args.c - 0)
    (omega arith) c.inverse-q.ensures c.scale.ensures
