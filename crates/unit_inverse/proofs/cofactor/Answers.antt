-- `unit_inverse::cofactor` meets its contract: proofs/Cofactors.antt.
use Prim.Native.Nat.{◌-◌, ◌+◌}
use native.Mathlib.Omega.{arith}
use Rattle.unit_inverse.proofs.Cofactors.{cofactor_asks, cofactor_made}
use Rattle.unit_inverse.proofs.cofactor.Goals as goal

pub pair-requires : goal.pair-requires
pair-requires c = c.requires.pair

pub mix-requires : goal.mix-requires
mix-requires c = cofactor_asks c.args.p c.args.c c.args.k c.args.x c.args.y c.args.v c.args.w c.args.g.now c.args.f.now c.args.at
    c.args.rows.now c.args.s.now _ c.requires c.pair.ensures

pub returns : goal.returns
returns c = cofactor_made c.args.p c.args.c c.args.k c.args.x c.args.y c.args.v c.args.w c.args.g.now c.args.f.now c.args.at
    c.args.rows.now c.args.s.now _ c.requires c.pair.ensures _ (c.args.at + c.args.k - c.args.at) (omega arith) c.mix.ensures
