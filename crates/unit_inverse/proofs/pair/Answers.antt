-- `unit_inverse::pair` meets its contract: proofs/Cofactors.antt.
use Prim.Native.Nat.{◌≤◌, ◌-◌, ◌+◌}
use native.Mathlib.Omega.{arith}
use lib.ListN.{length}
use Rattle.unit_inverse.proofs.Cofactors.{pair_asks, pair_size, pair_made}
use Rattle.unit_inverse.proofs.pair.Goals as goal

pub mix-requires : goal.mix-requires
mix-requires c = pair_asks c.args.p c.args.c c.args.k c.args.x c.args.y c.args.v c.args.w c.args.rows.now c.args.s.now c.requires c.args.x
    0 c.args.k _ c.requires.x_room (omega arith) (omega (arith, c.requires.upto)) (omega (arith, c.requires.s_room))

pub mix-requires-2 : goal.mix-requires-2
mix-requires-2 c = let k : c.args.k ≤ c.args.c = c.requires.upto in
    let r : c.args.k + c.args.k ≤ length c.args.s.now = c.requires.s_room in
    pair_asks c.args.p c.args.c c.args.k c.args.x c.args.y c.args.v c.args.w c.args.rows.now c.args.s.now c.requires c.args.v
    c.args.k (c.args.k + c.args.k) _ c.requires.v_room (omega arith) (omega arith)
    (omega (
      arith,
      pair_size c.args.p c.args.c c.args.k c.args.x c.args.y c.args.v c.args.w c.args.rows.now c.args.s.now
          c.requires _ (c.args.k - 0) (omega arith) c.mix.ensures,
    ))

pub shape_of-s : goal.shape_of-s
shape_of-s c = (pair_made c.args.p c.args.c c.args.k c.args.x c.args.y c.args.v c.args.w c.args.rows.now c.args.s.now c.requires _
    (c.args.k - 0) (omega arith) c.mix.ensures _ (c.args.k + c.args.k - c.args.k) (omega arith) c.mix-2.ensures).size

pub returns : goal.returns
returns c = pair_made c.args.p c.args.c c.args.k c.args.x c.args.y c.args.v c.args.w c.args.rows.now c.args.s.now c.requires _
    (c.args.k - 0) (omega arith) c.mix.ensures _ (c.args.k + c.args.k - c.args.k) (omega arith) c.mix-2.ensures
