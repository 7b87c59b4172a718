-- `unit_rows::multiply_by_m` meets its contract: proofs/InPlace.antt.
use Prim.Native.Nat.{◌-◌, ◌+◌}
use native.Mathlib.Omega.{arith}
use Rattle.unit_rows.proofs.InPlace.{turn_asks, turn_made}
use Rattle.unit_rows.proofs.multiply_by_m.Goals as goal

pub times-requires : goal.times-requires
times-requires c = c.requires.times

pub copy-requires : goal.copy-requires
copy-requires c = turn_asks c.args.p c.args.c c.args.n c.args.g.now c.args.h.now c.args.gh.now c.args.b.now c.args.rows.now c.args.s.now _ c.requires c.times.ensures

pub returns : goal.returns
returns c = turn_made c.args.p c.args.c c.args.n c.args.g.now c.args.h.now c.args.gh.now c.args.b.now c.args.rows.now c.args.s.now _
    c.requires c.times.ensures _ _ (c.args.c + c.args.c + c.args.c - 0) (omega arith) c.copy.ensures c.clear.ensures
