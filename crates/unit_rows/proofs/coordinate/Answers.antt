-- `unit_rows::coordinate` meets its contract: proofs/Rows.antt.
use Prim.Native.Nat.{◌-◌, ◌+◌}
use native.Mathlib.Omega.{arith}
use Rattle.unit_rows.proofs.Rows.{coordinate_asks, coordinate_made}
use Rattle.unit_rows.proofs.coordinate.Goals as goal

pub quotient-requires : goal.quotient-requires
quotient-requires c = coordinate_asks c.args.p c.args.c c.args.n c.args.a.now c.args.b.now c.args.d.now c.args.u.now c.args.e.now c.args.at c.args.s.now _ _ _ _ c.requires
    c.size.ensures c.size-2.ensures c.size-3.ensures c.size-4.ensures

pub returns : goal.returns
returns c = coordinate_made c.args.p c.args.c c.args.n c.args.a.now c.args.b.now c.args.d.now c.args.u.now c.args.e.now c.args.at c.args.s.now _ _ _ _ c.requires
    c.size.ensures c.size-2.ensures c.size-3.ensures c.size-4.ensures _ c.quotient.ensures (c.args.at + c.args.n - c.args.at) (omega arith)
