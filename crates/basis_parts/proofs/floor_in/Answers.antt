-- `basis_parts::floor_in` meets its contract: a row swept from the front, zeros at first.
use native.Mathlib.Omega.{arith}
use Rattle.math_rows.proofs.Tab.{zeros_at}
use Rattle.poly_rows.proofs.Leaf.{zeros_row}
use Rattle.basis_parts.proofs.Laid.{swept_start, swept_laid}
use Rattle.basis_parts.proofs.Leaves.{parted}
use Rattle.basis_parts.proofs.floor_in.Goals as goal

pub loop-j-init : goal.loop-j-init
loop-j-init c = swept_start (zeros_row c.args.f.now.m.p c.requires.fine.modulus.big)

pub returns : goal.returns
returns c = parted c.requires (swept_laid c.loop-j.invariant (omega arith)
    (record { is_row = zeros_row c.args.f.now.m.p c.requires.fine.modulus.big; above = λ i u. zeros_at 32 i })) (omega arith)
