-- `poly_mix::sum_at` meets its contract: proofs/Sums.antt.
use native.Mathlib.Omega.{arith}
use Prim.Native.Nat.{◌-◌}
use mathlib.Core.Logic.{inl, inr}
use Rattle.poly_mix.proofs.Sums.{summing_start, summing_more, summing_end}
use Rattle.poly_mix.proofs.sum_at.Goals as goal
use Rattle.poly_mix.proofs.sum_at.Goals.{then-k-y, then-k-n, else-k-y, else-k-n}

pub loop-i-init : goal.loop-i-init
loop-i-init c = summing_start c.args.x.now c.args.n c.args.y.now c.args.k c.if-k-y.from c.if-k-n.to
    (elim c.if-k-y.branch [ then-k-y w ↦ inl (omega arith) | else-k-y w ↦ inr (omega arith) ])
    (elim c.if-k-y.branch [ then-k-y w ↦ omega arith | else-k-y w ↦ omega arith ])
    (elim c.if-k-n.branch [ then-k-n w ↦ omega arith | else-k-n w ↦ omega arith ])
    (elim c.if-k-n.branch [ then-k-n w ↦ omega arith | else-k-n w ↦ omega arith ])
    (elim c.if-k-n.branch [ then-k-n w ↦ inr (omega arith) | else-k-n w ↦ inl (omega arith) ])

pub loop-i-preserved : goal.loop-i-preserved
loop-i-preserved c = let l = c.loop-i in
    summing_more c.args.x.now c.args.n c.args.y.now c.args.k c.if-k-y.from c.if-k-n.to l.s l.i _ _ l.invariant c.loop-i-test.true
    c.from.ensures c.from-in-loop-i.ensures (omega (arith, c.type_inv.x l.i, c.from.ensures)) (omega (arith, c.type_inv.y (c.args.k - l.i), c.from-in-loop-i.ensures))

pub returns : goal.returns
returns c = summing_end c.args.x.now c.args.n c.args.y.now c.args.k c.if-k-y.from c.if-k-n.to
    c.loop-i.invariant.skip _ _ c.loop-i.invariant (omega arith)
