-- `poly_euclid::euclid` meets its contract: each turn is `euclid_turn`, of the exchanged rows where the second is longer.
use Prim.Native.Nat.{◌<◌}
use native.Mathlib.Omega.{arith}
use Rattle.poly_euclid.proofs.Turns.{euclid_start, euclid_swap, euclid_asks, euclid_turn, found_first, found_second}
use Rattle.poly_euclid.proofs.euclid.Goals as goal

pub size-n-requires : goal.size-n-requires
size-n-requires c = c.requires.hx.size

pub size-m-requires : goal.size-m-requires
size-m-requires c = c.requires.hy.size

pub loop-m-init : goal.loop-m-init
loop-m-init c = euclid_start c.requires c.size-n.ensures c.size-m.ensures

pub returns-then-n-eq0 : goal.returns-then-n-eq0
returns-then-n-eq0 c = found_second c.loop-m.invariant (omega arith)

pub lowered-m-requires : goal.lowered-m-requires
lowered-m-requires c = euclid_asks (euclid_swap c.loop-m.invariant) c.requires.modulus c.requires.prime (omega arith) (omega arith)

pub loop-m-smaller-then-n-m : goal.loop-m-smaller-then-n-m
loop-m-smaller-then-n-m c = let h : c.lowered-m.result < c.loop-m.m = c.lowered-m.ensures.less in omega arith

pub loop-m-preserved-then-n-m : goal.loop-m-preserved-then-n-m
loop-m-preserved-then-n-m c = euclid_swap (euclid_turn (euclid_swap c.loop-m.invariant) (omega arith) c.lowered-m.ensures)

pub lowered-n-requires : goal.lowered-n-requires
lowered-n-requires c = euclid_asks c.loop-m.invariant c.requires.modulus c.requires.prime (omega arith) (omega arith)

pub loop-m-smaller : goal.loop-m-smaller
loop-m-smaller c = let h : c.lowered-n.result < c.loop-m.n = c.lowered-n.ensures.less in omega arith

pub loop-m-preserved : goal.loop-m-preserved
loop-m-preserved c = euclid_turn c.loop-m.invariant (omega arith) c.lowered-n.ensures

pub returns : goal.returns
returns c = found_first c.loop-m.invariant (omega arith)
