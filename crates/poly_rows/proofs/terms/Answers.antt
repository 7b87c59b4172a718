-- `poly_rows::terms` meets its contract: below 2^28 each product is at most 2^56.
use Prim.Native.Nat.{◌≤◌, ◌-◌, ◌*◌}
use native.Mathlib.Omega.{arith}
use lib.ListN.{get_or}
use Rattle.math_rows.specs.Sum.{term_at}
use Rattle.poly_rows.proofs.Coefficients.{plain_term, plain_more, term_is}
use Rattle.poly_rows.proofs.terms.Goals as goal

pub loop-i-preserved : goal.loop-i-preserved
loop-i-preserved c = let l = c.loop-i in
    let a = c.args in
    let v = get_or a.x.now l.i 0 * get_or a.y.now (a.k - l.i) 0 in
    let m : v ≤ 72057594037927936 = plain_term c.requires c.if-p-lt268435456.true l.i in record {
      low = omega arith;
      law = plain_more (term_at a.x.now a.y.now a.k) a.from l.i l.s v l.invariant.law (term_is a.x.now a.y.now a.k l.i (omega arith));
    }
