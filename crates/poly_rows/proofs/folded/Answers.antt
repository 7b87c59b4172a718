-- `poly_rows::folded` meets its contract: each turn is `part_more`.
use Prim.Native.Nat.{◌-◌, ◌*◌}
use native.Mathlib.Omega.{arith}
use lib.ListN.{get_or}
use Rattle.math_rows.specs.Sum.{term_at}
use Rattle.poly_rows.proofs.Coefficients.{part_more, term_is}
use Rattle.poly_rows.proofs.folded.Goals as goal

pub loop-i-preserved : goal.loop-i-preserved
loop-i-preserved c = let s = c.args in
    let l = c.loop-i in record {
      low = c.add_product-s.ensures.low;
      law = part_more s.p (term_at s.x.now s.y.now s.k) s.from l.i l.s (get_or s.x.now l.i 0 * get_or s.y.now (s.k - l.i) 0) _ l.invariant.law
          c.add_product-s.ensures.law (term_is s.x.now s.y.now s.k l.i (omega (arith, c.requires.inside)));
    }
