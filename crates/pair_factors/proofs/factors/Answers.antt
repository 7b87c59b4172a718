-- `factors` meets its contract: proofs/Leading.antt.
use native.Mathlib.Omega.{arith}
use Rattle.pair_factors.proofs.Leading.{rest_below, two_asks, root_asks, inverse_asks, lead_times, factors_law}
use Rattle.pair_factors.proofs.factors.Goals as goal

pub mul-a-requires : goal.mul-a-requires
mul-a-requires c = two_asks c.args.p c.requires.modulus (omega arith) (rest_below c.args.p c.requires.modulus _ _ c.mul.ensures)

pub mul-b-requires : goal.mul-b-requires
mul-b-requires c = two_asks c.args.p c.requires.modulus (omega arith) (rest_below c.args.p c.requires.modulus _ _ c.mul-2.ensures)

pub inverse-requires : goal.inverse-requires
inverse-requires c = inverse_asks c.args.p c.requires.modulus (lead_times c.args.p c.requires.modulus _ _ _ c.mul-b.ensures c.requires.g'_lead
    (lead_times c.args.p c.requires.modulus _ _ _ c.mul-2.ensures c.requires.h'_lead c.requires.h'_lead))

pub mul-requires-3 : goal.mul-requires-3
mul-requires-3 c = two_asks c.args.p c.requires.modulus (rest_below c.args.p c.requires.modulus _ _ c.mul-a.ensures) c.inverse.ensures.below

pub cube_root-x-requires : goal.cube_root-x-requires
cube_root-x-requires c = root_asks c.args.p c.requires.modulus (rest_below c.args.p c.requires.modulus _ _ c.mul-3.ensures)

pub mul-requires-5 : goal.mul-requires-5
mul-requires-5 c = two_asks c.args.p c.requires.modulus (rest_below c.args.p c.requires.modulus _ _ c.mul-4.ensures) (omega arith)

pub inverse-requires-2 : goal.inverse-requires-2
inverse-requires-2 c = inverse_asks c.args.p c.requires.modulus c.requires.h_lead

pub mul-y-requires : goal.mul-y-requires
mul-y-requires c = two_asks c.args.p c.requires.modulus (rest_below c.args.p c.requires.modulus _ _ c.mul-5.ensures) c.inverse-2.ensures.below

pub returns : goal.returns
returns c = factors_law c.args.p c.requires.modulus c.args.g c.args.h c.args.g2 c.args.h2 _ _ _ _ _ _ _
    c.mul.ensures c.mul-a.ensures c.mul-2.ensures c.mul-b.ensures
    c.inverse.ensures c.mul-3.ensures c.cube_root-x.ensures _ _ _ _ c.inverse-2.ensures
    c.mul-4.ensures c.mul-5.ensures c.mul-y.ensures
