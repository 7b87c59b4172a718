-- `carry` meets its contract: proofs/Carrying.antt.
use Rattle.pair_carry.proofs.Carrying.{lead, multiply_asks, carried_made}
use Rattle.pair_carry.proofs.carry.Goals as goal

pub factors-f-requires : goal.factors-f-requires
factors-f-requires c = let k = c.requires.modulus in
    search (k, lead c.args.p k c.requires.first.list_g, lead c.args.p k c.requires.first.list_h, lead c.args.p k c.requires.second.list_g, lead c.args.p k c.requires.second.list_h)

pub multiplied-requires : goal.multiplied-requires
multiplied-requires c = multiply_asks c.args.p c.args.g.now c.args.h.now c.args.g2.now c.args.h2.now c.args.c c.args.rows.now c.requires _ _
    c.factors-f.ensures.x_below c.factors-f.ensures.y_below

pub returns : goal.returns
returns c = carried_made c.args.p c.args.g.now c.args.h.now c.args.g2.now c.args.h2.now c.args.c c.args.rows.now c.requires _ _
    c.factors-f.ensures _ c.multiplied.ensures
