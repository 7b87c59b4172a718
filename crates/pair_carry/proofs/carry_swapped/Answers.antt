-- `carry_swapped` meets its contract: proofs/Carrying.antt.
use mathlib.Core.Path.{◌∙◌}
use Rattle.pair_carry.proofs.Carrying.{swapped_asks, swapped_made}
use Rattle.pair_carry.proofs.carry_swapped.Goals as goal

pub carry-requires : goal.carry-requires
carry-requires c = swapped_asks c.args.p c.args.g.now c.args.h.now c.args.g2.now c.args.h2.now c.args.c c.args.rows.now c.requires _
    (c.exchange-2.ensures.size ∙ c.exchange.ensures.size)

pub returns : goal.returns
returns c = swapped_made c.args.p c.args.g.now c.args.h.now c.args.g2.now c.args.h2.now c.args.c c.args.rows.now c.requires _ _
    c.exchange.ensures c.exchange-2.ensures _ c.carry.ensures
