-- `multiplied` meets its contract: proofs/Multiplying.antt.
use Rattle.pair_rows.proofs.Multiplying.{multiplied_made}
use Rattle.pair_rows.proofs.multiplied.Goals as goal

pub returns : goal.returns
returns c = multiplied_made c.args.p c.args.x c.args.y c.args.c c.args.rows.now _ _ _ _ c.part.ensures c.part-2.ensures
    c.part-3.ensures c.part-4.ensures
