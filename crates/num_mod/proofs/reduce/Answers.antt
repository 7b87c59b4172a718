-- `num_mod::reduce` meets its contract.
use Rattle.num_mod.proofs.reduce.Goals as goal

pub remainder-requires : goal.remainder-requires
remainder-requires c = c.requires.quick c.args.x c.if-x-lim.true
