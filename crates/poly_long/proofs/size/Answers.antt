-- `poly_long::size` meets its contract: after the last number that is not 0 there are zeros.
use Rattle.std.proofs.Common.{rules}
use Rattle.base_lists.proofs.Trims.{last_here, all_zeros}
use Rattle.poly_long.proofs.size.Goals as goal

pub returns-in-Some : goal.returns-in-Some
returns-in-Some c = last_here c.args.x.now c.in-Some.last (search rules) (search rules) (search rules)

pub returns-in-None : goal.returns-in-None
returns-in-None c = all_zeros c.args.x.now (search rules)
