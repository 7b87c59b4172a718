-- `basis_bounds::below` meets its contract: each of the 119 numbers is tested.
use borrow.Author.Rules.{rules}
use Rattle.basis_bounds.proofs.Bounds.{below_decides}
use Rattle.basis_bounds.proofs.below.Goals as goal

pub returns : goal.returns
returns c = below_decides c.args.b (search rules) (search rules)
