-- `basis_accept::accepts` meets its contract: numbers below p, loaded into seven rows.
use mathlib.Core.Path.{◌≡◌}
use lib.ListN.{length}
use borrow.Author.Rules.{rules}
use Rattle.basis_accept.proofs.Accepting.{pass_in, accepts_as, not_below}
use Rattle.basis_accept.proofs.accepts.Goals as goal

pub passes-requires : goal.passes-requires
passes-requires c = pass_in c.if-below.true c.below.ensures c.unpacked.ensures c.requires

pub returns-then-below : goal.returns-then-below
returns-then-below c = let whole : length c.args.rows ≡ 119 = search rules in accepts_as c.if-below.true c.below.ensures c.unpacked.ensures whole _ c.passes.ensures

pub returns-else-below : goal.returns-else-below
returns-else-below c = not_below c.if-below.false c.below.ensures
