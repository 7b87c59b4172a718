-- `book_rule::first_at` meets its contract.
use Rattle.book_rule.proofs.Facts.{first_decided}
use Rattle.book_rule.proofs.first_at.Goals as goal

pub returns : goal.returns
returns c = first_decided c.args.s.now c.two-n.result _ _ c.two-n.ensures.0 c.item-top.ensures c.first_list.ensures
