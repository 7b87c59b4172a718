-- `book_put::put_line` meets its contract.
use Rattle.book_put.proofs.Lines.{line_put}
use Rattle.book_put.proofs.put_line.Goals as goal

pub returns : goal.returns
returns c = line_put _ _ _ _ _ _ _ _ c.put_four-x.ensures c.put_four.ensures
